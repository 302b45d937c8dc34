-- The fields of records, by their spans; and what is kept of a TSTInfo.
use Rattle.std.specs.Prelude.{ℕ, List, Option}
use Rattle.cms_fields.specs.declared.among.Only.{Only}
use Rattle.cms_fields.specs.declared.among.OpaqueAmong.{OpaqueAmong}
use Rattle.cms_scalars.specs.declared.defaults.DefaultFalseThen.{DefaultFalseThen}
use Rattle.cms_scalars.specs.Times.{Time, IsTimeOf, time_digits, time_fraction}
use Rattle.cms_tsp.specs.declared.request.TimeStampReqTail.{TimeStampReqTail}
use Rattle.cms_tsp.specs.TstInfo.{TstInfo, tst_info, gen_time}

--- `after_nonce x`, in `Spans.antt`: the fields after nonce, by their spans [RFC 3161, 2.4.1]
abbrev pub after_nonce : TimeStampReqTail → DefaultFalseThen (Option (OpaqueAmong (Only 0xa0)))
after_nonce x = x.0.1.1.1

-- octets that are a TSTInfo, with its time
pub record KeepsTstInfo (c : List ℕ) (t : TstInfo) (time : Time) : Type 0 where
  pub is : tst_info c t
  pub time_is : IsTimeOf (gen_time t) (time_digits time) (time_fraction time)
