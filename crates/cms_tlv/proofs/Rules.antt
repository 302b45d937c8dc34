-- The rules that a bound asks for.
use Rattle.std.proofs.Common.{◌≢◌, Bool, true, false, refl}
use Rattle.cms_tlv.specs.Spelling.{der}
use Rattle.cms_tlv.specs.declared.bound.Bound.{Bound}
use Rattle.cms_tlv.specs.Law.{rules_of, IsStrict, Follows}

pub follows : (bd : Bound) → Follows (rules_of bd.strict) bd
follows bd = by bd.strict
  where
    by : (strict : Bool) → IsStrict (rules_of strict) strict
    by false = refl
    by true = refl

-- a bound by itself does not ask for DER
pub not_der : (strict : Bool) → rules_of strict ≢ der
not_der false e = absurd cc
not_der true e = absurd cc
