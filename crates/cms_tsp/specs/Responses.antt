-- TimeStampResp (RFC 3161, 2.4.2).
use Rattle.std.specs.Prelude.{ℕ, List, [], ◌∷◌, Bool, Option, bytes_eq, ◌||◌, ◌==◌}
use Rattle.std.specs.Option.{is_some}
use mathlib.Core.Bool.{beq}
use Rattle.cms_fields.specs.Grammar.{Grammar, tagged, opaque_among, then_by, optional_then}
use Rattle.cms_fields.specs.Grammar.{last_optional}
use Rattle.cms_scalars.specs.Grammar.{integer_type, named_bits_type}
use Rattle.cms_message.specs.ContentInfo.{ContentInfo, content_info}

--- `is_pki_free_text t`: `t` is 30, the identifier octet of statusString [RFC 3161, 2.4.2]
abbrev pub is_pki_free_text : ℕ → Bool
is_pki_free_text t = t == 0x30

--- `PkiStatusInfo`: the value of a PKIStatusInfo [RFC 3161, 2.4.2]
abbrev pub PkiStatusInfo : Type 0
PkiStatusInfo = List ℕ × (Option (List ℕ) × Option (List ℕ))

--- `status`, `status_string`, `fail_info`: its parts [RFC 3161, 2.4.2]
abbrev pub status : PkiStatusInfo → List ℕ
status v = v.0

-- statusString of a PKIStatusInfo
abbrev pub status_string : PkiStatusInfo → Option (List ℕ)
status_string v = v.1.0

abbrev pub fail_info : PkiStatusInfo → Option (List ℕ)
fail_info v = v.1.1

-- PKIStatusInfo ::= SEQUENCE { status PKIStatus, statusString PKIFreeText OPTIONAL, failInfo
-- PKIFailureInfo OPTIONAL }
--- `pki_status_info`: 30 with these; statusString is opaque, failInfo named bits [RFC 3161, 2.4.2]
abbrev pub pki_status_info : Grammar PkiStatusInfo
pki_status_info =
    tagged 0x30 (then_by integer_type
    (optional_then (opaque_among is_pki_free_text) (last_optional named_bits_type)))

--- `TimeStampResp`: the value of a TimeStampResp [RFC 3161, 2.4.2]
abbrev pub TimeStampResp : Type 0
TimeStampResp = PkiStatusInfo × Option ContentInfo

--- `status_info v`: status of a TimeStampResp [RFC 3161, 2.4.2]
abbrev pub status_info : TimeStampResp → PkiStatusInfo
status_info v = v.0

--- `token v`: timeStampToken of a TimeStampResp [RFC 3161, 2.4.2]
abbrev pub token : TimeStampResp → Option ContentInfo
token v = v.1

-- TimeStampResp ::= SEQUENCE { status PKIStatusInfo, timeStampToken TimeStampToken OPTIONAL }
--- `time_stamp_resp_fields`: its fields; a TimeStampToken is a ContentInfo [RFC 3161, 2.4.2]
abbrev pub time_stamp_resp_fields : Grammar TimeStampResp
time_stamp_resp_fields = then_by pki_status_info (last_optional content_info)

--- `time_stamp_resp`: 30 with these fields as its contents [RFC 3161, 2.4.2]
abbrev pub time_stamp_resp : Grammar TimeStampResp
time_stamp_resp = tagged 0x30 time_stamp_resp_fields

--- `status_agrees v`: there is a token if and only if the status is 0 or 1 [RFC 3161, 2.4.2]
abbrev pub status_agrees : TimeStampResp → Bool
status_agrees v =
    beq (is_some (token v))
    (bytes_eq (status (status_info v)) (0 ∷ []) || bytes_eq (status (status_info v)) (1 ∷ []))
