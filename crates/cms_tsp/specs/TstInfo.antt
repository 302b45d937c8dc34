-- TSTInfo, which is by DER (RFC 3161, 2.4.2).
use Rattle.std.specs.Prelude.{◌≡◌, ◌==◌, ℕ, List, Option, Some, None, Bool}
use Rattle.std.specs.Option.{is_some}
use Rattle.cms_tlv.specs.Spelling.{der, Spelling, element, ◌⨟◌, optional}
use Rattle.cms_fields.specs.Received.{as_received, IsOpaqueAmong}
use Rattle.cms_scalars.specs.Scalars.{integer, object_identifier}
use Rattle.cms_scalars.specs.Grammar.{integer_in_range_type}
use Rattle.cms_scalars.specs.Booleans.{IsTrueInDer}
use Rattle.cms_scalars.specs.Times.{generalized_time}
use Rattle.cms_tsp.specs.Requests.{MessageImprint, message_imprint}

--- `Accuracy`: the value of an Accuracy [RFC 3161, 2.4.2]
abbrev pub Accuracy : Type 0
Accuracy = Option (List ℕ) × (Option (List ℕ) × Option (List ℕ))

--- `seconds`, `millis`, `micros`: its fields [RFC 3161, 2.4.2]
abbrev pub seconds : Accuracy → Option (List ℕ)
seconds v = v.0

abbrev pub millis : Accuracy → Option (List ℕ)
millis v = v.1.0

abbrev pub micros : Accuracy → Option (List ℕ)
micros v = v.1.1

-- Accuracy ::= SEQUENCE { seconds INTEGER OPTIONAL, millis [0] INTEGER (1..999) OPTIONAL,
--   micros [1] INTEGER (1..999) OPTIONAL }
--- `accuracy`: 30 with these as its contents, by DER [RFC 3161, 2.4.2]
abbrev pub accuracy : Spelling Accuracy
accuracy = element der 0x30 (
    optional (integer der)
    ⨟ optional ((integer_in_range_type 0x80 1 999).spelled der)
    ⨟ optional ((integer_in_range_type 0x81 1 999).spelled der))

--- `TstInfo`: the value of a TSTInfo [RFC 3161, 2.4.2]
abbrev pub TstInfo : Type 0
TstInfo = List ℕ
    × (List ℕ × (MessageImprint
    × (List ℕ × (List ℕ
    × (Option Accuracy
    × (Option (List ℕ) × (Option (List ℕ) × (Option (List ℕ) × Option (List ℕ)))))))))

--- `tst_version`, `policy`, `tst_imprint`, `serial_number`, `gen_time`: its first fields
---   [RFC 3161, 2.4.2]
abbrev pub tst_version : TstInfo → List ℕ
tst_version v = v.0

abbrev pub policy : TstInfo → List ℕ
policy v = v.1.0

-- messageImprint of a TSTInfo
abbrev pub tst_imprint : TstInfo → MessageImprint
tst_imprint v = v.1.1.0

abbrev pub serial_number : TstInfo → List ℕ
serial_number v = v.1.1.1.0

abbrev pub gen_time : TstInfo → List ℕ
gen_time v = v.1.1.1.1.0

--- `tst_accuracy`, `ordering`, `tst_nonce`, `tsa`, `tst_extensions`: its other fields
---   [RFC 3161, 2.4.2]
abbrev pub tst_accuracy : TstInfo → Option Accuracy
tst_accuracy v = v.1.1.1.1.1.0

-- whether it is TRUE
abbrev pub ordering : TstInfo → Bool
ordering v = is_some v.1.1.1.1.1.1.0

abbrev pub tst_nonce : TstInfo → Option (List ℕ)
tst_nonce v = v.1.1.1.1.1.1.1.0

abbrev pub tsa : TstInfo → Option (List ℕ)
tsa v = v.1.1.1.1.1.1.1.1.0

abbrev pub tst_extensions : TstInfo → Option (List ℕ)
tst_extensions v = v.1.1.1.1.1.1.1.1.1

-- TSTInfo ::= SEQUENCE {
--   version INTEGER,
--   policy TSAPolicyId,
--   messageImprint MessageImprint,
--   serialNumber INTEGER,
--   genTime GeneralizedTime,
--   accuracy Accuracy OPTIONAL,
--   ordering BOOLEAN DEFAULT FALSE,
--   nonce INTEGER OPTIONAL,
--   tsa [0] GeneralName OPTIONAL,
--   extensions [1] IMPLICIT Extensions OPTIONAL }
--- `tst_info`: 30 with these as its contents, by DER: no ordering if it is FALSE [RFC 3161, 2.4.2]
abbrev pub tst_info : Spelling TstInfo
tst_info = element der 0x30 (
    integer der
    ⨟ object_identifier der
    ⨟ message_imprint.spelled der
    ⨟ integer der
    ⨟ generalized_time der
    ⨟ optional accuracy
    ⨟ optional (element der 0x01 (as_received IsTrueInDer))
    ⨟ optional (integer der)
    ⨟ optional (as_received (IsOpaqueAmong (λ t. t == 0xa0)))
    ⨟ optional (as_received (IsOpaqueAmong (λ t. t == 0xa1))))

--- `IsTstInfoOf c read`: what octets are, if they are given: a TSTInfo in DER, or none [ours]
abbrev pub IsTstInfoOf : Option (List ℕ) → Option TstInfo → Type 0
IsTstInfoOf None read = read ≡ None
IsTstInfoOf (Some c) (Some t) = tst_info c t
IsTstInfoOf (Some c) None = (t : TstInfo) → tst_info c t → ⊥
