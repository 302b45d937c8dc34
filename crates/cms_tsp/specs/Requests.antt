-- TimeStampReq (RFC 3161, 2.4.1).
use Rattle.std.specs.Prelude.{ℕ, List, Bool, Option, ◌==◌}
use Rattle.cms_fields.specs.Grammar.{Grammar, tagged, opaque_among, then_by, optional_then, last}
use Rattle.cms_fields.specs.Grammar.{last_optional}
use Rattle.cms_scalars.specs.Grammar.{integer_type, object_identifier_type, octet_string_type}
use Rattle.cms_scalars.specs.Grammar.{default_false_then}
use Rattle.cms_message.specs.Algorithms.{AlgorithmIdentifier, algorithm_identifier}

--- `MessageImprint`: the value of a MessageImprint [RFC 3161, 2.4.1]
abbrev pub MessageImprint : Type 0
MessageImprint = AlgorithmIdentifier × List ℕ

--- `hash_algorithm v`: hashAlgorithm of a MessageImprint [RFC 3161, 2.4.1]
abbrev pub hash_algorithm : MessageImprint → AlgorithmIdentifier
hash_algorithm v = v.0

--- `hashed_message v`: hashedMessage of a MessageImprint [RFC 3161, 2.4.1]
abbrev pub hashed_message : MessageImprint → List ℕ
hashed_message v = v.1

-- MessageImprint ::= SEQUENCE { hashAlgorithm AlgorithmIdentifier, hashedMessage OCTET STRING }
--- `message_imprint`: 30 with these as its contents [RFC 3161, 2.4.1]
abbrev pub message_imprint : Grammar MessageImprint
message_imprint = tagged 0x30 (then_by algorithm_identifier (last (octet_string_type 0x04)))

--- `is_extensions t`: `t` is A0, the identifier octet of extensions [RFC 3161, 2.4.1]
abbrev pub is_extensions : ℕ → Bool
is_extensions t = t == 0xa0

--- `TimeStampReq`: the value of a TimeStampReq [RFC 3161, 2.4.1]
abbrev pub TimeStampReq : Type 0
TimeStampReq = List ℕ
    × (MessageImprint × (Option (List ℕ) × (Option (List ℕ) × (Bool × Option (List ℕ)))))

--- `req_version`, `imprint`, `req_policy`, `nonce`, `cert_req`, `extensions`: its fields
---   [RFC 3161, 2.4.1]
abbrev pub req_version : TimeStampReq → List ℕ
req_version v = v.0

-- messageImprint of a TimeStampReq
abbrev pub imprint : TimeStampReq → MessageImprint
imprint v = v.1.0

abbrev pub req_policy : TimeStampReq → Option (List ℕ)
req_policy v = v.1.1.0

abbrev pub nonce : TimeStampReq → Option (List ℕ)
nonce v = v.1.1.1.0

abbrev pub cert_req : TimeStampReq → Bool
cert_req v = v.1.1.1.1.0

-- extensions of a TimeStampReq
abbrev pub extensions : TimeStampReq → Option (List ℕ)
extensions v = v.1.1.1.1.1

-- TimeStampReq ::= SEQUENCE {
--   version INTEGER,
--   messageImprint MessageImprint,
--   reqPolicy TSAPolicyId OPTIONAL,
--   nonce INTEGER OPTIONAL,
--   certReq BOOLEAN DEFAULT FALSE,
--   extensions [0] IMPLICIT Extensions OPTIONAL }
--- `after_version`: its fields after version [RFC 3161, 2.4.1]
abbrev pub after_version : Grammar
    (MessageImprint × (Option (List ℕ) × (Option (List ℕ) × (Bool × Option (List ℕ)))))
after_version =
    then_by message_imprint
    (optional_then object_identifier_type
    (optional_then integer_type
    (default_false_then
    (last_optional (opaque_among is_extensions)))))

--- `time_stamp_req_fields`: all of them [RFC 3161, 2.4.1]
abbrev pub time_stamp_req_fields : Grammar TimeStampReq
time_stamp_req_fields = then_by integer_type after_version

--- `time_stamp_req`: 30 with these as its contents [RFC 3161, 2.4.1]
abbrev pub time_stamp_req : Grammar TimeStampReq
time_stamp_req = tagged 0x30 time_stamp_req_fields
