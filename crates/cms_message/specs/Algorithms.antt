-- AlgorithmIdentifier (RFC 5652, 10.1, from RFC 5280, 4.1.1.2).
use Rattle.std.specs.Prelude.{List, ℕ, Option}
use Rattle.cms_fields.specs.Grammar.{Grammar, tagged, opaque_element, then_by, last_optional}
use Rattle.cms_scalars.specs.Grammar.{object_identifier_type}

--- `AlgorithmIdentifier`: the algorithm, and its parameters, opaque, or none [RFC 5652, 10.1]
abbrev pub AlgorithmIdentifier : Type 0
AlgorithmIdentifier = List ℕ × Option (List ℕ)

--- `algorithm`, `parameters`: its parts [RFC 5652, 10.1]
abbrev pub algorithm : AlgorithmIdentifier → List ℕ
algorithm v = v.0

-- parameters of an AlgorithmIdentifier
abbrev pub parameters : AlgorithmIdentifier → Option (List ℕ)
parameters v = v.1

-- AlgorithmIdentifier ::= SEQUENCE { algorithm OBJECT IDENTIFIER, parameters ANY DEFINED BY
-- algorithm OPTIONAL }
--- `algorithm_identifier`: 30 with these as its contents [RFC 5280, 4.1.1.2]
abbrev pub algorithm_identifier : Grammar AlgorithmIdentifier
algorithm_identifier = tagged 0x30 (then_by object_identifier_type (last_optional opaque_element))
