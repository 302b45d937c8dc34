-- A record whose first field says what follows it.
use Rattle.std.specs.Prelude.{ℕ, List, [], ◌∷◌, Bool, bytes_eq, ◌⊎◌}
use Rattle.cms_tlv.specs.declared.fault.Reason.TheVariants.{IntegerMalformed}
use Rattle.cms_fields.specs.Grammar.{Grammar, tagged, last, selected}
use Rattle.cms_scalars.specs.Grammar.{object_identifier_type, named_bits_type}
use Rattle.cms_scalars.specs.Scalars.{IsInteger}
use Rattle.cms_scalars.specs.Readers.{is_integer}

-- the contents octets of the INTEGER 1
abbrev pub is_one : List ℕ → Bool
is_one c = bytes_eq c (1 ∷ [])

-- the kind, by its contents octets; bits, or an OBJECT IDENTIFIER by its contents octets
abbrev pub Chosen : Type 0
Chosen = List ℕ × (List ℕ ⊎ List ℕ)

-- SEQUENCE (30): kind, an INTEGER; a BIT STRING with named bits if that is 1, else an OBJECT
-- IDENTIFIER
abbrev pub chosen : Grammar Chosen
chosen = tagged 0x30
    (selected 0x02 IsInteger is_integer IntegerMalformed is_one (last named_bits_type)
    (last object_identifier_type))
