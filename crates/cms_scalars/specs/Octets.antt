-- OCTET STRING, and how it is spelled (X.690, 8.7 and 10.2).
use Rattle.std.specs.Prelude.{ℕ, zero, suc, ◌+◌, List, [], ◌∷◌, ◌⊎◌}
use mathlib.Core.Logic.{inl, inr}
use Rattle.std.specs.List.{flat_map}
use Rattle.cms_tlv.specs.Headers.{AreOctets}
use Rattle.cms_tlv.specs.Spelling.{Rules, ber, minimal, der, Spelling, element, either, rows, join}
use Rattle.cms_fields.specs.Received.{as_received}
use Rattle.cms_scalars.specs.Image.{image}

--- `octets`: octets that spell themselves
abbrev pub octets : Spelling (List ℕ)
octets = as_received AreOctets

--- `one_part c`: `c` as the only part
abbrev pub one_part : List ℕ → List (List ℕ)
one_part c = c ∷ []

--- `of_either ps`: the parts of a string of either form
abbrev pub of_either : List (List ℕ) ⊎ List (List ℕ) → List (List ℕ)
of_either (inl ps) = ps
of_either (inr ps) = ps

--- `in_turn pss`: lists of parts, one after another
abbrev pub in_turn : {A : Type 0} → List (List A) → List A
in_turn pss = flat_map (λ ps. ps) pss

--- `string_parts m id S`: a string `id`, primitive or made of what `S` spells [X.690, 8.7.1]
--- | its parts are the contents octets of the primitive encodings, in their order [X.690, 8.7.3]
abbrev pub string_parts : Rules → ℕ → Spelling (List (List ℕ)) → Spelling (List (List ℕ))
string_parts m id S =
    image of_either (either (image one_part (element m id octets)) (element m (id + 0x20) S))

--- `segments m n`: OCTET STRINGs one after another [X.690, 8.7.3.2]
--- | with the encoding around them, at most `n` constructed encodings are inside one another [ours]
abbrev pub segments : Rules → ℕ → Spelling (List (List ℕ))
segments m zero c ps = ⊥
segments m (suc n) c ps = image in_turn (rows (string_parts m 0x04 (segments m n))) c ps

--- `octet_string_parts m id`: such a string, at most eight deep [X.690, 8.7; eight is ours]
unfoldable pub octet_string_parts : Rules → ℕ → Spelling (List (List ℕ))
octet_string_parts m id = string_parts m id (segments m 8)

--- `octet_string id m`: the parts joined; by DER, primitive [X.690, 8.7, 8.14.3, 10.2]
unfoldable pub octet_string : ℕ → Rules → Spelling (List ℕ)
octet_string id ber b v = image join (octet_string_parts ber id) b v
octet_string id minimal b v = image join (octet_string_parts minimal id) b v
octet_string id der b v = element der id octets b v
