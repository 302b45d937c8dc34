-- Octets with their origins, one after another.
use Rattle.std.proofs.Common.{◌≡◌, ℕ, List, [], ◌∷◌, ◌++◌, length, map, refl, ◌∙◌, ap}
use Rattle.std.proofs.lemmas.List.{map-append, length-map}
use Rattle.cms_tlv.specs.Spelling.{join}
use Rattle.cms_fields.specs.Assembly.{Origin, Marked, marked, unmarked, join_marked}

pub octets_marked : (o : Origin) (b : List ℕ) → unmarked (marked o b) ≡ b
octets_marked o [] = refl
octets_marked o (x ∷ xs) = ap (λ z. x ∷ z) (octets_marked o xs)

pub octets_both : (p q : List Marked) → unmarked (p ++ q) ≡ unmarked p ++ unmarked q
octets_both p q = map-append (λ (m : Marked). m.0) p q

pub marked_both : (o : Origin) (p q : List ℕ) → marked o (p ++ q) ≡ marked o p ++ marked o q
marked_both o p q = map-append (λ x. (x, o)) p q

pub octets_joined : (mss : List (List Marked)) → unmarked (join_marked mss) ≡ join (map unmarked mss)
octets_joined [] = refl
octets_joined (ms ∷ mss) = octets_both ms (join_marked mss) ∙ ap (λ z. unmarked ms ++ z) (octets_joined mss)

pub length_octets : (ms : List Marked) → length (unmarked ms) ≡ length ms
length_octets ms = length-map ms (λ (m : Marked). m.0)

pub length_marked : (o : Origin) (b : List ℕ) → length (marked o b) ≡ length b
length_marked o b = length-map b (λ x. (x, o))
