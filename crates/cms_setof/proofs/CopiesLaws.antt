-- Encodings of which more and more is copied.
use Rattle.std.proofs.Common.{◌≡◌, ℕ, List, [], ◌∷◌, ◌++◌, map, refl, sym, ◌∙◌, ap, subst}
use Rattle.cms_fields.specs.Assembly.{Marked, Origin, marked, copied, unmarked}
use Rattle.cms_setof.specs.Copies.{CopiesMore}

pub copies_same : (ms : List Marked) → CopiesMore ms ms
copies_same [] = tt
copies_same (m ∷ ms) = ((refl, λ e. e), copies_same ms)

pub copies_through : (ms ns os : List Marked) → CopiesMore ms ns → CopiesMore ns os → CopiesMore ms os
copies_through [] [] [] h g = tt
copies_through [] [] (o ∷ os) h g = absurd g
copies_through [] (n ∷ ns) os h g = absurd h
copies_through (m ∷ ms) [] os h g = absurd h
copies_through (m ∷ ms) (n ∷ ns) [] h g = absurd g
copies_through (m ∷ ms) (n ∷ ns) (o ∷ os) h g = ((h.0.0 ∙ g.0.0, λ e. g.0.1 (h.0.1 e)), copies_through ms ns os h.1 g.1)

pub copies_octets : (ms ns : List Marked) → CopiesMore ms ns → unmarked ms ≡ unmarked ns
copies_octets [] [] h = refl
copies_octets [] (n ∷ ns) h = absurd h
copies_octets (m ∷ ms) [] h = absurd h
copies_octets (m ∷ ms) (n ∷ ns) h = ap (λ z. z ∷ unmarked ms) h.0.0 ∙ ap (λ z. n.0 ∷ z) (copies_octets ms ns h.1)

-- all octets copied
pub copies_all : (ms : List Marked) → CopiesMore ms (marked copied (unmarked ms))
copies_all [] = tt
copies_all (m ∷ ms) = ((refl, λ e. refl), copies_all ms)

pub copies_whole : (ms : List Marked) (octets : List ℕ) → unmarked ms ≡ octets → CopiesMore ms (marked copied octets)
copies_whole ms octets e = subst (λ z. CopiesMore ms (marked copied z)) e (copies_all ms)

-- one after another
pub copies_both : (ms ns ps qs : List Marked) → CopiesMore ms ns → CopiesMore ps qs → CopiesMore (ms ++ ps) (ns ++ qs)
copies_both [] [] ps qs h g = g
copies_both [] (n ∷ ns) ps qs h g = absurd h
copies_both (m ∷ ms) [] ps qs h g = absurd h
copies_both (m ∷ ms) (n ∷ ns) ps qs h g = (h.0, copies_both ms ns ps qs h.1 g)
