-- Primitive elements one after another, whose lengths are one octet, and where their contents lie.
use Rattle.std.specs.Prelude.{◌≡◌, ℕ, ◌+◌, ◌<◌, List, [], ◌∷◌, ◌++◌, length, map}
use Rattle.std.specs.List.{AllByRecursion}
use Rattle.cms_tlv.specs.declared.bound.Bound.{Bound}
use Rattle.cms_tlv.specs.declared.span.Span.{Span}
use Rattle.cms_tlv.specs.Headers.{AreOctets}
use Rattle.cms_tlv.specs.Clauses.{Room}
use Rattle.cms_tlv.specs.Spelling.{join}
use Rattle.cms_tlv.specs.State.{State, Adds}

-- contents whose length is one octet (X.690, 8.1.3.4)
abbrev pub HasShortForm : List ℕ → Type 0
HasShortForm c = (length c < 128) × AreOctets c

-- the elements with the identifier octet id and these contents
abbrev pub short_primitives : ℕ → List (List ℕ) → List ℕ
short_primitives id cs = join (map (λ c. id ∷ length c ∷ c) cs)

-- where their contents lie if the first of the elements begins at the place at
abbrev pub contents_from : ℕ → List (List ℕ) → List Span
contents_from at [] = []
contents_from at (c ∷ cs) =
    record { start = at + 2; end = at + 2 + length c } ∷ contents_from (at + 2 + length c) cs

-- octets that begin with such an element, whose contents are len octets, and what follows it
pub record BeginsWithPrimitive (id : ℕ) (octets : List ℕ) (len : ℕ) (behind : List ℕ) : Type 0 where
  pub contents : List ℕ
  pub parts : octets ≡ id ∷ length contents ∷ (contents ++ behind)
  pub counted : len ≡ length contents
  pub is_short : HasShortForm contents

-- the octets from the place at on are such elements, and where their contents lie was added
pub record PassesPrimitives (id at : ℕ) (before after : List Span) (octets : List ℕ) : Type 0 where
  pub contents : List (List ℕ)
  pub are_short : AllByRecursion HasShortForm contents
  pub are : octets ≡ short_primitives id contents
  pub spans : after ≡ before ++ contents_from at contents

-- such elements were taken, which have room
pub record TakesPrimitives (id : ℕ) (bd : Bound) (before after : List Span)
    (old new : State) : Type 0 where
  pub octets : List ℕ
  pub passes : PassesPrimitives id (length old.done) before after octets
  pub adds : Adds old new octets
  pub fits : 0 < length octets → Room bd.end old.limit (length old.done) (length octets)
