-- Sets that have a member.
use Rattle.std.proofs.Common.{◌≡◌, ◌≢◌, ℕ, ◌+◌, List, [], ◌∷◌, map, Bool, true, false, cond, refl, ap, arith}
use Rattle.std.specs.Prelude.{◌↔◌, IsTrue, count_by}
use Rattle.std.specs.Cmp.{IsEquivalence}
use Rattle.cms_setof.specs.Same.{same_members}
use Rattle.cms_setof.specs.Readers.{has_member}
use Rattle.cms_setof.proofs.SameLaws.{counts, count_more}

pub some_member : {V : Type 0} (vs : List V) → has_member vs ≡ true → vs ≢ []
some_member [] t e = absurd cc
some_member (v ∷ vs) t e = absurd cc

pub member_some : {V : Type 0} (vs : List V) → vs ≢ [] → has_member vs ≡ true
member_some [] n = absurd (n refl)
member_some (v ∷ vs) n = refl

-- the same set has a member too
pub keeps_member : {V : Type 0} {s : V → V → Bool} → IsEquivalence s → (vs : List V) → vs ≢ [] → (ws : List V) → same_members s vs ws ≡ true → ws ≢ []
keeps_member k [] n ws e p = absurd (n refl)
keeps_member {s = s} k (v ∷ vs) n ws e p =
    let one : count_by (s v) (v ∷ vs) ≡ cond {A = ℕ} (s v v) 1 0 + count_by (s v) vs = count_more k v v vs in
    let itself : cond {A = ℕ} (s v v) 1 0 ≡ 1 = ap (λ (b : Bool). cond {A = ℕ} b 1 0) (k.refl v) in
    let alike : count_by (s v) (v ∷ vs) ≡ count_by (s v) ws = counts k (v ∷ vs) ws e v in
    let none : count_by (s v) ws ≡ 0 = ap (count_by (s v)) p in
    absurd (omega (arith, one, itself, alike, none))

pub test_passes : {X V : Type 0} (f : X → V) (xs : List X) (b : Bool) → b ≡ false → (IsTrue b ↔ (xs ≡ [])) → has_member (map f xs) ≡ true
test_passes f [] false e k = absurd (let h : false ≡ true = k.1 refl in cc)
test_passes f [] true e k = absurd cc
test_passes f (x ∷ xs) b e k = refl

pub test_refuses : {X V : Type 0} (f : X → V) (xs : List X) (b : Bool) → b ≡ true → (IsTrue b ↔ (xs ≡ [])) → has_member (map f xs) ≡ false
test_refuses f [] b e k = refl
test_refuses f (x ∷ xs) true e k = absurd (let h : x ∷ xs ≡ [] = k.0 refl in cc)
test_refuses f (x ∷ xs) false e k = absurd cc
