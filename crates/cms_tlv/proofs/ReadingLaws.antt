-- What ties a reader to a spelling.
use Rattle.std.proofs.Common.{◌≡◌, ℕ, ◌+◌, ◌≤◌, Bool, true, false, List, [], ◌∷◌, ◌++◌, length, Option, Some, None, refl, sym, ap, ◌∙◌, arith, append_assoc, length-append}
use Rattle.cms_tlv.specs.Reading.{Cursor, place}
use Rattle.cms_tlv.specs.Clauses.{Room}
pub use Rattle.cms_tlv.specs.Law.{Moves, IsStrict, Follows, CutField, Reads, CutContents, EndedBy, Ended, ReadsTo}

pub moves_nothing : (c : Cursor) → Moves c [] c
moves_nothing c = record { rest = refl; at = omega arith; limit = refl }

pub moves_then : {c m d : Cursor} {a b : List ℕ} → Moves c a m → Moves m b d → Moves c (a ++ b) d
moves_then {d = d} {a = a} {b = b} p q = record {
  rest = p.rest ∙ ap (λ t. a ++ t) q.rest ∙ sym (append_assoc a b d.rest);
  at = omega (arith, p.at, q.at, length-append a b);
  limit = q.limit ∙ p.limit;
}

-- where the first part ends
abbrev pub midway : Cursor → List ℕ → List ℕ → Cursor → Cursor
midway c a b d = place (c.at + length a) c.limit (b ++ d.rest)

pub moves_prefix : {c d : Cursor} (a b : List ℕ) → Moves c (a ++ b) d → Moves c a (midway c a b d)
moves_prefix {d = d} a b p = record { rest = p.rest ∙ append_assoc a b d.rest; at = refl; limit = refl }

pub moves_suffix : {c d : Cursor} (a b : List ℕ) → Moves c (a ++ b) d → Moves (midway c a b d) b d
moves_suffix a b p = record { rest = refl; at = omega (arith, p.at, length-append a b); limit = p.limit }

pub moved : {c d e : Cursor} {b : List ℕ} → Moves c b d → Moves c b e → d.rest ≡ e.rest → d ≡ e
moved {d = d} {e = e} p q r =
    let a : d.at ≡ e.at = p.at ∙ sym q.at in
    let l : d.limit ≡ e.limit = p.limit ∙ sym q.limit in
    λ i. record { at = a i; limit = l i; rest = r i }

pub room_less : (end : Option ℕ) (limit at n m : ℕ) → m ≤ n → Room end limit at n → Room end limit at m
room_less None limit at n m h r = (tt, omega (arith, r.1))
room_less (Some e) limit at n m h r = (omega (arith, r.0), omega (arith, r.1))

-- as much room, from another place
pub room_from : (end : Option ℕ) (limit at limit' at' n n' : ℕ) → limit ≡ limit' → at' + n' ≤ at + n → Room end limit at n → Room end limit' at' n'
room_from None limit at limit' at' n n' l h r = (tt, omega (arith, r.1))
room_from (Some e) limit at limit' at' n n' l h r = (omega (arith, r.0), omega (arith, r.1))

-- the contents of which a prefix was read
pub ended_prefix : (i : Bool) (end : Option ℕ) (at at' : ℕ) (a b o : List ℕ) → at' ≡ at + length a → EndedBy i end at' b o → EndedBy i end at (a ++ b) (a ++ o)
ended_prefix true end at at' a b o e p = ap (λ t. a ++ t) p ∙ sym (append_assoc a b (0 ∷ 0 ∷ []))
ended_prefix false end at at' a b o e p =
    let n : at' + length b ≡ at + length (a ++ b) = omega (arith, e, length-append a b) in
    (ap (λ t. a ++ t) p.0, p.1 ∙ ap Some n)

-- what follows a prefix
pub record Behind (i : Bool) (end : Option ℕ) (at : ℕ) (a b o : List ℕ) : Type 0 where
  pub rest : List ℕ
  pub whole : o ≡ a ++ rest
  pub ended : EndedBy i end (at + length a) b rest

pub ended_suffix : (i : Bool) (end : Option ℕ) (at : ℕ) (a b o : List ℕ) → EndedBy i end at (a ++ b) o → Behind i end at a b o
ended_suffix true end at a b o p = record { rest = b ++ (0 ∷ 0 ∷ []); whole = p ∙ append_assoc a b (0 ∷ 0 ∷ []); ended = refl }
ended_suffix false end at a b o p =
    let n : at + length (a ++ b) ≡ at + length a + length b = omega (arith, length-append a b) in
    record { rest = b; whole = p.0; ended = (refl, p.1 ∙ ap Some n) }
