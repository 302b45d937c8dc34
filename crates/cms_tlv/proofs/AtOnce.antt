-- Elements that were at hand, read at once.
use Rattle.std.proofs.Common.{◌≡◌, ◌≢◌, ℕ, zero, suc, ◌+◌, ◌-◌, ◌<◌, ◌≤◌, Bool, List, [], ◌∷◌, ◌++◌, length, map, Some, None, Ok, refl, sym, ap, subst, ◌∙◌, arith, append_assoc, length-append, true, false}
use Rattle.std.specs.Prelude.{◌==◌, ◌&&◌, if◌then◌else◌}
use Rattle.std.specs.List.{AllZip}
use Rattle.std.proofs.lemmas.Bool.Decides.{nat_tests}
use Rattle.std.proofs.lemmas.List.{append-nil, map-append}
use Rattle.cms_tlv.specs.declared.bound.Bound.{Bound}
use Rattle.cms_tlv.specs.Headers.{IsOctet}
use Rattle.cms_tlv.specs.Spelling.{join}
use Rattle.cms_tlv.specs.Clauses.{Room}
use Rattle.cms_tlv.specs.Law.{Moves}
use Rattle.cms_tlv.specs.State.{State, Adds}
use Rattle.cms_tlv.specs.Reading.{Cursor, Reader, then_read, ◌>>=◌, give, unless_end, peek_of, many_of, row_of}
use Rattle.cms_tlv.specs.Refines.{cursor, Simulates, Kept}
use Rattle.cms_tlv.proofs.Bind.{reaches_then, kept_then}
use Rattle.cms_tlv.proofs.ContentsGives.{adds_took, adds_moves}
use Rattle.cms_tlv.proofs.Ends.{peek_some}
use Rattle.cms_tlv.proofs.Inverse.{okay, bound_again}
use Rattle.cms_tlv.proofs.Loops.{HasRead, with_prefix, one_more}
use Rattle.cms_tlv.proofs.ReadingLaws.{midway, moved, moves_nothing, moves_prefix, moves_suffix, room_less, room_from}

-- octets in which the elements ws are spelled one after another, each by some of the octets
abbrev pub AreRead : {W : Type 0} → (Bound → Reader W) → Bound → List (List ℕ) → List W → Type 0
AreRead f bd bs ws =
    AllZip (λ b w. ((t : ℕ) × (r : List ℕ) × (b ≡ t ∷ r) × IsOctet t × (t ≢ 0))
    × ((c d : Cursor) → Moves c b d → Room bd.end c.limit c.at (length b) → f bd c ≡ Ok (w, d))) bs ws

module _ {W : Type 0} (f : Bound → Reader W) (bd : Bound) where
  row_read : (c d : Cursor) (w : W) → f bd c ≡ Ok (w, d) → row_of f tt bd c ≡ Ok ((tt, w), d)
  unfolding row_of
  row_read c d w e = bound_again (f bd) _ c w d e

  not_end : (i : Bool) (t : ℕ) → t ≢ 0 → unless_end i (Some t) ≡ Some t
  not_end i t h = let e : (t == 0) ≡ false = grind (arith, nat_tests) in ap (λ z. if z then None else Some t) (ap (λ z. i && z) e ∙ never i)
    where
      never : (i : Bool) → (i && false) ≡ false
      never true = refl
      never false = refl

  -- an octet that is there is seen
  pub sees : (c : Cursor) (t : ℕ) (r : List ℕ) → c.rest ≡ t ∷ r → IsOctet t → t ≢ 0 → Room bd.end c.limit c.at 1 → peek_of bd c ≡ Ok (Some t, c)
  sees c t r e o z room = peek_some bd c t r e o room ∙ ap (λ x. okay (x, c)) (not_end bd.indefinite t z)

  one_row : (left : ℕ) (b : List ℕ) (w : W) (c d : Cursor) (t : ℕ) (r : List ℕ) → b ≡ t ∷ r → IsOctet t → t ≢ 0 → Moves c b d
      → Room bd.end c.limit c.at (length b) → f bd c ≡ Ok (w, d)
      → many_of (suc left) (row_of f) tt bd c ≡ (many_of left (row_of f) tt bd >>= λ vs. give (w ∷ vs)) d
  unfolding many_of
  one_row left b w c d t r e o z m room g =
      let look = sees c t (r ++ d.rest) (m.rest ∙ ap (λ x. x ++ d.rest) e) o z (room_less bd.end c.limit c.at (length b) 1 (omega (arith, ap length e)) room) in
      bound_again (peek_of bd) _ c (Some t) c look ∙ bound_again (row_of f tt bd) _ c (tt, w) d (row_read c d w g)

  inside : (prefix : List W) (g h : Reader (List W)) (c d : Cursor) → g c ≡ h d → (g >>= with_prefix prefix) c ≡ (h >>= with_prefix prefix) d
  unfolding ◌>>=◌
  inside prefix g h c d e = ap (λ r. then_read r (with_prefix prefix)) e

  regrouped_row : (n : ℕ) (prefix : List W) (x : W) (c : Cursor)
      → ((many_of n (row_of f) tt bd >>= λ vs. give (x ∷ vs)) >>= with_prefix prefix) c
      ≡ (many_of n (row_of f) tt bd >>= with_prefix (prefix ++ x ∷ [])) c
  unfolding ◌>>=◌
  regrouped_row n prefix x c = one_more prefix x (many_of n (row_of f) tt bd c)

  rows_on : (bs : List (List ℕ)) (ws : List W) (left : ℕ) (prefix : List W) (c d : Cursor) → AreRead f bd bs ws → length bs ≤ left
      → Moves c (join bs) d → (0 < length (join bs) → Room bd.end c.limit c.at (length (join bs)))
      → (many_of (suc left) (row_of f) tt bd >>= with_prefix prefix) c
      ≡ (many_of (suc (left - length bs)) (row_of f) tt bd >>= with_prefix (prefix ++ ws)) d
  rows_on [] [] left prefix c d a l m room =
      let same : c ≡ d = moved (moves_nothing c) m m.rest in
      let n : left ≡ left - length {A = List ℕ} [] = omega arith in
      ap (λ p. (many_of (suc left) (row_of f) tt bd >>= with_prefix p) c) (sym (append-nil prefix))
      ∙ (ap (many_of (suc left) (row_of f) tt bd >>= with_prefix (prefix ++ [])) same
      ∙ ap (λ k. (many_of (suc k) (row_of f) tt bd >>= with_prefix (prefix ++ [])) d) n)
  rows_on [] (w ∷ ws) left prefix c d a l m room = absurd a
  rows_on (b ∷ bs) [] left prefix c d a l m room = absurd a
  rows_on (b ∷ bs) (w ∷ ws) zero prefix c d a l m room = absurd (omega arith)
  rows_on (b ∷ bs) (w ∷ ws) (suc left) prefix c d a l m room =
      let mid = midway c b (join bs) d in
      let to = moves_prefix b (join bs) m in
      let n = length-append b (join bs) in
      let fewer : left - length bs ≡ suc left - length (b ∷ bs) = omega arith in
      let begins = a.0.0 in
      let all : Room bd.end c.limit c.at (length (b ++ join bs)) = room (omega (arith, n, ap length begins.2)) in
      let fits : Room bd.end c.limit c.at (length b) = room_less bd.end c.limit c.at (length (b ++ join bs)) (length b) (omega (arith, n)) all in
      let first = one_row (suc left) b w c mid begins.0 begins.1 begins.2 begins.3 begins.4 to fits (a.0.1 c mid to fits) in
      let on =
      rows_on bs ws left (prefix ++ w ∷ []) mid d a.1 (omega arith) (moves_suffix b (join bs) m)
      (λ k. room_from bd.end c.limit c.at c.limit (c.at + length b) (length (b ++ join bs)) (length (join bs)) refl (omega (arith, n)) all) in
      inside prefix (many_of (suc (suc left)) (row_of f) tt bd) (many_of (suc left) (row_of f) tt bd >>= λ vs. give (w ∷ vs)) c mid first
      ∙ regrouped_row (suc left) prefix w mid
      ∙ on
      ∙ ap (λ p. (many_of (suc (left - length bs)) (row_of f) tt bd >>= with_prefix p) d) (append_assoc prefix (w ∷ []) ws)
      ∙ ap (λ k. (many_of (suc k) (row_of f) tt bd >>= with_prefix (prefix ++ w ∷ ws)) d) fewer

each_some : {W : Type 0} (f : Bound → Reader W) (bd : Bound) (bs : List (List ℕ)) (ws : List W) → AreRead f bd bs ws → length bs ≤ length (join bs)
each_some f bd [] ws a = omega arith
each_some f bd (b ∷ bs) [] a = absurd a
each_some f bd (b ∷ bs) (w ∷ ws) a = let k = each_some f bd bs ws a.1 in omega (arith, k, length-append b (join bs), ap length a.0.0.2)

-- elements that were at hand were read
pub more_at_once :
    {V W : Type 0} (view : State → V → W) (f : Bound → Reader W) (bd : Bound) {a b c : State} {xs : List V} (ys : List V)
    (bs : List (List ℕ)) → HasRead view (row_of f) tt bd a b tt xs → b.ahead ≡ None → c.ahead ≡ None → Adds b c (join bs)
    → AreRead f bd bs (map (view c) ys) → ((later : State) → Kept c later → map (view later) ys ≡ map (view c) ys)
    → (0 < length (join bs) → Room bd.end b.limit (length b.done) (length (join bs))) → HasRead view (row_of f) tt bd a c tt (xs ++ ys)
more_at_once view f bd {a = a} {b = b} {c = c} {xs = xs} ys bs h p q m r lasts room =
    let some = each_some f bd bs (map (view c) ys) r in
    let size = (adds_moves (join bs) [] p q m).at in
    let k : Kept b c = record { octets = join bs; done = m.done } in
    let before : map (view b) xs ≡ map (view c) xs = sym (h.lasts c k) in
    let so :
    Simulates (many_of (suc h.left) (row_of f) tt bd >>= with_prefix (map (view b) xs)) b
    (many_of (suc (h.left - length bs)) (row_of f) tt bd >>= with_prefix (map (view b) xs ++ map (view c) ys)) c = record {
      more = join bs;
      took = adds_took (join bs) h.sound p q m;
      refines =
          λ zs. rows_on f bd bs (map (view c) ys) h.left (map (view b) xs) (cursor b (join bs ++ zs)) (cursor c zs) r
          (few (length (join bs)) refl some) (adds_moves (join bs) zs p q m) room;
    } in
    let all : map (view b) xs ++ map (view c) ys ≡ map (view c) (xs ++ ys) = ap (λ z. z ++ map (view c) ys) before ∙ sym (map-append (view c) xs ys) in
    record {
      left = h.left - length bs;
      enough = omega (arith, size, h.enough, some, m.limit);
      sound = m.sound;
      so_far =
          reaches_then h.so_far (subst (λ z. Simulates (many_of (suc h.left) (row_of f) tt bd >>= with_prefix (map (view b) xs)) b
          (many_of (suc (h.left - length bs)) (row_of f) tt bd >>= with_prefix z) c) all so);
      lasts =
          λ d j. map-append (view d) xs ys ∙ (ap (λ z. z ++ map (view d) ys) (h.lasts d (kept_then k j))
          ∙ (ap (λ z. map (view b) xs ++ z) (lasts d j) ∙ all));
    }
  where
    few : (n : ℕ) → length (join bs) ≡ n → length bs ≤ length (join bs) → length bs ≤ h.left
    few zero e s = omega (arith, e, s)
    few (suc n) e s = let k = room (omega (arith, e)) in omega (arith, s, h.enough, k.1)
