-- Elements to the end, in a loop.
use Rattle.std.proofs.Common.{inl, ◌≡◌, ℕ, zero, suc, ◌+◌, ◌-◌, ◌<◌, ◌≤◌, List, [], ◌∷◌, ◌++◌, length, map, Option, Some, None, Result, Ok, Err, refl, sym, ap, subst, ◌∙◌, arith, append_assoc, true, false}
use Rattle.std.proofs.lemmas.List.{append-nil}
use Rattle.cms_tlv.specs.declared.fault.Fault.{Fault}
use Rattle.cms_tlv.specs.declared.fault.Fault.TheVariants as faults
use Rattle.cms_tlv.specs.declared.bound.Bound.{Bound}
use Rattle.cms_tlv.specs.declared.fault.Reason.TheVariants.{SignedAttrsNotDer}
use Rattle.cms_tlv.specs.declared.span.Span.{Span}
use Rattle.cms_tlv.specs.State.{State, position}
use Rattle.cms_tlv.specs.Reading.{Cursor, Stop, Reader, then_read, ◌>>=◌, give, peek_of, close_of, many_of, all_by, row_of, taking, may_follow, member_of}
use Rattle.cms_tlv.specs.Refines.{cursor, Simulates, Kept, RefinesWithValue, Failed, plain, seen}
use Rattle.cms_tlv.proofs.Bind.{reaches_same, reaches_then, reaches_bind, then_reaches, reaches_inside, fails, fails_then, gave, kept_by, kept_then}
use Rattle.cms_tlv.proofs.Steps.{Advance-fault, with_fault, not_read}
use Rattle.cms_tlv.proofs.Ends.{peek_room}
use Rattle.cms_tlv.proofs.Judged.{judged_passes, judged_refuses}

-- these stand before what is still read
unfoldable pub with_prefix : {W : Type 0} → List W → List W → Reader (List W)
with_prefix prefix xs = give (prefix ++ xs)

no_prefix : {W : Type 0} (r : Result (List W × Cursor) Stop) → r ≡ then_read r (with_prefix [])
unfolding with_prefix
no_prefix (Ok p) = refl
no_prefix (Err e) = refl

pub one_more : {W : Type 0} (prefix : List W) (x : W) (r : Result (List W × Cursor) Stop)
    → then_read (then_read r (λ xs. give (x ∷ xs))) (with_prefix prefix) ≡ then_read r (with_prefix (prefix ++ x ∷ []))
unfolding with_prefix
one_more prefix x (Ok p) = ap (λ t. Ok (t, p.1)) (sym (append_assoc prefix (x ∷ []) p.0))
one_more prefix x (Err e) = refl

-- elements vs were read, and more may follow by what they left
pub record HasRead {S V W : Type 0} (view : State → V → W) (f : S → Bound → Reader (S × W)) (from : S) (bd : Bound) (s0 s1 : State)
    (now : S) (vs : List V) : Type 0 where
  pub left : ℕ
  pub enough : s1.limit ≤ length s1.done + left
  pub sound : s1.fault ≡ None
  pub so_far : Simulates (all_by f from bd) s0 (many_of (suc left) f now bd >>= with_prefix (map (view s1) vs)) s1
  pub lasts : (later : State) → Kept s1 later → map (view later) vs ≡ map (view s1) vs

-- nothing more, behind what stands before
ends : {W : Type 0} (prefix : List W) (s : State) → Simulates (give [] >>= with_prefix prefix) s (give (prefix ++ [])) s
unfolding with_prefix ◌>>=◌
ends prefix s = reaches_same s (λ ys. refl)

module _ {S V W : Type 0} (view : State → V → W) (f : S → Bound → Reader (S × W)) (from : S) (bd : Bound) where
  pub none_read : (s : State) → s.fault ≡ None → HasRead view f from bd s s from []
  unfolding all_by ◌>>=◌
  none_read s h = record {
    left = s.limit - length s.done;
    enough = omega arith;
    sound = h;
    so_far = reaches_same s (λ ys. no_prefix (many_of (suc (s.limit - length s.done)) f from bd (cursor s ys)));
    lasts = λ d k. refl;
  }

  abbrev element : ℕ → S → Reader (List W)
  element n now = f now bd >>= λ p. many_of n f p.0 bd >>= λ vs. give (p.1 ∷ vs)

  more_left : (n : ℕ) (now : S) (s1 s2 : State) (t : ℕ) → RefinesWithValue plain (peek_of bd) s1 s2 (Some t)
      → Simulates (many_of (suc n) f now bd) s1 (element n now) s2
  unfolding many_of
  more_left n now s1 s2 t g = reaches_bind _ g.reaches

  none_left : (n : ℕ) (now : S) (s1 s2 : State) → RefinesWithValue plain (peek_of bd) s1 s2 None
      → Simulates (many_of (suc n) f now bd) s1 (close_of bd >>= λ u. give []) s2
  unfolding many_of
  none_left n now s1 s2 g = reaches_bind _ g.reaches

  peek_stops : (n : ℕ) (now : S) (s1 s2 : State) (e : Fault) → Failed (peek_of bd) s1 s2 e → Failed (many_of (suc n) f now bd) s1 s2 e
  unfolding many_of
  peek_stops n now s1 s2 e g = fails _ g

  pub peek_fails : (s0 s1 s2 : State) (now : S) (vs : List V) (e : Fault) → HasRead view f from bd s0 s1 now vs
      → Failed (peek_of bd) s1 s2 e → Failed (all_by f from bd) s0 s2 e
  peek_fails s0 s1 s2 now vs e p g = fails_then p.so_far (fails _ (peek_stops p.left now s1 s2 e g))

  pub element_fails : (s0 s1 s2 s3 : State) (now : S) (vs : List V) (t : ℕ) (e : Fault) → HasRead view f from bd s0 s1 now vs
      → RefinesWithValue plain (peek_of bd) s1 s2 (Some t) → Failed (f now bd) s2 s3 e → Failed (all_by f from bd) s0 s3 e
  element_fails s0 s1 s2 s3 now vs t e p g q = fails_then p.so_far (fails_then (reaches_inside _ (more_left p.left now s1 s2 t g)) (fails _ (fails _ q)))

  pub close_fails : (s0 s1 s2 s3 : State) (now : S) (vs : List V) (e : Fault) → HasRead view f from bd s0 s1 now vs
      → RefinesWithValue plain (peek_of bd) s1 s2 None → Failed (close_of bd) s2 s3 e → Failed (all_by f from bd) s0 s3 e
  close_fails s0 s1 s2 s3 now vs e p g q = fails_then p.so_far (fails_then (reaches_inside _ (none_left p.left now s1 s2 g)) (fails _ (fails _ q)))

  regrouped : (n : ℕ) (next : S) (prefix : List W) (x : W) (c : Cursor)
      → ((many_of n f next bd >>= λ vs. give (x ∷ vs)) >>= with_prefix prefix) c ≡ (many_of n f next bd >>= with_prefix (prefix ++ x ∷ [])) c
  unfolding ◌>>=◌
  regrouped n next prefix x c = one_more prefix x (many_of n f next bd c)

  after_element : (n : ℕ) (prefix : List W) (s1 s2 s3 : State) (now next : S) (t : ℕ) (v : V)
      → RefinesWithValue plain (peek_of bd) s1 s2 (Some t) → RefinesWithValue (λ s x. (next, view s x)) (f now bd) s2 s3 v
      → Simulates (many_of (suc n) f now bd >>= with_prefix prefix) s1 (many_of n f next bd >>= with_prefix (prefix ++ view s3 v ∷ [])) s3
  after_element n prefix s1 s2 s3 now next t v g q =
      let two : Simulates (element n now) s2 (many_of n f next bd >>= λ vs. give (view s3 v ∷ vs)) s3 = reaches_bind _ q.reaches in
      reaches_then (reaches_inside (with_prefix prefix) (reaches_then (more_left n now s1 s2 t g) two))
      (reaches_same s3 (λ ys. regrouped n next prefix (view s3 v) (cursor s3 ys)))

  map_more : (s : State) (vs : List V) (v : V) → map (view s) (vs ++ v ∷ []) ≡ map (view s) vs ++ view s v ∷ []
  map_more s [] v = refl
  map_more s (x ∷ vs) v = ap (λ t. view s x ∷ t) (map_more s vs v)

  by_left : (left : ℕ) (s0 s1 s2 s3 : State) (now next : S) (vs : List V) (t : ℕ) (v : V) → s1.limit ≤ length s1.done + left
      → Simulates (all_by f from bd) s0 (many_of (suc left) f now bd >>= with_prefix (map (view s1) vs)) s1
      → ((later : State) → Kept s1 later → map (view later) vs ≡ map (view s1) vs) → length s1.done < s1.limit
      → length s1.done < length s3.done → RefinesWithValue plain (peek_of bd) s1 s2 (Some t)
      → RefinesWithValue (λ s x. (next, view s x)) (f now bd) s2 s3 v → HasRead view f from bd s0 s3 next (vs ++ v ∷ [])
  by_left zero s0 s1 s2 s3 now next vs t v enough so_far lasts a b g q = absurd (omega arith)
  by_left (suc left) s0 s1 s2 s3 now next vs t v enough so_far lasts a b g q =
      let l : s3.limit ≡ s1.limit = q.reaches.took.limit ∙ g.reaches.took.limit in
      let k : Kept s1 s3 = kept_then (kept_by g.reaches) (kept_by q.reaches) in
      let prefix : map (view s1) vs ++ view s3 v ∷ [] ≡ map (view s3) (vs ++ v ∷ []) = ap (λ z. z ++ view s3 v ∷ []) (sym (lasts s3 k))
      ∙ sym (map_more s3 vs v) in
      record {
        left = left;
        enough = omega (arith, l);
        sound = q.sound;
        so_far =
            subst (λ z. Simulates (all_by f from bd) s0 (many_of (suc left) f next bd >>= with_prefix z) s3) prefix
            (reaches_then so_far (after_element (suc left) (map (view s1) vs) s1 s2 s3 now next t v g q));
        lasts = λ d j. map_more d vs v ∙ ap (λ z. z ++ view d v ∷ []) (lasts d (kept_then k j))
            ∙ ap (λ z. map (view s1) vs ++ z ∷ []) (ap (λ p. p.1) (q.lasts d j)) ∙ prefix;
      }

  -- one more is read, if it is known that octets were consumed
  pub more_moved : (s0 s1 s2 s3 : State) (now next : S) (vs : List V) (t : ℕ) (v : V) → length s2.done < length s3.done
      → HasRead view f from bd s0 s1 now vs → RefinesWithValue plain (peek_of bd) s1 s2 (Some t)
      → RefinesWithValue (λ s x. (next, view s x)) (f now bd) s2 s3 v → HasRead view f from bd s0 s3 next (vs ++ v ∷ [])
  more_moved s0 s1 s2 s3 now next vs t v moved p g q =
      let room = peek_room bd (cursor s1 (g.reaches.more ++ [])) (cursor s2 []) t (g.reaches.refines []) in
      let same : length s2.done ≡ length s1.done = sym (ap (λ (c : Cursor). c.at) room.1) in
      by_left p.left s0 s1 s2 s3 now next vs t v p.enough p.so_far p.lasts room.0 (omega (arith, moved, same)) g q

  pub all_read : (s0 s1 s2 s3 : State) (now : S) (vs : List V) → HasRead view f from bd s0 s1 now vs
      → RefinesWithValue plain (peek_of bd) s1 s2 None → RefinesWithValue plain (close_of bd) s2 s3 tt
      → (Simulates (all_by f from bd) s0 (give (map (view s3) vs)) s3) × ((later : State) → Kept s3 later → map (view later) vs ≡ map (view s3) vs)
  unfolding with_prefix
  all_read s0 s1 s2 s3 now vs p g q =
      let k : Kept s1 s3 = kept_then (kept_by g.reaches) (kept_by q.reaches) in
      let last : Simulates (close_of bd >>= λ u. give []) s2 (give []) s3 = reaches_bind _ q.reaches in
      let whole : Simulates (many_of (suc p.left) f now bd >>= with_prefix (map (view s1) vs)) s1 (give (map (view s1) vs ++ [])) s3 =
      reaches_then (reaches_inside (with_prefix (map (view s1) vs)) (reaches_then (none_left p.left now s1 s2 g) last))
      (ends (map (view s1) vs) s3) in
      let e : map (view s1) vs ++ [] ≡ map (view s3) vs = append-nil (map (view s1) vs) ∙ sym (p.lasts s3 k) in
      (subst (λ z. Simulates (all_by f from bd) s0 (give z) s3) e (reaches_then p.so_far whole), λ d j. p.lasts d (kept_then k j) ∙ sym (p.lasts s3 k))

-- one that leaves nothing
pub row_gave : {V W : Type 0} (view : State → V → W) (f : Bound → Reader W) (bd : Bound) {a b : State} {v : V}
    → RefinesWithValue view (f bd) a b v → RefinesWithValue (λ s x. (tt, view s x)) (row_of f tt bd) a b v
unfolding row_of
row_gave view f bd {b = b} {v = v} g = gave v (then_reaches (λ v. give (tt, v)) g (reaches_same b (λ ys. refl))) refl g.sound
    (λ later k. ap (λ x. (tt, x)) (g.lasts later k))

pub row_failed : {W : Type 0} (f : Bound → Reader W) (bd : Bound) {a b : State} {e : Fault} → Failed (f bd) a b e → Failed (row_of f tt bd) a b e
unfolding row_of
row_failed f bd g = fails _ g

-- a member of a set that is not refused for its order, and one that is
module _ {V W : Type 0} (view : State → V → W) (f : Bound → Reader W) (last : Option (List ℕ)) (bd : Bound) {a b : State} {span : Span}
    {v : V} (g : RefinesWithValue (λ s (p : Span × V). (seen s p.0, view s p.1)) (taking f bd) a b (span, v)) where
  pub member_gave : may_follow bd.strict last (seen b span) ≡ true
      → RefinesWithValue (λ s (p : Span × V). (Some (seen s p.0), view s p.1)) (member_of f last bd) a b (span, v)
  unfolding member_of
  member_gave t =
      let passes = judged_passes (λ p. may_follow bd.strict last p.0) SignedAttrsNotDer g t in
      gave (span, v) (reaches_then (reaches_bind (λ p. give (Some p.0, p.1)) passes) (reaches_same b (λ ys. refl))) refl g.sound
      (λ later k. ap (λ p. (Some p.0, p.1)) (g.lasts later k))

  pub member_refused : {c : State} {e : Fault} → may_follow bd.strict last (seen b span) ≡ false → c ≡ with_fault b (Some e)
      → e ≡ faults.Refused SignedAttrsNotDer (position b) → Failed (member_of f last bd) a c e
  unfolding member_of
  member_refused t p q = fails _ (judged_refuses (λ p. may_follow bd.strict last p.0) SignedAttrsNotDer g (λ e. absurd cc) (inl tt) t p q)

pub member_failed : {W : Type 0} (f : Bound → Reader W) (last : Option (List ℕ)) (bd : Bound) {a b : State} {e : Fault}
    → Failed (taking f bd) a b e → Failed (member_of f last bd) a b e
unfolding member_of
member_failed f last bd g = fails _ (fails _ g)

-- memory was wanted
pub wants_memory : {A : Type 0} (f : Reader A) (s : State) → s.fault ≡ None → Failed f s (with_fault s (Some faults.OutOfMemory)) faults.OutOfMemory
wants_memory f s n =
    record {
      next = f;
      reaches = record { more = []; took = Advance-fault s _ (λ _. n) (λ _. not_read n); refines = λ ys. refl };
      sticky = refl;
      explained = tt;
    }

-- a loop's measure falls
pub smaller : (bd : Bound) (s1 s2 s3 : State) (t : ℕ) → RefinesWithValue plain (peek_of bd) s1 s2 (Some t)
    → length s2.done < length s3.done → s3.limit ≡ s2.limit → s3.limit - length s3.done < s1.limit - length s1.done
smaller bd s1 s2 s3 t g moved l =
    let room = peek_room bd (cursor s1 (g.reaches.more ++ [])) (cursor s2 []) t (g.reaches.refines []) in
    let same : length s2.done ≡ length s1.done = sym (ap (λ (c : Cursor). c.at) room.1) in
    let l' : s2.limit ≡ s1.limit = g.reaches.took.limit in
    omega (arith, moved, same, room.0, l, l')

-- what was seen
pub saw : (bd : Bound) {a b : State} {o x : Option ℕ} → o ≡ x → RefinesWithValue plain (peek_of bd) a b o → RefinesWithValue plain (peek_of bd) a b x
saw bd {a = a} {b = b} e g = subst (λ t. RefinesWithValue plain (peek_of bd) a b t) e g
