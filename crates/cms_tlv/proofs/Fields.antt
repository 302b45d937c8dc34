-- Optional fields, and members to the end.
use Rattle.std.proofs.Common.{◌≡◌, ◌≢◌, inl, inr, ℕ, zero, suc, ◌+◌, ◌-◌, ◌<◌, ◌≤◌, Bool, true, false, not, cond, eqb, ◌&&◌, List, [], ◌∷◌, ◌++◌, length, Option, Some, None, Ok, Err, refl, sym, ap, subst, ◌∙◌, arith, append_assoc, length-append}
use Rattle.std.specs.List.{AllZip}
use Rattle.std.proofs.lemmas.List.{append-nil}
use Rattle.cms_tlv.specs.declared.fault.Reason.TheVariants.{Truncated, SignedAttrsNotDer}
use Rattle.cms_tlv.specs.declared.bound.Bound.{Bound}
use Rattle.cms_tlv.specs.Frames.{Frames, none}
use Rattle.cms_tlv.specs.Order.{ComesAfter, Ascends, comes_after}
use Rattle.cms_tlv.specs.Spelling.{Rules, ber, minimal, der, Spelling, ◌⨟◌, optional, InOrder, rows, members, join}
use Rattle.cms_tlv.specs.Reading.{Cursor, stop, Reader, ◌>>=◌, give, unless_end, may_be, peek_of, close_of, optional_of, many_of, all_by, row_of, rows_of, may_follow, member_of, members_of}
use Rattle.cms_tlv.specs.Clauses.{Room}
use Rattle.cms_tlv.proofs.SpellingLaws.{IsField, IsContents, Avoids, not_end}
use Rattle.cms_tlv.proofs.Inverse.{okay, bad, ok_value, ok_place, branch, bind_ok, bind_err, bound_again, eqb_no}
use Rattle.cms_tlv.proofs.ReadingLaws.{Moves, moves_nothing, moves_then, midway, moves_prefix, moves_suffix, room_less, room_from, Follows, CutField, CutContents, EndedBy, Ended, Reads, ReadsTo, ended_prefix, ended_suffix}
use Rattle.cms_tlv.proofs.OrderTests.{after_told, told_after}
use Rattle.cms_tlv.proofs.OctetsTaken.{taking_reads}
use Rattle.cms_tlv.proofs.Judged.{where_reads_in, given_reads}
use Rattle.cms_tlv.proofs.Sequences.{cut_first, cut_later, respelled, nothing, then_reads}
use Rattle.cms_tlv.proofs.Ends.{close_sound, close_complete, close_cut, peek_same, peek_some, peek_end, peek_cut, frames_octet, field_octet, ends_reads}

-- the test tells which identifier octets have P
pub record FaultIsExact (p : ℕ → Bool) (P : ℕ → Type 0) : Type 0 where
  pub yes : (t : ℕ) → P t → p t ≡ true
  pub so : (t : ℕ) → p t ≡ true → P t

tells_no : {p : ℕ → Bool} {P : ℕ → Type 0} → FaultIsExact p P → (t : ℕ) → (P t → ⊥) → p t ≡ false
tells_no {p = p} k t n = go (p t) refl
  where
    go : (b : Bool) → p t ≡ b → p t ≡ false
    go true e = absurd (n (k.so t e))
    go false e = e

later : (end : Option ℕ) {c m : Cursor} (b : List ℕ) → Moves c b m → Room end m.limit m.at (length m.rest + 1) → Room end c.limit c.at (length c.rest + 1)
later end {c = c} {m = m} b p r = room_from end m.limit m.at c.limit c.at (length m.rest + 1) (length c.rest + 1) p.limit
    (omega (arith, p.at, ap length p.rest, length-append b m.rest)) r

pub shown : (i : Bool) (t : ℕ) → t ≢ 0 → unless_end i (Some t) ≡ Some t
shown true t n = let e = eqb_no t 0 n in rw e refl
shown false t n = refl

unseen_by : (p : ℕ → Bool) (b : Bool) (t : ℕ) → p t ≡ false → may_be p (cond b None (Some t)) ≡ false
unseen_by p true t e = refl
unseen_by p false t e = e

unseen : (p : ℕ → Bool) (i : Bool) (t : ℕ) → p t ≡ false → may_be p (unless_end i (Some t)) ≡ false
unseen p i t e = unseen_by p (i && eqb t 0) t e

-- the first octet of contents that begin with none of those, or their end
pub first_unseen : {W : Type 0} {P : ℕ → Type 0} {p : ℕ → Bool} {S : Spelling W} → FaultIsExact p P → IsContents S → Avoids P S
    → (bd : Bound) (c d : Cursor) (b o : List ℕ) (w : W) → Moves c o d → S b w → Ended bd c.at b o → Room bd.end c.limit c.at (length o)
    → (x : Option ℕ) × (peek_of bd c ≡ okay (x, c)) × (may_be p x ≡ false)
first_unseen {p = p} {S = S} k g a bd c d b o w q s e room = go b s e
  where
    go : (b : List ℕ) → S b w → Ended bd c.at b o → (x : Option ℕ) × (peek_of bd c ≡ okay (x, c)) × (may_be p x ≡ false)
    go [] s e = (None, peek_end bd c d o e q room, refl)
    go (t ∷ b) s e =
        let z = ended_suffix bd.indefinite bd.end c.at (t ∷ b) [] o (subst (λ x. Ended bd c.at x o) (sym (append-nil (t ∷ b))) e) in
        let no = tells_no k t (λ x. a.avoids (t ∷ b) w t b s refl x) in
        let rest : c.rest ≡ t ∷ ((b ++ z.rest) ++ d.rest) = q.rest ∙ ap (λ x. x ++ d.rest) z.whole in
        let one =
        peek_some bd c t ((b ++ z.rest) ++ d.rest) rest (frames_octet t b (g.frames (t ∷ b) w s) refl)
        (room_less bd.end c.limit c.at (length o) 1 (omega (arith, ap length z.whole)) room) in
        (unless_end bd.indefinite (Some t), one, unseen p bd.indefinite t no)

module _ {V : Type 0} {m : Rules} {P : ℕ → Type 0} {R : Spelling V} {f : Bound → Reader V} {p : ℕ → Bool} (h : IsField P R)
    (k : FaultIsExact p P) (r : Reads m R f) where
  optional_sound : (bd : Bound) (c d : Cursor) (o : Option V) → Follows m bd → optional_of p f bd c ≡ Ok (o, d) → (b : List ℕ) × Moves c b d × optional R b o
  unfolding optional_of
  optional_sound bd c d o i e =
      let s = bind_ok (peek_of bd) _ c e in
      let q = peek_same bd c s.1 s.0 s.2 in
      elim (branch (may_be p s.0) (f bd >>= λ v. give (Some v)) (give None) s.1 (okay (o, d)) s.3) [
        | inl x ↦
            let t = bind_ok (f bd) _ s.1 x.1 in
            let one = r.sound bd s.1 t.1 t.0 i t.2 in
            let o' : Some t.0 ≡ o = ok_value t.3 in
            (one.0, subst (λ z. Moves c one.0 z) (ok_place t.3) (subst (λ z. Moves z one.0 t.1) (sym q) one.1), subst (λ z. optional R one.0 z) o' one.2)
        | inr x ↦
            let o' : None ≡ o = ok_value x.1 in
            ([], subst (λ z. Moves c [] z) (q ∙ ok_place x.1) (moves_nothing c), subst (λ z. optional R [] z) o' refl)
      ]

  optional_there : (bd : Bound) (c d : Cursor) (b : List ℕ) (v : V) → Follows m bd → Moves c b d → R b v
      → Room bd.end c.limit c.at (length b) → optional_of p f bd c ≡ Ok (Some v, d)
  unfolding optional_of
  optional_there bd c d b v i q s room =
      let z = h.starts b v s in
      let l : length b ≡ suc (length z.1) = ap length z.2 in
      let o = field_octet z.0 z.1 (h.frame b v s) z.2 in
      let rest : c.rest ≡ z.0 ∷ (z.1 ++ d.rest) = q.rest ∙ ap (λ t. t ++ d.rest) z.2 in
      let one = peek_some bd c z.0 (z.1 ++ d.rest) rest o (room_less bd.end c.limit c.at (length b) 1 (omega (arith, l)) room) in
      let seen = shown bd.indefinite z.0 z.3 in
      let two : peek_of bd c ≡ okay (Some z.0, c) = one ∙ ap (λ t. okay (t, c)) seen in
      let yes = k.yes z.0 z.4 in
      let three : (f bd >>= λ v. give (Some v)) c ≡ okay (Some v, d) = bound_again (f bd) _ c v d (r.complete bd c d b v i q s room) in
      bound_again (peek_of bd) _ c (Some z.0) c two ∙ ap (λ t. (cond t (f bd >>= λ v. give (Some v)) (give None)) c) yes ∙ three

  none_left : (bd : Bound) (c : Cursor) (x : Option ℕ) → peek_of bd c ≡ Ok (x, c) → may_be p x ≡ false → optional_of p f bd c ≡ Ok (None, c)
  unfolding optional_of
  none_left bd c x e q = bound_again (peek_of bd) _ c x c e ∙ ap (λ t. (cond t (f bd >>= λ v. give (Some v)) (give None)) c) q

  optional_absent : {W : Type 0} {S : Spelling W} → IsContents S → Avoids P S → (bd : Bound) (c d : Cursor) (b o : List ℕ) (w : W)
      → Moves c o d → S b w → Ended bd c.at b o → Room bd.end c.limit c.at (length o) → optional_of p f bd c ≡ Ok (None, c)
  optional_absent g a bd c d b o w q s e room = let x = first_unseen k g a bd c d b o w q s e room in none_left bd c x.0 x.1 x.2

  optional_cut : (bd : Bound) (c : Cursor) (stopped : ℕ) → Follows m bd → optional_of p f bd c ≡ Err (stop Truncated stopped)
      → CutField c.rest × Room bd.end c.limit c.at (length c.rest + 1)
  unfolding optional_of
  optional_cut bd c stopped i e = elim (bind_err (peek_of bd) _ c e) [
    | inl x ↦ peek_cut bd c x
    | inr s ↦
        let q = peek_same bd c s.1 s.0 s.2 in
        elim (branch (may_be p s.0) (f bd >>= λ v. give (Some v)) (give None) s.1 (bad (stop Truncated stopped)) s.3) [
          | inl x ↦ elim (bind_err (f bd) _ s.1 x.1) [
            | inl y ↦ r.cut bd c stopped i (ap (f bd) q ∙ y)
            | inr y ↦ absurd (let z = y.3 in cc)
          ]
          | inr x ↦ absurd (let z = x.1 in cc)
        ]
  ]

  -- an optional field, and others behind it
  pub maybe_reads : {W A : Type 0} {S : Spelling W} {k : Option V × W → A} {g : Option V → Bound → Reader A} → IsContents S → Avoids P S
      → ((o : Option V) → ReadsTo m S (λ w. k (o, w)) (g o)) → ReadsTo m (optional R ⨟ S) k (λ bd. optional_of p f bd >>= λ o. g o bd)
  maybe_reads {W = W} {A = A} {S = S} {k = value} {g = g} n a t = record {
    sound = λ bd c d v i e.
        let s = bind_ok (optional_of p f bd) (λ o. g o bd) c e in
        let x = optional_sound bd c s.1 s.0 i s.2 in
        let q = (t s.0).sound bd s.1 d v i s.3 in (
          (s.0, q.0),
          x.0 ++ q.1,
          x.0 ++ q.2,
          ended_prefix bd.indefinite bd.end c.at s.1.at x.0 q.1 q.2 x.1.at q.3,
          moves_then x.1 q.4,
          (x.0, q.1, refl, x.2, q.5),
          q.6,
        );
    complete = λ bd c d b o w i u s e room. both bd c d b o w.0 w.1 i u s.0 s.1 s.2 s.3 s.4 e room;
    cut = λ bd c at i e. elim (bind_err (optional_of p f bd) (λ o. g o bd) c e) [
      | inl x ↦ let y = optional_cut bd c at i x in ((λ _. cut_first y.0), y.1)
      | inr x ↦
          let z = optional_sound bd c x.1 x.0 i x.2 in
          let y = (t x.0).cut bd x.1 at i x.3 in
          ((λ j. behind z.0 x.0 z.2 z.1.rest (y.0 j)), later bd.end z.0 z.1 y.1)
    ];
  }
    where
      behind : {p q : List ℕ} (b : List ℕ) (o : Option V) → optional R b o → p ≡ b ++ q → CutContents q → CutContents p
      behind {q = q} b None s e y = subst CutContents (sym (e ∙ ap (λ z. z ++ q) s)) y
      behind b (Some v) s e y = cut_later b e (h.frame b v s) (not_end h b v s) y

      both : (bd : Bound) (c d : Cursor) (b o : List ℕ) (x : Option V) (w : W) → Follows m bd → Moves c o d → (b1 b2 : List ℕ)
          → b ≡ b1 ++ b2 → optional R b1 x → S b2 w → Ended bd c.at b o → Room bd.end c.limit c.at (length o)
          → (optional_of p f bd >>= λ o. g o bd) c ≡ Ok (value (x, w), d)
      both bd c d b o None w i u b1 b2 s q z e room =
          let b' : b ≡ b2 = s ∙ ap (λ t. t ++ b2) q in
          let e' : Ended bd c.at b2 o = subst (λ t. Ended bd c.at t o) b' e in
          bound_again (optional_of p f bd) (λ o. g o bd) c None c (optional_absent n a bd c d b2 o w u z e' room)
          ∙ (t None).complete bd c d b2 o w i u z e' room
      both bd c d b o (Some v) w i u b1 b2 s q z e room =
          let y = ended_suffix bd.indefinite bd.end c.at b1 b2 o (subst (λ t. Ended bd c.at t o) s e) in
          let u' : Moves c (b1 ++ y.rest) d = subst (λ t. Moves c t d) y.whole u in
          let l : length o ≡ length b1 + length y.rest = ap length y.whole ∙ length-append b1 y.rest in
          let mid = midway c b1 y.rest d in
          let one =
          optional_there bd c mid b1 v i (moves_prefix b1 y.rest u') q
          (room_less bd.end c.limit c.at (length o) (length b1) (omega (arith, l)) room) in
          let two =
          (t (Some v)).complete bd mid d b2 y.rest w i (moves_suffix b1 y.rest u') z y.ended
          (room_from bd.end c.limit c.at c.limit (c.at + length b1) (length o) (length y.rest) refl (omega (arith, l)) room) in
          bound_again (optional_of p f bd) (λ o. g o bd) c (Some v) mid one ∙ two

-- each spelling by what the one before it left
abbrev Chain : {S V : Type 0} → (S → Spelling (S × V)) → S → List (List ℕ) → List V → Type 0
Chain R s [] [] = Unit {0}
Chain R s [] (v ∷ vs) = ⊥
Chain R s (b ∷ bs) [] = ⊥
Chain {S = S} R s (b ∷ bs) (v ∷ vs) = (t : S) × R s b (t, v) × Chain R t bs vs

module _ {S V : Type 0} {m : Rules} {P : ℕ → Type 0} {R : S → Spelling (S × V)} {f : S → Bound → Reader (S × V)}
    (h : (s : S) → IsField P (R s)) (r : (s : S) → Reads m (R s) (f s)) where
  abbrev element_and_more : ℕ → S → Bound → Reader (List V)
  element_and_more count s bd = f s bd >>= λ p. many_of count f p.0 bd >>= λ vs. give (p.1 ∷ vs)

  many_sound : (count : ℕ) (from : S) (bd : Bound) (c d : Cursor) (vs : List V) → Follows m bd → many_of count f from bd c ≡ Ok (vs, d)
      → (bs : List (List ℕ)) × (o : List ℕ) × Ended bd c.at (join bs) o × Moves c o d × Chain R from bs vs
  unfolding many_of
  many_sound zero from bd c d vs i e = absurd cc
  many_sound (suc count) from bd c d vs i e =
      let s = bind_ok (peek_of bd) _ c e in
      let q = peek_same bd c s.1 s.0 s.2 in
      elim (branch (may_be (λ _. true) s.0) (element_and_more count from bd) (close_of bd >>= λ u. give []) s.1 (okay (vs, d)) s.3) [
        | inl x ↦
            let t = bind_ok (f from bd) _ s.1 x.1 in
            let one = (r from).sound bd s.1 t.1 t.0 i t.2 in
            let u = bind_ok (many_of count f t.0.0 bd) _ t.1 t.3 in
            let two = many_sound count t.0.0 bd t.1 u.1 u.0 i u.2 in
            let v' : t.0.1 ∷ u.0 ≡ vs = ok_value u.3 in
            let p1 = subst (λ z. Moves z one.0 t.1) (sym q) one.1 in (
              one.0 ∷ two.0,
              one.0 ++ two.1,
              ended_prefix bd.indefinite bd.end c.at t.1.at one.0 (join two.0) two.1 p1.at two.2,
              subst (λ z. Moves c (one.0 ++ two.1) z) (ok_place u.3) (moves_then p1 two.3),
              subst (λ z. Chain R from (one.0 ∷ two.0) z) v' (t.0.0, one.2, two.4),
            )
        | inr x ↦
            let t = bind_ok (close_of bd) _ s.1 x.1 in
            let one = close_sound bd s.1 t.1 t.0 t.2 in
            let v' : [] ≡ vs = ok_value t.3 in (
              [],
              one.0,
              subst (λ (z : Cursor). Ended bd z.at [] one.0) (sym q) one.1,
              subst (λ z. Moves c one.0 z) (ok_place t.3) (subst (λ z. Moves z one.0 t.1) (sym q) one.2),
              subst (λ z. Chain R from [] z) v' tt,
            )
      ]

  many_complete : (bs : List (List ℕ)) (vs : List V) (count : ℕ) (from : S) (bd : Bound) (c d : Cursor) (o : List ℕ) → length bs < count
      → Follows m bd → Chain R from bs vs → Ended bd c.at (join bs) o → Moves c o d → Room bd.end c.limit c.at (length o)
      → many_of count f from bd c ≡ Ok (vs, d)
  unfolding many_of
  many_complete bs vs zero from bd c d o l i z e p room = absurd (omega arith)
  many_complete [] [] (suc count) from bd c d o l i z e p room =
      let one = peek_end bd c d o e p room in
      let two = close_complete bd c d o e p room in
      bound_again (peek_of bd) _ c None c one ∙ bound_again (close_of bd) _ c tt d two
  many_complete [] (v ∷ vs) (suc count) from bd c d o l i z e p room = absurd z
  many_complete (b ∷ bs) [] (suc count) from bd c d o l i z e p room = absurd z
  many_complete (b ∷ bs) (v ∷ vs) (suc count) from bd c d o l i z e p room =
      let y = ended_suffix bd.indefinite bd.end c.at b (join bs) o e in
      let u' : Moves c (b ++ y.rest) d = subst (λ t. Moves c t d) y.whole p in
      let k : length o ≡ length b + length y.rest = ap length y.whole ∙ length-append b y.rest in
      let mid = midway c b y.rest d in
      let w = (h from).starts b (z.0, v) z.1 in
      let k' : length b ≡ suc (length w.1) = ap length w.2 in
      let rest : c.rest ≡ w.0 ∷ (w.1 ++ (y.rest ++ d.rest)) = u'.rest ∙ append_assoc b y.rest d.rest ∙ ap (λ t. t ++ (y.rest ++ d.rest)) w.2 in
      let one =
      peek_some bd c w.0 (w.1 ++ (y.rest ++ d.rest)) rest (field_octet w.0 w.1 ((h from).frame b (z.0, v) z.1) w.2)
      (room_less bd.end c.limit c.at (length o) 1 (omega (arith, k, k')) room) in
      let two =
      (r from).complete bd c mid b (z.0, v) i (moves_prefix b y.rest u') z.1
      (room_less bd.end c.limit c.at (length o) (length b) (omega (arith, k)) room) in
      let three =
      many_complete bs vs count z.0 bd mid d y.rest (omega arith) i z.2 y.ended (moves_suffix b y.rest u')
      (room_from bd.end c.limit c.at c.limit (c.at + length b) (length o) (length y.rest) refl (omega (arith, k)) room) in
      let seen : peek_of bd c ≡ okay (Some w.0, c) = one ∙ ap (λ t. okay (t, c)) (shown bd.indefinite w.0 w.3) in
      bound_again (peek_of bd) _ c (Some w.0) c seen ∙ bound_again (f from bd) _ c (z.0, v) mid two ∙ bound_again (many_of count f z.0 bd) _ mid vs d three

  many_cut : (count : ℕ) (from : S) (bd : Bound) (c : Cursor) (stopped : ℕ) → Follows m bd
      → many_of count f from bd c ≡ Err (stop Truncated stopped) → CutContents c.rest × Room bd.end c.limit c.at (length c.rest + 1)
  unfolding many_of
  many_cut zero from bd c stopped i e = absurd (let k = e in cc)
  many_cut (suc count) from bd c stopped i e = elim (bind_err (peek_of bd) _ c e) [
    | inl x ↦ let y = peek_cut bd c x in (cut_first y.0, y.1)
    | inr s ↦
        let q = peek_same bd c s.1 s.0 s.2 in
        elim (branch (may_be (λ _. true) s.0) (element_and_more count from bd) (close_of bd >>= λ u. give []) s.1 (bad (stop Truncated stopped)) s.3) [
          | inl x ↦ elim (bind_err (f from bd) _ s.1 x.1) [
            | inl y ↦ let z = (r from).cut bd c stopped i (ap (f from bd) q ∙ y) in (cut_first z.0, z.1)
            | inr t ↦
                let one = (r from).sound bd s.1 t.1 t.0 i t.2 in
                let p1 = subst (λ z. Moves z one.0 t.1) (sym q) one.1 in
                elim (bind_err (many_of count f t.0.0 bd) _ t.1 t.3) [
                  | inl y ↦ let z = many_cut count t.0.0 bd t.1 stopped i y in
                      (cut_later one.0 p1.rest ((h from).frame one.0 t.0 one.2) (not_end (h from) one.0 t.0 one.2) z.0, later bd.end one.0 p1 z.1)
                  | inr y ↦ absurd (let z = y.3 in cc)
                ]
          ]
          | inr x ↦ elim (bind_err (close_of bd) _ s.1 x.1) [
            | inl y ↦ let z = close_cut bd c (ap (close_of bd) q ∙ y) in (cut_first z.0, z.1)
            | inr y ↦ absurd (let z = y.3 in cc)
          ]
        ]
  ]

  enough : (from : S) (bs : List (List ℕ)) (vs : List V) → Chain R from bs vs → length bs ≤ length (join bs)
  enough from [] vs z = omega arith
  enough from (b ∷ bs) [] z = absurd z
  enough from (b ∷ bs) (v ∷ vs) z = let w = (h from).starts b (z.0, v) z.1 in omega (arith, ap length w.2, enough z.0 bs vs z.2, length-append b (join bs))

  ended_longer : (i : Bool) (end : Option ℕ) (at : ℕ) (b o : List ℕ) → EndedBy i end at b o → length b ≤ length o
  ended_longer true end at b o e = omega (arith, ap length e, length-append b (0 ∷ 0 ∷ []))
  ended_longer false end at b o e = omega (arith, ap length e.0)

  chain_reads : (from : S) → ReadsTo m (λ b vs. (bs : List (List ℕ)) × (b ≡ join bs) × Chain R from bs vs) (λ vs. vs) (all_by f from)
  unfolding all_by
  chain_reads from = record {
    sound = λ bd c d vs i e. let p = many_sound (suc (c.limit - c.at)) from bd c d vs i e in (vs, join p.0, p.1, p.2, p.3, (p.0, refl, p.4), refl);
    complete = λ bd c d b o vs i u s e room.
        let e' : Ended bd c.at (join s.0) o = subst (λ t. Ended bd c.at t o) s.1 e in
        many_complete s.0 vs (suc (c.limit - c.at)) from bd c d o
        (omega (arith, enough from s.0 vs s.2, ended_longer bd.indefinite bd.end c.at (join s.0) o e', room.1)) i s.2 e' u room;
    cut = λ bd c at i e. let y = many_cut (suc (c.limit - c.at)) from bd c at i e in ((λ _. y.0), y.1);
  }

-- Rows: nothing is left.
module _ {V : Type 0} {m : Rules} {P : ℕ → Type 0} {R : Spelling V} {f : Bound → Reader V} (h : IsField P R) (r : Reads m R f) where
  abbrev row : Unit {0} → Spelling (Unit {0} × V)
  row u b p = R b p.1

  chain_all : (bs : List (List ℕ)) (vs : List V) → Chain row tt bs vs → AllZip R bs vs
  chain_all [] [] z = tt
  chain_all [] (v ∷ vs) z = absurd z
  chain_all (b ∷ bs) [] z = absurd z
  chain_all (b ∷ bs) (v ∷ vs) z = (z.1, chain_all bs vs z.2)

  all_chain : (bs : List (List ℕ)) (vs : List V) → AllZip R bs vs → Chain row tt bs vs
  all_chain [] [] z = tt
  all_chain [] (v ∷ vs) z = absurd z
  all_chain (b ∷ bs) [] z = absurd z
  all_chain (b ∷ bs) (v ∷ vs) z = (tt, z.0, all_chain bs vs z.1)

  pub rows_reads : ReadsTo m (rows R) (λ vs. vs) (rows_of f)
  unfolding row_of
  rows_reads = respelled (λ w. w) (λ w. w) (λ b vs s. (s.0, s.1, chain_all s.0 vs s.2)) (λ b vs s. (s.0, s.1, all_chain s.0 vs s.2)) (λ w. refl)
      (chain_reads (λ u. record {
        frame = λ b p s. h.frame b p.1 s;
        starts = λ b p s. h.starts b p.1 s;
        same = λ b p q s t. ap (λ v. (tt, v)) (h.same b p.1 q.1 s t);
      })
      (λ u. given_reads (λ v. (tt, v)) (λ b v s. s) (λ b p s. (p.1, s, refl)) r) tt)

-- Sets: behind the octets of the last member, by DER only what does not come before it.
abbrev MayFollow : Rules → Option (List ℕ) → List ℕ → Type 0
MayFollow ber last b = Unit {0}
MayFollow minimal None b = Unit {0}
MayFollow der None b = Unit {0}
MayFollow minimal (Some last) b = ComesAfter last b → ⊥
MayFollow der (Some last) b = ComesAfter last b → ⊥

abbrev OrderedBehind : Rules → Option (List ℕ) → List (List ℕ) → Type 0
OrderedBehind m last [] = Unit {0}
OrderedBehind m last (b ∷ bs) = MayFollow m last b × OrderedBehind m (Some b) bs

not_told : (a b : List ℕ) → not (comes_after a b) ≡ true → ComesAfter a b → ⊥
not_told a b e h = let t = told_after a b h in absurd (let z : false ≡ true = ap not (sym t) ∙ e in cc)

told_not : (a b : List ℕ) → (ComesAfter a b → ⊥) → not (comes_after a b) ≡ true
told_not a b h = go (comes_after a b) refl
  where
    go : (t : Bool) → comes_after a b ≡ t → not (comes_after a b) ≡ true
    go true e = absurd (h (after_told a b e))
    go false e = ap not e

follow_so : (m : Rules) (bd : Bound) (last : Option (List ℕ)) (b : List ℕ) → Follows m bd → may_follow bd.strict last b ≡ true → MayFollow m last b
follow_so ber bd last b i e = tt
follow_so minimal bd None b i e = tt
follow_so der bd None b i e = tt
follow_so minimal bd (Some last) b i e = not_told last b (ap (λ t. not (t && comes_after last b)) (sym i) ∙ e)
follow_so der bd (Some last) b i e = not_told last b (ap (λ t. not (t && comes_after last b)) (sym i) ∙ e)

follow_back : (m : Rules) (bd : Bound) (last : Option (List ℕ)) (b : List ℕ) → Follows m bd → MayFollow m last b → may_follow bd.strict last b ≡ true
follow_back m bd None b i h = refl
follow_back ber bd (Some last) b i h = ap (λ t. not (t && comes_after last b)) i
follow_back minimal bd (Some last) b i h = ap (λ t. not (t && comes_after last b)) i ∙ told_not last b h
follow_back der bd (Some last) b i h = ap (λ t. not (t && comes_after last b)) i ∙ told_not last b h

module _ {V : Type 0} (m : Rules) {P : ℕ → Type 0} {R : Spelling V} {f : Bound → Reader V} (h : IsField P R) (r : Reads m R f) where
  -- its octets are left
  abbrev member : Option (List ℕ) → Spelling (Option (List ℕ) × V)
  member last b p = (p.0 ≡ Some b) × R b p.1 × MayFollow m last b

  member_field : (last : Option (List ℕ)) → IsField P (member last)
  member_field last = record {
    frame = λ b p s. h.frame b p.1 s.1;
    starts = λ b p s. h.starts b p.1 s.1;
    same = λ b p q s t. ap (λ o. (o, p.1)) (s.0 ∙ sym t.0) ∙ ap (λ v. (q.0, v)) (h.same b p.1 q.1 s.1 t.1);
  }

  member_reads : (last : Option (List ℕ)) → Reads m (member last) (member_of f last)
  unfolding member_of
  member_reads last =
      given_reads (λ p. (Some p.0, p.1)) (λ b p s. (ap Some (sym s.0.0), s.0.1, subst (MayFollow m last) (sym s.0.0) s.1))
      (λ b p s. ((b, p.1), ((refl, s.1), s.2), ap (λ o. (o, p.1)) (sym s.0)))
      (where_reads_in {Q = λ p. MayFollow m last p.0} (λ bd p. may_follow bd.strict last p.0) SignedAttrsNotDer (λ e. absurd cc)
      (λ bd b p i s. follow_so m bd last p.0 i) (λ bd b p i s. follow_back m bd last p.0 i) (taking_reads r))

  members_zip : (last : Option (List ℕ)) (bs : List (List ℕ)) (vs : List V) → Chain member last bs vs → AllZip R bs vs
  members_zip last [] [] z = tt
  members_zip last [] (v ∷ vs) z = absurd z
  members_zip last (b ∷ bs) [] z = absurd z
  members_zip last (b ∷ bs) (v ∷ vs) z = (z.1.1, members_zip z.0 bs vs z.2)

  members_ordered : (last : Option (List ℕ)) (bs : List (List ℕ)) (vs : List V) → Chain member last bs vs → OrderedBehind m last bs
  members_ordered last [] vs z = tt
  members_ordered last (b ∷ bs) [] z = absurd z
  members_ordered last (b ∷ bs) (v ∷ vs) z = (z.1.2, members_ordered (Some b) bs vs (subst (λ t. Chain member t bs vs) z.1.0 z.2))

  members_chain : (last : Option (List ℕ)) (bs : List (List ℕ)) (vs : List V) → AllZip R bs vs → OrderedBehind m last bs → Chain member last bs vs
  members_chain last [] [] z a = tt
  members_chain last [] (v ∷ vs) z a = absurd z
  members_chain last (b ∷ bs) [] z a = absurd z
  members_chain last (b ∷ bs) (v ∷ vs) z a = (Some b, (refl, z.0, a.0), members_chain (Some b) bs vs z.1 a.1)

any_order : (last : Option (List ℕ)) (bs : List (List ℕ)) → OrderedBehind ber last bs
any_order last [] = tt
any_order last (b ∷ bs) = (tt, any_order (Some b) bs)

ascending_from : (b : List ℕ) (bs : List (List ℕ)) → OrderedBehind der (Some b) bs → Ascends (b ∷ bs)
ascending_from b [] h = tt
ascending_from b (c ∷ cs) h = (h.0, ascending_from c cs h.1)

from_ascending : (b : List ℕ) (bs : List (List ℕ)) → Ascends (b ∷ bs) → OrderedBehind der (Some b) bs
from_ascending b [] h = tt
from_ascending b (c ∷ cs) h = (h.0, from_ascending c cs h.1)

in_order : (m : Rules) (bs : List (List ℕ)) → OrderedBehind m None bs → InOrder m bs
in_order ber bs h = tt
in_order minimal [] h = tt
in_order der [] h = tt
in_order minimal (b ∷ bs) h = ascending_from b bs h.1
in_order der (b ∷ bs) h = ascending_from b bs h.1

ordered : (m : Rules) (bs : List (List ℕ)) → InOrder m bs → OrderedBehind m None bs
ordered ber bs h = any_order None bs
ordered minimal [] h = tt
ordered der [] h = tt
ordered minimal (b ∷ bs) h = (tt, from_ascending b bs h)
ordered der (b ∷ bs) h = (tt, from_ascending b bs h)

-- the members of a set
pub members_reads : {V : Type 0} (m : Rules) {P : ℕ → Type 0} {R : Spelling V} {f : Bound → Reader V} → IsField P R → Reads m R f
    → ReadsTo m (members m R) (λ vs. vs) (members_of f)
members_reads m h r =
    respelled (λ w. w) (λ w. w) (λ b vs s. (
      s.0,
      s.1,
      members_zip m h r None s.0 vs s.2,
      in_order m s.0 (members_ordered m h r None s.0 vs s.2),
    ))
    (λ b vs s. (s.0, s.1, members_chain m h r None s.0 vs s.2 (ordered m s.0 s.3))) (λ w. refl)
    (chain_reads (member_field m h r) (member_reads m h r) None)

-- an optional field at the end
pub maybe_last_reads : {V A : Type 0} {m : Rules} {P : ℕ → Type 0} {R : Spelling V} {f : Bound → Reader V} {p : ℕ → Bool} → IsField P R
    → FaultIsExact p P → Reads m R f → (k : Option V → A) → ReadsTo m (optional R) k
    (λ bd. optional_of p f bd >>= λ o. close_of bd >>= λ u. give (k o))
maybe_last_reads {m = m} {P = P} {R = R} h t r k = respelled {S = optional R ⨟ nothing} {k = λ w. k w.0} (λ w. w.0) (λ o. (o, tt))
    (λ b w s. subst (λ z. optional R z w.0) (sym (s.2 ∙ ap (λ z. s.0 ++ z) s.4 ∙ append-nil s.0)) s.3)
    (λ b o s. (b, [], sym (append-nil b), s, refl)) (λ w. refl)
    (maybe_reads h t r (record { frames = λ b u e. subst Frames (sym e) none; same = λ b u w e q. refl })
    (record { avoids = λ b u x y e q z. absurd (let w : [] ≡ x ∷ y = sym e ∙ q in cc) }) (λ o. ends_reads (k o)))

-- one field alone
pub last_reads : {V A : Type 0} {m : Rules} {P : ℕ → Type 0} {R : Spelling V} {f : Bound → Reader V} → IsField P R → Reads m R f
    → (k : V → A) → ReadsTo m R k (λ bd. f bd >>= λ v. close_of bd >>= λ u. give (k v))
last_reads {m = m} {P = P} {R = R} h r k = respelled {S = R ⨟ nothing} {k = λ w. k w.0} (λ w. w.0) (λ v. (v, tt))
    (λ b w s. subst (λ z. R z w.0) (sym (s.2 ∙ ap (λ z. s.0 ++ z) s.4 ∙ append-nil s.0)) s.3)
    (λ b v s. (b, [], sym (append-nil b), s, refl)) (λ w. refl)
    (then_reads h r (λ v. ends_reads (k v)))
