-- The end of contents, and the octet that may follow it.
use Rattle.std.proofs.Common.{◌≡◌, inl, inr, ℕ, zero, suc, ◌+◌, ◌<◌, Bool, true, false, not, cond, eqb, ◌&&◌, List, [], ◌∷◌, ◌++◌, length, Option, Some, None, Result, Ok, Err, refl, sym, ap, subst, ◌∙◌, arith}
use Rattle.std.proofs.lemmas.Bool.{eqb-true}
use Rattle.cms_tlv.specs.declared.fault.Reason.TheVariants.{Truncated, UnexpectedElement}
use Rattle.cms_tlv.specs.declared.bound.Bound.{Bound}
use Rattle.cms_tlv.specs.declared.bound.Header.{Header}
use Rattle.cms_tlv.specs.Headers.{IsOctet, low, high, IsLength, short, long}
use Rattle.cms_tlv.specs.Frames.{Frame, Frames, definite, indefinite, none, more}
use Rattle.cms_tlv.specs.Spelling.{Rules, ber}
use Rattle.cms_tlv.specs.Reading.{Cursor, place, Stop, stop, Reader, ◌>>=◌, give, refuse, again, octet_of, look_of, is_shortest, is_at, ends_here, expected_of, unless_end, peek_of, is_empty, is_zeros, end_in, close_of}
use Rattle.cms_tlv.specs.Clauses.{Room}
use Rattle.cms_tlv.proofs.Inverse.{okay, bad, ok_value, ok_place, chosen, branch, bind_ok, bind_err, bound_again, eqb_yes, and_first, and_second}
use Rattle.cms_tlv.proofs.ReadingLaws.{Moves, moves_nothing, moved, room_less, CutField, EndedBy, Ended, ReadsTo}
use Rattle.cms_tlv.proofs.OctetReads.{octet_sound, octet_complete, octet_cut, nil_length}
use Rattle.cms_tlv.proofs.HeaderReads.{shortest_by, HasLength, header_sized, header_cut, not_here}
use Rattle.cms_tlv.proofs.FrameLaws.{frame_two}
use Rattle.cms_tlv.proofs.Elements.{entered}
use Rattle.cms_tlv.proofs.Sequences.{cut_first, nothing}

here_ended : (i : Bool) (end : Option ℕ) (at : ℕ) → (not i && is_at end at) ≡ true → EndedBy i end at [] []
here_ended true end at e = absurd cc
here_ended false None at e = absurd cc
here_ended false (Some n) at e = let k : at ≡ n = eqb-true at n e in let z : n ≡ at + 0 = omega arith in (refl, ap Some z)

zeros_length : {l : List ℕ} {n : ℕ} → n ≡ 0 → IsLength l n → shortest_by l n ≡ true → l ≡ 0 ∷ []
zeros_length z (short {n = n} h) t = ap (λ x. x ∷ []) z
zeros_length z (long {d = d} {ds = ds} h o) t = absurd (no_test (suc (length ds)) _ z t)
  where
    no_test : (k n : ℕ) → n ≡ 0 → is_shortest k n ≡ true → ⊥
    no_test k zero z t = absurd cc
    no_test k (suc n) z t = omega arith

empty_length : (bd : Bound) (at limit : ℕ) (l : List ℕ) (h : Header) (len : Option ℕ) → HasLength bd at limit l h len → is_empty len ≡ true
    → h.shortest ≡ true → l ≡ 0 ∷ []
empty_length bd at limit l h None k e s = absurd cc
empty_length bd at limit l h (Some n) (k, t, r, q) e s = zeros_length (eqb-true n 0 e) k (ap (λ (x : Header). x.shortest) q ∙ s)

indefinite_ended : (i : Bool) (end : Option ℕ) (at : ℕ) → i ≡ true → EndedBy i end at [] (0 ∷ 0 ∷ [])
indefinite_ended true end at e = refl
indefinite_ended false end at e = absurd cc

pub close_sound : (bd : Bound) (c d : Cursor) (u : Unit {0}) → close_of bd c ≡ Ok (u, d) → (o : List ℕ) × Ended bd c.at [] o × Moves c o d
unfolding close_of end_in
close_sound bd c d u e = elim (chosen (ends_here bd c.at) (okay (tt, c)) (end_in bd c) (okay (u, d)) e) [
  | inl x ↦ ([], here_ended bd.indefinite bd.end c.at x.0, subst (λ q. Moves c [] q) (ok_place x.1) (moves_nothing c))
  | inr x ↦
      let s = bind_ok (expected_of bd) _ c x.1 in
      let h = s.0 in
      elim (branch (bd.indefinite && is_zeros h) (give tt) (refuse UnexpectedElement) s.1 (okay (u, d)) s.3) [
        | inl y ↦
            let i = and_first bd.indefinite (is_zeros h) y.0 in
            let z = and_second bd.indefinite (is_zeros h) y.0 in
            let z1 = and_first (eqb h.ident 0) (h.shortest && is_empty h.len) z in
            let z2 = and_second (eqb h.ident 0) (h.shortest && is_empty h.len) z in
            let n = entered {m = ber} bd 0 c s.1 h (λ q. omega arith) s.2 (eqb-true h.ident 0 z1) in
            let l =
            empty_length bd s.1.at s.1.limit n.sizes h h.len n.has (and_second h.shortest (is_empty h.len) z2)
            (and_first h.shortest (is_empty h.len) z2) in (
              0 ∷ 0 ∷ [],
              indefinite_ended bd.indefinite bd.end c.at i,
              subst (λ q. Moves c (0 ∷ 0 ∷ []) q) (ok_place y.1) (subst (λ q. Moves c (0 ∷ q) s.1) l n.moves),
            )
        | inr y ↦ absurd (let z = y.1 in cc)
      ]
]

pub at_end_here : (bd : Bound) (at e : ℕ) → bd.indefinite ≡ false → bd.end ≡ Some e → at ≡ e → ends_here bd at ≡ true
at_end_here bd at e i j k = let t = eqb_yes at e k in rw (i, j, t) refl

pub close_complete : (bd : Bound) (c d : Cursor) (o : List ℕ) → Ended bd c.at [] o → Moves c o d → Room bd.end c.limit c.at (length o)
    → close_of bd c ≡ Ok (tt, d)
unfolding close_of end_in
close_complete bd c d o e p r = go bd.indefinite refl e
  where
    go : (i : Bool) → bd.indefinite ≡ i → EndedBy i bd.end c.at [] o → close_of bd c ≡ Ok (tt, d)
    go true k q =
        let p' : Moves c (0 ∷ 0 ∷ []) d = subst (λ t. Moves c t d) q p in
        let r' : Room bd.end c.limit c.at 2 = room_less bd.end c.limit c.at (length o) 2 (omega (arith, ap length q)) r in
        let one = header_sized bd 0 0 (0 ∷ []) (0 ∷ []) c d (low (omega arith) (λ z. omega arith)) (short (omega arith)) (λ z. refl) p' r' in
        let last : Reader (Unit {0}) = cond (bd.indefinite && true) (give tt) (refuse UnexpectedElement) in
        let test : last d ≡ okay (tt, d) = rw k refl in
        let two : (expected_of bd >>= λ h. cond (bd.indefinite && is_zeros h) (give tt) (refuse UnexpectedElement)) c ≡ okay (tt, d) =
        bound_again (expected_of bd) _ c _ d one ∙ test in
        let three = not_here bd c.limit c.at (room_less bd.end c.limit c.at 2 1 (omega arith) r') in
        rw three two
    go false k q =
        let z : c.at ≡ c.at + 0 = omega arith in
        let three = at_end_here bd c.at (c.at + 0) k q.1 z in
        let p' : Moves c [] d = subst (λ t. Moves c t d) q.0 p in
        let same : c ≡ d = moved (moves_nothing c) p' p'.rest in
        rw three (ap (λ t. okay (tt, t)) same)

pub close_cut : (bd : Bound) (c : Cursor) {stopped : ℕ} → close_of bd c ≡ Err (stop Truncated stopped)
    → CutField c.rest × Room bd.end c.limit c.at (length c.rest + 1)
unfolding close_of end_in
close_cut bd c {stopped = stopped} e = elim (chosen (ends_here bd c.at) (okay (tt, c)) (end_in bd c) (bad (stop Truncated stopped)) e) [
  | inl x ↦ absurd (let k = x.1 in cc)
  | inr x ↦ elim (bind_err (expected_of bd) _ c x.1) [
    | inl y ↦ header_cut bd c y
    | inr y ↦ elim (branch (bd.indefinite && is_zeros y.0) (give tt) (refuse UnexpectedElement) y.1 (bad (stop Truncated stopped)) y.3) [
      | inl z ↦ absurd (let k = z.1 in cc)
      | inr z ↦ absurd (let k = z.1 in cc)
    ]
  ]
]

-- the end, and the value made
pub ends_reads : {A : Type 0} {m : Rules} (a : A) → ReadsTo m nothing (λ u. a) (λ bd. close_of bd >>= λ u. give a)
ends_reads a = record {
  sound = λ bd c d b i e.
      let s = bind_ok (close_of bd) _ c e in
      let p = close_sound bd c s.1 s.0 s.2 in
      (tt, [], p.0, p.1, subst (λ q. Moves c p.0 q) (ok_place s.3) p.2, refl, ok_value s.3);
  complete = λ bd c d b o w i p s e r. bound_again (close_of bd) _ c tt d (close_complete bd c d o (subst (λ t. Ended bd c.at t o) s e) p r);
  cut = λ bd c at i e. elim (bind_err (close_of bd) _ c e) [
    | inl x ↦ let y = close_cut bd c x in ((λ _. cut_first y.0), y.1)
    | inr x ↦ absurd (let k = x.3 in cc)
  ];
}

-- the next octet

again_ok : {A : Type 0} (c : Cursor) (r : Result (A × Cursor) Stop) (x : A) (d : Cursor) → again c r ≡ Ok (x, d) → c ≡ d
again_ok c (Ok p) x d e = ok_place e
again_ok c (Err f) x d e = absurd cc

again_err : {A : Type 0} (c : Cursor) (r : Result (A × Cursor) Stop) (f : Stop) → again c r ≡ Err f → r ≡ Err f
again_err c (Ok p) f e = absurd cc
again_err c (Err g) f e = cc

pub peek_same : (bd : Bound) (c d : Cursor) (o : Option ℕ) → peek_of bd c ≡ Ok (o, d) → c ≡ d
unfolding peek_of look_of
peek_same bd c d o e =
    elim (chosen (ends_here bd c.at) (okay (None, c)) ((look_of bd.end >>= λ b. give (unless_end bd.indefinite (Some b))) c) (okay (o, d)) e) [
      | inl x ↦ ok_place x.1
      | inr x ↦ let s = bind_ok (look_of bd.end) _ c x.1 in again_ok c (octet_of bd.end c) s.0 s.1 s.2 ∙ ok_place s.3
    ]

pub peek_some : (bd : Bound) (c : Cursor) (t : ℕ) (r : List ℕ) → c.rest ≡ t ∷ r → IsOctet t → Room bd.end c.limit c.at 1
    → peek_of bd c ≡ Ok (unless_end bd.indefinite (Some t), c)
unfolding peek_of look_of
peek_some bd c t r e o room =
    let one = octet_complete bd.end c (place (c.at + 1) c.limit r) t (record { rest = e; at = refl; limit = refl }) o room in
    let two : look_of bd.end c ≡ okay (t, c) = ap (λ z. again c z) one in
    let three = not_here bd c.limit c.at room in
    rw three (bound_again (look_of bd.end) _ c t c two)

pub peek_end : (bd : Bound) (c d : Cursor) (o : List ℕ) → Ended bd c.at [] o → Moves c o d → Room bd.end c.limit c.at (length o) → peek_of bd c ≡ Ok (None, c)
unfolding peek_of
peek_end bd c d o e p r = go bd.indefinite refl e
  where
    go : (i : Bool) → bd.indefinite ≡ i → EndedBy i bd.end c.at [] o → peek_of bd c ≡ Ok (None, c)
    go true k q =
        peek_some bd c 0 (0 ∷ d.rest) (p.rest ∙ ap (λ t. t ++ d.rest) q) (omega arith)
        (room_less bd.end c.limit c.at (length o) 1 (omega (arith, ap length q)) r) ∙ ap (λ t. okay (unless_end t (Some 0), c)) k
    go false k q = let three = at_end_here bd c.at (c.at + 0) k q.1 (omega arith) in rw three refl

-- nothing yet of a field
cut_nothing : {p : List ℕ} → p ≡ [] → CutField p
cut_nothing e =
    record {
      rest = 5 ∷ 0 ∷ [];
      proper = λ z. absurd cc;
      frame = subst (λ t. Frame (t ++ (5 ∷ 0 ∷ []))) (sym e)
          (definite [] (low {t = 5} (omega arith) (λ z. omega arith)) (short (omega arith)));
      field = λ z. let k : 5 ∷ 0 ∷ [] ≡ 0 ∷ 0 ∷ z.0 = ap (λ t. t ++ (5 ∷ 0 ∷ [])) (sym e) ∙ z.1 in absurd cc;
    }

pub peek_cut : (bd : Bound) (c : Cursor) {stopped : ℕ} → peek_of bd c ≡ Err (stop Truncated stopped)
    → CutField c.rest × Room bd.end c.limit c.at (length c.rest + 1)
unfolding peek_of look_of
peek_cut bd c {stopped = stopped} e = elim (chosen (ends_here bd c.at) (okay (None, c))
    ((look_of bd.end >>= λ b. give (unless_end bd.indefinite (Some b))) c) (bad (stop Truncated stopped)) e) [
      | inl x ↦ absurd (let k = x.1 in cc)
      | inr x ↦ elim (bind_err (look_of bd.end) _ c x.1) [
        | inl y ↦
            let k = octet_cut bd.end c (again_err c (octet_of bd.end c) (stop Truncated stopped) y) in
            let l = nil_length k.0 in
            (cut_nothing k.0, room_less bd.end c.limit c.at 1 (length c.rest + 1) (omega (arith, l)) k.1)
        | inr y ↦ absurd (let k = y.3 in cc)
      ]
    ]

-- the first octet of frames is an octet
frame_octet : {b : List ℕ} (t : ℕ) (r : List ℕ) → Frame b → b ≡ t ∷ r → IsOctet t
frame_octet t r (definite c (low o p) q) e = subst IsOctet (let k = e in cc) o
frame_octet t r (definite c (high o p _ _ _ _) q) e = subst IsOctet (let k = e in cc) o
frame_octet t r (indefinite (low o p) q f) e = subst IsOctet (let k = e in cc) o
frame_octet t r (indefinite (high o p _ _ _ _) q f) e = subst IsOctet (let k = e in cc) o

first_of : (b c : List ℕ) (t : ℕ) (r : List ℕ) → ((u : ℕ) × (s : List ℕ) × (b ≡ u ∷ s)) → b ++ c ≡ t ∷ r → (s : List ℕ) × (b ≡ t ∷ s)
first_of b c t r k e = let z : k.0 ∷ (k.1 ++ c) ≡ t ∷ r = ap (λ x. x ++ c) (sym k.2) ∙ e in (k.1, k.2 ∙ (let w : k.0 ≡ t = cc in ap (λ x. x ∷ k.1) w))

pub frames_octet : {b : List ℕ} (t : ℕ) (r : List ℕ) → Frames b → b ≡ t ∷ r → IsOctet t
frames_octet t r none e = absurd cc
frames_octet t r (more {f = f} {c = c} p n q) e =
    let k = frame_two p in
    let s = first_of f c t r (k.0, k.1 ∷ k.2, k.3) e in
    frame_octet t s.0 p s.1

pub field_octet : {b : List ℕ} (t : ℕ) (r : List ℕ) → Frame b → b ≡ t ∷ r → IsOctet t
field_octet t r p e = frame_octet t r p e

again_from : {A : Type 0} (c : Cursor) (r : Result (A × Cursor) Stop) (x : A) (d : Cursor) → again c r ≡ Ok (x, d) → (e : Cursor) × (r ≡ Ok (x, e))
again_from c (Ok p) x d e = (p.1, ap (λ y. okay (y, p.1)) (ok_value e))
again_from c (Err f) x d e = absurd cc

-- where an octet was seen there is room for it
seen_octet : (i : Bool) (b t : ℕ) → unless_end i (Some b) ≡ Some t → b ≡ t
seen_octet i b t e = go (i && eqb b 0) e
  where
    go : (k : Bool) → cond k None (Some b) ≡ Some t → b ≡ t
    go true e = absurd cc
    go false e = cc

pub peek_room : (bd : Bound) (c d : Cursor) (t : ℕ) → peek_of bd c ≡ Ok (Some t, d) → (c.at < c.limit) × (c ≡ d) × ((r : List ℕ) × (c.rest ≡ t ∷ r))
unfolding peek_of look_of
peek_room bd c d t e =
    elim (chosen (ends_here bd c.at) (okay (None, c)) ((look_of bd.end >>= λ b. give (unless_end bd.indefinite (Some b))) c) (okay (Some t, d)) e) [
      | inl x ↦ absurd (let k : None ≡ Some t = ok_value x.1 in cc)
      | inr x ↦
          let s = bind_ok (look_of bd.end) _ c x.1 in
          let a = again_from c (octet_of bd.end c) s.0 s.1 s.2 in
          let o = octet_sound bd.end c a.0 s.0 a.1 in (
            omega (arith, o.room.1),
            again_ok c (octet_of bd.end c) s.0 s.1 s.2 ∙ ok_place s.3,
            (a.0.rest, o.moves.rest ∙ ap (λ x. x ∷ a.0.rest) (seen_octet bd.indefinite s.0 t (ok_value s.3))),
          )
    ]
