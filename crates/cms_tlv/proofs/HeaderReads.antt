-- A header, read and spelled.
use Rattle.std.proofs.Common.{◌≡◌, ◌≢◌, ◌⊎◌, inl, inr, ℕ, zero, suc, ◌+◌, ◌*◌, ◌-◌, ◌/◌, ◌%◌, ◌^◌, ◌<◌, ◌≤◌, Bool, true, false, not, cond, eqb, ltb, leb, ◌&&◌, List, [], ◌∷◌, ◌++◌, length, replicate, Option, Some, None, Result, Ok, Err, refl, sym, ap, subst, ◌∙◌, arith, append_assoc, length-append}
use Rattle.std.specs.Prelude.{IfSome}
use Rattle.std.proofs.lemmas.List.{append-nil, length-replicate}
use Rattle.std.proofs.lemmas.Bool.{ltb-false, ltb-true, eqb-true}
use Rattle.cms_tlv.specs.declared.fault.Reason.TheVariants.{Truncated, TooLarge, LengthReserved, LengthTooLong, IndefinitePrimitive, Overrun, UnexpectedElement, SignedAttrsNotDer}
use Rattle.cms_tlv.specs.declared.bound.Bound.{Bound}
use Rattle.cms_tlv.specs.declared.bound.Header.{Header}
use Rattle.cms_tlv.specs.Reading.{Cursor, Stop, stop, ◌>>=◌, give, refuse, octet_of, rest_of_tag, tag_of, number_of, is_over, is_shortest, definite_length_of, long_of, indefinite_length_of, after_first, is_at, ends_here, header_of, expected_of}
use Rattle.cms_tlv.specs.Headers.{IsOctet, AreOctets, IsConstructed, IsBase128, IsHeader, IsIdentifier, low, high, IsLength, short, long, big_endian}
use Rattle.cms_tlv.specs.Frames.{Frame, definite, IsEnd}
use Rattle.cms_tlv.specs.Clauses.{Room}
use Rattle.cms_tlv.proofs.Inverse.{okay, bad, ok_value, ok_place, passed, other, branch, bind_ok, bind_err, bound_again, ltb_yes, ltb_no, eqb_yes, eqb_no, not_eq, and_false_second}
use Rattle.cms_tlv.proofs.ReadingLaws.{Moves, moves_nothing, moves_then, midway, moves_prefix, moves_suffix, moved, room_less, room_from, CutField}
use Rattle.cms_tlv.proofs.OctetReads.{octet_sound, octet_complete, octet_cut, nil_length}
use Rattle.cms_tlv.proofs.NumberReads.{number_sound, number_complete, number_cut, FirstNot80, tag_sound, tag_complete, tag_cut}

abbrev pub shortest_by : List ℕ → ℕ → Bool
shortest_by [] n = false
shortest_by (f ∷ []) n = true
shortest_by (f ∷ b ∷ bs) n = is_shortest (suc (length bs)) n

-- the header of a definite length
abbrev pub sized : Bound → ℕ → ℕ → ℕ → Bool → Header
sized bd at ident n shortest =
    record { ident = ident; len = Some n; inner = record { end = Some (at + n); indefinite = false; strict = bd.strict }; shortest = shortest }

abbrev pub opened : Bound → ℕ → Header
opened bd ident = record { ident = ident; len = None; inner = record { end = bd.end; indefinite = true; strict = bd.strict }; shortest = false }

fits : (end : Option ℕ) (limit at n : ℕ) → is_over end at n ≡ false → ltb limit (at + n) ≡ false → Room end limit at n
fits None limit at n p q = (tt, ltb-false limit (at + n) q)
fits (Some e) limit at n p q = (ltb-false e (at + n) p, ltb-false limit (at + n) q)

pub not_over : (end : Option ℕ) (limit at n : ℕ) → Room end limit at n → is_over end at n ≡ false
not_over None limit at n r = refl
not_over (Some e) limit at n r = ltb_no e (at + n) r.0

strict_so : (a b : Bool) → (a && not b) ≡ false → a ≡ true → b ≡ true
strict_so true true e h = refl
strict_so true false e h = absurd cc
strict_so false b e h = absurd cc

pub so_strict : (a b : Bool) → (a ≡ true → b ≡ true) → (a && not b) ≡ false
so_strict true true e = refl
so_strict true false e = absurd (let k = e refl in cc)
so_strict false b e = refl

-- a definite length was accepted
pub record Sized (bd : Bound) (ident n : ℕ) (shortest : Bool) (c d : Cursor) (h : Header) : Type 0 where
  pub same : sized bd c.at ident n shortest ≡ h
  pub here : c ≡ d
  pub room : Room bd.end c.limit c.at n
  pub strict : bd.strict ≡ true → shortest ≡ true

sized_sound : (bd : Bound) (ident n : ℕ) (shortest : Bool) (c d : Cursor) (h : Header)
    → definite_length_of bd ident shortest n c ≡ Ok (h, d) → Sized bd ident n shortest c d h
unfolding definite_length_of
sized_sound bd ident n shortest c d h e =
    let answer : Result (Header × Cursor) Stop = okay (sized bd c.at ident n shortest, c) in
    let g =
    passed (is_over bd.end c.at n) (stop Overrun c.at) (cond (ltb c.limit (c.at + n)) (bad (stop TooLarge c.at))
    (cond (bd.strict && not shortest) (bad (stop SignedAttrsNotDer c.at)) answer)) h d e in
    let k = passed (ltb c.limit (c.at + n)) (stop TooLarge c.at) (cond (bd.strict && not shortest) (bad (stop SignedAttrsNotDer c.at)) answer) h d g.1 in
    let j = passed (bd.strict && not shortest) (stop SignedAttrsNotDer c.at) answer h d k.1 in
    record { same = ok_value j.1; here = ok_place j.1; room = fits bd.end c.limit c.at n g.0 k.0; strict = strict_so bd.strict shortest j.0 }

pub sized_complete : (bd : Bound) (ident n : ℕ) (shortest : Bool) (c : Cursor) → Room bd.end c.limit c.at n
    → (bd.strict ≡ true → shortest ≡ true) → definite_length_of bd ident shortest n c ≡ Ok (sized bd c.at ident n shortest, c)
unfolding definite_length_of
sized_complete bd ident n shortest c r s =
    let x = not_over bd.end c.limit c.at n r in
    let y = ltb_no c.limit (c.at + n) r.1 in
    let z = so_strict bd.strict shortest s in
    rw (x, y, z) refl

sized_not_cut : (bd : Bound) (ident n : ℕ) (shortest : Bool) (c : Cursor) {stopped : ℕ}
    → definite_length_of bd ident shortest n c ≡ Err (stop Truncated stopped) → ⊥
unfolding definite_length_of
sized_not_cut bd ident n shortest c {stopped = stopped} e =
    let answer : Result (Header × Cursor) Stop = okay (sized bd c.at ident n shortest, c) in
    let g =
    other (is_over bd.end c.at n) (stop Overrun c.at) (stop Truncated stopped)
    (cond (ltb c.limit (c.at + n)) (bad (stop TooLarge c.at))
    (cond (bd.strict && not shortest) (bad (stop SignedAttrsNotDer c.at)) answer)) (λ z. absurd cc) e in
    let k =
    other (ltb c.limit (c.at + n)) (stop TooLarge c.at) (stop Truncated stopped)
    (cond (bd.strict && not shortest) (bad (stop SignedAttrsNotDer c.at)) answer) (λ z. absurd cc) g.1 in
    let j = other (bd.strict && not shortest) (stop SignedAttrsNotDer c.at) (stop Truncated stopped) answer (λ z. absurd cc) k.1 in
    let i = j.1 in absurd cc

-- what a header says of its length octets
abbrev pub HasLength : Bound → ℕ → ℕ → List ℕ → Header → Option ℕ → Type 0
HasLength bd at limit l h None = (l ≡ 0x80 ∷ []) × IsConstructed h.ident × (bd.strict ≡ false) × (opened bd h.ident ≡ h)
HasLength bd at limit l h (Some n) = IsLength l n × (bd.strict ≡ true → shortest_by l n ≡ true) × Room bd.end limit at n
    × (sized bd at h.ident n (shortest_by l n) ≡ h)

-- the length octets behind an identifier
pub record Lengths (bd : Bound) (i : ℕ) (f : ℕ) (c d : Cursor) (h : Header) : Type 0 where
  pub more : List ℕ
  pub moves : Moves c more d
  pub ident : h.ident ≡ i
  pub has : HasLength bd d.at d.limit (f ∷ more) h h.len

by_sized : (bd : Bound) (i f n : ℕ) (shortest : Bool) (more : List ℕ) (c d : Cursor) (h : Header) → IsLength (f ∷ more) n
    → shortest_by (f ∷ more) n ≡ shortest → Moves c more d → Sized bd i n shortest d d h → Lengths bd i f c d h
by_sized bd i f n shortest more c d h k b p s =
    let e : sized bd d.at i n (shortest_by (f ∷ more) n) ≡ h = rw b s.same in
    subst (λ x. Lengths bd i f c d x) e (record {
      more = more;
      moves = p;
      ident = refl;
      has = (k, (λ t. b ∙ s.strict t), subst (λ (q : Cursor). Room bd.end q.limit q.at n) s.here s.room, refl);
    })

-- first length octet f, and what is behind it
pub after_sound : (bd : Bound) (i f : ℕ) (c d : Cursor) (h : Header) → IsOctet f → after_first bd i f c ≡ Ok (h, d) → Lengths bd i f c d h
unfolding after_first long_of indefinite_length_of
after_sound bd i f c d h o e =
    elim (branch (ltb f 128) (definite_length_of bd i true f)
    (cond (eqb f 128) (indefinite_length_of bd i) (cond (eqb f 255) (refuse LengthReserved)
    (cond (ltb 136 f) (refuse LengthTooLong) (long_of bd i (f - 128))))) c (okay (h, d)) e) [
      | inl x ↦
          let s = sized_sound bd i f true c d h x.1 in
          by_sized bd i f f true [] c d h (short (ltb-true f 128 x.0)) refl (subst (λ q. Moves c [] q) s.here (moves_nothing c))
          (subst (λ q. Sized bd i f true q d h) s.here s)
      | inr x ↦ elim (branch (eqb f 128) (indefinite_length_of bd i)
          (cond (eqb f 255) (refuse LengthReserved) (cond (ltb 136 f) (refuse LengthTooLong) (long_of bd i (f - 128)))) c (okay (h, d)) x.1) [
            | inl y ↦ elim (branch (eqb ((i / 32) % 2) 0) (refuse IndefinitePrimitive)
                (cond bd.strict (refuse SignedAttrsNotDer) (give (opened bd i))) c (okay (h, d)) y.1) [
                  | inl z ↦ absurd (let k = z.1 in cc)
                  | inr z ↦ elim (branch bd.strict (refuse SignedAttrsNotDer) (give (opened bd i)) c (okay (h, d)) z.1) [
                    | inl w ↦ absurd (let k = w.1 in cc)
                    | inr w ↦
                        let v : opened bd i ≡ h = ok_value w.1 in
                        let q : c ≡ d = ok_place w.1 in
                        let one : IsConstructed i = constructed i (not_eq ((i / 32) % 2) 0 z.0) in
                        let e80 : f ≡ 0x80 = eqb-true f 128 y.0 in
                        subst (λ t. Lengths bd i f c d t) v (subst (λ t. Lengths bd i f c t (opened bd i)) q
                        (record { more = []; moves = moves_nothing c; ident = refl; has = (ap (λ t. t ∷ []) e80, one, w.0, refl) }))
                  ]
                ]
            | inr y ↦ elim (branch (eqb f 255) (refuse LengthReserved) (cond (ltb 136 f) (refuse LengthTooLong) (long_of bd i (f - 128))) c (okay (h, d)) y.1) [
              | inl z ↦ absurd (let k = z.1 in cc)
              | inr z ↦ elim (branch (ltb 136 f) (refuse LengthTooLong) (long_of bd i (f - 128)) c (okay (h, d)) z.1) [
                | inl w ↦ absurd (let k = w.1 in cc)
                | inr w ↦
                    let above : 128 ≤ f = ltb-false f 128 x.0 in
                    let apart : f ≢ 128 = not_eq f 128 y.0 in
                    let below : f ≤ 136 = ltb-false 136 f w.0 in
                    long_sound bd i f c d h (omega arith) below w.1
              ]
            ]
          ]
    ]
  where
    constructed : (i : ℕ) → (i / 32) % 2 ≢ 0 → IsConstructed i
    constructed i n = omega arith

    long_sound : (bd : Bound) (i f : ℕ) (c d : Cursor) (h : Header) → 128 < f → f ≤ 136
        → (number_of bd.end (f - 128) 0 >>= λ n. definite_length_of bd i (is_shortest (f - 128) n) n) c ≡ Ok (h, d) → Lengths bd i f c d h
    long_sound bd i f c d h a b e =
        let s = bind_ok (number_of bd.end (f - 128) 0) _ c e in
        let p = number_sound (f - 128) 0 bd.end c s.1 s.0 s.2 in
        let t = sized_sound bd i s.0 (is_shortest (f - 128) s.0) s.1 d h s.3 in
        by_bytes p.0 s.1 (subst (λ q. Moves c p.0 q) t.here p.1) p.2 (omega (arith, p.3)) s.0 (omega (arith, p.4))
        (is_shortest (f - 128) s.0) (ap (λ k. is_shortest k s.0) p.3) (subst (λ q. Sized bd i s.0 (is_shortest (f - 128) s.0) q d h) t.here t)
      where
        by_bytes : (bs : List ℕ) (m : Cursor) → Moves c bs d → AreOctets bs → f ≡ 128 + length bs → (n : ℕ) → n ≡ big_endian bs
            → (t : Bool) → is_shortest (length bs) n ≡ t → Sized bd i n t d d h → Lengths bd i f c d h
        by_bytes [] m p o l n v t k s = absurd (omega arith)
        by_bytes (x ∷ xs) m p o l n v t k s =
            let g : 0x81 + length xs ≡ f = omega arith in
            by_sized bd i f n t (x ∷ xs) c d h (subst (λ y. IsLength (y ∷ x ∷ xs) n) g
            (subst (λ y. IsLength ((0x81 + length xs) ∷ x ∷ xs) y) (sym v) (long (omega arith) o))) k p s

after_sized : (bd : Bound) (i f n : ℕ) (more : List ℕ) (c d : Cursor) → IsLength (f ∷ more) n
    → (bd.strict ≡ true → shortest_by (f ∷ more) n ≡ true) → Moves c more d → Room bd.end c.limit c.at (length more + n)
    → after_first bd i f c ≡ Ok (sized bd d.at i n (shortest_by (f ∷ more) n), d)
unfolding after_first long_of
after_sized bd i f n more c d (short h) st p r =
    let x = ltb_yes f 128 h in
    let q : c ≡ d = moved (moves_nothing c) p p.rest in
    let one = sized_complete bd i f true c (room_less bd.end c.limit c.at (0 + f) f (omega arith) r) st in
    rw x (one ∙ ap (λ t. okay (sized bd t.at i f true, t)) q)
after_sized bd i f n more c d (long {d = b} {ds = bs} h o) st p r =
    let x = ltb_no (0x81 + length bs) 128 (omega arith) in
    let y = eqb_no (0x81 + length bs) 128 (λ e. omega arith) in
    let z = eqb_no (0x81 + length bs) 255 (λ e. omega arith) in
    let w = ltb_no 136 (0x81 + length bs) (omega arith) in
    let k : 0x81 + length bs - 128 ≡ suc (length bs) = omega arith in
    let v : ℕ = big_endian (b ∷ bs) in
    let u : 0 * 256 ^ suc (length bs) + v ≡ v = omega arith in
    let one = number_complete (b ∷ bs) 0 bd.end c d p o (room_less bd.end c.limit c.at (suc (length bs) + v) (suc (length bs)) (omega arith) r) in
    let one' : number_of bd.end (suc (length bs)) 0 c ≡ okay (v, d) = one ∙ ap (λ t. okay (t, d)) u in
    let two =
    sized_complete bd i v (is_shortest (suc (length bs)) v) d
    (room_from bd.end c.limit c.at d.limit d.at (suc (length bs) + v) v (sym p.limit) (omega (arith, p.at)) r) st in
    rw (x, y, z, w, k) (bound_again (number_of bd.end (suc (length bs)) 0) _ c v d one' ∙ two)

pub after_opened : (bd : Bound) (i : ℕ) (c : Cursor) → IsConstructed i → bd.strict ≡ false → after_first bd i 0x80 c ≡ Ok (opened bd i, c)
unfolding after_first indefinite_length_of
after_opened bd i c k s =
    let x = eqb_no ((i / 32) % 2) 0 (λ e. omega (arith, k, e)) in
    rw (x, s) refl

-- length octets that do not yet end, and the contents
pub record CutLength (f : ℕ) (p : List ℕ) : Type 0 where
  pub not_0 : f ≢ 0
  pub rest : List ℕ
  pub proper : rest ≢ []
  pub length : List ℕ
  pub contents : List ℕ
  pub parts : f ∷ (p ++ rest) ≡ length ++ contents
  pub counts : IsLength length (Rattle.std.proofs.Common.length contents)

zeros_octets : (n : ℕ) → AreOctets (replicate n 0)
zeros_octets zero = tt
zeros_octets (suc n) = (omega arith, zeros_octets n)

join_octets : (a b : List ℕ) → AreOctets a → AreOctets b → AreOctets (a ++ b)
join_octets [] b p q = q
join_octets (x ∷ a) b p q = (p.0, join_octets a b p.1 q)

replicate_proper : (n : ℕ) (x : List ℕ) → 0 < n → replicate n 0 ++ x ≡ [] → ⊥
replicate_proper zero x h e = omega arith
replicate_proper (suc n) x h e = absurd cc

long_cut : (f : ℕ) (p : List ℕ) → 128 < f → f ≤ 136 → AreOctets p → length p + 1 ≤ f - 128 → CutLength f p
long_cut f p a b o s =
    by_bytes (p ++ replicate k 0) refl (join_octets p (replicate k 0) o (zeros_octets k))
    (omega (arith, length-append p (replicate k 0), length-replicate {A = ℕ} k 0))
  where
    k : ℕ
    k = f - 128 - length p

    by_bytes : (bs : List ℕ) → p ++ replicate k 0 ≡ bs → AreOctets bs → length (p ++ replicate k 0) ≡ f - 128 → CutLength f p
    by_bytes [] e o' l = absurd (omega (arith, ap length e))
    by_bytes (x ∷ xs) e o' l =
        let n : ℕ = big_endian (x ∷ xs) in
        let g : 0x81 + length xs ≡ f = omega (arith, ap length e) in
        let zs : List ℕ = replicate n 0 in
        let z : n ≡ length zs = sym (length-replicate {A = ℕ} n 0) in
        record {
          not_0 = λ q. omega arith;
          rest = replicate k 0 ++ zs;
          proper = replicate_proper k zs (omega arith);
          length = f ∷ x ∷ xs;
          contents = zs;
          parts = ap (λ t. f ∷ t) (sym (append_assoc p (replicate k 0) zs) ∙ ap (λ t. t ++ zs) e);
          counts = subst (λ y. IsLength (y ∷ x ∷ xs) (length zs)) g (subst (λ y. IsLength ((0x81 + length xs) ∷ x ∷ xs) y) z (long (omega arith) o'));
        }

after_cut : (bd : Bound) (i f : ℕ) (c : Cursor) {stopped : ℕ} → IsOctet f → after_first bd i f c ≡ Err (stop Truncated stopped)
    → CutLength f c.rest × Room bd.end c.limit c.at (length c.rest + 1)
unfolding after_first long_of indefinite_length_of
after_cut bd i f c {stopped = stopped} o e = elim (branch (ltb f 128) (definite_length_of bd i true f)
    (cond (eqb f 128) (indefinite_length_of bd i) (cond (eqb f 255) (refuse LengthReserved)
    (cond (ltb 136 f) (refuse LengthTooLong) (long_of bd i (f - 128))))) c (bad (stop Truncated stopped)) e) [
      | inl x ↦ absurd (sized_not_cut bd i f true c x.1)
      | inr x ↦ elim (branch (eqb f 128) (indefinite_length_of bd i)
          (cond (eqb f 255) (refuse LengthReserved) (cond (ltb 136 f) (refuse LengthTooLong) (long_of bd i (f - 128)))) c
          (bad (stop Truncated stopped)) x.1) [
            | inl y ↦ elim (branch (eqb ((i / 32) % 2) 0) (refuse IndefinitePrimitive)
                (cond bd.strict (refuse SignedAttrsNotDer) (give (opened bd i))) c (bad (stop Truncated stopped)) y.1) [
                  | inl z ↦ absurd (let k = z.1 in cc)
                  | inr z ↦ elim (branch bd.strict (refuse SignedAttrsNotDer) (give (opened bd i)) c (bad (stop Truncated stopped)) z.1) [
                    | inl w ↦ absurd (let k = w.1 in cc)
                    | inr w ↦ absurd (let k = w.1 in cc)
                  ]
                ]
            | inr y ↦ elim (branch (eqb f 255) (refuse LengthReserved) (cond (ltb 136 f) (refuse LengthTooLong) (long_of bd i (f - 128))) c
                (bad (stop Truncated stopped)) y.1) [
                  | inl z ↦ absurd (let k = z.1 in cc)
                  | inr z ↦ elim (branch (ltb 136 f) (refuse LengthTooLong) (long_of bd i (f - 128)) c (bad (stop Truncated stopped)) z.1) [
                    | inl w ↦ absurd (let k = w.1 in cc)
                    | inr w ↦ elim (bind_err (number_of bd.end (f - 128) 0) _ c w.1) [
                      | inl u ↦
                          let above : 128 ≤ f = ltb-false f 128 x.0 in
                          let apart : f ≢ 128 = not_eq f 128 y.0 in
                          let below : f ≤ 136 = ltb-false 136 f w.0 in
                          let n = number_cut (f - 128) 0 bd.end c u in
                          (long_cut f c.rest (omega arith) below n.0 n.1, n.2)
                      | inr u ↦ absurd (sized_not_cut bd i u.0 (is_shortest (f - 128) u.0) u.1 u.3)
                    ]
                  ]
                ]
          ]
    ]

by_digits : (i : ℕ) (ds : List ℕ) (v : ℕ) → IsOctet i → i % 32 ≡ 31 → IsBase128 ds v → length ds ≤ 4 → FirstNot80 ds
    → 31 ≤ 0 * 128 ^ length ds + v → IsIdentifier i (i ∷ ds)
by_digits i [] v o t b l f h = elim b [ ]
by_digits i (x ∷ xs) v o t b l f h = high o t b f (omega arith) (omega arith)

-- an identifier, behind its first octet
pub tag_part_sound : (end : Option ℕ) (i : ℕ) (c d : Cursor) (u : Unit {0}) → IsOctet i → rest_of_tag end i c ≡ Ok (u, d)
    → (ds : List ℕ) × Moves c ds d × IsIdentifier i (i ∷ ds)
unfolding rest_of_tag
tag_part_sound end i c d u o e = elim (branch (eqb (i % 32) 31) (tag_of end 4 0) (give tt) c (okay (u, d)) e) [
  | inl x ↦ let t =
      tag_sound 4 0 end c d u x.1 in (
        t.0,
        t.1,
        by_digits i t.0 t.2.value o (eqb-true (i % 32) 31 x.0) t.2.digits t.2.short
            (t.2.first refl) t.2.high,
      )
  | inr x ↦ ([], subst (λ q. Moves c [] q) (ok_place x.1) (moves_nothing c), low o (not_eq (i % 32) 31 x.0))
]

tag_part_complete : (end : Option ℕ) (t i : ℕ) (ds : List ℕ) (c d : Cursor) → IsIdentifier t (i ∷ ds) → Moves c ds d
    → Room end c.limit c.at (length ds) → (t ≡ i) × IsOctet i × (rest_of_tag end i c ≡ Ok (tt, d))
unfolding rest_of_tag
tag_part_complete end t i ds c d (low o h) p r =
    let x = eqb_no (t % 32) 31 h in
    let q : c ≡ d = moved (moves_nothing c) p p.rest in
    (refl, o, rw x (ap (λ z. okay (tt, z)) q))
tag_part_complete end t i ds c d (high {d = b} {n = v} {ds = bs} o h q f s k) p r =
    let x = eqb_yes (t % 32) 31 h in
    (refl, o, rw x (tag_complete (b ∷ bs) v 4 0 end c d p q (omega arith) (λ _. f) (omega arith) r))

-- octets that do not yet end an identifier
record CutIdentifier (i : ℕ) (p : List ℕ) : Type 0 where
  not_0 : i ≢ 0
  rest : List ℕ
  proper : rest ≢ []
  whole : IsIdentifier i (i ∷ (p ++ rest))

tag_part_cut : (end : Option ℕ) (i : ℕ) (c : Cursor) {stopped : ℕ} → IsOctet i → rest_of_tag end i c ≡ Err (stop Truncated stopped)
    → CutIdentifier i c.rest × Room end c.limit c.at (length c.rest + 1)
unfolding rest_of_tag
tag_part_cut end i c {stopped = stopped} o e = elim (branch (eqb (i % 32) 31) (tag_of end 4 0) (give tt) c (bad (stop Truncated stopped)) e) [
  | inl x ↦
      let t = tag_cut 4 0 end c x.1 in
      let h : i % 32 ≡ 31 = eqb-true (i % 32) 31 x.0 in (
        record {
          not_0 = λ z. omega (arith, h, z);
          rest = t.0.rest;
          proper = t.0.proper;
          whole = by_digits i (c.rest ++ t.0.rest) t.0.ends.value o h t.0.ends.digits t.0.ends.short (t.0.ends.first refl) t.0.ends.high;
        },
        t.1,
      )
  | inr x ↦ absurd (let k = x.1 in cc)
]

-- an identifier and length octets were read
pub record Head (bd : Bound) (c d : Cursor) (h : Header) : Type 0 where
  pub more : List ℕ
  pub sizes : List ℕ
  pub moves : Moves c ((h.ident ∷ more) ++ sizes) d
  pub is_ident : IsIdentifier h.ident (h.ident ∷ more)
  pub has : HasLength bd d.at d.limit sizes h h.len

-- its octets are a header
pub header_is : {bd : Bound} {c d : Cursor} {h : Header} (k : Head bd c d h) → IsHeader h.ident ((h.ident ∷ k.more) ++ k.sizes)
header_is {bd = bd} {d = d} {h = h} k =
    record { identifier = h.ident ∷ k.more; sizes = k.sizes; parts = refl; is_identifier = k.is_ident; is_length = length_of h.len k.has }
  where
    length_of : (len : Option ℕ) → HasLength bd d.at d.limit k.sizes h len → ((n : ℕ) × IsLength k.sizes n) ⊎ ((k.sizes ≡ 0x80 ∷ []) × IsConstructed h.ident)
    length_of None x = inr (x.0, x.1)
    length_of (Some n) x = inl (n, x.0)

pub in_sound : (bd : Bound) (c d : Cursor) (h : Header) → header_of bd c ≡ Ok (h, d) → Head bd c d h
unfolding header_of
in_sound bd c d h e =
    let s = bind_ok (octet_of bd.end) _ c e in
    let one = octet_sound bd.end c s.1 s.0 s.2 in
    let t = bind_ok (rest_of_tag bd.end s.0) _ s.1 s.3 in
    let two = tag_part_sound bd.end s.0 s.1 t.1 t.0 one.octet t.2 in
    let u = bind_ok (octet_of bd.end) _ t.1 t.3 in
    let three = octet_sound bd.end t.1 u.1 u.0 u.2 in
    let four = after_sound bd s.0 u.0 u.1 d h three.octet u.3 in
    let k : s.0 ≡ h.ident = sym four.ident in
    record {
      more = two.0;
      sizes = u.0 ∷ four.more;
      moves = subst (λ x. Moves c ((x ∷ two.0) ++ (u.0 ∷ four.more)) d) k (moves_then (moves_then one.moves two.1) (moves_then three.moves four.moves));
      is_ident = subst (λ x. IsIdentifier x (x ∷ two.0)) k two.2;
      has = four.has;
    }

pub header_sound : (bd : Bound) (c d : Cursor) (h : Header) → expected_of bd c ≡ Ok (h, d) → Head bd c d h
unfolding expected_of
header_sound bd c d h e = in_sound bd c d h (passed (ends_here bd c.at) (stop UnexpectedElement c.at) (header_of bd c) h d e).1

not_at : (end : Option ℕ) (at : ℕ) → IfSome end (λ e. at + 1 ≤ e) → is_at end at ≡ false
not_at None at h = refl
not_at (Some e) at h = eqb_no at e (λ z. omega arith)

pub not_here : (bd : Bound) (limit at : ℕ) → Room bd.end limit at 1 → ends_here bd at ≡ false
not_here bd limit at r = let x = not_at bd.end at r.0 in and_false_second (not bd.indefinite) (is_at bd.end at) x

-- how the header goes on behind its identifier
pub record Begins (bd : Bound) (t f : ℕ) (i x : List ℕ) (c d : Cursor) : Type 0 where
  pub after : Cursor
  pub moves : Moves after x d
  pub at : after.at ≡ c.at + length i + 1
  pub limit : after.limit ≡ c.limit
  pub goes_on : header_of bd c ≡ after_first bd t f after

pub in_begins : (bd : Bound) (t f : ℕ) (i x : List ℕ) (c d : Cursor) → IsOctet f → IsIdentifier t i → Moves c (i ++ (f ∷ x)) d
    → Room bd.end c.limit c.at (length (i ++ (f ∷ x))) → Begins bd t f i x c d
unfolding header_of
in_begins bd t f [] x c d o id p r = elim id [ ]
in_begins bd t f (b ∷ ds) x c d o id p r =
    let l : length ((b ∷ ds) ++ (f ∷ x)) ≡ suc (length ds + suc (length x)) = omega (arith, length-append ds (f ∷ x)) in
    let m1 = midway c (b ∷ []) (ds ++ (f ∷ x)) d in
    let p1 = moves_suffix (b ∷ []) (ds ++ (f ∷ x)) p in
    let m2 = midway m1 ds (f ∷ x) d in
    let p2 = moves_suffix ds (f ∷ x) p1 in
    let m3 = midway m2 (f ∷ []) x d in
    let tag =
    tag_part_complete bd.end t b ds m1 m2 id (moves_prefix ds (f ∷ x) p1)
    (room_from bd.end c.limit c.at c.limit (c.at + 1) (length ((b ∷ ds) ++ (f ∷ x))) (length ds) refl (omega (arith, l)) r) in
    let one =
    octet_complete bd.end c m1 b (moves_prefix (b ∷ []) (ds ++ (f ∷ x)) p) tag.1
    (room_less bd.end c.limit c.at (length ((b ∷ ds) ++ (f ∷ x))) 1 (omega (arith, l)) r) in
    let three =
    octet_complete bd.end m2 m3 f (moves_prefix (f ∷ []) x p2) o
    (room_from bd.end c.limit c.at c.limit (c.at + 1 + length ds) (length ((b ∷ ds) ++ (f ∷ x))) 1 refl (omega (arith, l)) r) in
    let go : header_of bd c ≡ after_first bd b f m3 = bound_again (octet_of bd.end) _ c b m1 one
    ∙ bound_again (rest_of_tag bd.end b) _ m1 tt m2 tag.2 ∙ bound_again (octet_of bd.end) _ m2 f m3 three in
    record {
      after = m3;
      moves = moves_suffix (f ∷ []) x p2;
      at = omega arith;
      limit = refl;
      goes_on = subst (λ y. header_of bd c ≡ after_first bd y f m3) (sym tag.0) go;
    }

pub outer : (bd : Bound) (c : Cursor) → Room bd.end c.limit c.at 1 → expected_of bd c ≡ header_of bd c
unfolding expected_of
outer bd c r = let x = not_here bd c.limit c.at r in rw x refl

lengths_first : {l : List ℕ} {n : ℕ} → IsLength l n → (f : ℕ) × (x : List ℕ) × (l ≡ f ∷ x) × IsOctet f
lengths_first (short {n = n} h) = (n, [], refl, omega arith)
lengths_first (long {d = d} {ds = ds} h o) = (0x81 + length ds, d ∷ ds, refl, omega arith)

pub header_sized : (bd : Bound) (t n : ℕ) (i l : List ℕ) (c d : Cursor) → IsIdentifier t i → IsLength l n
    → (bd.strict ≡ true → shortest_by l n ≡ true) → Moves c (i ++ l) d → Room bd.end c.limit c.at (length (i ++ l) + n)
    → expected_of bd c ≡ Ok (sized bd d.at t n (shortest_by l n), d)
header_sized bd t n i l c d id k s p r = by_first (lengths_first k).0 (lengths_first k).1 (lengths_first k).2 (lengths_first k).3
  where
    by_first : (f : ℕ) (x : List ℕ) → l ≡ f ∷ x → IsOctet f → expected_of bd c ≡ Ok (sized bd d.at t n (shortest_by l n), d)
    by_first f x e o =
        let w : length (i ++ l) ≡ length i + suc (length x) = length-append i l ∙ ap (λ z. length i + length z) e in
        let w' : length (i ++ (f ∷ x)) ≡ length i + suc (length x) = length-append i (f ∷ x) in
        let p' : Moves c (i ++ (f ∷ x)) d = subst (λ z. Moves c (i ++ z) d) e p in
        let b = in_begins bd t f i x c d o id p' (room_less bd.end c.limit c.at (length (i ++ l) + n) (length (i ++ (f ∷ x))) (omega (arith, w, w')) r) in
        let a =
        after_sized bd t f n x b.after d (subst (λ z. IsLength z n) e k) (λ z. ap (λ y. shortest_by y n) (sym e) ∙ s z) b.moves
        (room_from bd.end c.limit c.at b.after.limit b.after.at (length (i ++ l) + n) (length x + n) (sym b.limit)
        (omega (arith, w, b.at)) r) in
        outer bd c (room_less bd.end c.limit c.at (length (i ++ l) + n) 1 (omega (arith, w)) r) ∙ b.goes_on ∙ a
        ∙ ap (λ y. okay (sized bd d.at t n (shortest_by y n), d)) (sym e)

pub header_opened : (bd : Bound) (t : ℕ) (i : List ℕ) (c d : Cursor) → IsIdentifier t i → IsConstructed t → bd.strict ≡ false
    → Moves c (i ++ (0x80 ∷ [])) d → Room bd.end c.limit c.at (length (i ++ (0x80 ∷ []))) → expected_of bd c ≡ Ok (opened bd t, d)
header_opened bd t i c d id k s p r =
    let w : length (i ++ (0x80 ∷ [])) ≡ length i + 1 = length-append i (0x80 ∷ []) in
    let b = in_begins bd t 0x80 i [] c d (omega arith) id p r in
    let q : b.after ≡ d = moved (moves_nothing b.after) b.moves b.moves.rest in
    outer bd c (room_less bd.end c.limit c.at (length (i ++ (0x80 ∷ []))) 1 (omega (arith, w)) r) ∙ b.goes_on
    ∙ after_opened bd t b.after k s ∙ ap (λ y. okay (opened bd t, y)) q

-- a header that begins so is no end of contents
second_not_0 : (i x : List ℕ) (t f : ℕ) → IsIdentifier t i → f ≢ 0 → IsEnd (i ++ (f ∷ x)) → ⊥
second_not_0 i x t f (low {t = u} o h) n (z, e) = n cc
second_not_0 i x t f (high {t = u} o h q g s k) n (z, e) = let y : u ≡ 0 = cc in omega (arith, h, y)

first_not_0 : (t : ℕ) (x : List ℕ) → t ≢ 0 → IsEnd (t ∷ x) → ⊥
first_not_0 t x n (z, e) = n cc

-- a frame of one header that ends with a length and contents
cut_with : {p : List ℕ} {t : ℕ} (i l c x : List ℕ) → p ++ x ≡ i ++ (l ++ c) → IsIdentifier t i → IsLength l (length c) → x ≢ []
    → (IsEnd (i ++ (l ++ c)) → ⊥) → CutField p
cut_with i l c x e id k n z = record { rest = x; proper = n; frame = subst Frame (sym e) (definite c id k); field = λ y. z (subst IsEnd e y) }

pub in_cut : (bd : Bound) (c : Cursor) {stopped : ℕ} → header_of bd c ≡ Err (stop Truncated stopped)
    → CutField c.rest × Room bd.end c.limit c.at (length c.rest + 1)
unfolding header_of
in_cut bd c {stopped = stopped} e = elim (bind_err (octet_of bd.end) _ c e) [
  | inl x ↦
      let y = octet_cut bd.end c x in
      let l = nil_length y.0 in (
        cut_with (5 ∷ []) (0 ∷ []) [] (5 ∷ 0 ∷ []) (ap (λ z. z ++ (5 ∷ 0 ∷ [])) y.0) (low (omega arith) (λ z. omega arith))
            (short (omega arith)) (λ z. absurd cc) (first_not_0 5 (0 ∷ []) (λ z. omega arith)),
        room_less bd.end c.limit c.at 1 (length c.rest + 1) (omega (arith, l)) y.1,
      )
  | inr s ↦
      let one = octet_sound bd.end c s.1 s.0 s.2 in
      let l1 : length c.rest ≡ suc (length s.1.rest) = ap length one.moves.rest in
      elim (bind_err (rest_of_tag bd.end s.0) _ s.1 s.3) [
        | inl x ↦
            let y = tag_part_cut bd.end s.0 s.1 one.octet x in
            let k = y.0 in (
              cut_with (s.0 ∷ (s.1.rest ++ k.rest)) (0 ∷ []) [] (k.rest ++ (0 ∷ []))
                  (ap (λ z. z ++ (k.rest ++ (0 ∷ []))) one.moves.rest ∙ ap (λ z. s.0 ∷ z) (sym (append_assoc s.1.rest k.rest (0 ∷ []))))
                  k.whole (short (omega arith)) (λ z. k.proper (prefix_nil k.rest (0 ∷ []) z)) (first_not_0 s.0 _ k.not_0),
              room_from bd.end s.1.limit s.1.at c.limit c.at (length s.1.rest + 1) (length c.rest + 1) one.moves.limit
                  (omega (arith, l1, one.moves.at)) y.1,
            )
        | inr t ↦
            let two = tag_part_sound bd.end s.0 s.1 t.1 t.0 one.octet t.2 in
            let prefix = moves_then one.moves two.1 in
            let id : IsIdentifier s.0 (s.0 ∷ two.0) = two.2 in
            let l2 : length c.rest ≡ suc (length two.0) + length t.1.rest = ap length prefix.rest ∙ length-append (s.0 ∷ two.0) t.1.rest in
            elim (bind_err (octet_of bd.end) _ t.1 t.3) [
              | inl x ↦
                  let y = octet_cut bd.end t.1 x in
                  let l = nil_length y.0 in (
                    cut_with (s.0 ∷ two.0) (1 ∷ []) (0 ∷ []) (1 ∷ 0 ∷ []) (ap (λ z. z ++ (1 ∷ 0 ∷ []))
                        (prefix.rest ∙ ap (λ z. (s.0 ∷ two.0) ++ z) y.0 ∙ append-nil (s.0 ∷ two.0))) id (short (omega arith))
                        (λ z. absurd cc) (second_not_0 (s.0 ∷ two.0) (0 ∷ []) s.0 1 id (λ z. omega arith)),
                    room_from bd.end t.1.limit t.1.at c.limit c.at 1 (length c.rest + 1) prefix.limit (omega (arith, l2, l, prefix.at)) y.1,
                  )
              | inr u ↦
                  let three = octet_sound bd.end t.1 u.1 u.0 u.2 in
                  let y = after_cut bd s.0 u.0 u.1 three.octet u.3 in
                  let k = y.0 in
                  let l3 : length t.1.rest ≡ suc (length u.1.rest) = ap length three.moves.rest in
                  let whole : c.rest ++ k.rest ≡ (s.0 ∷ two.0) ++ (k.length ++ k.contents) =
                  ap (λ z. z ++ k.rest) (prefix.rest ∙ ap (λ z. (s.0 ∷ two.0) ++ z) three.moves.rest)
                  ∙ append_assoc (s.0 ∷ two.0) (u.0 ∷ u.1.rest) k.rest ∙ ap (λ z. (s.0 ∷ two.0) ++ z) k.parts in (
                    cut_with (s.0 ∷ two.0) k.length k.contents k.rest whole id k.counts k.proper
                        (λ z. second_not_0 (s.0 ∷ two.0) (u.1.rest ++ k.rest) s.0 u.0 id k.not_0
                        (subst (λ w. IsEnd ((s.0 ∷ two.0) ++ w)) (sym k.parts) z)),
                    room_from bd.end u.1.limit u.1.at c.limit c.at (length u.1.rest + 1) (length c.rest + 1)
                        (three.moves.limit ∙ prefix.limit) (omega (arith, l2, l3, prefix.at, three.moves.at)) y.1,
                  )
            ]
      ]
]
  where
    prefix_nil : (xs ys : List ℕ) → xs ++ ys ≡ [] → xs ≡ []
    prefix_nil [] ys e = refl
    prefix_nil (x ∷ xs) ys e = absurd cc

pub header_cut : (bd : Bound) (c : Cursor) {stopped : ℕ} → expected_of bd c ≡ Err (stop Truncated stopped)
    → CutField c.rest × Room bd.end c.limit c.at (length c.rest + 1)
unfolding expected_of
header_cut bd c {stopped = stopped} e = in_cut bd c (other (ends_here bd c.at) (stop UnexpectedElement c.at) (stop Truncated stopped)
    (header_of bd c) (λ z. absurd cc) e).1
