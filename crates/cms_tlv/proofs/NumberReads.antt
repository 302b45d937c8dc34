-- The numbers in a header, read and spelled.
use Rattle.std.proofs.Common.{◌≡◌, ◌≢◌, ◌⊎◌, inl, inr, ℕ, zero, suc, ◌+◌, ◌*◌, ◌-◌, ◌^◌, ◌<◌, ◌≤◌, false, cond, eqb, ltb, ◌&&◌, List, [], ◌∷◌, ◌++◌, length, Option, Ok, Err, refl, sym, ap, subst, ◌∙◌, arith}
use Rattle.std.specs.Prelude.{⊤}
use Rattle.std.proofs.Math.Nat.{pow-suc, add-mul, mul_assoc}
use Rattle.std.proofs.lemmas.Bool.{ltb-false, ltb-true}
use Rattle.cms_tlv.specs.declared.fault.Reason.TheVariants.{Truncated, UnexpectedElement}
use Rattle.cms_tlv.specs.Reading.{Cursor, stop, give, refuse, octet_of, tag_of, number_of}
use Rattle.cms_tlv.specs.Headers.{IsOctet, AreOctets, IsBase128, last, more, big_endian}
use Rattle.cms_tlv.specs.Clauses.{Room}
use Rattle.cms_tlv.proofs.Inverse.{okay, bad, ok_value, ok_place, bind_ok, bind_err, bound_again, ltb_yes, ltb_no, eqb_yes, eqb_no, not_eq, branch, and_no, and_false_first, and_false_second}
use Rattle.cms_tlv.proofs.ReadingLaws.{Moves, moves_nothing, moves_then, midway, moves_prefix, moves_suffix, moved, room_less, room_from}
use Rattle.cms_tlv.proofs.OctetReads.{octet_sound, octet_complete, octet_cut, nil_length}

step_128 : (n p : ℕ) → n * 128 * p ≡ n * (p * 128)
step_128 n p =
    let a : n * 128 * p ≡ n * (128 * p) = mul_assoc n 128 p in
    let b : 128 * p ≡ p * 128 = omega arith in
    a ∙ ap (λ t. n * t) b

-- the number that goes on with more digits
more_128 : (n d k v : ℕ) → (n * 128 + d) * 128 ^ k + v ≡ n * 128 ^ suc k + (d * 128 ^ k + v)
more_128 n d k v = omega (arith, add-mul (n * 128) d (128 ^ k), step_128 n (128 ^ k), ap (λ t. n * t) (pow-suc 128 k))

step_256 : (n p : ℕ) → 256 * n * p ≡ n * (p * 256)
step_256 n p =
    let a : 256 * n * p ≡ 256 * (n * p) = mul_assoc 256 n p in
    let b : n * p * 256 ≡ n * (p * 256) = mul_assoc n p 256 in
    omega (arith, a, b)

pub more_256 : (n b k v : ℕ) → (256 * n + b) * 256 ^ k + v ≡ n * 256 ^ suc k + (b * 256 ^ k + v)
more_256 n b k v = omega (arith, add-mul (256 * n) b (256 ^ k), step_256 n (256 ^ k), ap (λ t. n * t) (pow-suc 256 k))

-- the octets of a number of several octets
pub number_sound : (count n : ℕ) (end : Option ℕ) (c d : Cursor) (v : ℕ) → number_of end count n c ≡ Ok (v, d)
    → (bs : List ℕ) × Moves c bs d × AreOctets bs × (length bs ≡ count) × (v ≡ n * 256 ^ length bs + big_endian bs)
unfolding number_of
number_sound zero n end c d v e =
    let p : c ≡ d = ok_place e in
    let q : n ≡ v = ok_value e in
    let z : 256 ^ 0 ≡ 1 = refl in
    ([], subst (λ q. Moves c [] q) p (moves_nothing c), tt, refl, omega (arith, q, z))
number_sound (suc count) n end c d v e =
    let s = bind_ok (octet_of end) _ c e in
    let one = octet_sound end c s.1 s.0 s.2 in
    let t = number_sound count (256 * n + s.0) end s.1 d v s.3 in
    (s.0 ∷ t.0, moves_then one.moves t.1, (one.octet, t.2), ap suc t.3, t.4 ∙ more_256 n s.0 (length t.0) (big_endian t.0))

pub number_complete : (bs : List ℕ) (n : ℕ) (end : Option ℕ) (c d : Cursor) → Moves c bs d → AreOctets bs
    → Room end c.limit c.at (length bs) → number_of end (length bs) n c ≡ Ok (n * 256 ^ length bs + big_endian bs, d)
unfolding number_of
number_complete [] n end c d p o r =
    let z : 256 ^ 0 ≡ 1 = refl in
    let v : n ≡ n * 256 ^ 0 + 0 = omega (arith, z) in
    let q : c ≡ d = moved (moves_nothing c) p p.rest in
    λ i. okay (v i, q i)
number_complete (b ∷ bs) n end c d p o r =
    let mid = midway c (b ∷ []) bs d in
    let one = octet_complete end c mid b (moves_prefix (b ∷ []) bs p) o.0 (room_less end c.limit c.at (suc (length bs)) 1 (omega arith) r) in
    let two =
    number_complete bs (256 * n + b) end mid d (moves_suffix (b ∷ []) bs p) o.1
    (room_from end c.limit c.at c.limit (c.at + 1) (suc (length bs)) (length bs) refl (omega arith) r) in
    bound_again (octet_of end) _ c b mid one ∙ two ∙ ap (λ v. okay (v, d)) (more_256 n b (length bs) (big_endian bs))

pub number_cut : (count n : ℕ) (end : Option ℕ) (c : Cursor) {stopped : ℕ} → number_of end count n c ≡ Err (stop Truncated stopped)
    → AreOctets c.rest × (length c.rest + 1 ≤ count) × Room end c.limit c.at (length c.rest + 1)
unfolding number_of
number_cut zero n end c e = absurd cc
number_cut (suc count) n end c e = elim (bind_err (octet_of end) _ c e) [
  | inl x ↦ let y = octet_cut end c x in let l = nil_length y.0 in
      (subst AreOctets (sym y.0) tt, omega (arith, l), room_less end c.limit c.at 1 (length c.rest + 1) (omega (arith, l)) y.1)
  | inr x ↦
      let one = octet_sound end c x.1 x.0 x.2 in
      let two = number_cut count (256 * n + x.0) end x.1 x.3 in
      let l : length c.rest ≡ suc (length x.1.rest) = ap length one.moves.rest in
      let o : AreOctets (x.0 ∷ x.1.rest) = (one.octet, two.0) in (
        subst AreOctets (sym one.moves.rest) o,
        omega (arith, l, two.1),
        room_from end x.1.limit x.1.at c.limit c.at (length x.1.rest + 1) (length c.rest + 1) one.moves.limit
            (omega (arith, l, one.moves.at)) two.2,
      )
]

-- the first digit is not 80
abbrev pub FirstNot80 : List ℕ → Type 0
FirstNot80 [] = ⊤
FirstNot80 (d ∷ ds) = d ≢ 0x80

-- ds end a tag number of which n stands before them
pub record EndsTag (left n : ℕ) (ds : List ℕ) : Type 0 where
  pub value : ℕ
  pub digits : IsBase128 ds value
  pub short : length ds ≤ left
  pub first : n ≡ 0 → FirstNot80 ds
  pub high : 31 ≤ n * 128 ^ length ds + value

-- a digit that others follow
ends_more : {left n b : ℕ} {ds : List ℕ} → IsOctet b → 128 ≤ b → (n ≡ 0 → b ≢ 128) → EndsTag left (n * 128 + (b - 128)) ds → EndsTag (suc left) n (b ∷ ds)
ends_more {left = left} {n = n} {b = b} {ds = ds} o h f t =
    let d : ℕ = b - 128 in
    let e : 128 + d ≡ b = omega arith in
    record {
      value = d * 128 ^ length ds + t.value;
      digits = subst (λ x. IsBase128 (x ∷ ds) (d * 128 ^ length ds + t.value)) e (more (omega arith) t.digits);
      short = omega (arith, t.short);
      first = f;
      high = omega (arith, t.high, more_128 n d (length ds) t.value);
    }

ends_last : {left n b : ℕ} → b < 128 → 31 ≤ n * 128 + b → EndsTag (suc left) n (b ∷ [])
ends_last {left = left} {n = n} {b = b} h k =
    let z : 128 ^ 1 ≡ 128 = refl in
    record { value = b; digits = last h; short = omega arith; first = λ _ e. omega arith; high = omega (arith, z, ap (λ t. n * t) z) }

zero_80 : {b n : ℕ} → (eqb b 128 && eqb n 0) ≡ false → n ≡ 0 → b ≢ 128
zero_80 {b = b} {n = n} e z h = let k = and_no e (eqb_yes b 128 h) in not_eq n 0 k z

pub tag_sound : (left n : ℕ) (end : Option ℕ) (c d : Cursor) (u : Unit {0}) → tag_of end left n c ≡ Ok (u, d) → (ds : List ℕ) × Moves c ds d × EndsTag left n ds
unfolding tag_of
tag_sound zero n end c d u e = absurd cc
tag_sound (suc left) n end c d u e =
    let s = bind_ok (octet_of end) _ c e in
    let b = s.0 in
    let one = octet_sound end c s.1 b s.2 in
    elim (branch (ltb b 128) (cond (ltb (n * 128 + b) 31) (refuse UnexpectedElement) (give tt))
    (cond (eqb b 128 && eqb n 0) (refuse UnexpectedElement) (tag_of end left (n * 128 + (b - 128)))) s.1 (okay (u, d)) s.3) [
      | inl x ↦ elim (branch (ltb (n * 128 + b) 31) (refuse UnexpectedElement) (give tt) s.1 (okay (u, d)) x.1) [
        | inl y ↦ absurd (let k = y.1 in cc)
        | inr y ↦ (b ∷ [], subst (λ q. Moves c (b ∷ []) q) (ok_place y.1) one.moves, ends_last (ltb-true b 128 x.0) (ltb-false (n * 128 + b) 31 y.0))
      ]
      | inr x ↦ elim (branch (eqb b 128 && eqb n 0) (refuse UnexpectedElement) (tag_of end left (n * 128 + (b - 128))) s.1 (okay (u, d)) x.1) [
        | inl y ↦ absurd (let k = y.1 in cc)
        | inr y ↦
            let t = tag_sound left (n * 128 + (b - 128)) end s.1 d u y.1 in
            (b ∷ t.0, moves_then one.moves t.1, ends_more one.octet (ltb-false b 128 x.0) (zero_80 y.0) t.2)
      ]
    ]

pub tag_complete : (ds : List ℕ) (v : ℕ) (left n : ℕ) (end : Option ℕ) (c d : Cursor) → Moves c ds d → IsBase128 ds v → length ds ≤ left
    → (n ≡ 0 → FirstNot80 ds) → 31 ≤ n * 128 ^ length ds + v → Room end c.limit c.at (length ds) → tag_of end left n c ≡ Ok (tt, d)
unfolding tag_of
tag_complete ds v zero n end c d p (last q) l f h r = absurd (omega arith)
tag_complete ds v zero n end c d p (more q t) l f h r = absurd (omega arith)
tag_complete ds v (suc left) n end c d p (last {d = b} q) l f h r =
    let one = octet_complete end c d b p (omega arith) r in
    let z : 128 ^ 1 ≡ 128 = refl in
    let k : 31 ≤ n * 128 + b = omega (arith, h, z, ap (λ t. n * t) z) in
    let x = ltb_yes b 128 q in
    let y = ltb_no (n * 128 + b) 31 k in
    bound_again (octet_of end) _ c b d one ∙ rw (x, y) refl
tag_complete ds v (suc left) n end c d p (more {d = b} {ds = es} {n = w} q t) l f h r =
    let mid = midway c ((128 + b) ∷ []) es d in
    let one =
    octet_complete end c mid (128 + b) (moves_prefix ((128 + b) ∷ []) es p) (omega arith)
    (room_less end c.limit c.at (suc (length es)) 1 (omega arith) r) in
    let x = ltb_no (128 + b) 128 (omega arith) in
    let k : (n ≡ 0 → ⊥) ⊎ ((128 + b) ≢ 128) = by_zero n b f in
    let y : (eqb (128 + b) 128 && eqb n 0) ≡ false =
    elim k [ inl u ↦ and_false_second _ _ (eqb_no n 0 u) | inr u ↦ and_false_first _ _ (eqb_no (128 + b) 128 u) ] in
    let e : 128 + b - 128 ≡ b = omega arith in
    let two =
    tag_complete es w left (n * 128 + b) end mid d (moves_suffix ((128 + b) ∷ []) es p) t (omega arith)
    (λ z. absurd (not_zero n b k z)) (omega (arith, h, more_128 n b (length es) w))
    (room_from end c.limit c.at c.limit (c.at + 1) (suc (length es)) (length es) refl (omega arith) r) in
    bound_again (octet_of end) _ c (128 + b) mid one ∙ rw (x, y, e) two
  where
    by_zero : (n b : ℕ) → (n ≡ 0 → (128 + b) ≢ 128) → (n ≡ 0 → ⊥) ⊎ ((128 + b) ≢ 128)
    by_zero zero b f = inr (f refl)
    by_zero (suc n) b f = inl (λ e. omega arith)

    not_zero : (n b : ℕ) → (n ≡ 0 → ⊥) ⊎ ((128 + b) ≢ 128) → n * 128 + b ≡ 0 → ⊥
    not_zero n b (inl u) e = u (omega arith)
    not_zero n b (inr u) e = u (omega arith)

-- octets that do not yet end a tag number
pub record CutTag (left n : ℕ) (p : List ℕ) : Type 0 where
  pub rest : List ℕ
  pub proper : rest ≢ []
  pub ends : EndsTag left n (p ++ rest)

pub tag_cut : (left n : ℕ) (end : Option ℕ) (c : Cursor) {stopped : ℕ} → tag_of end left n c ≡ Err (stop Truncated stopped)
    → CutTag left n c.rest × Room end c.limit c.at (length c.rest + 1)
unfolding tag_of
tag_cut zero n end c e = absurd cc
tag_cut (suc left) n end c {stopped = stopped} e = elim (bind_err (octet_of end) _ c e) [
  | inl x ↦
      let y = octet_cut end c x in
      let l = nil_length y.0 in (
        record {
          rest = 31 ∷ [];
          proper = λ k. absurd cc;
          ends = subst (λ t. EndsTag (suc left) n (t ++ (31 ∷ []))) (sym y.0)
              (ends_last (omega arith) (omega arith));
        },
        room_less end c.limit c.at 1 (length c.rest + 1) (omega (arith, l)) y.1,
      )
  | inr s ↦
      let b = s.0 in
      let one = octet_sound end c s.1 b s.2 in
      let l : length c.rest ≡ suc (length s.1.rest) = ap length one.moves.rest in
      elim (branch (ltb b 128) (cond (ltb (n * 128 + b) 31) (refuse UnexpectedElement) (give tt))
      (cond (eqb b 128 && eqb n 0) (refuse UnexpectedElement) (tag_of end left (n * 128 + (b - 128)))) s.1 (bad (stop Truncated stopped)) s.3) [
        | inl x ↦ elim (branch (ltb (n * 128 + b) 31) (refuse UnexpectedElement) (give tt) s.1 (bad (stop Truncated stopped)) x.1) [
          | inl y ↦ absurd (let k = y.1 in cc)
          | inr y ↦ absurd (let k = y.1 in cc)
        ]
        | inr x ↦ elim (branch (eqb b 128 && eqb n 0) (refuse UnexpectedElement) (tag_of end left (n * 128 + (b - 128))) s.1
            (bad (stop Truncated stopped)) x.1) [
              | inl y ↦ absurd (let k = y.1 in cc)
              | inr y ↦
                  let t = tag_cut left (n * 128 + (b - 128)) end s.1 y.1 in
                  let ends : EndsTag (suc left) n ((b ∷ s.1.rest) ++ t.0.rest) = ends_more one.octet (ltb-false b 128 x.0) (zero_80 y.0) t.0.ends in (
                    record {
                      rest = t.0.rest;
                      proper = t.0.proper;
                      ends = subst (λ z. EndsTag (suc left) n (z ++ t.0.rest)) (sym one.moves.rest)
                          ends;
                    },
                    room_from end s.1.limit s.1.at c.limit c.at (length s.1.rest + 1) (length c.rest + 1) one.moves.limit
                        (omega (arith, l, one.moves.at)) t.1,
                  )
            ]
      ]
]
