-- The element that octets begin with is that of X.690.
use Rattle.std.proofs.Common.{◌≡◌, ℕ, suc, ◌+◌, ◌-◌, ◌*◌, ◌^◌, ◌<◌, ◌≤◌, ◌==◌, List, ◌∷◌, ◌++◌, length, drop, get_or, cond, Some, None, refl, ap, add-one, arith, append_assoc}
use Rattle.std.proofs.lemmas.Bool.{le-leb}
use Rattle.std.proofs.lemmas.List.{length-append}
use Rattle.std.proofs.Math.Seq.{take-append_seam, drop-append_seam, drop-cons}
use Rattle.cms_tlv.specs.Headers.{IsLength, short, long, big_endian}
use Rattle.cms_tlv.specs.Frames.{IsDerElement, of_short_length}
use Rattle.cms_tlv.specs.FirstElement.{split, contents_after, first_element}
use Rattle.cms_tlv.proofs.Inverse.{ltb_yes, ltb_no}
use Rattle.cms_tlv.proofs.NumberReads.{more_256}

-- an octet more is read
pub number_with : (n i : ℕ) (ds : List ℕ) → i < length ds
    → (256 * n + get_or ds i 0) * 256 ^ length (drop (i + 1) ds) + big_endian (drop (i + 1) ds)
    ≡ n * 256 ^ length (drop i ds) + big_endian (drop i ds)
number_with n i ds h = rw (drop-cons ds i 0 h, add-one i) (more_256 n (get_or ds i 0) (length (drop (suc i) ds)) (big_endian (drop (suc i) ds)))

split_joined : (c r : List ℕ) (n : ℕ) → n ≡ length c → split n (c ++ r) ≡ Some (c, r)
split_joined c r n e =
    let h = le-leb (length c) (length (c ++ r)) (omega (arith, length-append c r)) in
    rw (e, h, take-append_seam c r, drop-append_seam c r) refl

after_short : (n : ℕ) (c r : List ℕ) → n < 0x80 → n ≡ length c → contents_after n (c ++ r) ≡ Some (c, r)
after_short n c r b e = rw (ltb_yes n 0x80 b) (split_joined c r n e)

after_long : (ds c r : List ℕ) → 0 < length ds → length ds ≤ 8 → big_endian ds ≡ length c → contents_after (0x80 + length ds) (ds ++ (c ++ r)) ≡ Some (c, r)
after_long ds c r z f e =
    let past = ltb_no (0x80 + length ds) 0x80 (omega arith) in
    let some = le-leb 0x81 (0x80 + length ds) (omega arith) in
    let few = le-leb (0x80 + length ds) 0x88 (omega arith) in
    let digits = split_joined ds (c ++ r) ((0x80 + length ds) - 0x80) (omega arith) in
    rw (past, some, few, digits) (split_joined c r (big_endian ds) e)

by_length : (t i n : ℕ) (l c r : List ℕ) → IsLength l n → n ≡ length c → first_element t (i ∷ ((l ++ c) ++ r)) ≡ cond (i == t) (Some (c, r)) None
by_length t i n l c r (short b) e = ap (λ x. cond (i == t) x None) (after_short n c r b e)
by_length t i n l c r (long {d} {ds} b o) e =
    let s : 0x81 + length ds ≡ 0x80 + length (d ∷ ds) = omega arith in
    rw (s, append_assoc ds c r) (ap (λ x. cond (i == t) x None) (after_long (d ∷ ds) c r (omega arith) (omega arith) e))

pub of_element : (t i : ℕ) (e c r : List ℕ) → IsDerElement e i c → first_element t (e ++ r) ≡ cond (i == t) (Some (c, r)) None
of_element t i e c r (of_short_length d l) = by_length t i (length d) _ d r l.is refl
