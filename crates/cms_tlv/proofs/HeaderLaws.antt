-- Numbers in octets.
use Rattle.std.proofs.Common.{◌≡◌, ℕ, ◌+◌, ◌*◌, ◌^◌, ◌<◌, List, [], ◌∷◌, length, refl, sym, ap, subst, ◌∙◌, arith}
use Rattle.std.proofs.lemmas.Nat.{rows, same_from_place}
use Rattle.std.proofs.Math.Nat.{pow-suc}
use Rattle.cms_tlv.specs.Headers.{AreOctets, IsLength, short, long, IsShortLength, big_endian}

pub row_below : (d r w : ℕ) → d < 256 → r < w → d * w + r < w * 256
row_below d r w p q = grind (arith, rows)

pub big_endian_below : (ds : List ℕ) → AreOctets ds → big_endian ds < 256 ^ length ds
big_endian_below [] o = omega arith
big_endian_below (d ∷ ds) o = rw pow-suc (row_below d (big_endian ds) (256 ^ length ds) o.0 (big_endian_below ds o.1))

big_endian_one : (ds es : List ℕ) → length ds ≡ length es → AreOctets ds → AreOctets es → big_endian ds ≡ big_endian es → ds ≡ es
big_endian_one [] [] n o p e = refl
big_endian_one [] (k ∷ es) n o p e = absurd (omega arith)
big_endian_one (d ∷ ds) [] n o p e = absurd (omega arith)
big_endian_one (d ∷ ds) (k ∷ es) n o p e =
    let m : length ds ≡ length es = omega arith in
    let h =
    same_from_place d (big_endian ds) k (big_endian es) (256 ^ length ds) (big_endian_below ds o.1)
    (subst (λ x. big_endian es < 256 ^ x) (sym m) (big_endian_below es p.1)) (e ∙ ap (λ x. k * 256 ^ x + big_endian es) (sym m)) in
    let t = big_endian_one ds es m o.1 p.1 h.1 in
    cc (h.0, t)

lengths_one : {l m : List ℕ} {n k : ℕ} → IsLength l n → IsLength m k → n ≡ k → length l ≡ length m → l ≡ m
lengths_one (short p) (short q) e z = cc
lengths_one (short p) (long q r) e z = absurd (omega arith)
lengths_one (long q r) (short p) e z = absurd (omega arith)
lengths_one (long {d = d} {ds = ds} q r) (long {d = k} {ds = es} q' r') e z =
    let h = big_endian_one (d ∷ ds) (k ∷ es) (omega arith) r r' e in
    let i : length ds ≡ length es = omega arith in
    cc

-- a length has one shortest spelling
pub short_length_one : (l m : List ℕ) (n : ℕ) → IsShortLength l n → IsShortLength m n → l ≡ m
short_length_one l m n p q = let h = p.least m q.is in let k = q.least l p.is in lengths_one p.is q.is refl (omega arith)
