-- No identifier and no length begins another.
use Rattle.std.proofs.Common.{◌≡◌, ℕ, ◌+◌, List, ◌∷◌, ◌++◌, length, ap, arith}
use Rattle.cms_tlv.specs.Headers.{IsBase128, last, more, IsIdentifier, low, high, IsLength, short, long, big_endian}
use Rattle.cms_tlv.proofs.Lists.{same_prefixes}

-- base-128 octets end where bit 8 is not set
pub base_128_cut : {a b x y : List ℕ} {m n : ℕ} → IsBase128 a m → IsBase128 b n → a ++ x ≡ b ++ y → (a ≡ b) × (x ≡ y)
base_128_cut (last p) (last q) e = (cc, cc)
base_128_cut (last {d = d} p) (more {d = k} q r) e = let h : d ≡ 128 + k = cc in absurd (omega arith)
base_128_cut (more {d = k} q r) (last {d = d} p) e = let h : d ≡ 128 + k = cc in absurd (omega arith)
base_128_cut {x = x} {y = y} (more {d = d} {ds = ds} p r) (more {d = k} {ds = es} q s) e =
    let h : 128 + d ≡ 128 + k = cc in
    let t : ds ++ x ≡ es ++ y = cc in
    let u = base_128_cut r s t in
    (cc, u.1)

pub identifier_cut : {t u : ℕ} {a b x y : List ℕ} → IsIdentifier t a → IsIdentifier u b → a ++ x ≡ b ++ y → (t ≡ u) × (a ≡ b) × (x ≡ y)
identifier_cut (low o p) (low o' q) e = (cc, cc, cc)
identifier_cut (low {t = t} o p) (high {t = u} o' q _ _ _ _) e = let h : t ≡ u = cc in absurd (omega arith)
identifier_cut (high {t = u} o' q _ _ _ _) (low {t = t} o p) e = let h : t ≡ u = cc in absurd (omega arith)
identifier_cut {x = x} {y = y} (high {t = t} {d = d} {ds = ds} o p r _ _ _) (high {t = u} {d = k} {ds = es} o' q s _ _ _) e =
    let h : t ≡ u = cc in
    let g : d ∷ (ds ++ x) ≡ k ∷ (es ++ y) = cc in
    let w = base_128_cut {x = x} {y = y} r s g in
    (h, cc, w.1)

pub length_cut : {a b x y : List ℕ} {m n : ℕ} → IsLength a m → IsLength b n → a ++ x ≡ b ++ y → (a ≡ b) × (m ≡ n) × (x ≡ y)
length_cut (short p) (short q) e = (cc, cc, cc)
length_cut (short {n = n} p) (long {ds = ds} q _) e = let h : n ≡ 0x81 + length ds = cc in absurd (omega arith)
length_cut (long {ds = ds} q _) (short {n = n} p) e = let h : n ≡ 0x81 + length ds = cc in absurd (omega arith)
length_cut {x = x} {y = y} (long {d = d} {ds = ds} p _) (long {d = k} {ds = es} q _) e =
    let h : 0x81 + length ds ≡ 0x81 + length es = cc in
    let g : d ∷ (ds ++ x) ≡ k ∷ (es ++ y) = cc in
    let w = same_prefixes (d ∷ ds) (k ∷ es) x y (omega arith) g in
    (cc, ap big_endian w.0, w.1)
