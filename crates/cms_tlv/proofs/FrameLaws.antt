-- No frame begins another.
use Rattle.std.proofs.Common.{◌≡◌, ℕ, ◌+◌, ◌≤◌, List, [], ◌∷◌, ◌++◌, length, refl, sym, ◌∙◌, ap, arith, append_assoc}
use Rattle.cms_tlv.specs.Headers.{IsIdentifier, low, high, IsLength, short, long}
use Rattle.cms_tlv.specs.Frames.{Frame, Frames, definite, indefinite, none, more, IsEnd}
use Rattle.cms_tlv.proofs.Lists.{same_prefixes}
use Rattle.cms_tlv.proofs.HeaderCuts.{identifier_cut, length_cut}

-- an identifier is not empty
pub identifier_first : {t : ℕ} {i : List ℕ} → IsIdentifier t i → (r : List ℕ) × (i ≡ t ∷ r)
identifier_first (low o p) = ([], refl)
identifier_first (high {d = d} {ds = ds} o p q r s u) = (d ∷ ds, refl)

-- no length octets begin with 80
pub length_not_80 : {l : List ℕ} {n : ℕ} (x y : List ℕ) → IsLength l n → l ++ x ≡ 0x80 ∷ y → ⊥
length_not_80 x y (short {n = n} p) e = let h : n ≡ 0x80 = cc in omega arith
length_not_80 x y (long {ds = ds} p q) e = let h : 0x81 + length ds ≡ 0x80 = cc in omega arith

length_has : {l : List ℕ} {n : ℕ} → IsLength l n → (u : ℕ) × (r : List ℕ) × (l ≡ u ∷ r)
length_has (short {n = n} p) = (n, [], refl)
length_has (long {d = d} {ds = ds} p q) = (0x81 + length ds, d ∷ ds, refl)

pub two : {t : ℕ} (i b : List ℕ) → ((r : List ℕ) × (i ≡ t ∷ r)) → ((u : ℕ) × (r : List ℕ) × (b ≡ u ∷ r))
    → (t : ℕ) × (u : ℕ) × (r : List ℕ) × (i ++ b ≡ t ∷ u ∷ r)
two {t = t} i b h k = go h.0 h.1
  where
    go : (r : List ℕ) → i ≡ t ∷ r → (t : ℕ) × (u : ℕ) × (r : List ℕ) × (i ++ b ≡ t ∷ u ∷ r)
    go [] p = (t, k.0, k.1, rw (p, k.2))
    go (v ∷ vs) p = (t, v, vs ++ b, rw p)

-- a frame has two octets or more
pub frame_two : {f : List ℕ} → Frame f → (t : ℕ) × (u : ℕ) × (r : List ℕ) × (f ≡ t ∷ u ∷ r)
frame_two (definite {l = l} c p q) = let h = length_has q in two _ (l ++ c) (identifier_first p) (h.0, h.1 ++ c, ap (λ z. z ++ c) h.2)
frame_two (indefinite {c = c} p k cs) = two _ (0x80 ∷ (c ++ 0 ∷ 0 ∷ [])) (identifier_first p) (0x80, c ++ 0 ∷ 0 ∷ [], refl)

assoc : (i l c x : List ℕ) → (i ++ (l ++ c)) ++ x ≡ i ++ (l ++ (c ++ x))
assoc i l c x = simp append_assoc

assoc_end : (i c x : List ℕ) → (i ++ (0x80 ∷ (c ++ 0 ∷ 0 ∷ []))) ++ x ≡ i ++ (0x80 ∷ (c ++ 0 ∷ 0 ∷ x))
assoc_end i c x = simp append_assoc

pub definite_cut : {t u : ℕ} {i l j m : List ℕ} (c d x y : List ℕ) → IsIdentifier t i → IsLength l (length c) → IsIdentifier u j
    → IsLength m (length d) → (i ++ (l ++ c)) ++ x ≡ (j ++ (m ++ d)) ++ y → (t ≡ u) × (i ≡ j) × (l ≡ m) × (c ≡ d) × (x ≡ y)
definite_cut {i = i} {l = l} {j = j} {m = m} c d x y p q p' q' e =
    let h = identifier_cut p p' (sym (assoc i l c x) ∙ e ∙ assoc j m d y) in
    let k = length_cut q q' h.2 in
    let r = same_prefixes c d x y k.1 k.2 in
    (h.0, h.1, k.0, r.0, r.1)

pub never_both : {t u : ℕ} {i l j : List ℕ} (c d x y : List ℕ) → IsIdentifier t i → IsLength l (length c) → IsIdentifier u j
    → (i ++ (l ++ c)) ++ x ≡ (j ++ (0x80 ∷ (d ++ 0 ∷ 0 ∷ []))) ++ y → ⊥
never_both {i = i} {l = l} {j = j} c d x y p q p' e =
    let h = identifier_cut p p' (sym (assoc i l c x) ∙ e ∙ assoc_end j d y) in
    length_not_80 (c ++ x) (d ++ 0 ∷ 0 ∷ y) q h.2

-- what is left between the ends
pub indefinite_cut : {t u : ℕ} {i j : List ℕ} (c d x y : List ℕ) → IsIdentifier t i → IsIdentifier u j
    → (i ++ (0x80 ∷ (c ++ 0 ∷ 0 ∷ []))) ++ x ≡ (j ++ (0x80 ∷ (d ++ 0 ∷ 0 ∷ []))) ++ y → (t ≡ u) × (i ≡ j) × (c ++ (0 ∷ 0 ∷ x) ≡ d ++ (0 ∷ 0 ∷ y))
indefinite_cut {i = i} {j = j} c d x y p p' e =
    let h = identifier_cut p p' (sym (assoc_end i c x) ∙ e ∙ assoc_end j d y) in
    (h.0, h.1, cc)

-- what begins `00 00` begins with no frame that does not
no_end : {f : List ℕ} (x y : List ℕ) → Frame f → (IsEnd f → ⊥) → f ++ x ≡ 0 ∷ 0 ∷ y → ⊥
no_end {f = f} x y p q e =
    let (t, u, r, h) = frame_two p in
    let k : t ∷ u ∷ (r ++ x) ≡ 0 ∷ 0 ∷ y = (rw h at e) in
    q (r, h ∙ cc)

mutual
  pub frame_cut : {a b : List ℕ} (x y : List ℕ) → Frame a → Frame b → a ++ x ≡ b ++ y → (a ≡ b) × (x ≡ y)
  frame_cut x y (definite c p q) (definite d p' q') e = let h = definite_cut c d x y p q p' q' e in (cc, h.4)
  frame_cut x y (definite c p q) (indefinite {c = d} p' k ds) e = absurd (never_both c d x y p q p' e)
  frame_cut x y (indefinite {c = c} p k cs) (definite d p' q') e = absurd (never_both d c y x p' q' p (sym e))
  frame_cut x y (indefinite {c = c} p k cs) (indefinite {c = d} p' k' ds) e =
      let h = indefinite_cut c d x y p p' e in
      let r = frames_cut x y cs ds h.2 in
      (cc, r.1)

  pub frames_cut : {a b : List ℕ} (x y : List ℕ) → Frames a → Frames b → a ++ (0 ∷ 0 ∷ x) ≡ b ++ (0 ∷ 0 ∷ y) → (a ≡ b) × (x ≡ y)
  frames_cut x y none none e = (refl, cc)
  frames_cut x y none (more {f = f} {c = c} p q r) e = absurd (no_end (c ++ 0 ∷ 0 ∷ y) x p q (sym (append_assoc f c (0 ∷ 0 ∷ y)) ∙ sym e))
  frames_cut x y (more {f = f} {c = c} p q r) none e = absurd (no_end (c ++ 0 ∷ 0 ∷ x) y p q (sym (append_assoc f c (0 ∷ 0 ∷ x)) ∙ e))
  frames_cut x y (more {f = f} {c = c} p q r) (more {f = g} {c = d} p' q' r') e =
      let h = frame_cut (c ++ 0 ∷ 0 ∷ x) (d ++ 0 ∷ 0 ∷ y) p p' (sym (append_assoc f c (0 ∷ 0 ∷ x)) ∙ e ∙ append_assoc g d (0 ∷ 0 ∷ y)) in
      let k = frames_cut x y r r' h.1 in
      (cc, k.1)

pub identifier_some : {t : ℕ} {i : List ℕ} → IsIdentifier t i → 1 ≤ length i
identifier_some (low o p) = omega arith
identifier_some (high o p q r s k) = omega arith
