-- Frames (X.690, 8.1): an identifier, a length and that many octets, or what `00 00` ends.
use Rattle.std.specs.Prelude.{◌≡◌, ℕ, List, [], ◌∷◌, ◌++◌, length}
use Rattle.cms_tlv.specs.Headers.{IsConstructed, IsHeader, IsIdentifier, IsLength, IsShortLength}

-- `b` begins with `00 00`, which ends indefinite contents (X.690, 8.1.5)
abbrev pub IsEnd : List ℕ → Type 0
IsEnd b = (rest : List ℕ) × (b ≡ 0 ∷ 0 ∷ rest)

mutual
  --- `Frame b`: `b` is identifier octets, length octets of `n` and `n` octets [X.690, 8.1.1]
  --- | it may also be constructed identifier octets, 80, `Frames` and `00 00` [X.690, 8.1.3.6]
  pub data Frame : List ℕ → Type 0 where
    definite : {t : ℕ} {i l : List ℕ} (c : List ℕ) → IsIdentifier t i → IsLength l (length c)
        → Frame (i ++ (l ++ c))
    indefinite : {t : ℕ} {i c : List ℕ} → IsIdentifier t i → IsConstructed t → Frames c
        → Frame (i ++ (0x80 ∷ (c ++ 0 ∷ 0 ∷ [])))

  --- `Frames b`: `b` is frames one after another, none of which begins with `00 00` [X.690, 8.1.5]
  pub data Frames : List ℕ → Type 0 where
    none : Frames []
    more : {f c : List ℕ} → Frame f → (IsEnd f → ⊥) → Frames c → Frames (f ++ c)

--- `IsElement b id c`: `b` is `id`, length octets of the length of `c`, and `c` [X.690, 8.1.1]
--- | if `id` is constructed, it may also be `id`, 80, `c` and `00 00` [X.690, 8.1.3.6]
pub data IsElement : List ℕ → ℕ → List ℕ → Type 0 where
  of_length : {id : ℕ} {l : List ℕ} (c : List ℕ) → IsLength l (length c)
      → IsElement (id ∷ (l ++ c)) id c
  to_end : {id : ℕ} (c : List ℕ) → IsConstructed id → IsElement (id ∷ 0x80 ∷ (c ++ 0 ∷ 0 ∷ [])) id c

--- `IsDerElement b id c`: `b` is `id`, the shortest length octets for `c`, and `c` [X.690, 10.1]
pub data IsDerElement : List ℕ → ℕ → List ℕ → Type 0 where
  of_short_length : {id : ℕ} {l : List ℕ} (c : List ℕ) → IsShortLength l (length c)
      → IsDerElement (id ∷ (l ++ c)) id c

--- `IsDerFrame b`: `b` is identifier octets, the shortest length octets of `n`, and any `n` octets
---   [X.690, 10.1]
pub data IsDerFrame : List ℕ → Type 0 where
  of_short_length : {t : ℕ} {i l : List ℕ} (c : List ℕ) → IsIdentifier t i
      → IsShortLength l (length c) → IsDerFrame (i ++ (l ++ c))

--- `IsPath b`: `b` is whole frames, and headers of constructed elements that are entered, one after
---   another: a way to an element inside others [X.690, 8.1]
--- | no length in these headers is compared with what follows; `00 00`, which ends indefinite
---   contents, is such a frame
pub data IsPath : List ℕ → Type 0 where
  start : IsPath []
  past : {f c : List ℕ} → Frame f → IsPath c → IsPath (f ++ c)
  into : {id : ℕ} {h c : List ℕ} → IsHeader id h → IsConstructed id → IsPath c → IsPath (h ++ c)
