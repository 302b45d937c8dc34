-- Framing of opaque values: definite shortest lengths, at most 64 elements inside one another.
use Rattle.std.specs.Prelude.{◌≡◌, ◌≢◌, ℕ, suc, ◌%◌, ◌<◌, ◌≤◌, List, [], ◌++◌, length, ◌⊎◌}
use Rattle.cms_tlv.specs.Headers.{AreOctets, IsConstructed, IsIdentifier, IsShortLength}
use Rattle.cms_tlv.specs.Spelling.{Spelling}

--- `IsPrimitiveType k`: an element of the universal type with the tag number `k` has to be
---   primitive, as it is in DER [X.690, 8.2 to 8.4, 8.6 to 8.8, 8.19, 8.23, 8.25, 10.2]
--- | this is not asked of ObjectDescriptor, REAL, RELATIVE-OID and TIME (7, 9, 13, 14), nor of tag
---   numbers above 30 [ours]
abbrev pub IsPrimitiveType : ℕ → Type 0
IsPrimitiveType k = ((1 ≤ k) × (k ≤ 6)) ⊎ (k ≡ 10) ⊎ (k ≡ 12) ⊎ ((18 ≤ k) × (k ≤ 28)) ⊎ (k ≡ 30)

--- `HasItsForm t`: an identifier octet `t` of such a type is primitive [X.690, 10.2]
--- | one of SEQUENCE or SET is constructed [X.690, 8.9.1, 8.11.1]; this is not asked of EXTERNAL,
---   EMBEDDED PDV and CHARACTER STRING (8, 11, 29) [ours]
pub record HasItsForm (t : ℕ) : Type 0 where
  pub primitive : IsConstructed t → t < 64 → IsPrimitiveType (t % 32) → ⊥
  pub constructed : (t ≡ 16) ⊎ (t ≡ 17) → ⊥

mutual
  --- `IsFramed b d`: `b` is an element at depth `d`, which is at most 64 [ours]
  --- | its identifier is not 00, and it `HasItsForm`; its length is the shortest [X.690, 10.1]
  --- | if its identifier is constructed, its contents are such elements at depth `d + 1` [ours]
  pub data IsFramed : List ℕ → ℕ → Type 0 where
    primitive : {t : ℕ} {i l : List ℕ} (c : List ℕ) (d : ℕ) → d ≤ 64 → IsIdentifier t i → t ≢ 0
        → (IsConstructed t → ⊥) → HasItsForm t → IsShortLength l (length c) → AreOctets c
        → IsFramed (i ++ (l ++ c)) d
    constructed : {t : ℕ} {i l c : List ℕ} {d : ℕ} → d ≤ 64 → IsIdentifier t i → IsConstructed t
        → HasItsForm t → IsShortLength l (length c) → AreFramed c (suc d)
        → IsFramed (i ++ (l ++ c)) d

  --- `AreFramed b d`: `b` is such elements at depth `d`, one after another [ours]
  pub data AreFramed : List ℕ → ℕ → Type 0 where
    none : (d : ℕ) → AreFramed [] d
    more : {f c : List ℕ} {d : ℕ} → IsFramed f d → AreFramed c d → AreFramed (f ++ c) d

--- `IsOpaque b`: `IsFramed b 1`: the element itself is at depth 1 [ours]
abbrev pub IsOpaque : List ℕ → Type 0
IsOpaque b = IsFramed b 1

--- `opaque b v`: `b` is an opaque value, and spells itself [ours]
abbrev pub opaque : Spelling (List ℕ)
opaque b v = IsOpaque b × (b ≡ v)
