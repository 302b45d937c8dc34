-- What passes the tests of octets.
use Rattle.std.proofs.Common.{◌≡◌, ℕ, zero, suc, ◌<◌, ◌≤◌, ◌/◌, ◌%◌, Bool, true, false, not, List, refl, sym, ◌∙◌, ap, subst, arith, inl, inr, ◌⊎◌}
use Rattle.std.specs.Prelude.{nat_lt, ◌==◌, ◌&&◌}
use Rattle.std.specs.Cmp.{first_so, second_so}
use Rattle.std.proofs.lemmas.Bool.{cases_lt, eqb-true}
use Rattle.std.proofs.lemmas.Bool.Decides.{Decides-ltb}
use Rattle.cms_tlv.specs.Frames.{IsPath}
use Rattle.cms_tlv.specs.Headers.{IsConstructed, IsHeader}
use Rattle.cms_tlv.specs.RefusalReasons.{IsPathIf}
use Rattle.cms_tlv.specs.Law.{IsFieldOctet}
use Rattle.cms_tlv.proofs.Inverse.{eqb_yes}
use Rattle.cms_tlv.proofs.Paths.{header_path, path_if}
use Rattle.cms_fields.specs.FirstOctets.{is_field_octet, is_constructed, is_primitive_octet, are_apart}
use Rattle.cms_fields.proofs.CanonicalLaws.{both_true}

not_so : (s : Bool) → not s ≡ true → s ≡ true → ⊥
not_so s p q = absurd (let z : false ≡ true = sym (ap not q) ∙ p in cc)

pub is_octet : (id : ℕ) → is_field_octet id ≡ true → IsFieldOctet id
is_octet id e =
    let h = second_so (nat_lt id 0x100) (not (id % 32 == 31) && not (id == 0)) e in
    record {
      octet = (Decides-ltb id 0x100).0 (first_so (nat_lt id 0x100) (not (id % 32 == 31) && not (id == 0)) e);
      one = λ k. not_so (id % 32 == 31) (first_so (not (id % 32 == 31)) (not (id == 0)) h) (eqb_yes (id % 32) 31 k);
      not_0 = λ k. not_so (id == 0) (second_so (not (id % 32 == 31)) (not (id == 0)) h) (eqb_yes id 0 k);
    }

-- The header of a constructed element is a path.
pub header_paths : (id : ℕ) (others : Bool) (b : List ℕ) → IsHeader id b → IsPathIf (is_constructed id && others) b
header_paths id others b h = go (is_constructed id) (λ e. header_path h (eqb-true ((id / 32) % 2) 1 e))
  where
    go : (c : Bool) → (c ≡ true → IsPath b) → IsPathIf (c && others) b
    go true p = path_if others (p refl)
    go false p = tt

pub is_primitive : (id : ℕ) → is_primitive_octet id ≡ true → IsFieldOctet id × (IsConstructed id → ⊥)
is_primitive id e = (
  is_octet id (first_so (is_field_octet id) (not ((id / 32) % 2 == 1)) e),
  λ k. not_so ((id / 32) % 2 == 1) (second_so (is_field_octet id) (not ((id / 32) % 2 == 1)) e) (eqb_yes ((id / 32) % 2) 1 k),
)

pub apart_at : (n : ℕ) (p q : ℕ → Bool) → are_apart n p q ≡ true → (t : ℕ) → t < n → p t ≡ true → q t ≡ true → ⊥
apart_at zero p q e t l a b = absurd (omega arith)
apart_at (suc n) p q e t l a b = go (λ k. apart_at n p q (second_so (not (p n && q n)) (are_apart n p q) e) t k a b) (cases_lt t n)
  where
    go : (t < n → ⊥) → (t < n) ⊎ (n ≤ t) → ⊥
    go f (inl k) = f k
    go f (inr k) =
        let d : t ≡ n = omega arith in
        not_so (p n && q n) (first_so (not (p n && q n)) (are_apart n p q) e)
        (both_true (p n) (q n) (subst (λ x. p x ≡ true) d a) (subst (λ x. q x ≡ true) d b))
