-- A table, row after row.
use Rattle.std.proofs.Common.{◌≡◌, ℕ, zero, suc, ◌+◌, ◌<◌, ◌≤◌, true, false, List, [], ◌∷◌, length, drop, get_or, Some, None, refl, ap, ◌∙◌, arith}
use Rattle.std.specs.Prelude.{bytes_eq}
use Rattle.std.proofs.lemmas.List.{drop_all}
use Rattle.cms_scalars.specs.declared.names.Named.{Named}
use Rattle.cms_scalars.specs.Names.{name_in, names_table}

next : (rows : List Named) (i : ℕ) (d : Named) → i < length rows → drop i rows ≡ get_or rows i d ∷ drop (i + 1) rows
next [] i d h = absurd (omega arith)
next (x ∷ rows) zero d h = refl
next (x ∷ rows) (suc i) d h = let n = next rows i d (omega arith) in let e : suc i + 1 ≡ suc (i + 1) = omega arith in rw e n

pub this_row : (rows : List Named) (i : ℕ) (d : Named) (c : List ℕ) → i < length rows → bytes_eq c (get_or rows i d).octets.now ≡ true
    → name_in (names_table (drop i rows)) c ≡ Some (get_or rows i d).name.now
this_row rows i d c h e = ap (λ t. name_in (names_table t) c) (next rows i d h) ∙ (rw e refl)

pub another_row : (rows : List Named) (i : ℕ) (d : Named) (c : List ℕ) → i < length rows → bytes_eq c (get_or rows i d).octets.now ≡ false
    → name_in (names_table (drop i rows)) c ≡ name_in (names_table (drop (i + 1) rows)) c
another_row rows i d c h e = ap (λ t. name_in (names_table t) c) (next rows i d h) ∙ (rw e refl)

pub no_row : (rows : List Named) (i : ℕ) (c : List ℕ) → length rows ≤ i → name_in (names_table (drop i rows)) c ≡ None
no_row rows i c h = ap (λ t. name_in (names_table t) c) (drop_all i rows h)
