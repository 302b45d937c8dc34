-- A span names the same octets after more are kept.
use Rattle.std.proofs.Common.{◌≡◌, ℕ, ◌+◌, ◌-◌, ◌≤◌, List, [], ◌++◌, length, take, drop, nat_le, if◌then◌else◌, sym, ◌∙◌, ap, arith, true}
use mathlib.Core.Bool.{◌&&◌}
use Rattle.std.proofs.Math.Seq.{drop-append_seam, take-add}
use Rattle.std.proofs.lemmas.List.{drop-append-le, take-append-le, length-drop, length-append, take_rest}
use Rattle.std.proofs.lemmas.Bool.Decides.{nat_tests}
use Rattle.cms_tlv.specs.Spans.{octets_in}

tests : (i j n : ℕ) → i ≤ j → j ≤ n → (nat_le i j && nat_le j n) ≡ true
tests i j n p q = grind (arith, nat_tests)

pub span_within : (kept : List ℕ) (i j : ℕ) → i ≤ j → j ≤ length kept → octets_in kept i j ≡ take (j - i) (drop i kept)
span_within kept i j p q = ap (λ t. if t then take (j - i) (drop i kept) else []) (tests i j (length kept) p q)

pub span_later : (kept more : List ℕ) (i j : ℕ) → i ≤ j → j ≤ length kept → octets_in (kept ++ more) i j ≡ octets_in kept i j
span_later kept more i j p q =
    let n = length-append kept more in
    span_within (kept ++ more) i j p (omega arith) ∙ (ap (take (j - i)) (drop-append-le i kept more (omega arith))
    ∙ (take-append-le (j - i) (drop i kept) more (omega (arith, length-drop i kept)) ∙ sym (span_within kept i j p q)))

pub span_new : (kept more : List ℕ) → octets_in (kept ++ more) (length kept) (length (kept ++ more)) ≡ more
span_new kept more =
    let n = length-append kept more in
    span_within (kept ++ more) (length kept) (length (kept ++ more)) (omega arith) (omega arith)
    ∙ (take_rest (kept ++ more) (length kept) ∙ drop-append_seam kept more)

-- what is kept up to j is what is kept up to i, and the octets in between
pub kept_up_to : (kept : List ℕ) (i j : ℕ) → i ≤ j → j ≤ length kept → take j kept ≡ take i kept ++ octets_in kept i j
kept_up_to kept i j p q =
    let e : j ≡ i + (j - i) = omega arith in
    ap (λ n. take n kept) e ∙ (take-add i (j - i) kept ∙ ap (λ z. take i kept ++ z) (sym (span_within kept i j p q)))
