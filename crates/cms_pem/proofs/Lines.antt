-- Base64 in lines.
use Rattle.std.proofs.Common.{◌≡◌, ◌+◌, ◌/◌, ◌<◌, ◌++◌, ◌∷◌, [], suc, ℕ, List, length, take, drop, arith, length-drop, append_assoc, ap, ap₂, sym, ◌∙◌, min}
use Rattle.std.proofs.lemmas.List.{take_min, drop_min}
use Rattle.cms_pem.specs.Pem.{first_lines, lines_of}

-- one line more
lines-step : (s : List ℕ) → 0 < length s → lines_of s ≡ take 64 s ++ 10 ∷ lines_of (drop 64 s)
lines-step s h =
    let e : (length s + 63) / 64 ≡ suc ((length (drop 64 s) + 63) / 64) = omega (arith, length-drop 64 s) in
    ap (λ n. first_lines n s) e

pub line_put : (before s line after : List ℕ) → 0 < length s → line ≡ take (min 64 (length s)) s → after ≡ drop (min 64 (length s)) s
    → ((before ++ line) ++ 10 ∷ []) ++ lines_of after ≡ before ++ lines_of s
line_put before s line after h e f =
    let a : line ≡ take 64 s = e ∙ take_min 64 s in
    let b : after ≡ drop 64 s = f ∙ drop_min 64 s in
    append_assoc (before ++ line) (10 ∷ []) (lines_of after) ∙ append_assoc before line (10 ∷ lines_of after)
    ∙ ap₂ (λ x y. before ++ (x ++ 10 ∷ lines_of y)) a b ∙ ap (λ x. before ++ x) (sym (lines-step s h))
