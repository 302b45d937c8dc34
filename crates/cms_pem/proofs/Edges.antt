-- The lines at which a block begins and ends.
use Rattle.std.proofs.Common.{◌≡◌, ◌≢◌, ◌+◌, ◌-◌, ◌<◌, ◌≤◌, ◌++◌, ℕ, List, Bool, true, false, length, take, drop, get_or, refl, arith, sym, ap, ◌∙◌, append_assoc, length-append, nat_eq, not, Option, Some, None, IfNone, IfSome, MatchOption, Bor}
use Rattle.std.specs.Cmp.Lexicographic.{pointwise}
use Rattle.std.specs.Cmp.Lexicographic.{same_text, other_text}
use Rattle.std.specs.List.{suffix_len}
use Rattle.std.proofs.lemmas.List.{take-append-drop, append_cancel_left}
use Rattle.std.proofs.lemmas.List.Sums.{suffix_len_is}
use Rattle.std.proofs.Math.Seq.{take-append_seam, drop-append_seam}
use Rattle.cms_pem.specs.Pem.{is_blank, trimmed}

-- what is left of a line once its last octet is no white space
pub trimmed_is : (line : List ℕ) (n : ℕ) → n ≤ length line → ((k : ℕ) → n ≤ k → k < length line → is_blank (get_or line k 0) ≡ true)
    → (0 < n → is_blank (get_or line (n - 1) 0) ≡ false) → take n line ≡ trimmed line
trimmed_is line n within blank last =
    let e : suffix_len is_blank line ≡ length line - n = suffix_len_is is_blank line n 0 within blank last in
    ap (λ k. take k line) (let k : n ≡ length line - suffix_len is_blank line = omega (arith, e) in k)

-- a prefix that was found, and one that was not
pub begins_so : (word s : List ℕ) → pointwise nat_eq (take (length word) s) word ≡ true → s ≡ word ++ drop (length word) s
begins_so word s h = sym (take-append-drop (length word) s) ∙ ap (λ w. w ++ drop (length word) s) (same_text (take (length word) s) word (sym h))

pub begins_otherwise : (word s : List ℕ) → pointwise nat_eq (take (length word) s) word ≡ false → (rest : List ℕ) → s ≢ word ++ rest
begins_otherwise word s h rest e =
    other_text (take (length word) s) word (sym h) (ap (take (length word)) e ∙ take-append_seam word rest)

-- and a suffix
pub ends_so : (word s : List ℕ) → pointwise nat_eq (drop (length s - length word) s) word ≡ true → s ≡ take (length s - length word) s ++ word
ends_so word s h =
    sym (take-append-drop (length s - length word) s)
    ∙ ap (λ w. take (length s - length word) s ++ w) (same_text (drop (length s - length word) s) word (sym h))

pub ends_otherwise : (word s : List ℕ) → pointwise nat_eq (drop (length s - length word) s) word ≡ false → (rest : List ℕ) → s ≢ rest ++ word
ends_otherwise word s h rest e =
    let n : length s - length word ≡ length rest = omega (arith, ap length e, length-append rest word) in
    other_text (drop (length s - length word) s) word (sym h)
    (ap (λ k. drop k s) n ∙ ap (drop (length rest)) e ∙ drop-append_seam rest word)

pub none_if : {A : Type 0} (o : Option A) (P : Type 0) → P → IfNone o P
none_if None P p = p
none_if (Some a) P p = tt

-- a label that was found
pub label_some : (word line rest mark : List ℕ) (o : Option (Bor (List ℕ))) (P : Type 0) → line ≡ word ++ rest
    → MatchOption o P
    (λ x. (pointwise nat_eq (drop (length rest - length mark) rest) mark ≡ true) × (x.now ≡ take (length rest - length mark) rest)
    × (length x.now + length mark ≡ length rest)) → IfSome o (λ label. line ≡ (word ++ label.now) ++ mark)
label_some word line rest mark None P e h = tt
label_some word line rest mark (Some x) P e h =
    e ∙ ap (λ r. word ++ r) (ends_so mark rest h.0 ∙ ap (λ l. l ++ mark) (sym h.1)) ∙ sym (append_assoc word x.now mark)

-- and one that was not
pub label_none : (word line rest mark : List ℕ) (o : Option (Bor (List ℕ))) (Q : Bor (List ℕ) → Type 0) → line ≡ word ++ rest
    → MatchOption o (pointwise nat_eq (drop (length rest - length mark) rest) mark ≡ false) Q
    → IfNone o ((label : List ℕ) → line ≢ (word ++ label) ++ mark)
label_none word line rest mark None Q e h =
    λ label k. ends_otherwise mark rest h label (append_cancel_left word rest (label ++ mark) (sym e ∙ k ∙ append_assoc word label mark))
label_none word line rest mark (Some x) Q e h = tt

-- two labels that were found to differ
pub differ : (xs ys : List ℕ) → true ≡ not (pointwise nat_eq xs ys) → ys ≢ xs
differ xs ys h e = other_text xs ys (go (pointwise nat_eq xs ys) h) (sym e)
  where
    go : (b : Bool) → true ≡ not b → false ≡ b
    go true k = absurd cc
    go false k = refl
