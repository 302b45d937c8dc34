-- Octets that are made, and copied from the input instead.
use Rattle.std.proofs.Common.{◌≡◌, ℕ, ◌+◌, ◌-◌, ◌≤◌, List, [], ◌∷◌, ◌++◌, length, take, drop, sym, ◌∙◌, ap, subst, arith, append_assoc}
use Rattle.std.proofs.lemmas.List.{take-append-drop, length-take-le}
use Rattle.std.proofs.Math.Seq.{drop-append_seam}
use Rattle.cms_tlv.specs.Spans.{octets_in}
use Rattle.cms_tlv.proofs.SpanLaws.{kept_up_to, span_within}
use Rattle.cms_fields.specs.Assembly.{Marked, marked, copied, made}
use Rattle.cms_fields.proofs.AssemblyLaws.{octets_marked, marked_both}
use Rattle.cms_setof.specs.declared.piece.Piece.{Piece}
use Rattle.cms_setof.specs.Copies.{CopiesMore}
use Rattle.cms_setof.specs.Pieces.{marked_piece, marked_pieces}
use Rattle.cms_setof.specs.internal.Tracing.{stacked}
use Rattle.cms_setof.proofs.CopiesLaws.{copies_same, copies_through, copies_whole, copies_both}
use Rattle.cms_setof.proofs.PieceLaws.{marked_more, stacked_more}

-- octets that are made may be copied
made_copied : (octets : List ℕ) → CopiesMore (marked made octets) (marked copied octets)
made_copied octets = copies_whole (marked made octets) octets (octets_marked made octets)

-- made octets, of which the last are copied, or the first
pub last_copied : (octets k : List ℕ) (end n : ℕ) → end ≤ length k → n ≤ end → drop (length octets - n) octets ≡ drop (end - n) (take end k)
    → CopiesMore (marked made octets) (marked made (take (length octets - n) octets) ++ marked copied (octets_in k (end - n) end))
last_copied octets k end n p q e =
    let a = take (length octets - n) octets in
    let b = octets_in k (end - n) end in
    let front = take (end - n) k in
    let long : length front ≡ end - n = length-take-le (end - n) k (omega arith) in
    let tail : drop (end - n) (take end k) ≡ b = ap (drop (end - n)) (kept_up_to k (end - n) end (omega arith) p)
    ∙ (ap (λ i. drop i (front ++ b)) (sym long) ∙ drop-append_seam front b) in
    let whole : octets ≡ a ++ b = sym (take-append-drop (length octets - n) octets) ∙ ap (λ z. a ++ z) (e ∙ tail) in
    subst (λ z. CopiesMore z (marked made a ++ marked copied b)) (sym (ap (marked made) whole ∙ marked_both made a b))
    (copies_both (marked made a) (marked made a) (marked made b) (marked copied b) (copies_same (marked made a)) (made_copied b))

pub first_copied : (octets k : List ℕ) (start n : ℕ) → start + n ≤ length k → take n octets ≡ take n (drop start k)
    → CopiesMore (marked made octets) (marked copied (octets_in k start (start + n)) ++ marked made (drop n octets))
first_copied octets k start n p e =
    let a = octets_in k start (start + n) in
    let b = drop n octets in
    let counted : (start + n) - start ≡ n = omega arith in
    let front : a ≡ take n (drop start k) = span_within k start (start + n) (omega arith) p ∙ ap (λ i. take i (drop start k)) counted in
    let whole : octets ≡ a ++ b = sym (take-append-drop n octets) ∙ ap (λ z. z ++ b) (e ∙ sym front) in
    subst (λ z. CopiesMore z (marked copied a ++ marked made b)) (sym (ap (marked made) whole ∙ marked_both made a b))
    (copies_both (marked made a) (marked copied a) (marked made b) (marked made b) (made_copied a) (copies_same (marked made b)))

-- two parts of a piece are put before others, or added after them
pub parts_put : (p a b old mid new : List Marked) → CopiesMore p (a ++ b) → mid ≡ b ++ old → new ≡ a ++ mid → CopiesMore (p ++ old) new
parts_put p a b old mid new h e f =
    subst (CopiesMore (p ++ old)) (append_assoc a b old ∙ (ap (λ z. a ++ z) (sym e) ∙ sym f)) (copies_both p (a ++ b) old old h (copies_same old))

pub parts_added : (p a b old mid new : List Marked) → CopiesMore p (a ++ b) → mid ≡ old ++ a → new ≡ mid ++ b → CopiesMore (old ++ p) new
parts_added p a b old mid new h e f =
    subst (CopiesMore (old ++ p)) (sym (append_assoc old a b) ∙ (ap (λ z. z ++ b) (sym e) ∙ sym f)) (copies_both old old p (a ++ b) (copies_same old) h)

pub copied_still : (ms ns : List Marked) → ns ≡ ms → CopiesMore ms ns
copied_still ms ns e = subst (CopiesMore ms) (sym e) (copies_same ms)

-- a piece is taken from the end of those that are left
module _ (k : List ℕ) (whole : List Marked) (left rest : List Piece) (p : Piece) (f : left ≡ rest ++ p ∷ []) where
  pub copied_before : (old new : List Piece) → CopiesMore whole (marked_pieces k left ++ stacked k old)
      → CopiesMore (marked_piece k p ++ stacked k old) (stacked k new) → CopiesMore whole (marked_pieces k rest ++ stacked k new)
  copied_before old new h g =
      let a = marked_pieces k rest in
      let b = marked_piece k p ++ stacked k old in
      let e : marked_pieces k left ++ stacked k old ≡ a ++ b = ap (λ z. z ++ stacked k old) (ap (marked_pieces k) f ∙ marked_more k rest p)
      ∙ append_assoc a (marked_piece k p) (stacked k old) in
      copies_through whole (a ++ b) (a ++ stacked k new) (subst (CopiesMore whole) e h) (copies_both a a b (stacked k new) (copies_same a) g)

  pub copied_after : (old new : List Piece) → CopiesMore whole (marked_pieces k old ++ stacked k left)
      → CopiesMore (marked_pieces k old ++ marked_piece k p) (marked_pieces k new) → CopiesMore whole (marked_pieces k new ++ stacked k rest)
  copied_after old new h g =
      let a = marked_pieces k old ++ marked_piece k p in
      let b = stacked k rest in
      let e : marked_pieces k old ++ stacked k left ≡ a ++ b = ap (λ z. marked_pieces k old ++ z) (ap (stacked k) f ∙ stacked_more k rest p)
      ∙ sym (append_assoc (marked_pieces k old) (marked_piece k p) b) in
      copies_through whole (a ++ b) (marked_pieces k new ++ b) (subst (CopiesMore whole) e h) (copies_both a (marked_pieces k new) b b g (copies_same b))
