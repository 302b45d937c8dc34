-- Whether frames one after another ascend, told by each two of them.
use Rattle.std.proofs.Common.{◌≡◌, ℕ, ◌<◌, ◌≤◌, List, [], ◌∷◌, ◌++◌, length, drop, sym, ◌∙◌, ap, subst, arith, ◌↔◌, true, Bool}
use Rattle.std.specs.List.{AllByRecursion}
use Rattle.std.proofs.Math.Seq.{drop-append_seam}
use Rattle.cms_tlv.specs.Frames.{Frame, IsDerFrame}
use Rattle.cms_tlv.specs.Order.{ComesAfter, Ascends}
use Rattle.cms_tlv.specs.Spelling.{join}
use Rattle.cms_setof.proofs.MergeLaws.{der_frame, FirstOf, first_of, no_frames}

-- the frames ascend if and only if those from the last one on do
pub record Checked (bs : List (List ℕ)) (last rest : List ℕ) : Type 0 where
  pub others : List (List ℕ)
  pub rest_is : rest ≡ join others
  pub last_frame : 0 < length rest → Frame last
  pub der : AllByRecursion IsDerFrame others
  pub same : Ascends (last ∷ others) ↔ Ascends bs

pub first_checked : (bs : List (List ℕ)) (row last : List ℕ) → AllByRecursion IsDerFrame bs → row ≡ join bs → length last ≤ length row
    → ((f rest : List ℕ) → IsDerFrame f → row ≡ f ++ rest → last ≡ f) → Checked bs last (drop (length last) row)
first_checked [] row last p e l f =
    let none : length last ≡ 0 = omega (arith, ap length e) in
    let d : drop (length last) row ≡ [] = ap (λ k. drop k row) none ∙ e in
    record {
      others = [];
      rest_is = d;
      last_frame = λ m. absurd (omega (arith, ap length d));
      der = tt;
      same = (λ a. tt, λ a. tt);
    }
first_checked (b ∷ bs) row last p e l f =
    let is : last ≡ b = f b (join bs) p.0 e in
    record {
      others = bs;
      rest_is = ap (λ z. drop (length z) row) is ∙ (ap (λ z. drop (length b) z) e ∙ drop-append_seam b (join bs));
      last_frame = λ m. subst Frame (sym is) (der_frame p.0);
      der = p.1;
      same = (λ a. subst (λ z. Ascends (z ∷ bs)) is a, λ a. subst (λ z. Ascends (z ∷ bs)) (sym is) a);
    }

module _ {bs : List (List ℕ)} {last rest : List ℕ} (h : Checked bs last rest) (some : 0 < length rest) (next : List ℕ)
    (is : (f more : List ℕ) → IsDerFrame f → rest ≡ f ++ more → next ≡ f) (may : Bool)
    (told : Frame last → Frame next → (may ≡ true) ↔ (ComesAfter last next → ⊥)) where
  found : FirstOf h.others rest
  found = first_of h.others rest h.der h.rest_is some

  next_is : next ≡ found.frame
  next_is = is found.frame (join found.others) found.der found.begins

  tells : (may ≡ true) ↔ (ComesAfter last found.frame → ⊥)
  tells = subst (λ z. (may ≡ true) ↔ (ComesAfter last z → ⊥)) next_is (told (h.last_frame some) (subst Frame (sym next_is) (der_frame found.der)))

  both : Ascends (last ∷ found.frame ∷ found.others) ↔ Ascends bs
  both = subst (λ z. Ascends (last ∷ z) ↔ Ascends bs) found.is h.same

  pub next_checked : may ≡ true → Checked bs next (drop (length next) rest)
  next_checked t =
      let f = found in
      let b = both in
      let n = tells.0 t in
      record {
        others = f.others;
        rest_is = ap (λ z. drop (length z) rest) next_is ∙ (ap (λ z. drop (length f.frame) z) f.begins ∙ drop-append_seam f.frame (join f.others));
        last_frame = λ m. subst Frame (sym next_is) (der_frame f.der);
        der = f.others_der;
        same = subst (λ z. Ascends (z ∷ f.others) ↔ Ascends bs) (sym next_is) (λ a. b.0 (n, a), λ a. (b.1 a).1);
      }

  pub not_ascending : Ascends bs → may ≡ true
  not_ascending a = tells.1 (both.1 a).0

pub all_checked : {bs : List (List ℕ)} {last rest : List ℕ} → Checked bs last rest → length rest ≡ 0 → Ascends bs
all_checked h e = h.same.0 (subst (λ z. Ascends (_ ∷ z)) (sym (no_frames h.others h.der (omega (arith, ap length h.rest_is)))) tt)
