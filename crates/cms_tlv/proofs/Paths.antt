-- What was taken before an element is a path.
use Rattle.std.proofs.Common.{◌≡◌, ℕ, List, [], ◌∷◌, ◌++◌, length, length-append, refl, sym, ap, subst, ◌∙◌, append_assoc, arith}
use Rattle.std.proofs.lemmas.List.{append-nil}
use Rattle.std.specs.Prelude.{◌<◌, Bool, true, false, ◌&&◌}
use Rattle.cms_tlv.specs.Clauses.{Contains}
use Rattle.cms_tlv.specs.Frames.{Frame, definite, indefinite, IsPath, start, past, into}
use Rattle.cms_tlv.specs.Headers.{IsConstructed, IsHeader, IsIdentifier, IsLength, low, short}
use Rattle.cms_tlv.specs.Opaque.{IsFramed}
use Rattle.cms_tlv.specs.RefusalReasons.{IsPathIf}
use Rattle.cms_tlv.proofs.FrameLaws.{identifier_some}
use Rattle.cms_tlv.proofs.HeaderCuts.{identifier_cut, length_cut}
use Rattle.cms_tlv.proofs.OpaqueReads.{framed_frame}

pub path_then : {a b : List ℕ} → IsPath a → IsPath b → IsPath (a ++ b)
path_then start q = q
path_then {b = b} (past {f = f} {c = c} h p) q = subst IsPath (sym (append_assoc f c b)) (past h (path_then p q))
path_then {b = b} (into {h = h} {c = c} i k p) q = subst IsPath (sym (append_assoc h c b)) (into i k (path_then p q))

-- A path, if one is asked for.
pub path_if : (paths : Bool) {b : List ℕ} → IsPath b → IsPathIf paths b
path_if true p = p
path_if false p = tt

pub path_then_if : (paths : Bool) (a b : List ℕ) → IsPathIf paths a → IsPathIf paths b → IsPathIf paths (a ++ b)
path_then_if true a b p q = path_then p q
path_then_if false a b p q = tt

-- a path of the one record is one of both
pub of_left : (paths others : Bool) (b : List ℕ) → IsPathIf paths b → IsPathIf (paths && others) b
of_left true true b p = p
of_left true false b p = tt
of_left false others b p = tt

pub of_right : (others paths : Bool) (b : List ℕ) → IsPathIf paths b → IsPathIf (others && paths) b
of_right true paths b p = p
of_right false paths b p = tt

pub frame_path : {f : List ℕ} → Frame f → IsPath f
frame_path {f = f} h = subst IsPath (append-nil f) (past h start)

pub header_path : {id : ℕ} {h : List ℕ} → IsHeader id h → IsConstructed id → IsPath h
header_path {h = h} i k = subst IsPath (append-nil h) (into i k start)

pub element_path : {id : ℕ} {b c : List ℕ} → Contains id false b c → IsPath b
element_path {c = c} h = subst IsPath (sym h.parts) (frame_path (definite c h.is_identifier h.is_length))

pub end_path : IsPath (0 ∷ 0 ∷ [])
end_path = frame_path (definite [] (low (omega arith) (omega arith)) (short (omega arith)))

pub framed_path : {b : List ℕ} {d : ℕ} → IsFramed b d → IsPath b
framed_path h = frame_path (framed_frame h)

-- The header of a primitive element with contents is no path.
module _ {id n : ℕ} {i l : List ℕ} (is_id : IsIdentifier id i) (primitive : IsConstructed id → ⊥) (is_length : IsLength l n) (some : 0 < n) where
  no_frame : {f : List ℕ} (c : List ℕ) → Frame f → f ++ c ≡ i ++ l → ⊥
  no_frame c (definite {i = j} {l = m} d q k) e =
      let head = identifier_cut q is_id (sym (append_assoc j (m ++ d) c) ∙ e) in
      let sizes = length_cut k is_length (sym (append_assoc m d c) ∙ head.2 ∙ sym (append-nil l)) in
      omega (arith, some, sizes.1, ap length sizes.2, length-append d c)
  no_frame c (indefinite {i = j} {c = d} q k h) e =
      let head = identifier_cut q is_id (sym (append_assoc j (0x80 ∷ (d ++ 0 ∷ 0 ∷ [])) c) ∙ e) in primitive (subst IsConstructed head.0 k)

  no_path : {b : List ℕ} → IsPath b → b ≡ i ++ l → ⊥
  no_path start e = omega (arith, ap length e, length-append i l, identifier_some is_id)
  no_path (past {c = c} h p) e = no_frame c h e
  no_path (into {c = c} h k p) e =
      let head = identifier_cut h.is_identifier is_id (sym (append_assoc h.identifier h.sizes c) ∙ ap (λ x. x ++ c) (sym h.parts) ∙ e) in
      primitive (subst IsConstructed head.0 k)

  pub header_no_path : IsPath (i ++ l) → ⊥
  header_no_path p = no_path p refl
