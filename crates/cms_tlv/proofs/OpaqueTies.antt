-- What reading opaque values refuses with E2 to E5, and for which octets.
use Rattle.std.proofs.Common.{◌≡◌, inl, inr, ℕ, zero, suc, ◌+◌, ◌-◌, ◌/◌, ◌%◌, Bool, true, eqb, List, ◌∷◌, ◌++◌, Ok, Err, refl, subst, arith}
use Rattle.std.proofs.lemmas.Bool.{eqb-true}
use Rattle.cms_tlv.specs.declared.fault.Reason.{Reason}
use Rattle.cms_tlv.specs.declared.fault.Reason.TheVariants.{OpaqueNotDer, OpaqueTooDeep}
use Rattle.cms_tlv.specs.declared.bound.Bound.{Bound}
use Rattle.cms_tlv.specs.declared.bound.Header.{Header}
use Rattle.cms_tlv.specs.Headers.{IsHeader}
use Rattle.cms_tlv.specs.Opaque.{IsFramed}
use Rattle.cms_tlv.specs.Reading.{Cursor, stop, Reader, ◌>>=◌, give, refuse, ends_here, expected_of, counted_of, is_framed, framing_fault, framed_header_of, all_of, to_end_of, framed_of, opaque_of}
use Rattle.cms_tlv.proofs.Inverse.{okay, bad, chosen, branch, bind_err}
use Rattle.cms_tlv.proofs.ReadingLaws.{Moves, moves_then}
use Rattle.cms_tlv.specs.Refines.{NeedsNoOctets}
use Rattle.cms_tlv.specs.RefusalReasons.{IsPathIf}
use Rattle.cms_tlv.proofs.Ties.{Ties, TiesLast, at_once, stop_reason, lacks_later, expected_ties, counted_lacks}
use Rattle.cms_tlv.proofs.OpaqueGives.{framing_free}
use Rattle.cms_tlv.proofs.OpaqueReads.{FramedHead, head_of, framed_sound, opaque_cut}
use Rattle.cms_tlv.proofs.Paths.{path_if, path_then_if, header_path, framed_path}

pub after_path : {paths : Bool} {c m : Cursor} {b : List ℕ} {reason : Reason} {at : ℕ} → IsPathIf paths b → Moves c b m → TiesLast paths m reason at
    → TiesLast paths c reason at
after_path {paths = paths} {b = b} h p t = record { prefix = b ++ t.prefix; path = path_then_if paths _ _ h t.path; last = t.last; moves = moves_then p t.moves; ties = t.ties }

head_header : {bd : Bound} {c d : Cursor} {h : Header} (k : FramedHead bd c d h) → IsHeader h.ident ((h.ident ∷ k.more) ++ k.sizes)
head_header {h = h} k = record {
  identifier = h.ident ∷ k.more;
  sizes = k.sizes;
  parts = refl;
  is_identifier = k.is_ident;
  is_length = inl (k.size, k.is_short.is);
}

-- a refusal for another reason
framing : {A : Type 0} (c : Cursor) {e : Reason} {m : ℕ} {reason : Reason} {at : ℕ} → NeedsNoOctets c.limit at e
    → bad {A = A} (stop e m) ≡ bad (stop reason at) → Ties c reason at
framing c {at = at} x k = inl (subst (NeedsNoOctets c.limit at) (stop_reason k) x)

framed_header_ties : (bd : Bound) (c : Cursor) {reason : Reason} {at : ℕ} → framed_header_of bd c ≡ Err (stop reason at) → Ties c reason at
unfolding framed_header_of
framed_header_ties bd c {reason = reason} {at = at} e = elim (bind_err (expected_of bd) _ c e) [
  | inl x ↦ expected_ties bd c x
  | inr s ↦ elim (branch (is_framed s.0) (give s.0) (refuse (framing_fault bd s.0.ident)) s.1 (bad (stop reason at)) s.3) [
    | inl x ↦ absurd (let k = x.1 in cc)
    | inr x ↦ framing c (framing_free bd s.0.ident c.limit at) x.1
  ]
]

module _ (f : Bound → Reader (Unit {0})) (dep : ℕ)
    (sound : (bd : Bound) (c d : Cursor) (u : Unit {0}) → f bd c ≡ Ok (u, d) → (b : List ℕ) × Moves c b d × IsFramed b dep)
    (ties : (bd : Bound) (c : Cursor) (reason : Reason) (at : ℕ) → f bd c ≡ Err (stop reason at) → TiesLast true c reason at) where
  all_ties : (count : ℕ) (bd : Bound) (c : Cursor) {reason : Reason} {at : ℕ} → all_of count f bd c ≡ Err (stop reason at) → TiesLast true c reason at
  unfolding all_of
  all_ties zero bd c {at = at} e = at_once (framing c {e = OpaqueNotDer} tt e)
  all_ties (suc count) bd c {reason = reason} {at = at} e =
      elim (chosen (ends_here bd c.at) (okay (tt, c)) ((f bd >>= λ u. all_of count f bd) c) (bad (stop reason at)) e) [
        | inl x ↦ absurd (let k = x.1 in cc)
        | inr x ↦ elim (bind_err (f bd) (λ u. all_of count f bd) c x.1) [
          | inl y ↦ ties bd c reason at y
          | inr y ↦ let one = sound bd c y.1 y.0 y.2 in after_path (framed_path one.2) one.1 (all_ties count bd y.1 y.3)
        ]
      ]

framed_ties : (left dep : ℕ) → left + dep ≡ 65 → (bd : Bound) (c : Cursor) {reason : Reason} {at : ℕ}
    → framed_of left bd c ≡ Err (stop reason at) → TiesLast true c reason at
unfolding framed_of to_end_of
framed_ties zero dep n bd c e = elim (bind_err (framed_header_of bd) (λ h. refuse OpaqueTooDeep) c e) [
  | inl x ↦ at_once (framed_header_ties bd c x)
  | inr x ↦ at_once (framing c {e = OpaqueTooDeep} tt x.3)
]
framed_ties (suc left) dep n bd c {reason = reason} {at = at} e = elim (bind_err (framed_header_of bd) _ c e) [
  | inl x ↦ at_once (framed_header_ties bd c x)
  | inr s ↦
      let h = s.0 in
      let m = s.1 in
      let k = head_of bd c m h s.2 in
      elim (branch (eqb ((h.ident / 32) % 2) 1) (to_end_of (framed_of left) h.inner) (counted_of h.inner h.len >>= λ octets. give tt) m
      (bad (stop reason at)) s.3) [
        | inl x ↦ after_path (header_path (head_header k) (eqb-true ((h.ident / 32) % 2) 1 x.0)) k.moves (all_ties (framed_of left) (suc dep) (framed_sound left (suc dep) (omega arith))
            (λ bd c reason at e. framed_ties left (suc dep) (omega arith) bd c e) (suc (m.limit - m.at)) h.inner m x.1)
        | inr x ↦ elim (bind_err (counted_of h.inner h.len) (λ octets. give tt) m x.1) [
          | inl y ↦ at_once (inl (lacks_later reason at k.moves (counted_lacks h.inner h.len m y)))
          | inr y ↦ absurd (let z = y.3 in cc)
        ]
      ]
]

pub opaque_ties : {paths : Bool} (bd : Bound) (c : Cursor) (reason : Reason) (at : ℕ) → opaque_of bd c ≡ Err (stop reason at)
    → TiesLast paths c reason at
opaque_ties {paths = paths} bd c reason at e =
    let t = framed_ties 64 1 refl bd c (opaque_cut bd c (stop reason at) e) in
    record { prefix = t.prefix; path = path_if paths t.path; last = t.last; moves = t.moves; ties = t.ties }
