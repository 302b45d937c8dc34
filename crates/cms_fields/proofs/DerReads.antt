-- Octets in memory that are read as one field in DER.
use Rattle.std.proofs.Common.{◌≡◌, ◌≢◌, ℕ, List, [], ◌++◌, length, Option, Some, None, inl, inr, true, refl, sym, ap, subst, ◌∙◌, arith}
use Rattle.std.proofs.lemmas.List.{append-nil}
use Rattle.std.specs.Io.KnownBytes.{Consumes, IsAtEnd}
use Rattle.cms_tlv.specs.declared.bound.Bound.{Bound}
use Rattle.cms_tlv.specs.declared.fault.Fault.{Fault}
use Rattle.cms_tlv.specs.declared.fault.Fault.TheVariants as faults
use Rattle.cms_tlv.specs.declared.fault.Reason.TheVariants.{Truncated}
use Rattle.cms_tlv.specs.State.{State}
use Rattle.cms_tlv.specs.Spelling.{Spelling}
use Rattle.cms_tlv.specs.Law.{IsField}
use Rattle.cms_tlv.specs.Clauses.{OctetsTaken, Found, Ends, Faults}
use Rattle.cms_tlv.proofs.FrameLaws.{frame_cut}

-- a source over octets, with no octet taken
abbrev pub start : List ℕ → State
start xs = record { done = []; ahead = None; left = Some xs; failures = 0; limit = length xs; fault = None }

-- outside every element, by DER
abbrev pub outside : Bound
outside = record { end = None; indefinite = true; strict = true }

-- what is left of octets that are known is known
left_of : (xs octets : List ℕ) (after : Option (List ℕ)) → Consumes (Some xs) after octets → (ys : List ℕ) × (after ≡ Some ys) × (xs ≡ octets ++ ys)
left_of xs octets None h = absurd h
left_of xs octets (Some ys) h = (ys, refl, h)

begin : (xs octets : List ℕ) (s : State) → OctetsTaken (start xs) s octets → (ys : List ℕ) × (s.left ≡ Some ys) × (xs ≡ octets ++ ys)
begin xs octets s t =
    let k = left_of xs t.more s.left t.left in
    (k.0, k.1, k.2 ∙ ap (λ zs. zs ++ k.0) (sym t.order))

module _ {V : Type 0} {P : ℕ → Type 0} {R : Spelling V} (f : IsField P R) (xs : List ℕ) (s : State) (w : V) (spelled : R xs w) where
  -- what begins with a field and is one has nothing after it
  pub taken_whole : (old : State) (v : V) → old ≡ start xs → Found R old s v → s.done ≡ xs
  taken_whole old v o found =
      let h : Found R (start xs) s v = subst (λ a. Found R a s v) o found in
      let k = begin xs h.octets s h.taken in
      h.kept ∙ (frame_cut k.0 [] (f.frame h.octets v h.spells) (f.frame xs w spelled) (sym k.2 ∙ sym (append-nil xs))).0

  never_cut : Ends outside (start xs) s → ⊥
  never_cut h =
      let k = begin xs h.octets s h.taken in
      let none : k.0 ≡ [] = subst IsAtEnd k.1 h.at_end in
      let same : length xs ≡ length h.octets = ap length (k.2 ∙ ap (λ zs. h.octets ++ zs) none ∙ append-nil h.octets) in
      omega (arith, same, h.room.1)

  refused : (e : Fault) → Faults R outside (start xs) s e → s.failures ≡ 0 → e ≢ faults.OutOfMemory → ⊥
  refused (faults.Refused reason at) h none other =
      let never : reason ≢ Truncated = λ e. never_cut (h.2 e) in
      let r = h.1 never in
      let k = begin xs r.octets s r.taken in
      r.hopeless k.0 xs [] w (tt, omega arith) (sym k.2 ∙ sym (append-nil xs)) spelled
  refused faults.Read (inl rose) none other = omega (arith, rose, none)
  refused faults.Read (inr most) none other = omega (arith, most, none)
  refused (faults.Write written) h none other = h
  refused faults.OutOfMemory h none other = other refl

  -- such octets are not refused, and reading them fails only if memory runs out
  pub never_refused : (bd : Bound) (old : State) (e : Fault) → bd ≡ outside → old ≡ start xs → Faults R bd old s e → s.failures ≡ 0 → e ≢ faults.OutOfMemory → ⊥
  never_refused bd old e b o h = refused e (subst (λ a. Faults R outside a s e) o (subst (λ a. Faults R a old s e) b h))
