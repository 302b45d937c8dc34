-- The DER of a message and other octets, put into one room.
use Rattle.std.proofs.Common.{◌≡◌, ◌<◌, ◌≤◌, inl, inr, ℕ, ◌+◌, ◌-◌, List, [], ◌∷◌, ◌++◌, length, length-append, length-take, length-drop, append_assoc, take, drop, Bool, true, false, Option, Some, None, refl, subst, ap, sym, ◌∙◌, arith}
use Rattle.std.proofs.lemmas.List.{take-append-le, take-append-drop, take_all, drop-append-le}
use Rattle.std.proofs.lemmas.Slice.{drop-append-drop}
use Rattle.cms_tlv.specs.declared.fault.Fault.{Fault}
use Rattle.cms_canon.specs.Messages.{IsPutInto}
use Rattle.cms_canon.specs.Whole.{Whole}
use Rattle.cms_c.specs.Many.{AreReportedAfter}
use Rattle.cms_c.specs.Outcomes.{Says, SaysReport, IsReported}
use Rattle.cms_c.specs.declared.outcome.Outcome.{Outcome}

-- octets that fit are reported, and octets that do not
reported : (refusal : Option Fault) (octets before after : List ℕ) (o : Outcome) → SaysReport refusal (length octets) o
    → length octets ≤ length before → after ≡ octets ++ drop (length octets) before → IsReported refusal octets before after o
reported None octets before after o s l e = inl (s, l, e)
reported (Some f) octets before after o s l e = inl (s, l, e)

not_reported : (refusal : Option Fault) (octets before after : List ℕ) (o : Outcome) → Says o 6 0 0 (length octets) []
    → length before < length octets → after ≡ before → IsReported refusal octets before after o
not_reported None octets before after o s l e = inr (s, l, e)
not_reported (Some f) octets before after o s l e = inr (s, l, e)

-- what is written to the first part of a room lies at its beginning
in_part : (octets before part : List ℕ) (room n : ℕ) → n ≡ length octets → n ≤ length (take room before)
    → part ≡ octets ++ drop n (take room before) → part ++ drop room before ≡ octets ++ drop n before
in_part octets before part room n e l w =
    ap (λ t. t ++ drop room before) w ∙ append_assoc octets (drop n (take room before)) (drop room before)
    ∙ ap (λ t. octets ++ t) (sym (drop-append-le n (take room before) (drop room before) l) ∙ ap (drop n) (take-append-drop room before))

none_of : (xs : List ℕ) → length xs ≡ 0 → xs ≡ []
none_of [] e = refl
none_of (x ∷ xs) e = absurd cc

-- what is put at the beginning of a room, and other octets after it
after_it : (octets others before mid : List ℕ) (n : ℕ) → n ≡ length octets → mid ≡ octets ++ drop n before
    → take n mid ++ (others ++ drop (n + length others) mid) ≡ (octets ++ others) ++ drop (length (octets ++ others)) before
after_it octets others before mid n e w =
    let front : take n mid ≡ octets = ap (take n) w ∙ take-append-le n octets (drop n before) (omega (arith, e)) ∙ take_all n octets (omega (arith, e)) in
    let behind : drop (n + length others) mid ≡ drop (length (octets ++ others)) before = ap (drop (n + length others)) w
    ∙ drop-append-drop n before octets (n + length others) (omega arith) (sym e)
    ∙ ap (λ k. drop k before) (omega (arith, e, length-append octets others)) in
    ap (λ t. t ++ (others ++ drop (n + length others) mid)) front ∙ ap (λ t. octets ++ (others ++ t)) behind
    ∙ sym (append_assoc octets others (drop (length (octets ++ others)) before))

module _ (m : Whole) (before part others : List ℕ) (refusal : Option Fault) (room n : ℕ) (o : Outcome)
    (left : room ≡ length before - length others) (p : IsPutInto m (take room before) part n) where
  abbrev mid : List ℕ
  mid = part ++ drop room before

  count : n + length others ≡ length (p.octets ++ others)
  count = omega (arith, p.counted, length-append p.octets others)

  all_fit : (after : List ℕ) → n + length others ≤ length before → after ≡ take n mid ++ (others ++ drop (n + length others) mid)
      → SaysReport refusal (n + length others) o → AreReportedAfter m refusal others before after o
  all_fit after l e s = elim p.put [
    | inl w ↦ (
      p.octets,
      p.is_der,
      p.received,
      reported refusal (p.octets ++ others) before after o (subst (λ k. SaysReport refusal k o) count s) (omega (arith, l, count))
          (e ∙ after_it p.octets others before mid n p.counted (in_part p.octets before part room n p.counted w.0 w.1)),
    )
    | inr w ↦ absurd (omega (arith, w.0, length-take room before, left, l))
  ]

  unchanged : length before < n + length others → mid ≡ before
  unchanged l = elim p.put [
    | inl w ↦
        let zero : n ≡ 0 = omega (arith, w.0, length-take room before, left, l) in
        let none = none_of p.octets (sym p.counted ∙ zero) in
        in_part p.octets before part room n p.counted w.0 w.1 ∙ ap (λ t. t ++ drop n before) none ∙ ap (λ k. drop k before) zero
    | inr w ↦ ap (λ t. t ++ drop room before) w.1 ∙ take-append-drop room before
  ]

  lack_room : (after : List ℕ) → length before < n + length others → after ≡ mid → Says o 6 0 0 (n + length others) []
      → AreReportedAfter m refusal others before after o
  lack_room after l e s = (
    p.octets,
    p.is_der,
    p.received,
    not_reported refusal (p.octets ++ others) before after o (subst (λ k. Says o 6 0 0 k []) count s) (omega (arith, l, count)) (e ∙ unchanged l),
  )

  -- a room has as many octets as before
  as_long : length mid ≡ length before
  as_long = elim p.put [
    | inl w ↦
        let whole = ap length (in_part p.octets before part room n p.counted w.0 w.1) in
        omega (arith, whole, length-append p.octets (drop n before), length-drop n before, p.counted, w.0, length-take room before)
    | inr w ↦ ap length (ap (λ t. t ++ drop room before) w.1 ∙ take-append-drop room before)
  ]

  pub put_together : (fits : Bool) (after : List ℕ)
      → (fits ≡ true → (n + length others ≤ length mid) × (after ≡ take n mid ++ (others ++ drop (n + length others) mid)))
      → (fits ≡ false → (length mid < n + length others) × (after ≡ mid)) → (fits ≡ true → SaysReport refusal (n + length others) o)
      → (fits ≡ false → Says o 6 0 0 (n + length others) []) → AreReportedAfter m refusal others before after o
  put_together true after w u s t = all_fit after (omega (arith, (w refl).0, as_long)) (w refl).1 (s refl)
  put_together false after w u s t = lack_room after (omega (arith, (u refl).0, as_long)) (u refl).1 (t refl)
