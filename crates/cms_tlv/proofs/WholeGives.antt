-- What whole elements that were at hand give.
use Rattle.std.proofs.Common.{◌≡◌, ◌≢◌, ◌⊎◌, inl, inr, ℕ, suc, ◌+◌, ◌-◌, ◌≤◌, ◌<◌, List, [], ◌++◌, length, Option, None, ap, subst, ◌∙◌, arith, length-append}
use Rattle.std.proofs.lemmas.List.{append-nil, nil_from_length}
use Rattle.cms_tlv.specs.declared.bound.Bound.{Bound}
use Rattle.cms_tlv.specs.State.{State, TakesAccepted, LacksMemory}
use Rattle.cms_tlv.specs.declared.fault.Fault.{Fault}
use Rattle.cms_tlv.specs.internal.Whole.{FitIn}
use Rattle.cms_tlv.specs.Reading.{Reader, all_of, to_end_of, framed_of}
use Rattle.cms_tlv.specs.Refines.{cursor, Failed}
use Rattle.cms_tlv.proofs.Bind.{reaches_then, fails_then}
use Rattle.cms_tlv.proofs.ReadingLaws.{moves_nothing, moved}
use Rattle.cms_tlv.proofs.ContentsGives.{adds_took, adds_moves, no_memory}
use Rattle.cms_tlv.proofs.OpaqueReads.{how_many, how_many_most, many_complete, framed_complete}
use Rattle.cms_tlv.proofs.OpaqueGives.{HasPassed}

-- elements were read, and then these
pub these_passed : (levels n : ℕ) (bd : Bound) {a b c : State} → levels ≤ 64 → b.ahead ≡ None → c.ahead ≡ None
    → HasPassed (framed_of levels) bd a b → TakesAccepted (FitIn bd.end b levels) b c n → HasPassed (framed_of levels) bd a c
these_passed levels n bd {a = a} {b = b} {c = c} few p q h t = go t.accepted
  where
    on :
        (left : ℕ) → c.limit ≤ length c.done + left → ((ys : List ℕ)
        → all_of (suc h.left) (framed_of levels) bd (cursor b (t.octets ++ ys)) ≡ all_of (suc left) (framed_of levels) bd (cursor c ys))
        → HasPassed (framed_of levels) bd a c
    on left enough g =
        record {
          left = left;
          enough = enough;
          sound = t.adds.sound;
          so_far = reaches_then h.so_far (record { more = t.octets; took = adds_took t.octets h.sound p q t.adds; refines = g });
        }

    size : length c.done ≡ length b.done + length t.octets
    size = (adds_moves t.octets [] p q t.adds).at

    go : (n ≡ 0) ⊎ FitIn bd.end b levels t.octets → HasPassed (framed_of levels) bd a c
    go (inl z) =
        let none : t.octets ≡ [] = nil_from_length t.octets (t.count ∙ z) in
        on h.left (omega (arith, size, h.enough, t.adds.limit)) (λ ys.
        let m = adds_moves t.octets ys p q t.adds in
        ap (all_of (suc h.left) (framed_of levels) bd) (moved (moves_nothing (cursor b (t.octets ++ ys)))
        (subst (λ x. Rattle.cms_tlv.specs.Law.Moves (cursor b (t.octets ++ ys)) x (cursor c ys)) none m)
        (m.rest ∙ ap (λ x. x ++ (cursor c ys).rest) none)))
    go (inr w) =
        let d : ℕ = 65 - levels in
        let all = w.0 d (omega arith) in
        let fits : length t.octets ≤ h.left = omega (arith, h.enough, w.1.1) in
        on (h.left - how_many all) (omega (arith, size, h.enough, t.adds.limit, how_many_most all))
        (λ ys. many_complete (framed_of levels) d (framed_complete levels d (omega arith)) all h.left bd (cursor b (t.octets ++ ys))
        (cursor c ys) fits (adds_moves t.octets ys p q t.adds) w.1)

-- none were at hand
pub none_passed_over : {P : List ℕ → Type 0} {a b : State} (n : ℕ) → TakesAccepted P a b n → n ≡ 0 → length b.done ≡ length a.done
none_passed_over {a = a} n t z = ap length t.adds.done ∙ ap (λ x. length (a.done ++ x)) (nil_from_length t.octets (t.count ∙ z)) ∙ ap length (append-nil a.done)

-- some were, and less is left before the limit
pub some_passed_over : (end : Option ℕ) (levels n : ℕ) {a b : State} → TakesAccepted (FitIn end a levels) a b n → n ≢ 0
    → b.limit - length b.done < a.limit - length a.done
some_passed_over end levels n {a = a} {b = b} t z = go t.accepted
  where
    go : (n ≡ 0) ⊎ FitIn end a levels t.octets → b.limit - length b.done < a.limit - length a.done
    go (inl e) = absurd (z e)
    go (inr w) = let k = ap length t.adds.done in omega (arith, k, length-append a.done t.octets, t.count, z, w.1.1, t.adds.limit)

-- elements were read, and memory for more was wanted
pub memory_lacked : {f : Bound → Reader (Unit {0})} (bd : Bound) {a b c : State} {e : Fault} → HasPassed f bd a b → b.ahead ≡ None
    → c.ahead ≡ None → LacksMemory b c e → Failed (to_end_of f bd) a c e
memory_lacked bd h p q l = fails_then h.so_far (no_memory _ h.sound p q l)
