use Rattle.std.proofs.Common.{inl, inr, ◌≡◌, ◌+◌, ◌<◌, ◌≤◌, ◌&&◌, not, true, false, length, arith, refl, sym, ap, ◌∙◌}
use Rattle.cms_tlv.specs.declared.fault.Reason.TheVariants.{Overrun, TooLarge, SignedAttrsNotDer}
use Rattle.cms_tlv.specs.Refines.{cursor, RefinesWithValue, plain}
use Rattle.cms_tlv.specs.Reading.{definite_length_of}
use Rattle.cms_tlv.proofs.HeaderReads.{sized}
use Rattle.cms_tlv.proofs.HeaderGives.{here, refused_at, gave_plain, sized_over, sized_large, sized_strict, sized_ok}
use Rattle.cms_tlv.proofs.source.Source.definite.Goals as goal
use Rattle.cms_tlv.proofs.source.Source.definite.Goals.{else-bound-via-then-bound+else-not-shortest, else-bound-via-else-bound}

pub returns-then-passes-clause-refines : goal.returns-then-passes-clause-refines
returns-then-passes-clause-refines g c =
    let s = c.args.self.now in
    refused_at Overrun c.requires.sound (λ e. absurd cc) (inl tt) (here (definite_length_of c.args.bound.now c.args.ident c.args.shortest c.args.n) s)
    (λ ys. sized_over c.args.bound.now c.args.ident c.args.n c.args.shortest (cursor s ys) (sym c.passes.ensures ∙ c.if-passes.true))
    c.refused.ensures.state c.refused.ensures.same

pub returns-then-n-limit-clause-refines : goal.returns-then-n-limit-clause-refines
returns-then-n-limit-clause-refines g c =
    let s = c.args.self.now in
    let over : s.limit < length s.done + c.args.n = omega (arith, c.consumed-at.ensures.value, c.limit.ensures.value, c.if-n-limit.true) in
    refused_at TooLarge c.requires.sound (λ e. absurd cc) (inr c.requires.clear) (here (definite_length_of c.args.bound.now c.args.ident c.args.shortest c.args.n) s)
    (λ ys. sized_large c.args.bound.now c.args.ident c.args.n c.args.shortest (cursor s ys) (sym c.passes.ensures ∙ c.if-passes.false)
    over) c.refused-then-n-limit.ensures.state c.refused-then-n-limit.ensures.same

pub returns-then-not-shortest-clause-refines : goal.returns-then-not-shortest-clause-refines
returns-then-not-shortest-clause-refines g c =
    let s = c.args.self.now in
    let bd = c.args.bound.now in
    let fits : length s.done + c.args.n ≤ s.limit =
    omega (arith, c.consumed-at.ensures.value, c.consumed-at.ensures.limit, c.limit.ensures.value, c.limit.ensures.taken, c.if-n-limit.false) in
    let longer : (bd.strict && not c.args.shortest) ≡ true = rw (c.if-bound.true, c.if-not-shortest.true) refl in
    refused_at SignedAttrsNotDer c.requires.sound (λ e. absurd cc) (inl tt) (here (definite_length_of bd c.args.ident c.args.shortest c.args.n) s)
    (λ ys. sized_strict bd c.args.ident c.args.n c.args.shortest (cursor s ys) (sym c.passes.ensures ∙ c.if-passes.false) fits longer)
    c.refused-then-not-shortest.ensures.state c.refused-then-not-shortest.ensures.same

pub returns-clause-refines : goal.returns-clause-refines
returns-clause-refines g c =
    let s = c.args.self.now in
    let bd = c.args.bound.now in
    let fits : length s.done + c.args.n ≤ s.limit =
    omega (arith, c.consumed-at.ensures.value, c.consumed-at.ensures.limit, c.limit.ensures.value, c.limit.ensures.taken, c.if-n-limit.false) in
    let may : (bd.strict && not c.args.shortest) ≡ false = elim c.else-bound.branch [
      | else-bound-via-then-bound+else-not-shortest w ↦ rw (w.if-bound.true, w.if-not-shortest.false) refl
      | else-bound-via-else-bound w ↦ ap (λ x. x && not c.args.shortest) w.if-bound.false
    ] in
    let h :
    RefinesWithValue plain (definite_length_of bd c.args.ident c.args.shortest c.args.n) s s
    (sized bd (length s.done) c.args.ident c.args.n c.args.shortest) =
    gave_plain _ (here _ s) (λ ys. sized_ok bd c.args.ident c.args.n c.args.shortest (cursor s ys)
    (sym c.passes.ensures ∙ c.if-passes.false) fits may) c.requires.sound in
    rw c.consumed-at.ensures.value h
