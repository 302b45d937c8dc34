use Rattle.std.proofs.Common.{inl, Ok, Err, ap, false, length, refl, ◌≡◌, ◌/◌, ◌%◌, eqb, true, arith, sym, ◌∙◌, subst}
use Rattle.std.proofs.lemmas.Result.{err_from_is_err_and}
use Rattle.cms_tlv.specs.declared.fault.Reason.TheVariants.{OpaqueTooDeep}
use Rattle.cms_tlv.specs.Refines.{Simulates, Failed, Refines, plain}
use Rattle.cms_tlv.specs.Reading.{Reader, give, ends_here, framed_of}
use Rattle.cms_tlv.proofs.Bind.{fails, fails_then, reaches_then, reaches_bind, gave, gives_then}
use Rattle.cms_tlv.proofs.HeaderGives.{refused_as}
use Rattle.cms_tlv.proofs.OpaqueGives.{framed_next, framed_bind, framed_deep, framed_inside, framed_counted, framed_sized, counted_gives, before_limit, ok_of, HasPassed, none_passed, one_passed, one_fails, all_passed}
use Rattle.cms_tlv.proofs.WholeGives.{these_passed, none_passed_over, some_passed_over, memory_lacked}
use Rattle.cms_tlv.proofs.source.Source.+opaque_element.Goals as goal
use Rattle.cms_tlv.proofs.source.Source.+opaque_element.Goals.{opaque_elements-In_ok-whole_at_hand, opaque_elements-Then-branch-eq0, opaque_element-In_ok-header, opaque_element-in_default-via-in-Some+else-not-is_constructed, opaque_element-in_default-via-in_default}

pub opaque_elements-loop-self-init : goal.opaque_elements-loop-self-init
opaque_elements-loop-self-init g t c =
    record { passed = none_passed (framed_of c.args.levels) c.args.bound.now c.args.self.now c.requires.sound; clear = c.requires.clear }

-- after whole elements
at_hand : (g : _) (t : _) (c : opaque_elements-In_ok-whole_at_hand g t)
    → HasPassed (framed_of c.args.levels) c.args.bound.now c.args.self.now c.whole_at_hand.new.self
at_hand g t c =
    these_passed c.args.levels c.in_ok-whole_at_hand.field-0 c.args.bound.now c.requires.few c.loop-self.invariant.clear
    c.in_ok-whole_at_hand.ensures.clear c.loop-self.invariant.passed c.in_ok-whole_at_hand.ensures.ok

pub opaque_elements-loop-self-smaller : goal.opaque_elements-loop-self-smaller
opaque_elements-loop-self-smaller g t c =
    some_passed_over c.args.bound.now.end c.args.levels c.in_ok-whole_at_hand.field-0 c.in_ok-whole_at_hand.ensures.ok c.if-branch-eq0.false

pub opaque_elements-loop-self-preserved : goal.opaque_elements-loop-self-preserved
opaque_elements-loop-self-preserved g t c =
    record {
      passed = at_hand g t (goal.at.opaque_elements-loop-self-preserved g t c).In_ok-whole_at_hand;
      clear = c.in_ok-whole_at_hand.ensures.clear;
    }

-- where none were at hand, the end is not here either
not_ended : (g : _) (t : _) (c : opaque_elements-Then-branch-eq0 g t) → ends_here c.args.bound.now (length c.whole_at_hand.new.self.done) ≡ false
not_ended g t c =
    ap (ends_here c.args.bound.now) (none_passed_over c.in_ok-whole_at_hand.field-0 c.in_ok-whole_at_hand.ensures.ok c.if-branch-eq0.true)
    ∙ sym c.ends.ensures ∙ c.loop-self-test.true

pub opaque_elements-loop-self-smaller-in_ok-opaque_element : goal.opaque_elements-loop-self-smaller-in_ok-opaque_element
opaque_elements-loop-self-smaller-in_ok-opaque_element g t c =
    omega (
      arith,
      c.in_ok-opaque_element.ensures.moved,
      c.in_ok-opaque_element.ensures.before_limit,
      c.in_ok-opaque_element.ensures.refines.reaches.took.limit,
      c.in_ok-whole_at_hand.ensures.ok.adds.limit,
      none_passed_over c.in_ok-whole_at_hand.field-0 c.in_ok-whole_at_hand.ensures.ok c.if-branch-eq0.true,
    )

pub opaque_elements-loop-self-preserved-in_ok-opaque_element : goal.opaque_elements-loop-self-preserved-in_ok-opaque_element
opaque_elements-loop-self-preserved-in_ok-opaque_element g t c =
    let k = goal.at.opaque_elements-loop-self-preserved-in_ok-opaque_element g t c in
    record {
      passed =
          one_passed (framed_of c.args.levels) c.args.bound.now (at_hand g t k.In_ok-whole_at_hand) (not_ended g t k.Then-branch-eq0)
          c.in_ok-opaque_element.ensures.moved c.in_ok-opaque_element.ensures.before_limit c.in_ok-opaque_element.ensures.refines;
      clear = c.in_ok-opaque_element.ensures.clear;
    }

pub opaque_elements-returns-in_err-opaque_element-clause-refines : goal.opaque_elements-returns-in_err-opaque_element-clause-refines
opaque_elements-returns-in_err-opaque_element-clause-refines g t c =
    let k = goal.at.opaque_elements-returns-in_err-opaque_element-clause-refines g t c in
    let p = err_from_is_err_and c.from_residual-in_err-opaque_element.result c.from_residual-in_err-opaque_element.ensures.1 in
    rw (p.1, p.2) (one_fails (framed_of c.args.levels) c.args.bound.now (at_hand g t k.In_ok-whole_at_hand)
    (not_ended g t k.Then-branch-eq0) c.in_err-opaque_element.ensures.refines)

pub opaque_elements-returns-in_err-whole_at_hand-clause-refines : goal.opaque_elements-returns-in_err-whole_at_hand-clause-refines
opaque_elements-returns-in_err-whole_at_hand-clause-refines g t c =
    let p = err_from_is_err_and c.from_residual.result c.from_residual.ensures.1 in
    rw (p.1, p.2) (memory_lacked c.args.bound.now c.loop-self.invariant.passed c.loop-self.invariant.clear
    c.in_err-whole_at_hand.ensures.clear c.in_err-whole_at_hand.ensures.err)

pub opaque_elements-returns-clause-refines : goal.opaque_elements-returns-clause-refines
opaque_elements-returns-clause-refines g t c =
    all_passed (framed_of c.args.levels) c.args.bound.now c.loop-self.invariant.passed (sym c.ends.ensures ∙ c.loop-self-test.false)

-- after the header
headed : (g : _) (t : _) (c : opaque_element-In_ok-header g t)
    → Simulates (framed_of c.args.levels c.args.bound.now) c.args.self.now (framed_next c.args.levels c.in_ok-header.header)
    c.framed_header.new.self
headed g t c =
    subst (λ r. Simulates r c.args.self.now (framed_next c.args.levels c.in_ok-header.header) c.framed_header.new.self)
    (sym (framed_bind c.args.levels c.args.bound.now)) (reaches_bind (framed_next c.args.levels) c.in_ok-header.ensures.refines.reaches)

pub opaque_element-returns-in_err-header-clause-refines : goal.opaque_element-returns-in_err-header-clause-refines
opaque_element-returns-in_err-header-clause-refines g t c =
    let p = err_from_is_err_and c.from_residual.result c.from_residual.ensures.1 in
    rw (p.1, p.2, framed_bind c.args.levels c.args.bound.now) (fails _ c.in_err-header.ensures.refines)

pub opaque_element-returns-then-levels-eq0-clause-refines : goal.opaque_element-returns-then-levels-eq0-clause-refines
opaque_element-returns-then-levels-eq0-clause-refines g t c =
    refused_as OpaqueTooDeep c.in_ok-header.ensures.refines.sound (λ e. absurd cc) (inl tt) (headed g t
    (goal.at.opaque_element-returns-then-levels-eq0-clause-refines g t c).In_ok-header)
    (framed_deep c.args.levels c.in_ok-header.header c.if-levels-eq0.true) c.refused.ensures.state c.refused.ensures.same

pub opaque_element-returns-in_err-contents_without_fault-in-Some-clause-refines :
    goal.opaque_element-returns-in_err-contents_without_fault-in-Some-clause-refines
opaque_element-returns-in_err-contents_without_fault-in-Some-clause-refines g t c =
    let p = err_from_is_err_and c.from_residual-in_err-contents_without_fault-in-Some.result c.from_residual-in_err-contents_without_fault-in-Some.ensures.1 in
    let h = c.in_ok-header.header in
    let next = framed_counted c.args.levels c.in-Some.n h c.if-levels-eq0.false (sym c.is_constructed.ensures ∙ c.if-not-is_constructed.true) c.in-Some.is in
    rw (p.1, p.2) (fails_then (headed g t (goal.at.opaque_element-returns-in_err-contents_without_fault-in-Some-clause-refines g t c).In_ok-header)
    (subst (λ r. Failed r c.framed_header.new.self c.contents_without_fault.new.self c.in_err-contents_without_fault-in-Some.field-0.0)
    (sym next) (fails _ (counted_gives c.args.bound.now c.in-Some.n h c.contents_without_fault.new.self
    (Err c.in_err-contents_without_fault-in-Some.field-0.0) c.in_ok-header.ensures.refines c.in-Some.is
    c.in_err-contents_without_fault-in-Some.ensures.refines))))

pub opaque_element-returns-in_ok-contents_without_fault-in-Some-clause-refines : goal.opaque_element-returns-in_ok-contents_without_fault-in-Some-clause-refines
opaque_element-returns-in_ok-contents_without_fault-in-Some-clause-refines g t c =
    let h = c.in_ok-header.header in
    let k =
    counted_gives c.args.bound.now c.in-Some.n h c.contents_without_fault.new.self (Ok c.in_ok-contents_without_fault-in-Some.field-0)
    c.in_ok-header.ensures.refines c.in-Some.is c.in_ok-contents_without_fault-in-Some.ensures.refines in
    let next = framed_counted c.args.levels c.in-Some.n h c.if-levels-eq0.false (sym c.is_constructed.ensures ∙ c.if-not-is_constructed.true) c.in-Some.is in
    gave tt (reaches_then (headed g t (goal.at.opaque_element-returns-in_ok-contents_without_fault-in-Some-clause-refines g t c).In_ok-header)
    (subst (λ r. Simulates r c.framed_header.new.self (give tt) c.contents_without_fault.new.self) (sym next)
    (reaches_bind (λ octets. give tt) k.reaches))) refl k.sound (λ d j. refl)

pub opaque_element-returns-in_default-clause-before_limit : goal.opaque_element-returns-in_default-clause-before_limit
opaque_element-returns-in_default-clause-before_limit g t c =
    ok_of c.opaque_elements.result (before_limit c.args.bound.now c.in_ok-header.header c.in_ok-header.ensures.refines
    c.in_ok-header.ensures.moved c.in_ok-header.ensures.room)

pub opaque_element-returns-in_default-clause-refines : goal.opaque_element-returns-in_default-clause-refines
opaque_element-returns-in_default-clause-refines g t c =
    let h = c.in_ok-header.header in
    let inside : eqb ((h.ident / 32) % 2) 1 ≡ true = elim c.in_default.branch [
      | opaque_element-in_default-via-in-Some+else-not-is_constructed w ↦ sym w.is_constructed.ensures ∙ w.if-not-is_constructed.false
      | opaque_element-in_default-via-in_default w ↦ let k = framed_sized c.args.bound.now c.in_ok-header.ensures.refines in
          absurd (w.in_default.not-Some k.0 k.1)
    ] in
    gives_then plain c.opaque_elements.new.self c.opaque_elements.result
    (headed g t (goal.at.opaque_element-returns-in_default-clause-refines g t c).In_ok-header)
    (subst (λ (r : Reader (Unit {0})). Refines plain r c.framed_header.new.self c.opaque_elements.new.self c.opaque_elements.result)
    (sym (framed_inside c.args.levels h c.if-levels-eq0.false inside)) c.opaque_elements.ensures.refines)
