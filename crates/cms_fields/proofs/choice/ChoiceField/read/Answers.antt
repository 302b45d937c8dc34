use Rattle.std.proofs.Common.{sym, ◌∙◌}
use Rattle.std.proofs.lemmas.Result.{err_from_is_err_and}
use Rattle.cms_tlv.specs.State.{State}
use Rattle.cms_tlv.proofs.SourceLaws.{passes_behind}
use Rattle.cms_tlv.proofs.Bind.{fails}
use Rattle.cms_tlv.proofs.Exits.{answers_of}
use Rattle.cms_fields.specs.Choices.{choice_of}
use Rattle.cms_fields.proofs.ChoiceLaws.{first_fails, second_fails, first_gave, second_gave}
use Rattle.cms_fields.proofs.choice.ChoiceField.read.Goals as goal

pub returns-in_err-next-clause-refines : goal.returns-in_err-next-clause-refines
unfolding choice_of
returns-in_err-next-clause-refines g c no_fault =
    let p = err_from_is_err_and c.from_residual.result c.from_residual.ensures.1 in
    rw (p.1, p.2) (fails _ (c.in_err-next.ensures.refines no_fault))

pub returns-in_err-first-clause-refines : goal.returns-in_err-first-clause-refines
returns-in_err-first-clause-refines g c no_fault =
    let p = err_from_is_err_and c.from_residual-in_err-first.result c.from_residual-in_err-first.ensures.1 in
    let next = c.in_ok-next.ensures.refines no_fault in
    rw (p.1, p.2) (first_fails g.A.Write.grammar.first g.A.Write.grammar.reader g.B.Write.grammar.reader c.args.bound.now next
    (sym c.begins.ensures ∙ c.if-begins.true) (c.in_err-first.ensures.refines next.sound))

pub returns-in_err-first-clause-accounted : goal.returns-in_err-first-clause-accounted
returns-in_err-first-clause-accounted g c no_fault = answers_of _ _ _ _ _ (returns-in_err-first-clause-refines g c no_fault)

pub returns-in_err-second-clause-refines : goal.returns-in_err-second-clause-refines
returns-in_err-second-clause-refines g c no_fault =
    let p = err_from_is_err_and c.from_residual-in_err-second.result c.from_residual-in_err-second.ensures.1 in
    let next = c.in_ok-next.ensures.refines no_fault in
    rw (p.1, p.2) (second_fails g.A.Write.grammar.first g.A.Write.grammar.reader g.B.Write.grammar.reader c.args.bound.now next
    (sym c.begins.ensures ∙ c.if-begins.false) (c.in_err-second.ensures.refines next.sound))

pub returns-in_err-second-clause-accounted : goal.returns-in_err-second-clause-accounted
returns-in_err-second-clause-accounted g c no_fault = answers_of _ _ _ _ _ (returns-in_err-second-clause-refines g c no_fault)

pub returns-in_ok-first-clause-ok : goal.returns-in_ok-first-clause-ok
returns-in_ok-first-clause-ok g c = passes_behind c.in_ok-next.ensures.ok c.in_ok-first.ensures.ok

pub returns-in_ok-first-clause-accounted : goal.returns-in_ok-first-clause-accounted
returns-in_ok-first-clause-accounted g c no_fault = (returns-in_ok-first-clause-ok g c).goes

pub returns-in_ok-first-clause-refines : goal.returns-in_ok-first-clause-refines
returns-in_ok-first-clause-refines g c no_fault =
    let next = c.in_ok-next.ensures.refines no_fault in
    first_gave g.A.Write.grammar.first g.A.Write.grammar.reader g.B.Write.grammar.reader c.args.bound.now next
    (λ (s : State) v. g.A.Write.value s.done v) (λ (s : State) w. g.B.Write.value s.done w) (sym c.begins.ensures ∙ c.if-begins.true)
    (c.in_ok-first.ensures.refines next.sound)

pub returns-in_ok-second-clause-ok : goal.returns-in_ok-second-clause-ok
returns-in_ok-second-clause-ok g c = passes_behind c.in_ok-next.ensures.ok c.in_ok-second.ensures.ok

pub returns-in_ok-second-clause-accounted : goal.returns-in_ok-second-clause-accounted
returns-in_ok-second-clause-accounted g c no_fault = (returns-in_ok-second-clause-ok g c).goes

pub returns-in_ok-second-clause-refines : goal.returns-in_ok-second-clause-refines
returns-in_ok-second-clause-refines g c no_fault =
    let next = c.in_ok-next.ensures.refines no_fault in
    second_gave g.A.Write.grammar.first g.A.Write.grammar.reader g.B.Write.grammar.reader c.args.bound.now next
    (λ (s : State) v. g.A.Write.value s.done v) (λ (s : State) w. g.B.Write.value s.done w) (sym c.begins.ensures ∙ c.if-begins.false)
    (c.in_ok-second.ensures.refines next.sound)
