use Rattle.std.proofs.Common.{sym, ◌∙◌}
use Rattle.std.proofs.lemmas.Result.{err_from_is_err_and}
use Rattle.cms_tlv.specs.State.{State}
use Rattle.cms_tlv.specs.Reading.{optional_of}
use Rattle.cms_tlv.proofs.SourceLaws.{then_goes}
use Rattle.cms_tlv.proofs.Bind.{fails}
use Rattle.cms_tlv.proofs.Exits.{answers_of, optional_fails, optional_some, optional_none}
use Rattle.cms_fields.proofs.ReaderLaws.{still_clear}
use Rattle.cms_fields.proofs.contents.read_optional.Goals as goal

pub returns-in_err-next-clause-refines : goal.returns-in_err-next-clause-refines
unfolding optional_of
returns-in_err-next-clause-refines g c =
    let p = err_from_is_err_and c.from_residual.result c.from_residual.ensures.1 in
    rw (p.1, p.2) (fails _ (c.in_err-next.ensures.refines c.requires.no_fault))

pub returns-in_err-field-clause-refines : goal.returns-in_err-field-clause-refines
returns-in_err-field-clause-refines g c =
    let p = err_from_is_err_and c.from_residual-in_err-field.result c.from_residual-in_err-field.ensures.1 in
    let next = c.in_ok-next.ensures.refines c.requires.no_fault in
    rw (p.1, p.2) (optional_fails g.A.Write.grammar.first g.A.Write.grammar.reader c.args.bound.now next
    (sym c.begins.ensures ∙ c.if-begins.true) (c.in_err-field.ensures.refines next.sound))

pub returns-in_err-field-clause-accounted : goal.returns-in_err-field-clause-accounted
returns-in_err-field-clause-accounted g c = answers_of _ _ _ _ _ (returns-in_err-field-clause-refines g c)

pub returns-in_ok-field-clause-refines : goal.returns-in_ok-field-clause-refines
returns-in_ok-field-clause-refines g c =
    let next = c.in_ok-next.ensures.refines c.requires.no_fault in
    optional_some (λ (s : State) v. g.A.Write.value s.done v) g.A.Write.grammar.first g.A.Write.grammar.reader c.args.bound.now next
    (sym c.begins.ensures ∙ c.if-begins.true) (c.in_ok-field.ensures.refines next.sound)

pub returns-in_ok-field-clause-accounted : goal.returns-in_ok-field-clause-accounted
returns-in_ok-field-clause-accounted g c = then_goes c.in_ok-next.ensures.ok c.in_ok-field.ensures.ok.goes

pub returns-else-begins-clause-refines : goal.returns-else-begins-clause-refines
returns-else-begins-clause-refines g c =
    let next = c.in_ok-next.ensures.refines c.requires.no_fault in
    optional_none (λ (s : State) v. g.A.Write.value s.done v) g.A.Write.grammar.first g.A.Write.grammar.reader c.args.bound.now next
    (sym c.begins.ensures ∙ c.if-begins.false)

pub returns-else-begins-clause-clear : goal.returns-else-begins-clause-clear
returns-else-begins-clause-clear g c = still_clear c.args.bound.now (c.in_ok-next.ensures.refines c.requires.no_fault) c.in_ok-next.ensures.at_end
