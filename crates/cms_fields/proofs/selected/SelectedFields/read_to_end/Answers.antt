use Rattle.std.proofs.Common.{sym, ap, ◌∙◌}
use Rattle.std.proofs.lemmas.Result.{err_from_is_err_and}
use Rattle.cms_tlv.specs.State.{State}
use Rattle.cms_tlv.specs.Reading.{scalar_of}
use Rattle.cms_tlv.proofs.SourceLaws.{then_goes}
use Rattle.cms_tlv.proofs.Bind.{fails}
use Rattle.cms_tlv.proofs.Exits.{answers_of}
use Rattle.cms_fields.specs.Selected.{selected_of}
use Rattle.cms_fields.proofs.SelectedLaws.{first_fails, second_fails, first_gave, second_gave}
use Rattle.cms_fields.proofs.selected.SelectedFields.read_to_end.Goals as goal

pub returns-in_err-first-clause-refines : goal.returns-in_err-first-clause-refines
unfolding selected_of
returns-in_err-first-clause-refines g c =
    let p = err_from_is_err_and c.from_residual.result c.from_residual.ensures.1 in
    rw (p.1, p.2) (fails _ (c.in_err-first.ensures.refines c.requires.no_fault))

pub returns-in_err-rest-clause-refines : goal.returns-in_err-rest-clause-refines
returns-in_err-rest-clause-refines g c =
    let p = err_from_is_err_and c.from_residual-in_err-rest.result c.from_residual-in_err-rest.ensures.1 in
    let first = c.in_ok-first.ensures.refines c.requires.no_fault in
    rw (p.1, p.2) (first_fails g.S.Selector.test (scalar_of g.row.ID g.K.Scalar.test g.K.Scalar.malformed) g.A.Write.grammar.reader
    g.B.Write.grammar.reader c.args.bound first (ap g.S.Selector.test (sym c.bytes.ensures) ∙ sym c.selects.ensures
    ∙ c.if-selects.true) c.in_err-rest.ensures.refines)

pub returns-in_err-rest-clause-accounted : goal.returns-in_err-rest-clause-accounted
returns-in_err-rest-clause-accounted g c = answers_of _ _ _ _ _ (returns-in_err-rest-clause-refines g c)

pub returns-in_err-rest-2-clause-refines : goal.returns-in_err-rest-2-clause-refines
returns-in_err-rest-2-clause-refines g c =
    let p = err_from_is_err_and c.from_residual-in_err-rest-2.result c.from_residual-in_err-rest-2.ensures.1 in
    let first = c.in_ok-first.ensures.refines c.requires.no_fault in
    rw (p.1, p.2) (second_fails g.S.Selector.test (scalar_of g.row.ID g.K.Scalar.test g.K.Scalar.malformed) g.A.Write.grammar.reader
    g.B.Write.grammar.reader c.args.bound first (ap g.S.Selector.test (sym c.bytes.ensures) ∙ sym c.selects.ensures
    ∙ c.if-selects.false) c.in_err-rest-2.ensures.refines)

pub returns-in_err-rest-2-clause-accounted : goal.returns-in_err-rest-2-clause-accounted
returns-in_err-rest-2-clause-accounted g c = answers_of _ _ _ _ _ (returns-in_err-rest-2-clause-refines g c)

pub returns-in_ok-rest-clause-refines : goal.returns-in_ok-rest-clause-refines
returns-in_ok-rest-clause-refines g c =
    let first = c.in_ok-first.ensures.refines c.requires.no_fault in
    let gave =
    first_gave g.S.Selector.test (scalar_of g.row.ID g.K.Scalar.test g.K.Scalar.malformed) g.A.Write.grammar.reader
    g.B.Write.grammar.reader c.args.bound first (λ (s : State) v. g.A.Write.value s.done v) (λ (s : State) w. g.B.Write.value s.done w)
    (ap g.S.Selector.test (sym c.bytes.ensures) ∙ sym c.selects.ensures ∙ c.if-selects.true) c.in_ok-rest.ensures.refines in
    record { reaches = gave.reaches; sound = gave.sound; lasts = gave.lasts }

pub returns-in_ok-rest-clause-accounted : goal.returns-in_ok-rest-clause-accounted
returns-in_ok-rest-clause-accounted g c = then_goes c.in_ok-first.ensures.ok.goes c.in_ok-rest.ensures.accounted

pub returns-in_ok-rest-2-clause-refines : goal.returns-in_ok-rest-2-clause-refines
returns-in_ok-rest-2-clause-refines g c =
    let first = c.in_ok-first.ensures.refines c.requires.no_fault in
    let gave =
    second_gave g.S.Selector.test (scalar_of g.row.ID g.K.Scalar.test g.K.Scalar.malformed) g.A.Write.grammar.reader
    g.B.Write.grammar.reader c.args.bound first (λ (s : State) v. g.A.Write.value s.done v) (λ (s : State) w. g.B.Write.value s.done w)
    (ap g.S.Selector.test (sym c.bytes.ensures) ∙ sym c.selects.ensures ∙ c.if-selects.false) c.in_ok-rest-2.ensures.refines in
    record { reaches = gave.reaches; sound = gave.sound; lasts = gave.lasts }

pub returns-in_ok-rest-2-clause-accounted : goal.returns-in_ok-rest-2-clause-accounted
returns-in_ok-rest-2-clause-accounted g c = then_goes c.in_ok-first.ensures.ok.goes c.in_ok-rest-2.ensures.accounted
