use Rattle.std.proofs.Common.{sym, ◌∙◌}
use Rattle.std.proofs.lemmas.Result.{err_from_is_err_and}
use Rattle.cms_tlv.specs.State.{State}
use Rattle.cms_tlv.proofs.SourceLaws.{then_goes}
use Rattle.cms_tlv.proofs.Bind.{fails}
use Rattle.cms_tlv.proofs.Exits.{answers_of}
use Rattle.cms_fields.specs.declared.contents.Then.{Then}
use Rattle.cms_fields.specs.Choices.{choice_of}
use Rattle.cms_fields.specs.Readers.{then_of}
use Rattle.cms_fields.proofs.ReaderLaws.{still_clear}
use Rattle.cms_fields.proofs.ChoiceLaws.{first_fails, second_fails, first_gave, second_gave}
use Rattle.cms_fields.proofs.contents_choice.ContentsChoiceFields.read_to_end.Goals as goal

pub returns-in_err-next-clause-refines : goal.returns-in_err-next-clause-refines
unfolding choice_of
returns-in_err-next-clause-refines g c =
    let p = err_from_is_err_and c.from_residual.result c.from_residual.ensures.1 in
    rw (p.1, p.2) (fails _ (c.in_err-next.ensures.refines c.requires.no_fault))

pub returns-in_err-first-clause-refines : goal.returns-in_err-first-clause-refines
returns-in_err-first-clause-refines g c =
    let p = err_from_is_err_and c.from_residual-in_err-first.result c.from_residual-in_err-first.ensures.1 in
    let next = c.in_ok-next.ensures.refines c.requires.no_fault in
    rw (p.1, p.2) (first_fails g.A.Write.grammar.first (then_of g.A.Write.grammar.reader g.R.Write.grammar.reader) g.B.Write.grammar.reader
    c.args.bound next (sym c.begins.ensures ∙ c.if-begins.true) c.in_err-first.ensures.refines)

pub returns-in_err-first-clause-accounted : goal.returns-in_err-first-clause-accounted
returns-in_err-first-clause-accounted g c = answers_of _ _ _ _ _ (returns-in_err-first-clause-refines g c)

pub returns-in_err-second-clause-refines : goal.returns-in_err-second-clause-refines
returns-in_err-second-clause-refines g c =
    let p = err_from_is_err_and c.from_residual-in_err-second.result c.from_residual-in_err-second.ensures.1 in
    let next = c.in_ok-next.ensures.refines c.requires.no_fault in
    rw (p.1, p.2) (second_fails g.A.Write.grammar.first (then_of g.A.Write.grammar.reader g.R.Write.grammar.reader)
    g.B.Write.grammar.reader c.args.bound next (sym c.begins.ensures ∙ c.if-begins.false) c.in_err-second.ensures.refines)

pub returns-in_err-second-clause-accounted : goal.returns-in_err-second-clause-accounted
returns-in_err-second-clause-accounted g c = answers_of _ _ _ _ _ (returns-in_err-second-clause-refines g c)

pub returns-in_ok-first-clause-refines : goal.returns-in_ok-first-clause-refines
returns-in_ok-first-clause-refines g c =
    let next = c.in_ok-next.ensures.refines c.requires.no_fault in
    let gave =
    first_gave g.A.Write.grammar.first (then_of g.A.Write.grammar.reader g.R.Write.grammar.reader) g.B.Write.grammar.reader
    c.args.bound next (λ (s : State) (v : Then g.row.A.Denot g.row.R.Denot). (g.A.Write.value s.done v.0, g.R.Write.value s.done v.1))
    (λ (s : State) w. g.B.Write.value s.done w) (sym c.begins.ensures ∙ c.if-begins.true) c.in_ok-first.ensures.refines in
    record { reaches = gave.reaches; sound = gave.sound; lasts = gave.lasts }

pub returns-in_ok-first-clause-accounted : goal.returns-in_ok-first-clause-accounted
returns-in_ok-first-clause-accounted g c = then_goes c.in_ok-next.ensures.ok c.in_ok-first.ensures.accounted

pub returns-in_ok-second-clause-refines : goal.returns-in_ok-second-clause-refines
returns-in_ok-second-clause-refines g c =
    let next = c.in_ok-next.ensures.refines c.requires.no_fault in
    let gave =
    second_gave g.A.Write.grammar.first (then_of g.A.Write.grammar.reader g.R.Write.grammar.reader) g.B.Write.grammar.reader
    c.args.bound next (λ (s : State) (v : Then g.row.A.Denot g.row.R.Denot). (g.A.Write.value s.done v.0, g.R.Write.value s.done v.1))
    (λ (s : State) w. g.B.Write.value s.done w) (sym c.begins.ensures ∙ c.if-begins.false) c.in_ok-second.ensures.refines in
    record { reaches = gave.reaches; sound = gave.sound; lasts = gave.lasts }

pub returns-in_ok-second-clause-accounted : goal.returns-in_ok-second-clause-accounted
returns-in_ok-second-clause-accounted g c = then_goes c.in_ok-next.ensures.ok c.in_ok-second.ensures.accounted

pub returns-in_ok-first-clause-clear : goal.returns-in_ok-first-clause-clear
returns-in_ok-first-clause-clear g c before =
    c.in_ok-first.ensures.clear (still_clear c.args.bound (c.in_ok-next.ensures.refines c.requires.no_fault) c.in_ok-next.ensures.at_end before)

pub returns-in_ok-second-clause-clear : goal.returns-in_ok-second-clause-clear
returns-in_ok-second-clause-clear g c before =
    c.in_ok-second.ensures.clear (still_clear c.args.bound (c.in_ok-next.ensures.refines c.requires.no_fault) c.in_ok-next.ensures.at_end before)
