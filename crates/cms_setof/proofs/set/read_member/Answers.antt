use Rattle.std.proofs.Common.{sym, ◌∙◌, ap, option_map}
use Rattle.std.proofs.lemmas.Result.{err_from_is_err_and}
use Rattle.cms_tlv.specs.Reading.{may_follow}
use Rattle.cms_tlv.specs.Refines.{seen}
use Rattle.cms_tlv.specs.State.{State}
use Rattle.cms_tlv.proofs.Bind.{kept_by}
use Rattle.cms_tlv.proofs.Exits.{answers_of, stops_of}
use Rattle.cms_tlv.proofs.Loops.{member_gave, member_refused, member_failed}
use Rattle.cms_setof.proofs.SetReads.{still_shown, still_lies}
use Rattle.cms_setof.proofs.set.read_member.Goals as goal

pub may_follow-requires-clause-last : goal.may_follow-requires-clause-last
may_follow-requires-clause-last g c = still_lies (kept_by (c.in_ok-span.ensures.refines c.requires.no_fault).reaches) c.args.last c.requires.last

pub may_follow-requires-clause-span : goal.may_follow-requires-clause-span
may_follow-requires-clause-span g c = c.in_ok-span.ensures.span

pub returns-in_err-span-clause-ok : goal.returns-in_err-span-clause-ok
returns-in_err-span-clause-ok g c = rw (err_from_is_err_and c.from_residual.result c.from_residual.ensures.1).1 tt

pub returns-in_err-span-clause-clear : goal.returns-in_err-span-clause-clear
returns-in_err-span-clause-clear g c = rw (err_from_is_err_and c.from_residual.result c.from_residual.ensures.1).1 tt

pub returns-in_err-span-clause-span : goal.returns-in_err-span-clause-span
returns-in_err-span-clause-span g c = rw (err_from_is_err_and c.from_residual.result c.from_residual.ensures.1).1 tt

pub returns-in_err-span-clause-refines : goal.returns-in_err-span-clause-refines
returns-in_err-span-clause-refines g c =
    let p = err_from_is_err_and c.from_residual.result c.from_residual.ensures.1 in
    rw (p.1, p.2) (member_failed g.T.Write.grammar.reader _ c.args.bound.now (c.in_err-span.ensures.refines c.requires.no_fault))

pub returns-in_err-span-clause-accounted : goal.returns-in_err-span-clause-accounted
returns-in_err-span-clause-accounted g c = answers_of _ _ _ _ _ (returns-in_err-span-clause-refines g c)

pub returns-then-may_follow-clause-accounted : goal.returns-then-may_follow-clause-accounted
returns-then-may_follow-clause-accounted g c = c.in_ok-span.ensures.ok.goes

pub returns-then-may_follow-clause-ok : goal.returns-then-may_follow-clause-ok
returns-then-may_follow-clause-ok g c = c.in_ok-span.ensures.ok

pub returns-then-may_follow-clause-clear : goal.returns-then-may_follow-clause-clear
returns-then-may_follow-clause-clear g c = c.in_ok-span.ensures.clear

pub returns-then-may_follow-clause-span : goal.returns-then-may_follow-clause-span
returns-then-may_follow-clause-span g c = c.in_ok-span.ensures.span

pub returns-then-may_follow-clause-refines : goal.returns-then-may_follow-clause-refines
returns-then-may_follow-clause-refines g c =
    let read = c.in_ok-span.ensures.refines c.requires.no_fault in
    let stays = still_shown (kept_by read.reaches) c.args.last c.requires.last in
    let test = ap (λ o. may_follow c.args.bound.now.strict o (seen c.read_with_span.new.source c.in_ok-span.span)) (sym stays)
    ∙ sym c.may_follow.ensures ∙ c.if-may_follow.true in
    member_gave (λ (s : State) v. g.T.Write.value s.done v) g.T.Write.grammar.reader (option_map (seen c.args.source.now) c.args.last)
    c.args.bound.now read test

pub returns-else-may_follow-clause-refines : goal.returns-else-may_follow-clause-refines
returns-else-may_follow-clause-refines g c =
    let read = c.in_ok-span.ensures.refines c.requires.no_fault in
    let stays = still_shown (kept_by read.reaches) c.args.last c.requires.last in
    let test = ap (λ o. may_follow c.args.bound.now.strict o (seen c.read_with_span.new.source c.in_ok-span.span)) (sym stays)
    ∙ sym c.may_follow.ensures ∙ c.if-may_follow.false in
    member_refused (λ (s : State) v. g.T.Write.value s.done v) g.T.Write.grammar.reader (option_map (seen c.args.source.now) c.args.last)
    c.args.bound.now read test (c.refuse.ensures.state read.sound) (c.refuse.ensures.refused read.sound)

pub returns-else-may_follow-clause-accounted : goal.returns-else-may_follow-clause-accounted
returns-else-may_follow-clause-accounted g c = stops_of _ (returns-else-may_follow-clause-refines g c)

pub returns-else-may_follow-clause-ok : goal.returns-else-may_follow-clause-ok
returns-else-may_follow-clause-ok g c = tt

pub returns-else-may_follow-clause-clear : goal.returns-else-may_follow-clause-clear
returns-else-may_follow-clause-clear g c = tt

pub returns-else-may_follow-clause-span : goal.returns-else-may_follow-clause-span
returns-else-may_follow-clause-span g c = tt
