use Rattle.std.proofs.Common.{sym, ◌∙◌}
use Rattle.std.proofs.lemmas.Result.{err_from_is_err_and}
use Rattle.cms_tlv.proofs.SourceLaws.{passes_behind}
use Rattle.cms_tlv.proofs.Bind.{fails, fails_then, reaches_then}
use Rattle.cms_tlv.proofs.Exits.{answers_of, stops_of}
use Rattle.cms_fields.specs.Readers.{opaque_among_of}
use Rattle.cms_fields.proofs.AmongLaws.{is_among, header_fails, header_refused}
use Rattle.cms_fields.proofs.among.OpaqueAmongField.read.Goals as goal

pub returns-in_err-next-clause-refines : goal.returns-in_err-next-clause-refines
unfolding opaque_among_of
returns-in_err-next-clause-refines g c no_fault =
    let p = err_from_is_err_and c.from_residual.result c.from_residual.ensures.1 in
    rw (p.1, p.2) (fails _ (c.in_err-next.ensures.refines no_fault))

pub returns-in_err-span-clause-refines : goal.returns-in_err-span-clause-refines
returns-in_err-span-clause-refines g c no_fault =
    let p = err_from_is_err_and c.from_residual-in_err-span.result c.from_residual-in_err-span.ensures.1 in
    let next = c.in_ok-next.ensures.refines no_fault in
    rw (p.1, p.2) (fails_then (is_among g.I.Identifiers.allowed c.args.bound.now next (sym c.is_allowed.ensures ∙ c.if-is_allowed.true))
    (c.in_err-span.ensures.refines next.sound))

pub returns-in_err-span-clause-accounted : goal.returns-in_err-span-clause-accounted
returns-in_err-span-clause-accounted g c no_fault = answers_of _ _ _ _ _ (returns-in_err-span-clause-refines g c no_fault)

pub returns-in_ok-span-clause-ok : goal.returns-in_ok-span-clause-ok
returns-in_ok-span-clause-ok g c = passes_behind c.in_ok-next.ensures.ok c.in_ok-span.ensures.ok

pub returns-in_ok-span-clause-accounted : goal.returns-in_ok-span-clause-accounted
returns-in_ok-span-clause-accounted g c no_fault = (returns-in_ok-span-clause-ok g c).goes

pub returns-in_ok-span-clause-refines : goal.returns-in_ok-span-clause-refines
returns-in_ok-span-clause-refines g c no_fault =
    let next = c.in_ok-next.ensures.refines no_fault in
    let q = c.in_ok-span.ensures.refines next.sound in
    rw c.new.ensures (record {
      reaches = reaches_then (is_among g.I.Identifiers.allowed c.args.bound.now next
          (sym c.is_allowed.ensures ∙ c.if-is_allowed.true)) q.reaches;
      sound = q.sound;
      lasts = q.lasts;
    })

pub returns-in_err-enter-clause-refines : goal.returns-in_err-enter-clause-refines
returns-in_err-enter-clause-refines g c no_fault =
    let p = err_from_is_err_and c.from_residual-in_err-enter.result c.from_residual-in_err-enter.ensures.1 in
    let next = c.in_ok-next.ensures.refines no_fault in
    rw (p.1, p.2) (header_fails g.I.Identifiers.allowed c.args.bound.now next (sym c.is_allowed.ensures ∙ c.if-is_allowed.false)
    (c.in_err-enter.ensures.refines next.sound))

pub returns-in_err-enter-clause-accounted : goal.returns-in_err-enter-clause-accounted
returns-in_err-enter-clause-accounted g c no_fault = answers_of _ _ _ _ _ (returns-in_err-enter-clause-refines g c no_fault)

pub returns-in_ok-enter-clause-refines : goal.returns-in_ok-enter-clause-refines
returns-in_ok-enter-clause-refines g c no_fault =
    let next = c.in_ok-next.ensures.refines no_fault in
    let header = c.in_ok-enter.ensures.refines next.sound in
    header_refused g.I.Identifiers.allowed c.args.bound.now next (sym c.is_allowed.ensures ∙ c.if-is_allowed.false) header
    (c.refuse.ensures.state header.sound) (c.refuse.ensures.refused header.sound)

pub returns-in_ok-enter-clause-accounted : goal.returns-in_ok-enter-clause-accounted
returns-in_ok-enter-clause-accounted g c no_fault = stops_of _ (returns-in_ok-enter-clause-refines g c no_fault)
