use Rattle.std.proofs.Common.{ap, ◌∙◌}
use Rattle.std.proofs.lemmas.Result.{err_from_is_err_and}
use Rattle.cms_canon.specs.internal.ManySteps.{InHand, with_message}
use Rattle.cms_canon.proofs.Conversions.{flushed, written_alone, alone_stops}
use Rattle.cms_canon.proofs.many.Batch.write_alone.Goals as goal

pub returns-in_err-flush-clause-proceeds : goal.returns-in_err-flush-clause-proceeds
returns-in_err-flush-clause-proceeds g c left mid after failures some fails out failed limit p k =
    let q = err_from_is_err_and c.from_residual.result c.from_residual.ensures.1 in
    rw (q.1, q.2) (c.in_err-flush.ensures.err left mid after failures some fails c.args.message.now.octets out failed limit p k.taken k.message.1)

pub returns-in-Ok-clause-proceeds : goal.returns-in-Ok-clause-proceeds
returns-in-Ok-clause-proceeds g c left mid after failures some fails out failed limit p k =
    let same = c.self.view_is ∙ c.in_ok-flush.ensures.ok in
    written_alone c.message_octets_are_kept.ensures c.args.self.now c.args.message.now (flushed p c.in_ok-flush.ensures.written) k
    c.in-Ok.done c.in-Ok.ensures.ok _ (c.add.ensures ∙ ap (λ (b : InHand). with_message b.count c.in-Ok.done.read c.in-Ok.done.written)
    same) (ap (λ (b : InHand). b.octets) same) (ap (λ (b : InHand). b.lengths) same)

pub returns-in-Err-clause-proceeds : goal.returns-in-Err-clause-proceeds
returns-in-Err-clause-proceeds g c left mid after failures some fails out failed limit p k =
    rw (c.fault.ensures, c.in_ok-flush.ensures.ok) (alone_stops c.message_octets_are_kept.ensures c.args.self.now c.args.message.now
    (flushed p c.in_ok-flush.ensures.written) k c.requires.few c.in-Err.fault c.in-Err.ensures.err)
