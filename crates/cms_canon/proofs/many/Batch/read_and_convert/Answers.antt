use Rattle.std.proofs.Common.{inl, inr, refl, arith, ap}
use Rattle.std.proofs.lemmas.Result.{IfErr-at_err}
use Rattle.std.proofs.KnownBytes.{Consumes-nil}
use Rattle.cms_canon.specs.declared.message.Tail.TheVariants.{Leave}
use Rattle.cms_canon.specs.Exact.{FirstFault}
use Rattle.cms_canon.specs.Many.{IsBegun}
use Rattle.cms_canon.specs.Messages.{MessageFaults}
use Rattle.cms_canon.specs.internal.ManySteps.{InHand}
use Rattle.cms_canon.specs.Streams.{reading}
use Rattle.cms_canon.proofs.Conversions.{is_short, next_message, no_message}
use Rattle.cms_canon.proofs.many.Batch.read_and_convert.Goals as goal
use Rattle.cms_canon.proofs.many.Batch.read_and_convert.Goals.{in-Ok-Some, in-Ok-None, in-Err, then-self-gt-MOST-via-then-self-gt-MOST, then-self-gt-MOST-via-else-self-gt-MOST+then-self-gt-MOST-2}
use Rattle.cms_tlv.specs.Spelling.{ber}

pub returns-then-self-gt-MOST-clause-proceeds : goal.returns-then-self-gt-MOST-clause-proceeds
returns-then-self-gt-MOST-clause-proceeds g c left failures out failed p =
    let count = ap (λ (b : InHand). b.count) c.self.view_is in
    c.stop.ensures left (g.R.Input.left c.args.reader) (g.R.Input.left c.args.reader) failures (g.R.Input.failures c.args.reader)
    (g.R.Input.failures c.args.reader) out failed c.args.limit p (inr (
      refl,
      Consumes-nil (g.R.Input.left c.args.reader),
      elim c.then-self-gt-MOST.branch [
        | then-self-gt-MOST-via-then-self-gt-MOST w ↦ inl (omega (arith, w.if-self-gt-MOST.true, ap (λ n. n.read) count))
        | then-self-gt-MOST-via-else-self-gt-MOST+then-self-gt-MOST-2 w ↦ inr (omega (arith, w.if-self-gt-MOST-2.true, ap (λ n. n.written) count))
      ],
    ))

pub convert-more-requires-clause-short : goal.convert-more-requires-clause-short
convert-more-requires-clause-short g c =
    let r = reading g.R.Input.left g.R.Input.failures c.args.reader c.read_next-reader.result.0 in
    is_short (c.message_laws.ensures.is_field ber) r c.args.limit c.in-Ok-Some.message c.requires.limit
    (next_message r c.args.limit c.read_next-reader.result.1 _ c.in-Ok-Some.is c.in-Ok-Some.message c.in-Ok-Some.field-0-is
    c.read_next-reader.ensures.next)

pub returns-clause-proceeds : goal.returns-clause-proceeds
returns-clause-proceeds g c left failures out failed p =
    let mid = g.R.Input.left c.args.reader in
    let after = g.R.Input.left c.read_next-reader.result.0 in
    let some = g.R.Input.failures c.args.reader in
    let fails = g.R.Input.failures c.read_next-reader.result.0 in
    let r = reading g.R.Input.left g.R.Input.failures c.args.reader c.read_next-reader.result.0 in
    let a = c.read_next-reader.result.1 in
    let count = ap (λ (b : InHand). b.count) c.self.view_is in
    let again = ap (λ (b : InHand). b.count) c.self-2.view_is in
    elim c.match-message.branch [
      | in-Ok-Some w ↦
          let k = next_message r c.args.limit a _ w.in-Ok-Some.is w.in-Ok-Some.message w.in-Ok-Some.field-0-is c.read_next-reader.ensures.next in
          rw (w.self-is, w.writer-is, w.more-is) (w.convert-more.ensures.proceeds left mid after failures some fails out failed
          c.args.limit (rw c.self-2.view_is p) k)
      | in-Ok-None w ↦
          let k = no_message r c.args.limit a _ w.in-Ok-None.is w.in-Ok-None.field-0-is c.read_next-reader.ensures.next in
          rw (w.self-is, w.writer-is, w.more-is) (w.finish-more.ensures.proceeds left mid after failures some fails out failed c.args.limit
          (rw c.self-2.view_is p) k.0 k.2)
      | in-Err w ↦
          let f = IfErr-at_err (MessageFaults r c.args.limit Leave) w.in-Err.is c.read_next-reader.ensures.faults in
          let first = IfErr-at_err (FirstFault r c.args.limit Leave) w.in-Err.is c.read_next-reader.ensures.refines in
          let begun = IfErr-at_err IsBegun w.in-Err.is c.read_next-reader.ensures.begun in
          rw (w.self-is, w.writer-is, w.more-is) (w.stop-in-Err.ensures left mid after failures some fails out failed c.args.limit
          (rw c.self-2.view_is p) (inl (
            (f, first),
            begun,
            (
              omega (
                arith,
                c.if-self-gt-MOST.false,
                ap (λ n. n.read) count,
                ap (λ n. n.read) again,
              ),
              omega (arith, c.if-self-gt-MOST-2.false, ap (λ n. n.written) count, ap (λ n. n.written) again),
            ),
          )))
    ]
