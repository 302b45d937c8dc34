use Rattle.std.proofs.Common.{subst}
use Rattle.std.specs.List.{All}
use Rattle.std.proofs.lemmas.List.{take_all}
use Rattle.std.proofs.lemmas.List.Elements.{All-more}
use Rattle.cms_setof.specs.internal.Sorting.{BeginsWith, span_octets}
use Rattle.cms_setof.proofs.KeyLaws.{begins_fewer}
use Rattle.cms_setof.proofs.sorting.prefix_of_all.Goals as goal

pub loop-span-preserved : goal.loop-span-preserved
loop-span-preserved c =
    let prefix = c.common_prefix-prefix in
    All-more (λ p. BeginsWith prefix.result.now (span_octets c.args.buffer.now p)) c.args.spans.now c.loop-span.span-index
    (record { start = 0; end = 0 }) c.loop-span-test.true (λ k d l.
    begins_fewer _ _ _ prefix.ensures.first (c.loop-span.invariant k d l))
    (subst (BeginsWith prefix.result.now) c.octets.ensures prefix.ensures.second)

pub returns : goal.returns
returns c =
    subst (All (λ p. BeginsWith c.loop-span.prefix.now (span_octets c.args.buffer.now p)))
    (take_all c.loop-span.span-index c.args.spans.now c.loop-span-test.false) c.loop-span.invariant
