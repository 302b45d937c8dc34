use Rattle.std.proofs.Common.{List, length, ap, arith}
use Rattle.cms_tlv.specs.declared.span.Span.{Span}
use Rattle.cms_tlv.specs.Spelling.{join}
use Rattle.cms_fields.specs.Received.{spanned_in}
use Rattle.cms_fields.proofs.sink.spans_len.Goals as goal

pub returns : goal.returns
returns c =
    let none = ap (λ (s : List Span). length (join (spanned_in c.args.kept.now s))) c.in-None.ensures.steps.0 in
    omega (arith, none, c.loop-span.invariant.2, c.loop-span.invariant.3)
