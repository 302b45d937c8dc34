use Rattle.std.proofs.Common.{◌≡◌, ◌≤◌, length, take}
use Rattle.cms_tlv.specs.Spelling.{join}
use Rattle.cms_setof.specs.internal.Pouring.{Sends}
use Rattle.cms_fields.specs.Received.{spanned_in}
use Rattle.cms_setof.proofs.pouring.send_spans.Given as goal

abbrev pub invariant-loop-span : goal.invariant-loop-span
invariant-loop-span g l = record {
  room : l.progress.held ≤ length l.buffer;
  same : g.O.Output.failures l.output ≡ g.O.Output.failures l.fn.output;
  sends :
      Sends (join (spanned_in l.kept (take l.span-index l.spans))) l.fn.progress l.progress l.fn.buffer l.buffer
      (g.O.Output.contents l.fn.output) (g.O.Output.contents l.output);
}
