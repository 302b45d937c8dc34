use Rattle.std.proofs.Common.{take}
use Rattle.cms_tlv.specs.Spelling.{join}
use Rattle.cms_setof.specs.internal.Pouring.{PutAfter}
use Rattle.cms_fields.specs.Received.{spanned_in}
use Rattle.cms_setof.proofs.pouring.hold_spans.Given as goal

abbrev pub invariant-loop-span : goal.invariant-loop-span
invariant-loop-span l = PutAfter (join (spanned_in l.kept (take l.span-index l.spans))) l.fn.held l.held l.fn.buffer l.buffer
