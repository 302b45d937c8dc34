use Rattle.std.proofs.Common.{◌≤◌, length, drop}
use Rattle.cms_tlv.specs.Spans.{borrowed_spans}
use Rattle.cms_tlv.specs.Spelling.{join}
use Rattle.cms_fields.specs.Assembly.{marked, copied}
use Rattle.cms_fields.specs.Received.{spanned_in}
use Rattle.cms_fields.proofs.sink.emit_each.Given as goal

abbrev pub invariant-loop-left : goal.invariant-loop-left
invariant-loop-left g l =
    (l.left ≤ length (borrowed_spans l.spans))
    × g.S.Sink.taking.puts l.kept l.fn.sink (marked copied (join (spanned_in l.kept (drop l.left (borrowed_spans l.spans))))) l.sink

abbrev pub decreases-loop-left : goal.decreases-loop-left
decreases-loop-left g l = l.left
