use Rattle.std.proofs.Common.{rules}
use Rattle.cms_tlv.specs.Spans.{borrowed_spans}
use Rattle.cms_tlv.specs.Spelling.{join}
use Rattle.cms_fields.specs.Assembly.{copied}
use Rattle.cms_fields.specs.Received.{spanned_in}
use Rattle.cms_fields.proofs.AssemblyLaws.{octets_marked, length_marked}
use Rattle.cms_setof.proofs.gathering.GatheringSink.spans_at_once.Goals as goal

pub returns-clause-taken : goal.returns-clause-taken
returns-clause-taken c =
    let octets = join (spanned_in c.args.kept.now (borrowed_spans c.args.spans)) in
    rw (octets_marked copied octets, length_marked copied octets) (search rules)
