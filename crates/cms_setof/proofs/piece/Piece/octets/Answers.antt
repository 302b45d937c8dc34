use Rattle.std.proofs.Common.{sym, ◌∙◌}
use Rattle.cms_tlv.specs.Spans.{octets_in}
use Rattle.cms_fields.specs.Assembly.{copied, made}
use Rattle.cms_fields.proofs.AssemblyLaws.{octets_marked}
use Rattle.cms_setof.proofs.piece.Piece.octets.Goals as goal

pub returns-in-Copied : goal.returns-in-Copied
returns-in-Copied c =
    rw c.in-Copied.is (c.octets.ensures ∙ sym (octets_marked copied (octets_in c.args.kept.now c.in-Copied.span.start c.in-Copied.span.end)))

pub returns-in-Made : goal.returns-in-Made
returns-in-Made c = rw c.in-Made.is (c.deref.ensures.value ∙ sym (octets_marked made c.in-Made.octets.items))
