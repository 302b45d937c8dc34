use Rattle.std.proofs.Common.{◌≢◌, ℕ, List, []}
use Rattle.cms_tlv.specs.Spelling.{Rules}
use Rattle.cms_tlv.proofs.Why.{says_why}
use Rattle.cms_fields.proofs.AfterHeader.{some_octets, reads_contents}
use Rattle.cms_message.specs.ContentInfo.{ContentInfo, content_info_fields}
use Rattle.cms_message.proofs.content_info.read_content_info.Goals as goal

some : (m : Rules) (b : List ℕ) (v : ContentInfo) → content_info_fields.spelled m b v → b ≢ []
some m b v r = some_octets m 0x06 r.0 r.1 r.3.0.0 r.3.0.1 r.2

pub returns-clause-reads : goal.returns-clause-reads
returns-clause-reads g c =
    reads_contents content_info_fields some c.content_info_laws.ensures.reads_fields c.args.inner _ _ _ _
    c.read_after_header.ensures.sticky c.read_after_header.ensures.accounted c.read_after_header.ensures.clear c.read_after_header.ensures.refines

pub returns-clause-why : goal.returns-clause-why
returns-clause-why g c none = says_why _ (c.content_info_laws.ensures.explained c.args.inner) _ _ _ (c.read_after_header.ensures.refines none)
