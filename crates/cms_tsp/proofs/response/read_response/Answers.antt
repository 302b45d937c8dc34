use Rattle.std.proofs.Common.{◌≢◌, ℕ, List, []}
use Rattle.cms_tlv.specs.Spelling.{Rules}
use Rattle.cms_tlv.proofs.Why.{says_why}
use Rattle.cms_fields.proofs.AfterHeader.{some_octets, reads_contents}
use Rattle.cms_tsp.specs.Responses.{TimeStampResp, time_stamp_resp_fields}
use Rattle.cms_tsp.proofs.response.read_response.Goals as goal

some : (m : Rules) (b : List ℕ) (v : TimeStampResp) → time_stamp_resp_fields.spelled m b v → b ≢ []
some m b v r = some_octets m 0x30 r.0 r.1 r.3.0 r.3.1 r.2

pub returns-clause-reads : goal.returns-clause-reads
returns-clause-reads g c =
    reads_contents time_stamp_resp_fields some c.response_laws.ensures.reads_fields c.args.inner _ _ _ _ c.read_after_header.ensures.sticky
    c.read_after_header.ensures.accounted c.read_after_header.ensures.clear c.read_after_header.ensures.refines

pub returns-clause-why : goal.returns-clause-why
returns-clause-why g c none = says_why _ (c.response_laws.ensures.explained c.args.inner) _ _ _ (c.read_after_header.ensures.refines none)
