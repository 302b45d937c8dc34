use Rattle.cms_tlv.proofs.CallClauses.{contents_found}
use Rattle.cms_tlv.proofs.source.Source.contents.Goals as goal

pub returns-clause-found : goal.returns-clause-found
returns-clause-found g c =
    contents_found c.args.n c.args.self.now c.contents_without_fault.new.self c.contents_without_fault.result
    c.contents_without_fault.ensures.refines c.contents_without_fault.ensures.clear
