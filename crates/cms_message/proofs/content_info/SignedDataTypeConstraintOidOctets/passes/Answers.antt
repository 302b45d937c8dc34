use Rattle.cms_message.proofs.content_info.SignedDataTypeConstraintOidOctets.passes.Goals as goal

pub returns : goal.returns
returns c = c.eq.ensures
