use Rattle.cms_message.proofs.signer_info.SignerSpansField.read.Goals as goal

pub returns-in-Ok-clause-refines : goal.returns-in-Ok-clause-refines
returns-in-Ok-clause-refines g c sound =
    let h = c.in-Ok.ensures.refines sound in
    record { reaches = h.reaches; sound = h.sound; lasts = h.lasts }

pub returns-in-Err-clause-refines : goal.returns-in-Err-clause-refines
returns-in-Err-clause-refines g c sound = c.in-Err.ensures.refines sound
