use Rattle.cms_canon.proofs.ReceivedLaws.{one_imprint}
use Rattle.cms_canon.proofs.laws.messages_have_one_imprint.Goals as goal

pub returns : goal.returns
returns c = one_imprint c.tst_infos_are_one.ensures.one
