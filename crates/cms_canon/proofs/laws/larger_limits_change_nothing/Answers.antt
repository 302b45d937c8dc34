use Rattle.cms_tlv.specs.Spelling.{ber}
use Rattle.cms_canon.proofs.Headline.{one_for_each}
use Rattle.cms_canon.proofs.MessageLaws.{message_kind}
use Rattle.cms_canon.proofs.ManyLaws.{larger_written}
use Rattle.cms_canon.proofs.laws.larger_limits_change_nothing.Goals as goal

pub returns-clause-written : goal.returns-clause-written
returns-clause-written c limit larger b o l h =
    let w = larger_written limit larger b o l h in
    (w, λ q x. one_for_each (message_kind (c.message_laws.ensures.is_field ber) c.message_laws.ensures.by_der) larger b o q w x)

pub returns-clause-accepts : goal.returns-clause-accepts
returns-clause-accepts c limit larger b v l h = (h.0, larger_written limit larger b h.0 l h.1, h.2)
