use Rattle.cms_message.proofs.ReceivedLaws.{content_parts, keeps_message, same_content, covers_kept}
use Rattle.cms_message.proofs.laws.received_octets_are_kept.Goals as goal

pub returns-clause-are_parts : goal.returns-clause-are_parts
returns-clause-are_parts c m = content_parts m

pub returns-clause-counted : goal.returns-clause-counted
returns-clause-counted c = keeps_message c.signed_attributes_are_sets.ensures

pub returns-clause-content : goal.returns-clause-content
returns-clause-content c v w p q e = same_content v w p q e

pub returns-clause-covers : goal.returns-clause-covers
returns-clause-covers c detached = covers_kept c.signed_attributes_are_sets.ensures detached
