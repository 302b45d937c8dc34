use Rattle.cms_canon.proofs.Attributes.{covers_attributes}
use Rattle.cms_canon.proofs.ReceivedLaws.{message_parts}
use Rattle.cms_canon.proofs.laws.signed_attributes_lie_in_the_message.Goals as goal

pub returns : goal.returns
returns c m b v path detached s =
    let parts =
    message_parts m (c.received_octets_are_kept.ensures.are_parts m) (c.request_octets_are_kept.ensures.are_parts m)
    (c.response_octets_are_kept.ensures.are_parts m) in
    let paths = c.signed_attributes_are_along_paths.ensures in
    covers_attributes paths.opaque paths.begin paths.covered m b v path detached parts s
