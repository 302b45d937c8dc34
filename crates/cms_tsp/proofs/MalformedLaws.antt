-- The octets that requests and responses are refused for end in what is malformed.
use Rattle.cms_scalars.proofs.MalformedLaws.{AreMalformed, inside, in_turn, nothing, integer, identifier, boolean, named_bits}
use Rattle.cms_message.proofs.MalformedLaws.{algorithm, content_info_ends}
use Rattle.cms_tsp.specs.Requests.{message_imprint, after_version}
use Rattle.cms_tsp.specs.Responses.{pki_status_info, time_stamp_resp_fields}

imprint : AreMalformed message_imprint.has_paths message_imprint.malformed
imprint = inside (in_turn algorithm nothing) 0x30

pub request_rest : AreMalformed after_version.has_paths after_version.malformed
request_rest = in_turn imprint (in_turn identifier (in_turn integer (in_turn boolean nothing)))

status_info : AreMalformed pki_status_info.has_paths pki_status_info.malformed
status_info = inside (in_turn integer (in_turn nothing named_bits)) 0x30

pub response : AreMalformed time_stamp_resp_fields.has_paths time_stamp_resp_fields.malformed
response = in_turn status_info content_info_ends
