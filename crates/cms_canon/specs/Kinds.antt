-- A message: ContentInfo that holds SignedData (RFC 5652, 3), TimeStampReq (RFC 3161, 2.4.1) or
-- TimeStampResp (RFC 3161, 2.4.2).
use Rattle.std.specs.Prelude.{Bool, Option, Some, None, option_map, ◌⊎◌}
use mathlib.Core.Logic.{inl, inr}
use Rattle.cms_tlv.specs.declared.bound.Bound.{Bound}
use Rattle.cms_tlv.specs.Reading.{Reader}
use Rattle.cms_tlv.specs.Spelling.{Rules, Spelling}
use Rattle.cms_fields.specs.Grammar.{Grammar, tagged, contents_choice}
use Rattle.cms_scalars.specs.Grammar.{integer_type}
use Rattle.cms_message.specs.SignedData.{SignedData}
use Rattle.cms_message.specs.ContentInfo.{ContentInfo, content, signed_data_type}
use Rattle.cms_message.specs.ContentInfo.{signed_data_content}
use Rattle.cms_tsp.specs.Requests.{TimeStampReq, MessageImprint, imprint, after_version}
use Rattle.cms_tsp.specs.Responses.{TimeStampResp, token, time_stamp_resp_fields}

--- `MessageValue`: a ContentInfo, a TimeStampReq or a TimeStampResp [RFC 5652, 3; RFC 3161, 2.4]
abbrev pub MessageValue : Type 0
MessageValue = ContentInfo ⊎ (TimeStampReq ⊎ TimeStampResp)

--- `message`: 30 with the fields of one of these as its contents [RFC 5652, 3; RFC 3161, 2.4]
--- | the first identifier octet inside says of which: 06, 02, or else 30
abbrev pub message : Grammar MessageValue
message = tagged 0x30
    (contents_choice signed_data_type signed_data_content
    (contents_choice integer_type after_version time_stamp_resp_fields))

--- `whole_message m`: how a message is spelled by the rules `m`
abbrev pub whole_message : Rules → Spelling MessageValue
whole_message = message.spelled

--- `same_message v w`: two messages are of one kind, and the same [ours]
abbrev pub same_message : MessageValue → MessageValue → Bool
same_message = message.same

--- `whole_message_of bd`: the pure reader of a message
abbrev pub whole_message_of : Bound → Reader MessageValue
whole_message_of = message.reader

--- `signed_in v`: the ContentInfo that the message is, or that is its token [RFC 3161, 2.4.2]
abbrev pub signed_in : MessageValue → Option ContentInfo
signed_in (inl v) = Some v
signed_in (inr (inl v)) = None
signed_in (inr (inr v)) = token v

--- `signed_data_in v`: the SignedData in it [RFC 5652, 3]
abbrev pub signed_data_in : MessageValue → Option SignedData
signed_data_in v = option_map content (signed_in v)

--- `requested_in v`: the MessageImprint of a request [RFC 3161, 2.4.1]
abbrev pub requested_in : MessageValue → Option MessageImprint
requested_in (inl v) = None
requested_in (inr (inl v)) = Some (imprint v)
requested_in (inr (inr v)) = None
