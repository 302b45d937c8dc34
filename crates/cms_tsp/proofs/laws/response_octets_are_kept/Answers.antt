use Rattle.std.proofs.Common.{option_to_list}
use Rattle.cms_tlv.specs.Spelling.{Rules, optional}
use Rattle.cms_scalars.specs.Bits.{named_bits}
use Rattle.cms_fields.specs.Grammar.{last_optional}
use Rattle.cms_fields.specs.Received.{IsOpaqueAmong, ArePartsOf, CountedAlike}
use Rattle.cms_fields.proofs.ReceivedLaws.{no_parts, element_parts, optional_parts, then_parts, first_parts, maybe_part, keeps_none, keeps_option, keeps_then, keeps_first, keeps_maybe}
use Rattle.cms_scalars.specs.Grammar.{integer_type, named_bits_type}
use Rattle.cms_tsp.specs.Responses.{pki_status_info, status_string, is_pki_free_text}
use Rattle.cms_tsp.proofs.laws.response_octets_are_kept.Goals as goal

status_parts : (m : Rules) → ArePartsOf (pki_status_info.spelled m) (λ v. option_to_list (status_string v))
status_parts m = element_parts (then_parts no_parts (first_parts (optional (named_bits m)) maybe_part)) m 0x30

keeps_status : CountedAlike pki_status_info.is_value pki_status_info.same (λ v. option_to_list (status_string v))
keeps_status = keeps_then (keeps_none integer_type) (keeps_first (last_optional named_bits_type) (keeps_maybe (IsOpaqueAmong is_pki_free_text)))

pub returns-clause-are_parts : goal.returns-clause-are_parts
returns-clause-are_parts c m = element_parts (then_parts (status_parts m) (optional_parts (c.received_octets_are_kept.ensures.are_parts m))) m 0x30

pub returns-clause-counted : goal.returns-clause-counted
returns-clause-counted c = keeps_then keeps_status (keeps_option c.received_octets_are_kept.ensures.counted)
