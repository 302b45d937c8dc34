-- The octets that a ContentInfo is refused for end in what is malformed.
use Rattle.std.proofs.Common.{inl, inr, ℕ, zero, suc, List, ◌++◌, refl, sym, subst, arith}
use Rattle.cms_tlv.specs.declared.fault.Reason.{Reason}
use Rattle.cms_tlv.specs.Headers.{IsHeader}
use Rattle.cms_tlv.proofs.Paths.{header_path}
use Rattle.cms_fields.specs.Grammar.{Grammar}
use Rattle.cms_scalars.specs.Malformed.{IsMalformed}
use Rattle.cms_scalars.proofs.MalformedLaws.{AreMalformed, later, inside, both, in_turn, nothing, integer, identifier, content_type, after}
use Rattle.cms_message.specs.Algorithms.{algorithm_identifier}
use Rattle.cms_message.specs.Attributes.{signed_attributes}
use Rattle.cms_message.specs.Countersignatures.{unsigned_attribute}
use Rattle.cms_message.specs.SignerInfo.{signer_identifier, signer_info, countersignatures_within}
use Rattle.cms_message.specs.SignedData.{encapsulated_content_info, signed_data}
use Rattle.cms_message.specs.ContentInfo.{signed_data_content, content_info_fields, content_info}

pub algorithm : AreMalformed algorithm_identifier.has_paths algorithm_identifier.malformed
algorithm = inside (in_turn identifier nothing) 0x30

signed_attrs : AreMalformed signed_attributes.has_paths signed_attributes.malformed
signed_attrs = inside (later (inside (in_turn identifier (inside (later nothing) 0x31)) 0x30)) 0xa0

sid : AreMalformed signer_identifier.has_paths signer_identifier.malformed
sid = both (inside (in_turn nothing integer) 0x30) nothing

unsigned_attr : {C : Type 0} (c : Grammar C) → AreMalformed c.has_paths c.malformed → AreMalformed (unsigned_attribute c).has_paths (unsigned_attribute c).malformed
unsigned_attr c k = inside (in_turn identifier (both (inside k 0x31) (inside (later nothing) 0x31))) 0x30

signer : {C : Type 0} (c : Grammar C) → AreMalformed c.has_paths c.malformed → AreMalformed (signer_info c).has_paths (signer_info c).malformed
signer c k =
    inside (in_turn integer (in_turn sid (in_turn algorithm (in_turn signed_attrs (in_turn algorithm
    (in_turn nothing (inside (later (unsigned_attr c k)) 0xa1))))))) 0x30

countersignatures : (d : ℕ) → AreMalformed (countersignatures_within d).has_paths (countersignatures_within d).malformed
countersignatures zero = nothing
countersignatures (suc d) = later (signer (countersignatures_within d) (countersignatures d))

encapsulated : AreMalformed encapsulated_content_info.has_paths encapsulated_content_info.malformed
encapsulated = inside (in_turn identifier (inside nothing 0xa0)) 0x30

signed : AreMalformed signed_data.has_paths signed_data.malformed
signed =
    inside (in_turn integer (in_turn (inside (later algorithm) 0x31) (in_turn encapsulated
    (in_turn (inside (later nothing) 0xa0) (in_turn (inside (later nothing) 0xa1)
    (inside (later (signer (countersignatures_within 4) (countersignatures 4))) 0x31)))))) 0x30

signed_content : AreMalformed signed_data_content.has_paths signed_data_content.malformed
signed_content = inside signed 0xa0

-- the fields of a ContentInfo, after its header
pub fields_in : (reason : Reason) (header b : List ℕ) → IsHeader 0x30 header → content_info_fields.malformed reason b → IsMalformed reason (header ++ b)
fields_in reason header b h (inl (inl x)) = after reason b (header_path h (omega arith)) (identifier.within refl reason b x)
fields_in reason header b h (inl (inr x)) = content_type reason header b h x
fields_in reason header b h (inr x) = after reason b (header_path h (omega arith)) ((later signed_content).within refl reason b x)

pub content_info_ends : AreMalformed content_info.has_paths content_info.malformed
content_info_ends = record { within = λ e reason b x. subst (IsMalformed reason) (sym x.2) (fields_in reason x.0 x.1 x.3 x.4) }
