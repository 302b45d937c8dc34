-- The attributes of a signer that RFC 5652 asks for (11.1 and 11.2).
use Rattle.std.specs.Prelude.{ℕ, List, Option, bytes_eq}
use Rattle.std.specs.List.{filter}
use Rattle.std.specs.Option.{option_and_then}
use Rattle.cms_tlv.specs.FirstElement.{first_contents}
use Rattle.cms_message.specs.Attributes.{attr_type}
use Rattle.cms_message.specs.Only.{only}
use Rattle.cms_message.specs.Signers.{AnyAttribute, opaque_values}
use Rattle.cms_scalars.specs.ObjectIdentifiers.{id_content_type, id_message_digest}

--- `only_of_type oid as`, `only_value oid as`: the one attribute of a type; its one value
abbrev pub only_of_type : List ℕ → List AnyAttribute → Option AnyAttribute
only_of_type oid attributes = only (filter (λ a. bytes_eq (attr_type a) oid) attributes)

-- its one value, if there are not more
abbrev pub only_value : List ℕ → List AnyAttribute → Option (List ℕ)
only_value oid attributes =
    option_and_then (λ a. only (opaque_values a)) (only_of_type oid attributes)

--- `content_type_value as`: the one value of the content-type attribute [RFC 5652, 11.1]
abbrev pub content_type_value : List AnyAttribute → Option (List ℕ)
content_type_value attributes = only_value id_content_type attributes

--- `message_digest as`: the octets of the message-digest attribute, an OCTET STRING [RFC 5652,
---   11.2]
abbrev pub message_digest : List AnyAttribute → Option (List ℕ)
message_digest attributes =
    option_and_then (first_contents 0x04) (only_value id_message_digest attributes)
