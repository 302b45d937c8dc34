-- ContentInfo that holds SignedData (RFC 5652, 3).
use Rattle.std.specs.Prelude.{◌≡◌, ℕ, List, Bool, bytes_eq}
use Rattle.cms_tlv.specs.declared.fault.Reason.TheVariants.{OidMalformed, NotSignedData}
use Rattle.cms_fields.specs.Grammar.{Grammar, tagged, constrained, then_by, last}
use Rattle.cms_scalars.specs.Scalars.{IsObjectIdentifier}
use Rattle.cms_scalars.specs.Readers.{is_object_identifier}
use Rattle.cms_scalars.specs.ObjectIdentifiers.{id_signed_data}
use Rattle.cms_message.specs.SignedData.{SignedData, signed_data}

--- `ContentInfo`: the value of a ContentInfo [RFC 5652, 3]
abbrev pub ContentInfo : Type 0
ContentInfo = List ℕ × SignedData

--- `content_type`, `content`: its parts [RFC 5652, 3]
abbrev pub content_type : ContentInfo → List ℕ
content_type v = v.0

-- content of a ContentInfo
abbrev pub content : ContentInfo → SignedData
content v = v.1

--- `is_signed_data c`: the test for the contents octets of id-signedData
abbrev pub is_signed_data : List ℕ → Bool
is_signed_data c = bytes_eq c id_signed_data

--- `signed_data_type`: an OBJECT IDENTIFIER that is id-signedData [RFC 5652, 3]
abbrev pub signed_data_type : Grammar (List ℕ)
signed_data_type =
    constrained 0x06 IsObjectIdentifier is_object_identifier OidMalformed
    (λ t. t ≡ id_signed_data) is_signed_data NotSignedData

--- `signed_data_content`: A0 with one SignedData as its contents [RFC 5652, 3]
abbrev pub signed_data_content : Grammar SignedData
signed_data_content = last (tagged 0xa0 (last signed_data))

-- ContentInfo ::= SEQUENCE { contentType ContentType, content [0] EXPLICIT ANY DEFINED BY
-- contentType }
--- `content_info_fields`: its fields [RFC 5652, 3]
abbrev pub content_info_fields : Grammar ContentInfo
content_info_fields = then_by signed_data_type signed_data_content

--- `content_info`: 30 with these fields as its contents [RFC 5652, 3]
abbrev pub content_info : Grammar ContentInfo
content_info = tagged 0x30 content_info_fields
