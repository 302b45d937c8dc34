-- The version that a SignedData is due (RFC 5652, 5.1).
use Rattle.std.specs.Prelude.{ℕ, List, [], ◌∷◌, Option, Some, None, Bool, false, not, bytes_eq}
use Rattle.std.specs.Prelude.{◌==◌, ◌||◌, if◌then◌else◌}
use Rattle.std.specs.List.{list_any}
use Rattle.cms_scalars.specs.ObjectIdentifiers.{id_data}
use Rattle.cms_message.specs.Choices.{identifier_octet}
use Rattle.cms_message.specs.SignerInfo.{signer_info_version}
use Rattle.cms_message.specs.Signers.{BorrowedSigner}
use Rattle.cms_message.specs.SignedData.{SignedData, encap_content_info, e_content_type}
use Rattle.cms_message.specs.SignedData.{certificates, crls, borrowed_signers}

--- `has_choice t choices`: there are such choices, and one of them has the identifier octet `t`
---   [RFC 5652, 5.1]
abbrev pub has_choice : ℕ → Option (List (List ℕ)) → Bool
has_choice t None = false
has_choice t (Some choices) = list_any (λ c. identifier_octet c == t) choices

--- `is_version_3 s`: the version of the signer `s` is 3 [RFC 5652, 5.1]
abbrev pub is_version_3 : BorrowedSigner → Bool
is_version_3 s = bytes_eq (signer_info_version s) (0x03 ∷ [])

--- `due_version v`: the version that a SignedData should have [RFC 5652, 5.1]
abbrev pub due_version : SignedData → ℕ
due_version v =
    if has_choice 0xa3 (certificates v) || has_choice 0xa1 (crls v) then 5
    else if has_choice 0xa2 (certificates v) then 4
    else if has_choice 0xa1 (certificates v)
    || (list_any is_version_3 (borrowed_signers v)
    || not (bytes_eq (e_content_type (encap_content_info v)) id_data)) then 3
    else 1
