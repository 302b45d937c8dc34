-- What a signature covers (RFC 5652, 5.4), that of a countersignature too (RFC 5652, 11.4).
use Rattle.std.specs.Prelude.{◌≡◌, ℕ, zero, suc, List, [], ◌∷◌, Option, Some, None, option_map}
use Rattle.std.specs.Prelude.{option_to_list, slice_get, Bool, bytes_eq, ◌&&◌}
use Rattle.std.specs.List.{flat_map}
use Rattle.std.specs.Option.{option_or, option_eq, option_and_then}
use Rattle.cms_fields.specs.Received.{in_either}
use Rattle.cms_message.specs.declared.cover.CoverFault.{CoverFault}
use Rattle.cms_message.specs.declared.cover.CoverFault.TheVariants.{NoSigner, NoContent}
use Rattle.cms_message.specs.declared.cover.CoverFault.TheVariants.{OutOfMemory}
use Rattle.cms_message.specs.Signers.{BorrowedSigner, borrowed_signer, below}
use Rattle.cms_message.specs.Countersignatures.{UnsignedAttribute}
use Rattle.cms_message.specs.SignerInfo.{SignerInfo, SignerWithin, signed_attrs, signature}
use Rattle.cms_message.specs.SignerInfo.{unsigned_attrs}
use Rattle.cms_message.specs.SignedData.{SignedData, encap_content_info, e_content, signer_infos}
use Rattle.cms_message.specs.SignedData.{borrowed_signers}

--- `as_set_of`: signed attributes as received, but with 31 as their first octet [RFC 5652, 5.4]
abbrev pub as_set_of : List ℕ → List ℕ
as_set_of [] = []
as_set_of (t ∷ r) = 0x31 ∷ r

--- `content_given v detached`: eContent, or if it is absent the detached content [RFC 5652, 5.2]
abbrev pub content_given : SignedData → Option (List ℕ) → Option (List ℕ)
content_given v detached = option_or (e_content (encap_content_info v)) detached

--- `cover s content`: signed attributes `as_set_of`, or if none the content [RFC 5652, 5.4]
abbrev pub cover : {C : Type 0} → SignerInfo C → Option (List ℕ) → Option (List ℕ)
cover s content = option_or (option_map (λ a. as_set_of a.0) (signed_attrs s)) content

--- `cover_of v i detached`: the cover of the signer with the index `i`; none if there is no such
---   signer [RFC 5652, 5.4]
abbrev pub cover_of : SignedData → ℕ → Option (List ℕ) → Option (Option (List ℕ))
cover_of v i detached =
    option_map (λ s. cover s (content_given v detached)) (slice_get (borrowed_signers v) i)

--- `cover_from s content path`: the cover of the countersignature at a path from the signer `s`:
---   without signed attributes, it covers the signature that it signs [RFC 5652, 11.4]
abbrev pub cover_from : BorrowedSigner → Option (List ℕ) → List ℕ → Option (Option (List ℕ))
cover_from s content [] = Some (cover s content)
cover_from s content (i ∷ path) =
    option_and_then (λ c. cover_from (borrowed_signer c) (Some (signature s)) path)
    (slice_get (below s) i)

--- `cover_along v path detached`: the cover of the signer or countersignature at a path; none if
---   there is none at the path [RFC 5652, 5.4, 11.4]
abbrev pub cover_along : SignedData → List ℕ → Option (List ℕ) → Option (Option (List ℕ))
cover_along v [] detached = None
cover_along v (i ∷ path) detached =
    option_and_then (λ s. cover_from s (content_given v detached) path)
    (slice_get (borrowed_signers v) i)

--- `signer_from s path`: the countersignature at a path from the signer `s` [RFC 5652, 11.4]
abbrev pub signer_from : BorrowedSigner → List ℕ → Option BorrowedSigner
signer_from s [] = Some s
signer_from s (i ∷ path) =
    option_and_then (λ c. signer_from (borrowed_signer c) path) (slice_get (below s) i)

--- `signer_along v path`: the signer or countersignature at a path of indices in the SignedData
---   `v`, if there is one [RFC 5652, 11.4]
abbrev pub signer_along : SignedData → List ℕ → Option BorrowedSigner
signer_along v [] = None
signer_along v (i ∷ path) =
    option_and_then (λ s. signer_from s path) (slice_get (borrowed_signers v) i)

--- `attributes_along v path`: the octets of the signed attributes of the signer or countersignature
---   at a path, if it has any [RFC 5652, 5.4, 11.4]
abbrev pub attributes_along : SignedData → List ℕ → Option (List ℕ)
attributes_along v path = option_map (λ a. a.0) (option_and_then signed_attrs (signer_along v path))

-- a cover, if there is one, and the signature
abbrev pub Covered : Type 0
Covered = Option (List ℕ) × List ℕ

--- `covers_below f a`: what `f` gives for the countersignatures in the attribute `a`
abbrev pub covers_below : {C : Type 0} → (C → List Covered) → UnsignedAttribute C → List Covered
covers_below f a = in_either f (λ vs. []) a.1

--- `covers_within d`: the covers of a signer and of all below it [RFC 5652, 11.4]
abbrev pub covers_within : (d : ℕ) → Option (List ℕ) → SignerWithin d → List Covered
covers_within zero content s = absurd s
covers_within (suc d) content s =
    (cover s content, signature s) ∷ flat_map
    (flat_map (covers_below (flat_map (covers_within d (Some (signature s))))))
    (option_to_list (unsigned_attrs s))

--- `covers v detached`: the covers of all signers and countersignatures [RFC 5652, 5.4, 11.4]
abbrev pub covers : SignedData → Option (List ℕ) → List Covered
covers v detached = flat_map (covers_within 5 (content_given v detached)) (signer_infos v)

--- `IsCoveredAlong v detached path p`: the cover and the signature `p` are those of the signer or
---   countersignature at the path [RFC 5652, 11.4]
abbrev pub IsCoveredAlong : SignedData → Option (List ℕ) → List ℕ → Covered → Type 0
IsCoveredAlong v detached path p =
    (cover_along v path detached ≡ Some p.0)
    × (option_map signature (signer_along v path) ≡ Some p.1)

--- `same_covered`: two such pairs are equal
abbrev pub same_covered : Covered → Covered → Bool
same_covered x y = option_eq bytes_eq x.0 y.0 && bytes_eq x.1 y.1

--- `LacksCover e r`: why a cover is not returned: no signer, no content, or, if there is a cover,
---   memory ran out
abbrev pub LacksCover : CoverFault → Option (Option (List ℕ)) → Type 0
LacksCover NoSigner r = r ≡ None
LacksCover NoContent r = r ≡ Some None
LacksCover OutOfMemory r = (c : List ℕ) × (r ≡ Some (Some c))
