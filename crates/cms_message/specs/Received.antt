-- The octets of a ContentInfo that are written as they were received.
use Rattle.std.specs.Prelude.{ℕ, zero, suc, List, [], ◌∷◌, ◌++◌, option_to_list}
use Rattle.std.specs.List.{flat_map}
use Rattle.cms_fields.specs.Received.{in_option, in_either}
use Rattle.cms_message.specs.Algorithms.{AlgorithmIdentifier, parameters}
use Rattle.cms_message.specs.Countersignatures.{UnsignedAttribute}
use Rattle.cms_message.specs.SignerInfo.{SignerIdentifier, SignerInfo, SignerWithin, sid}
use Rattle.cms_message.specs.SignerInfo.{digest_algorithm, signed_attrs, signature_algorithm}
use Rattle.cms_message.specs.SignerInfo.{unsigned_attrs}
use Rattle.cms_message.specs.SignedData.{SignedData, Signer, digest_algorithms, certificates, crls}
use Rattle.cms_message.specs.SignedData.{signer_infos}
use Rattle.cms_message.specs.ContentInfo.{ContentInfo, content}

--- `in_algorithm_identifier v`: its parameters
abbrev pub in_algorithm_identifier : AlgorithmIdentifier → List (List ℕ)
in_algorithm_identifier v = option_to_list (parameters v)

--- `in_sid`: the issuer's name
abbrev pub in_sid : SignerIdentifier → List (List ℕ)
in_sid = in_either (λ v. v.0 ∷ []) (λ key. [])

--- `in_unsigned f a`: the opaque values of an attribute, or what `f` gives for countersignatures
abbrev pub in_unsigned : {C : Type 0} → (C → List (List ℕ)) → UnsignedAttribute C → List (List ℕ)
in_unsigned f a = in_either f (λ vs. vs) a.1

--- `in_signer_info f s`: the issuer's name, the parameters of both algorithms, signedAttrs as one,
---   and what `in_unsigned f` gives for unsigned attributes
abbrev pub in_signer_info : {C : Type 0} → (C → List (List ℕ)) → SignerInfo C → List (List ℕ)
in_signer_info f s =
    in_sid (sid s) ++
    (in_algorithm_identifier (digest_algorithm s)
    ++ (in_option (λ a. a.0 ∷ []) (signed_attrs s)
    ++ (in_algorithm_identifier (signature_algorithm s)
    ++ in_option (flat_map (in_unsigned f)) (unsigned_attrs s))))

--- `in_signer_within d`: the opaque octets in a signer and in all countersignatures below it
abbrev pub in_signer_within : (d : ℕ) → SignerWithin d → List (List ℕ)
in_signer_within zero = λ s. []
in_signer_within (suc d) = in_signer_info (flat_map (in_signer_within d))

--- `in_signer`: `in_signer_within` for a signer of a message
abbrev pub in_signer : Signer → List (List ℕ)
in_signer = in_signer_within 5

--- `in_signed_data v`: parameters of digestAlgorithms, certificates, revocation information, and
---   what is opaque in signers
abbrev pub in_signed_data : SignedData → List (List ℕ)
in_signed_data v =
    flat_map in_algorithm_identifier (digest_algorithms v)
    ++ (in_option (λ cs. cs) (certificates v)
    ++ (in_option (λ cs. cs) (crls v) ++ flat_map in_signer (signer_infos v)))

--- `in_content_info v`: of a ContentInfo, what is written as it was received [ours]
abbrev pub in_content_info : ContentInfo → List (List ℕ)
in_content_info v = in_signed_data (content v)
