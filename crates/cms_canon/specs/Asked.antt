-- The digests that a message asks for of what is not attached to it.
use Rattle.std.specs.Prelude.{◌≡◌, ◌⊎◌, List, ℕ, [], Option, Some, None, Bool, true, option_to_list}
use Rattle.std.specs.List.{Contains}
use Rattle.std.specs.Option.{option_and_then}
use mathlib.Core.Logic.{inl, inr}
use Rattle.cms_message.specs.SignedData.{SignedData, encap_content_info, e_content}
use Rattle.cms_tsp.specs.Requests.{imprint}
use Rattle.cms_tsp.specs.TstInfo.{TstInfo, IsTstInfoOf}
use Rattle.cms_check.specs.declared.digests.HashAlg.{HashAlg}
use Rattle.cms_check.specs.declared.digests.Hashed.{Hashed}
use Rattle.cms_check.specs.Asked.{digests_asked, digest_asked_by, needs_octets}
use Rattle.cms_check.specs.Rules.{passes}
use Rattle.cms_check.specs.Tokens.{token_content, imprint_algorithm}
use Rattle.cms_canon.specs.Kinds.{MessageValue, signed_data_in}

--- `asked_of_content v`: the algorithms of the digests of its content, if that is detached
abbrev pub asked_of_content : MessageValue → List HashAlg
asked_of_content v = among (signed_data_in v)
  where
    among : Option SignedData → List HashAlg
    among None = []
    among (Some s) = digests_asked s

--- `needs_content v`: its content is needed as octets
abbrev pub needs_content : MessageValue → Bool
needs_content v = passes needs_octets (signed_data_in v)

--- `tst_content_attached v`: the octets that are attached to it and have to be a TSTInfo
abbrev pub tst_content_attached : MessageValue → Option (List ℕ)
tst_content_attached v =
    option_and_then (λ s. token_content s (e_content (encap_content_info s))) (signed_data_in v)

--- `asked_of_data v read`: the algorithm of the digest of the data that were time-stamped, or are
---   to be, if it is known; `read` is the TSTInfo that is
--- | attached, or none
abbrev pub asked_of_data : MessageValue → Option TstInfo → Option HashAlg
asked_of_data (inl v) read = digest_asked_by read
asked_of_data (inr (inl v)) read = imprint_algorithm (imprint v)
asked_of_data (inr (inr v)) read = digest_asked_by read

--- `LacksOneOf asked given`: digests are given, and none by an algorithm that is asked for
abbrev pub LacksOneOf : List HashAlg → Option (List (HashAlg × Hashed)) → Type 0
LacksOneOf asked None = ⊥
LacksOneOf asked (Some digests) =
    (h : HashAlg) × Contains asked h × ((d : Hashed) → Contains digests (h, d) → ⊥)

--- `LacksAskedDigest v detached stamped`: the digests given of the content, or of the data that
---   were time-stamped, are without one that the message asks for
abbrev pub LacksAskedDigest : MessageValue → Option (List (HashAlg × Hashed))
    → Option (List (HashAlg × Hashed)) → Type 0
LacksAskedDigest v detached stamped =
    LacksOneOf (asked_of_content v) detached
    ⊎ ((read : Option TstInfo) × IsTstInfoOf (tst_content_attached v) read
    × LacksOneOf (option_to_list (asked_of_data v read)) stamped)

--- `LacksNeededOctets v detached`: digests of the content are given, and it is needed as octets
abbrev pub LacksNeededOctets : MessageValue → Option (List (HashAlg × Hashed)) → Type 0
LacksNeededOctets v None = ⊥
LacksNeededOctets v (Some digests) = needs_content v ≡ true
