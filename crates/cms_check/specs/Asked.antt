-- The digests that the rules ask for of octets that are not attached.
use Rattle.std.specs.Prelude.{List, [], Option, Bool, not, ◌&&◌, bytes_eq, filter, if◌then◌else◌}
use Rattle.std.specs.List.{list_any}
use Rattle.std.specs.Option.{is_some, option_and_then}
use Rattle.cms_message.specs.Algorithms.{algorithm}
use Rattle.cms_message.specs.Signers.{BorrowedSigner}
use Rattle.cms_message.specs.SignerInfo.{digest_algorithm}
use Rattle.cms_message.specs.SignedData.{SignedData, encap_content_info, e_content}
use Rattle.cms_message.specs.SignedData.{borrowed_signers}
use Rattle.cms_tsp.specs.TstInfo.{TstInfo, tst_imprint}
use Rattle.cms_check.specs.declared.digests.HashAlg.{HashAlg}
use Rattle.cms_check.specs.Attributes.{message_digest}
use Rattle.cms_check.specs.Digests.{known_algorithms, name_of}
use Rattle.cms_check.specs.Rules.{passes, attributes_signed}
use Rattle.cms_check.specs.Tokens.{is_token, imprint_algorithm}

--- `has_content v`: content is attached [RFC 5652, 5.2]
abbrev pub has_content : SignedData → Bool
has_content v = is_some (e_content (encap_content_info v))

--- `asks_for h s`: the signer `s` has a message-digest, by the algorithm `h` [RFC 5652, 5.4, 11.2]
abbrev pub asks_for : HashAlg → BorrowedSigner → Bool
asks_for h s =
    passes (λ a. is_some (message_digest a)) (attributes_signed s)
    && bytes_eq (algorithm (digest_algorithm s)) (name_of h)

--- `digests_asked v`: the algorithms by which signers ask for a digest of content that is detached
---   [RFC 5652, 5.4]
abbrev pub digests_asked : SignedData → List HashAlg
digests_asked v =
    if has_content v then []
    else filter (λ h. list_any (asks_for h) (borrowed_signers v)) known_algorithms

--- `digest_asked_by read`: the algorithm of the imprint of a TSTInfo, if there is one and it is
---   known [RFC 3161, 2.4.1]
abbrev pub digest_asked_by : Option TstInfo → Option HashAlg
digest_asked_by read = option_and_then (λ t. imprint_algorithm (tst_imprint t)) read

--- `needs_octets v`: a token whose content is detached: a TSTInfo is read from octets [RFC 3161,
---   2.4.2]
abbrev pub needs_octets : SignedData → Bool
needs_octets v = is_token v && not (has_content v)
