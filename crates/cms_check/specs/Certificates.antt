-- The digests of a message's certificates (RFC 5652, 10.2.2 and 10.2.3).
use Rattle.std.specs.Prelude.{ℕ, List, ◌==◌, map, filter}
use Rattle.cms_message.specs.Choices.{identifier_octet}
use Rattle.cms_check.specs.declared.digests.HashAlg.{HashAlg}
use Rattle.cms_check.specs.Digests.{digest_by}

--- `certificate_digests h cs`, in `Certificates.antt`: the digest of each Certificate among
---   CertificateChoices [RFC 5652, 10.2.2]
abbrev pub certificate_digests : HashAlg → List (List ℕ) → List (List ℕ)
certificate_digests h choices = map (digest_by h) (filter (λ c. identifier_octet c == 0x30) choices)
