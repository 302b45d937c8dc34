-- Digest algorithms: their names, and what they make of octets (FIPS 180-4).
use Rattle.std.specs.Prelude.{◌≡◌, ℕ, List, [], ◌∷◌, Option, Some, None, bytes_eq, if◌then◌else◌}
use Rattle.std.specs.List.{All}
use Rattle.cms_scalars.specs.ObjectIdentifiers.{id_sha1, id_sha224, id_sha256, id_sha384, id_sha512}
use Rattle.cms_scalars.specs.ObjectIdentifiers.{id_sha512_224, id_sha512_256}
use Rattle.sha1.specs.Sha1.{sha1}
use Rattle.sha2.specs.Sha256.{sha224, sha256}
use Rattle.sha2.specs.Sha512.{sha384, sha512, sha512_224, sha512_256}
use Rattle.cms_check.specs.declared.digests.HashAlg.{HashAlg}
use Rattle.cms_check.specs.declared.digests.HashAlg.TheVariants as algorithms
use Rattle.cms_check.specs.declared.digests.Hashed.{Hashed}
use Rattle.cms_check.specs.declared.digests.DigestOctets.{DigestOctets}
use Rattle.cms_check.specs.declared.digests.DigestOctets.TheVariants as octets

--- `algorithm_named c`: the digest algorithm that the contents octets `c` of an OBJECT IDENTIFIER
---   name, or none
abbrev pub algorithm_named : List ℕ → Option HashAlg
algorithm_named c =
    if bytes_eq c id_sha1 then Some algorithms.Sha1
    else if bytes_eq c id_sha256 then Some algorithms.Sha256
    else if bytes_eq c id_sha384 then Some algorithms.Sha384
    else if bytes_eq c id_sha512 then Some algorithms.Sha512
    else if bytes_eq c id_sha224 then Some algorithms.Sha224
    else if bytes_eq c id_sha512_224 then Some algorithms.Sha512_224
    else if bytes_eq c id_sha512_256 then Some algorithms.Sha512_256
    else None

--- `known_algorithms`: the algorithms that are known here
abbrev pub known_algorithms : List HashAlg
known_algorithms =
    algorithms.Sha1 ∷ algorithms.Sha224 ∷ algorithms.Sha256 ∷ algorithms.Sha384 ∷
    algorithms.Sha512 ∷ algorithms.Sha512_224 ∷ algorithms.Sha512_256 ∷ []

--- `name_of h`, `digest_length h`: the contents octets that name an algorithm; how many octets its
---   digests have [FIPS 180-4, figure 1]
abbrev pub name_of : HashAlg → List ℕ
name_of algorithms.Sha1 = id_sha1
name_of algorithms.Sha224 = id_sha224
name_of algorithms.Sha256 = id_sha256
name_of algorithms.Sha384 = id_sha384
name_of algorithms.Sha512 = id_sha512
name_of algorithms.Sha512_224 = id_sha512_224
name_of algorithms.Sha512_256 = id_sha512_256

abbrev pub digest_length : HashAlg → ℕ
digest_length algorithms.Sha1 = 20
digest_length algorithms.Sha224 = 28
digest_length algorithms.Sha256 = 32
digest_length algorithms.Sha384 = 48
digest_length algorithms.Sha512 = 64
digest_length algorithms.Sha512_224 = 28
digest_length algorithms.Sha512_256 = 32

--- `digest_by algorithm m`: the digest of the octets `m`, as the kit's `sha1` and `sha2` define it
---   [FIPS 180-4]
abbrev pub digest_by : HashAlg → List ℕ → List ℕ
digest_by algorithms.Sha1 m = sha1 m
digest_by algorithms.Sha224 m = sha224 m
digest_by algorithms.Sha256 m = sha256 m
digest_by algorithms.Sha384 m = sha384 m
digest_by algorithms.Sha512 m = sha512 m
digest_by algorithms.Sha512_224 m = sha512_224 m
digest_by algorithms.Sha512_256 m = sha512_256 m

-- the octets of a digest
abbrev octets_of_kind : DigestOctets → List ℕ
octets_of_kind (octets.Of160 b) = b
octets_of_kind (octets.Of224 b) = b
octets_of_kind (octets.Of256 b) = b
octets_of_kind (octets.Of384 b) = b
octets_of_kind (octets.Of512 b) = b

--- `digest_octets h`: the octets of a digest
abbrev pub digest_octets : Hashed → List ℕ
digest_octets h = octets_of_kind h.0

--- `AreDigestsOf ds m`: each of the digests is that of the octets `m` by the algorithm that it has
---   with it [FIPS 180-4]
abbrev pub AreDigestsOf : List (HashAlg × Hashed) → List ℕ → Type 0
AreDigestsOf ds m = All (λ d. digest_octets d.1 ≡ digest_by d.0 m) ds
