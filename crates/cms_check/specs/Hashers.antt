-- Hashers that take octets in pieces, and the digests that they end with (FIPS 180-4).
use Rattle.std.specs.Prelude.{◌≡◌, ◌++◌, ℕ, List}
use Rattle.std.specs.List.{AllZip}
use Rattle.sha1.specs.Sha1.{Holds}
use Rattle.sha2.specs.Hashers.{Holds224, Holds256, Holds384, Holds512, Holds512_224, Holds512_256}
use Rattle.cms_check.specs.declared.digests.HashAlg.{HashAlg}
use Rattle.cms_check.specs.declared.digests.HashAlg.TheVariants as algorithms
use Rattle.cms_check.specs.declared.digests.Hashed.{Hashed}
use Rattle.cms_check.specs.declared.digesting.Hasher.{Hasher}
use Rattle.cms_check.specs.declared.digesting.Hasher.TheVariants as hashers
use Rattle.cms_check.specs.Digests.{digest_by, digest_octets}

--- `algorithm_of hasher`: its algorithm
abbrev pub algorithm_of : Hasher → HashAlg
algorithm_of (hashers.Sha1 s) = algorithms.Sha1
algorithm_of (hashers.Sha224 s) = algorithms.Sha224
algorithm_of (hashers.Sha256 s) = algorithms.Sha256
algorithm_of (hashers.Sha384 s) = algorithms.Sha384
algorithm_of (hashers.Sha512 s) = algorithms.Sha512
algorithm_of (hashers.Sha512_224 s) = algorithms.Sha512_224
algorithm_of (hashers.Sha512_256 s) = algorithms.Sha512_256

--- `HasTaken hasher m`: it has taken the octets `m`, as the kit's `sha1` and `sha2` define it [FIPS
---   180-4]
abbrev pub HasTaken : Hasher → List ℕ → Type 0
HasTaken (hashers.Sha1 s) m = Holds s m
HasTaken (hashers.Sha224 s) m = Holds224 s m
HasTaken (hashers.Sha256 s) m = Holds256 s m
HasTaken (hashers.Sha384 s) m = Holds384 s m
HasTaken (hashers.Sha512 s) m = Holds512 s m
HasTaken (hashers.Sha512_224 s) m = Holds512_224 s m
HasTaken (hashers.Sha512_256 s) m = Holds512_256 s m

--- `TakesMore octets old new`, `EndsWith hasher d`: a hasher before and after it takes octets; a
---   hasher, and its digest with its algorithm
abbrev pub TakesMore : List ℕ → Hasher → Hasher → Type 0
TakesMore octets old new =
    (algorithm_of new ≡ algorithm_of old)
    × ((m : List ℕ) → HasTaken old m → HasTaken new (m ++ octets))

-- a hasher, and the digest that it ends with
abbrev pub EndsWith : Hasher → HashAlg × Hashed → Type 0
EndsWith hasher d =
    (d.0 ≡ algorithm_of hasher)
    × ((m : List ℕ) → HasTaken hasher m → digest_octets d.1 ≡ digest_by d.0 m)

--- `AreDigesting algorithms m hs`: one hasher for each of the algorithms, in their order, which has
---   taken the octets `m`
abbrev pub AreDigesting : List HashAlg → List ℕ → List Hasher → Type 0
AreDigesting algorithms m hs = AllZip (λ a h. (algorithm_of h ≡ a) × HasTaken h m) algorithms hs

--- `AreDigestsBy algorithms m ds`: one digest of the octets `m` by each of the algorithms, in their
---   order
abbrev pub AreDigestsBy : List HashAlg → List ℕ → List (HashAlg × Hashed) → Type 0
AreDigestsBy algorithms m ds =
    AllZip (λ a d. (d.0 ≡ a) × (digest_octets d.1 ≡ digest_by a m)) algorithms ds
