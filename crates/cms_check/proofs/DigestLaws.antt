-- Digests of octets, one by each of some algorithms.
use Rattle.std.proofs.Common.{◌≡◌, ℕ, List, [], ◌∷◌, sym, ap, ◌∙◌}
use Rattle.std.proofs.lemmas.List.Elements.{All-nil, All-cons}
use Rattle.cms_check.specs.declared.digests.HashAlg.{HashAlg}
use Rattle.cms_check.specs.declared.digests.Hashed.{Hashed}
use Rattle.cms_check.specs.Digests.{AreDigestsOf, digest_by, digest_octets}
use Rattle.cms_check.specs.Hashers.{AreDigestsBy}

-- are digests of those octets
pub are_digests : (algorithms : List HashAlg) (m : List ℕ) (ds : List (HashAlg × Hashed)) → AreDigestsBy algorithms m ds → AreDigestsOf ds m
are_digests [] m [] all = All-nil (λ d. digest_octets d.1 ≡ digest_by d.0 m)
are_digests [] m (d ∷ ds) all = absurd all
are_digests (a ∷ names) m [] all = absurd all
are_digests (a ∷ names) m (d ∷ ds) all =
    All-cons (λ d. digest_octets d.1 ≡ digest_by d.0 m) d ds (all.0.1 ∙ ap (λ h. digest_by h m) (sym all.0.0)) (are_digests names m ds all.1)
