use Rattle.std.proofs.Common.{◌≡◌, List, ℕ, map, subst, sym, ap, ◌∙◌, Bor}
use Rattle.std.specs.List.{All}
use Rattle.std.proofs.lemmas.List.Elements.{All-push}
use Rattle.cms_tlv.specs.Spelling.{join}
use Rattle.cms_check.specs.declared.digests.HashAlg.{HashAlg}
use Rattle.cms_check.specs.declared.digests.Hashed.{Hashed}
use Rattle.cms_check.specs.Digests.{digest_by, digest_octets}
use Rattle.cms_check.proofs.pieces.Pieces.digest.Goals as goal

pub invariant_of-self-2 : goal.invariant_of-self-2
invariant_of-self-2 c =
    let is_right : HashAlg × Hashed → Type 0 = λ d. digest_octets d.1 ≡ digest_by d.0 (join (map (λ p. p.now) c.self.inside.pieces.items)) in
    subst (All is_right) (sym c.in_ok-push.ensures.items) (All-push is_right c.self.inside.digests.items
    (c.args.algorithm, c.digest-hashed.result) c.self.invariant
    (c.digest-hashed.ensures ∙ ap (λ (ps : List (Bor (List ℕ))). digest_by c.args.algorithm (join (map (λ p. p.now) ps)))
    c.deref.ensures.value))
