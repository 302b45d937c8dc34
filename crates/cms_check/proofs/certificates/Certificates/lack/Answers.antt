use Rattle.std.proofs.Common.{rules, ◌≡◌, ◌==◌, List, ℕ, Bool, Option, Some, None, bytes_eq, filter, not, IsPermutation, sym, ap, ◌∙◌, arith}
use Rattle.std.specs.List.{list_any}
use Rattle.std.specs.Option.{IfSome}
use Rattle.std.proofs.lemmas.List.Elements.{All-push}
use Rattle.std.proofs.lemmas.List.Sorted.{list_any-IsPermutation}
use Rattle.cms_message.specs.Choices.{identifier_octet}
use Rattle.cms_check.specs.declared.digests.HashAlg.{HashAlg}
use Rattle.cms_check.specs.Certificates.{certificate_digests}
use Rattle.cms_check.specs.Digests.{digest_by}
use Rattle.cms_check.specs.Rules.{passes}
use Rattle.cms_check.specs.Tokens.{has_certificate}
use Rattle.cms_check.proofs.Found.{any_map, any_filter}
use Rattle.cms_check.proofs.certificates.Certificates.lack.Goals as goal

abbrev AreDigests : Option (List (List ℕ)) → HashAlg × List (List ℕ) → Type 0
AreDigests choices d = IfSome choices (λ cs. IsPermutation (certificate_digests d.0 cs) d.1)

lacking : (choices : Option (List (List ℕ))) (cs : List (List ℕ)) (d : HashAlg × List (List ℕ)) (hash : List ℕ) → choices ≡ Some cs
    → AreDigests choices d → not (list_any (λ s. bytes_eq s hash) d.1) ≡ passes (λ cs. not (has_certificate d.0 hash cs)) choices
lacking (Some cs) _ (h, digests) hash _ e =
    let is_hash : List ℕ → Bool = λ s. bytes_eq s hash in
    let is_certificate : List ℕ → Bool = λ c. identifier_octet c == 0x30 in
    ap not (sym (list_any-IsPermutation is_hash (certificate_digests h cs) digests e)
    ∙ any_map (digest_by h) is_hash (filter is_certificate cs) ∙ any_filter (λ c. is_hash (digest_by h c)) is_certificate cs)
lacking None cs d hash is e = absurd cc

pub returns-then-eq-clause-ok : goal.returns-then-eq-clause-ok
returns-then-eq-clause-ok c =
    let kept = c.loop-known-item.result in
    let same : kept.0 ≡ c.args.algorithm = search rules in
    let are_digests =
    rw (← c.loop-known-item.is) at (rw (← c.deref-known-items.ensures.value) at c.self.invariant c.loop-known.known-index kept (omega arith)) in
    rw (c.has.ensures, ← c.self.view_is, ← same) (lacking c.self.inside.choices c.in-Some.choices kept c.args.hash.now c.in-Some.is are_digests)

pub invariant_of-self-2 : goal.invariant_of-self-2
invariant_of-self-2 c =
    let right = AreDigests c.self.inside.choices in
    rw c.in_ok-push.ensures.items (All-push right c.self.inside.digests.items (c.args.algorithm, c.in_ok-digests.digests) c.self.invariant
    (rw c.in-Some.is c.in_ok-digests.ensures))

pub returns-clause-ok : goal.returns-clause-ok
returns-clause-ok c =
    rw (c.has-lacks.ensures, ← c.self.view_is) (lacking c.self.inside.choices c.in-Some.choices (c.args.algorithm, c.in_ok-digests.digests)
    c.args.hash.now c.in-Some.is (rw c.in-Some.is c.in_ok-digests.ensures))
