use Rattle.std.proofs.Common.{◌≡◌, ◌==◌, drop}
use Rattle.std.specs.List.{find}
use Rattle.cms_c.proofs.digests.digest_among.Given as goal

abbrev pub invariant-loop-digest : goal.invariant-loop-digest
invariant-loop-digest l = find (λ d. d.algorithm == l.number) (drop l.digest-index l.given) ≡ find (λ d. d.algorithm == l.number) l.given
