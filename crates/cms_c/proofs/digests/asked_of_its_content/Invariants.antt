use Rattle.std.proofs.Common.{◌≡◌, map, take}
use Rattle.cms_c.specs.Digests.{content_digest_asked}
use Rattle.cms_c.proofs.digests.asked_of_its_content.Given as goal

abbrev pub invariant-loop-algorithm : goal.invariant-loop-algorithm
invariant-loop-algorithm l = l.asked.items ≡ map content_digest_asked (take l.algorithm-index l.algorithm-items)
