use Rattle.std.specs.List.{AllZip}
use Rattle.cms_check.specs.Hashers.{EndsWith}
use Rattle.cms_check.proofs.digesting.Digesting.finish.Given as goal

abbrev pub invariant-loop-hasher : goal.invariant-loop-hasher
invariant-loop-hasher l = AllZip EndsWith l.yielded l.digests.items
