use Rattle.std.proofs.Common.{◌≡◌, take, drop}
use Rattle.std.specs.List.{AllZip}
use Rattle.cms_check.specs.Hashers.{TakesMore}
use Rattle.cms_check.proofs.digesting.add_to_all.Given as goal

abbrev pub invariant-loop-hasher : goal.invariant-loop-hasher
invariant-loop-hasher l = record {
  taken : AllZip (TakesMore l.octets) (take l.hasher-index l.initial.hashers) (take l.hasher-index l.hashers);
  rest : drop l.hasher-index l.hashers ≡ drop l.hasher-index l.initial.hashers;
}
