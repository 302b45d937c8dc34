use Rattle.std.proofs.Common.{◌≡◌, ◌≤◌, ◌-◌, ℕ, List, [], length}
use Rattle.std.specs.Io.KnownBytes.{Consumes}
use Rattle.cms_check.specs.declared.digests.HashAlg.{HashAlg}
use Rattle.cms_check.specs.Hashers.{AreDigesting}
use Rattle.cms_canon.proofs.digested.digest_to_end.Given as goal

abbrev pub invariant-loop-count : goal.invariant-loop-count
invariant-loop-count g l = (octets : List ℕ) × record {
  taken : Consumes (g.R.Input.left l.fn.reader) (g.R.Input.left l.reader) octets;
  counted : length octets ≡ l.count;
  within : l.count ≤ l.limit;
  failures : g.R.Input.failures l.reader ≡ g.R.Input.failures l.fn.reader;
  digested : (algorithms : List HashAlg) → AreDigesting algorithms [] l.fn.digesting → AreDigesting algorithms octets l.digesting;
}

abbrev pub decreases-loop-count : goal.decreases-loop-count
decreases-loop-count g l = l.limit - l.count
