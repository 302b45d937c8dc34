-- What reading the rest of an input promises.
use Rattle.std.specs.Prelude.{◌≡◌, ◌≤◌, ℕ, ◌+◌, List, length}
use Rattle.cms_tlv.specs.declared.fault.Fault.{Fault}
use Rattle.cms_tlv.specs.declared.fault.Fault.TheVariants as faults
use Rattle.cms_tlv.specs.declared.fault.Reason.TheVariants.{TooLarge}
use Rattle.cms_canon.specs.Streams.{Reading, Takes, TakesAtMost, HasEnded, DidNotFail, ReadFailed}

--- `IsRest r limit octets`: the octets are all that was left, at most `limit`; the reader has
---   ended, and did not fail
abbrev pub IsRest : Reading → ℕ → List ℕ → Type 0
IsRest r limit octets = Takes r octets × HasEnded r × (length octets ≤ limit) × DidNotFail r

--- `RestFaults r limit f`: E2: one octet more than `limit` was taken, `f` says how many, and the
---   reader did not fail
--- | `Read` comes if the reader failed, `OutOfMemory` if not; at both, at most `limit` were taken
abbrev pub RestFaults : Reading → ℕ → Fault → Type 0
RestFaults r limit (faults.Refused reason at) =
    (reason ≡ TooLarge) × (at ≡ limit + 1) × DidNotFail r
    × ((octets : List ℕ) × Takes r octets × (length octets ≡ limit + 1))
RestFaults r limit faults.Read = ReadFailed r × TakesAtMost r limit
RestFaults r limit (faults.Write written) = ⊥
RestFaults r limit faults.OutOfMemory = DidNotFail r × TakesAtMost r limit
