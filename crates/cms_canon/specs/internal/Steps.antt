-- What the calls promise of which whole messages are read and written.
use Rattle.std.specs.Prelude.{◌≡◌, ℕ, ◌+◌, List, [], ◌∷◌, length, Option, None}
use Rattle.cms_tlv.specs.declared.fault.Fault.{Fault}
use Rattle.cms_tlv.specs.declared.fault.Fault.TheVariants as faults
use Rattle.cms_tlv.specs.declared.fault.Reason.TheVariants as reasons
use Rattle.cms_tlv.specs.Clauses.{Found}
use Rattle.cms_tlv.specs.Spelling.{Spelling}
use Rattle.cms_tlv.specs.State.{State, Looked}
use Rattle.cms_setof.specs.declared.piece.Piece.{Piece}
use Rattle.cms_setof.specs.declared.piece.Piece.TheVariants as piece
use Rattle.cms_canon.specs.declared.convert.Done.{Done}
use Rattle.cms_canon.specs.declared.message.Tail.{Tail}
use Rattle.cms_canon.specs.declared.message.Tail.TheVariants as tails
use Rattle.cms_canon.specs.Messages.{IsDerOf, IsWritable, IsTooLong}
use Rattle.cms_canon.specs.Streams.{Reading, between, Takes, TakesNone, HasEnded, DidNotFail}
use Rattle.cms_canon.specs.Streams.{ReadFailed, Writing, WritesAll, WritesPart, WritesNone}
use Rattle.cms_canon.specs.Whole.{Whole}

-- a source of which nothing was taken
abbrev pub fresh : Option (List ℕ) → ℕ → ℕ → State
fresh left failures limit =
    record {
      done = [];
      ahead = None;
      left = left;
      failures = failures;
      limit = limit;
      fault = None;
    }

-- P of the reading that began with a source of which at most an octet was looked at, up to what is
-- left in the end
abbrev pub Since : State → ℕ → Option (List ℕ) → ℕ → (Reading → Type 0) → Type 0
Since s limit after fails P =
    (left : Option (List ℕ)) (failures : ℕ) → Looked (fresh left failures limit) s
    → P (between left failures after fails)

-- what was read is shown in what was kept
pub record Shows {V : Type 0} (R : Spelling V) (shown : List ℕ → V) (old new : State) : Type 0 where
  pub found : Found R old new (shown new.done)

-- what is taken after a message: nothing, without a failure, and if nothing may follow, the reader
-- has ended
abbrev pub IsBehind : Reading → Tail → Type 0
IsBehind r tails.Leave = TakesNone r
IsBehind r tails.Refuse = Takes r [] × HasEnded r × DidNotFail r

-- what a message is refused for once it was read
abbrev pub Rejects : Reading → ℕ → Tail → Whole → Fault → Type 0
Rejects r limit tail m (faults.Refused reasons.TooLarge at) =
    TakesNone r × (at ≡ length m.octets) × IsTooLong limit m.value
Rejects r limit tail m (faults.Refused reasons.Trailing at) =
    (tail ≡ tails.Refuse) × (at ≡ length m.octets + 1) × IsWritable limit m.value
    × DidNotFail r × ((next : ℕ) × Takes r (next ∷ []))
Rejects r limit tail m (faults.Refused reason at) = ⊥
Rejects r limit tail m faults.Read = ReadFailed r × Takes r []
Rejects r limit tail m (faults.Write written) = ⊥
Rejects r limit tail m faults.OutOfMemory = ⊥

-- one piece that is all of the octets
abbrev pub AreAllOf : List ℕ → List Piece → Type 0
AreAllOf octets ps = ps ≡ piece.Copied (record { start = 0; end = length octets }) ∷ []

-- what is written for a message was written, and counted
pub record IsSent (w : Writing) (m : Whole) (d : Done) : Type 0 where
  pub octets : List ℕ
  pub is_der : IsDerOf m.value octets
  pub written_all : WritesAll w octets
  pub read : d.read ≡ length m.octets
  pub written : d.written ≡ length octets

-- a part of it was written, or memory was wanted and nothing was
abbrev pub SendFaults : Writing → Whole → Fault → Type 0
SendFaults w m (faults.Write written) = (o : List ℕ) × IsDerOf m.value o × WritesPart w o written
SendFaults w m faults.OutOfMemory = WritesNone w
SendFaults w m (faults.Refused reason at) = ⊥
SendFaults w m faults.Read = ⊥
