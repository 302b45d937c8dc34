-- What the calls promise of which the conversion of many messages is made.
use Rattle.std.specs.Prelude.{◌≡◌, ◌<◌, ◌≤◌, ◌+◌, ◌-◌, ◌^◌, ◌++◌, ◌∷◌, [], ℕ, List, length, map}
use Rattle.std.specs.Prelude.{nat_lt, if◌then◌else◌, Option, None, Some, Result, Ok, Err, ◌⊎◌}
use Rattle.std.specs.Io.KnownBytes.{Consumes}
use Rattle.std.specs.List.{All}
use Rattle.cms_tlv.specs.declared.fault.Fault.{Fault}
use Rattle.cms_tlv.specs.declared.fault.Fault.TheVariants as faults
use Rattle.cms_canon.specs.declared.many.Many.{Many}
use Rattle.cms_canon.specs.declared.many.ManyFault.{ManyFault}
use Rattle.cms_canon.specs.declared.message.Tail.TheVariants as tails
use Rattle.cms_canon.specs.Exact.{ExactFaults}
use Rattle.cms_canon.specs.Many.{Conversion, AreOnePiece, IsBegun, IsFaithful, messages_of, ders_of}
use Rattle.cms_canon.specs.Many.{ManyFaults}
use Rattle.cms_canon.specs.Messages.{IsRead, IsWritable}
use Rattle.cms_canon.specs.Streams.{Reading, Writing, between, since, Takes, HasEnded, DidNotFail}
use Rattle.cms_canon.specs.Streams.{WritesAll}
use Rattle.cms_canon.specs.Whole.{Whole}

-- what is read and converted in all, and of that the DER that is still to be written, with the
-- length of each message
pub record InHand : Type 0 where
  pub count : Many
  pub octets : List ℕ
  pub lengths : List ℕ

-- one message more
abbrev pub with_message : Many → ℕ → ℕ → Many
with_message c read written =
    record { messages = c.messages + 1; read = c.read + read; written = c.written + written }

abbrev pub with_der : InHand → ℕ → List ℕ → InHand
with_der b read der =
    record {
      count = with_message b.count read (length der);
      octets = b.octets
          ++ der;
      lengths = b.lengths ++ length der ∷ [];
    }

-- none are still to be written
abbrev pub all_written : InHand → InHand
all_written b = record { count = b.count; octets = []; lengths = [] }

-- Messages were read and converted; the DER of the first of them is written, and that of the others
-- is still to be written.
pub record Progress (r : Reading) (w : Writing) (limit : ℕ) (b : InHand) : Type 0 where
  pub done : List Conversion
  pub others : List Conversion
  pub are_done : All (IsFaithful limit) done
  pub are_others : All (IsFaithful limit) others
  pub one_piece : AreOnePiece others
  pub taken : Takes r (messages_of (done ++ others))
  pub unfailed : DidNotFail r
  pub written_all : WritesAll w (ders_of done)
  pub octets : b.octets ≡ ders_of others
  pub lengths : b.lengths ≡ map (λ c. length c.der) others
  pub messages : b.count.messages ≡ length (done ++ others)
  pub read : b.count.read ≡ length (messages_of (done ++ others))
  pub written : b.count.written ≡ length (ders_of (done ++ others))

-- the counts are not past their end, so that another message may be begun
abbrev pub IsBeforeEnd : Many → Type 0
IsBeforeEnd c = (c.read ≤ 2 ^ 62) × (c.written ≤ 2 ^ 62)

-- what follows the messages that were converted: a message that fails; or none is begun
abbrev pub NextFails : Reading → ℕ → Many → Fault → Type 0
NextFails r limit c fault =
    (ExactFaults r limit tails.Leave fault × IsBegun fault × IsBeforeEnd c)
    ⊎ ((fault ≡ faults.Read) × Takes r [] × ((2 ^ 62 < c.read) ⊎ (2 ^ 62 < c.written)))

-- it goes on, or it stops there
abbrev pub Proceeds : {V : Type 0} → Reading → Writing → ℕ → InHand → Result V ManyFault → Type 0
Proceeds r w limit b (Ok v) = Progress r w limit b
Proceeds r w limit b (Err f) = ManyFaults r w limit f

-- what a writer took since before a call, up to the call and up to its end
abbrev pub before_call : Option (List ℕ) → ℕ → Writing → Writing
before_call out failed w = since out failed w.contents_before w.failures_before

abbrev pub after_call : Option (List ℕ) → ℕ → Writing → Writing
after_call out failed w = since out failed w.contents_after w.failures_after

-- What each step does, whatever reader, writer and limit the messages came from that were converted
-- before it.

-- a message that was read is converted
abbrev pub Converts : {V : Type 0} → Writing → InHand → InHand → Whole → Result V ManyFault → Type 0
Converts w old new m a =
    (left mid after : Option (List ℕ)) (failures some fails : ℕ) (out : Option (List ℕ))
    (failed limit : ℕ)
    → Progress (between left failures mid some) (before_call out failed w) limit old
    → IsRead (between mid some after fails) limit tails.Leave m
    → Proceeds (between left failures after fails) (after_call out failed w) limit new a

-- the input has ended
abbrev pub Finishes : {V : Type 0} → Writing → InHand → InHand → Result V ManyFault → Type 0
Finishes w old new a =
    (left mid after : Option (List ℕ)) (failures some fails : ℕ) (out : Option (List ℕ))
    (failed limit : ℕ)
    → Progress (between left failures mid some) (before_call out failed w) limit old
    → Consumes mid after [] → fails ≡ some
    → Proceeds (between left failures after fails) (after_call out failed w) limit new a

-- a message fails, or is not begun
abbrev pub StopsNext : Writing → InHand → Fault → ManyFault → Type 0
StopsNext w old e f =
    (left mid after : Option (List ℕ)) (failures some fails : ℕ) (out : Option (List ℕ))
    (failed limit : ℕ)
    → Progress (between left failures mid some) (before_call out failed w) limit old
    → NextFails (between mid some after fails) limit old.count e
    → ManyFaults (between left failures after fails) (after_call out failed w) limit f

-- a write fails, after more octets were read, no more than one message may have
abbrev pub StopsWriting : Writing → InHand → ManyFault → Type 0
StopsWriting w old f =
    (left mid after : Option (List ℕ)) (failures some fails : ℕ) (more : List ℕ)
    (out : Option (List ℕ)) (failed limit : ℕ)
    → Progress (between left failures mid some) (before_call out failed w) limit old
    → Consumes mid after more → length more ≤ limit
    → ManyFaults (between left failures after fails) (after_call out failed w) limit f

-- the next message is read and converted
abbrev pub ConvertsNext : {V : Type 0} → Reading → Writing → ℕ → InHand → InHand
    → Result V ManyFault → Type 0
ConvertsNext r w limit old new a =
    (left : Option (List ℕ)) (failures : ℕ) (out : Option (List ℕ)) (failed : ℕ)
    → Progress (between left failures r.left_before r.failures_before)
    (before_call out failed w) limit old
    → Proceeds (between left failures r.left_after r.failures_after)
    (after_call out failed w) limit new a

-- how many of these lengths fit into n octets one after another, and how many octets are left
abbrev pub split_at_message : List ℕ → ℕ → ℕ × ℕ
split_at_message [] n = (0, n)
split_at_message (l ∷ ls) n =
    if nat_lt n l then (0, n)
    else ((split_at_message ls (n - l)).0 + 1, (split_at_message ls (n - l)).1)

-- where a fault stops it: one of the writer is in the DER that is still to be written, any other in
-- the next message
abbrev pub stopped : InHand → Fault → ManyFault
stopped b (faults.Write n) =
    record {
      done = b.count.messages - length b.lengths + (split_at_message b.lengths n).0;
      written = b.count.written - length b.octets + n;
      fault = faults.Write (split_at_message b.lengths n).1;
    }
stopped b e = record { done = b.count.messages; written = b.count.written; fault = e }

-- a message that is within the largest limit
abbrev pub IsShort : Whole → Type 0
IsShort m = (0 < length m.octets) × (length m.octets ≤ 2 ^ 40) × IsWritable (2 ^ 40) m.value

-- a message or none, and the end
abbrev pub IsNext : Reading → ℕ → Option Whole → Type 0
IsNext r limit None = Takes r [] × HasEnded r × DidNotFail r × (0 < limit)
IsNext r limit (Some m) = IsRead r limit tails.Leave m
