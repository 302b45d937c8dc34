-- What reading a message and writing its DER promises.
use Rattle.std.specs.Prelude.{◌≡◌, ℕ, List, length}
use Rattle.cms_tlv.specs.declared.fault.Fault.{Fault}
use Rattle.cms_tlv.specs.declared.fault.Fault.TheVariants as faults
use Rattle.cms_canon.specs.Kinds.{whole_message, same_message}
use Rattle.cms_canon.specs.Received.{KeepsReceived}
use Rattle.cms_canon.specs.declared.convert.Done.{Done}
use Rattle.cms_canon.specs.declared.message.Tail.{Tail}
use Rattle.cms_canon.specs.declared.message.Tail.TheVariants as tails
use Rattle.cms_canon.specs.Denotes.{IsAcceptedAs}
use Rattle.cms_canon.specs.Exact.{ExactFaults}
use Rattle.cms_canon.specs.Messages.{IsDerOf, IsRead}
use Rattle.cms_canon.specs.Streams.{Reading, Writing, WritesAll, WritesPart, WritesNone}
use Rattle.cms_canon.specs.Whole.{Whole}

--- `IsCanonicalised r w limit tail d`: one message was read, and what is written for its octets was
---   written; `d` counts the octets of both, and `KeepsReceived` holds of them
pub record IsCanonicalised (r : Reading) (w : Writing) (limit : ℕ) (tail : Tail)
    (d : Done) : Type 0 where
  pub message : Whole
  pub is_read : IsRead r limit tail message
  pub octets : List ℕ
  pub is_written : IsAcceptedAs whole_message same_message limit message.octets octets
  pub written_all : WritesAll w octets
  pub received : KeepsReceived message.octets octets
  pub read : d.read ≡ length message.octets
  pub written : d.written ≡ length octets

--- `CanonicalFaults r w limit tail f`: at a write fault, a message was read, a part of its DER was
---   written, and the writer failed
--- | at another fault, `ExactFaults` holds, and nothing was written
abbrev pub CanonicalFaults : Reading → Writing → ℕ → Tail → Fault → Type 0
CanonicalFaults r w limit tail (faults.Write written) =
    (m : Whole) × (o : List ℕ) × IsRead r limit tail m × IsDerOf m.value o × WritesPart w o written
CanonicalFaults r w limit tail e = ExactFaults r limit tail e × WritesNone w
