-- What converting messages that come one after another promises.
use Rattle.std.specs.Prelude.{◌≡◌, ◌<◌, ◌≤◌, ◌+◌, ◌-◌, ◌^◌, ◌∷◌, ◌++◌, ℕ, List, length, take, drop}
use Rattle.std.specs.Prelude.{Option, ◌⊎◌}
use Rattle.std.specs.List.{All, AllZip, flat_map}
use Rattle.std.specs.Io.KnownBytes.{Consumes}
use Rattle.cms_tlv.specs.declared.fault.Fault.{Fault}
use Rattle.cms_tlv.specs.declared.fault.Fault.TheVariants as faults
use Rattle.cms_tlv.specs.declared.fault.Reason.TheVariants as reasons
use Rattle.cms_canon.specs.declared.many.Many.{Many}
use Rattle.cms_canon.specs.declared.many.ManyFault.{ManyFault}
use Rattle.cms_canon.specs.declared.message.Tail.TheVariants as tails
use Rattle.cms_canon.specs.Denotes.{Denotes, IsAcceptedAs}
use Rattle.cms_canon.specs.Exact.{ExactFaults}
use Rattle.cms_canon.specs.Given.{second_part}
use Rattle.cms_canon.specs.Kinds.{MessageValue, whole_message, same_message}
use Rattle.cms_canon.specs.Received.{KeepsReceived}
use Rattle.cms_canon.specs.Streams.{Reading, Writing, Takes, HasEnded, DidNotFail, WritesAll}
use Rattle.cms_canon.specs.Streams.{WritesPart}

--- `Conversion`: two octet lists: `message`, those of a message, and `der`, those that are written
---   for it
pub record Conversion : Type 0 where
  pub message : List ℕ
  pub der : List ℕ

--- `IsFaithful limit c`: `c.der` is what is written for `c.message` (`IsAcceptedAs`), and
---   `KeepsReceived` holds of both
pub record IsFaithful (limit : ℕ) (c : Conversion) : Type 0 where
  pub is_written : IsAcceptedAs whole_message same_message limit c.message c.der
  pub received : KeepsReceived c.message c.der

--- `messages_of cs`, `ders_of cs`: the messages, and what is written for them, one after another
abbrev pub messages_of : List Conversion → List ℕ
messages_of = flat_map (λ c. c.message)

abbrev pub ders_of : List Conversion → List ℕ
ders_of = flat_map (λ c. c.der)

--- `AreSame limit cs ds`: there are as many messages in `ds` as in `cs`, and each denotes the same
---   as the one in its place
abbrev pub AreSame : ℕ → List Conversion → List Conversion → Type 0
AreSame limit = AllZip
    (λ c d. (v : MessageValue) × Denotes whole_message same_message limit c.message v
    × Denotes whole_message same_message limit d.message v)

--- `AreBeforeEnd cs`: neither the messages nor what is written for them have more than 2^62 octets
---   (`IsBeforeEnd` of the counts)
abbrev pub AreBeforeEnd : List Conversion → Type 0
AreBeforeEnd cs = (length (messages_of cs) ≤ 2 ^ 62) × (length (ders_of cs) ≤ 2 ^ 62)

--- `AreConverted r w limit m`: all of the input is messages within the limit, which is not 0; what
---   is written for them was written in turn, and `m` counts all;
--- | the reader did not fail, and they are `AreBeforeEnd`
pub record AreConverted (r : Reading) (w : Writing) (limit : ℕ) (m : Many) : Type 0 where
  pub some_limit : 0 < limit
  pub conversions : List Conversion
  pub are : All (IsFaithful limit) conversions
  pub taken : Takes r (messages_of conversions)
  pub ended : HasEnded r
  pub unfailed : DidNotFail r
  pub written_all : WritesAll w (ders_of conversions)
  pub messages : m.messages ≡ length conversions
  pub read : m.read ≡ length (messages_of conversions)
  pub written : m.written ≡ length (ders_of conversions)
  pub few : AreBeforeEnd conversions

--- `ArePastEnd cs`: the messages, or what is written for them, have more than 2^62 octets
abbrev pub ArePastEnd : List Conversion → Type 0
ArePastEnd cs = (2 ^ 62 < length (messages_of cs)) ⊎ (2 ^ 62 < length (ders_of cs))

--- `IsBegun f`: `f` is not E1 at 0: an input that ends before a message has no further message
abbrev pub IsBegun : Fault → Type 0
IsBegun (faults.Refused reasons.Truncated at) = 0 < at
IsBegun e = Unit {0}

--- `IsAfter r limit cs f`: the messages `cs` were taken without a failure, and after them, as they
---   are `AreBeforeEnd`,
--- | `f` is what `ExactFaults` and `IsBegun` say of the next one
pub record IsAfter (r : Reading) (limit : ℕ) (cs : List Conversion) (fault : Fault) : Type 0 where
  pub left : Option (List ℕ)
  pub taken : Consumes r.left_before left (messages_of cs)
  pub faults : ExactFaults (second_part r left r.failures_before) limit tails.Leave fault
  pub begun : IsBegun fault
  pub few : AreBeforeEnd cs

--- `AreOnePiece cs`: what is written for all of `cs` but the last, and each message but the first,
---   has fewer than 65,536 octets
pub record AreOnePiece (cs : List Conversion) : Type 0 where
  pub before_last : length (ders_of (take (length cs - 1) cs)) < 0x1_0000
  pub after_first : All (λ c. length c.message < 0x1_0000) (drop 1 cs)

--- `IsReadAhead limit next more`: `more` was read before the DER of the message `next` was written:
---   messages that are `AreOnePiece` with it, and then at
--- | most `limit` octets of one more
pub record IsReadAhead (limit : ℕ) (next : Conversion) (more : List ℕ) : Type 0 where
  pub others : List Conversion
  pub rest : List ℕ
  pub parts : more ≡ messages_of others ++ rest
  pub are : All (IsFaithful limit) others
  pub one_piece : AreOnePiece (next ∷ others)
  pub short : length rest ≤ limit

--- `StopsAt r w limit cs out f`: at a write fault, `cs` and a next message were read, and what
---   `IsReadAhead` says; `out` octets were written, those of `cs`
--- | and a part of the next one's, and the writer failed
--- | at another fault, just what is written for `cs` was written, and `IsAfter` holds; or no other
---   message was begun, since `ArePastEnd`
abbrev pub StopsAt : Reading → Writing → ℕ → List Conversion → ℕ → Fault → Type 0
StopsAt r w limit cs out (faults.Write written) =
    (next : Conversion) × (more : List ℕ) × IsFaithful limit next × IsReadAhead limit next more
    × Takes r (messages_of cs ++ (next.message ++ more)) × WritesPart w (ders_of cs ++ next.der) out
    × (out ≡ length (ders_of cs) + written)
StopsAt r w limit cs out fault =
    WritesAll w (ders_of cs) × (out ≡ length (ders_of cs))
    × (IsAfter r limit cs fault
    ⊎ ((fault ≡ faults.Read) × Takes r (messages_of cs) × ArePastEnd cs))

--- `ManyFaults r w limit f`: `f.done` messages are done, and `StopsAt` holds after them
pub record ManyFaults (r : Reading) (w : Writing) (limit : ℕ) (f : ManyFault) : Type 0 where
  pub conversions : List Conversion
  pub are : All (IsFaithful limit) conversions
  pub done : f.done ≡ length conversions
  pub stops : StopsAt r w limit conversions f.written f.fault
