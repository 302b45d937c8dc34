-- What a call says of reading, however the octets go on.
use Rattle.std.specs.Prelude.{◌≡◌, ℕ, ◌<◌, ◌≤◌, ◌++◌, ◌⊎◌, List, [], length, Some, None, Result, Ok}
use Rattle.std.specs.Prelude.{Err}
use Rattle.std.specs.Io.KnownBytes.{IsAtEnd}
use Rattle.cms_tlv.specs.declared.fault.Fault.{Fault}
use Rattle.cms_tlv.specs.declared.fault.Fault.TheVariants as faults
use Rattle.cms_tlv.specs.declared.fault.Reason.{Reason}
use Rattle.cms_tlv.specs.declared.fault.Reason.TheVariants.{Truncated, TooLarge, LengthReserved}
use Rattle.cms_tlv.specs.declared.fault.Reason.TheVariants.{LengthTooLong, IndefinitePrimitive}
use Rattle.cms_tlv.specs.declared.fault.Reason.TheVariants.{IntegerMalformed, OidMalformed}
use Rattle.cms_tlv.specs.declared.fault.Reason.TheVariants.{BooleanMalformed, BitsMalformed}
use Rattle.cms_tlv.specs.declared.fault.Reason.TheVariants.{NotSignedData, Trailing}
use Rattle.cms_tlv.specs.State.{State, Advance, as_list, position}
use Rattle.cms_tlv.specs.Streams.{Rose}
use Rattle.cms_tlv.specs.declared.span.Span.{Span}
use Rattle.cms_tlv.specs.Spans.{octets_in}
use Rattle.cms_tlv.specs.Reading.{Cursor, place, stop, Reader, give}

-- where a source is, if these octets come after those taken
abbrev pub cursor : State → List ℕ → Cursor
cursor s ys = place (length s.done) s.limit (as_list s.ahead ++ ys)

-- Octets were taken, and however they go on, what f reads is what next reads from there.
pub record Simulates {V : Type 0} (f : Reader V) (old : State) (next : Reader V)
    (new : State) : Type 0 where
  pub more : List ℕ
  pub took : Advance old new more
  pub refines : (ys : List ℕ) → f (cursor old (more ++ ys)) ≡ next (cursor new ys)

-- the octets kept in a are kept in b
pub record Kept (a b : State) : Type 0 where
  pub octets : List ℕ
  pub done : b.done ≡ a.done ++ octets

-- The value was read, and it is the same by what is kept later.
pub record RefinesWithValue {V W : Type 0} (view : State → V → W) (f : Reader W) (old new : State)
    (v : V) : Type 0 where
  pub reaches : Simulates f old (give (view new v)) new
  pub sound : new.fault ≡ None
  pub lasts : (later : State) → Kept new later → view later v ≡ view new v

--- `NeedsNoOctets limit at reason`: with this reason at the place `at` no octets before it have to
---   say why: with E2 the limit is reached;
--- | with E3 to E5, E8 to E11 and E17 they always have to, and no reader of a message stops with
---   E18
abbrev pub NeedsNoOctets : ℕ → ℕ → Reason → Type 0
NeedsNoOctets limit at TooLarge = limit ≤ at
NeedsNoOctets limit at LengthReserved = ⊥
NeedsNoOctets limit at LengthTooLong = ⊥
NeedsNoOctets limit at IndefinitePrimitive = ⊥
NeedsNoOctets limit at IntegerMalformed = ⊥
NeedsNoOctets limit at OidMalformed = ⊥
NeedsNoOctets limit at BooleanMalformed = ⊥
NeedsNoOctets limit at BitsMalformed = ⊥
NeedsNoOctets limit at NotSignedData = ⊥
NeedsNoOctets limit at Trailing = ⊥
NeedsNoOctets limit at reason = Unit {0}

--- `Settled reason s`: if octets have to say why, they are the last ones taken: none is kept ahead
abbrev pub Settled : Reason → State → Type 0
Settled reason s = NeedsNoOctets s.limit (length s.done) reason ⊎ (s.ahead ≡ None)

-- What a fault says of what was left to read.
abbrev pub Explains : {V : Type 0} → Reader V → State → State → Fault → Type 0
Explains next old new (faults.Refused reason at) =
    (at ≡ position new) × (reason ≡ Truncated → IsAtEnd new.left × (position new < new.limit))
    × ((ys : List ℕ) → (reason ≡ Truncated → ys ≡ [])
    → next (cursor new ys) ≡ Err (stop reason (length new.done))) × Settled reason new
Explains next old new faults.Read = Rose old.failures new.failures
Explains next old new (faults.Write written) = ⊥
Explains next old new faults.OutOfMemory = Unit {0}

pub record Failed {V : Type 0} (f : Reader V) (old new : State) (e : Fault) : Type 0 where
  pub next : Reader V
  pub reaches : Simulates f old next new
  pub sticky : new.fault ≡ Some e
  pub explained : Explains next old new e

--- `Refines view f old new r`: the call returned `r`, which is what `f` gives, whatever octets
---   follow
---   those taken; `view` shows the same value later
abbrev pub Refines : {V W : Type 0} → (State → V → W) → Reader W → State → State → Result V Fault
    → Type 0
Refines view f old new (Ok v) = RefinesWithValue view f old new v
Refines view f old new (Err e) = Failed f old new e

--- `plain`, `seen`: a value that shows itself; the octets that a span shows
abbrev pub plain : {V : Type 0} → State → V → V
plain s v = v

-- the octets that a span shows
abbrev pub seen : State → Span → List ℕ
seen s span = octets_in s.done span.start span.end
