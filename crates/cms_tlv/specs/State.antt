-- What a source is, apart from how it is kept, and what a call does to it.
use Rattle.std.specs.Prelude.{◌≡◌, ◌≢◌, ℕ, ◌+◌, ◌<◌, ◌≤◌, ◌++◌, ◌∷◌, [], List, length, Option, Some}
use Rattle.std.specs.Prelude.{None, Bool, true, false, Result, Ok, Err, IfSome, ◌⊎◌}
use Rattle.std.specs.Io.KnownBytes.{Consumes, IsAtEnd}
use Rattle.cms_tlv.specs.declared.fault.Fault.{Fault}
use Rattle.cms_tlv.specs.declared.fault.Fault.TheVariants as faults
use Rattle.cms_tlv.specs.declared.fault.Reason.TheVariants as reasons
use Rattle.cms_tlv.specs.Headers.{AreOctets}
use Rattle.cms_tlv.specs.Streams.{Rose}

--- `State`: what a source is, by its fields:
pub record State : Type 0 where
  --- `done`, `ahead`: the octets consumed; the identifier octet that was peeked, if any
  pub done : List ℕ
  pub ahead : Option ℕ
  --- `left`, `failures`: what the reader has left; how often it failed
  pub left : Option (List ℕ)
  pub failures : ℕ
  --- `limit`, `fault`: the limit; the fault that the source is at, if any
  pub limit : ℕ
  pub fault : Option Fault

abbrev pub as_list : Option ℕ → List ℕ
as_list None = []
as_list (Some b) = b ∷ []

--- `taken`, `position`: the octets taken, counting a peeked one; their number
abbrev pub taken : State → List ℕ
taken s = s.done ++ as_list s.ahead

-- how many they are
abbrev pub position : State → ℕ
position s = length s.done + length (as_list s.ahead)

--- `Advance old new more`: the reader gave the octets `more`, and each octet taken is consumed or
---   kept ahead
--- | if there is no fault after it, there was none before
--- | unless the fault after it is `Read`, that before was not, and the reader did not fail
pub record Advance (old new : State) (more : List ℕ) : Type 0 where
  pub read : List ℕ
  pub done : new.done ≡ old.done ++ read
  pub order : as_list old.ahead ++ more ≡ read ++ as_list new.ahead
  pub left : Consumes old.left new.left more
  pub limit : new.limit ≡ old.limit
  pub failures : old.failures ≤ new.failures
  pub sound : new.fault ≡ None → old.fault ≡ None
  pub unfailed : new.fault ≢ Some faults.Read → (old.fault ≢ Some faults.Read)
      × (new.failures ≡ old.failures)

--- `Looked old new`: nothing was consumed, and the octets taken are those that are kept ahead;
---   unless the fault is `Read`, the reader did not fail
pub record Looked (old new : State) : Type 0 where
  pub done : new.done ≡ old.done
  pub more : List ℕ
  pub order : as_list old.ahead ++ more ≡ as_list new.ahead
  pub left : Consumes old.left new.left more
  pub limit : new.limit ≡ old.limit
  pub failures : old.failures ≤ new.failures
  pub unfailed : new.fault ≢ Some faults.Read → new.failures ≡ old.failures

-- an octet before the end was wanted, and this fault is returned
abbrev pub NoOctet : Option ℕ → State → State → Fault → Type 0
NoOctet end old new (faults.Refused reasons.Overrun at) =
    (at ≡ position old) × (IfSome end (λ e. e ≤ length old.done)) × (end ≢ None)
NoOctet end old new (faults.Refused reasons.TooLarge at) =
    (at ≡ position old) × (old.limit ≤ length old.done) × IfSome end (λ e. length old.done < e)
NoOctet end old new (faults.Refused reasons.Truncated at) =
    (at ≡ position old) × IsAtEnd new.left × (position old < old.limit)
    × IfSome end (λ e. length old.done < e) × (old.ahead ≡ None)
NoOctet end old new (faults.Refused reason at) = ⊥
NoOctet end old new faults.Read = Rose old.failures new.failures
NoOctet end old new (faults.Write written) = ⊥
NoOctet end old new faults.OutOfMemory = new.failures ≡ old.failures

--- `is_truncated f`: the fault `f` is E1
abbrev pub is_truncated : Fault → Bool
is_truncated (faults.Refused reasons.Truncated at) = true
is_truncated e = false

--- `EndUnknown old new f`: why it is not known whether the input has ended: E2 at 0, for the limit
---   0; or the reader failed, or memory ran out
abbrev pub EndUnknown : State → State → Fault → Type 0
EndUnknown old new (faults.Refused reasons.TooLarge at) = (at ≡ 0) × (old.limit ≡ 0)
EndUnknown old new (faults.Refused reason at) = ⊥
EndUnknown old new faults.Read = Rose old.failures new.failures
EndUnknown old new (faults.Write written) = ⊥
EndUnknown old new faults.OutOfMemory = new.failures ≡ old.failures

-- if octets were consumed, none is kept ahead
abbrev pub KeepsNoneAhead : State → State → Type 0
KeepsNoneAhead old new = length old.done < length new.done → new.ahead ≡ None

--- `KeepsNoMoreAhead old new`: no octet is kept ahead, or the octets consumed and the octet kept
---   ahead
---   are as before
abbrev pub KeepsNoMoreAhead : State → State → Type 0
KeepsNoMoreAhead old new = (new.ahead ≡ None) ⊎ ((new.ahead ≡ old.ahead) × (new.done ≡ old.done))

-- these octets were taken and consumed, and there is no fault
pub record Adds (old new : State) (octets : List ℕ) : Type 0 where
  pub done : new.done ≡ old.done ++ octets
  pub left : Consumes old.left new.left octets
  pub limit : new.limit ≡ old.limit
  pub failures : new.failures ≡ old.failures
  pub sound : new.fault ≡ None

-- n octets of the due ones were taken and consumed
pub record TakesDue (old new : State) (due n : ℕ) : Type 0 where
  pub octets : List ℕ
  pub are : AreOctets octets
  pub count : length octets ≡ n
  pub most : n ≤ due
  pub adds : Adds old new octets

-- n octets that P is true of, or none, were taken and consumed
pub record TakesAccepted (P : List ℕ → Type 0) (old new : State) (n : ℕ) : Type 0 where
  pub octets : List ℕ
  pub count : length octets ≡ n
  pub accepted : (n ≡ 0) ⊎ P octets
  pub adds : Adds old new octets

-- nothing was taken, and memory was wanted
pub record LacksMemory (old new : State) (fault : Fault) : Type 0 where
  pub is : fault ≡ faults.OutOfMemory
  pub sticky : new.fault ≡ Some fault
  pub done : new.done ≡ old.done
  pub left : Consumes old.left new.left []
  pub limit : new.limit ≡ old.limit
  pub failures : new.failures ≡ old.failures

--- `Accounts old new`: some octets were taken so
pub record Accounts (old new : State) : Type 0 where
  pub more : List ℕ
  pub took : Advance old new more

-- a refusal says how many octets were taken, and the reader is at fault only if it failed
abbrev pub FaultIsExact : State → State → Fault → Type 0
FaultIsExact old new (faults.Refused reason at) = at ≡ position new
FaultIsExact old new faults.Read = Rose old.failures new.failures
FaultIsExact old new (faults.Write written) = ⊥
FaultIsExact old new faults.OutOfMemory = Unit {0}

--- `Succeeds old new`: octets were taken so, and there is no fault: the reader did not fail
pub record Succeeds (old new : State) : Type 0 where
  pub accounts : Accounts old new
  pub sound : new.fault ≡ None

--- `Progresses old new`: `Succeeds`, and at least one octet was consumed
pub record Progresses (old new : State) : Type 0 where
  pub goes : Succeeds old new
  pub some : length old.done < length new.done

--- `FailsWith old new f`: octets were taken so, and the source is at the fault `f` from now on
--- | a refusal gives the position, and `Read` comes only if the count of failures rose
pub record FailsWith (old new : State) (fault : Fault) : Type 0 where
  pub accounts : Accounts old new
  pub sticky : new.fault ≡ Some fault
  pub tells : FaultIsExact old new fault

--- `Answers old new r`: `Succeeds` if the call returned Ok, `FailsWith` if it returned an error
abbrev pub Answers : {V : Type 0} → State → State → Result V Fault → Type 0
Answers old new (Ok v) = Succeeds old new
Answers old new (Err fault) = FailsWith old new fault

--- `FaultIsSticky old new r`: if the source was at a fault, the call returned it and changed
---   nothing
abbrev pub FaultIsSticky : {V : Type 0} → State → State → Result V Fault → Type 0
FaultIsSticky old new result = IfSome old.fault (λ f. (result ≡ Err f) × (new ≡ old))
