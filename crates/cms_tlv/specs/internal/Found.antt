-- What is found where its octets are at hand.
use Rattle.std.specs.Prelude.{◌≡◌, ℕ, ◌+◌, ◌<◌, ◌≤◌, take, List, ◌∷◌, [], ◌++◌, length, Option}
use Rattle.std.specs.Prelude.{Some, None}
use Rattle.std.specs.Io.KnownBytes.{Consumes}
use Rattle.cms_tlv.specs.declared.fault.Fault.{Fault}
use Rattle.cms_tlv.specs.declared.fault.Fault.TheVariants as faults
use Rattle.cms_tlv.specs.Headers.{AreOctets, IsIdentifier, IsShortLength}
use Rattle.cms_tlv.specs.Opaque.{IsFramed}
use Rattle.cms_tlv.specs.State.{State, as_list}
use Rattle.cms_tlv.specs.declared.bound.Bound.{Bound}
use Rattle.cms_tlv.specs.declared.bound.Header.{Header}
use Rattle.cms_tlv.specs.Clauses.{FitsLimit}
use Rattle.cms_tlv.specs.Refines.{RefinesWithValue, plain, seen}
use Rattle.cms_tlv.specs.Reading.{expected_of, framed_of, primitive_of}
use Rattle.cms_tlv.specs.Spans.{LiesIn}
use Rattle.cms_tlv.specs.declared.span.Span.{Span}

-- the octet kept ahead, or else the first at hand, and those at hand after it
abbrev pub Heads : Option ℕ → List ℕ → ℕ → List ℕ → Type 0
Heads None held first behind = held ≡ first ∷ behind
Heads (Some octet) held first behind = (first ≡ octet) × (behind ≡ held)

-- those at hand among it and n octets after it
abbrev pub found_at_hand : Option ℕ → ℕ → List ℕ → List ℕ
found_at_hand None n held = take (n + 1) held
found_at_hand (Some octet) n held = take n held

-- the octets are a header, whose identifier is one octet and whose length is the shortest, and room
-- is left for the contents
pub record IsFoundHeader (room : ℕ) (octets : List ℕ) (ident len : ℕ) : Type 0 where
  pub sizes : List ℕ
  pub parts : octets ≡ ident ∷ sizes
  pub is_identifier : IsIdentifier ident (ident ∷ [])
  pub is_length : IsShortLength sizes len
  pub fits : length octets + len ≤ room

-- the octets are a primitive element with the identifier octet id and the shortest length, whose
-- contents are len octets
pub record IsPrimitive (room id : ℕ) (octets : List ℕ) (len : ℕ) : Type 0 where
  pub sizes : List ℕ
  pub contents : List ℕ
  pub parts : octets ≡ id ∷ (sizes ++ contents)
  pub is_identifier : IsIdentifier id (id ∷ [])
  pub is_length : IsShortLength sizes (length contents)
  pub are_octets : AreOctets contents
  pub counted : len ≡ length contents
  pub fits : length octets ≤ room

-- the octets are an opaque value
pub record IsWhole (room : ℕ) (octets : List ℕ) : Type 0 where
  pub framed : IsFramed octets 1
  pub some : 0 < length octets
  pub fits : length octets ≤ room

-- Octets that P is true of were consumed, one that was kept ahead the first of them, and there is
-- no fault.
pub record TakesFound (P : List ℕ → Type 0) (old new : State) : Type 0 where
  pub octets : List ℕ
  pub found : P octets
  pub more : List ℕ
  pub order : octets ≡ as_list old.ahead ++ more
  pub done : new.done ≡ old.done ++ octets
  pub clear : new.ahead ≡ None
  pub left : Consumes old.left new.left more
  pub limit : new.limit ≡ old.limit
  pub failures : new.failures ≡ old.failures
  pub sound : new.fault ≡ None

-- nothing was taken, and memory ran out
abbrev pub WantsMemory : State → State → Fault → Type 0
WantsMemory old new fault =
    (fault ≡ faults.OutOfMemory) × (new ≡ record old { fault = Some faults.OutOfMemory })

-- the header was read at once
pub record HasHeaderOf (bd : Bound) (old new : State) (h : Header) : Type 0 where
  pub gave : RefinesWithValue plain (expected_of bd) old new h
  pub clear : new.ahead ≡ None
  pub moved : length old.done < length new.done
  pub room : FitsLimit new h

-- the primitive element was read at once
pub record HasPrimitiveOf (id : ℕ) (bd : Bound) (old new : State) (span : Span) : Type 0 where
  pub gave : RefinesWithValue seen (primitive_of id bd) old new span
  pub clear : new.ahead ≡ None
  pub moved : length old.done < length new.done
  pub lies : LiesIn span new

-- the opaque value was read at once
pub record HasElementOf (bd : Bound) (old new : State) : Type 0 where
  pub gave : RefinesWithValue plain (framed_of 64 bd) old new tt
  pub clear : new.ahead ≡ None
  pub moved : length old.done < length new.done
