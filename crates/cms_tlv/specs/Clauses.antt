-- What a reading call promises, in the words of the spellings.
use Rattle.std.specs.Prelude.{◌≡◌, ◌≢◌, ℕ, ◌+◌, ◌<◌, ◌≤◌, ◌++◌, List, [], ◌∷◌, length, Bool, true}
use Rattle.std.specs.Prelude.{false, ◌↔◌, ◌⊎◌, Option, Some, None, IfSome}
use Rattle.std.specs.Io.KnownBytes.{Consumes, IsAtEnd}
use Rattle.cms_tlv.specs.declared.fault.Fault.{Fault}
use Rattle.cms_tlv.specs.declared.fault.Fault.TheVariants as faults
use Rattle.cms_tlv.specs.declared.fault.Reason.TheVariants.{Truncated}
use Rattle.cms_tlv.specs.declared.bound.Bound.{Bound}
use Rattle.cms_tlv.specs.State.{State, as_list, taken, position}
use Rattle.cms_tlv.specs.Streams.{Rose}
use Rattle.cms_tlv.specs.declared.bound.Header.{Header}
use Rattle.cms_tlv.specs.Headers.{AreOctets, IsConstructed, IsIdentifier, IsLength, IsShortLength}
use Rattle.cms_tlv.specs.Frames.{Frame, IsDerFrame}
use Rattle.cms_tlv.specs.Spelling.{Spelling}

--- `Room end limit at n`: from the place `at` on, `n` octets more pass neither `end` nor `limit`
abbrev pub Room : Option ℕ → ℕ → ℕ → ℕ → Type 0
Room end limit at n = IfSome end (λ e. at + n ≤ e) × (at + n ≤ limit)

--- `HopelessIn R bd old p`: no list that begins with `p` begins with a spelling by `R` for which
---   there is room
abbrev pub HopelessIn : {V : Type 0} → Spelling V → Bound → State → List ℕ → Type 0
HopelessIn {V} R bd old p =
    (x b y : List ℕ) (v : V) → Room bd.end old.limit (length old.done) (length b) → p ++ x ≡ b ++ y
    → R b v → ⊥

--- `EndsBefore end at`: the place `at` is not past `end`
abbrev pub EndsBefore : Option ℕ → ℕ → Type 0
EndsBefore end at = IfSome end (λ e. at ≤ e)

--- `IsWithin bd s`: no octet past the innermost definite end was consumed
abbrev pub IsWithin : Bound → State → Type 0
IsWithin bd s = EndsBefore bd.end (length s.done)

--- `IsCut p`: `p` is a proper prefix of a frame
abbrev pub IsCut : List ℕ → Type 0
IsCut p = (x : List ℕ) × (x ≢ []) × Frame (p ++ x)

--- `OctetsTaken old new octets`: `octets` are the octets that the call took, counting one that was
---   peeked
---   before; they follow those consumed before it
pub record OctetsTaken (old new : State) (octets : List ℕ) : Type 0 where
  pub more : List ℕ
  pub order : octets ≡ as_list old.ahead ++ more
  pub left : Consumes old.left new.left more
  pub limit : new.limit ≡ old.limit
  pub whole : taken new ≡ old.done ++ octets

--- `Found R old new v`: the octets that the call took were consumed, and spell `v` by `R`
pub record Found {V : Type 0} (R : Spelling V) (old new : State) (v : V) : Type 0 where
  pub octets : List ℕ
  pub taken : OctetsTaken old new octets
  pub kept : new.done ≡ old.done ++ octets
  pub spells : R octets v

--- `Consumed R old new v`: the octets that the call consumed spell `v` by `R`
pub record Consumed {V : Type 0} (R : Spelling V) (old new : State) (v : V) : Type 0 where
  pub octets : List ℕ
  pub kept : new.done ≡ old.done ++ octets
  pub spells : R octets v

--- `Refuses R bd old new`: the octets that the call took are hopeless
pub record Refuses {V : Type 0} (R : Spelling V) (bd : Bound) (old new : State) : Type 0 where
  pub octets : List ℕ
  pub taken : OctetsTaken old new octets
  pub hopeless : HopelessIn R bd old octets

--- `Ends bd old new`: the reader has ended, there is room for one octet more, and the octets that
---   the call took are a proper prefix of a frame
pub record Ends (bd : Bound) (old new : State) : Type 0 where
  pub octets : List ℕ
  pub taken : OctetsTaken old new octets
  pub at_end : IsAtEnd new.left
  pub room : Room bd.end old.limit (length old.done) (length octets + 1)
  pub cut : IsCut octets

--- `Faults R bd old new f`: a refusal gives the number of octets taken; at E1 `Ends` holds, and at
---   each other refusal `Refuses`
--- | `Read` comes only if the count of failures rose, and `Write` never
abbrev pub Faults : {V : Type 0} → Spelling V → Bound → State → State → Fault → Type 0
Faults R bd old new (faults.Refused reason at) =
    (at ≡ position new) × (reason ≢ Truncated → Refuses R bd old new)
    × (reason ≡ Truncated → Ends bd old new)
Faults R bd old new faults.Read = Rose old.failures new.failures
Faults R bd old new (faults.Write written) = ⊥
Faults R bd old new faults.OutOfMemory = Unit {0}

-- The fields of single calls.

--- `frame_by strict`: the frames; if `strict`, those of DER [X.690, 8.1.1, 10.1]
abbrev pub frame_by : Bool → Spelling (Unit {0})
frame_by false b u = Frame b
frame_by true b u = IsDerFrame b

--- `LengthSays bd limit at l h n`: there is room for `n` octets; `h.shortest` is true exactly if
---   `l` is the shortest length octets of `n` [X.690, 8.1.3, 10.1]
--- | or there is no `n`: `l` is 80, the identifier is constructed, and the bound is not strict
---   [X.690, 8.1.3.6]
abbrev pub LengthSays : Bound → ℕ → ℕ → List ℕ → Header → Option ℕ → Type 0
LengthSays bd limit at l h None =
    (l ≡ 0x80 ∷ []) × IsConstructed h.ident × (bd.strict ≡ false)
    × (h.inner ≡ record { end = bd.end; indefinite = true; strict = bd.strict })
    × (h.shortest ≡ false)
LengthSays bd limit at l h (Some n) =
    IsLength l n × Room bd.end limit at n × (bd.strict ≡ true → h.shortest ≡ true)
    × (h.inner ≡ record { end = Some (at + n); indefinite = false; strict = bd.strict })
    × ((h.shortest ≡ true) ↔ IsShortLength l n)

--- `FitsLimit s h`: the contents of the header `h`, if it gives a length, do not pass the limit of
---   the state `s`
abbrev pub FitsLimit : State → Header → Type 0
FitsLimit s h = IfSome h.len (λ n. position s + n ≤ s.limit)

--- `SpellsHeader bd limit at b h`: `b` is identifier octets, and length octets or 80; the fields of
---   `h` say so [X.690, 8.1.2, 8.1.3]
pub record SpellsHeader (bd : Bound) (limit at : ℕ) (b : List ℕ) (h : Header) : Type 0 where
  pub identifier : List ℕ
  pub sizes : List ℕ
  pub parts : b ≡ identifier ++ sizes
  pub is_identifier : IsIdentifier h.ident identifier
  pub says : LengthSays bd limit at sizes h h.len

--- `Enters bd id limit at b inner`: `b` is the header of an element with the identifier octet `id`,
---   whose contents end at `inner` [X.690, 8.1]
pub record Enters (bd : Bound) (id limit at : ℕ) (b : List ℕ) (inner : Bound) : Type 0 where
  pub header : Header
  pub spells : SpellsHeader bd limit at b header
  pub ident : header.ident ≡ id
  pub ends : header.inner ≡ inner

--- `frame_of id strict`: those of them that begin with the octet `id`
abbrev pub frame_of : ℕ → Bool → Spelling (Unit {0})
frame_of id strict b u = frame_by strict b u × ((r : List ℕ) × (b ≡ id ∷ r))

--- `length_by strict l n`: `l` is length octets of `n`; if `strict`, the shortest
---   [X.690, 8.1.3, 10.1]
abbrev pub length_by : Bool → List ℕ → ℕ → Type 0
length_by false l n = IsLength l n
length_by true l n = IsShortLength l n

--- `Contains id strict b c`: `b` is an element with the identifier octet `id`, length octets
---   (`length_by strict`), and the contents `c` [X.690, 8.1.1]
pub record Contains (id : ℕ) (strict : Bool) (b c : List ℕ) : Type 0 where
  pub identifier : List ℕ
  pub sizes : List ℕ
  pub parts : b ≡ identifier ++ (sizes ++ c)
  pub is_identifier : IsIdentifier id identifier
  pub is_length : length_by strict sizes (length c)
  pub octets : AreOctets c

-- the end of an element, from the place at: nothing at its definite end, else `00 00` (X.690,
-- 8.1.5)
abbrev pub end_from : Bool → Option ℕ → ℕ → List ℕ → Type 0
end_from true end at b = b ≡ 0 ∷ 0 ∷ []
end_from false end at b = (b ≡ []) × (end ≡ Some at)

--- `end_of bd at`: the end of contents: no octets if their definite end is at `at`, else `00 00`
---   [X.690, 8.1.5]
abbrev pub end_of : Bound → ℕ → Spelling (Unit {0})
end_of bd at b u = end_from bd.indefinite bd.end at b

--- `counted n`: `n` octets spell themselves
abbrev pub counted : ℕ → Spelling (List ℕ)
counted n b v = (b ≡ v) × AreOctets b × (length b ≡ n)

--- `EndsEarly n old new f`: a refusal is E1, after fewer than `n` octets, and the reader has ended
abbrev pub EndsEarly : ℕ → State → State → Fault → Type 0
EndsEarly n old new (faults.Refused reason at) =
    (reason ≡ Truncated) × (at ≡ position new) × (length new.done < length old.done + n)
    × IsAtEnd new.left
EndsEarly n old new faults.Read = Rose old.failures new.failures
EndsEarly n old new (faults.Write written) = ⊥
EndsEarly n old new faults.OutOfMemory = Unit {0}

--- `Peeks bd old new o`: `o` is the next octet, which is kept ahead and not consumed; or there is
---   none, at the element's own definite end,
--- | or at an octet 00 in indefinite contents
abbrev pub Peeks : Bound → State → State → Option ℕ → Type 0
Peeks bd old new None =
    ((bd.indefinite ≡ false) × (bd.end ≡ Some (length old.done)) × (new ≡ old))
    ⊎ ((bd.indefinite ≡ true) × (new.ahead ≡ Some 0) × (new.done ≡ old.done))
Peeks bd old new (Some b) =
    (new.ahead ≡ Some b) × (new.done ≡ old.done) × (bd.indefinite ≡ true → b ≢ 0)
    × (bd.indefinite ≡ false → bd.end ≢ Some (length old.done))
