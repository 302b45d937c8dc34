-- What ties a reader to a spelling, and what a field is.
use Rattle.std.specs.Prelude.{◌≡◌, ◌≢◌, ℕ, ◌+◌, ◌%◌, Bool, true, false, List, [], ◌∷◌, ◌++◌, length}
use Rattle.std.specs.Prelude.{Option, Some, Ok, Err}
use Rattle.cms_tlv.specs.declared.fault.Reason.TheVariants.{Truncated}
use Rattle.cms_tlv.specs.declared.bound.Bound.{Bound}
use Rattle.cms_tlv.specs.Headers.{IsOctet}
use Rattle.cms_tlv.specs.Frames.{Frame, Frames, IsEnd}
use Rattle.cms_tlv.specs.Spelling.{Rules, ber, minimal, der, Spelling}
use Rattle.cms_tlv.specs.Reading.{Cursor, stop, Reader}
use Rattle.cms_tlv.specs.Clauses.{Room}

--- `Moves c b d`: the octets from the cursor `c` to the cursor `d` are `b`
pub record Moves (c : Cursor) (b : List ℕ) (d : Cursor) : Type 0 where
  pub rest : c.rest ≡ b ++ d.rest
  pub at : d.at ≡ c.at + length b
  pub limit : d.limit ≡ c.limit

--- `rules_of strict`: the rules that a bound has: `minimal` inside signed attributes (RFC 5652,
---   5.4), else BER
abbrev pub rules_of : Bool → Rules
rules_of false = ber
rules_of true = minimal

abbrev pub IsStrict : Rules → Bool → Type 0
IsStrict ber strict = strict ≡ false
IsStrict minimal strict = strict ≡ true
IsStrict der strict = strict ≡ true

--- `Follows m bd`: what the bound `bd` has read may be read by the rules `m`: BER if it is not
---   strict, and else `minimal` or DER (`IsStrict`)
abbrev pub Follows : Rules → Bound → Type 0
Follows m bd = IsStrict m bd.strict

--- `CutField p`: `p` is a proper prefix of a field
pub record CutField (p : List ℕ) : Type 0 where
  pub rest : List ℕ
  pub proper : rest ≢ []
  pub frame : Frame (p ++ rest)
  pub field : IsEnd (p ++ rest) → ⊥

--- `Reads m R f`: if there is room, `f` reads a value if and only if `R` spells it; it finds that
---   the input has ended only at a `CutField`
pub record Reads {V : Type 0} (m : Rules) (R : Spelling V) (f : Bound → Reader V) : Type 0 where
  pub sound : (bd : Bound) (c d : Cursor) (v : V) → Follows m bd → f bd c ≡ Ok (v, d) → (b : List ℕ)
      × Moves c b d × R b v
  pub complete : (bd : Bound) (c d : Cursor) (b : List ℕ) (v : V) → Follows m bd → Moves c b d
      → R b v → Room bd.end c.limit c.at (length b) → f bd c ≡ Ok (v, d)
  pub cut : (bd : Bound) (c : Cursor) (at : ℕ) → Follows m bd → f bd c ≡ Err (stop Truncated at)
      → CutField c.rest × Room bd.end c.limit c.at (length c.rest + 1)

--- `IsField P R`: each spelling by `R` is a frame, spells one value, and begins with an octet with
---   `P` that is not 00
pub record IsField {V : Type 0} (P : ℕ → Type 0) (R : Spelling V) : Type 0 where
  pub frame : (b : List ℕ) (v : V) → R b v → Frame b
  pub starts : (b : List ℕ) (v : V) → R b v → (t : ℕ) × (r : List ℕ) × (b ≡ t ∷ r) × (t ≢ 0) × P t
  pub same : (b : List ℕ) (v w : V) → R b v → R b w → v ≡ w

--- `IsFieldOctet id`: `id` may be the identifier octet of a field: it is not 00, and its low five
---   bits are not all 1
pub record IsFieldOctet (id : ℕ) : Type 0 where
  pub octet : IsOctet id
  pub one : id % 32 ≢ 31
  pub not_0 : id ≢ 0

--- `IsContents R`: each spelling by `R` is frames one after another, and spells one value
pub record IsContents {V : Type 0} (R : Spelling V) : Type 0 where
  pub frames : (b : List ℕ) (v : V) → R b v → Frames b
  pub same : (b : List ℕ) (v w : V) → R b v → R b w → v ≡ w

--- `Avoids P R`: no spelling by `R` begins with an octet with `P`
pub record Avoids {V : Type 0} (P : ℕ → Type 0) (R : Spelling V) : Type 0 where
  pub avoids : (b : List ℕ) (v : V) (t : ℕ) (r : List ℕ) → R b v → b ≡ t ∷ r → P t → ⊥

--- `CutContents p`: `p` is a proper prefix of indefinite contents with their end
pub record CutContents (p : List ℕ) : Type 0 where
  pub rest : List ℕ
  pub proper : rest ≢ []
  pub contents : List ℕ
  pub frames : Frames contents
  pub whole : p ++ rest ≡ contents ++ (0 ∷ 0 ∷ [])

-- o is the contents b and their end: `00 00`, or nothing at the definite end
abbrev pub EndedBy : Bool → Option ℕ → ℕ → List ℕ → List ℕ → Type 0
EndedBy true end at b o = o ≡ b ++ (0 ∷ 0 ∷ [])
EndedBy false end at b o = (o ≡ b) × (end ≡ Some (at + length b))

--- `Ended bd at b o`: `o` is the contents `b` with their end: `00 00`, or nothing at the definite
---   end
abbrev pub Ended : Bound → ℕ → List ℕ → List ℕ → Type 0
Ended bd at b o = EndedBy bd.indefinite bd.end at b o

--- `ReadsTo m S k g`: if there is room, `g` reads contents with their end if and only if `S` spells
---   them, and gives `k` of the value
--- | it finds that the input has ended only if there is room for one octet more; in indefinite
---   contents, only at a `CutContents`
pub record ReadsTo {W A : Type 0} (m : Rules) (S : Spelling W) (k : W → A)
    (g : Bound → Reader A) : Type 0 where
  pub sound : (bd : Bound) (c d : Cursor) (a : A) → Follows m bd → g bd c ≡ Ok (a, d) → (w : W)
      × (b o : List ℕ) × Ended bd c.at b o × Moves c o d × S b w × (k w ≡ a)
  pub complete : (bd : Bound) (c d : Cursor) (b o : List ℕ) (w : W) → Follows m bd → Moves c o d
      → S b w → Ended bd c.at b o → Room bd.end c.limit c.at (length o) → g bd c ≡ Ok (k w, d)
  pub cut : (bd : Bound) (c : Cursor) (at : ℕ) → Follows m bd → g bd c ≡ Err (stop Truncated at)
      → (bd.indefinite ≡ true → CutContents c.rest) × Room bd.end c.limit c.at (length c.rest + 1)
