-- Primitive segments that are at hand, and whether another segment follows them.
use Rattle.std.specs.Prelude.{◌≡◌, ℕ, Bool, false, List, Option, None, ◌⊎◌}
use Rattle.std.specs.Option.{is_some}
use Rattle.cms_tlv.specs.declared.bound.Bound.{Bound}
use Rattle.cms_tlv.specs.declared.fault.Fault.{Fault}
use Rattle.cms_tlv.specs.declared.span.Span.{Span}
use Rattle.cms_tlv.specs.Refines.{RefinesWithValue, Failed, plain}
use Rattle.cms_tlv.specs.Primitives.{TakesPrimitives}
use Rattle.cms_tlv.specs.Reading.{peek_of}
use Rattle.cms_tlv.specs.State.{State, Succeeds, LacksMemory}

-- Segments were taken, and the identifier octet of another one is next or is not.
pub record SeesSegment (bd : Bound) (before after : List Span) (old new : State)
    (more : Bool) : Type 0 where
  pub mid : State
  pub takes : TakesPrimitives 0x04 bd before after old mid
  pub clear : mid.ahead ≡ None
  pub next : Option ℕ
  pub told : more ≡ is_some next
  pub peeked : RefinesWithValue plain (peek_of bd) mid new next
  pub goes : Succeeds mid new
  pub at_end : next ≡ None → bd.indefinite ≡ false → new ≡ mid

-- Memory ran out, or segments were taken, and what follows them is refused or could not be read.
abbrev pub SeesNoSegment : Bound → State → State → Fault → Type 0
SeesNoSegment bd old new fault =
    (LacksMemory old new fault × (new.ahead ≡ None))
    ⊎ ((before after : List Span) × (mid : State) × TakesPrimitives 0x04 bd before after old mid
    × (mid.ahead ≡ None) × Failed (peek_of bd) mid new fault)
