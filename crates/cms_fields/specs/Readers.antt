-- The readers of records, put together from those of their parts.
use Rattle.std.specs.Prelude.{◌≡◌, ℕ, Bool, true, List, ◌∷◌, Option, if◌then◌else◌}
use Rattle.cms_tlv.specs.declared.fault.Reason.{Reason}
use Rattle.cms_tlv.specs.declared.fault.Reason.TheVariants.{UnexpectedElement}
use Rattle.cms_tlv.specs.declared.bound.Bound.{Bound}
use Rattle.cms_tlv.specs.Spelling.{Spelling}
use Rattle.cms_tlv.specs.Reading.{Reader, ◌>>=◌, give, refuse, enter_of, close_of, peek_of, may_be}
use Rattle.cms_tlv.specs.Reading.{optional_of, give_if, opaque_of, taking}

--- `Begins P R`: a spelling by `R` that has octets begins with one with `P`
pub record Begins {V : Type 0} (P : ℕ → Type 0) (R : Spelling V) : Type 0 where
  pub begins : (b : List ℕ) (v : V) (t : ℕ) (r : List ℕ) → R b v → b ≡ t ∷ r → P t

--- `holding id g`: the pure reader of `Tagged`
unfoldable pub holding : {A : Type 0} → ℕ → (Bound → Reader A) → Bound → Reader A
holding id g bd = enter_of id bd >>= g

--- `then_of f g`, `optional_then_of p f g`: those of `Then` and `OptionalThen`
unfoldable pub then_of : {A B : Type 0} → (Bound → Reader A) → (Bound → Reader B) → Bound
    → Reader (A × B)
then_of f g bd = do
  a ← f bd
  b ← g bd
  give (a, b)

-- one that may be absent, as its first octet says, then the others to the end
unfoldable pub optional_then_of : {A B : Type 0} → (ℕ → Bool) → (Bound → Reader A)
    → (Bound → Reader B) → Bound → Reader (Option A × B)
optional_then_of p f g bd = do
  a ← optional_of p f bd
  b ← g bd
  give (a, b)

--- `last_of f`, `last_optional_of p f`: those of `Last` and `Option`
unfoldable pub last_of : {A : Type 0} → (Bound → Reader A) → Bound → Reader A
last_of f bd = do
  a ← f bd
  u ← close_of bd
  give a

-- the last, which may be absent
unfoldable pub last_optional_of : {A : Type 0} → (ℕ → Bool) → (Bound → Reader A) → Bound
    → Reader (Option A)
last_optional_of p f bd = do
  a ← optional_of p f bd
  u ← close_of bd
  give a

--- `constrained_of test reason f`: what `f` reads, or the refusal `reason` if it does not pass the
---   test
unfoldable pub constrained_of : {A : Type 0} → (A → Bool) → Reason → (Bound → Reader A) → Bound
    → Reader A
constrained_of test reason f bd = f bd >>= give_if test reason

-- the next element is refused after its header
unfoldable pub unexpected_of : {A : Type 0} → Bound → Reader A
unexpected_of bd = enter_of 0 bd >>= λ inner. refuse UnexpectedElement

--- `opaque_among_of p`, `unexpected_of`: that of `OpaqueAmong`, and what it gives for another
---   element: E7 after its header
unfoldable pub opaque_among_of : (ℕ → Bool) → Bound → Reader (List ℕ)
opaque_among_of p bd = peek_of bd >>= λ o. if may_be p o then opaque_of bd else unexpected_of bd

--- `already_der_of f`: that of `AlreadyDer`
abbrev pub already_der_of : {A : Type 0} → (Bound → Reader A) → Bound → Reader (List ℕ × A)
already_der_of f = taking (λ bd. f (record bd { strict = true }))
