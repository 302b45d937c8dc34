-- Contents of one of two kinds, selected by the value of their first field.
use Rattle.std.specs.Prelude.{◌≡◌, ℕ, Bool, true, false, List, ◌++◌, ◌⊎◌, if◌then◌else◌}
use mathlib.Core.Logic.{inl, inr}
use Rattle.cms_tlv.specs.declared.bound.Bound.{Bound}
use Rattle.cms_tlv.specs.Spelling.{Spelling}
use Rattle.cms_tlv.specs.Reading.{Reader, ◌>>=◌, give}
use Rattle.cms_fields.specs.declared.choice.Choice.{Choice}
use Rattle.cms_fields.specs.declared.choice.Choice.TheVariants as choices

--- `then_by_value R S`: a spelling by `R`, then one by what `S` gives for its value
abbrev pub then_by_value : {V W : Type 0} → Spelling V → (V → Spelling W) → Spelling (V × W)
then_by_value R S b v = (b₁ b₂ : List ℕ) × (b ≡ b₁ ++ b₂) × R b₁ v.0 × S v.0 b₂ v.1

--- `either_by t R S`: by `R`, a value of the first kind if `t` is true; else by `S`, of the second
abbrev pub either_by : {V W : Type 0} → Bool → Spelling V → Spelling W → Spelling (V ⊎ W)
either_by t R S b (inl v) = (t ≡ true) × R b v
either_by t R S b (inr w) = (t ≡ false) × S b w

--- `is_selected t x`: the choice `x` is of the kind that `t` selects
abbrev pub is_selected : {X Y : Type 0} → Bool → Choice X Y → Type 0
is_selected t (choices.First x) = t ≡ true
is_selected t (choices.Second y) = t ≡ false

--- `selected_of test f g h`: the pure reader of `Selected`
unfoldable pub selected_of : {A B C : Type 0} → (A → Bool) → (Bound → Reader A) → (Bound → Reader B)
    → (Bound → Reader C) → Bound → Reader (A × (B ⊎ C))
selected_of test f g h bd =
    f bd >>= λ a. if test a then (g bd >>= λ v. give (a, inl v))
    else (h bd >>= λ w. give (a, inr w))
