-- A choice of two fields.
use Rattle.std.specs.Prelude.{ℕ, Bool, false, ◌⊎◌, if◌then◌else◌}
use mathlib.Core.Logic.{inl, inr}
use Rattle.cms_tlv.specs.declared.bound.Bound.{Bound}
use Rattle.cms_tlv.specs.Reading.{Reader, ◌>>=◌, give, peek_of, may_be}
use Rattle.cms_fields.specs.declared.choice.Choice.{Choice}
use Rattle.cms_fields.specs.declared.choice.Choice.TheVariants as choices

--- `same_choice`: two choices are of one kind, and the same
abbrev pub same_choice : {V W : Type 0} → (V → V → Bool) → (W → W → Bool) → V ⊎ W → V ⊎ W → Bool
same_choice s t (inl v) (inl x) = s v x
same_choice s t (inl v) (inr y) = false
same_choice s t (inr w) (inl x) = false
same_choice s t (inr w) (inr y) = t w y

--- `choice_value`: the value that a choice shows
abbrev pub choice_value : {X Y V W : Type 0} → (X → V) → (Y → W) → Choice X Y → V ⊎ W
choice_value f g (choices.First x) = inl (f x)
choice_value f g (choices.Second y) = inr (g y)

--- `choice_of p f g`: of `Choice` and `ContentsChoice`: what `f` reads if the next octet passes
---   `p`, else what `g` reads
unfoldable pub choice_of : {A B : Type 0} → (ℕ → Bool) → (Bound → Reader A) → (Bound → Reader B)
    → Bound → Reader (A ⊎ B)
choice_of p f g bd =
    peek_of bd >>= λ o. if may_be p o then (f bd >>= λ v. give (inl v))
    else (g bd >>= λ w. give (inr w))
