-- The value of a borrowed message.
use mathlib.Core.Logic.{inl, inr}
use Rattle.cms_canon.specs.Kinds.{MessageValue}
use Rattle.cms_canon.specs.declared.message.View.{View}
use Rattle.cms_canon.specs.declared.message.View.TheVariants as views

--- `borrowed_view x`, in `Borrowed.antt`: the value of a borrowed message
abbrev pub borrowed_view : View → MessageValue
borrowed_view (views.Signed x) = inl x
borrowed_view (views.Request x) = inr (inl x)
borrowed_view (views.Response x) = inr (inr x)
