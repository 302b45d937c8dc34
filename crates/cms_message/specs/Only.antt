-- The one element of a list.
use Rattle.std.specs.Prelude.{List, [], ◌∷◌, Option, Some, None}

--- `only xs`: the one member of a list that has no other, else none
abbrev pub only : {A : Type 0} → List A → Option A
only [] = None
only (x ∷ []) = Some x
only (x ∷ y ∷ r) = None
