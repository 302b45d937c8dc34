-- Attributes of one type, from left to right.
use Rattle.std.proofs.Common.{ℕ, List, [], ◌∷◌, Option, Some, None}
use Rattle.std.specs.Prelude.{bytes_eq}
use Rattle.std.specs.List.{filter}
use Rattle.cms_message.specs.Attributes.{attr_type}
use Rattle.cms_message.specs.Signers.{AnyAttribute}

abbrev pub of_type : List ℕ → List AnyAttribute → List AnyAttribute
of_type oid attributes = filter (λ a. bytes_eq (attr_type a) oid) attributes

abbrev pub as_list : {A : Type 0} → Option A → List A
as_list None = []
as_list (Some x) = x ∷ []
