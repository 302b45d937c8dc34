-- The octets before each refusal of a record's reader say why, as those of its parts do.
use Rattle.std.proofs.Common.{inl, inr, ℕ, Bool, true, List}
use Rattle.std.specs.Prelude.{◌&&◌}
use Rattle.cms_tlv.specs.declared.fault.Reason.{Reason}
use Rattle.cms_tlv.specs.declared.fault.Reason.TheVariants.{UnexpectedElement}
use Rattle.cms_tlv.specs.declared.bound.Bound.{Bound}
use Rattle.cms_tlv.specs.Headers.{IsHeader}
use Rattle.cms_tlv.specs.Reading.{Reader, may_be}
use Rattle.cms_tlv.specs.RefusalReasons.{IsPathIf, Explained, IsFree, either_says, says_inside, says_nothing, says_then}
use Rattle.cms_tlv.proofs.Paths.{path_if, of_left, of_right}
use Rattle.cms_tlv.proofs.Why.{under_paths, wider, quiet, given_explained, opaque_explained, bound_explained, made_explained, peeked_explained, branch_explained, fewer, close_explained, entered_explained, entered_refused, optional_explained, taking_explained}
use Rattle.cms_fields.specs.Readers.{holding, then_of, optional_then_of, last_of, last_optional_of, constrained_of, unexpected_of, opaque_among_of, already_der_of}
use Rattle.cms_fields.specs.Choices.{choice_of}
use Rattle.cms_fields.specs.Selected.{selected_of}

abbrev pub Field : Bool → (Reason → List ℕ → Type 0) → {A : Type 0} → (Bound → Reader A) → Type 0
Field paths K f = (bd : Bound) → Explained paths K 1 bd (f bd)

abbrev pub Contents : Bool → (Reason → List ℕ → Type 0) → {A : Type 0} → (Bound → Reader A) → Type 0
Contents paths K f = (bd : Bound) → Explained paths K 0 bd (f bd)

-- A path of two records is one of each.
module _ {paths : Bool} (others : Bool) {K : Reason → List ℕ → Type 0} {A : Type 0} {n : ℕ} {f : Bound → Reader A}
    (h : (bd : Bound) → Explained paths K n bd (f bd)) where
  pub left_told : (bd : Bound) → Explained (paths && others) K n bd (f bd)
  left_told bd = under_paths (of_left paths others) (h bd)

  pub right_told : (bd : Bound) → Explained (others && paths) K n bd (f bd)
  right_told bd = under_paths (of_right others paths) (h bd)

pub always_told : (paths : Bool) {K : Reason → List ℕ → Type 0} {A : Type 0} {n : ℕ} {f : Bound → Reader A}
    → ((bd : Bound) → Explained true K n bd (f bd)) → (bd : Bound) → Explained paths K n bd (f bd)
always_told paths h bd = under_paths (λ b. path_if paths) (h bd)

-- what one of two says
or_left : {paths : Bool} {K L : Reason → List ℕ → Type 0} {A : Type 0} {n : ℕ} {bd : Bound} {f : Reader A} → Explained paths K n bd f → Explained paths (either_says K L) n bd f
or_left p = wider (λ r b. inl) p

or_right : {paths : Bool} {K L : Reason → List ℕ → Type 0} {A : Type 0} {n : ℕ} {bd : Bound} {f : Reader A} → Explained paths L n bd f → Explained paths (either_says K L) n bd f
or_right p = wider (λ r b. inr) p

module _ {paths : Bool} {K : Reason → List ℕ → Type 0} where
  pub holding_told : {A : Type 0} (id : ℕ) → ((b : List ℕ) → IsHeader id b → IsPathIf paths b) → {g : Bound → Reader A} → Contents paths K g → Field paths (says_inside id K) (holding id g)
  unfolding holding
  holding_told id path k bd = entered_explained K id path bd k

  pub last_told : {A : Type 0} {f : Bound → Reader A} → Field paths K f → Contents paths K (last_of f)
  unfolding last_of
  last_told h bd =
      fewer K (wider (quiet paths K) (bound_explained K (h bd) (λ a. made_explained says_nothing (λ u. a) (close_explained says_nothing bd))))

  pub last_optional_told : {A : Type 0} (p : ℕ → Bool) {f : Bound → Reader A} → Field paths K f → Contents paths K (last_optional_of p f)
  unfolding last_optional_of
  last_optional_told p h bd =
      wider (quiet paths K) (bound_explained K (optional_explained K p h bd) (λ a. made_explained says_nothing (λ u. a) (close_explained says_nothing bd)))

  pub unexpected_told : {A : Type 0} → Field paths K (unexpected_of {A = A})
  unfolding unexpected_of
  unexpected_told bd = entered_refused K 0 bd UnexpectedElement (λ limit at. tt)

  pub opaque_among_told : (p : ℕ → Bool) → Field paths K (opaque_among_of p)
  unfolding opaque_among_of
  opaque_among_told p bd = peeked_explained K (λ x. branch_explained K (may_be p x) (opaque_explained K bd) (unexpected_told bd))

  pub already_der_told : {A : Type 0} {f : Bound → Reader A} → Field paths K f → Field paths K (already_der_of f)
  already_der_told {f = f} h bd = (let k = h (record bd { strict = true }) in
      taking_explained K (λ bd. f (record bd { strict = true })) bd (record { goes = k.goes; cause = k.cause }))

  pub constrained_contents_told : {A : Type 0} (test : A → Bool) (reason : Reason) → IsFree reason → {f : Bound → Reader A} → Contents paths K f
      → Contents paths K (constrained_of test reason f)
  unfolding constrained_of
  constrained_contents_told test reason free h bd = wider (quiet paths K) (bound_explained K (h bd) (given_explained says_nothing test reason free))

module _ {paths : Bool} {K L : Reason → List ℕ → Type 0} where
  pub then_told : {A B : Type 0} {f : Bound → Reader A} {g : Bound → Reader B} → Field paths K f → Contents paths L g → Contents paths (says_then paths K L) (then_of f g)
  unfolding then_of
  then_told h k bd = fewer _ (bound_explained K (h bd) (λ a. made_explained L (λ b. (a, b)) (k bd)))

  pub optional_then_told : {A B : Type 0} (p : ℕ → Bool) {f : Bound → Reader A} {g : Bound → Reader B} → Field paths K f → Contents paths L g
      → Contents paths (says_then paths K L) (optional_then_of p f g)
  unfolding optional_then_of
  optional_then_told p h k bd = bound_explained K (optional_explained K p h bd) (λ a. made_explained L (λ b. (a, b)) (k bd))

  pub choice_told : {A B : Type 0} {n : ℕ} (p : ℕ → Bool) {f : Bound → Reader A} {g : Bound → Reader B} → ((bd : Bound) → Explained paths K n bd (f bd))
      → ((bd : Bound) → Explained paths L n bd (g bd)) → (bd : Bound) → Explained paths (either_says K L) n bd (choice_of p f g bd)
  unfolding choice_of
  choice_told p h k bd = peeked_explained _ (λ x. branch_explained _ (may_be p x)
      (made_explained _ inl (or_left (h bd))) (made_explained _ inr (or_right (k bd))))

  pub selected_told : {J : Reason → List ℕ → Type 0} {A B C : Type 0} (test : A → Bool) {f : Bound → Reader A} {g : Bound → Reader B}
      {h : Bound → Reader C} → Field paths J f → Contents paths K g → Contents paths L h → Contents paths (says_then paths J (either_says K L)) (selected_of test f g h)
  unfolding selected_of
  selected_told {J = J} test k l m bd =
      fewer _ (bound_explained J (k bd) (λ a. branch_explained _ (test a) (made_explained _ (λ v. (a, inl v)) (or_left (l bd)))
      (made_explained _ (λ w. (a, inr w)) (or_right (m bd)))))
