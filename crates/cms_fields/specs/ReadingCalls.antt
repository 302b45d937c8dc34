-- What calls promise that read from a source.
use Rattle.std.specs.Prelude.{◌≡◌, ℕ, List, length, None, Result, IfOk, IfErr, OnOk}
use Rattle.cms_tlv.specs.declared.fault.Fault.{Fault}
use Rattle.cms_tlv.specs.declared.bound.Bound.{Bound}
use Rattle.cms_tlv.specs.State.{State, Answers, Progresses, FaultIsSticky}
use Rattle.cms_tlv.specs.Spelling.{Spelling}
use Rattle.cms_tlv.specs.Reading.{Reader}
use Rattle.cms_tlv.specs.Refines.{Refines}
use Rattle.cms_tlv.specs.Clauses.{Found, Faults}
use Rattle.cms_tlv.specs.Law.{rules_of}
use Rattle.cms_fields.specs.Contents.{with_end, FaultsIn}
use Rattle.cms_fields.specs.Grammar.{Grammar}

--- `ReadsContents g bd value old new r`: contents of the grammar `g` and their end are read, after
---   their header: `sticky`, `accounted`, `ok`, `clear`, `refines`;
--- | `found` (of `with_end`) and `faults` (`FaultsIn`) by the rules that the bound `bd` has
pub record ReadsContents {V W : Type 0} (g : Grammar W) (bd : Bound) (value : List ℕ → V → W)
    (old new : State) (result : Result V Fault) : Type 0 where
  pub sticky : FaultIsSticky old new result
  pub accounted : old.fault ≡ None → Answers old new result
  pub ok : OnOk result (Progresses old new)
  pub clear : OnOk result (new.ahead ≡ None)
  pub refines : old.fault ≡ None → Refines (λ s v. value s.done v) (g.reader bd) old new result
  pub found : IfOk result
      (λ v. Found (with_end (g.spelled (rules_of bd.strict)) bd (length old.done)) old new
      (value new.done v))
  pub faults : old.fault ≡ None
      → IfErr result (FaultsIn (g.spelled (rules_of bd.strict)) bd old new)

--- `ReadsField f value old new r`: a field is read: `sticky` (`FaultIsSticky`) and `accounted`
---   (`Answers`);
---   if `r` is Ok, `ok` (`Progresses`),
--- | and `clear`: no octet is kept ahead; `refines` (`Refines`)
pub record ReadsField {V W : Type 0} (f : Reader W) (value : List ℕ → V → W) (old new : State)
    (result : Result V Fault) : Type 0 where
  pub sticky : FaultIsSticky old new result
  pub accounted : old.fault ≡ None → Answers old new result
  pub ok : OnOk result (Progresses old new)
  pub clear : OnOk result (new.ahead ≡ None)
  pub refines : old.fault ≡ None → Refines (λ s v. value s.done v) f old new result

--- `ReadsSpelled R bd value old new r`: `found`: what is accepted spells by `R` the value that is
---   shown (`Found`); `faults` (`Faults`)
pub record ReadsSpelled {V W : Type 0} (R : Spelling W) (bd : Bound) (value : List ℕ → V → W)
    (old new : State) (result : Result V Fault) : Type 0 where
  pub found : IfOk result (λ v. Found R old new (value new.done v))
  pub faults : old.fault ≡ None → IfErr result (Faults R bd old new)
