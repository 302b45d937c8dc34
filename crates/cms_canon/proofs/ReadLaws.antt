-- What is concluded of a message that was read, and of what was done after that.
use Rattle.std.proofs.Common.{◌≡◌, ℕ, List, Option, Some, option_map, Bool, true, Result, Ok, Err, IfOk, IfErr, sym, subst, Vec, Global}
use Rattle.cms_tlv.specs.declared.fault.Fault.{Fault}
use Rattle.cms_canon.specs.declared.sameness.SameFault.{SameFault}
use Rattle.cms_canon.specs.declared.sameness.SameFault.TheVariants as same
use Rattle.cms_canon.specs.declared.given.Given.{Given}
use Rattle.cms_canon.specs.declared.message.Tail.{Tail}
use Rattle.cms_canon.specs.declared.message.Tail.TheVariants as tails
use Rattle.cms_canon.specs.Comparing.{IsSame, SecondFaults}
use Rattle.cms_canon.specs.Given.{first_part, second_part, IsGiven}
use Rattle.cms_canon.specs.Kinds.{same_message}
use Rattle.cms_canon.specs.Messages.{IsRead}
use Rattle.cms_canon.specs.Rest.{IsRest}
use Rattle.cms_canon.specs.Streams.{Reading}
use Rattle.cms_canon.specs.Whole.{Whole}

-- the second message was read, and compared with the first
module _ (r : Reading) (limit : ℕ) (tail : Tail) (m n : Whole) (read : IsRead r limit tail n) where
  pub second_same : (a : Result Bool SameFault) → IfOk a (λ same. same ≡ same_message m.value n.value)
      → IfOk a (λ same. (x : Whole) × IsRead r limit tail x × (same ≡ same_message m.value x.value))
  second_same (Ok s) h = (n, read, h)
  second_same (Err e) h = tt

  pub second_in_vain : (a : Result Bool SameFault) → IfErr a (λ e. e ≡ same.OutOfMemory) → IfErr a (SecondFaults r limit tail)
  second_in_vain (Ok s) h = tt
  second_in_vain (Err e) h = subst (SecondFaults r limit tail) (sym h) (n, read)

pub both_same : (r s : Reading) (limit : ℕ) (m : Whole) → IsRead r limit tails.Leave m → (a : Result Bool SameFault)
    → IfOk a (λ same. (n : Whole) × IsRead s limit tails.Leave n × (same ≡ same_message m.value n.value)) → IfOk a (IsSame r s limit)
both_same r s limit m read (Ok x) h = (m, read, h.0, h.1, h.2)
both_same r s limit m read (Err e) h = tt

-- what a message and its second are in one reading
module _ (r : Reading) (limit : ℕ) (m : Whole) (left : Option (List ℕ)) (failures : ℕ) (read : IsRead (first_part r left failures) limit tails.Leave m) where
  pub all_given :
      (a : Result Given Fault) → IfOk a (λ g. (g.message ≡ m) × ((rest : List ℕ)
      × (option_map (λ (v : Vec ℕ Global). v.items) g.rest ≡ Some rest) × IsRest (second_part r left failures) limit rest))
      → IfOk a (λ g. IsGiven r limit true g.message (option_map (λ (v : Vec ℕ Global). v.items) g.rest))
  all_given (Ok g) h =
      subst (λ o. IsGiven r limit true g.message o) (sym h.1.1)
      (left, failures, subst (λ x. IsRead (first_part r left failures) limit tails.Leave x) (sym h.0) read, h.1.2)
  all_given (Err e) h = tt
