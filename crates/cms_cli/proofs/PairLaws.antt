-- What is concluded of two messages that were read one right after the other.
use Rattle.std.proofs.Common.{◌≡◌, ℕ, List, Option, Bool, Result, Ok, Err, IfOk, IfErr, sym, subst}
use Rattle.cms_canon.specs.declared.sameness.SameFault.{SameFault}
use Rattle.cms_canon.specs.declared.sameness.SameFault.TheVariants as same
use Rattle.cms_canon.specs.declared.message.Tail.TheVariants as tails
use Rattle.cms_canon.specs.Comparing.{SecondFaults}
use Rattle.cms_canon.specs.Given.{first_part, second_part}
use Rattle.cms_canon.specs.Kinds.{same_message}
use Rattle.cms_canon.specs.Messages.{IsRead}
use Rattle.cms_canon.specs.Streams.{Reading}
use Rattle.cms_canon.specs.Whole.{Whole}
use Rattle.cms_cli.specs.declared.answer.Answer.{Answer}
use Rattle.cms_cli.specs.Answers.{IsCompared, SaysSame, WhichFaults}

-- what a message and its second are in one reading
module _ (r : Reading) (limit : ℕ) (m : Whole) (left : Option (List ℕ)) (failures : ℕ) (read : IsRead (first_part r left failures) limit tails.Leave m) where
  pub says_same :
      (s : Bool) → ((n : Whole) × IsRead (second_part r left failures) limit tails.Refuse n × (s ≡ same_message m.value n.value))
      → (a : Result Answer SameFault) → IfOk a (λ x. SaysSame s x.status x.text.items) → IfOk a (λ x. IsCompared r limit x.status x.text.items)
  says_same s h (Ok x) k = (m, h.0, (left, failures, read, h.1), subst (λ b. SaysSame b x.status x.text.items) h.2 k)
  says_same s h (Err e) k = tt

  pub said_in_vain : (n : Whole) → IsRead (second_part r left failures) limit tails.Refuse n → (a : Result Answer SameFault)
      → IfErr a (λ e. e ≡ same.OutOfMemory) → IfErr a (WhichFaults r limit)
  said_in_vain n k (Ok x) h = tt
  said_in_vain n k (Err e) h = subst (WhichFaults r limit) (sym h) (m, left, failures, read, (n, k))

  pub which_failed : (e : SameFault) → SecondFaults (second_part r left failures) limit tails.Refuse e → WhichFaults r limit e
  which_failed (same.First e) h = absurd h
  which_failed (same.Second e) h = (m, left, failures, read, h)
  which_failed same.OutOfMemory h = (m, left, failures, read, h)
