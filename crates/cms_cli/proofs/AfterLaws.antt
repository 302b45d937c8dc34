-- What is concluded of a message that was read, and of what was read after it.
use Rattle.std.proofs.Common.{◌≡◌, inl, inr, ℕ, List, Option, Some, None, Result, Ok, Err, IfOk, IfErr, if◌then◌else◌, sym, subst}
use Rattle.cms_cli.specs.declared.task.After.{After}
use Rattle.cms_cli.specs.declared.task.After.TheVariants as after
use Rattle.cms_check.specs.declared.report.Finding.{Finding}
use Rattle.cms_check.specs.declared.verifier.Verdict.TheVariants.{Unknown}
use Rattle.cms_tlv.specs.declared.fault.Fault.{Fault}
use Rattle.cms_cli.specs.declared.answer.Answer.{Answer}
use Rattle.cms_canon.specs.declared.message.Tail.TheVariants as tails
use Rattle.cms_cli.specs.Answers.{AfterFaults, AreFoundAfter, IsChecked, as_content, as_data, has_fault, reads_rest, tail_before}
use Rattle.cms_canon.specs.Checking.{AreFindings}
use Rattle.cms_canon.specs.Exact.{ExactFaults}
use Rattle.cms_canon.specs.Given.{first_part, second_part, IsGiven, GivenFaults}
use Rattle.cms_canon.specs.Messages.{IsRead}
use Rattle.cms_canon.specs.Streams.{Reading, TakesNone}
use Rattle.cms_canon.specs.Whole.{Whole}
use Rattle.cms_cli.proofs.Answered.{read_in_vain}

-- nothing was taken after it
all_read : (r : Reading) (limit : ℕ) (m : Whole) (left : Option (List ℕ)) (failures : ℕ)
    → IsRead (first_part r left failures) limit tails.Refuse m → TakesNone (second_part r left failures) → IsRead r limit tails.Refuse m
all_read r limit m left failures read none =
    subst (λ f. IsRead (first_part r r.left_after f) limit tails.Refuse m) (sym none.1)
    (subst (λ l. IsRead (first_part r l failures) limit tails.Refuse m) (sym none.0) read)

found_given : (r : Reading) (limit : ℕ) (a : After) (m : Whole) (left : Option (List ℕ)) (failures : ℕ) (found : List Finding)
    → IsRead (first_part r left failures) limit (tail_before a) m → AreFoundAfter (second_part r left failures) limit a m.value found
    → (rest : Option (List ℕ)) × IsGiven r limit (reads_rest a) m rest
    × AreFindings (λ job. Unknown) m.value (as_content a rest) (as_data a rest) found
found_given r limit after.Nothing m left failures found read h = (None, all_read r limit m left failures read h.0, h.1)
found_given r limit after.Content m left failures found read h = (Some h.0, (left, failures, read, h.1), h.2)
found_given r limit after.Data m left failures found read h = (Some h.0, (left, failures, read, h.1), h.2)

pub after_checked : (r : Reading) (limit : ℕ) (a : After) (m : Whole) (left : Option (List ℕ)) (failures : ℕ)
    → IsRead (first_part r left failures) limit (tail_before a) m → (x : Result Answer Fault)
    → IfOk x (λ y. (found : List Finding) × AreFoundAfter (second_part r left failures) limit a m.value found
    × (y.status ≡ (if has_fault found then 1 else 0))) → IfOk x (λ y. IsChecked r limit a y.status y.text.items)
after_checked r limit a m left failures read (Err e) h = tt
after_checked r limit a m left failures read (Ok y) h =
    let given = found_given r limit a m left failures h.0 read h.1 in
    (m, given.0, given.1, h.0, given.2, h.2)

after_failed : (r : Reading) (limit : ℕ) (a : After) (m : Whole) (left : Option (List ℕ)) (failures : ℕ) (e : Fault)
    → IsRead (first_part r left failures) limit (tail_before a) m → AfterFaults (second_part r left failures) limit a e
    → GivenFaults r limit (reads_rest a) e
after_failed r limit after.Nothing m left failures e read h =
    subst (ExactFaults r limit tails.Refuse) (sym h.1) (read_in_vain r limit tails.Refuse m (all_read r limit m left failures read h.0))
after_failed r limit after.Content m left failures e read h = inr (m, left, failures, read, h)
after_failed r limit after.Data m left failures e read h = inr (m, left, failures, read, h)

pub after_faults : (r : Reading) (limit : ℕ) (a : After) (m : Whole) (left : Option (List ℕ)) (failures : ℕ)
    → IsRead (first_part r left failures) limit (tail_before a) m → (x : Result Answer Fault)
    → IfErr x (AfterFaults (second_part r left failures) limit a) → IfErr x (GivenFaults r limit (reads_rest a))
after_faults r limit a m left failures read (Ok y) h = tt
after_faults r limit a m left failures read (Err e) h = after_failed r limit a m left failures e read h

pub message_failed : (r : Reading) (limit : ℕ) (a : After) (e : Fault) → ExactFaults r limit (tail_before a) e → GivenFaults r limit (reads_rest a) e
message_failed r limit after.Nothing e h = h
message_failed r limit after.Content e h = inl h
message_failed r limit after.Data e h = inl h
