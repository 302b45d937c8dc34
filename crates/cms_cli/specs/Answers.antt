-- What the commands promise that write a text about their input.
use Rattle.std.specs.Prelude.{◌≡◌, ℕ, List, Option, Some, None, Bool, true, false, codes}
use Rattle.std.specs.Prelude.{if◌then◌else◌, not, ◌⊎◌, ◌==◌}
use Rattle.std.specs.List.{list_any}
use Rattle.cms_tlv.specs.declared.fault.Fault.{Fault}
use Rattle.cms_tlv.specs.declared.fault.Fault.TheVariants as faults
use Rattle.cms_cli.specs.declared.task.After.{After}
use Rattle.cms_cli.specs.declared.task.After.TheVariants as after
use Rattle.cms_cli.specs.declared.task.Task.{Task}
use Rattle.cms_cli.specs.declared.task.Task.TheVariants as task
use Rattle.cms_check.specs.declared.report.Finding.{Finding}
use Rattle.cms_check.specs.declared.verifier.Verdict.TheVariants.{Unknown}
use Rattle.cms_canon.specs.declared.sameness.SameFault.{SameFault}
use Rattle.cms_canon.specs.declared.sameness.SameFault.TheVariants as same
use Rattle.cms_canon.specs.declared.message.Tail.{Tail}
use Rattle.cms_canon.specs.declared.message.Tail.TheVariants as tails
use Rattle.cms_canon.specs.Checking.{AreFindings}
use Rattle.cms_canon.specs.Comparing.{SecondFaults}
use Rattle.cms_canon.specs.Exact.{ExactFaults}
use Rattle.cms_canon.specs.Given.{first_part, second_part, IsGiven, GivenFaults}
use Rattle.cms_canon.specs.Kinds.{MessageValue, same_message}
use Rattle.cms_canon.specs.Messages.{IsRead}
use Rattle.cms_canon.specs.Rest.{IsRest, RestFaults}
use Rattle.cms_canon.specs.Streams.{Reading, TakesNone, Writing, WritesAll, WritesPart, WritesNone}
use Rattle.cms_canon.specs.Whole.{Whole}
use Rattle.cms_cli.specs.Statuses.{AreAllConverted, IsConverted, IsCovered, command_limit}
use Rattle.cms_cli.specs.Statuses.{fault_status}

--- `IsSaid w text with status`: the text was written, and `status` is `with`; or a part of it was,
---   the writer failed, and `status` is 4
abbrev pub IsSaid : Writing → List ℕ → ℕ → ℕ → Type 0
IsSaid w text with status =
    (WritesAll w text × (status ≡ with)) ⊎ (((n : ℕ) × WritesPart w text n) × (status ≡ 4))

--- `IsAnswered w Answer Faults status`: some answer was said; or there is none for some fault,
---   whose status it is, and nothing was written
abbrev pub IsAnswered : Writing → (ℕ → List ℕ → Type 0) → (Fault → Type 0) → ℕ → Type 0
IsAnswered w Answer Faults status =
    ((s : ℕ) × (text : List ℕ) × Answer s text × IsSaid w text s status)
    ⊎ ((e : Fault) × Faults e × WritesNone w × (status ≡ fault_status e))

-- the fault that it is
abbrev pub fault_of : SameFault → Fault
fault_of (same.First e) = e
fault_of (same.Second e) = e
fault_of same.OutOfMemory = faults.OutOfMemory

--- `IsListed r limit status text`: `show` and `changes`: a message was read with nothing after it;
---   the status is 0
abbrev pub IsListed : Reading → ℕ → ℕ → List ℕ → Type 0
IsListed r limit status text = (m : Whole) × IsRead r limit tails.Refuse m × (status ≡ 0)

--- `reads_rest a`, `as_content a rest`, `as_data a rest`: what `check` takes what follows the
---   message for
abbrev pub reads_rest : After → Bool
reads_rest after.Nothing = false
reads_rest after.Content = true
reads_rest after.Data = true

abbrev pub as_content : After → Option (List ℕ) → Option (List ℕ)
as_content after.Nothing rest = None
as_content after.Content rest = rest
as_content after.Data rest = None

abbrev pub as_data : After → Option (List ℕ) → Option (List ℕ)
as_data after.Nothing rest = None
as_data after.Content rest = None
as_data after.Data rest = rest

--- `tail_before a`: whether the reader has ended after the message
abbrev pub tail_before : After → Tail
tail_before after.Nothing = tails.Refuse
tail_before after.Content = tails.Leave
tail_before after.Data = tails.Leave

--- `AreFoundAfter r limit a v found`: `r` reads what follows the message `v`, and `found` are the
---   rules that it breaks, if the verifier knows of no signature whether it is good
abbrev pub AreFoundAfter : Reading → ℕ → After → MessageValue → List Finding → Type 0
AreFoundAfter r limit after.Nothing v found =
    TakesNone r × AreFindings (λ job. Unknown) v None None found
AreFoundAfter r limit after.Content v found =
    (octets : List ℕ) × IsRest r limit octets
    × AreFindings (λ job. Unknown) v (Some octets) None found
AreFoundAfter r limit after.Data v found =
    (octets : List ℕ) × IsRest r limit octets
    × AreFindings (λ job. Unknown) v None (Some octets) found

--- `AfterFaults r limit a f`: why what follows a message was not read, or memory ran out
abbrev pub AfterFaults : Reading → ℕ → After → Fault → Type 0
AfterFaults r limit after.Nothing e = TakesNone r × (e ≡ faults.OutOfMemory)
AfterFaults r limit after.Content e = RestFaults r limit e
AfterFaults r limit after.Data e = RestFaults r limit e

--- `has_fault found`: one of them is another than F18
abbrev pub has_fault : List Finding → Bool
has_fault = list_any (λ f. not (f.code == 18))

--- `IsChecked r limit a status text`: `check`: a message was read with what follows it; the status
---   is 1 if it breaks a rule but F18, and else 0,
--- | if the verifier knows of no signature whether it is good
abbrev pub IsChecked : Reading → ℕ → After → ℕ → List ℕ → Type 0
IsChecked r limit a status text =
    (m : Whole) × (rest : Option (List ℕ)) × IsGiven r limit (reads_rest a) m rest
    × (found : List Finding)
    × AreFindings (λ job. Unknown) m.value (as_content a rest) (as_data a rest) found
    × (status ≡ (if has_fault found then 1 else 0))

--- `ArePair r limit m n`: two messages were read, one right after the other with nothing after them
abbrev pub ArePair : Reading → ℕ → Whole → Whole → Type 0
ArePair r limit m n =
    (left : Option (List ℕ)) × (failures : ℕ)
    × IsRead (first_part r left failures) limit tails.Leave m
    × IsRead (second_part r left failures) limit tails.Refuse n

--- `SaysSame same status text`: 0 and `same`, or 1 and `different`
abbrev pub SaysSame : Bool → ℕ → List ℕ → Type 0
SaysSame same status text =
    (status ≡ (if same then 0 else 1))
    × (text ≡ (if same then codes "same\n" else codes "different\n"))

--- `IsCompared r limit status text`: `same`: two messages were read so, and the answer says whether
---   they are the same
abbrev pub IsCompared : Reading → ℕ → ℕ → List ℕ → Type 0
IsCompared r limit status text =
    (m : Whole) × (n : Whole) × ArePair r limit m n
    × SaysSame (same_message m.value n.value) status text

-- the first was not read, or what is after it was not
abbrev pub WhichFaults : Reading → ℕ → SameFault → Type 0
WhichFaults r limit (same.First e) = ExactFaults r limit tails.Leave e
WhichFaults r limit e =
    (m : Whole) × (left : Option (List ℕ)) × (failures : ℕ)
    × IsRead (first_part r left failures) limit tails.Leave m
    × SecondFaults (second_part r left failures) limit tails.Refuse e

--- `PairFaults r limit f`, `WhichFaults`, `fault_of`: the first message was not read
---   (`ExactFaults`), or the second was not (`SecondFaults`)
abbrev pub PairFaults : Reading → ℕ → Fault → Type 0
PairFaults r limit e = (which : SameFault) × (fault_of which ≡ e) × WhichFaults r limit which

--- `IsDone task r w status`: what each command does: `IsConverted` or, with `--many`,
---   `AreAllConverted`; `IsCovered`;
--- | or `IsAnswered` for one of these answers and the limit of 256 MiB
abbrev pub IsDone : Task → Reading → Writing → ℕ → Type 0
IsDone (task.Convert false) r w status = IsConverted r w status
IsDone (task.Convert true) r w status = AreAllConverted r w status
IsDone (task.Cover signer content) r w status = IsCovered r w content signer status
IsDone (task.Show json) r w status =
    IsAnswered w (IsListed r command_limit) (ExactFaults r command_limit tails.Refuse) status
IsDone (task.Changes json) r w status =
    IsAnswered w (IsListed r command_limit) (ExactFaults r command_limit tails.Refuse) status
IsDone (task.Check a) r w status =
    IsAnswered w (IsChecked r command_limit a) (GivenFaults r command_limit (reads_rest a)) status
IsDone task.Same r w status =
    IsAnswered w (IsCompared r command_limit) (PairFaults r command_limit) status
