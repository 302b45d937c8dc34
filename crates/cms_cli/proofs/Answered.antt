-- What the commands did that write a text.
use Rattle.std.proofs.Common.{◌≡◌, ◌⊎◌, inl, inr, ℕ, List, [], Option, Bool, true, false, Result, Ok, Err, IfOk, IfErr, refl, sym, ◌∙◌, arith}
use Rattle.std.proofs.KnownBytes.{Consumes-nil, Appends-nil}
use Rattle.std.proofs.lemmas.List.Elements.{All-nil}
use Rattle.cms_cli.specs.declared.task.Task.{Task}
use Rattle.cms_cli.specs.declared.task.Task.TheVariants.{Convert, Show, Changes, Check, Cover, Same}
use Rattle.cms_cli.specs.declared.task.NoTask.{NoTask}
use Rattle.cms_cli.specs.declared.task.NoTask.TheVariants.{OutOfMemory}
use Rattle.cms_tlv.specs.declared.fault.Fault.{Fault}
use Rattle.cms_tlv.specs.declared.fault.Fault.TheVariants as faults
use Rattle.cms_cli.specs.declared.answer.Answer.{Answer}
use Rattle.cms_canon.specs.declared.sameness.SameFault.{SameFault}
use Rattle.cms_canon.specs.declared.sameness.SameFault.TheVariants as same
use Rattle.cms_canon.specs.declared.message.Tail.{Tail}
use Rattle.cms_canon.specs.declared.message.Tail.TheVariants as tails
use Rattle.cms_cli.specs.Answers.{IsSaid, IsAnswered, IsDone, reads_rest, fault_of, PairFaults, WhichFaults}
use Rattle.cms_cli.specs.Statuses.{AreAllConverted, IsConverted, IsCovered, fault_status, command_limit}
use Rattle.cms_canon.specs.Given.{GivenFaults}
use Rattle.cms_canon.specs.Exact.{ExactFaults}
use Rattle.cms_canon.specs.Many.{IsFaithful}
use Rattle.cms_canon.specs.declared.cover.NoCover.TheVariants as uncovered
use Rattle.cms_canon.specs.Messages.{IsRead}
use Rattle.cms_canon.specs.Streams.{Reading, between, Writing, WritesNone}
use Rattle.cms_canon.specs.Whole.{Whole}

-- memory was wanted after a message was read
pub read_in_vain : (r : Reading) (limit : ℕ) (tail : Tail) (m : Whole) → IsRead r limit tail m → ExactFaults r limit tail faults.OutOfMemory
read_in_vain r limit tail m k = ((k.unfailed, (m.octets, k.taken, k.message.1)), tt)

module _ (w : Writing) (Answers : ℕ → List ℕ → Type 0) (Faults : Fault → Type 0) (status : ℕ) where
  pub answered : (a : Result Answer Fault) → IfOk a (λ x. Answers x.status x.text.items) → IfErr a Faults
      → IfOk a (λ x. IsSaid w x.text.items x.status status) → IfErr a (λ e. (status ≡ fault_status e) × WritesNone w)
      → IsAnswered w Answers Faults status
  answered (Ok x) h k s n = inl (x.status, x.text.items, h, s)
  answered (Err e) h k s n = inr (e, k, n.1, n.0)

pub compared : (r : Reading) (w : Writing) (limit : ℕ) (Answers : ℕ → List ℕ → Type 0) (status : ℕ) (a : Result Answer SameFault)
    → IfOk a (λ x. Answers x.status x.text.items) → IfErr a (WhichFaults r limit) → IfOk a (λ x. IsSaid w x.text.items x.status status)
    → IfErr a (λ e. (status ≡ fault_status (fault_of e)) × WritesNone w) → IsAnswered w Answers (PairFaults r limit) status
compared r w limit Answers status (Ok x) h k s n = inl (x.status, x.text.items, h, s)
compared r w limit Answers status (Err e) h k s n = inr (fault_of e, (e, refl, k), n.1, n.0)

-- a task that was asked for is the one that was understood
pub is_asked : (r : Result Task NoTask) (t u : Task) → r ≡ Ok u → (r ≡ Ok t) ⊎ (r ≡ Err OutOfMemory) → t ≡ u
is_asked r t u e (inl h) = let x : Ok u ≡ Ok t = sym e ∙ h in cc
is_asked r t u e (inr h) = let x : Ok u ≡ Err OutOfMemory = sym e ∙ h in absurd cc

-- and one that was not understood was not asked for, unless memory ran out
pub is_refused : (r : Result Task NoTask) (t : Task) (n : NoTask) → r ≡ Err n → (n ≡ OutOfMemory → ⊥) → (r ≡ Ok t) ⊎ (r ≡ Err OutOfMemory) → ⊥
is_refused r t n e k (inl h) = let x : Err n ≡ Ok t = sym e ∙ h in cc
is_refused r t n e k (inr h) = let x : Err n ≡ Err OutOfMemory = sym e ∙ h in k cc

-- memory was wanted before anything was read
module _ (left out : Option (List ℕ)) (failures failed status : ℕ) (wanted : status ≡ 5) where
  abbrev pub still : Reading
  still = between left failures left failures

  abbrev pub idle : Writing
  idle = record { contents_before = out; contents_after = out; failures_before = failed; failures_after = failed }

  none : (limit : ℕ) (tail : Tail) → ExactFaults still limit tail faults.OutOfMemory
  none limit tail = ((refl, ([], Consumes-nil left, omega arith)), tt)

  given : (limit : ℕ) (with_rest : Bool) → GivenFaults still limit with_rest faults.OutOfMemory
  given limit false = none limit tails.Refuse
  given limit true = inl (none limit tails.Leave)

  not_converted : IsConverted still idle status
  not_converted = (Err faults.OutOfMemory, wanted, (none command_limit tails.Refuse, (refl, refl)))

  none_converted : AreAllConverted still idle status
  none_converted = (
    Err (record { done = 0; fault = faults.OutOfMemory; written = 0 }),
    wanted,
    record {
      conversions = [];
      are = All-nil (IsFaithful command_limit);
      done = refl;
      stops = (
        (Appends-nil out, refl),
        refl,
        inl (record {
          left = left;
          taken = Consumes-nil left;
          faults = none command_limit tails.Leave;
          begun = tt;
          few = (omega arith, omega arith);
        }),
      );
    },
  )

  not_covered : (content : Bool) (signer : ℕ) → IsCovered still idle content signer status
  not_covered content signer = (Err (uncovered.Fault faults.OutOfMemory), wanted, (inl (given command_limit content), (refl, refl)))

  pub not_done : (t : Task) → IsDone t still idle status
  not_done (Convert false) = not_converted
  not_done (Convert true) = none_converted
  not_done (Cover signer content) = not_covered content signer
  not_done (Show json) = inr (faults.OutOfMemory, none command_limit tails.Refuse, (refl, refl), wanted)
  not_done (Changes json) = inr (faults.OutOfMemory, none command_limit tails.Refuse, (refl, refl), wanted)
  not_done (Check a) = inr (faults.OutOfMemory, given command_limit (reads_rest a), (refl, refl), wanted)
  not_done Same = inr (faults.OutOfMemory, (same.First faults.OutOfMemory, refl, none command_limit tails.Leave), (refl, refl), wanted)
