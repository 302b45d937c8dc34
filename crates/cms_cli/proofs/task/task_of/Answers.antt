use Rattle.std.proofs.Common.{◌≡◌, ◌∙◌, refl, Bool, true, false, map, inl, inr, Ok, Err, ap, ap₂, option_map}
use Rattle.cms_cli.specs.declared.task.After.TheVariants.{Nothing, Content, Data}
use Rattle.cms_cli.specs.declared.task.Task.{Task}
use Rattle.cms_cli.specs.declared.task.Task.TheVariants.{Convert, Show, Changes, Check, Cover, Same}
use Rattle.cms_cli.specs.declared.task.NoTask.TheVariants.{OutOfMemory}
use Rattle.clap.specs.Words.{found_of, is_simple, subcommand_of, takes}
use Rattle.cms_cli.specs.CommandLine.{AskFor, checked}
use Rattle.cms_cli.proofs.Entered.{Kept, entered, kept, kept_in}
use Rattle.cms_cli.proofs.Words.{Refines, both_give, flags, gives, kept_of, simple}
use Rattle.cms_cli.proofs.task.task_of.Given.{Over}
use Rattle.cms_cli.proofs.task.task_of.Goals as goal

-- words that are taken fail only if memory runs out
no_memory : (g : Over) (c : goal.After-no_task g) (k : Kept) → Refines (map g.S.AsStr.text c.args.words.now) k → c.no_task.result ≡ OutOfMemory
no_memory g c k h = c.no_task.ensures (c.in-Err.ensures.passes (ap₂ takes c.in-Ok.ensures refl ∙ h.0))

pub returns-in-Err-clause-asked : goal.returns-in-Err-clause-asked
returns-in-Err-clause-asked g c task h = inr (ap Err (no_memory g c (kept_of _ task h) (gives _ task h)))

pub returns-in-Err-clause-both : goal.returns-in-Err-clause-both
returns-in-Err-clause-both g c h = inr (ap Err (no_memory g c (flags true true) (both_give _ h)))

-- what is kept of them, in the subcommand that was entered
kept_is : (g : Over) (c : goal.Joined-matches-2 g) (k : Kept) → Refines (map g.S.AsStr.text c.args.words.now) k
    → kept_in c.in-Some.name.now (found_of c.in-Some.matches.now) ≡ k
kept_is g c k h =
    let m = c.in-Ok-try_get_matches_from.matches in
    let rows = (c.in-Ok-try_get_matches_from.ensures.matches (ap is_simple c.in-Ok.ensures ∙ simple)).1 ∙ ap₂ subcommand_of c.in-Ok.ensures refl in
    entered m c.in-Some.name.now (found_of c.in-Some.matches.now) k c.in-Some.ensures.name c.in-Some.ensures.rows (ap (option_map kept) rows ∙ h.1)

checked_is : (g : Over) (c : goal.Joined-matches-2 g) (with_content with_data : Bool)
    → Refines (map g.S.AsStr.text c.args.words.now) (flags with_content with_data) → c.task_named.result ≡ checked with_content with_data
checked_is g c with_content with_data h = let k = kept_is g c _ h in
    c.task_named.ensures.check (ap (λ x. x.0) k) with_content with_data (ap (λ x. x.2) k) (ap (λ x. x.3) k)

task_is : (g : Over) (c : goal.Joined-matches-2 g) (task : Task) → AskFor (map g.S.AsStr.text c.args.words.now) task → c.task_named.result ≡ Ok task
task_is g c (Convert many) h = let k = kept_is g c _ (gives _ (Convert many) h) in c.task_named.ensures.convert (ap (λ x. x.0) k) many (ap (λ x. x.4) k)
task_is g c (Show json) h = let k = kept_is g c _ (gives _ (Show json) h) in c.task_named.ensures.show (ap (λ x. x.0) k) json (ap (λ x. x.5) k)
task_is g c (Changes json) h = let k = kept_is g c _ (gives _ (Changes json) h) in c.task_named.ensures.changes (ap (λ x. x.0) k) json (ap (λ x. x.5) k)
task_is g c (Check Nothing) h = checked_is g c false false (gives _ (Check Nothing) h)
task_is g c (Check Content) h = checked_is g c true false (gives _ (Check Content) h)
task_is g c (Check Data) h = checked_is g c false true (gives _ (Check Data) h)
task_is g c (Cover n b) h = let k = kept_is g c _ (gives _ (Cover n b) h) in
    c.task_named.ensures.cover (ap (λ x. x.0) k) h.1 n b (ap (λ x. x.1) k) h.3 (ap (λ x. x.2) k)
task_is g c Same h = c.task_named.ensures.same (ap (λ x. x.0) (kept_is g c _ (gives _ Same h)))

pub returns-clause-asked : goal.returns-clause-asked
returns-clause-asked g c task h = inl (task_is g c task h)

pub returns-clause-both : goal.returns-clause-both
returns-clause-both g c h = inl (checked_is g c true true (both_give _ h))
