-- What clap makes of the words of each task.
use Rattle.std.proofs.Common.{◌≡◌, [], ◌∷◌, List, ℕ, Bool, true, false, Some, None, codes, refl, arith, inl, inr, option_map}
use Rattle.std.proofs.lemmas.Str.Parse.{digit_from_value}
use Rattle.clap.specs.Words.{Text, is_simple, subcommand_of, takes}
use Rattle.clap.proofs.OnLiterals.{clap_on_literals}
use Rattle.cms_cli.specs.declared.task.After.TheVariants.{Nothing, Content, Data}
use Rattle.cms_cli.specs.declared.task.Task.{Task}
use Rattle.cms_cli.specs.declared.task.Task.TheVariants.{Convert, Show, Changes, Check, Cover, Same}
use Rattle.cms_cli.specs.CommandLine.{program_app, AskFor, AskForBoth, IsNumber, cover_words, flag_text}
use Rattle.cms_cli.proofs.Entered.{Kept, kept}
use Rattle.cms_cli.proofs.CoverWords.{reads as reads_cover, taken as taken_cover, accepted}

pub simple : is_simple program_app ≡ true
unfolding clap_on_literals
simple = refl

-- the words are taken, and this is kept of them
abbrev pub Refines : List Text → Kept → Type 0
Refines words k = (takes program_app words ≡ true) × (option_map kept (subcommand_of program_app words) ≡ Some k)

abbrev pub plain : Text → Kept
plain name = (name, None, None, None, None, None)

abbrev pub flags : Bool → Bool → Kept
flags with_content with_data = (codes "check", None, Some (flag_text with_content), Some (flag_text with_data), None, None)

abbrev pub many_flag : Bool → Kept
many_flag many = (codes "convert", None, None, None, Some (flag_text many), None)

abbrev pub json_flag : Text → Bool → Kept
json_flag name json = (name, None, None, None, None, Some (flag_text json))

-- what is kept of the words of a task
abbrev pub kept_of : (words : List Text) (task : Task) → AskFor words task → Kept
kept_of words (Convert many) h = many_flag many
kept_of words (Show json) h = json_flag (codes "show") json
kept_of words (Changes json) h = json_flag (codes "changes") json
kept_of words (Check Nothing) h = flags false false
kept_of words (Check Content) h = flags true false
kept_of words (Check Data) h = flags false true
kept_of words (Cover n b) h = (codes "cover", Some h.1, Some (flag_text b), None, None, None)
kept_of words Same h = plain (codes "same")

cover_gives : (p digits : Text) (n : ℕ) (b : Bool) → IsNumber digits n
    → Refines (cover_words p digits b) (codes "cover", Some digits, Some (flag_text b), None, None, None)
cover_gives p [] n b h = absurd (let l = h.0.0 in omega arith)
cover_gives p (d ∷ ds) n b h =
    let digit = digit_from_value d h.0.1.0 in
    (taken_cover d digit.0 digit.1 p ds b (accepted d ds n digit.0 h), reads_cover d digit.0 digit.1 p ds b)

pub gives : (words : List Text) (task : Task) (h : AskFor words task) → Refines words (kept_of words task h)
unfolding clap_on_literals
gives words (Convert true) h = rw (h.1) (refl, refl)
gives words (Convert false) h = rw (h.1) (refl, refl)
gives words (Show true) h = rw (h.1) (refl, refl)
gives words (Show false) h = rw (h.1) (refl, refl)
gives words (Changes true) h = rw (h.1) (refl, refl)
gives words (Changes false) h = rw (h.1) (refl, refl)
gives words (Check Nothing) h = rw (h.1) (refl, refl)
gives words (Check Content) h = rw (h.1) (refl, refl)
gives words (Check Data) h = rw (h.1) (refl, refl)
gives words (Cover n b) h = rw (h.2) (cover_gives h.0 h.1 n b h.3)
gives words Same h = rw (h.1) (refl, refl)

pub both_give : (words : List Text) → AskForBoth words → Refines words (flags true true)
unfolding clap_on_literals
both_give words h = elim h.1 [
  | inl e ↦ rw (e) (refl, refl)
  | inr e ↦ rw (e) (refl, refl)
]
