-- The command line, as clap's contracts see it: one level of subcommands; and the words that ask
-- for a task.
use Rattle.std.specs.Prelude.{◌≡◌, ◌⊎◌, ◌<◌, ◌^◌, ℕ, codes, Bool, true, false, Some, Result, Ok}
use Rattle.std.specs.Prelude.{Err, List, [], ◌∷◌, if◌then◌else◌}
use Rattle.std.specs.Str.Parse.{IsNumeral, digits_value}
use Rattle.clap.specs.Words.{App, Rule, new_app, new_rule, with_rule}
use Rattle.clap.specs.Simple.{new_shape}
use Rattle.clap.specs.declared.builder.action.ArgAction.TheVariants.{SetTrue}
use Rattle.clap.specs.declared.builder.value_parser.ValueParser.TheVariants.{Unsigned}
use Rattle.cms_cli.specs.declared.task.After.{After}
use Rattle.cms_cli.specs.declared.task.After.TheVariants.{Nothing, Content, Data}
use Rattle.cms_cli.specs.declared.task.NoTask.{NoTask}
use Rattle.cms_cli.specs.declared.task.NoTask.TheVariants.{Usage}
use Rattle.cms_cli.specs.declared.task.Task.{Task}
use Rattle.cms_cli.specs.declared.task.Task.TheVariants.{Convert, Show, Changes, Check, Cover, Same}

-- an option without a value, as `--content`
abbrev pub flag_rule : List ℕ → Rule
flag_rule name = record (new_rule name) { long = Some name; action = Some SetTrue }

--- `signer_rule`, `flag_rule`: the option `--signer` of `cover`; an option without a value, as
---   `--many`, `--json`, `--content` and `--data`
abbrev pub signer_rule : Rule
signer_rule = record
    (new_rule (codes "signer")) {
      long = Some (codes "signer");
      value_names = 1;
      parser = Some (Unsigned 0 18446744073709551615);
      required = true;
    }

--- `convert_app`, `listing_app name`, `check_app`, `cover_app`: the subcommands `convert`, `show`
---   and `changes`, `check` and `cover`; `same` has no options
abbrev pub convert_app : App
convert_app = with_rule (new_app (codes "convert")) (flag_rule (codes "many"))

abbrev pub listing_app : List ℕ → App
listing_app name = with_rule (new_app name) (flag_rule (codes "json"))

abbrev pub check_app : App
check_app = with_rule (with_rule (new_app (codes "check")) (flag_rule (codes "content")))
    (flag_rule (codes "data"))

abbrev pub cover_app : App
cover_app = with_rule (with_rule (new_app (codes "cover")) signer_rule)
    (flag_rule (codes "content"))

--- `bare_program_app`: the program before it has subcommands
abbrev pub bare_program_app : App
bare_program_app =
    let program : App = new_app (codes "cms-canon") in
    record {
      top = record program.top { has_version = true; subcommand_required = true };
      subs = [];
    }

--- `program_app`: the command line as the contracts of `clap` see it: `cms-canon` with one level of
---   subcommands
abbrev pub program_app : App
program_app = record {
  top = record bare_program_app.top { is_leaf = false };
  subs = convert_app.top ∷ (listing_app (codes "show")).top ∷ (listing_app (codes "changes")).top
      ∷ check_app.top ∷ cover_app.top ∷ new_shape (codes "same") ∷ [];
}

--- `IsNumber digits n`: `digits` are decimal digits of the number `n`, which `u64` holds
abbrev pub IsNumber : List ℕ → ℕ → Type 0
IsNumber digits n = IsNumeral 10 digits × (digits_value 10 digits ≡ n) × (n < 2 ^ 64)

--- `flag_text`: how `clap` keeps whether a flag was given
abbrev pub flag_text : Bool → List ℕ
flag_text c = if c then codes "true" else codes "false"

--- `checked content data`: what `check` comes to, with `--content` and `--data` or without: both
---   together are not understood
abbrev pub checked : Bool → Bool → Result Task NoTask
checked false false = Ok (Check Nothing)
checked true false = Ok (Check Content)
checked false true = Ok (Check Data)
checked true true = Err Usage

-- The words of each command, the program's name first.

--- `convert_words p many`: the words of `convert`, with `--many` or without, the name of the
---   program first
abbrev pub convert_words : List ℕ → Bool → List (List ℕ)
convert_words p many = p ∷ codes "convert" ∷ (if many then codes "--many" ∷ [] else [])

--- `listing_words p name json`: the words of `show` and `changes`, with `--json` or without
abbrev pub listing_words : List ℕ → List ℕ → Bool → List (List ℕ)
listing_words p name json = p ∷ name ∷ (if json then codes "--json" ∷ [] else [])

--- `check_words p after`: the words of `check`, by what follows the message
abbrev pub check_words : List ℕ → After → List (List ℕ)
check_words p Nothing = p ∷ codes "check" ∷ []
check_words p Content = p ∷ codes "check" ∷ codes "--content" ∷ []
check_words p Data = p ∷ codes "check" ∷ codes "--data" ∷ []

--- `cover_words p digits content`: the words of `cover`
abbrev pub cover_words : List ℕ → List ℕ → Bool → List (List ℕ)
cover_words p digits content =
    p ∷ codes "cover" ∷ codes "--signer" ∷ digits ∷ (if content then codes "--content" ∷ [] else [])

--- `AskFor words task`: the words ask for the task: they are those of its command
abbrev pub AskFor : List (List ℕ) → Task → Type 0
AskFor words (Convert many) = (p : List ℕ) × (words ≡ convert_words p many)
AskFor words (Show json) = (p : List ℕ) × (words ≡ listing_words p (codes "show") json)
AskFor words (Changes json) = (p : List ℕ) × (words ≡ listing_words p (codes "changes") json)
AskFor words (Check after) = (p : List ℕ) × (words ≡ check_words p after)
AskFor words (Cover signer content) =
    (p : List ℕ) × (digits : List ℕ) × (words ≡ cover_words p digits content)
    × IsNumber digits signer
AskFor words Same = (p : List ℕ) × (words ≡ p ∷ codes "same" ∷ [])

--- `AskForBoth words`: the words ask `check` for both `--content` and `--data`, in either order
abbrev pub AskForBoth : List (List ℕ) → Type 0
AskForBoth words =
    (p : List ℕ) × ((words ≡ p ∷ codes "check" ∷ codes "--content" ∷ codes "--data" ∷ [])
    ⊎ (words ≡ p ∷ codes "check" ∷ codes "--data" ∷ codes "--content" ∷ []))
