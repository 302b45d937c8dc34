-- What a parse keeps of a subcommand: its name, and the texts of the options of this program.
use Rattle.std.proofs.Common.{◌≡◌, List, Option, Some, None, Box, Global, codes, refl, ◌∙◌, ap, ap₂, option_map}
use Rattle.std.specs.Prelude.{unwrap_or}
use Rattle.std.specs.Box.{box_value}
use Rattle.clap.specs.Words.{Row, Text, one_of, one_text, rows_of, subcommand_name_of, subcommand_rows, subcommand_rows_of}
use Rattle.clap.specs.declared.parser.matches.ArgMatches.{ArgMatches}
use Rattle.clap.specs.declared.parser.matches.ArgMatches.TheViews.{out-ArgMatches, out-SubCommand}
use Rattle.clap.specs.declared.parser.matches.Found.{Found}
use Rattle.clap.specs.declared.parser.matches.SubCommand.{SubCommand}
use Rattle.clap.proofs.WalkLemmas.{one_text-rows}

-- a name, and the texts of `--signer`, `--content`, `--data`, `--many` and `--json`
abbrev pub Kept : Type 0
Kept = Text × Option Text × Option Text × Option Text × Option Text × Option Text

abbrev pub kept : Text × List Row → Kept
kept q = (
  q.0,
  one_of (codes "signer") q.1,
  one_of (codes "content") q.1,
  one_of (codes "data") q.1,
  one_of (codes "many") q.1,
  one_of (codes "json") q.1,
)

abbrev pub kept_in : Text → Found → Kept
kept_in name f = (
  name,
  one_text f (codes "signer"),
  one_text f (codes "content"),
  one_text f (codes "data"),
  one_text f (codes "many"),
  one_text f (codes "json"),
)

-- the subcommand's name, from its rows
same_name : (m : ArgMatches) → subcommand_name_of m ≡ option_map (λ q. q.0) (subcommand_rows_of m)
same_name m = go (out-ArgMatches m).subcommand
  where
    go : (o : Option (Box SubCommand Global)) → option_map (λ b. (out-SubCommand (box_value b)).name.now) o ≡ option_map (λ q. q.0) (subcommand_rows o)
    go None = refl
    go (Some b) = refl

-- what is kept of the subcommand that a parse entered
pub entered : (m : ArgMatches) (name : Text) (f : Found) (wanted : Kept) → Some name ≡ subcommand_name_of m
    → Some (rows_of f) ≡ option_map (λ q. q.1) (subcommand_rows_of m) → option_map kept (subcommand_rows_of m) ≡ Some wanted
    → kept_in name f ≡ wanted
entered m name f wanted named rows = go (subcommand_rows_of m) (named ∙ same_name m) rows
  where
    go : (o : Option (Text × List Row)) → Some name ≡ option_map (λ q. q.0) o → Some (rows_of f) ≡ option_map (λ q. q.1) o
        → option_map kept o ≡ Some wanted → kept_in name f ≡ wanted
    go None e k h = absurd cc
    go (Some q) e k h =
        let name_is : name ≡ q.0 = cc in
        let rows_are : rows_of f ≡ q.1 = cc in
        let here : kept_in name f ≡ kept (name, rows_of f) =
        rw (
          one_text-rows f (codes "signer"),
          one_text-rows f (codes "content"),
          one_text-rows f (codes "data"),
          one_text-rows f (codes "many"),
          one_text-rows f (codes "json"),
        ) refl in
        here ∙ ap₂ (λ x y. kept (x, y)) name_is rows_are ∙ ap (λ o. unwrap_or o wanted) h
