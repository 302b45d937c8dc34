use Rattle.std.proofs.Common.{◌≡◌, ◌∙◌, ap₂, false}
use Rattle.std.proofs.lemmas.Result.{IfOk-weaker}
use Rattle.clap.specs.Words.{AddsSubcommand, App, app_of, with_subcommand}
use Rattle.clap.specs.declared.builder.command.Command.{Command}
use Rattle.clap.specs.declared.builder.command.Command.TheViews.{out-Command}
use Rattle.cms_cli.proofs.task.command.Goals as goal

-- one more subcommand
more : (old sub new : Command) (a s : App) → app_of old ≡ a → app_of sub ≡ s → (out-Command sub).has_globals ≡ false
    → AddsSubcommand old sub new → app_of new ≡ with_subcommand a s.top
more old sub new a s is sub_is local h = h.shape local ∙ ap₂ (λ x y. with_subcommand x y.top) is sub_is

pub returns : goal.returns
returns c =
    let convert =
    more _ _ _ _ _ c.bare_command.ensures.app c.in_ok-convert_command.ensures.app c.in_ok-convert_command.ensures.local
    c.in_ok-subcommand.ensures in
    let show =
    more _ _ _ _ _ convert c.in_ok-listing_command.ensures.app c.in_ok-listing_command.ensures.local c.in_ok-subcommand-2.ensures in
    let changes =
    more _ _ _ _ _ show c.in_ok-listing_command-2.ensures.app c.in_ok-listing_command-2.ensures.local c.in_ok-subcommand-3.ensures in
    let check = more _ _ _ _ _ changes c.in_ok-check_command.ensures.app c.in_ok-check_command.ensures.local c.in_ok-subcommand-4.ensures in
    let cover = more _ _ _ _ _ check c.in_ok-cover_command.ensures.app c.in_ok-cover_command.ensures.local c.in_ok-subcommand-5.ensures in
    IfOk-weaker c.subcommand-6.result _ _ (λ r h. more _ _ _ _ _ cover c.plain_command.ensures.app c.plain_command.ensures.local h) c.subcommand-6.ensures
