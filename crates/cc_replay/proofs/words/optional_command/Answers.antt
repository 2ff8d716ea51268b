use Rattle.std.proofs.Common.{◌≡◌, ◌∙◌, true, ap, ap₂, refl}
use Rattle.std.proofs.lemmas.Result.{IfOk-weaker}
use Rattle.clap.specs.Words.{AddsSubcommand, App, app_of, with_subcommand}
use Rattle.clap.specs.declared.builder.command.Command.{Command}
use Rattle.clap.proofs.SimpleLemmas.{plain_fields}
use Rattle.cc_replay.specs.Words.{check_app, make_app, replay_app}
use Rattle.cc_replay.proofs.words.optional_command.Goals as goal

-- one more subcommand, which has no globals
added : (old sub new : Command) (a s : App) → AddsSubcommand old sub new → app_of old ≡ a → app_of sub ≡ s → s.top.is_plain ≡ true → app_of new ≡ with_subcommand a s.top
added old sub new a s adds is_old is_sub plain =
    adds.shape (plain_fields sub (ap (λ (x : App). x.top.is_plain) is_sub ∙ plain)).globals ∙ ap₂ with_subcommand is_old (ap (λ (x : App). x.top) is_sub)

pub returns : goal.returns
returns c =
    let replay = added _ _ _ _ replay_app c.in_ok-subcommand.ensures c.new.ensures.app c.in_ok-replay.ensures refl in
    let make = added _ _ _ _ make_app c.in_ok-subcommand-2.ensures replay c.in_ok-make.ensures refl in
    IfOk-weaker c.subcommand-3.result _ _ (λ m adds. added _ _ _ _ check_app adds make c.in_ok-check.ensures refl) c.subcommand-3.ensures
