use Rattle.std.proofs.Common.{◌∙◌, ap₂}
use Rattle.std.proofs.lemmas.Result.{IfOk-weaker}
use Rattle.clap.specs.Words.{with_rule}
use Rattle.cc_replay.proofs.words.check_command.Goals as goal

pub returns : goal.returns
returns c =
    let script = c.in_ok-arg.ensures.shape c.script_argument.ensures.local ∙ ap₂ with_rule c.new.ensures.app c.script_argument.ensures.rule in
    let natives = c.in_ok-arg-2.ensures.shape c.natives_option.ensures.local ∙ ap₂ with_rule script c.natives_option.ensures.rule in
    let scripts = c.in_ok-arg-3.ensures.shape c.scripts_option.ensures.local ∙ ap₂ with_rule natives c.scripts_option.ensures.rule in
    IfOk-weaker c.arg-4.result _ _ (λ m h. h.shape c.bytes_option.ensures.local ∙ ap₂ with_rule scripts c.bytes_option.ensures.rule) c.arg-4.ensures
