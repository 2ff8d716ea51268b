use Rattle.std.proofs.Common.{◌∙◌, List, map, ap, sym}
use Rattle.clap.specs.Words.{App, Text}
use Rattle.clap.specs.Faults.{fault_of, is_simple_and_free}
use Rattle.cc_replay.proofs.GivenWords.{app_is_free, taken}
use Rattle.cc_replay.proofs.words.matches_of.Goals as goal

pub returns-in-Ok-try_get_matches_from-clause-taken :
    goal.returns-in-Ok-try_get_matches_from-clause-taken
returns-in-Ok-try_get_matches_from-clause-taken c =
    let words : List Text = map (λ w. w.now) c.args.words.now in
    let is_app = c.in-Ok.ensures in
    taken words (ap (λ (a : App). fault_of a words) (sym is_app) ∙ c.in-Ok-try_get_matches_from.ensures.kinds (ap is_simple_and_free is_app ∙ app_is_free))
