use Rattle.std.proofs.Common.{◌≡◌, ◌<◌, ◌++◌, ◌∷◌, [], length, map, reverse, vec_len}
use Rattle.cc_model.specs.declared.item.Item.TheVariants.{Reply as of_reply}
use Rattle.cc_model.specs.Answers.{item_of_step}
use Rattle.cc_check.proofs.reciting.explain.Given as goal

-- what is left and what was put, from the last to the first, are the whole answer
abbrev pub invariant-loop-step : goal.invariant-loop-step
invariant-loop-step l = record {
  items : map item_of_step l.steps.items ++ reverse l.recital.items ≡ map item_of_step l.fn.steps.items ++ of_reply l.fn.reply ∷ [];
  some : 0 < length l.recital.items;
}

abbrev pub decreases-loop-step : goal.decreases-loop-step
decreases-loop-step l = vec_len l.steps
