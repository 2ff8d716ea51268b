use Rattle.std.proofs.Common.{◌≡◌, ◌<◌, ◌++◌, ◌∷◌, [], length, map, reverse, vec_len}
use Rattle.cc_model.specs.declared.item.Item.TheVariants.{Listed, Reply as of_reply}
use Rattle.cc_check.proofs.reciting.list.Given as goal

-- what is left and what was put, from the last to the first, are the whole answer
abbrev pub invariant-loop-name : goal.invariant-loop-name
invariant-loop-name l = record {
  items : map Listed l.names.items ++ reverse l.recital.items ≡ map Listed l.fn.names.items ++ of_reply l.fn.reply ∷ [];
  some : 0 < length l.recital.items;
}

abbrev pub decreases-loop-name : goal.decreases-loop-name
decreases-loop-name l = vec_len l.names
