use Rattle.std.proofs.Common.{sym, ◌∙◌}
use Rattle.cc_script.specs.Parts.{lists_of}
use Rattle.cc_script.proofs.Ordering.{first-shown, live-first}
use Rattle.cc_script.proofs.parts.ScriptParts.first.Goals as goal

pub returns-clause-key : goal.returns-clause-key
returns-clause-key c = let l = lists_of c.args.self.now in c.in_ok-key.ensures l.order c.requires.at_rest.chained.order ∙ sym (first-shown l)

pub returns-clause-live : goal.returns-clause-live
returns-clause-live c = search (live-first, first-shown, c.in_ok-key.ensures)
