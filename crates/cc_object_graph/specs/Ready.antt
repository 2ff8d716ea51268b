-- WHEN THE CODE CAN DO A COMMAND on a graph: the graph is well made, and its numbers fit their types.
use Rattle.std.specs.Prelude.{◌≤◌, Bool, true, false}
use Rattle.cc_model.specs.declared.command.Command.{Command}
use Rattle.cc_model.specs.declared.command.Command.TheVariants.{Native, Script, WeakMap, Proxy, Wrap, SetEntry}
use Rattle.cc_model.specs.Graph.{Graph}
use Rattle.cc_model.specs.WellMade.{IsWellMade}

pub record IsReady (g : Graph) : Type 0 where
  pub well_made : IsWellMade g
  pub natives : g.limits.natives ≤ 1000000
  pub scripts : g.limits.scripts ≤ 1000000

-- whether a command may take memory
abbrev pub may_take_memory : Command → Bool
may_take_memory (Native d n) = true
may_take_memory (Script d n) = true
may_take_memory (WeakMap d) = true
may_take_memory (Proxy d s) = true
may_take_memory (Wrap d s) = true
may_take_memory (SetEntry m k v) = true
may_take_memory _ = false
