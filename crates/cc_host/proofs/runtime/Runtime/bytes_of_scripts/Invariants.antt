use Rattle.std.proofs.Common.{◌≡◌, ◌+◌, length}
use Rattle.std.specs.Prelude.{sum_by}
use Rattle.cc_heaps.specs.Changes.{IsScriptThere}
use Rattle.cc_host.proofs.WalksScripts.{scripts_from}
use Rattle.cc_host.proofs.WalksBytes.{bytes_of_object}
use Rattle.cc_host.proofs.runtime.Runtime.bytes_of_scripts.Given as goal

abbrev pub invariant-loop-at : goal.invariant-loop-at
invariant-loop-at l = record {
  there : IsScriptThere l.self.heaps l.at;
  counted : l.sum + sum_by bytes_of_object (scripts_from l.self.heaps l.at) ≡ sum_by bytes_of_object l.self.heaps.scripts;
}

abbrev pub decreases-loop-at : goal.decreases-loop-at
decreases-loop-at l = length (scripts_from l.self.heaps l.at)
