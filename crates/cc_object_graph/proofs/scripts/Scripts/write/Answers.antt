use Rattle.std.proofs.Common.{arith}
use Rattle.cc_model.specs.Graph.{with_script_slot}
use Rattle.cc_object_graph.specs.Made.{script_made}
use Rattle.cc_object_graph.proofs.NumberedLists.{map_changed}
use Rattle.cc_object_graph.proofs.scripts.Scripts.write.Goals as goal

pub returns-in-Some : goal.returns-in-Some
returns-in-Some c = rw (← c.self.view_is) (map_changed script_made (with_script_slot c.args.i c.args.content) _ _ _ _ _ c.in-Some.ensures.place.0 (omega (arith, c.in-Some.ensures.place.1, c.self.inside.items.ok.0)) c.index_mut-object.ensures.value c.write.ensures)
