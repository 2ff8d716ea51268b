-- Script objects as the code has them.
use Rattle.cc_model.specs.Graph.{GraphScript, plain_object, weak_map, proxy}
use Rattle.cc_object_graph.specs.declared.made_script.MadeScript.{MadeScript}
use Rattle.cc_object_graph.specs.declared.made_script.MadeScript.TheVariants.{Plain, Map, Proxy}

abbrev pub script_made : MadeScript → GraphScript
script_made (Plain slots) = plain_object slots
script_made Map = weak_map
script_made (Proxy d) = proxy d
