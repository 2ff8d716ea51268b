use Rattle.std.specs.Prelude.{slice_get}
use Rattle.cc_repair.proofs.TouchedKeys.{node-key, node-script, only-natives, touched-native, touched-script}
use Rattle.cc_repair.proofs.touched.is_touched.Goals as goal

pub is_buffered-requires-clause-held : goal.is_buffered-requires-clause-held
is_buffered-requires-clause-held c = node-key c.args.graph.now c.args.heaps.now c.requires.held c.args.i c.node-name.result.0 c.node-name.result.1
    c.in-Native-name.number c.in-Native.key c.node-name.ensures.name c.node-name.ensures.held c.in-Native-name.is c.in-Native.is

pub is_exposed-requires : goal.is_exposed-requires
is_exposed-requires c = record {
  there = node-script c.args.graph.now c.args.heaps.now c.requires.held c.args.i c.node-name.result.0 c.node-name.result.1 c.in-Script.key
      c.node-name.ensures.name c.node-name.ensures.held c.in-Script.is;
}

pub returns-in-Native-name : goal.returns-in-Native-name
returns-in-Native-name c = touched-native c.args.heaps.now (slice_get c.args.graph.now.nodes c.args.i) c.node-name.result.0 c.in-Native-name.number c.is_buffered.result
    c.node-name.ensures.name c.in-Native-name.is c.is_buffered.ensures

pub returns-in_default : goal.returns-in_default
returns-in_default c = absurd (only-natives c.args.graph.now c.args.heaps.now c.requires.held c.args.i c.node-name.result.0 c.node-name.result.1 c.in-Native.key
    c.node-name.ensures.name c.node-name.ensures.held c.in-Native.is c.in_default.not-Native)

pub returns-in-Script : goal.returns-in-Script
returns-in-Script c = touched-script c.args.graph.now c.args.heaps.now c.requires.order c.requires.held c.args.i c.node-name.result.0 c.node-name.result.1 c.in-Script.key
    c.is_exposed.result c.node-name.ensures.name c.node-name.ensures.held c.in-Script.is c.is_exposed.ensures
