use Rattle.std.proofs.Common.{refl}
use Rattle.cc_builder.specs.Building.{vertex_name}
use Rattle.cc_builder.proofs.BuildReads.{node-read_in, node-key}
use Rattle.cc_builder.proofs.NotedObjects.{note-gone, key-there, key-name}
use Rattle.cc_builder.proofs.build.Build.object_of.Goals as goal

pub returns-in-None-clause-gone : goal.returns-in-None-clause-gone
returns-in-None-clause-gone c = λ _.
    let n = node-read_in c.self.view_is c.args.node c.node-held.ensures.name c.node-held.ensures.held in
    let key = node-key c.args.self.now c.args.heaps.now c.requires.held n c.in-Native.is in
    note-gone c.args.heaps.now.heap (vertex_name c.args.self.now.graph.nodes c.args.node) key.0 (c.in-None.ensures.gone refl)

pub returns-in-Script-clause-there : goal.returns-in-Script-clause-there
returns-in-Script-clause-there c =
    let n = node-read_in c.self.view_is c.args.node c.node-held.ensures.name c.node-held.ensures.held in
    key-there c.args.heaps.now c.in-Script.key _ (node-key c.args.self.now c.args.heaps.now c.requires.held n c.in-Script.is)

pub returns-in-Script-clause-name : goal.returns-in-Script-clause-name
returns-in-Script-clause-name c =
    let n = node-read_in c.self.view_is c.args.node c.node-held.ensures.name c.node-held.ensures.held in
    key-name c.args.heaps.now c.in-Script.key _ (node-key c.args.self.now c.args.heaps.now c.requires.held n c.in-Script.is)
