use Rattle.std.proofs.Common.{◌≡◌, [], Some, List, ◌∙◌, ap, subst}
use Rattle.cc_model.specs.Checks.{value_at}
use Rattle.cc_model.specs.Heap.{objects_of}
use Rattle.cc_weakmaps.specs.Entries.{KeyedEntry, value_in}
use Rattle.cc_heaps.specs.Changes.{IsScriptThere, script_name}
use Rattle.cc_heaps.proofs.EntryNames.{value-read}
use Rattle.cc_host.specs.Hosted.{Hosted, IsKept}
use Rattle.cc_host.proofs.runtime.Runtime.entry.Goals as goal
use Rattle.cc_host.proofs.runtime.Runtime.entry.Goals.{After-get}

read : (c : After-get) → (script_name c.args.self.now.heaps c.get.result ≡ value_at (objects_of c.args.self.now.heaps.heap) (script_name c.args.self.now.heaps (Some c.in_ok-the_map.the_map)) (script_name c.args.self.now.heaps (Some c.in_ok-key.key))) × IsScriptThere c.args.self.now.heaps c.get.result
read c =
    let kept : IsKept c.args.self.now = subst IsKept c.self.view_is c.self.invariant in
    let m = c.in_ok-the_map in
    let k = c.in_ok-key in
    value-read [] c.args.self.now.heaps kept.runs.order m.the_map.0 k.key.0 m.ensures.live k.ensures.live c.get.result
    (c.get.ensures ∙ (ap (λ (es : List KeyedEntry). value_in es m.the_map.0 k.key.0) c.weak.ensures
    ∙ ap (λ (h : Hosted). value_in h.heaps.entries m.the_map.0 k.key.0) c.self.view_is))

pub of_script-requires : goal.of_script-requires
of_script-requires c = (read c).1

pub returns-clause-value : goal.returns-clause-value
returns-clause-value c =
    c.of_script.ensures.name ∙ ((read (goal.at.returns-clause-value c).After-get).0
    ∙ (λ i. value_at (objects_of c.args.self.now.heaps.heap) (c.in_ok-the_map.ensures.name i) (c.in_ok-key.ensures.name i)))
