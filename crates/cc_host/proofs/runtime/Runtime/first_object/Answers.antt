use Rattle.std.proofs.Common.{◌++◌, map, ◌∙◌, ap, subst}
use Rattle.std.specs.List.{filter}
use Rattle.cc_lists.specs.Walks.{first_of}
use Rattle.cc_model.specs.Given.{is_living}
use Rattle.cc_model.specs.WellFormed.{script_names}
use Rattle.cc_heaps.specs.Keyed.{counts_of}
use Rattle.cc_host.specs.Hosted.{Hosted, IsKept}
use Rattle.cc_host.proofs.WalksNatives.{name_in, natives-first}
use Rattle.cc_host.proofs.WalksWhole.{first-taken, objects-once, objects-whole}
use Rattle.cc_host.proofs.runtime.Runtime.first_object.Goals as goal

pub returns-clause-name : goal.returns-clause-name
returns-clause-name c =
    let v = c.args.self.now.heaps in
    let o = (subst IsKept c.self.view_is c.self.invariant).runs.order in
    let is = c.counted.ensures ∙ ap (λ (h : Hosted). counts_of h.heaps) c.self.view_is in
    c.first_from.ensures.name
    ∙ ap (λ ns. first_of (map name_in (filter is_living ns) ++ script_names v.heap)) (natives-first v o c.counted.result.now is c.first.result c.first.ensures.number)

pub returns-clause-taken : goal.returns-clause-taken
returns-clause-taken c =
    first-taken c.args.self.now (subst IsKept c.self.view_is c.self.invariant) c.first_from.result c.first_from.ensures.there
    (returns-clause-name c)

pub returns-clause-whole : goal.returns-clause-whole
returns-clause-whole c x none = objects-whole c.args.self.now (subst IsKept c.self.view_is c.self.invariant) x none

pub returns-clause-once : goal.returns-clause-once
returns-clause-once c x = objects-once c.args.self.now.heaps.heap (subst IsKept c.self.view_is c.self.invariant).runs.order.sound.well_formed x
