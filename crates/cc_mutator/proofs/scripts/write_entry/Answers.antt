use Rattle.std.proofs.Common.{◌≡◌, true, sym, subst}
use Rattle.cc_model.specs.Checks.{is_map_in}
use Rattle.cc_model.specs.Heap.{objects_of}
use Rattle.cc_heaps.proofs.EntryNames.{is_map-named}
use Rattle.cc_mutator.proofs.scripts.write_entry.Goals as goal

pub set_entry-requires-clause-the_map : goal.set_entry-requires-clause-the_map
set_entry-requires-clause-the_map c =
    let v = c.args.heaps.now in
    (is_map-named c.requires.order.0 v c.requires.order.1 c.in-Some.the_map.0 c.in-Some.ensures.there).0
    (subst (λ x. is_map_in (objects_of v.heap) x ≡ true) (sym c.in-Some.ensures.name) c.requires.the_map)

pub unset_entry-requires-clause-the_map : goal.unset_entry-requires-clause-the_map
unset_entry-requires-clause-the_map c =
    let v = c.args.heaps.now in
    (is_map-named c.requires.order.0 v c.requires.order.1 c.in-Some.the_map.0 c.in-Some.ensures.there).0
    (subst (λ x. is_map_in (objects_of v.heap) x ≡ true) (sym c.in-Some.ensures.name) c.requires.the_map)

pub returns-in-Some-value-clause-keys : goal.returns-in-Some-value-clause-keys
returns-in-Some-value-clause-keys c = c.set_entry.ensures.kept.keys

pub returns-in-Some-value-clause-order : goal.returns-in-Some-value-clause-order
returns-in-Some-value-clause-order c = c.set_entry.ensures.kept.order

pub returns-in-Some-value-clause-marks : goal.returns-in-Some-value-clause-marks
returns-in-Some-value-clause-marks c = c.set_entry.ensures.kept.marks

pub returns-in-None-clause-keys : goal.returns-in-None-clause-keys
returns-in-None-clause-keys c = c.unset_entry.ensures.kept.keys

pub returns-in-None-clause-order : goal.returns-in-None-clause-order
returns-in-None-clause-order c = c.unset_entry.ensures.kept.order

pub returns-in-None-clause-marks : goal.returns-in-None-clause-marks
returns-in-None-clause-marks c = c.unset_entry.ensures.kept.marks

pub returns-in-Some-value-clause-marking : goal.returns-in-Some-value-clause-marking
returns-in-Some-value-clause-marking c = c.set_entry.ensures.marks.by_names

pub returns-in-None-clause-marking : goal.returns-in-None-clause-marking
returns-in-None-clause-marking c = c.unset_entry.ensures.marks.by_names
