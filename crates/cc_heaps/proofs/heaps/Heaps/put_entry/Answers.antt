use Rattle.std.proofs.Common.{option_map, sym, ◌∙◌, subst, refl}
use Rattle.std.specs.Prelude.{IsTrue}
use Rattle.std.proofs.lemmas.Result.{on_ok_weaker}
use Rattle.cc_weakmaps.specs.Entries.{has_value_in}
use Rattle.cc_heaps.specs.Keyed.{Keyed}
use Rattle.cc_heaps.proofs.EntriesSet.{becomes-set, map-there, order-set}
use Rattle.cc_heaps.proofs.EntryNames.{has_value-named}
use Rattle.cc_heaps.proofs.MarksKept.{marks-stay}
use Rattle.cc_heaps.proofs.heaps.Heaps.put_entry.Goals as goal

pub returns-clause-heap : goal.returns-clause-heap
returns-clause-heap c =
    let p = c.self.inside in
    on_ok_weaker c.set.result (λ e. rw (← c.self.view_is)
    ((becomes-set p c.self.invariant (rw (← c.self.view_is) at c.requires.order).1 c.args.the_map.0 c.args.key.0 (rw (← c.self.view_is) at c.requires.the_map)
    (rw (← c.self.view_is) at c.requires.key) c.args.value.0 (rw (← c.self.view_is) at c.requires.value) (option_map (λ k. k.0) c.delegate.result) c.delegate.ensures.delegate c.set.new.self e).heap)) c.set.ensures.entries

pub returns-clause-in_place : goal.returns-clause-in_place
returns-clause-in_place c some =
    let v = c.args.self.now in
    let f = c.requires.order in
    c.set.ensures.in_place (subst (λ (w : Keyed). IsTrue (has_value_in w.entries c.args.the_map.0 c.args.key.0)) (sym c.self.view_is) (sym (has_value-named f.0 v f.1 c.args.the_map.0 c.args.key.0 (map-there v.scripts c.args.the_map.0 c.requires.the_map) c.requires.key) ∙ some))

pub returns-clause-order : goal.returns-clause-order
returns-clause-order c owned =
    rw (← c.self.view_is)
    (λ o. order-set c.self.inside c.self.invariant o c.args.the_map.0 c.args.key.0 (rw (← c.self.view_is) at c.requires.the_map)
    (rw (← c.self.view_is) at c.requires.key) c.args.value.0 (rw (← c.self.view_is) at c.requires.value) (option_map (λ k. k.0) c.delegate.result) c.delegate.ensures.delegate c.set.new.self c.set.result c.set.ensures.entries c.set.ensures.err)

pub returns-clause-marks : goal.returns-clause-marks
returns-clause-marks c = rw (← c.self.view_is) (marks-stay _ _ refl refl)
