use Rattle.std.proofs.Common.{None, refl, List, ℕ}
use Rattle.cc_script.specs.Objects.{name_at}
use Rattle.cc_heaps.specs.Fields.{heap_of, keyed_of}
use Rattle.cc_heaps.specs.Keyed.{IsInOrder}
use Rattle.cc_heaps.proofs.Kept.{KeepsKeys-held}
use Rattle.cc_heaps.proofs.EntriesFollow.{SetKeeps, entry-keeps}
use Rattle.cc_heaps.proofs.EntriesSet.{becomes-unset, with_weak}
use Rattle.cc_heaps.proofs.FewCounts.{few-owned}
use Rattle.cc_heaps.proofs.MarksKept.{marks-go_on, marks-stay}
use Rattle.cc_heaps.proofs.heaps.Heaps.unset_entry.Goals as goal

pub returns-clause-heap : goal.returns-clause-heap
returns-clause-heap c =
    rw (← c.self.view_is) ((becomes-unset c.self.inside c.self.invariant (rw (← c.self.view_is) at c.requires.order).1 c.args.the_map.0 c.args.key.0 (rw (← c.self.view_is) at c.requires.the_map) (rw (← c.self.view_is) at c.requires.key) c.unset.new.self c.unset.ensures.entries).heap)

in_order : (c : goal.After-unset) (owned : List ℕ) → IsInOrder owned c.args.self.now → IsInOrder owned (keyed_of (with_weak c.self.inside c.unset.new.self))
in_order c owned = rw (← c.self.view_is)
    (λ o. (becomes-unset c.self.inside c.self.invariant o c.args.the_map.0 c.args.key.0 (rw (← c.self.view_is) at c.requires.the_map) (rw (← c.self.view_is) at c.requires.key) c.unset.new.self c.unset.ensures.entries).order)

keeps : (c : goal.After-unset) →
    SetKeeps c.args.self.now.heap (heap_of (with_weak c.self.inside c.unset.new.self)) (name_at c.args.self.now.scripts c.args.the_map.0) (name_at c.args.self.now.scripts c.args.key.0) None
keeps c =
    let f = c.requires.order in
    entry-keeps c.args.self.now _ f.1 (in_order c f.0 f.1) c.args.the_map.0 c.args.key.0 c.requires.the_map c.requires.key None tt (returns-clause-heap c)

pub returns-clause-stands : goal.returns-clause-stands
returns-clause-stands c the_map key = (keeps c).stands the_map key tt

pub returns-clause-marks : goal.returns-clause-marks
returns-clause-marks c = rw (← c.self.view_is) (marks-stay (keyed_of c.self.inside) (keyed_of (with_weak c.self.inside c.unset.new.self)) refl refl)

pub returns-clause-kept : goal.returns-clause-kept
returns-clause-kept c = record {
  keys = rw (← c.self.view_is) (KeepsKeys-held (keyed_of c.self.inside) (keyed_of (with_weak c.self.inside c.unset.new.self)) refl refl);
  order = in_order c;
  counts = few-owned _;
  colours = (keeps c).colours;
  fresh = (keeps c).fresh_without refl;
  suspected = (keeps c).suspected;
  marks = marks-go_on (returns-clause-marks c);
}
