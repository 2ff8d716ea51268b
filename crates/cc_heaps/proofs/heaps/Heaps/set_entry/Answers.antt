use Rattle.std.proofs.Common.{◌≡◌, Some, ap, ◌∙◌}
use Rattle.cc_model.specs.Effects.{set_entry}
use Rattle.cc_counted.specs.declared.held.Held.TheVariants as held
use Rattle.cc_script.specs.Objects.{name_at}
use Rattle.cc_heaps.specs.Keyed.{Keyed}
use Rattle.cc_heaps.specs.Changes.{IsBlackHeld}
use Rattle.cc_heaps.proofs.Kept.{KeepsAll-same, KeepsAll-if_black, KeepsKeys-held}
use Rattle.cc_heaps.proofs.EntriesFollow.{SetKeeps, entry-keeps, set-preserved}
use Rattle.cc_heaps.proofs.EntriesSet.{map-there}
use Rattle.cc_heaps.proofs.FewCounts.{few-owned}
use Rattle.cc_heaps.proofs.Following.{held_name-black}
use Rattle.cc_heaps.proofs.MarksKept.{marks-go_on, marks-stay-changed, marks-stay-then}
use Rattle.cc_heaps.proofs.heaps.Heaps.set_entry.Goals as goal

-- Memory was wanting

pub returns-in_err-put_entry-clause-kept : goal.returns-in_err-put_entry-clause-kept
returns-in_err-put_entry-clause-kept c =
    let v = c.args.self.now in
    KeepsAll-if_black (IsBlackHeld v (Some (held.Script c.args.key)) × IsBlackHeld v (Some (held.Script c.args.value))) v c.put_entry.new.self
    (KeepsAll-same v c.put_entry.new.self c.in_err-put_entry.ensures.same)

-- It was not

pub preserve-requires-clause-order : goal.preserve-requires-clause-order
preserve-requires-clause-order c = let f = c.requires.order in (f.0, c.put_entry.ensures.order f.0 f.1)

heap-is : (c : goal.After-preserve) →
    c.preserve.new.self.heap ≡ set_entry c.args.self.now.heap (name_at c.args.self.now.scripts c.args.the_map.0) (name_at c.args.self.now.scripts c.args.key.0) (name_at c.args.self.now.scripts c.args.value.0)
heap-is c =
    let v = c.args.self.now in
    set-preserved v c.put_entry.new.self c.preserve.new.self c.args.the_map.0 c.args.key.0 c.args.value.0
    (map-there v.scripts c.args.the_map.0 c.requires.the_map) c.requires.key c.requires.value c.in_ok-put_entry.ensures.heap c.put_entry.ensures.scripts c.preserve.ensures.heap

keeps : (c : goal.After-preserve) →
    SetKeeps c.args.self.now.heap c.preserve.new.self.heap (name_at c.args.self.now.scripts c.args.the_map.0) (name_at c.args.self.now.scripts c.args.key.0) (name_at c.args.self.now.scripts c.args.value.0)
keeps c =
    let f = c.requires.order in
    entry-keeps c.args.self.now c.preserve.new.self f.1 (c.preserve.ensures.order f.0 (c.put_entry.ensures.order f.0 f.1)) c.args.the_map.0 c.args.key.0 c.requires.the_map c.requires.key
    (Some c.args.value.0) c.requires.value (heap-is c)

pub returns-clause-heap : goal.returns-clause-heap
returns-clause-heap c = heap-is c

pub returns-clause-stands : goal.returns-clause-stands
returns-clause-stands c = (keeps c).stands

pub returns-clause-marks : goal.returns-clause-marks
returns-clause-marks c = marks-stay-then c.put_entry.ensures.marks (marks-stay-changed c.put_entry.new.self c.preserve.new.self _ c.preserve.ensures.heap)

pub returns-clause-kept : goal.returns-clause-kept
returns-clause-kept c = record {
  keys = KeepsKeys-held c.args.self.now c.preserve.new.self
      (ap (λ (w : Keyed). w.keys) c.preserve.ensures.heap ∙ c.put_entry.ensures.natives)
      (ap (λ (w : Keyed). w.scripts) c.preserve.ensures.heap ∙ c.put_entry.ensures.scripts);
  order = λ owned o. (c.preserve.ensures.order owned (c.put_entry.ensures.order owned o));
  counts = few-owned c.preserve.new.self;
  colours = (keeps c).colours;
  fresh = λ b. (let v = c.args.self.now in
      let f = c.requires.order in
      (keeps c).fresh (held_name-black f.0 v f.1 (Some (held.Script c.args.key)) b.0) (held_name-black f.0 v f.1 (Some (held.Script c.args.value)) b.1));
  suspected = (keeps c).suspected;
  marks = marks-go_on (returns-clause-marks c);
}

pub returns-in_err-put_entry-clause-marks : goal.returns-in_err-put_entry-clause-marks
returns-in_err-put_entry-clause-marks c = c.put_entry.ensures.marks
