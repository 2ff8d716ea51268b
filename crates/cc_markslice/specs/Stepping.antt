-- WHAT ONE STEP OF A MARKING DOES, by its answer: it scans an object, or it ends the marking where none is left to scan.
use Rattle.std.specs.Prelude.{◌≡◌, true, false, List, None, Some, map, IsTrue}
use Rattle.cc_lists.specs.Members.{Among}
use Rattle.cc_names.specs.declared.name.Name.{Name}
use Rattle.cc_names.specs.Names.{is_script}
use Rattle.cc_model.specs.declared.item.Event.{Event}
use Rattle.cc_model.specs.declared.item.Event.TheVariants.{Freed}
use Rattle.cc_model.specs.Heap.{Heap}
use Rattle.cc_model.specs.Colours.{IsMarked}
use Rattle.cc_model.specs.Marking.{NewMarks, scanned, is_scanned, ended_marks}
use Rattle.cc_model.specs.Telling.{Telling, TellsEvents}
use Rattle.cc_counted.specs.Counts.{key_left}
use Rattle.cc_heaps.specs.Keyed.{Keyed}
use Rattle.cc_heaps.specs.NewMarks.{marks_of}
use Rattle.cc_markslice.specs.declared.marking.MarkStep.{MarkStep}
use Rattle.cc_markslice.specs.declared.marking.MarkStep.TheVariants.{Scanned, Ended}

-- AN OBJECT WAS SCANNED: there was one, and the heaps stay as they were but for the new marks
pub record HasScanned (m : NewMarks) (old new : Keyed) (before after : Telling) : Type 0 where
  pub some_left : is_scanned m ≡ false
  pub marks : marks_of new ≡ Some (scanned old.heap m)
  pub heap : new.heap ≡ old.heap
  pub rest : new ≡ record old { scripts = new.scripts; marking = new.marking }
  pub told : after ≡ before

-- THE MARKING HAS ENDED: nothing was left to scan, the new marks became the colours, carried on over entries, and what is white then
-- was swept and told
pub record HasEnded (m : NewMarks) (old new : Keyed) (before after : Telling) : Type 0 where
  pub none_left : is_scanned m ≡ true
  pub marking : new.marking ≡ None
  pub heap : new.heap ≡ (ended_marks old.heap m).heap
  pub natives : new.keys ≡ map (key_left new.heap) old.keys
  pub told : TellsEvents before after (ended_marks old.heap m).events

-- A STEP WAS MADE, over these new marks
abbrev pub IsStepped : MarkStep → NewMarks → Keyed → Keyed → Telling → Telling → Type 0
IsStepped Scanned m old new before after = HasScanned m old new before after
IsStepped Ended m old new before after = HasEnded m old new before after

-- these events free no script object that script registers and natives lead to, so none that a native holds
abbrev pub SparesWhatIsMarked : Heap → List Event → Type 0
SparesWhatIsMarked h events = (x : Name) → IsTrue (is_script x) → IsMarked h x → ¬ (Among (Freed x) events)
