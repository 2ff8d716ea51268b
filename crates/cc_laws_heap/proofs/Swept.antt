-- A SWEEP takes out the unmarked script objects, and the natives that lost their last reference. It leaves sound heaps, where the
-- marks are closed.
use Rattle.std.proofs.Common.{◌≡◌, ℕ, Bool, List, [], refl, subst, arith}
use Rattle.std.specs.List.{filter}
use Rattle.cc_lists.specs.Members.{Among}
use Rattle.cc_lists.proofs.Members.{Among-map}
use Rattle.cc_lists.proofs.Counting.{count_by-map}
use Rattle.cc_lists.proofs.Filtering.{count_by-filter-le}
use Rattle.cc_names.specs.declared.name.Name.{Name}
use Rattle.cc_names.specs.Names.{native, same_name}
use Rattle.cc_model.specs.Heap.{Heap, HeapScript, silently, is_white_colour}
use Rattle.cc_model.specs.Sweep.{unmarked, without_dead_entries, sweep}
use Rattle.cc_model.specs.WellFormed.{script_names}
use Rattle.cc_laws_heap.specs.Sound.{IsSound}
use Rattle.cc_laws_heap.specs.Freeing.{SameBeside}
use Rattle.cc_laws_heap.specs.Marks.{AreMarksClosed}
use Rattle.cc_laws_heap.specs.Rounds.{FreesNames, is_not_among}
use Rattle.cc_laws_heap.proofs.Cascades.{IsBalanced-at_rest, IsSound-steady}
use Rattle.cc_laws_heap.proofs.ScriptNames.{script-named, scripts-once, place-there}
use Rattle.cc_laws_heap.proofs.TakenOut.{TakesOut, TakesOut-silently}
use Rattle.cc_laws_heap.specs.Balance.{IsSteady}
use Rattle.cc_laws_heap.specs.Stages.{stage}
use Rattle.cc_laws_heap.specs.Stages.Done.{nothing}
use Rattle.cc_laws_heap.proofs.ScriptsKept.{native-no_script}
use Rattle.cc_laws_heap.proofs.SweepEach.{IsToSweep, DoneBy, scripts-sweep_each, TakesOut-sweep_each}
use Rattle.cc_laws_heap.proofs.Led.{unmarked-white}
use Rattle.cc_laws_heap.proofs.MarkedWellFormed.{is_spared, is_spared_entry, spared, IsWellFormed-spared}
use Rattle.cc_laws_heap.proofs.FreedNames.{FreesNames-alike}

-- the script objects that are left are those that are not unmarked
pub scripts-sweep : (h : Heap) → (sweep h).heap.scripts ≡ filter (is_spared (unmarked h)) h.scripts
unfolding sweep
scripts-sweep h = scripts-sweep_each (unmarked h) (silently (without_dead_entries (unmarked h) h))

module _ {owned : List ℕ} (h : Heap) (s : IsSound owned h) where
  -- the unmarked are to be swept
  to_sweep : IsToSweep owned (unmarked h) (without_dead_entries (unmarked h) h)
  to_sweep =
      let b = IsBalanced-at_rest owned h s in
      record {
        steady = record { distinct = b.distinct; counts = b.counts; queue = b.queue; buffer = b.buffer };
        named = script-named h s.well_formed;
        bare = λ o i m j. native-no_script h i s.well_formed (place-there h s.well_formed o m (native i) j);
        distinct = scripts-once h s.well_formed;
        there = λ x m.
            let f = unmarked-white h x m in
            subst (λ y. Among y (script_names h)) f.3 (Among-map (λ (o : HeapScript). o.name) f.0 h.scripts f.1);
        once = λ x. omega (
          arith,
          s.well_formed.distinct x,
          count_by-map (same_name x) (λ (o : HeapScript). o.name) h.scripts,
          count_by-map (same_name x) (λ (o : HeapScript). o.name) (filter is_white h.scripts),
          count_by-filter-le (λ (o : HeapScript). same_name x o.name) is_white h.scripts,
        );
      }
    where
      is_white : HeapScript → Bool
      is_white o = is_white_colour o.colour

  -- they are told and taken out, with what is freed meanwhile, and the heaps stay steady
  pub taken-sweep : (xs : List Name) × TakesOut (without_dead_entries (unmarked h) h) xs (sweep h) × IsSteady owned (sweep h).heap
      × DoneBy (without_dead_entries (unmarked h) h) (sweep h)
  unfolding sweep
  taken-sweep =
      let g : Heap = without_dead_entries (unmarked h) h in
      TakesOut-sweep_each owned (unmarked h) g [] (silently g) (TakesOut-silently g) (nothing (stage [] [] g)) to_sweep

  -- What a sweep tells is what it takes out.
  pub sweep-frees : FreesNames h taken-sweep.0 (sweep h)
  sweep-frees = FreesNames-alike h h.scripts (without_dead_entries (unmarked h) h).entries taken-sweep.0 (sweep h) refl taken-sweep.1.names

  -- The entries that are left are those whose map and key are not unmarked.
  pub entries-sweep : (sweep h).heap.entries ≡ filter (is_spared_entry (unmarked h)) h.entries
  entries-sweep = taken-sweep.1.entries

  -- but for natives and the buffer the heaps are those without what is not marked
  pub beside-sweep : SameBeside (spared (unmarked h) h) (sweep h).heap
  beside-sweep = grind (arith, taken-sweep, scripts-sweep, entries-sweep)

-- A SWEEP LEAVES SOUND HEAPS, where the marks are closed.
pub sweep-sound : {owned : List ℕ} (h : Heap) → AreMarksClosed h → IsSound owned h → IsSound owned (sweep h).heap
sweep-sound {owned} h c s =
    let t = taken-sweep h s in
    IsSound-steady owned (spared (unmarked h) h) (sweep h).heap (λ j. is_not_among t.0 (native j)) (IsWellFormed-spared h c s.well_formed)
    t.1.natives (beside-sweep h s) t.2
