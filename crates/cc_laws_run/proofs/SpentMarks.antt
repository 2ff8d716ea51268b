-- WHAT IS SPENT STAYS SO under units of collections and of script markings: these only take away.
use Rattle.std.proofs.Common.{◌≡◌, ℕ, zero, suc, Bool, true, false, List, [], Option, Some, None, is_some, sym, subst, arith}
use Rattle.cc_names.specs.declared.name.Name.{Name}
use Rattle.cc_model.specs.declared.item.Event.{Event}
use Rattle.cc_model.specs.Heap.{Heap}
use Rattle.cc_model.specs.Mutating.{Running, so_many, whole}
use Rattle.cc_model.specs.Snapshot.{Snapshot, white_natives}
use Rattle.cc_model.specs.Marking.{NewMarks, begun_marks, is_scanned, scanned, ended_marks}
use Rattle.cc_model.specs.Units.{first_untraversed}
use Rattle.cc_model.specs.End.{Progress, went_on, at_end, heap_given_back, granted, node_or_end, unit}
use Rattle.cc_model.specs.Collecting.{Machine, UnitsDone, next_answer, units_came, no_units, units_done, enough_units, to_the_end, finish_running, starting_anew, with_outcome, one_marked, units_marked, finish_marking, slice_cycles, slice, collect_cycles, collect, mark}
use Rattle.cc_model.specs.Run.{run_units}
use Rattle.cc_laws_heap.specs.Sound.{IsSound}
use Rattle.cc_laws_heap.specs.UnderMarking.{IsUnderMarking}
use Rattle.cc_laws_heap.proofs.BufferStands.{IsSound-buffer}
use Rattle.cc_laws_heap.proofs.TakingAway.{take_away-sound}
use Rattle.cc_laws_heap.proofs.MarkingBegun.{IsUnderMarking-begun}
use Rattle.cc_laws_heap.proofs.MarkingEnded.{ended-sound}
use Rattle.cc_laws_heap.proofs.Raising.{Raises-scanned, IsUnderMarking-raised}
use Rattle.cc_laws_snapshot.proofs.GivingBack.{given_back, give_back-buffer, given_back-buffer}
use Rattle.cc_laws_snapshot.proofs.WhiteNatives.{white_natives-there}
use Rattle.cc_laws_run.specs.Running.{IsMarkingNow}
use Rattle.cc_laws_run.specs.Spent.{IsSpent}
use Rattle.cc_laws_run.proofs.UnitLawful.{unit-cases}
use Rattle.cc_laws_run.proofs.HoldingUnits.{units_done-keep, unless_stopped-cases}
use Rattle.cc_laws_run.proofs.Finishing.{IsFinished, nothing, ended, finish-cases}
use Rattle.cc_laws_run.proofs.Unmarked.{unmarked-some}
use Rattle.cc_laws_run.proofs.SpentViews.{spent-less}
use Rattle.cc_laws_run.proofs.SpentGone.{ended-less}
use Rattle.cc_laws_run.proofs.SpentUnits.{unit-spends}

-- Units of collections

-- a unit leaves sound heaps
unit-sound : (h : Heap) (o : Option Snapshot) (memory : Bool) → IsSound [] h → IsSound [] (unit h o memory).heap
unit-sound h o memory sound = unit-cases h o memory (λ u. IsSound [] u.heap) (given o) (by_snapshot o)
  where
    given : (o : Option Snapshot) → IsSound [] (heap_given_back h o)
    given None = sound
    given (Some s) = subst (IsSound []) (sym (give_back-buffer s.candidates h h.buffer)) (IsSound-buffer h (given_back s.candidates h h.buffer) sound
        (given_back-buffer h s.candidates h.buffer (record { there = sound.well_formed.buffered; once = sound.well_formed.buffered_once })))

    by_node : (s : Snapshot) (x : Option Name) → IsSound [] (node_or_end h s x).heap
    by_node s (Some x) = sound
    by_node s None = take_away-sound h (white_natives h s) sound (white_natives-there h s sound).there

    by_snapshot : (o : Option Snapshot) → IsSound [] (granted h o).heap
    by_snapshot None = IsSound-buffer h [] sound (record { there = λ b i. absurd i; once = λ k. omega arith })
    by_snapshot (Some s) = by_node s (first_untraversed s.nodes)

-- sound heaps where names are spent
pub record SpendsAt (ds : List Name) (h : Heap) : Type 0 where
  pub sound : IsSound [] h
  pub spent : IsSpent h ds

module _ (ds : List Name) where
  -- units in a row leave such heaps
  pub units_done-spend : (n : ℕ) (d : UnitsDone) → SpendsAt ds d.machine.heap → SpendsAt ds (units_done n d).machine.heap
  units_done-spend n d p = units_done-keep (λ d. SpendsAt ds d.machine.heap)
      (λ d e p. let answer = next_answer d.machine.memory in record {
        sound = unit-sound d.machine.heap d.machine.snapshot answer p.sound;
        spent = unit-spends d.machine.heap d.machine.snapshot ds answer p.sound p.spent;
      })
      n d p

  -- so does a running collection that is ended
  pub finish_running-spends : (m : Machine) → SpendsAt ds m.heap → SpendsAt ds (finish_running m).machine.heap
  finish_running-spends m p = go (is_some m.snapshot)
    where
      finished_by : Bool → UnitsDone
      finished_by true = to_the_end (no_units m)
      finished_by false = no_units m

      go : (b : Bool) → SpendsAt ds (finished_by b).machine.heap
      go true = units_done-spend (enough_units m) (no_units m) p
      go false = p

  -- and a whole collection of cycles
  pub collect_cycles-spends : (m : Machine) → SpendsAt ds m.heap → SpendsAt ds (collect_cycles m).machine.heap
  unfolding collect_cycles
  collect_cycles-spends m p =
      let d : UnitsDone = finish_running m in
      let first : SpendsAt ds d.machine.heap = finish_running-spends m p in
      unless_stopped-cases d (λ u. SpendsAt ds u.machine.heap) (λ r. first) (λ r. units_done-spend (enough_units d.machine) (starting_anew d) first)

  -- Script markings

  -- the end of one leaves such heaps
  pub ended-spends : (h : Heap) (marks : NewMarks) → IsUnderMarking h marks → SpendsAt ds h → SpendsAt ds (ended_marks h marks).heap
  ended-spends h marks u p = record { sound = ended-sound h marks p.sound u; spent = spent-less ds h (ended_marks h marks).heap (ended-less h marks p.sound) p.spent }

  -- so does one that is brought to its end
  pub finish_marking-spends : (m : Machine) → IsMarkingNow m.heap m.marking m.snapshot → SpendsAt ds m.heap → SpendsAt ds (finish_marking m).machine.heap
  finish_marking-spends m t p = go (finish_marking m) (finish-cases m p.sound t)
    where
      go : (d : UnitsDone) → IsFinished m d → SpendsAt ds d.machine.heap
      go _ (nothing e) = p
      go _ (ended marks t e) = ended-spends m.heap marks t.under p

  -- UNITS UNDER ONE ASK, behind that end
  pub run_units-spend : (m : Machine) (u : Running) → IsMarkingNow m.heap m.marking m.snapshot → SpendsAt ds m.heap → SpendsAt ds (run_units m u).machine.heap
  unfolding slice slice_cycles collect
  run_units-spend m (so_many n) t p = units_done-spend n (no_units (finish_marking m).machine) (finish_marking-spends m t p)
  run_units-spend m whole t p = collect_cycles-spends (finish_marking m).machine (finish_marking-spends m t p)

-- such heaps, which are under the marking that goes on, if one does
abbrev IsUnderNow : Heap → Option NewMarks → Type 0
IsUnderNow h None = Unit {0}
IsUnderNow h (Some marks) = IsUnderMarking h marks

record SpendsUnder (ds : List Name) (m : Machine) : Type 0 where
  at : SpendsAt ds m.heap
  under : IsUnderNow m.heap m.marking

module _ (ds : List Name) where
  -- a unit of a marking
  one_marked-spends : (m : Machine) (es : List Event) → SpendsUnder ds m → SpendsUnder ds (one_marked m es).machine
  one_marked-spends m es p = go m.marking p.under
    where
      marked_by : NewMarks → Bool → UnitsDone
      marked_by marks true = with_outcome (units_came (record m { marking = None }) es at_end) (ended_marks m.heap marks)
      marked_by marks false = units_came (record m { marking = Some (scanned m.heap marks) }) es went_on

      marked_from : Option NewMarks → UnitsDone
      marked_from None = units_came (record m { marking = Some (begun_marks m.heap) }) es went_on
      marked_from (Some marks) = marked_by marks (is_scanned marks)

      by_marks : (marks : NewMarks) → IsUnderMarking m.heap marks → (over : Bool) → SpendsUnder ds (marked_by marks over).machine
      by_marks marks u true = record { at = ended-spends ds m.heap marks u p.at; under = tt }
      by_marks marks u false = record { at = p.at; under = IsUnderMarking-raised m.heap marks (scanned m.heap marks) (Raises-scanned m.heap marks) u }

      go : (marking : Option NewMarks) → IsUnderNow m.heap marking → SpendsUnder ds (marked_from marking).machine
      go None u = record { at = p.at; under = IsUnderMarking-begun m.heap }
      go (Some marks) u = by_marks marks u (is_scanned marks)

  -- units of one, begun here or before
  units_marked-spend : (n : ℕ) (d : UnitsDone) → SpendsUnder ds d.machine → SpendsUnder ds (units_marked n d).machine
  units_marked-spend zero d p = p
  units_marked-spend (suc n) d p = go (units_marked-spend n (one_marked d.machine d.events) (one_marked-spends d.machine d.events p)) d.progress
    where
      marked_on : Progress → UnitsDone
      marked_on went_on = units_marked n (one_marked d.machine d.events)
      marked_on _ = d

      go : SpendsUnder ds (units_marked n (one_marked d.machine d.events)).machine → (q : Progress) → SpendsUnder ds (marked_on q).machine
      go more went_on = more
      go more _ = p

  -- where no marking goes on, units of a collection leave none
  none-under : (n : ℕ) (d : UnitsDone) → d.machine.marking ≡ None → SpendsAt ds d.machine.heap → SpendsUnder ds (units_done n d).machine
  none-under n d none p = record {
    at = units_done-spend ds n d p;
    under = subst (IsUnderNow (units_done n d).machine.heap) (sym (units_done-keep (λ d. d.machine.marking ≡ None) (λ d e q. q) n d none)) tt;
  }

  -- a marking that goes on as it should is under way
  now-under : (h : Heap) (marking : Option NewMarks) (o : Option Snapshot) → IsMarkingNow h marking o → IsUnderNow h marking
  now-under h None o t = tt
  now-under h (Some marks) o t = t.under

  -- a running collection that is ended leaves a marking under way
  finish-under : (m : Machine) → IsMarkingNow m.heap m.marking m.snapshot → SpendsAt ds m.heap → SpendsUnder ds (finish_running m).machine
  finish-under m t p = go m.snapshot t
    where
      finished_by : Bool → UnitsDone
      finished_by true = to_the_end (no_units m)
      finished_by false = no_units m

      go : (o : Option Snapshot) → IsMarkingNow m.heap m.marking o → SpendsUnder ds (finished_by (is_some o)).machine
      go None t = record { at = p; under = now-under m.heap m.marking None t }
      go (Some s) t = none-under (enough_units m) (no_units m) (unmarked-some m.heap m.marking s t) p

  -- `mark` LEAVES SPENT what is spent where it has ended the collection that ran,
  pub marked-spends : (m : Machine) (n : ℕ) → (finish_running m).machine.marking ≡ None → SpendsAt ds (finish_running m).machine.heap → SpendsAt ds (mark n m).machine.heap
  unfolding mark
  marked-spends m n none p = (units_marked-spend n (starting_anew (finish_running m))
      (record { at = p; under = subst (IsUnderNow (finish_running m).machine.heap) (sym none) tt })).at

  -- and what was spent before.
  pub mark-spends : (m : Machine) (n : ℕ) → IsMarkingNow m.heap m.marking m.snapshot → SpendsAt ds m.heap → SpendsAt ds (mark n m).machine.heap
  unfolding mark
  mark-spends m n t p = (units_marked-spend n (starting_anew (finish_running m)) (finish-under m t p)).at
