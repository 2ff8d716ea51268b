-- WHAT NATIVES ARE THEY STAY, but that some are emptied, by units of collections and of markings, and by `gc`: the natives that the end of a
-- collection unlinks it empties. So what was unlinked holds nothing, if it was so before.
use Rattle.std.proofs.Common.{◌≡◌, ◌≤◌, ◌==◌, ℕ, zero, suc, Bool, true, false, List, [], length, Option, Some, None, is_some, sym, ◌∙◌, ap, subst, arith, ⊎_elim}
use Rattle.cc_lists.specs.Members.{Among}
use Rattle.cc_lists.proofs.Members.{Among_or_not}
use Rattle.cc_lists.proofs.Numbers.{number-exact}
use Rattle.cc_names.specs.declared.name.Name.{Name}
use Rattle.cc_names.specs.Names.{native}
use Rattle.cc_model.specs.declared.item.Event.{Event}
use Rattle.cc_model.specs.Slots.{empty_slots}
use Rattle.cc_model.specs.StandsFor.{IsEmptied}
use Rattle.cc_model.specs.Heap.{Heap, HeapNative}
use Rattle.cc_model.specs.Snapshot.{Snapshot, white_natives}
use Rattle.cc_model.specs.Colours.{coloured_by, marked}
use Rattle.cc_model.specs.Sweep.{collect_scripts, sweep}
use Rattle.cc_model.specs.Marking.{NewMarks, begun_marks, is_scanned, scanned, ended_marks, blacks_by_mark, marks_by_mark}
use Rattle.cc_model.specs.Units.{first_untraversed}
use Rattle.cc_model.specs.End.{Progress, went_on, at_end, heap_given_back, granted, node_or_end, take_away, unit}
use Rattle.cc_model.specs.Collecting.{Machine, UnitsDone, next_answer, units_came, no_units, units_done, enough_units, to_the_end, finish_running, starting_anew, with_outcome, without_marking, one_marked, units_marked, finish_marking, slice_cycles, slice, collect_cycles, collect, gc, mark}
use Rattle.cc_laws_heap.specs.Freeing.{uncounted}
use Rattle.cc_laws_heap.specs.Sound.{IsSound}
use Rattle.cc_laws_heap.specs.UnderMarking.{IsUnderMarking}
use Rattle.cc_laws_heap.proofs.BufferStands.{IsSound-buffer}
use Rattle.cc_laws_heap.proofs.CollectedColours.{collecting-keeps, collect_scripts-sound}
use Rattle.cc_laws_heap.proofs.Leaving.{IsOf}
use Rattle.cc_laws_heap.proofs.MarkingBegun.{IsUnderMarking-begun}
use Rattle.cc_laws_heap.proofs.MarkingEnded.{ended-sound}
use Rattle.cc_laws_heap.proofs.MarkingKeeps.{IsSound-coloured}
use Rattle.cc_laws_heap.proofs.Raising.{Raises-scanned, IsUnderMarking-raised}
use Rattle.cc_laws_heap.proofs.RoundParts.{round-natives, sweep-natives}
use Rattle.cc_laws_heap.proofs.TakingAway.{taken-emptied, others-kept, take_away-sound, take_away-takes}
use Rattle.cc_laws_snapshot.proofs.GivingBack.{given_back, give_back-buffer, given_back-buffer}
use Rattle.cc_laws_snapshot.proofs.WhiteNatives.{white_natives-there}
use Rattle.cc_laws_run.specs.Running.{IsMarkingNow}
use Rattle.cc_laws_run.proofs.Finishing.{IsFinished, nothing, ended, finish-cases}
use Rattle.cc_laws_run.proofs.HoldingUnits.{units_done-keep, unless_stopped-cases}
use Rattle.cc_laws_run.proofs.SpentGone.{collect_scripts-less, ended-less}
use Rattle.cc_laws_run.proofs.UnitLawful.{unit-cases}
use Rattle.cc_laws_run.proofs.Unmarked.{unmarked-some}

-- What natives are

-- each native of the heaps that is such is so
abbrev pub EachIs : (P R : HeapNative → Type 0) → Heap → Type 0
EachIs P R h = (n : HeapNative) → Among n h.natives → P n → R n

-- counts aside a native stays such, and what is emptied is so
pub record IsStable (P R : HeapNative → Type 0) : Type 0 where
  pub before : (m n : HeapNative) → uncounted m ≡ uncounted n → P n → P m
  pub after : (m n : HeapNative) → uncounted m ≡ uncounted n → R m → R n
  pub emptied : (n : HeapNative) → IsEmptied n → R n

-- a native that is as it was, but for its count
pub emptied-alike : (m n : HeapNative) → uncounted m ≡ uncounted n → IsEmptied m → IsEmptied n
emptied-alike m n e k = record {
  unlinked = sym (ap (λ (u : HeapNative). u.unlinked) e) ∙ k.unlinked;
  slots = sym (ap (λ (u : HeapNative). u.slots) e) ∙ (k.slots ∙ ap (λ (u : HeapNative). empty_slots (length u.slots)) e);
  preserved = sym (ap (λ (u : HeapNative). u.preserved) e) ∙ k.preserved;
}

-- what was unlinked holds nothing
abbrev pub IsUnlinked : HeapNative → Type 0
IsUnlinked n = n.unlinked ≡ true

abbrev pub AllEmptied : Heap → Type 0
AllEmptied = EachIs IsUnlinked IsEmptied

pub unlinked-stable : IsStable IsUnlinked IsEmptied
unlinked-stable = record { before = λ m n e u. ap (λ (u : HeapNative). u.unlinked) e ∙ u; after = emptied-alike; emptied = λ n e. e }

-- natives of these names hold nothing
abbrev pub IsNamed : List Name → HeapNative → Type 0
IsNamed ds n = Among (native n.number) ds

pub named-stable : (ds : List Name) → IsStable (IsNamed ds) IsEmptied
named-stable ds = record {
  before = λ m n e i. subst (λ k. Among (native k) ds) (sym (ap (λ (u : HeapNative). u.number) e)) i;
  after = emptied-alike;
  emptied = λ n e. e;
}

-- the native of this number was unlinked
abbrev pub IsNumbered : ℕ → HeapNative → Type 0
IsNumbered k n = n.number ≡ k

pub numbered-stable : (k : ℕ) → IsStable (IsNumbered k) IsUnlinked
numbered-stable k = record {
  before = λ m n e i. ap (λ (u : HeapNative). u.number) e ∙ i;
  after = λ m n e u. sym (ap (λ (u : HeapNative). u.unlinked) e) ∙ u;
  emptied = λ n e. e.unlinked;
}

-- sound heaps in which it is so, and in which so many natives were made at least
pub record IsAtRest (P R : HeapNative → Type 0) (least : ℕ) (h : Heap) : Type 0 where
  pub sound : IsSound [] h
  pub each : EachIs P R h
  pub made : least ≤ h.natives_made

-- a marking that goes on is under way
abbrev IsUnderNow : Heap → Option NewMarks → Type 0
IsUnderNow h None = Unit {0}
IsUnderNow h (Some marks) = IsUnderMarking h marks

record RestsUnder (P R : HeapNative → Type 0) (least : ℕ) (m : Machine) : Type 0 where
  at : IsAtRest P R least m.heap
  under : IsUnderNow m.heap m.marking

-- a marking that goes on as it should is under way
now-under : (h : Heap) (marking : Option NewMarks) (o : Option Snapshot) → IsMarkingNow h marking o → IsUnderNow h marking
now-under h None o t = tt
now-under h (Some marks) o t = t.under

module _ (P R : HeapNative → Type 0) (stable : IsStable P R) (least : ℕ) where
  -- natives that are as they were, but for their counts
  each-left : (h k : Heap) → ((n : HeapNative) → Among n k.natives → IsOf h n) → EachIs P R h → EachIs P R k
  each-left h k of e n m u = let p = of n m in stable.after p.0 n p.2 (e p.0 p.1 (stable.before p.0 n p.2 u))

  -- Units of collections

  -- another buffer
  rest-buffer : (h : Heap) (s : Snapshot) → (IsAtRest P R least) h → (IsAtRest P R least) (heap_given_back h (Some s))
  rest-buffer h s r = subst (IsAtRest P R least) (sym (give_back-buffer s.candidates h h.buffer)) (record {
    sound = IsSound-buffer h (given_back s.candidates h h.buffer) r.sound
        (given_back-buffer h s.candidates h.buffer (record { there = r.sound.well_formed.buffered; once = r.sound.well_formed.buffered_once }));
    each = r.each;
    made = r.made;
  })

  -- the end of a collection
  rest-end : (h : Heap) (s : Snapshot) → (IsAtRest P R least) h → (IsAtRest P R least) (take_away (white_natives h s) h).heap
  rest-end h s r =
      let ks = white_natives h s in
      let there = (white_natives-there h s r.sound).there in
      record {
        sound = take_away-sound h ks r.sound there;
        each = λ n m u. ⊎_elim
            (λ i. stable.emptied n (taken-emptied h ks r.sound there n m i))
            (λ out. let p = others-kept h ks r.sound there n m out in stable.after p.0 n p.2 (r.each p.0 p.1 (stable.before p.0 n p.2 u)))
            (Among_or_not ◌==◌ number-exact ks n.number);
        made = omega (arith, r.made, (take_away-takes h ks r.sound there).1.natives_made);
      }

  -- a unit
  unit-rests : (h : Heap) (o : Option Snapshot) (memory : Bool) → (IsAtRest P R least) h → (IsAtRest P R least) (unit h o memory).heap
  unit-rests h o memory r = unit-cases h o memory (λ u. (IsAtRest P R least) u.heap) (given o) (by_snapshot o)
    where
      given : (o : Option Snapshot) → (IsAtRest P R least) (heap_given_back h o)
      given None = r
      given (Some s) = rest-buffer h s r

      by_node : (s : Snapshot) (x : Option Name) → (IsAtRest P R least) (node_or_end h s x).heap
      by_node s (Some x) = r
      by_node s None = rest-end h s r

      by_snapshot : (o : Option Snapshot) → (IsAtRest P R least) (granted h o).heap
      by_snapshot None = record { sound = IsSound-buffer h [] r.sound (record { there = λ b i. absurd i; once = λ k. omega arith }); each = r.each; made = r.made }
      by_snapshot (Some s) = by_node s (first_untraversed s.nodes)

  -- several
  units_done-rest : (n : ℕ) (d : UnitsDone) → (IsAtRest P R least) d.machine.heap → (IsAtRest P R least) (units_done n d).machine.heap
  units_done-rest n d r = units_done-keep (λ d. (IsAtRest P R least) d.machine.heap)
      (λ d e r. unit-rests d.machine.heap d.machine.snapshot (next_answer d.machine.memory) r) n d r

  -- those that end a running collection
  pub finish_running-rest : (m : Machine) → (IsAtRest P R least) m.heap → (IsAtRest P R least) (finish_running m).machine.heap
  finish_running-rest m r = go (is_some m.snapshot)
    where
      finished_by : Bool → UnitsDone
      finished_by true = to_the_end (no_units m)
      finished_by false = no_units m

      go : (b : Bool) → (IsAtRest P R least) (finished_by b).machine.heap
      go true = units_done-rest (enough_units m) (no_units m) r
      go false = r

  -- a whole collection of cycles
  collect_cycles-rest : (m : Machine) → (IsAtRest P R least) m.heap → (IsAtRest P R least) (collect_cycles m).machine.heap
  unfolding collect_cycles
  collect_cycles-rest m r =
      let d : UnitsDone = finish_running m in
      let first : (IsAtRest P R least) d.machine.heap = finish_running-rest m r in
      unless_stopped-cases d (λ u. (IsAtRest P R least) u.machine.heap) (λ e. first) (λ e. units_done-rest (enough_units d.machine) (starting_anew d) first)

  -- Script collections and markings

  -- a script collection
  pub collect_scripts-rest : (h : Heap) → (IsAtRest P R least) h → (IsAtRest P R least) (collect_scripts h).heap
  collect_scripts-rest h r = record {
    sound = collect_scripts-sound h r.sound;
    each = collecting-keeps (λ o. EachIs P R o.heap) (λ o c l. each-left o.heap (sweep (marked o.heap)).heap (round-natives o.heap c) l) h r.sound r.each;
    made = omega (arith, r.made, (collect_scripts-less h r.sound).natives_made);
  }

  -- the end of a marking
  ended-rest : (h : Heap) (marks : NewMarks) → IsUnderMarking h marks → (IsAtRest P R least) h → (IsAtRest P R least) (ended_marks h marks).heap
  unfolding ended_marks
  ended-rest h marks u r = record {
    sound = ended-sound h marks r.sound u;
    each = each-left h (ended_marks h marks).heap
        (sweep-natives (coloured_by (blacks_by_mark h marks) (marks_by_mark h marks) h) (IsSound-coloured (blacks_by_mark h marks) (marks_by_mark h marks) h r.sound))
        r.each;
    made = omega (arith, r.made, (ended-less h marks r.sound).natives_made);
  }

  -- a marking that is brought to its end
  finish_marking-rest : (m : Machine) → IsMarkingNow m.heap m.marking m.snapshot → (IsAtRest P R least) m.heap → (IsAtRest P R least) (finish_marking m).machine.heap
  finish_marking-rest m t r = go (finish_marking m) (finish-cases m r.sound t)
    where
      go : (d : UnitsDone) → IsFinished m d → (IsAtRest P R least) d.machine.heap
      go _ (nothing e) = r
      go _ (ended marks t e) = ended-rest m.heap marks t.under r

  one_marked-rests : (m : Machine) (es : List Event) → (RestsUnder P R least) m → (RestsUnder P R least) (one_marked m es).machine
  one_marked-rests m es p = go m.marking p.under
    where
      marked_by : NewMarks → Bool → UnitsDone
      marked_by marks true = with_outcome (units_came (record m { marking = None }) es at_end) (ended_marks m.heap marks)
      marked_by marks false = units_came (record m { marking = Some (scanned m.heap marks) }) es went_on

      marked_from : Option NewMarks → UnitsDone
      marked_from None = units_came (record m { marking = Some (begun_marks m.heap) }) es went_on
      marked_from (Some marks) = marked_by marks (is_scanned marks)

      by_marks : (marks : NewMarks) → IsUnderMarking m.heap marks → (over : Bool) → (RestsUnder P R least) (marked_by marks over).machine
      by_marks marks u true = record { at = ended-rest m.heap marks u p.at; under = tt }
      by_marks marks u false = record { at = p.at; under = IsUnderMarking-raised m.heap marks (scanned m.heap marks) (Raises-scanned m.heap marks) u }

      go : (marking : Option NewMarks) → IsUnderNow m.heap marking → (RestsUnder P R least) (marked_from marking).machine
      go None u = record { at = p.at; under = IsUnderMarking-begun m.heap }
      go (Some marks) u = by_marks marks u (is_scanned marks)

  units_marked-rest : (n : ℕ) (d : UnitsDone) → (RestsUnder P R least) d.machine → (RestsUnder P R least) (units_marked n d).machine
  units_marked-rest zero d p = p
  units_marked-rest (suc n) d p = go (units_marked-rest n (one_marked d.machine d.events) (one_marked-rests d.machine d.events p)) d.progress
    where
      marked_on : Progress → UnitsDone
      marked_on went_on = units_marked n (one_marked d.machine d.events)
      marked_on _ = d

      go : (RestsUnder P R least) (units_marked n (one_marked d.machine d.events)).machine → (q : Progress) → (RestsUnder P R least) (marked_on q).machine
      go more went_on = more
      go more _ = p

  -- where no marking goes on, units of a collection leave none
  none-under : (n : ℕ) (d : UnitsDone) → d.machine.marking ≡ None → (IsAtRest P R least) d.machine.heap → (RestsUnder P R least) (units_done n d).machine
  none-under n d none p = record {
    at = units_done-rest n d p;
    under = subst (IsUnderNow (units_done n d).machine.heap) (sym (units_done-keep (λ d. d.machine.marking ≡ None) (λ d e q. q) n d none)) tt;
  }

  -- a running collection that is ended leaves a marking under way
  finish-under : (m : Machine) → IsMarkingNow m.heap m.marking m.snapshot → (IsAtRest P R least) m.heap → (RestsUnder P R least) (finish_running m).machine
  finish-under m t p = go m.snapshot t
    where
      finished_by : Bool → UnitsDone
      finished_by true = to_the_end (no_units m)
      finished_by false = no_units m

      go : (o : Option Snapshot) → IsMarkingNow m.heap m.marking o → (RestsUnder P R least) (finished_by (is_some o)).machine
      go None t = record { at = p; under = now-under m.heap m.marking None t }
      go (Some s) t = none-under (enough_units m) (no_units m) (unmarked-some m.heap m.marking s t) p

  -- THE CALLS OF A COLLECTOR, as the plain run has them

  pub slice-rests : (n : ℕ) (m : Machine) → IsMarkingNow m.heap m.marking m.snapshot → (IsAtRest P R least) m.heap → (IsAtRest P R least) (slice n m).machine.heap
  unfolding slice slice_cycles
  slice-rests n m t r = units_done-rest n (no_units (finish_marking m).machine) (finish_marking-rest m t r)

  pub collect-rests : (m : Machine) → IsMarkingNow m.heap m.marking m.snapshot → (IsAtRest P R least) m.heap → (IsAtRest P R least) (collect m).machine.heap
  unfolding collect
  collect-rests m t r = collect_cycles-rest (finish_marking m).machine (finish_marking-rest m t r)

  pub gc-rests : (m : Machine) → (IsAtRest P R least) m.heap → (IsAtRest P R least) (gc m).machine.heap
  unfolding gc
  gc-rests m r = collect_scripts-rest (finish_running (without_marking m)).machine.heap (finish_running-rest (without_marking m) r)

  pub mark-rests : (n : ℕ) (m : Machine) → IsMarkingNow m.heap m.marking m.snapshot → (IsAtRest P R least) m.heap → (IsAtRest P R least) (mark n m).machine.heap
  unfolding mark
  mark-rests n m t r = (units_marked-rest n (starting_anew (finish_running m)) (finish-under m t r)).at
