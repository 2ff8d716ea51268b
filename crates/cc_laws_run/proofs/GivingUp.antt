-- A COLLECTION THAT IS REFUSED MEMORY leaves of the heaps what the definitions say, over whole asks.
use Rattle.std.proofs.Common.{arith, ◌≡◌, ℕ, Bool, List, [], ◌∷◌, ◌++◌, Option, Some, None, refl, sym, ◌∙◌, ap, subst, inl, inr, ◌⊎◌, ⊎_elim}
use Rattle.std.proofs.lemmas.List.{append-nil, append_assoc}
use Rattle.std.specs.List.{filter}
use Rattle.cc_lists.specs.Members.{Among}
use Rattle.cc_lists.proofs.Members.{Among-map, Among-map_cases}
use Rattle.cc_names.specs.declared.name.Name.{Name}
use Rattle.cc_names.specs.Names.{native}
use Rattle.cc_model.specs.declared.item.Event.{Event}
use Rattle.cc_model.specs.declared.item.Event.TheVariants.{Abandoned}
use Rattle.cc_model.specs.Heap.{Heap, Buffered}
use Rattle.cc_model.specs.View.{view, buffered}
use Rattle.cc_model.specs.WellFormed.{native_names}
use Rattle.cc_model.specs.Snapshot.{Snapshot}
use Rattle.cc_model.specs.Units.{candidates_of, with_empty_buffer}
use Rattle.cc_model.specs.End.{Progress, went_on, at_end, refused, UnitDone, give_back, heap_given_back, granted, unit}
use Rattle.cc_model.specs.Collecting.{Machine, UnitsDone, next_answer, one_unit, units_done, enough_units, finish_running, finish_marking, behind, slice_cycles, slice, collect_cycles, collect, units_came}
use Rattle.cc_laws_heap.proofs.Kept.{with_buffer}
use Rattle.cc_laws_snapshot.proofs.GivingBack.{given_back, given_back-purple, give_back-buffer}
use Rattle.cc_laws_run.specs.Doomed.{candidates_now}
use Rattle.cc_laws_run.specs.GivenUp.{IsGivenUp, GivesUp, SliceGivesUp, CyclesGiveUp, CollectGivesUp}
use Rattle.cc_laws_run.proofs.UnitLawful.{unit-cases}
use Rattle.cc_laws_run.proofs.RefusedUnits.{give_back-purple}
use Rattle.cc_laws_run.proofs.HoldingUnits.{units_done-keep, finish-cases, unless_stopped-cases}

-- what is some is not none
some-none : {X : Type 0} (x : X) → Some x ≡ None → ⊥
some-none x e = cc

-- THE HEAPS GIVEN UP

-- giving up at once
given-now : (h : Heap) (s : Option Snapshot) → IsGivenUp h s (heap_given_back h s)
given-now h s = grind arith

-- they are those from before but for the buffer
only-buffer : (h k : Heap) (bs : List Buffered) → k ≡ with_buffer h bs → k ≡ with_buffer h k.buffer
only-buffer h k bs e = e ∙ ap (with_buffer h) (sym (ap (λ (g : Heap). g.buffer) e))

pub given_up-rest : (h : Heap) (s : Option Snapshot) (k : Heap) → IsGivenUp h s k → k ≡ with_buffer h k.buffer
given_up-rest h None k g = ⊎_elim
    (λ e. only-buffer h k h.buffer e)
    (λ e. only-buffer h k (given_back (candidates_of h) h []) (e ∙ give_back-buffer (candidates_of h) h [])) g
given_up-rest h (Some x) k g = only-buffer h k (given_back x.candidates h h.buffer) (g ∙ give_back-buffer x.candidates h h.buffer)

-- who is purple in heaps
abbrev pub IsPurple : Heap → ℕ → Type 0
IsPurple h i = Among (native i) (view h).purple

-- the purple ones are the candidates of a begin
purple-candidate : (h : Heap) (i : ℕ) → IsPurple h i → (j : ℕ) × Among j (candidates_of h) × (native j ≡ native i)
purple-candidate h i p =
    let f = Among-map_cases buffered (filter (λ b. b.purple) h.buffer) (native i) p in
    (f.0.number, Among-map (λ (b : Buffered). b.number) f.0 (filter (λ b. b.purple) h.buffer) f.1, f.2)

-- EACH SUSPECT THAT IS THERE IS PURPLE: who was purple, and each candidate of the collection that ran.
pub given_up-suspects : (h : Heap) (s : Option Snapshot) (k : Heap) → IsGivenUp h s k → (i : ℕ) → Among (native i) (native_names h) →
    IsPurple h i ⊎ Among i (candidates_now s) → IsPurple k i
given_up-suspects h None k g i there d = ⊎_elim
    (λ p. ⊎_elim
    (λ e. subst (λ (l : Heap). IsPurple l i) (sym e) p)
    (λ e. let c = purple-candidate h i p in
    subst (λ (l : Heap). IsPurple l i) (sym e)
    (subst (λ (x : Name). Among x (view (give_back (candidates_of h) (with_empty_buffer h))).purple) c.2
    (give_back-purple (with_empty_buffer h) (candidates_of h) c.0 c.1 (subst (λ (x : Name). Among x (native_names h)) (sym c.2) there)))) g)
    (λ c. absurd c) d
given_up-suspects h (Some x) k g i there d = subst (λ (l : Heap). IsPurple l i) (sym g) (⊎_elim
    (λ p. subst (λ (l : Heap). IsPurple l i) (sym (give_back-buffer x.candidates h h.buffer)) (given_back-purple h (native i) x.candidates h.buffer p))
    (λ c. give_back-purple h x.candidates i c there) d)

-- Units from a machine, where `es` was told before

module _ (m : Machine) (es : List Event) where
  -- while they go on, giving up now leaves what was to be left, and no collection runs only where none ran and nothing was done
  record GoesOn (h : Heap) (s : Option Snapshot) (fs : List Event) : Type 0 where
    given : IsGivenUp m.heap m.snapshot (heap_given_back h s)
    idle : s ≡ None → (h ≡ m.heap) × (m.snapshot ≡ None)
    told : fs ≡ es

  -- what they come to
  abbrev ComesTo : Progress → Heap → Option Snapshot → List Event → Type 0
  ComesTo went_on h s fs = GoesOn h s fs
  ComesTo at_end h s fs = Unit {0}
  ComesTo refused h s fs = IsGivenUp m.heap m.snapshot h × (s ≡ None) × (fs ≡ es ++ Abandoned ∷ [])

  abbrev UnitComes : List Event → UnitDone → Type 0
  UnitComes fs u = ComesTo u.progress u.heap u.snapshot (fs ++ u.events)

  abbrev Comes : UnitsDone → Type 0
  Comes d = ComesTo d.progress d.machine.heap d.machine.snapshot d.events

  -- a unit that has its memory
  granted-comes : (h : Heap) (s : Option Snapshot) (fs : List Event) → GoesOn h s fs → UnitComes fs (granted h s)
  granted-comes h s fs g = grind (arith, some-none, append-nil)

  -- any unit
  unit-comes : (h : Heap) (s : Option Snapshot) (fs : List Event) (answer : Bool) → GoesOn h s fs → UnitComes fs (unit h s answer)
  unit-comes h s fs answer g = unit-cases h s answer (UnitComes fs)
      (g.given, refl, ap (λ (l : List Event). l ++ Abandoned ∷ []) g.told) (granted-comes h s fs g)

  one_unit-comes : (d : UnitsDone) → d.progress ≡ went_on → Comes d → Comes (one_unit d.machine d.events)
  one_unit-comes d e q = unit-comes d.machine.heap d.machine.snapshot d.events (next_answer d.machine.memory)
      (subst (λ (p : Progress). ComesTo p d.machine.heap d.machine.snapshot d.events) e q)

  -- any number of them
  abbrev none_yet : UnitsDone
  none_yet = units_came m es went_on

  units-come : (n : ℕ) → Comes (units_done n none_yet)
  units-come n = units_done-keep Comes one_unit-comes n none_yet
      (record { given = given-now m.heap m.snapshot; idle = λ e. (refl, e); told = refl })

  -- THEY GAVE UP where they were refused.
  units-give_up : (n : ℕ) → (units_done n none_yet).progress ≡ refused → GivesUp m es (units_done n none_yet)
  units-give_up n e =
      let d = units_done n none_yet in
      let r = subst (λ (p : Progress). ComesTo p d.machine.heap d.machine.snapshot d.events) e (units-come n) in
      record { heap = r.0; snapshot = r.1; events = r.2 }

-- units of collections gave up where they were refused
slice_cycles-gives_up : (n : ℕ) (m : Machine) → (slice_cycles n m).progress ≡ refused → GivesUp m [] (slice_cycles n m)
unfolding slice_cycles
slice_cycles-gives_up n m e = units-give_up m [] n e

-- SO DID THE END OF A RUNNING COLLECTION, of `collect` and of `gc`.
pub finish-gives_up : (m : Machine) → (finish_running m).progress ≡ refused → GivesUp m [] (finish_running m)
finish-gives_up m = finish-cases m (λ d. d.progress ≡ refused → GivesUp m [] d) (units-give_up m [] (enough_units m)) (λ none e. absurd cc)

-- a whole collection of cycles did, there or in a collection of its own
pub collect_cycles-gives_up : (m : Machine) → (collect_cycles m).progress ≡ refused → CyclesGiveUp m [] (collect_cycles m)
unfolding collect_cycles
collect_cycles-gives_up m = grind (arith, unless_stopped-cases, finish-gives_up, units-give_up)

-- Behind the end of a marking

-- what gave up behind what was told before
behind-gives_up : (m : Machine) (es : List Event) (b d : UnitsDone) → GivesUp m es d → GivesUp m (b.events ++ es) (behind b d)
behind-gives_up m es b d g = record {
  heap = g.heap;
  snapshot = g.snapshot;
  events = ap (λ (fs : List Event). b.events ++ fs) g.events ∙ sym (append_assoc b.events es (Abandoned ∷ []));
}

-- where nothing else was told before
behind-gives_up_first : (m : Machine) (b d : UnitsDone) → GivesUp m [] d → GivesUp m b.events (behind b d)
behind-gives_up_first m b d g = record { heap = g.heap; snapshot = g.snapshot; events = ap (λ (fs : List Event). b.events ++ fs) g.events }

-- A SLICE GAVE UP where it was refused.
pub slice-gives_up : (n : ℕ) (m : Machine) → (slice n m).progress ≡ refused → SliceGivesUp m (slice n m)
unfolding slice
slice-gives_up n m e =
    let b : UnitsDone = finish_marking m in
    behind-gives_up_first b.machine b (slice_cycles n b.machine) (slice_cycles-gives_up n b.machine e)

-- AND `collect`, there or in a collection of its own.
pub collect-gives_up : (m : Machine) → (collect m).progress ≡ refused → CollectGivesUp m (collect m)
unfolding collect
collect-gives_up m e =
    let b : UnitsDone = finish_marking m in
    let d : UnitsDone = collect_cycles b.machine in
    let ran : UnitsDone = finish_running b.machine in
    ⊎_elim
    (λ g. inl (behind-gives_up_first b.machine b d g))
    (λ g. inr (g.0, behind-gives_up ran.machine ran.events b d g.1)) (collect_cycles-gives_up b.machine e)
