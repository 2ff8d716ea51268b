-- UNITS KEEP WHAT IS SPENT, and the end of a collection that can't miss names leaves them spent.
use Rattle.std.proofs.Common.{◌≡◌, ◌==◌, ℕ, Bool, List, [], ◌∷◌, ◌++◌, Option, Some, None, refl, sym, ◌∙◌, ap, subst, ⊎_elim, arith}
use Rattle.cc_lists.specs.Members.{Among}
use Rattle.cc_lists.proofs.Members.{Among-flat_map_cases, Among_or_not}
use Rattle.cc_names.specs.declared.name.Name.{Name}
use Rattle.cc_names.specs.declared.name.Name.TheVariants as name
use Rattle.cc_names.specs.Names.{native, object, natives_in, number_of}
use Rattle.cc_model.specs.declared.command.Command.TheVariants.{Collect}
use Rattle.cc_model.specs.declared.item.Event.{Event}
use Rattle.cc_model.specs.declared.item.Event.TheVariants.{Unlinked, Abandoned}
use Rattle.cc_model.specs.Slots.{contents}
use Rattle.cc_model.specs.Graph.{Graph}
use Rattle.cc_model.specs.WellMade.{IsWellMade}
use Rattle.cc_model.specs.WellFormed.{native_names}
use Rattle.cc_model.specs.Heap.{Heap, HeapNative}
use Rattle.cc_model.specs.View.{view, native_edges}
use Rattle.cc_model.specs.Snapshot.{Snapshot, white_natives}
use Rattle.cc_model.specs.Units.{begun, first_untraversed, to_note, after_node, with_empty_buffer}
use Rattle.cc_model.specs.Fresh.{IsFresh, IsTraversed}
use Rattle.cc_model.specs.End.{Progress, went_on, at_end, refused, UnitDone, heap_given_back, granted, node_or_end, take_away, unit}
use Rattle.cc_model.specs.Listed.{after_events}
use Rattle.cc_model.specs.Lawful.{unlinked_in, unlinked_numbers}
use Rattle.cc_model.specs.Collecting.{Machine, UnitsDone, next_answer, one_unit, units_done}
use Rattle.cc_laws_heap.specs.Sound.{IsSound}
use Rattle.cc_laws_heap.specs.Ending.{TakesAway}
use Rattle.cc_lists.proofs.Numbers.{number-exact}
use Rattle.cc_laws_heap.proofs.Making.{native_names-made}
use Rattle.cc_laws_heap.proofs.TakingAway.{taken-emptied, others-kept, take_away-takes, take_away-sound}
use Rattle.cc_laws_snapshot.proofs.SoundView.{named-there}
use Rattle.cc_laws_run.specs.Doomed.{IsDoomed, AreUnlinked}
use Rattle.cc_laws_snapshot.proofs.NamesAndEdges.{named-of_living}
use Rattle.cc_laws_run.proofs.TouchedViews.{edge-cases}
use Rattle.cc_laws_run.proofs.DoomedNode.{after_node-doomed}
use Rattle.cc_laws_run.proofs.DoomedWhite.{doomed-white_native}
use Rattle.cc_laws_snapshot.proofs.GivingBack.{given_back, give_back-buffer}
use Rattle.cc_laws_snapshot.proofs.WhiteNatives.{white_natives-there}
use Rattle.cc_laws_snapshot.proofs.ReachedStays.{native_edges-alike, native-edge, script-edge, native-edge_of}
use Rattle.cc_laws_run.proofs.UnitLawful.{unit-cases, RunsOn, UnitIsLawful, unit-lawful, traversed-none}
use Rattle.cc_laws_run.proofs.QuietTaken.{emptied-none}
use Rattle.cc_laws_run.proofs.HoldingUnits.{Manner, EachKeeps, units_done-holds, HoldsOn}
use Rattle.cc_laws_run.proofs.Unabandoned.{TellsNone, take_away-none}
use Rattle.cc_laws_run.proofs.SpentViews.{WasIn-alike, IsLess-buffer, spent-less, IsLess}
use Rattle.cc_laws_run.specs.Spent.{IsSpent}
use Rattle.cc_laws_run.proofs.JointLists.{joints-within}

-- The end

-- a number that is told unlinked is in such an event
unlinked-told : (es : List Event) (k : ℕ) → Among k (unlinked_numbers es) → Among (Unlinked (native k)) es
unlinked-told es k m = let f = Among-flat_map_cases unlinked_in es k m in by_event f.0 f.1 f.2
  where
    by_name : (x : Name) → Among k (natives_in x) → x ≡ native k
    by_name (name.Native j) n = ⊎_elim (λ e. ap native e) (λ a. absurd a) n
    by_name _ n = absurd n

    by_event : (e : Event) → Among e es → Among k (unlinked_in e) → Among (Unlinked (native k)) es
    by_event (Unlinked x) i n = subst (λ y. Among (Unlinked y) es) (by_name x n) i
    by_event _ i n = absurd n

-- the end of a collection unlinks each native that it dooms
end-unlinks : (h : Heap) (s : Snapshot) (ds : List Name) → IsSound [] h → IsFresh h.natives_made (view h) s → IsTraversed s →
    IsDoomed (view h) s ds → AreUnlinked ds (take_away (white_natives h s) h).events
end-unlinks h s ds sound fresh all d = λ i b.
    let t = (take_away-takes h (white_natives h s) sound (white_natives-there h s sound).there).1 in
    unlinked-told (take_away (white_natives h s) h).events i (subst (Among i) (sym t.unlinked) (doomed-white_native h s ds i sound fresh all d b))

module _ (h : Heap) (ks : List ℕ) (s : IsSound [] h) (there : (k : ℕ) → Among k ks → Among (native k) (native_names h)) where
  -- what is left once these natives are taken away
  abbrev end : Heap
  end = (take_away ks h).heap

  taken : TakesAway h ks (take_away-takes h ks s there).0 (take_away ks h)
  taken = (take_away-takes h ks s there).1

  -- what a native has it had
  of_native : (n : HeapNative) (x y : Name) → Among n end.natives → Among (x, y) (native_edges n) → Among (x, y) (view h).edges
  of_native n x y m e = ⊎_elim
      (λ i. absurd (emptied-none h ks s there n x y (taken-emptied h ks s there n m i) e))
      (λ out. let p = others-kept h ks s there n m out in native-edge h p.0 x y p.1 (subst (λ es. Among (x, y) es) (sym (native_edges-alike p.0 n p.2)) e))
      (Among_or_not ◌==◌ number-exact ks n.number)

  -- it is less
  take_away-less : IsLess h end
  take_away-less = record {
    natives_made = omega (arith, taken.natives_made);
    scripts_made = omega (arith, taken.scripts_made);
    registers = λ x m. subst (λ xs. Among x xs) (ap (λ xs. contents xs ++ contents end.script_registers) taken.native_registers
        ∙ ap (λ xs. contents h.native_registers ++ contents xs) taken.script_registers) m;
    edges = λ x y e. ⊎_elim (λ f. of_native f.0 x y f.1 f.2) (λ f. script-edge h f.0 x y (subst (λ os. Among f.0 os) taken.scripts f.1) f.2) (edge-cases end x y e);
    joints = joints-within end.entries h.entries (λ e m. subst (λ es. Among e es) taken.entries m);
    unlinked = λ n m. ⊎_elim
        (λ i. let c = taken.left n m in (c.was, c.there, c.number, λ e. (c.taken i).unlinked))
        (λ out. WasIn-alike h n (others-kept h ks s there n m out))
        (Among_or_not ◌==◌ number-exact ks n.number);
  }

  -- and these natives hold nothing
  taken-empty : (i : ℕ) (y : Name) → Among i ks → ¬ (Among (native i, y) (view end).edges)
  taken-empty i y m e =
      let f = native-edge_of end i y (take_away-sound h ks s there).well_formed e in
      emptied-none h ks s there f.0 (native i) y (taken-emptied h ks s there f.0 f.1 (subst (λ j. Among j ks) (sym (ap number_of f.2)) m)) f.3

-- the end of a collection leaves what it dooms spent
end-spends : (h : Heap) (s : Snapshot) (ds : List Name) → IsSound [] h → IsFresh h.natives_made (view h) s → IsTraversed s →
    IsDoomed (view h) s ds → IsSpent (take_away (white_natives h s) h).heap ds
end-spends h s ds sound fresh all d =
    let there = (white_natives-there h s sound).there in
    let l = take_away-less h (white_natives h s) sound there in
    record {
      natives_made = λ i m. omega (arith, l.natives_made, native_names-made h 0 sound.well_formed i (named-of_living h (native i) (d.natives i m)));
      scripts_made = λ i m. omega (arith, l.scripts_made, (sound.well_formed.object_numbers i (named-there h (object i) (d.scripts (object i) m refl))).1);
      unregistered = λ x m r. d.unregistered x m (l.registers x r);
      holder = λ x y e m. d.holder x y (l.edges x y e) m;
      joint = λ e i m. d.joint e (l.joints e i) m;
      empty = λ i y m. taken-empty h (white_natives h s) sound there i y (doomed-white_native h s ds i sound fresh all d m);
      unlinked = λ n i m. (((taken h (white_natives h s) sound there).left n i).taken (doomed-white_native h s ds n.number sound fresh all d m)).unlinked;
    }

-- One unit

-- a unit keeps what is spent
pub unit-spends : (h : Heap) (o : Option Snapshot) (ds : List Name) (memory : Bool) → IsSound [] h → IsSpent h ds → IsSpent (unit h o memory).heap ds
unit-spends h o ds memory sound d = unit-cases h o memory (λ u. IsSpent u.heap ds) (given o) (by_snapshot o)
  where
    given : (o : Option Snapshot) → IsSpent (heap_given_back h o) ds
    given None = d
    given (Some s) = subst (λ k. IsSpent k ds) (sym (give_back-buffer s.candidates h h.buffer))
        (spent-less ds h (record h { buffer = given_back s.candidates h h.buffer }) (IsLess-buffer h (given_back s.candidates h h.buffer)) d)

    by_node : (s : Snapshot) (x : Option Name) → IsSpent (node_or_end h s x).heap ds
    by_node s (Some x) = d
    by_node s None = spent-less ds h (take_away (white_natives h s) h).heap (take_away-less h (white_natives h s) sound (white_natives-there h s sound).there) d

    by_snapshot : (o : Option Snapshot) → IsSpent (granted h o).heap ds
    by_snapshot None = spent-less ds h (with_empty_buffer h) (IsLess-buffer h []) d
    by_snapshot (Some s) = by_node s (first_untraversed s.nodes)

-- WHAT BECOMES OF NAMES THAT A COLLECTION CAN'T MISS, by what its last unit came to: it has told nothing and can't miss them; or it
-- has unlinked them all, they are spent, and it tells no abandonment; or it tells that it is abandoned, and no more
abbrev pub Settles : List Name → Heap → Option Snapshot → List Event → Progress → Type 0
Settles ds h s es went_on = (es ≡ []) × ((t : Snapshot) × (s ≡ Some t) × IsDoomed (view h) t ds)
Settles ds h s es at_end = AreUnlinked ds es × IsSpent h ds × TellsNone es
Settles ds h s es refused = es ≡ Abandoned ∷ []

-- the unit of a node, or the end
node_or_end-settles : (h : Heap) (s : Snapshot) (ds : List Name) → IsSound [] h → IsFresh h.natives_made (view h) s → IsDoomed (view h) s ds →
    (o : Option Name) → first_untraversed s.nodes ≡ o →
    Settles ds (node_or_end h s o).heap (node_or_end h s o).snapshot (node_or_end h s o).events (node_or_end h s o).progress
node_or_end-settles h s ds sound fresh d None e = (
  end-unlinks h s ds sound fresh (λ x. traversed-none s.nodes e x) d,
  end-spends h s ds sound fresh (λ x. traversed-none s.nodes e x) d,
  take_away-none (white_natives h s) h,
)
node_or_end-settles h s ds sound fresh d (Some x) e =
    (refl, (after_node h s x (to_note h x), refl, after_node-doomed h s x ds sound.well_formed d))

-- a unit of a collection that can't miss the names
unit-settles : (h : Heap) (s : Snapshot) (ds : List Name) (memory : Bool) → IsSound [] h → IsFresh h.natives_made (view h) s → IsDoomed (view h) s ds →
    Settles ds (unit h (Some s) memory).heap (unit h (Some s) memory).snapshot (unit h (Some s) memory).events (unit h (Some s) memory).progress
unit-settles h s ds memory sound fresh d = unit-cases h (Some s) memory (λ u. Settles ds u.heap u.snapshot u.events u.progress)
    refl
    (node_or_end-settles h s ds sound fresh d (first_untraversed s.nodes) refl)

-- the unit of a begin dooms names that the snapshot begun dooms, or it is abandoned
begin-settles : (h : Heap) (ds : List Name) (memory : Bool) → IsDoomed (view (with_empty_buffer h)) (begun h) ds →
    Settles ds (unit h None memory).heap (unit h None memory).snapshot (unit h None memory).events (unit h None memory).progress
begin-settles h ds memory d = unit-cases h None memory (λ u. Settles ds u.heap u.snapshot u.events u.progress) refl (refl, (begun h, refl, d))

-- Units in a row

-- names are spent
abbrev pub Spending : List Name → Manner
Spending ds h o es p = IsSpent h ds

-- which each unit keeps
pub each-spends : (g : Graph) (ds : List Name) → EachKeeps g (Spending ds)
each-spends g ds names h o answer es r d = unit-spends h o ds answer r.sound d

-- a machine that runs beside a graph, and a collection of it that settles names
abbrev pub SettlesOn : Graph → List Name → UnitsDone → Type 0
SettlesOn g ds d = HoldsOn g (Settles ds) d

-- which each unit keeps
each-settles : (g : Graph) (ds : List Name) → EachKeeps g (Settles ds)
each-settles g ds names h o answer es r k = grind (arith, unit-settles)

module _ (g : Graph) (well : IsWellMade g) (ds : List Name) where
  -- units in a row leave such a one
  pub units_done-settle : (n : ℕ) (d : UnitsDone) → SettlesOn g ds d → SettlesOn g ds (units_done n d)
  units_done-settle = units_done-holds g well (Settles ds) (each-settles g ds)

  -- and so does the first unit of a collection, where the snapshot begun dooms them
  pub first-settles : (names : List Name) (m : Machine) → RunsOn g names m.heap m.snapshot → m.snapshot ≡ None →
      IsDoomed (view (with_empty_buffer m.heap)) (begun m.heap) ds → SettlesOn g ds (one_unit m [])
  first-settles names m r none doomed =
      let u : UnitDone = unit m.heap m.snapshot (next_answer m.memory) in
      let lawful : UnitIsLawful g names Collect u = unit-lawful g well Collect refl names m.heap m.snapshot (next_answer m.memory) r in
      record {
        names = after_events names u.events;
        runs = lawful.still;
        holds = subst (λ o. let u = unit m.heap o (next_answer m.memory) in Settles ds u.heap u.snapshot u.events u.progress) (sym none)
            (begin-settles m.heap ds (next_answer m.memory) doomed);
      }
