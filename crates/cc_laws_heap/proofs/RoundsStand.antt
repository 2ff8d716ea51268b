-- A SWEEP KEEPS STANDING FOR THE GRAPH, where the marks are closed, AND A SCRIPT COLLECTION DOES: what is given stays,
-- where it is a script object, and what well formed heaps mention is there.
use Rattle.std.proofs.Common.{◌≡◌, ℕ, true, List, refl, sym, ◌∙◌, ap, subst, inl, arith}
use Rattle.cc_lists.specs.Members.{Among}
use Rattle.cc_lists.proofs.Members.{Among-map_cases}
use Rattle.cc_names.specs.declared.name.Name.{Name}
use Rattle.cc_model.specs.declared.item.Event.TheVariants.{Freed}
use Rattle.cc_model.specs.Entries.{Entry, is_entry_of}
use Rattle.cc_model.specs.Graph.{Graph}
use Rattle.cc_model.specs.Reached.{Reached}
use Rattle.cc_model.specs.Given.{Given}
use Rattle.cc_model.specs.WellMade.{IsWellMade}
use Rattle.cc_model.specs.Heap.{Heap, HeapNative, HeapScript, Outcome}
use Rattle.cc_model.specs.Colours.{black_names, marked_names, coloured_by, marked}
use Rattle.cc_model.specs.Sweep.{unmarked, sweep, collect_scripts}
use Rattle.cc_model.specs.WellFormed.{names_there}
use Rattle.cc_model.specs.StandsFor.{shape_in, shape_of_held_script, StandsFor, shape_of_held_native}
use Rattle.cc_laws_heap.specs.Sound.{IsSound}
use Rattle.cc_laws_heap.specs.Marks.{Stays, AreMarksClosed}
use Rattle.cc_laws_heap.specs.Rounds.{FreesNames}
use Rattle.cc_laws_heap.proofs.EntryLists.{is_entry_of-parts}
use Rattle.cc_laws_heap.proofs.ReachedAlike.{reached-there}
use Rattle.cc_laws_heap.proofs.Following.{AreObjects, AreEntries, Follows, stands-follows}
use Rattle.cc_laws_heap.proofs.Standing.{follows-stands}
use Rattle.cc_laws_heap.proofs.Changing.{unchanged, HeapChanges, AreObjects-changed, option_map-same, Leaves, Follows-left}
use Rattle.cc_laws_heap.proofs.NameLists.{is_not_among-from}
use Rattle.cc_laws_heap.proofs.FreedNames.{FreesNames-left}
use Rattle.cc_laws_heap.proofs.MarkedWellFormed.{is_spared_entry}
use Rattle.cc_laws_heap.proofs.Swept.{taken-sweep, sweep-frees, entries-sweep, sweep-sound}
use Rattle.cc_laws_heap.proofs.MarkingKeeps.{AreMarksClosed-marked, IsSound-coloured, IsSound-marked, as_coloured}
use Rattle.cc_laws_heap.proofs.RoundParts.{value_in-filter, ArePart-filter, sweep-natives, sweep-scripts}
use Rattle.cc_laws_heap.proofs.ReachedMarked.{given-not_unmarked}
use Rattle.cc_laws_heap.proofs.CollectedColours.{collecting-keeps, collect_scripts-frees}

-- the objects that a sweep leaves have the shapes that they had
sweep-leaves : {owned : List ℕ} (h : Heap) → IsSound owned h → HeapChanges unchanged h (sweep h).heap
sweep-leaves h s = record {
  natives = λ n i.
      let f = sweep-natives h s n i in
      (f.0, f.1, ap (λ (u : HeapNative). u.number) f.2, ap shape_of_held_native (sym f.2), ap (λ (u : HeapNative). u.unlinked) f.2);
  scripts = λ o i. (o, sweep-scripts h o i, refl, refl);
}

-- an entry with neither a dead map nor a dead key is spared
pub spared-from : (dead : List Name) (e : Entry) → ¬ (Among e.the_map dead) → ¬ (Among e.key dead) → is_spared_entry dead e ≡ true
spared-from dead e a b = grind (arith, is_not_among-from)

-- what is told as freed is gone
pub freed-left : (h : Heap) (o : Outcome) (xs : List Name) → FreesNames h xs o → (x : Name) → Among (Freed x) o.events → ¬ (Among x (names_there o.heap))
freed-left h o xs f x i there =
    let k = Among-map_cases Freed xs (Freed x) (subst (Among (Freed x)) f.told i) in
    let same : k.0 ≡ x = cc in
    (FreesNames-left h xs o f x there).1 (subst (λ y. Among y xs) same k.1)

module _ {owned : List ℕ} (h : Heap) (g : Graph) (c : AreMarksClosed h) (s : IsSound owned h) (m : IsWellMade g) (t : StandsFor h g) where
  -- heaps that stand for the graph follow it, over what is given
  follows : Follows (Given h g) h g
  follows = stands-follows h g s.well_formed t

  -- the objects that a sweep leaves follow the graph
  sweep-objects : AreObjects (Given h g) (sweep h).heap g
  sweep-objects = AreObjects-changed (Given h g) unchanged h (sweep h).heap g g (sweep-leaves h s)
      (λ x. option_map-same (shape_in g x)) (λ x. inl (λ t. refl)) follows.objects

  -- an entry whose map and key are given is left
  entry-left : (x k : Name) → Given h g x → Given h g k → (e : Entry) → Among e h.entries → is_entry_of x k e ≡ true →
      is_spared_entry (unmarked h) e ≡ true
  entry-left x k a b e i is_it =
      let p = is_entry_of-parts x k e is_it in
      let stays : (y : Name) → Given h g y → Stays h y = given-not_unmarked h g c s.well_formed m t in
      spared-from (unmarked h) e (subst (Stays h) (sym p.0) (stays x a)) (subst (Stays h) (sym p.1) (stays k b))

  -- the entries that a sweep leaves follow the graph
  sweep-entries_follow : AreEntries (Given h g) (sweep h).heap.entries g.entries
  sweep-entries_follow = subst (λ es. AreEntries (Given h g) es g.entries) (sym (entries-sweep h s)) (record {
    values = λ x k a b. value_in-filter (is_spared_entry (unmarked h)) h.entries x k (entry-left x k a b) ∙ follows.entries.values x k a b;
    part = ArePart-filter (is_spared_entry (unmarked h)) h.entries g.entries follows.entries.part;
  })

  -- the heaps after a sweep follow the graph
  sweep-follows : Follows (Given h g) (sweep h).heap g
  sweep-follows =
      let f = sweep-frees h s in
      record {
        beside = record {
          native_registers = f.native_registers ∙ follows.beside.native_registers;
          script_registers = f.script_registers ∙ follows.beside.script_registers;
          limits = f.limits ∙ follows.beside.limits;
          natives_made = f.natives_made ∙ follows.beside.natives_made;
          scripts_made = f.scripts_made ∙ follows.beside.scripts_made;
        };
        objects = sweep-objects;
        entries = sweep-entries_follow;
        blank = follows.blank;
        closed = follows.closed;
      }

  -- A SWEEP KEEPS STANDING FOR THE GRAPH.
  pub sweep-stands : StandsFor (sweep h).heap g
  sweep-stands = follows-stands (Given h g) (sweep h).heap g (sweep-sound h c s).well_formed m sweep-follows

  -- A sweep frees nothing that the graph reaches.
  pub sweep-unreached : (x : Name) → Among (Freed x) (sweep h).events → ¬ (Reached g x)
  sweep-unreached x i d = freed-left h (sweep h) (taken-sweep h s).0 (sweep-frees h s) x i (reached-there (sweep h).heap g x sweep-stands d)

-- Other colours

-- what has other colours has the shapes that it had
Leaves-coloured : (blacks marks : List Name) (h : Heap) → Leaves h (coloured_by blacks marks h)
Leaves-coloured blacks marks h = record {
  beside = record { native_registers = refl; script_registers = refl; entries = refl; natives_made = refl; scripts_made = refl; limits = refl };
  objects = record {
    natives = λ n i. (n, i, refl, refl, refl);
    scripts = λ o i.
        let p = Among-map_cases (as_coloured blacks marks) h.scripts o i in
        (p.0, p.1, ap (λ (q : HeapScript). q.name) p.2, sym (ap shape_of_held_script p.2));
  };
}

-- HEAPS WITH OTHER COLOURS STAND FOR THE SAME GRAPH.
pub coloured-stands : {owned : List ℕ} (blacks marks : List Name) (h : Heap) (g : Graph) → IsSound owned h → IsWellMade g → StandsFor h g →
    StandsFor (coloured_by blacks marks h) g
coloured-stands blacks marks h g s m t =
    let k : Heap = coloured_by blacks marks h in
    follows-stands (Given h g) k g (IsSound-coloured blacks marks h s).well_formed m
    (Follows-left (Given h g) h k g (Leaves-coloured blacks marks h) (stands-follows h g s.well_formed t))

-- Rounds

module _ {owned : List ℕ} (h : Heap) (g : Graph) (s : IsSound owned h) (m : IsWellMade g) (t : StandsFor h g) where
  -- Marked heaps stand for the same graph.
  pub marked-stands : StandsFor (marked h) g
  unfolding marked
  marked-stands = coloured-stands (black_names h) (marked_names h) h g s m t

  -- A round keeps standing for the graph.
  pub round-stands : StandsFor (sweep (marked h)).heap g
  round-stands = sweep-stands (marked h) g (AreMarksClosed-marked h s) (IsSound-marked owned h s) m marked-stands

-- A SCRIPT COLLECTION KEEPS STANDING FOR THE GRAPH,
pub collect_scripts-stands : {owned : List ℕ} (h : Heap) (g : Graph) → IsSound owned h → IsWellMade g → StandsFor h g → StandsFor (collect_scripts h).heap g
collect_scripts-stands h g s m t = collecting-keeps (λ o. StandsFor o.heap g) (λ o c u. round-stands o.heap g c m u) h s t

-- and frees nothing that the graph reaches.
pub collect_scripts-unreached : {owned : List ℕ} (h : Heap) (g : Graph) (x : Name) → IsSound owned h → IsWellMade g → StandsFor h g →
    Among (Freed x) (collect_scripts h).events → ¬ (Reached g x)
collect_scripts-unreached h g x s m t i d =
    let f = collect_scripts-frees h s in
    freed-left h (collect_scripts h) f.0 f.1 x i (reached-there (collect_scripts h).heap g x (collect_scripts-stands h g s m t) d)
