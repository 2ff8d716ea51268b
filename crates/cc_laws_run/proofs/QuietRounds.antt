-- A SWEEP OF CLOSED MARKS KEEPS WHAT IS REACHED, AND A SCRIPT COLLECTION DOES. Where each native that holds something is reached,
-- a script collection leaves nothing else.
use Rattle.std.proofs.Common.{◌≡◌, ℕ, true, List, [], ◌++◌, sym, ◌∙◌, ap, subst, ⊎_elim}
use Rattle.std.specs.List.{flat_map}
use Rattle.cc_lists.specs.Members.{Among}
use Rattle.cc_lists.proofs.Members.{Among-map_cases, Among-append, Among-filter, Among-flat_map_cases}
use Rattle.cc_lists.proofs.Least.{derive-root, derive-along}
use Rattle.cc_names.specs.declared.name.Name.{Name}
use Rattle.cc_names.specs.Names.{native, is_script}
use Rattle.cc_model.specs.Slots.{contents}
use Rattle.cc_model.specs.Entries.{joints, rules_of, Entry, Joint, joint}
use Rattle.cc_model.specs.Heap.{Heap, HeapNative, HeapScript}
use Rattle.cc_model.specs.View.{View, view, native_edges, script_edges, ReachedIn}
use Rattle.cc_model.specs.WellFormed.{names_there}
use Rattle.cc_model.specs.Colours.{marked}
use Rattle.cc_model.specs.Sweep.{unmarked, sweep, collect_scripts}
use Rattle.cc_model.proofs.Joints.{derive-joint, joint-cases, Gives, gives-joint, its_key, its_value}
use Rattle.cc_laws_heap.specs.Sound.{IsSound}
use Rattle.cc_laws_heap.specs.Marks.{Stays, AreMarksClosed}
use Rattle.cc_laws_heap.proofs.ScriptNames.{entry-named, script-named, delegate-named}
use Rattle.cc_laws_heap.proofs.MarkedWellFormed.{is_spared_entry}
use Rattle.cc_laws_heap.proofs.MarkingKeeps.{AreMarksClosed-marked, IsSound-marked, round-sound}
use Rattle.cc_laws_heap.proofs.RoundParts.{left-stays, round-natives, sweep-natives, sweep-scripts}
use Rattle.cc_laws_heap.proofs.CollectedColours.{collecting-keeps}
use Rattle.cc_laws_heap.proofs.Swept.{entries-sweep, sweep-frees, sweep-sound}
use Rattle.cc_laws_heap.proofs.ViewEdges.{script_edges-are}
use Rattle.cc_laws_heap.proofs.Coloured.{one-script}
use Rattle.cc_laws_heap.proofs.RoundsStand.{spared-from}
use Rattle.cc_laws_heap.proofs.MarksClosed.{stays-key}
use Rattle.cc_laws_snapshot.proofs.SweepLoses.{edges-marked}
use Rattle.cc_laws_snapshot.proofs.ReachedStays.{edge-stays}
use Rattle.cc_laws_run.proofs.LeftThere.{collected-has}
use Rattle.cc_laws_snapshot.proofs.ReachedStays.{IsTidy, KeepsReached, reached-kept, native_edges-alike, native-edge_of, native-edge, script-edge}
use Rattle.cc_laws_snapshot.proofs.SoundView.{script-place}

-- A sweep

module _ {owned : List ℕ} (h : Heap) (c : AreMarksClosed h) (s : IsSound owned h) where
  -- the heaps after a sweep
  abbrev swept : Heap
  swept = (sweep h).heap

  -- they are sound
  swept-sound : IsSound owned swept
  swept-sound = sweep-sound h c s

  -- what a native that is left holds it held
  native-kept : (n : HeapNative) (x y : Name) → Among n h.natives → Among (x, y) (native_edges n) → Among x (names_there swept) → Among (x, y) (view swept).edges
  native-kept n x y m e there = edge-stays h swept s.well_formed swept-sound.well_formed n x y m e there (λ k i same. sweep-natives h s k i)

  -- what a script object that is left holds it held
  script-kept : (o : HeapScript) (x y : Name) → Among o h.scripts → Among (x, y) (script_edges o) → Among x (names_there swept) → Among (x, y) (view swept).edges
  script-kept o x y m e there =
      let start : o.name ≡ x = (script_edges-are o x y e).0 in
      let script : is_script x ≡ true = subst (λ z. is_script z ≡ true) start (script-named h s.well_formed o m) in
      let k = Among-map_cases (λ (p : HeapScript). p.name) swept.scripts x (script-place swept x script there) in
      let same : k.0 ≡ o = one-script h o k.0 s.well_formed m (sweep-scripts h k.0 k.1) (k.2 ∙ sym start) in
      script-edge swept k.0 x y k.1 (subst (λ (p : HeapScript). Among (x, y) (script_edges p)) (sym same) e)

  -- an entry whose map and key stay is left
  entry-kept : (e : Entry) → Among e h.entries → Stays h e.the_map → Stays h e.key → Among e swept.entries
  entry-kept e m a b = subst (λ es. Among e es) (sym (entries-sweep h s))
      (Among-filter (is_spared_entry (unmarked h)) e h.entries m (spared-from (unmarked h) e a b))

  -- what an entry gives stays, where its members are left
  joint-kept : (e : Entry) → Among e h.entries → (j : Joint) → Gives e j → Among j.the_map (names_there swept) → Among j.key (names_there swept) →
      Among j (joints swept.entries)
  joint-kept e m _ its_value a b =
      let named = entry-named h s.well_formed e m in
      gives-joint swept.entries e (joint e.the_map e.key e.value)
      (entry-kept e m (left-stays h e.the_map (script-place swept e.the_map named.0 a)) (left-stays h e.key (script-place swept e.key named.1 b))) its_value
  joint-kept e m _ (its_key d is) a b =
      let the_map : Stays h e.the_map = left-stays h e.the_map (script-place swept e.the_map (entry-named h s.well_formed e m).0 a) in
      let delegate : Stays h d = left-stays h d (script-place swept d (delegate-named h s.well_formed e d m is) b) in
      gives-joint swept.entries e (joint e.the_map d e.key) (entry-kept e m the_map (stays-key h c e d m is the_map delegate)) (its_key d is)

  -- what a register holds stays
  registers-kept : (view swept).registers ≡ (view h).registers
  registers-kept =
      let f = sweep-frees h s in
      ap (λ xs. contents xs ++ contents swept.script_registers) f.native_registers ∙ ap (λ xs. contents h.native_registers ++ contents xs) f.script_registers

  -- what is left holds what it held
  edges-kept : (x y : Name) → Among x (names_there swept) → Among (x, y) (view h).edges → Among (x, y) (view swept).edges
  edges-kept x y there e = ⊎_elim
      (λ l. let f = Among-flat_map_cases native_edges h.natives (x, y) l in native-kept f.0 x y f.1 f.2 there)
      (λ l. let f = Among-flat_map_cases script_edges h.scripts (x, y) l in script-kept f.0 x y f.1 f.2 there)
      (Among-append (x, y) (flat_map native_edges h.natives) (flat_map script_edges h.scripts) e)

  -- A SWEEP KEEPS WHAT IS REACHED, where the marks are closed.
  pub sweep-keeps : KeepsReached h (sweep h).heap
  sweep-keeps = record {
    registers = λ x m. subst (λ xs. Among x xs) (sym registers-kept) m;
    edges = λ x y r there e. edges-kept x y there e;
    joints = λ j m a b. let f = joint-cases h.entries j m in joint-kept f.0 f.1 j f.2 a b;
  }

-- Rounds

module _ {owned : List ℕ} (h : Heap) (s : IsSound owned h) where
  -- the heaps after a round
  abbrev next : Heap
  next = (sweep (marked h)).heap

  -- A round keeps what is reached.
  pub round-keeps : KeepsReached h (sweep (marked h)).heap
  unfolding marked
  round-keeps =
      let closed : AreMarksClosed (marked h) = AreMarksClosed-marked h s in
      let sound : IsSound owned (marked h) = IsSound-marked owned h s in
      let k : KeepsReached (marked h) (sweep (marked h)).heap = sweep-keeps (marked h) closed sound in
      record {
        registers = k.registers;
        edges = λ x y r there e. edges-kept (marked h) closed sound x y there (subst (λ es. Among (x, y) es) (sym (edges-marked h)) e);
        joints = k.joints;
      }

  -- A round leaves natives that hold something reached.
  pub round-tidy : IsTidy h → IsTidy (sweep (marked h)).heap
  round-tidy t i y m =
      let w = (round-sound h s).well_formed in
      let f = native-edge_of next i y w m in
      let p = round-natives h s f.0 f.1 in
      let edges : native_edges f.0 ≡ native_edges p.0 = sym (native_edges-alike p.0 f.0 p.2) in
      reached-kept h next w round-keeps (native i)
      (t i y (native-edge h p.0 (native i) y p.1 (subst (λ es. Among (native i, y) es) edges f.3)))

-- A script collection leaves natives that hold something reached.
collect_scripts-tidy : (h : Heap) → IsSound [] h → IsTidy h → IsTidy (collect_scripts h).heap
collect_scripts-tidy h s t = collecting-keeps (λ o. IsTidy o.heap) (λ o c u. round-tidy o.heap c u) h s t

-- A SCRIPT COLLECTION LEAVES WHAT IS REACHED AND NOTHING ELSE, where each native that holds something is reached.
pub collected-reached : (h : Heap) → IsSound [] h → IsTidy h → (x : Name) → Among x (names_there (collect_scripts h).heap) →
    ReachedIn (view (collect_scripts h).heap) x
collected-reached h s t x m =
    let v : View = view (collect_scripts h).heap in
    collected-has h (ReachedIn v) s (record {
      registers = λ x m. derive-root v.registers v.edges (rules_of v.joints) x m;
      holder = collect_scripts-tidy h s t;
      edges = λ x y e r. derive-along v.registers v.edges (rules_of v.joints) x y e r;
      joints = λ j m a b. derive-joint v.registers v.edges v.joints j m a b;
    }) x m
