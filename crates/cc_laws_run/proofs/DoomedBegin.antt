-- A COLLECTION THAT BEGINS RIGHT AFTER A SCRIPT COLLECTION DOOMS ALL GARBAGE.
use Rattle.std.proofs.Common.{arith, ◌≡◌, Bool, true, false, not, List, [], ◌++◌, map, Some, None, sym, ◌∙◌, ap, subst, inl, inr, ◌⊎◌, ⊎_elim}
use Rattle.std.specs.List.{filter, flat_map}
use Rattle.std.proofs.lemmas.Bool.{false≢true}
use Rattle.cc_model.specs.Places.{places_of_native, script_places_of}
use Rattle.cc_model.proofs.Places.{behind_edges, script_edges-split}
use Rattle.cc_lists.specs.Members.{Among, has}
use Rattle.cc_lists.specs.Least.{Least, system}
use Rattle.cc_lists.proofs.Members.{Among-map, Among-map_cases, Among-left, Among-right, Among-append, Among-filter, Among-filtered, Among-passes, Among-flat_map, Among-flat_map_cases}
use Rattle.cc_lists.proofs.Least.{derive-root, derive-along, derived-within}
use Rattle.cc_lists.proofs.Closure.{closure-decides, closure-derived}
use Rattle.cc_names.specs.declared.name.Name.{Name}
use Rattle.cc_names.specs.declared.kind.Colour.TheVariants.{Black}
use Rattle.cc_names.specs.Names.{native, same_name, is_script}
use Rattle.cc_names.proofs.NameTests.{same_name-exact}
use Rattle.cc_model.specs.Slots.{contents, from_to}
use Rattle.cc_model.specs.Entries.{joints, rules_of, Joint}
use Rattle.cc_model.specs.Heap.{Heap, HeapNative, HeapScript, Buffered, is_black_colour, is_gray_in}
use Rattle.cc_model.specs.View.{view, buffered, native_edges, script_edges, script_slot_edges, view_rules, ReachedIn, reached_in, scripts_there}
use Rattle.cc_model.specs.WellFormed.{native_names, script_names, names_there}
use Rattle.cc_model.specs.Exposure.{slots_of_scripts}
use Rattle.cc_model.specs.Colours.{HasColourInvariant, HasColours, IsBlack, black_rules, black_names, marked_names, IsMarked, scripts_held_by, scripts_held}
use Rattle.cc_model.specs.Snapshot.{Mapping, node_names}
use Rattle.cc_model.specs.Units.{candidates_of, if_gray, mapping_of, mappings_of, begun, with_empty_buffer}
use Rattle.cc_model.specs.Sweep.{unmarked, collect_scripts}
use Rattle.cc_model.specs.Fresh.{IsNode, IsScriptThere, IsFresh}
use Rattle.cc_model.specs.Suspected.{is_unreached, unreached_scripts, IsCovered, IsSuspected}
use Rattle.cc_model.proofs.Joints.{derived-by_joints, derive-joint}
use Rattle.cc_laws_heap.specs.Sound.{IsSound}
use Rattle.cc_laws_heap.proofs.Marking.{colour_of-black, black-decided}
use Rattle.cc_laws_heap.proofs.MarkedKept.{marked-other}
use Rattle.cc_laws_heap.proofs.CollectedColours.{collect_scripts-sound, collect_scripts-colours, collect_scripts-unmarked, collect_scripts-invariant}
use Rattle.cc_laws_heap.proofs.Coloured.{is_black-true}
use Rattle.cc_laws_heap.proofs.References.{native-there}
use Rattle.cc_laws_snapshot.proofs.Edges.{edge-of}
use Rattle.cc_laws_snapshot.proofs.SoundView.{living-named, there-named, named-there, black-or_gray, script-place, JointThere, joint-there}
use Rattle.cc_laws_snapshot.proofs.NodeUnit.{gray-tested}
use Rattle.cc_laws_snapshot.proofs.Beginning.{begun-fresh}
use Rattle.cc_laws_run.specs.Doomed.{IsMappingOf, IsDoomed, garbage}
use Rattle.cc_laws_snapshot.proofs.KindsLoyal.{reached_cases}
use Rattle.cc_laws_snapshot.proofs.SweepLoses.{collect_scripts-suspected}
use Rattle.cc_laws_snapshot.proofs.ReachedStays.{script-edge}

-- Garbage

module _ (h : Heap) where
  -- what no register reaches passes the test
  pub out-unreached : (x : Name) → ¬ (ReachedIn (view h) x) → is_unreached (view h) x ≡ true
  out-unreached x out = grind (arith, closure-decides, same_name-exact)

  -- what is there and unreached is garbage
  pub garbage-there : (x : Name) → Among x (names_there h) → ¬ (ReachedIn (view h) x) → Among x (garbage h)
  garbage-there x m out = Among-filter (is_unreached (view h)) x (names_there h) m (out-unreached x out)

  -- garbage is there
  pub garbage-is_there : (x : Name) → Among x (garbage h) → Among x (names_there h)
  garbage-is_there x m = Among-filtered (is_unreached (view h)) x (names_there h) m

  -- and unreached
  pub garbage-out : (x : Name) → Among x (garbage h) → ¬ (ReachedIn (view h) x)
  garbage-out x m r =
      let found : has same_name (reached_in (view h)) x ≡ true = (closure-decides same_name same_name-exact (view_rules (view h)) x).1 r in
      false≢true (sym (ap not found) ∙ Among-passes (is_unreached (view h)) x (names_there h) m)

  -- who holds something is there
  pub edge-there : (x y : Name) → Among (x, y) (view h).edges → Among x (names_there h)
  edge-there x y m = grind (arith, Among-left, Among-map, Among-right, edge-of)

  -- What is black is reached

  -- an edge over a slot of a script object is an edge
  pub slot-edge : (x y : Name) → Among (x, y) (slots_of_scripts h) → Among (x, y) (view h).edges
  slot-edge x y m =
      let f = Among-flat_map_cases script_slot_edges h.scripts (x, y) m in
      script-edge h f.0 x y f.1 (subst (Among (x, y)) (sym (script_edges-split f.0)) (Among-left (x, y) (script_slot_edges f.0) (behind_edges f.0.name) f.2))

  -- what is black by the rules is reached
  pub black-reached : (x : Name) → IsBlack h x → ReachedIn (view h) x
  black-reached = derived-by_joints (contents h.script_registers) (slots_of_scripts h) (joints h.entries) (ReachedIn (view h))
      (λ x m. derive-root (view h).registers (view h).edges (rules_of (joints h.entries)) x (Among-right x (contents h.native_registers) (contents h.script_registers) m))
      (λ x y e d. derive-along (view h).registers (view h).edges (rules_of (joints h.entries)) x y (slot-edge x y e) d)
      (derive-joint (view h).registers (view h).edges (joints h.entries))

  -- where the colours are those of marking, a black script object is reached
  pub coloured_black-reached : HasColours h → (x : Name) → Among x (view h).black → ReachedIn (view h) x
  coloured_black-reached c x m =
      let test : HeapScript → Bool = λ o. is_black_colour o.colour in
      let f = Among-map_cases (λ (o : HeapScript). o.name) (filter test h.scripts) x m in
      let o : HeapScript = f.0 in
      let there : Among o h.scripts = Among-filtered test o h.scripts f.1 in
      let black : o.colour ≡ Black = is_black-true o.colour (Among-passes test o h.scripts f.1) in
      let named : has same_name (black_names h) o.name ≡ true =
      colour_of-black (has same_name (black_names h) o.name) (has same_name (marked_names h) o.name) (sym (c o there) ∙ black) in
      subst (ReachedIn (view h)) f.2 (black-reached o.name ((black-decided h o.name).0 named))

module _ (h : Heap) (sound : IsSound [] h) (c : HasColours h) (none : unmarked h ≡ []) (invariant : HasColourInvariant (view h)) where
  -- an unreached script object is gray
  pub unreached-gray : (x : Name) → Among x (script_names h) → ¬ (ReachedIn (view h) x) → Among x (view h).gray
  unreached-gray x m out = ⊎_elim (λ b. absurd (out (coloured_black-reached h c x b))) (λ g. g)
      (black-or_gray (view h) invariant x (there-named h x m))

  -- each script object is marked
  pub there-marked : (x : Name) → Among x (script_names h) → IsMarked h x
  there-marked x m = marked-other h c x m (λ u. subst (λ xs. Among x xs) none u)

module _ (h : Heap) (sound : IsSound [] h) (c : HasColours h) (none : unmarked h ≡ []) (invariant : HasColourInvariant (view h))
    (suspected : IsSuspected (view h) []) where
  -- the snapshot
  abbrev fresh : IsFresh h.natives_made (view (with_empty_buffer h)) (begun h)
  fresh = begun-fresh h sound invariant

  -- reached over references from a node
  abbrev FromNode : Name → Type 0
  FromNode = Least (system (node_names (begun h)) (view h).edges [])

  -- a node is
  from-node : (x : Name) → IsNode (begun h) x → FromNode x
  from-node x n = derive-root (node_names (begun h)) (view h).edges [] x n

  -- so is what such an object refers to
  from-along : (x y : Name) → Among (x, y) (view h).edges → FromNode x → FromNode y
  from-along x y e d = derive-along (node_names (begun h)) (view h).edges [] x y e d

  -- who holds what is unreached is unreached
  out-back : (x y : Name) → Among (x, y) (view h).edges → ¬ (ReachedIn (view h) y) → ¬ (ReachedIn (view h) x)
  out-back x y e out r = out (derive-along (view h).registers (view h).edges (rules_of (joints h.entries)) x y e r)

  -- the members of a joint, and what it gives, are there
  members-there : (j : Joint) → Among j (joints h.entries) → JointThere h j
  members-there = joint-there h sound.well_formed

  -- an unreached script object that a native holds is reached from a node
  held-from : (y : Name) → Among y (scripts_held h) → Among y (script_names h) → ¬ (ReachedIn (view h) y) → FromNode y
  held-from y m there out =
      let f = Among-flat_map_cases scripts_held_by h.natives y m in
      let places : List Name = contents (places_of_native f.0) in
      let edge : Among (native f.0.number, y) (view h).edges =
      Among-left (native f.0.number, y) (flat_map native_edges h.natives) (flat_map script_edges h.scripts)
      (Among-flat_map native_edges f.0 (native f.0.number, y) h.natives f.1
      (Among-map (from_to (native f.0.number)) y places (Among-filtered is_script y places f.2))) in
      from-along (native f.0.number) y edge
      (from-node (native f.0.number) (fresh.gray_held f.0.number y edge (unreached-gray h sound c none invariant y there out)))

  -- what a joint gives that is unreached is a node
  value-from : (e : Joint) → Among e (joints h.entries) → ¬ (ReachedIn (view h) e.value) → FromNode e.value
  value-from e m out =
      let g = fresh.gray_value e m (unreached-gray h sound c none invariant e.value (members-there e m).value out) in
      subst FromNode g.2.value (from-node g.0.value (fresh.members g.0 g.1).value)

  -- so is one that is marked
  marked-from : (x : Name) → IsMarked h x → Among x (script_names h) → ¬ (ReachedIn (view h) x) → FromNode x
  marked-from = derived-by_joints (black_names h ++ scripts_held h) (slots_of_scripts h) (joints h.entries)
      (λ x. Among x (script_names h) → ¬ (ReachedIn (view h) x) → FromNode x)
      (λ x m there out. ⊎_elim
      (λ b. absurd (out (black-reached h x (closure-derived same_name same_name-exact (black_rules h) x b))))
      (λ s. held-from x s there out)
      (Among-append x (black_names h) (scripts_held h) m))
      (λ x y e d there out.
      let edge : Among (x, y) (view h).edges = slot-edge h x y e in
      let f = Among-flat_map_cases script_slot_edges h.scripts (x, y) e in
      let g = Among-map_cases (from_to f.0.name) (contents (script_places_of f.0)) (x, y) f.2 in
      let named : f.0.name ≡ x = ap (λ (p : Name × Name). p.0) g.2 in
      let source : Among x (script_names h) =
      subst (λ z. Among z (script_names h)) named (Among-map (λ (o : HeapScript). o.name) f.0 h.scripts f.1) in
      from-along x y edge (d source (out-back x y edge out)))
      (λ j m a b there out. value-from j m out)

  -- an unreached script object is reached from a node
  script-from : (x : Name) → Among x (script_names h) → ¬ (ReachedIn (view h) x) → FromNode x
  script-from x m out = marked-from x (there-marked h sound c none invariant x m) m out

  -- what is purple is a node
  purple-from : (x : Name) → Among x (view h).purple → FromNode x
  purple-from x m =
      let f = Among-map_cases buffered (filter (λ (b : Buffered). b.purple) h.buffer) x m in
      let k : Among f.0.number (candidates_of h) = Among-map (λ (b : Buffered). b.number) f.0 (filter (λ (b : Buffered). b.purple) h.buffer) f.1 in
      subst FromNode f.2 (from-node (native f.0.number) (fresh.candidates f.0.number k))

  -- what is covered is reached from a node
  covered-from : (x : Name) → IsCovered (view h) x → FromNode x
  covered-from = derived-within ((view h).purple ++ unreached_scripts (view h)) (view h).edges [] FromNode
      (λ x m. ⊎_elim (purple-from x)
      (λ u.
      let there : IsScriptThere (view h) x = Among-filtered (is_unreached (view h)) x (scripts_there (view h)) u in
      script-from x (named-there h x there) (unreached_script-out x u))
      (Among-append x (view h).purple (unreached_scripts (view h)) m))
      (λ x y e d. from-along x y e d)
      (λ ps y e d. absurd e)
    where
      unreached_script-out : (x : Name) → Among x (unreached_scripts (view h)) → ¬ (ReachedIn (view h) x)
      unreached_script-out x m r =
          let found : has same_name (reached_in (view h)) x ≡ true = (closure-decides same_name same_name-exact (view_rules (view h)) x).1 r in
          false≢true (sym (ap not found) ∙ Among-passes (is_unreached (view h)) x (scripts_there (view h)) m)

  -- nothing is reached from no candidate
  none-from : (x : Name) → Least (system (map native []) (view h).edges []) x → ⊥
  none-from = derived-within (map native []) (view h).edges [] (λ x. ⊥) (λ x m. m) (λ x y e d. d) (λ ps y e d. e)

  -- garbage is reached from a node
  garbage-from : (x : Name) → Among x (garbage h) → FromNode x
  garbage-from x m = ⊎_elim
      (λ l.
      let f = Among-map_cases (λ (n : HeapNative). native n.number) h.natives x l in
      let living = living-named h f.0.number (subst (λ z. Among z (native_names h)) (sym f.2) l) in
      subst FromNode f.2 (⊎_elim (covered-from (native f.0.number)) (λ a. absurd (none-from (native f.0.number) a.1))
      (suspected (native f.0.number) living.0 living.1 (subst (λ z. ¬ (ReachedIn (view h) z)) (sym f.2) (garbage-out h x m)))))
      (λ r. script-from x r (garbage-out h x m))
      (Among-append x (native_names h) (script_names h) (garbage-is_there h x m))

  -- a joint that gives what is unreached has an unreached member
  garbage-joint : (e : Joint) → Among e (joints h.entries) → Among e.value (garbage h) → Among e.the_map (garbage h) ⊎ Among e.key (garbage h)
  garbage-joint e m b = ⊎_elim
      (λ r. ⊎_elim
      (λ t. absurd (garbage-out h e.value b (derive-joint (view h).registers (view h).edges (joints h.entries) e m r t)))
      (λ out. inr (garbage-there h e.key (Among-right e.key (native_names h) (script_names h) (members-there e m).key) out))
      (reached_cases (view h) e.key))
      (λ out. inl (garbage-there h e.the_map (Among-right e.the_map (native_names h) (script_names h) (members-there e m).the_map) out))
      (reached_cases (view h) e.the_map)

  -- what is gray is a member of the mapping
  if_gray-some : (x : Name) → Among x (view h).gray → if_gray h x ≡ Some x
  if_gray-some x g = ap (λ (b : Bool). elim b [ true ↦ Some x | false ↦ None ]) (gray-tested h x g)

  -- garbage among script objects is gray
  garbage-gray : (x : Name) → Among x (script_names h) → Among x (garbage h) → Among x (view h).gray
  garbage-gray x there b = unreached-gray h sound c none invariant x there (garbage-out h x b)

  -- a mapping with a garbage value is that of a joint, and has its garbage members
  garbage-mapping : (m : Mapping) → Among m (mappings_of h) → Among m.value (garbage h) →
      (e : Joint) × Among e (joints h.entries) × IsMappingOf (garbage h) m e
  garbage-mapping m i b =
      let f = Among-map_cases (mapping_of h) (filter (λ (e : Joint). is_gray_in h e.value) (joints h.entries)) m i in
      let e : Joint = f.0 in
      let there : Among e (joints h.entries) = Among-filtered (λ (d : Joint). is_gray_in h d.value) e (joints h.entries) f.1 in
      let members = members-there e there in
      let the_map : if_gray h e.the_map ≡ m.the_map = ap (λ (n : Mapping). n.the_map) f.2 in
      let key : if_gray h e.key ≡ m.key = ap (λ (n : Mapping). n.key) f.2 in (
        e,
        there,
        record {
          value = ap (λ (n : Mapping). n.value) f.2;
          the_map = λ l. sym the_map ∙ if_gray-some e.the_map (garbage-gray e.the_map members.the_map l);
          key = λ r. sym key ∙ if_gray-some e.key (garbage-gray e.key members.key r);
        },
      )

  -- ALL GARBAGE IS DOOMED by the snapshot begun.
  pub begun-doomed : IsDoomed (view (with_empty_buffer h)) (begun h) (garbage h)
  begun-doomed = record {
    natives = λ i b. living-named h i (native-there h i sound.well_formed (garbage-is_there h (native i) b));
    scripts = λ x b e. there-named h x (script-place h x e (garbage-is_there h x b));
    unregistered = λ x b m. garbage-out h x b (derive-root (view h).registers (view h).edges (rules_of (joints h.entries)) x m);
    unbuffered = λ x b m. m;
    unmarked = λ x b m. garbage-out h x b (coloured_black-reached h c x m);
    holder = λ x y e b. garbage-there h x (edge-there h x y e) (out-back x y e (garbage-out h y b));
    joint = garbage-joint;
    noted_held = λ x y m b. absurd m;
    mapping_held = garbage-mapping;
    covered = garbage-from;
  }

-- A COLLECTION THAT BEGINS RIGHT AFTER A SCRIPT COLLECTION DOOMS ALL GARBAGE.
pub collected-doomed : (h : Heap) → IsSound [] h → IsSuspected (view h) [] → let g = (collect_scripts h).heap in
    IsDoomed (view (with_empty_buffer g)) (begun g) (garbage g)
collected-doomed h s suspected = begun-doomed (collect_scripts h).heap (collect_scripts-sound h s) (collect_scripts-colours h)
    (collect_scripts-unmarked h) (collect_scripts-invariant h s) (collect_scripts-suspected h s suspected)
