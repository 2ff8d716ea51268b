-- WHAT IS LOST IS DOOMED BY A COLLECTION THAT BEGINS, whenever that is: all garbage is lost right after a script collection.
use Rattle.std.specs.Prelude.{IsTrue}
use Rattle.std.specs.List.{filter}
use Rattle.std.proofs.Common.{◌≡◌, ℕ, Bool, true, false, List, [], ◌++◌, map, Some, None, refl, sym, ◌∙◌, ap, subst, ⊎_elim}
use Rattle.cc_lists.specs.Members.{Among}
use Rattle.cc_lists.specs.Least.{Least, system}
use Rattle.cc_lists.proofs.Members.{Among-append, Among-filtered, Among-flat_map_cases, Among-map, Among-map_cases, Among-passes}
use Rattle.cc_lists.proofs.Closure.{closure-derived}
use Rattle.cc_lists.proofs.Least.{derive-root, derive-along, derived-within}
use Rattle.cc_names.specs.declared.name.Name.{Name}
use Rattle.cc_names.specs.declared.name.Name.TheVariants as name
use Rattle.cc_names.specs.Names.{native, is_script, same_name}
use Rattle.cc_names.proofs.NameTests.{same_name-exact}
use Rattle.cc_model.specs.Colours.{HasColourInvariant, HasColours, IsMarked, black_names, black_rules, scripts_held, scripts_held_by}
use Rattle.cc_model.specs.Entries.{Joint, joints}
use Rattle.cc_model.specs.Exposure.{slots_of_scripts}
use Rattle.cc_model.specs.Fresh.{IsFresh, IsLiving, IsNode, IsScriptThere}
use Rattle.cc_model.specs.Heap.{Buffered, Heap, is_gray_in}
use Rattle.cc_model.specs.Places.{places_of_native}
use Rattle.cc_model.specs.Slots.{contents, from_to}
use Rattle.cc_model.specs.Snapshot.{Mapping, node_names}
use Rattle.cc_model.specs.Suspected.{IsCovered, IsSuspected, is_unreached, unreached_scripts}
use Rattle.cc_model.specs.Sweep.{unmarked}
use Rattle.cc_model.specs.Units.{begun, candidates_of, if_gray, mapping_of, mappings_of, with_empty_buffer}
use Rattle.cc_model.specs.View.{buffered, scripts_there, view}
use Rattle.cc_model.specs.WellFormed.{script_names}
use Rattle.cc_model.proofs.Joints.{derived-by_joints}
use Rattle.cc_laws_heap.specs.Sound.{IsSound}
use Rattle.cc_laws_heap.proofs.Face.{native-no_script}
use Rattle.cc_laws_heap.proofs.MarkedKept.{marked-other}
use Rattle.cc_laws_snapshot.proofs.Beginning.{begun-fresh}
use Rattle.cc_laws_snapshot.proofs.NodeUnit.{gray-tested}
use Rattle.cc_laws_snapshot.proofs.ReachedStays.{native-edge}
use Rattle.cc_laws_snapshot.proofs.SoundView.{JointThere, black-or_gray, joint-there, named-there, there-named}
use Rattle.cc_laws_run.specs.Doomed.{IsDoomed, IsMappingOf}
use Rattle.cc_laws_run.proofs.DoomedBegin.{black-reached, slot-edge}
use Rattle.cc_laws_run.proofs.TouchedReads.{IsApart, reached-untouched}
use Rattle.cc_host.specs.Later.{AreLost, IsHeldUp, along, given, held}

-- A collection that begins

module _ (h : Heap) (ds : List Name) (d : AreLost (view h) ds) (sound : IsSound [] h) (invariant : HasColourInvariant (view h)) (suspected : IsSuspected (view h) []) where
  -- the snapshot
  fresh : IsFresh h.natives_made (view (with_empty_buffer h)) (begun h)
  fresh = begun-fresh h sound invariant

  -- reached over references from a node
  abbrev FromNode : Name → Type 0
  FromNode = Least (system (node_names (begun h)) (view h).edges [])

  from-node : (x : Name) → IsNode (begun h) x → FromNode x
  from-node x n = derive-root (node_names (begun h)) (view h).edges [] x n

  from-along : (x y : Name) → Among (x, y) (view h).edges → FromNode x → FromNode y
  from-along x y e f = derive-along (node_names (begun h)) (view h).edges [] x y e f

  -- a script object of them is gray
  lost-gray : (x : Name) → Among x ds → IsScriptThere (view h) x → Among x (view h).gray
  lost-gray x m there = ⊎_elim (λ b. absurd (d.unmarked x m b)) (λ g. g) (black-or_gray (view h) invariant x there)

  value-there : (e : Joint) → Among e (joints h.entries) → IsScriptThere (view h) e.value
  value-there e i = there-named h e.value (joint-there h sound.well_formed e i).value

  -- what is held up is reached from a node
  held-from : (x : Name) → IsHeldUp (view h).edges (view h).joints x → Among x ds → FromNode x
  held-from _ (held k x script e) m = from-along (native k) x e (from-node (native k) (fresh.gray_held k x e (lost-gray x m (d.scripts x m script))))
  held-from _ (given e i) m =
      let g = fresh.gray_value e i (lost-gray e.value m (value-there e i)) in
      subst FromNode g.2.value (from-node g.0.value (fresh.members g.0 g.1).value)
  held-from _ (along x y e u) m = from-along x y e (held-from x u (d.holder x y e m))

  -- what is purple is a node
  purple-from : (x : Name) → Among x (view h).purple → FromNode x
  purple-from x m =
      let f = Among-map_cases buffered (filter (λ (b : Buffered). b.purple) h.buffer) x m in
      let k : Among f.0.number (candidates_of h) = Among-map (λ (b : Buffered). b.number) f.0 (filter (λ (b : Buffered). b.purple) h.buffer) f.1 in
      subst FromNode f.2 (from-node (native f.0.number) (fresh.candidates f.0.number k))

  -- a script object of them is reached from a node
  script-from : (x : Name) → IsTrue (is_script x) → Among x ds → FromNode x
  script-from x script m = held-from x (d.held_up x m script) m

  -- what is covered is reached from a node
  covered-from : (x : Name) → IsCovered (view h) x → Among x ds → FromNode x
  covered-from = derived-within ((view h).purple ++ unreached_scripts (view h)) (view h).edges [] (λ x. Among x ds → FromNode x)
      (λ x m i. ⊎_elim (purple-from x)
      (λ u. unreached-from x (Among-filtered (is_unreached (view h)) x (scripts_there (view h)) u) i)
      (Among-append x (view h).purple (unreached_scripts (view h)) m))
      (λ x y e f i. from-along x y e (f (d.holder x y e i)))
      (λ ps y e f. absurd e)
    where
      unreached-from : (x : Name) → IsScriptThere (view h) x → Among x ds → FromNode x
      unreached-from (name.Native k) there i = absurd (no_script k.0 there)
        where
          no_script : (k : ℕ) → IsScriptThere (view h) (native k) → ⊥
          no_script k there = native-no_script h k sound.well_formed (named-there h (native k) there)
      unreached-from (name.Script k) there i = script-from (name.Script k) refl i
      unreached-from (name.Reflector k) there i = script-from (name.Reflector k) refl i

  -- nothing is reached from no candidate
  none-from : (x : Name) → Least (system (map native []) (view h).edges []) x → ⊥
  none-from = derived-within (map native []) (view h).edges [] (λ x. ⊥) (λ x m. m) (λ x y e d. d) (λ ps y e d. e)

  is-apart : IsApart ds h
  is-apart = record { unregistered = d.unregistered; holder = d.holder; joint = d.joint }

  -- each of them is reached from a node
  lost-from : (x : Name) → Among x ds → FromNode x
  lost-from (name.Native k) m =
      let l : IsLiving (view h) (native k.0) = d.natives k.0 m in
      ⊎_elim (λ c. covered-from (native k.0) c m) (λ a. absurd (none-from (native k.0) a.1))
      (suspected (native k.0) l.0 l.1 (λ r. reached-untouched ds h is-apart (native k.0) r m))
  lost-from (name.Script k) m = script-from (name.Script k) refl m
  lost-from (name.Reflector k) m = script-from (name.Reflector k) refl m

  if_gray-some : (x : Name) → Among x (view h).gray → if_gray h x ≡ Some x
  if_gray-some x g = ap (λ (b : Bool). elim b [ true ↦ Some x | false ↦ None ]) (gray-tested h x g)

  -- a mapping that gives one of them is that of a joint, and has its members that are of them
  lost-mapping : (m : Mapping) → Among m (mappings_of h) → Among m.value ds → (e : Joint) × Among e (joints h.entries) × IsMappingOf ds m e
  lost-mapping m i b =
      let f = Among-map_cases (mapping_of h) (filter (λ (e : Joint). is_gray_in h e.value) (joints h.entries)) m i in
      let e : Joint = f.0 in
      let there : Among e (joints h.entries) = Among-filtered (λ (d : Joint). is_gray_in h d.value) e (joints h.entries) f.1 in
      let members : JointThere h e = joint-there h sound.well_formed e there in
      let the_map : if_gray h e.the_map ≡ m.the_map = ap (λ (n : Mapping). n.the_map) f.2 in
      let key : if_gray h e.key ≡ m.key = ap (λ (n : Mapping). n.key) f.2 in (
        e,
        there,
        record {
          value = ap (λ (n : Mapping). n.value) f.2;
          the_map = λ l. sym the_map ∙ if_gray-some e.the_map (lost-gray e.the_map l (there-named h e.the_map members.the_map));
          key = λ r. sym key ∙ if_gray-some e.key (lost-gray e.key r (there-named h e.key members.key));
        },
      )

  -- A COLLECTION THAT BEGINS DOOMS WHAT IS LOST.
  pub lost-dooms : IsDoomed (view (with_empty_buffer h)) (begun h) ds
  lost-dooms = record {
    natives = d.natives;
    scripts = d.scripts;
    unregistered = d.unregistered;
    unbuffered = λ x b m. m;
    unmarked = d.unmarked;
    holder = d.holder;
    joint = d.joint;
    noted_held = λ x y m b. absurd m;
    mapping_held = lost-mapping;
    covered = lost-from;
  }

-- Right after a script collection

module _ (h : Heap) (ds : List Name) (d : IsDoomed (view (with_empty_buffer h)) (begun h) ds) (c : HasColours h) (none : unmarked h ≡ []) where
  apart-then : IsApart ds h
  apart-then = record { unregistered = d.unregistered; holder = d.holder; joint = d.joint }

  -- what a native holds is held up
  native-holds : (y : Name) → Among y (scripts_held h) → IsHeldUp (view h).edges (view h).joints y
  native-holds y m =
      let f = Among-flat_map_cases scripts_held_by h.natives y m in
      let places : List Name = contents (places_of_native f.0) in
      held f.0.number y (Among-passes is_script y places f.2)
      (native-edge h f.0 (native f.0.number) y f.1 (Among-map (from_to (native f.0.number)) y places (Among-filtered is_script y places f.2)))

  -- so is what is marked and doomed
  marked-held : (x : Name) → IsMarked h x → Among x ds → IsHeldUp (view h).edges (view h).joints x
  marked-held = derived-by_joints (black_names h ++ scripts_held h) (slots_of_scripts h) (joints h.entries) (λ x. Among x ds → IsHeldUp (view h).edges (view h).joints x)
      (λ x m i. ⊎_elim
      (λ b. absurd (reached-untouched ds h apart-then x (black-reached h x (closure-derived same_name same_name-exact (black_rules h) x b)) i))
      (native-holds x)
      (Among-append x (black_names h) (scripts_held h) m))
      (λ x y e f i. let edge = slot-edge h x y e in along x y edge (f (d.holder x y edge i)))
      (λ j m a b i. given j m)

  -- WHAT A COLLECTION WOULD DOOM THAT BEGINS NOW IS LOST.
  pub doomed-lost : AreLost (view h) ds
  doomed-lost = record {
    natives = d.natives;
    scripts = d.scripts;
    unregistered = d.unregistered;
    unmarked = d.unmarked;
    holder = d.holder;
    joint = d.joint;
    held_up = λ x m script.
        let there : Among x (script_names h) = named-there h x (d.scripts x m script) in
        marked-held x (marked-other h c x there (λ u. subst (λ xs. Among x xs) none u)) m;
  }
