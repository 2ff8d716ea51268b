-- SUSPECTS FORGOTTEN: what is doomed stays doomed, a collection that begins then takes what it would take, and each object is there.
use Rattle.std.proofs.Common.{◌≡◌, ℕ, ◌==◌, ◌&&◌, true, not, List, [], ◌++◌, map, Option, Some, None, option_map, refl, sym, ◌∙◌, ap, subst, inl, ◌⊎◌, ⊎_elim, arith}
use Rattle.std.specs.List.{filter, flat_map}
use Rattle.std.specs.Prelude.{◌↔◌, ◌+◌, find, length}
use Rattle.std.proofs.lemmas.Bool.{false≢true}
use Rattle.cc_lists.specs.Members.{Among, has}
use Rattle.cc_lists.specs.Least.{Least, system}
use Rattle.cc_lists.proofs.Closure.{closure-decides}
use Rattle.cc_lists.proofs.Least.{derive-root, derive-along, derived-within}
use Rattle.cc_lists.proofs.Members.{Among-map, Among-map_cases, Among-left, Among-right, Among-append, Among-passes}
use Rattle.cc_lists.proofs.OnceEach.{with_all_last-there, with_all_last-cases}
use Rattle.cc_names.specs.declared.name.Name.{Name}
use Rattle.cc_names.specs.declared.name.Name.TheVariants as name
use Rattle.cc_names.specs.declared.register.Reg.TheVariants.{N}
use Rattle.cc_names.specs.Names.{native, same_name}
use Rattle.cc_names.proofs.NameTests.{same_name-exact}
use Rattle.cc_model.specs.Entries.{rules_of}
use Rattle.cc_model.specs.Heap.{Heap, HeapNative, Buffered, register}
use Rattle.cc_model.specs.Skipping.{IsSkippable, forgotten}
use Rattle.cc_model.specs.Snapshot.{Node, node_names}
use Rattle.cc_model.specs.Suspected.{is_unreached}
use Rattle.cc_model.specs.Units.{begun, candidates_of, first_names, holders_of, mappings_of, members_of, new_node, with_empty_buffer}
use Rattle.cc_model.specs.View.{view, buffered, ReachedIn, reached_in, view_rules}
use Rattle.cc_model.specs.WellFormed.{names_there}
use Rattle.cc_laws_snapshot.proofs.Face.{forgotten-exactly, forgotten-names, skippable-reached}
use Rattle.cc_laws_run.specs.Doomed.{IsDoomed, garbage}
use Rattle.cc_script.specs.Objects.{Object as OfScript, name_at, object_at, with_walked}
use Rattle.cc_script.specs.Objects as objects
use Rattle.cc_script.proofs.Keys.{object_at-map}
use Rattle.cc_names.specs.declared.kind.Walked.TheVariants.{Out}
use Rattle.cc_counted.specs.Counts.{unlinked_at, unlinked_of}
use Rattle.cc_heaps.specs.Keyed.{Keyed, changed_to, counts_of, number_at, the_number}
use Rattle.cc_heaps.specs.Keeping.{KeepsAll}
use Rattle.cc_heaps.specs.Leaving.{NoneCame, NothingLeft}
use Rattle.cc_heaps.specs.Standing.{StillStands}
use Rattle.cc_heaps.specs.Walking.{unwalked}
use Rattle.cc_collector.specs.Kept.{Kept}
use Rattle.cc_laws_marking.specs.Between.{KeepsMarkings}
use Rattle.cc_laws_marking.proofs.Face.{forgotten-keeps}
use Rattle.cc_heaps.proofs.MarksKept.{marks-mapped}
use Rattle.cc_markslice.specs.Going.{IsMarkingWell}
use Rattle.cc_host.proofs.Marked.{marking-beside}
use Rattle.cc_host.specs.Calls.{Always, Does, Forgets}
use Rattle.cc_host.specs.Changes.{IsChange}
use Rattle.cc_host.specs.Hosted.{is_found, is_name, spare}
use Rattle.cc_host.specs.Missing.{KeepsDoomed}
use Rattle.cc_host.specs.Stops.{first, is_nothing, stop_at, where_so}
use Rattle.cc_host.specs.declared.object.Object.{Object}
use Rattle.cc_host.specs.declared.stop.Stop.TheVariants.{Foreign, Gone, Kind}
use Rattle.cc_host.proofs.Keeping.{hosted}
use Rattle.cc_host.proofs.Referring.{unlinked-of}
use Rattle.cc_host.specs.Places.{KeepsPlaces}
use Rattle.cc_host.proofs.PlacesKept.{places-as, registers-places}

-- THE BUFFER HAS THE NAMES THAT IT HAD, and all but marks is as it was. So what is doomed stays so, what is out of reach and what is lost.
pub forgotten-doomed : (h : Heap) → KeepsDoomed h (forgotten h)
unfolding KeepsDoomed forgotten
forgotten-doomed h = (
  λ s ds keeps d. record {
    natives = d.natives;
    scripts = d.scripts;
    unregistered = d.unregistered;
    unbuffered = λ x m i. d.unbuffered x m (subst (Among x) (forgotten-names h) i);
    unmarked = d.unmarked;
    holder = d.holder;
    joint = d.joint;
    noted_held = d.noted_held;
    mapping_held = d.mapping_held;
    covered = d.covered;
  },
  λ ds d. record {
    emptied = d.emptied;
    reflectors = d.reflectors;
    natives_made = d.natives_made;
    scripts_made = d.scripts_made;
    unregistered = d.unregistered;
    holder = d.holder;
    joint = d.joint;
  },
  λ ds keeps d. record {
    natives = d.natives;
    scripts = d.scripts;
    unregistered = d.unregistered;
    unmarked = d.unmarked;
    holder = d.holder;
    joint = d.joint;
    held_up = d.held_up;
  },
  record { made = omega arith; natives = λ n i. inl (n, i, refl, refl) },
)

-- A collection that begins

module _ (h : Heap) where
  -- the nodes of a snapshot that begins are its candidates, and those that it has for their holding or being held
  abbrev besides : List Name
  besides = holders_of h ++ flat_map members_of (mappings_of h)

  begun-cases : (x : Name) → Among x (node_names (begun h)) → Among x (map native (candidates_of h)) ⊎ Among x besides
  begun-cases x m =
      let f = Among-map_cases (λ (n : Node). n.name) (map new_node (first_names h)) x m in
      let g = Among-map_cases new_node (first_names h) f.0 f.1 in
      let there : Among x (first_names h) = subst (λ z. Among z (first_names h)) (ap (λ (n : Node). n.name) g.2 ∙ f.2) g.1 in
      ⊎_elim (λ none. absurd none) (λ i. Among-append x (map native (candidates_of h)) besides i)
      (with_all_last-cases same_name same_name-exact [] (map native (candidates_of h) ++ besides) x there)

  begun-from : (x : Name) → Among x (map native (candidates_of h) ++ besides) → Among x (node_names (begun h))
  begun-from x m = Among-map (λ (n : Node). n.name) (new_node x) (map new_node (first_names h))
      (Among-map new_node x (first_names h) (with_all_last-there same_name same_name-exact [] (map native (candidates_of h) ++ besides) x m))

  -- the candidates are the purple natives
  candidate-purple : (x : Name) → Among x (map native (candidates_of h)) → Among x (view h).purple
  candidate-purple x m =
      let marked = filter (λ (b : Buffered). b.purple) h.buffer in
      let f = Among-map_cases native (candidates_of h) x m in
      let g = Among-map_cases (λ (b : Buffered). b.number) marked f.0 f.1 in
      subst (λ z. Among z (view h).purple) (ap native g.2 ∙ f.2) (Among-map buffered g.0 marked g.1)

  purple-candidate : (x : Name) → Among x (view h).purple → Among x (map native (candidates_of h))
  purple-candidate x m =
      let marked = filter (λ (b : Buffered). b.purple) h.buffer in
      let f = Among-map_cases buffered marked x m in
      subst (λ z. Among z (map native (candidates_of h))) f.2
      (Among-map native f.0.number (candidates_of h) (Among-map (λ (b : Buffered). b.number) f.0 marked f.1))

  -- garbage is unreached
  garbage-unreached : (x : Name) → Among x (garbage h) → ¬ (ReachedIn (view h) x)
  garbage-unreached x m r =
      let found : has same_name (reached_in (view h)) x ≡ true = (closure-decides same_name same_name-exact (view_rules (view h)) x).1 r in
      false≢true (sym (ap not found) ∙ Among-passes (is_unreached (view h)) x (names_there h) m)

module _ (h : Heap) where
  -- an unreached node is one also where suspects were forgotten before
  node-stays : (x : Name) → ¬ (ReachedIn (view h) x) → Among x (node_names (begun h)) → Among x (node_names (begun (forgotten h)))
  unfolding forgotten
  node-stays x out m = ⊎_elim
      (λ c.
      let stays : Among x (view (forgotten h)).purple = (forgotten-exactly h x).1 (candidate-purple h x c, λ s. out (skippable-reached h x s)) in
      begun-from (forgotten h) x (Among-left x (map native (candidates_of (forgotten h))) (besides (forgotten h)) (purple-candidate (forgotten h) x stays)))
      (λ b. begun-from (forgotten h) x (Among-right x (map native (candidates_of (forgotten h))) (besides h) b))
      (begun-cases h x m)

  -- what is unreached and reached over references from a node is reached from one then too
  abbrev from_before : Name → Type 0
  from_before = Least (system (node_names (begun h)) (view h).edges [])

  abbrev from_now : Name → Type 0
  from_now = Least (system (node_names (begun (forgotten h))) (view h).edges [])

  from-stays : (x : Name) → from_before x → ¬ (ReachedIn (view h) x) → from_now x
  from-stays = derived-within (node_names (begun h)) (view h).edges [] (λ x. ¬ (ReachedIn (view h) x) → from_now x)
      (λ x m out. derive-root (node_names (begun (forgotten h))) (view h).edges [] x (node-stays x out m))
      (λ x y e d out. derive-along (node_names (begun (forgotten h))) (view h).edges [] x y e
      (d (λ r. out (derive-along (view h).registers (view h).edges (rules_of (view h).joints) x y e r))))
      (λ ps y m k. absurd m)

  -- A COLLECTION THAT BEGINS AFTER SUSPECTS WERE FORGOTTEN dooms the garbage that one would doom that began before.
  pub forgotten-garbage : IsDoomed (view (with_empty_buffer h)) (begun h) (garbage h) →
      IsDoomed (view (with_empty_buffer (forgotten h))) (begun (forgotten h)) (garbage (forgotten h))
  unfolding forgotten
  forgotten-garbage d = record {
    natives = d.natives;
    scripts = d.scripts;
    unregistered = d.unregistered;
    unbuffered = d.unbuffered;
    unmarked = d.unmarked;
    holder = d.holder;
    joint = d.joint;
    noted_held = d.noted_held;
    mapping_held = d.mapping_held;
    covered = λ x m. from-stays x (d.covered x m) (garbage-unreached h x m);
  }

-- Objects

-- a script object that no walk has keeps its name
name-unwalked : (os : List OfScript) (key : ℕ) → name_at (objects.unwalked os) key ≡ name_at os key
name-unwalked os key = ap (option_map (λ (o : OfScript). o.name)) (object_at-map (with_walked Out) (λ o. refl) os key) ∙ go (object_at os key)
  where
    go : (o : Option OfScript) → option_map (λ (p : OfScript). p.name) (option_map (with_walked Out) o) ≡ option_map (λ (p : OfScript). p.name) o
    go None = refl
    go (Some o) = refl

-- EACH OBJECT IS THERE THAT WAS THERE, and no other, where no walk goes on and the heaps have the same natives and script objects.
unwalked-stays : (v : Keyed) (h : Heap) → h.natives ≡ v.heap.natives → (c : Kept) (m : ℕ) (x : Object) → stop_at (hosted (unwalked (changed_to v h)) c m) x ≡ stop_at (hosted v c m) x
unwalked-stays v h same c m x = ap (λ f. first (where_so (is_nothing x) Kind) (first (where_so (not (x.mark == m)) Foreign) (where_so (not f) Gone))) (go x.name)
  where
    flag : unlinked_of (counts_of (unwalked (changed_to v h))) x.key ≡ unlinked_of (counts_of v) x.key
    flag = unlinked-of (unwalked (changed_to v h)) x.key
        ∙ (ap (λ (ns : List HeapNative). unlinked_at (find (λ (n : HeapNative). n.number == the_number v x.key) ns)) same ∙ sym (unlinked-of v x.key))

    go : (y : Name) → is_found (hosted (unwalked (changed_to v h)) c m) (record x { name = y }) ≡ is_found (hosted v c m) (record x { name = y })
    go (name.Native k) = ap (λ b. is_name (name.Native k) (option_map native (number_at v x.key)) && not b) flag
    go (name.Script k) = ap (is_name (name.Script k)) (name-unwalked v.scripts x.key)
    go (name.Reflector k) = ap (is_name (name.Reflector k)) (name-unwalked v.scripts x.key)

-- WHAT IT COMES TO in a host
module _ (v w : Keyed) (c : Kept) (m : ℕ) (is : w ≡ unwalked (changed_to v (forgotten v.heap))) (kept : KeepsAll v w) (still : StillStands v.heap w.heap) where
  -- natives are what they were
  natives : (forgotten v.heap).natives ≡ v.heap.natives
  unfolding forgotten
  natives = refl

  heap : w.heap ≡ forgotten v.heap
  heap = ap (λ (u : Keyed). u.heap) is

  -- registers hold what they held
  registers : register w.heap (N spare) ≡ register v.heap (N spare)
  unfolding forgotten
  registers = ap (λ (u : Heap). register u (N spare)) heap

  doomed : KeepsDoomed v.heap w.heap
  doomed = subst (KeepsDoomed v.heap) (sym heap) (forgotten-doomed v.heap)

  pub forgotten-change : register v.heap (N spare) ≡ None → IsChange Always (λ g. g) v w
  forgotten-change spared = record { kept = kept; spared = registers ∙ spared; stands = λ p g well s. (well, still g well s); doomed = λ p. doomed }

  pub forgotten-marking : IsMarkingWell v → IsMarkingWell w
  forgotten-marking = (marking-beside v w (subst (KeepsMarkings v.heap) (sym heap) (forgotten-keeps v.heap))
      (marks-mapped v w (with_walked Out) (ap (λ (u : Keyed). u.marking) is) (ap (λ (u : Keyed). u.scripts) is) (λ o. refl) (λ o. refl) (λ o. refl))).well

  pub forgotten-does : Does Always (λ g. g) (hosted v c m) (hosted w c m)
  forgotten-does = record { stands = λ p g well s. (well, still g well s); doomed = λ p. doomed; keys = kept.keys; running = refl; marking = refl; mark = refl }

  pub forgotten-none_came : NoneCame v.heap w.heap
  unfolding forgotten
  forgotten-none_came x i = subst (λ (u : Heap). Among x (names_there u)) heap i

  pub forgotten-none_left : NothingLeft v.heap w.heap
  unfolding forgotten
  forgotten-none_left x i = subst (λ (u : Heap). Among x (names_there u)) (sym heap) i

  pub forgotten-places : KeepsPlaces v.heap w.heap
  unfolding forgotten
  forgotten-places = places-as v.heap (forgotten v.heap) w.heap heap (registers-places v.heap (forgotten v.heap) refl refl)

  pub forgotten-forgets : (marks : ℕ) → marks + length (view w.heap).purple ≡ length (view v.heap).purple →
      ((k : ℕ) → Among (native k) (view v.heap).purple → (¬ (Among (native k) (view w.heap).purple)) ↔ IsSkippable v.heap (native k)) →
      Forgets (hosted v c m) (hosted w c m) marks
  forgotten-forgets marks count exactly = record {
    heap = heap;
    count = count;
    exactly = exactly;
    stays = λ x. ap (λ (u : Keyed). stop_at (hosted u c m) x) is ∙ unwalked-stays v (forgotten v.heap) natives c m x;
    begins = λ t. record {
      idle = t.idle;
      unmarked = t.unmarked;
      garbage_doomed = subst (λ (u : Heap). IsDoomed (view (with_empty_buffer u)) (begun u) (garbage u)) (sym heap) (forgotten-garbage v.heap t.garbage_doomed);
    };
  }
