-- WHAT WAS UNLINKED IS OUT OF REACH where the heaps stand for a graph and it holds nothing; and `gc` frees it.
use Rattle.std.specs.Prelude.{IsTrue, not}
use Rattle.std.specs.List.{filter}
use Rattle.std.proofs.Common.{◌≡◌, ◌≤◌, ℕ, Bool, true, false, List, [], ◌++◌, ◌||◌, length, Option, Some, None, refl, sym, ◌∙◌, ap, subst, inl, inr, ◌⊎◌, arith, ⊎_elim}
use Rattle.std.proofs.lemmas.Bool.{true≢false}
use Rattle.cc_lists.specs.Members.{Among}
use Rattle.cc_lists.proofs.Members.{Among-left, Among-right, Among-append, Among-filter, Among-filtered, Among-passes, Among-map, Among-map_cases}
use Rattle.cc_lists.proofs.Least.{derive-root, derive-along}
use Rattle.cc_names.specs.Allowance.{Allowance}
use Rattle.cc_names.specs.declared.name.Name.{Name}
use Rattle.cc_names.specs.Names.{native, object, reflector, number_of}
use Rattle.cc_model.specs.Entries.{joints, rules_of}
use Rattle.cc_model.specs.Slots.{Slots, contents}
use Rattle.cc_model.specs.Graph.{Graph, empty_graph}
use Rattle.cc_model.specs.WellMade.{IsWellMade}
use Rattle.cc_model.specs.Reached.{roots_of}
use Rattle.cc_model.specs.Given.{GivenFrom, given, is_usable, is_usable_native, living_names}
use Rattle.cc_model.specs.Heap.{Heap, HeapNative, empty_heap, native_at}
use Rattle.cc_model.specs.View.{LedFrom, view, native_edges}
use Rattle.cc_model.specs.WellFormed.{IsWellFormed, native_names, script_names, names_there}
use Rattle.cc_model.specs.StandsFor.{IsEmptied, StandsFor}
use Rattle.cc_model.specs.Sweep.{collect_scripts}
use Rattle.cc_model.specs.Collecting.{Machine, finish_running, without_marking, gc}
use Rattle.cc_model.proofs.Joints.{derive-joint, derived-by_joints}
use Rattle.cc_laws_heap.specs.Sound.{IsSound}
use Rattle.cc_laws_heap.proofs.Face.{empty-stands, native-no_script, usable-native}
use Rattle.cc_laws_heap.proofs.GraphCommands.{empty-well}
use Rattle.cc_laws_heap.proofs.Making.{contents-empty_none}
use Rattle.cc_laws_heap.proofs.ViewEdges.{native_edges-are}
use Rattle.cc_laws_heap.proofs.Given.{living-named, living-given, named-living}
use Rattle.cc_laws_heap.proofs.Natives.{IsWellFormed-distinct, native_at-member}
use Rattle.cc_laws_snapshot.proofs.ReachedStays.{native-edge_of}
use Rattle.cc_laws_snapshot.proofs.SoundView.{JointThere, joint-there}
use Rattle.cc_laws_run.specs.Returning.{MayBeBack}
use Rattle.cc_laws_run.specs.Spent.{IsSpent}
use Rattle.cc_laws_run.proofs.DoomedBegin.{edge-there}
use Rattle.cc_laws_run.proofs.GivenHeaps.{edge-back, joint-back}
use Rattle.cc_laws_run.proofs.GivenNames.{may_be_back, test-back, back-test}
use Rattle.cc_laws_run.proofs.LeftThere.{PassesOn, collected-has}
use Rattle.cc_laws_run.proofs.SpentGone.{collected-gone}
use Rattle.cc_laws_run.proofs.SpentMarks.{SpendsAt, finish_running-spends}
use Rattle.cc_laws_run.proofs.TouchedReads.{reached-untouched}
use Rattle.cc_heaps.specs.Standing.{MayBeHeld}
use Rattle.cc_host.specs.Hosted.{Hosted}
use Rattle.cc_host.specs.Missing.{IsNoneOf, IsUsedWell}
use Rattle.cc_host.specs.Next.{AreOutOfReach, FreesTheUnlinked, HasEndedIn, HaveTheUnlinked, LeadsToUnlinked, UnlinkedIsOutOfReach, holds, unlinked}
use Rattle.cc_host.proofs.NextUnits.{AllEmptied, IsAtRest, IsNumbered, IsUnlinked, gc-rests, numbered-stable, unlinked-stable}

-- Names out of reach

-- what is not passed by a test passes the other way
not-passed : (b : Bool) → b ≡ false → not b ≡ true
not-passed b e = ap not e

failed : (b : Bool) → not b ≡ true → b ≡ true → ⊥
failed true e t = true≢false (sym e)
failed false e t = true≢false (sym t)

-- a native that was emptied holds nothing
emptied-edge : (n : HeapNative) (x y : Name) → IsEmptied n → ¬ (Among (x, y) (native_edges n))
emptied-edge n x y e m = ⊎_elim
    (λ l. contents-empty_none (length n.slots) y (subst (λ (s : Slots). Among y (contents s)) e.slots l))
    (λ p. true≢false (sym p.0 ∙ e.preserved))
    (native_edges-are n x y m).1

-- a native of the heaps that was not unlinked, or that was
cases-unlinked : (n : HeapNative) → (n.unlinked ≡ true) ⊎ (n.unlinked ≡ false)
cases-unlinked n = go n.unlinked
  where
    go : (b : Bool) → (b ≡ true) ⊎ (b ≡ false)
    go true = inl refl
    go false = inr refl

module _ (h : Heap) (g : Graph) (sound : IsSound [] h) (well : IsWellMade g) (stands : StandsFor h g) (emptied : AllEmptied h) where
  w : IsWellFormed h
  w = sound.well_formed

  -- what is given, and the reflectors of natives that are, may be back
  abbrev met : List Name
  met = roots_of g ++ living_names h

  abbrev back : Name → Bool
  back = may_be_back g met

  -- all else that is there is out of reach
  abbrev out : List Name
  out = filter (λ x. not (back x)) (names_there h)

  out-there : (x : Name) → Among x out → Among x (names_there h)
  out-there x m = Among-filtered (λ x. not (back x)) x (names_there h) m

  out-back : (x : Name) → Among x out → MayBeBack g met x → ⊥
  out-back x m b = failed (back x) (Among-passes (λ x. not (back x)) x (names_there h) m) (back-test g met x b)

  -- what is there may be back, or is out of reach
  back-cases : (x : Name) → Among x (names_there h) → MayBeBack g met x ⊎ Among x out
  back-cases x there = go (back x) refl
    where
      go : (b : Bool) → back x ≡ b → MayBeBack g met x ⊎ Among x out
      go true e = inl (test-back g met x e)
      go false e = inr (Among-filter (λ x. not (back x)) x (names_there h) there (not-passed (back x) e))

  out-of : (x : Name) → Among x (names_there h) → (MayBeBack g met x → ⊥) → Among x out
  out-of x there n = ⊎_elim (λ b. absurd (n b)) (λ o. o) (back-cases x there)

  -- a native is a reflector of none
  native-back : (k : ℕ) → MayBeBack g met (native k) → GivenFrom g met (native k)
  native-back k b = ⊎_elim (λ l. l) (λ r. absurd (apart r.0 r.1)) b
    where
      apart : (j : ℕ) → native k ≡ reflector j → ⊥
      apart j e = cc

  script-there : (x : Name) → Among x (script_names h) → Among x (names_there h)
  script-there x m = Among-right x (native_names h) (script_names h) m

  native-there : (x : Name) → Among x (native_names h) → Among x (names_there h)
  native-there x m = Among-left x (native_names h) (script_names h) m

  -- a script object is there
  reflector-place : (k : ℕ) → Among (reflector k) (names_there h) → Among (reflector k) (script_names h)
  reflector-place k m = ⊎_elim
      (λ l. let f = Among-map_cases (λ (n : HeapNative). native n.number) h.natives (reflector k) l in absurd (apart f.0.number f.2))
      (λ r. r)
      (Among-append (reflector k) (native_names h) (script_names h) m)
    where
      apart : (j : ℕ) → native j ≡ reflector k → ⊥
      apart j e = cc

  -- a native of them was unlinked
  out-unlinked : (n : HeapNative) → Among n h.natives → Among (native n.number) out → n.unlinked ≡ true
  out-unlinked n there m = ⊎_elim (λ u. u) (λ f. absurd (out-back (native n.number) m (inl (living-given h g n there f)))) (cases-unlinked n)

  unlinked-out : HaveTheUnlinked h out
  unlinked-out n there u = out-of (native n.number) (native-there (native n.number) (Among-map (λ (n : HeapNative). native n.number) n h.natives there))
      (λ b. stands.spent n there u (native-back n.number b))

  names-out : AreOutOfReach h out
  names-out = record {
    emptied = λ n there m. emptied n there (out-unlinked n there m);
    reflectors = λ k m. out-of (native k) (native-there (native k) (w.reflected k (reflector-place k (out-there (reflector k) m))))
        (λ b. out-back (reflector k) m (inr (k, refl, native-back k b)));
    natives_made = made_native;
    scripts_made = made_script;
    unregistered = λ x m r. out-back x m (inl (given x (Among-left x (roots_of g) (living_names h) (subst (Among x) registers r))));
    holder = λ x y e m. out-of x (edge-there h x y e) (λ b. out-back y m (edge-back h g w well stands met x y e b));
    joint = λ j i m.
        let t : JointThere h j = joint-there h w j i in
        ⊎_elim
        (λ a. ⊎_elim
        (λ b. absurd (out-back j.value m (joint-back h g w well stands met j i a b)))
        (λ o. inr o)
        (back-cases j.key (script-there j.key t.key)))
        (λ o. inl o)
        (back-cases j.the_map (script-there j.the_map t.the_map));
  }
    where
      registers : (view h).registers ≡ roots_of g
      registers = ap (λ (xs : Slots). contents xs ++ contents h.script_registers) stands.native_registers
          ∙ ap (λ (xs : Slots). contents g.native_registers ++ contents xs) stands.script_registers

      made_native : (k : ℕ) → Among (native k) out → k ≤ h.natives_made
      made_native k m = ⊎_elim
          (λ l. let f = Among-map_cases (λ (n : HeapNative). native n.number) h.natives (native k) l in
          let same : f.0.number ≡ k = ap number_of f.2 in
          omega (arith, same, (w.native_numbers f.0 f.1).1))
          (λ r. absurd (no_script k r))
          (Among-append (native k) (native_names h) (script_names h) (out-there (native k) m))
        where
          no_script : (k : ℕ) → Among (native k) (script_names h) → ⊥
          no_script k r = native-no_script h k w r

      made_script : (k : ℕ) → Among (object k) out → k ≤ h.scripts_made
      made_script k m = ⊎_elim
          (λ l. let f = Among-map_cases (λ (n : HeapNative). native n.number) h.natives (object k) l in absurd (apart f.0.number f.2))
          (λ r. (w.object_numbers k r).1)
          (Among-append (object k) (native_names h) (script_names h) (out-there (object k) m))
        where
          apart : (j : ℕ) → native j ≡ object k → ⊥
          apart j e = cc

-- WHAT WAS UNLINKED IS OUT OF REACH.
pub out_of_reach : (h : Heap) (g : Graph) → IsSound [] h → IsWellMade g → StandsFor h g → AllEmptied h → UnlinkedIsOutOfReach h
out_of_reach h g sound well stands emptied = record {
  names = out h g sound well stands emptied;
  out_of_reach = names-out h g sound well stands emptied;
  unlinked = unlinked-out h g sound well stands emptied;
}

-- What that is

module _ (h : Heap) (o : UnlinkedIsOutOfReach h) where
  -- all that was unlinked holds nothing
  pub all-emptied : AllEmptied h
  all-emptied n there u = o.out_of_reach.emptied n there (o.unlinked n there u)

  -- what leads to it is out of reach
  pub leads-out : (x : Name) → LeadsToUnlinked h x → Among x o.names
  leads-out _ (unlinked n there u) = o.unlinked n there u
  leads-out _ (holds x y e l) = o.out_of_reach.holder x y e (leads-out y l)

module _ (h : Heap) (ds : List Name) (d : AreOutOfReach h ds) where
  -- they are spent
  pub out-spent : IsWellFormed h → IsSpent h ds
  out-spent w = record {
    natives_made = d.natives_made;
    scripts_made = d.scripts_made;
    unregistered = d.unregistered;
    holder = d.holder;
    joint = d.joint;
    empty = λ i y m e.
        let f = native-edge_of h i y w e in
        emptied-edge f.0 (native i) y (d.emptied f.0 f.1 (subst (λ x. Among x ds) (sym f.2) m)) f.3;
    unlinked = λ n there m. (d.emptied n there m).unlinked;
  }

  -- what registers and natives that were not unlinked lead to is not out of reach
  pub led-in : (x : Name) → LedFrom (view h) ((view h).registers ++ living_names h) x → ¬ (Among x ds)
  led-in = derived-by_joints ((view h).registers ++ living_names h) (view h).edges (joints h.entries) (λ x. ¬ (Among x ds))
      (λ x m i. ⊎_elim
      (λ r. d.unregistered x i r)
      (λ l. let n = named-living h x l in
      true≢false (sym (d.emptied n.0 n.1 (subst (λ y. Among y ds) (sym n.3) i)).unlinked ∙ n.2))
      (Among-append x (view h).registers (living_names h) m))
      (λ x y e out i. out (d.holder x y e i))
      (λ j m a b i. ⊎_elim a b (d.joint j m i))

-- `gc` FREES WHAT WAS UNLINKED.
module _ (m : Machine) (o : UnlinkedIsOutOfReach m.heap) (sound : IsSound [] m.heap) where
  -- a running collection is ended first
  abbrev before : Heap
  before = (finish_running (without_marking m)).machine.heap

  abbrev after : Heap
  after = (gc m).machine.heap

  at_rest : IsAtRest IsUnlinked IsEmptied 0 m.heap
  at_rest = record { sound = sound; each = all-emptied m.heap o; made = omega arith }

  -- names out of reach are spent by then
  spends : (ds : List Name) → AreOutOfReach m.heap ds → SpendsAt ds before
  spends ds d = finish_running-spends ds (without_marking m) (record { sound = sound; spent = out-spent m.heap ds d sound.well_formed })

  collected-after : after ≡ (collect_scripts before).heap
  unfolding gc
  collected-after = refl

  rests-after : IsAtRest IsUnlinked IsEmptied 0 after
  rests-after = gc-rests IsUnlinked IsEmptied unlinked-stable 0 m at_rest

  abbrev led : Name → Type 0
  led = LedFrom (view after) ((view after).registers ++ living_names after)

  -- a native that holds something was not unlinked
  holder-led : (k : ℕ) (y : Name) → Among (native k, y) (view after).edges → led (native k)
  holder-led k y e =
      let f = native-edge_of after k y rests-after.sound.well_formed e in
      ⊎_elim
      (λ u. absurd (emptied-edge f.0 (native k) y (rests-after.each f.0 f.1 u) f.3))
      (λ l. subst led f.2 (derive-root ((view after).registers ++ living_names after) (view after).edges (rules_of (joints after.entries)) (native f.0.number)
      (Among-right (native f.0.number) (view after).registers (living_names after) (living-named after f.0 f.1 l))))
      (cases-unlinked f.0)

  passes-on : PassesOn after led
  passes-on = record {
    registers = λ x i. derive-root ((view after).registers ++ living_names after) (view after).edges (rules_of (joints after.entries)) x
        (Among-left x (view after).registers (living_names after) i);
    holder = holder-led;
    edges = λ x y e l. derive-along ((view after).registers ++ living_names after) (view after).edges (rules_of (joints after.entries)) x y e l;
    joints = λ j i a b. derive-joint ((view after).registers ++ living_names after) (view after).edges (joints after.entries) j i a b;
  }

  left-led : (x : Name) → Among x (names_there after) → led x
  left-led x i = collected-has before led (spends o.names o.out_of_reach).sound (subst (λ k. PassesOn k led) collected-after passes-on) x (subst (λ k. Among x (names_there k)) collected-after i)

  -- no native is left that was unlinked
  left-usable : UnlinkedIsOutOfReach after → (k : ℕ) → Among (native k) (names_there after) → IsTrue (is_usable after (native k))
  left-usable p k i = ⊎_elim
      (λ l. let f = Among-map_cases (λ (n : HeapNative). native n.number) after.natives (native k) l in
      subst (λ x. IsTrue (is_usable after x)) f.2 (usable f.0 f.1 (subst (λ x. Among x (names_there after)) (sym f.2) i)))
      (λ r. absurd (native-no_script after k rests-after.sound.well_formed r))
      (Among-append (native k) (native_names after) (script_names after) i)
    where
      living : (n : HeapNative) → native_at after n.number ≡ Some n → n.unlinked ≡ false → is_usable after (native n.number) ≡ true
      living n at u = ap (λ (x : Option HeapNative). is_usable_native x || false) at ∙ ap (λ b. not b || false) u

      usable : (n : HeapNative) → Among n after.natives → Among (native n.number) (names_there after) → is_usable after (native n.number) ≡ true
      usable n there j = ⊎_elim
          (λ u. absurd (led-in after p.names p.out_of_reach (native n.number) (left-led (native n.number) j) (p.unlinked n there u)))
          (λ f. living n (native_at-member after (IsWellFormed-distinct after rests-after.sound.well_formed) n there) f)
          (cases-unlinked n)

  -- what is out of reach is gone
  out-gone : (ds : List Name) → AreOutOfReach m.heap ds → (x : Name) → Among x ds → ¬ (Among x (names_there after))
  out-gone ds d x j i = let t = spends ds d in collected-gone ds before t.sound t.spent x j (subst (λ k. Among x (names_there k)) collected-after i)

  -- nor is a native left that had ended
  ended-gone : UnlinkedIsOutOfReach after → (k : ℕ) → HasEndedIn m.heap k → ¬ (Among (native k) (names_there after))
  ended-gone p k e i =
      let r : IsAtRest (IsNumbered k) IsUnlinked k after = gc-rests (IsNumbered k) IsUnlinked (numbered-stable k) k m (record { sound = sound; each = e.unlinked; made = e.made }) in
      let f = usable-native after (native k) (left-usable p k i) in
      true≢false (sym (r.each f.0 f.1 (ap number_of f.3)) ∙ f.2)

  pub gc-frees : UnlinkedIsOutOfReach after → FreesTheUnlinked m.heap after
  gc-frees p = record {
    natives = left-usable p;
    ended = ended-gone p;
    gone = λ x l. out-gone o.names o.out_of_reach x (leads-out m.heap o x l);
    out_of_reach = out-gone;
    left = left-led;
  }

-- What is brought back, and empty heaps

-- what is brought by a weak reference, or is reached, is not out of reach
pub brought-out : (h : Heap) (ds : List Name) → AreOutOfReach h ds → (x : Option Name) → MayBeHeld h x → IsNoneOf ds x
unfolding IsNoneOf
brought-out h ds d None m = tt
brought-out h ds d (Some x) m = ⊎_elim
    (λ r. reached-untouched ds h (record { unregistered = d.unregistered; holder = d.holder; joint = d.joint }) x r)
    (λ u i.
    let f = usable-native h x u in
    true≢false (sym (d.emptied f.0 f.1 (subst (λ y. Among y ds) (sym f.3) i)).unlinked ∙ f.2))
    m

-- nothing is unlinked in empty heaps
pub empty-used : (limits : Allowance) (h : Hosted) → h.heaps.heap ≡ empty_heap limits → IsUsedWell h
empty-used limits h is = record {
  graph = (empty_graph limits, empty-well limits, subst (λ k. StandsFor k (empty_graph limits)) (sym is) (empty-stands limits));
  unlinked = record { names = []; out_of_reach = subst (λ k. AreOutOfReach k []) (sym is) empty-out; unlinked = subst (λ k. HaveTheUnlinked k []) (sym is) (λ n there u. there) };
}
  where
    empty-out : AreOutOfReach (empty_heap limits) []
    empty-out = record {
      emptied = λ n there m. absurd m;
      reflectors = λ k m. m;
      natives_made = λ k m. absurd m;
      scripts_made = λ k m. absurd m;
      unregistered = λ x m. absurd m;
      holder = λ x y e m. absurd m;
      joint = λ e i m. absurd m;
    }
