-- THE END OF A COLLECTION SPARES WHAT IS REACHED, where no register reaches what it takes away.
use Rattle.std.proofs.Common.{◌≡◌, ◌==◌, ℕ, true, not, List, [], ◌++◌, map, refl, sym, ◌∙◌, ap, subst, inl, ⊎_elim}
use Rattle.std.specs.List.{flat_map}
use Rattle.std.proofs.lemmas.Bool.{cases_Bool}
use Rattle.cc_lists.specs.Members.{Among, has}
use Rattle.cc_lists.proofs.Members.{Among-map, Among-map_cases, Among-left, Among-right, Among-append, Among-filter, Among-flat_map, Among-flat_map_cases, has-among, Among_or_not}
use Rattle.cc_lists.proofs.Numbers.{number-exact}
use Rattle.cc_names.specs.declared.name.Name.{Name}
use Rattle.cc_names.specs.declared.name.Name.TheVariants as name
use Rattle.cc_names.specs.Names.{native, natives_in}
use Rattle.cc_model.specs.declared.item.Event.{Event}
use Rattle.cc_model.specs.declared.item.Event.TheVariants.{Unlinked, Freed, Abandoned}
use Rattle.cc_model.specs.Slots.{contents}
use Rattle.cc_model.specs.Entries.{value_in}
use Rattle.cc_model.specs.Heap.{Heap, HeapNative, HeapScript}
use Rattle.cc_model.specs.View.{view, native_edges, script_edges, ReachedIn}
use Rattle.cc_model.specs.WellFormed.{native_names, script_names, names_there}
use Rattle.cc_model.specs.Lawful.{unlinked_in}
use Rattle.cc_model.specs.End.{take_away}
use Rattle.cc_model.specs.StandsFor.{shape_at}
use Rattle.cc_laws_heap.specs.Sound.{IsSound}
use Rattle.cc_laws_heap.specs.Ending.{TakesAway, freed_in, freed_numbers}
use Rattle.cc_laws_heap.proofs.Face.{Leave, Leave-before, Leave-not_freed, is_left, native-there, numbers_there, numbers_there-named, others-kept, take_away-leaves, take_away-sound, take_away-takes, taken-emptied}
use Rattle.cc_laws_snapshot.proofs.Face.{native-edge, native_edges-alike, reached-kept, reached-there}
use Rattle.cc_laws_run.proofs.Face.{emptied-none, take_away-keeps}
use Rattle.cc_gc.specs.Sparing.{KeepsWhatIsReached, SparesWhatIsReached}
use Rattle.cc_gc.proofs.Sparing.{HoldsNoMore, no_more-reached, native-shape, script-shape, unreached-before, unreached-after}

-- a native whose number is told freed is told freed
freed_numbers-told : (es : List Event) (k : ℕ) → Among k (freed_numbers es) → Among (Freed (native k)) es
freed_numbers-told es k m = let f = Among-flat_map_cases freed_in es k m in subst (λ e. Among e es) (of_event f.0 f.2) f.1
  where
    of_event : (e : Event) → Among k (freed_in e) → e ≡ Freed (native k)
    of_event (Freed (name.Native i)) i_m = ⊎_elim (λ s. ap (λ j. Freed (native j)) s) (λ n. absurd n) i_m
    of_event (Freed (name.Script i)) i_m = absurd i_m
    of_event (Freed (name.Reflector i)) i_m = absurd i_m
    of_event (Unlinked x) i_m = absurd i_m
    of_event Abandoned i_m = absurd i_m

module _ (h : Heap) (ks : List ℕ) (s : IsSound [] h) (there : (k : ℕ) → Among k ks → Among (native k) (native_names h)) where
  -- the heaps after it
  abbrev end : Heap
  end = (take_away ks h).heap

  -- they are sound
  end-sound : IsSound [] end
  end-sound = take_away-sound h ks s there

  -- and have what it takes away no more
  takes : TakesAway h ks (take_away-takes h ks s there).0 (take_away ks h)
  takes = (take_away-takes h ks s there).1

  -- they hold nothing more
  end-no_more : HoldsNoMore h end
  end-no_more = record {
    registers = λ x m. subst (λ xs. Among x xs) registers m;
    edges = λ x y e. ⊎_elim
        (λ l. let f = Among-flat_map_cases native_edges end.natives (x, y) l in of_native f.0 x y f.1 f.2)
        (λ r. Among-right (x, y) (flat_map native_edges h.natives) (flat_map script_edges h.scripts) (subst (λ os. Among (x, y) (flat_map script_edges os)) takes.scripts r))
        (Among-append (x, y) (flat_map native_edges end.natives) (flat_map script_edges end.scripts) e);
    entries = λ e m. subst (λ es. Among e es) takes.entries m;
  }
    where
      registers : (view end).registers ≡ (view h).registers
      registers = ap (λ xs. contents xs ++ contents end.script_registers) takes.native_registers
          ∙ ap (λ xs. contents h.native_registers ++ contents xs) takes.script_registers

      of_native : (n : HeapNative) (x y : Name) → Among n end.natives → Among (x, y) (native_edges n) → Among (x, y) (view h).edges
      of_native n x y m e = ⊎_elim
          (λ i. absurd (emptied-none h ks s there n x y (taken-emptied h ks s there n m i) e))
          (λ d.
          let p = others-kept h ks s there n m d in
          native-edge h p.0 x y p.1 (subst (λ es. Among (x, y) es) (sym (native_edges-alike p.0 n p.2)) e))
          (Among_or_not ◌==◌ number-exact ks n.number)

  module _ (out : (k : ℕ) → Among k ks → ¬ (ReachedIn (view h) (native k))) where
    -- what was reached is reached,
    end-reached : (x : Name) → ReachedIn (view h) x → ReachedIn (view end) x
    end-reached = reached-kept h end end-sound.well_formed (take_away-keeps h ks s there out)

    -- so it is there
    end-there : (x : Name) → ReachedIn (view h) x → Among x (names_there end)
    end-there x r = reached-there end end-sound.well_formed x (end-reached x r)

    -- a native that is reached and left has its shape
    end-native : (x : Name) → ReachedIn (view h) x → Among x (native_names end) → shape_at end x ≡ shape_at h x
    end-native x r m =
        let f = Among-map_cases (λ (n : HeapNative). native n.number) end.natives x m in
        let d : ¬ (Among f.0.number ks) = λ i. out f.0.number i (subst (ReachedIn (view h)) (sym f.2) r) in
        subst (λ z. shape_at end z ≡ shape_at h z) f.2
        (native-shape h end s.well_formed end-sound.well_formed f.0 f.1 (others-kept h ks s there f.0 f.1 d))

    -- so has a script object
    end-script : (x : Name) → Among x (script_names end) → shape_at end x ≡ shape_at h x
    end-script x m =
        let f = Among-map_cases (λ (o : HeapScript). o.name) end.scripts x m in
        subst (λ z. shape_at end z ≡ shape_at h z) f.2
        (script-shape h end s.well_formed end-sound.well_formed f.0 f.0 (subst (λ os. Among f.0 os) takes.scripts f.1) f.1 refl refl)

    -- THE END KEEPS WHAT IS REACHED,
    pub take_away-keeps_reached : KeepsWhatIsReached h (take_away ks h).heap
    take_away-keeps_reached = record {
      native_registers = takes.native_registers;
      script_registers = takes.script_registers;
      alike = λ x. (end-reached x, no_more-reached h end end-no_more x);
      there = end-there;
      shape = λ x r. ⊎_elim (end-native x r) (end-script x) (Among-append x (native_names end) (script_names end) (end-there x r));
      value = λ m k a b. ap (λ es. value_in es m k) takes.entries;
    }

    -- and what it tells spares it.
    pub take_away-spares : SparesWhatIsReached h (take_away ks h).heap (take_away ks h).events
    take_away-spares = record {
      unlinked = λ x m. unreached-before h end take_away-keeps_reached x (λ r.
          let k = takes.natives_alone (Unlinked x) m in
          let taken : Among k.0 ks = subst (Among k.0) takes.unlinked
          (Among-flat_map unlinked_in (Unlinked x) k.0 (take_away ks h).events m (subst (λ y. Among k.0 (natives_in y)) (sym k.1) (inl refl))) in
          out k.0 taken (subst (ReachedIn (view h)) k.1 r));
      freed = λ x m. unreached-after h end take_away-keeps_reached x (λ r.
          not_freed x (reached-there end end-sound.well_formed x r) m);
      left = λ x. (
        λ m. (before x m, not_freed x m),
        λ p. ⊎_elim
            (λ l. Among-left x (native_names end) (script_names end) (native-left x l p.1))
            (λ r. Among-right x (native_names end) (script_names end) (subst (λ os. Among x (map (λ (o : HeapScript). o.name) os)) (sym takes.scripts) r))
            (Among-append x (native_names h) (script_names h) p.0),
      );
    }
      where
        all : List ℕ
        all = freed_numbers (take_away ks h).events

        leaves : Leave h all end
        leaves = take_away-leaves h ks s there

        not_freed : (x : Name) → Among x (names_there end) → ¬ (Among (Freed x) (take_away ks h).events)
        not_freed x there_now m =
            let k = takes.natives_alone (Freed x) m in
            let freed : Among k.0 all =
            Among-flat_map freed_in (Freed x) k.0 (take_away ks h).events m (subst (λ y. Among k.0 (natives_in y)) (sym k.1) (inl refl)) in
            Leave-not_freed h all end leaves k.0
            (native-there end k.0 end-sound.well_formed (subst (λ y. Among y (names_there end)) k.1 there_now)) freed

        before : (x : Name) → Among x (names_there end) → Among x (names_there h)
        before x m = ⊎_elim
            (λ l.
            let f = Among-map_cases (λ (n : HeapNative). native n.number) end.natives x l in
            Among-left x (native_names h) (script_names h)
            (subst (λ y. Among y (native_names h)) f.2 (Leave-before h all end leaves f.0.number (Among-map (λ (n : HeapNative). native n.number) f.0 end.natives f.1))))
            (λ r. Among-right x (native_names h) (script_names h) (subst (λ os. Among x (map (λ (o : HeapScript). o.name) os)) takes.scripts r))
            (Among-append x (native_names end) (script_names end) m)

        native-left : (x : Name) → Among x (native_names h) → ¬ (Among (Freed x) (take_away ks h).events) → Among x (native_names end)
        native-left x m d =
            let f = Among-map_cases (λ (n : HeapNative). native n.number) h.natives x m in
            let k : ℕ = f.0.number in
            let apart : ¬ (Among k all) = λ i. d (subst (λ y. Among (Freed y) (take_away ks h).events) f.2
            (freed_numbers-told (take_away ks h).events k i)) in
            let passes : is_left all k ≡ true = ⊎_elim
            (λ t. absurd (apart (has-among ◌==◌ number-exact all k t)))
            (λ t. ap not t)
            (cases_Bool (has ◌==◌ all k)) in
            subst (λ y. Among y (native_names end)) f.2
            (numbers_there-named end k (subst (Among k) (sym leaves.numbers)
            (Among-filter (is_left all) k (numbers_there h) (Among-map (λ (n : HeapNative). n.number) f.0 h.natives f.1) passes)))
