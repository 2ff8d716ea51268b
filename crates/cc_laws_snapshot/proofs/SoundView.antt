-- WHAT THE VIEW OF SOUND HEAPS SAYS: of the heaps alone, without a snapshot.
use Rattle.std.proofs.Common.{◌≡◌, ℕ, ◌+◌, ◌≤◌, ◌==◌, Bool, true, false, cond, List, [], ◌∷◌, ◌++◌, map, Some, refl, sym, ◌∙◌, ap, subst, inl, inr, ◌⊎◌, ⊎_elim, arith, count_by}
use Rattle.std.specs.List.{flat_map}
use Rattle.cc_lists.specs.Members.{Among}
use Rattle.cc_lists.proofs.Members.{Among-map, Among-map_cases, Among-left, Among-right, Among-append, Among-filter, Among-filtered}
use Rattle.cc_lists.proofs.Counting.{count_by-map, count_by-append}
use Rattle.cc_names.specs.declared.name.Name.{Name}
use Rattle.cc_names.specs.declared.name.Name.TheVariants as name
use Rattle.cc_names.specs.Names.{native, reflector, same_name, number_of, is_native, is_script, behind}
use Rattle.cc_names.proofs.NameTests.{same_name-true}
use Rattle.cc_model.proofs.Places.{native_edges-split, script_edges-count}
use Rattle.cc_model.proofs.Joints.{Gives, its_value, its_key, joint-cases}
use Rattle.cc_model.specs.Places.{script_places_of}
use Rattle.cc_model.specs.Slots.{contents, from_to}
use Rattle.cc_model.specs.Entries.{Entry, Joint, joints}
use Rattle.cc_model.specs.Heap.{Heap, HeapNative, HeapScript, native_at, is_white_colour, is_gray_colour, is_black_colour}
use Rattle.cc_model.specs.View.{View, view, to, counted, names_with, slot_edges, native_edges, script_slot_edges, script_edges}
use Rattle.cc_model.specs.WellFormed.{IsWellFormed, native_names, script_names, names_there}
use Rattle.cc_model.specs.Counts.{refs_to, slots_of_natives}
use Rattle.cc_model.specs.Colours.{HasColourInvariant}
use Rattle.cc_model.specs.Fresh.{IsLiving, IsScriptThere}
use Rattle.cc_laws_heap.specs.Sound.{IsSound}
use Rattle.cc_laws_heap.proofs.Natives.{native_at-member, IsWellFormed-distinct}
use Rattle.cc_laws_heap.proofs.References.{native-there}
use Rattle.cc_lists.proofs.CountsOf.{false-left, count_by-none, count_by-agree, count_by-flat_map_same, count_by-flat_map_test}
use Rattle.cc_laws_heap.proofs.NameLists.{same_name-sym}
use Rattle.cc_laws_heap.proofs.ScriptNames.{script-named, script_names-named, delegate-there, place-there}
use Rattle.cc_laws_snapshot.proofs.NamePairs.{native-no_script}
use Rattle.cc_laws_snapshot.proofs.Edges.{edge-of}

-- `made` is how many natives were ever made
pub record IsSoundView (made : ℕ) (v : View) : Type 0 where
  -- natives are natives, were made, and have one count each: that of the registers and edges that refer to them
  pub named : (u : Name) (c : ℕ) → Among (u, c) v.natives → is_native u ≡ true
  pub was_made : (i : ℕ) → IsLiving v (native i) → (1 ≤ i) × (i ≤ made)
  pub one_count : (u : Name) (c d : ℕ) → Among (u, c) v.natives → Among (u, d) v.natives → c ≡ d
  pub counts : (u : Name) (c : ℕ) → Among (u, c) v.natives → c ≡ count_by (same_name u) v.registers + count_by (to u) v.edges
  -- script objects are no natives
  pub scripts : (x : Name) → IsScriptThere v x → is_script x ≡ true
  -- what registers hold, where edges start and where they lead is there, and so are the members of joints
  pub held_lives : (i : ℕ) → Among (native i) v.registers → IsLiving v (native i)
  pub source_lives : (i : ℕ) (y : Name) → Among (native i, y) v.edges → IsLiving v (native i)
  pub target_lives : (x : Name) (i : ℕ) → Among (x, native i) v.edges → IsLiving v (native i)
  pub target_there : (x y : Name) → Among (x, y) v.edges → is_script y ≡ true → IsScriptThere v y
  pub map_there : (e : Joint) → Among e v.joints → IsScriptThere v e.the_map
  pub key_there : (e : Joint) → Among e v.joints → IsScriptThere v e.key
  pub value_there : (e : Joint) → Among e v.joints → IsScriptThere v e.value

-- where the colours keep their invariant, a script object that is there is black or gray
pub black-or_gray : (v : View) → HasColourInvariant v → (x : Name) → IsScriptThere v x → Among x v.black ⊎ Among x v.gray
black-or_gray v c x m = ⊎_elim (λ b. inl b)
    (λ r. ⊎_elim (λ g. inr g) (λ w. absurd (subst (λ xs. Among x xs) c.none_white w)) (Among-append x v.gray v.white r))
    (Among-append x v.black (v.gray ++ v.white) m)

-- The view of the heaps

-- a native's name is living in the view
pub living-named : (h : Heap) (i : ℕ) → Among (native i) (native_names h) → IsLiving (view h) (native i)
living-named h i m =
    let f = Among-map_cases (λ (n : HeapNative). native n.number) h.natives (native i) m in
    (f.0.count, subst (λ x. Among (x, f.0.count) (view h).natives) f.2 (Among-map counted f.0 h.natives f.1))

-- what is living in the view is the name of a native, with its count
pub living-native : (h : Heap) (u : Name) (c : ℕ) → Among (u, c) (view h).natives → (n : HeapNative) × Among n h.natives × (native n.number ≡ u) × (n.count ≡ c)
living-native h u c m = grind (arith, Among-map_cases)

-- a script object of any colour is there in the view
pub there-script : (h : Heap) (o : HeapScript) → Among o h.scripts → IsScriptThere (view h) o.name
there-script h o m = grind (arith, Among-map, Among-filter, Among-left, Among-right)

-- a script object's name is there in the view
pub there-named : (h : Heap) (x : Name) → Among x (script_names h) → IsScriptThere (view h) x
there-named h x m = grind (arith, Among-map_cases, there-script)

-- a name of some colour is that of a script object
coloured-named : (h : Heap) (p : HeapScript → Bool) (x : Name) → Among x (names_with p h.scripts) → Among x (script_names h)
coloured-named h p x m = grind (arith, Among-map_cases, Among-map, Among-filtered)

-- what is there in the view is the name of a script object
pub named-there : (h : Heap) (x : Name) → IsScriptThere (view h) x → Among x (script_names h)
named-there h x m = ⊎_elim
    (λ b. coloured-named h (λ o. is_black_colour o.colour) x b)
    (λ r. ⊎_elim
    (λ g. coloured-named h (λ o. is_gray_colour o.colour) x g)
    (λ w. coloured-named h (λ o. is_white_colour o.colour) x w)
    (Among-append x (view h).gray (view h).white r))
    (Among-append x (view h).black ((view h).gray ++ (view h).white) m)

-- a native's name is no script object's
pub native-name_of : (h : Heap) (x : Name) → Among x (native_names h) → is_native x ≡ true
native-name_of h x m = grind (arith, Among-map_cases)

-- an edge leads to what is there
pub edge-target : (h : Heap) (x y : Name) → IsWellFormed h → Among (x, y) (view h).edges → Among y (names_there h)
edge-target h x y w m = ⊎_elim
    (λ a. ⊎_elim (w.native_contents a.0 y a.1)
    (λ p. Among-right y (native_names h) (script_names h) (subst (λ z. Among z (script_names h)) p.1 (w.preserved a.0 a.1 p.0))) a.3)
    (λ a. ⊎_elim (λ i. Among-right y (native_names h) (script_names h) (place-there h w a.0 a.1 y i))
    (λ p.
    let named : Among (reflector p.0) (script_names h) = subst (λ z. Among z (script_names h)) p.1 (Among-map (λ (o : HeapScript). o.name) a.0 h.scripts a.1) in
    Among-left y (native_names h) (script_names h) (subst (λ z. Among z (native_names h)) p.2 (w.reflected p.0 named))) a.3)
    (edge-of h x y m)

-- an edge from a native starts at one that is there
edge-source : (h : Heap) (i : ℕ) (y : Name) → IsWellFormed h → Among (native i, y) (view h).edges → Among (native i) (native_names h)
edge-source h i y w m = grind (arith, Among-map, native-no_script, script-named, edge-of)

-- what holds script objects alone holds no native
none-native : (h : Heap) (k : ℕ) (xs : List Name) → IsWellFormed h → ((x : Name) → Among x xs → Among x (script_names h)) → count_by (same_name (native k)) xs ≡ 0
none-native h k xs w h-in = count_by-none (same_name (native k)) xs
    (λ x m. false-left (same_name (native k) x) (λ e.
    native-no_script (native k) refl (subst (λ z. is_script z ≡ true) (sym (same_name-true (native k) x e)) (script_names-named h w x (h-in x m)))))

-- edges lead to a native as often as the native stands among what they lead to
to-targets : (x : Name) (k : ℕ) (ys : List Name) → count_by (to (native k)) (map (from_to x) ys) ≡ count_by (same_name (native k)) ys
to-targets x k ys = count_by-map (to (native k)) (from_to x) ys ∙ count_by-agree (λ y. same_name y (native k)) (same_name (native k)) ys (λ y m. same_name-sym y (native k))

-- a native's edges to natives are those of its slots
native_edges-to : (n : HeapNative) (k : ℕ) → count_by (to (native k)) (native_edges n) ≡ count_by (same_name (native k)) (contents n.slots)
native_edges-to n k = ap (count_by (to (native k))) (native_edges-split n) ∙ go n.preserved
  where
    edge_by : Bool → List (Name × Name)
    edge_by b = elim b [ true ↦ from_to (native n.number) (reflector n.number) ∷ [] | false ↦ [] ]

    go : (b : Bool) → count_by (to (native k)) (slot_edges (native n.number) n.slots ++ edge_by b) ≡ count_by (same_name (native k)) (contents n.slots)
    go true = omega (arith, count_by-append (to (native k)) (slot_edges (native n.number) n.slots) (edge_by true), to-targets (native n.number) k (contents n.slots))
    go false = omega (arith, count_by-append (to (native k)) (slot_edges (native n.number) n.slots) (edge_by false), to-targets (native n.number) k (contents n.slots))

-- a script object's edges to natives: one where it is the native's reflector
script_edges-to : (h : Heap) (o : HeapScript) (k : ℕ) → IsWellFormed h → Among o h.scripts →
    count_by (to (native k)) (script_edges o) ≡ cond (same_name o.name (reflector k)) 1 0
script_edges-to h o k w m =
    let slots : count_by (to (native k)) (script_slot_edges o) ≡ 0 =
    to-targets o.name k (contents (script_places_of o)) ∙ none-native h k (contents (script_places_of o)) w (place-there h w o m) in
    omega (arith, script_edges-count (to (native k)) o, go o.name o.name)
  where
    go : (x y : Name) → count_by (to (native k)) (map (λ j. from_to y (native j)) (behind x)) ≡ cond (same_name x (reflector k)) 1 0
    go (name.Native i) y = refl
    go (name.Script i) y = refl
    go (name.Reflector i) y = one (i.0 == k)
      where
        one : (b : Bool) → 0 + cond b 1 0 ≡ cond b 1 0
        one true = refl
        one false = refl

-- the references to a native are the registers and edges of the view that refer to it
refs_to-view : (h : Heap) (k : ℕ) → IsWellFormed h →
    refs_to h k ≡ count_by (same_name (native k)) (view h).registers + count_by (to (native k)) (view h).edges
refs_to-view h k w =
    let registers : count_by (same_name (native k)) (contents h.script_registers) ≡ 0 = none-native h k (contents h.script_registers) w w.script_registers in
    let natives : count_by (to (native k)) (flat_map native_edges h.natives) ≡ count_by (same_name (native k)) (slots_of_natives h) =
    count_by-flat_map_same (to (native k)) native_edges (same_name (native k)) (λ n. contents n.slots) h.natives (λ n m. native_edges-to n k) in
    let scripts : count_by (to (native k)) (flat_map script_edges h.scripts) ≡ count_by (λ o. same_name o.name (reflector k)) h.scripts =
    count_by-flat_map_test (to (native k)) script_edges (λ o. same_name o.name (reflector k)) h.scripts (λ o m. script_edges-to h o k w m) in
    omega (
      arith,
      count_by-append (same_name (native k)) (contents h.native_registers) (contents h.script_registers),
      count_by-append (to (native k)) (flat_map native_edges h.natives) (flat_map script_edges h.scripts),
    )

-- natives of one number are one
pub one-native : (h : Heap) (m n : HeapNative) → IsWellFormed h → Among m h.natives → Among n h.natives → m.number ≡ n.number → m ≡ n
one-native h m n w a b e =
    let d = IsWellFormed-distinct h w in
    let both : Some m ≡ Some n = sym (native_at-member h d m a) ∙ (ap (native_at h) e ∙ native_at-member h d n b) in
    cc

-- what a register holds that is a native is there
register-named : (h : Heap) (i : ℕ) → IsWellFormed h → Among (native i) (view h).registers → Among (native i) (native_names h)
register-named h i w m = ⊎_elim (w.native_registers (native i))
    (λ r. absurd (native-no_script (native i) refl (script_names-named h w (native i) (w.script_registers (native i) r))))
    (Among-append (native i) (contents h.native_registers) (contents h.script_registers) m)

-- the number of a native that is there was made
named-made : (h : Heap) (i : ℕ) → IsWellFormed h → Among (native i) (native_names h) → (1 ≤ i) × (i ≤ h.natives_made)
named-made h i w m =
    let f = Among-map_cases (λ (n : HeapNative). native n.number) h.natives (native i) m in
    subst (λ k. (1 ≤ k) × (k ≤ h.natives_made)) (ap number_of f.2) (w.native_numbers f.0 f.1)

-- a script object's name that is there is one of the script objects'
pub script-place : (h : Heap) (x : Name) → is_script x ≡ true → Among x (names_there h) → Among x (script_names h)
script-place h x e m = ⊎_elim (λ l. absurd (native-no_script x (native-name_of h x l) e)) (λ r. r) (Among-append x (native_names h) (script_names h) m)

-- the members of a joint are script objects that are there
pub record JointThere (h : Heap) (j : Joint) : Type 0 where
  pub the_map : Among j.the_map (script_names h)
  pub key : Among j.key (script_names h)
  pub value : Among j.value (script_names h)

-- so are those of each joint that an entry gives
pub joint-there : (h : Heap) → IsWellFormed h → (j : Joint) → Among j (joints h.entries) → JointThere h j
joint-there h w j i = let f = joint-cases h.entries j i in go f.0 f.1 j f.2
  where
    of_map : (e : Entry) → Among e h.entries → Among e.the_map (script_names h)
    of_map e m = let o = (w.entries e m).the_map in subst (λ x. Among x (script_names h)) o.2 (Among-map (λ (p : HeapScript). p.name) o.0 h.scripts o.1)

    go : (e : Entry) → Among e h.entries → (j : Joint) → Gives e j → JointThere h j
    go e m _ its_value = record { the_map = of_map e m; key = (w.entries e m).key; value = (w.entries e m).value }
    go e m _ (its_key d q) = record { the_map = of_map e m; key = delegate-there h w e d m q; value = (w.entries e m).key }

-- The view of sound heaps is sound.
pub IsSound-view : (h : Heap) → IsSound [] h → IsSoundView h.natives_made (view h)
IsSound-view h s = record {
  named = λ u c m. let f = living-native h u c m in subst (λ z. is_native z ≡ true) f.2 refl;
  was_made = λ i l. named-made h i w (named-living h i l);
  one_count = λ u c d m n.
      let f = living-native h u c m in
      let g = living-native h u d n in
      sym f.3 ∙ (ap (λ (o : HeapNative). o.count) (one-native h f.0 g.0 w f.1 g.1 (ap number_of (f.2 ∙ sym g.2))) ∙ g.3);
  counts = λ u c m.
      let f = living-native h u c m in
      let here : f.0.count ≡ count_by (same_name (native f.0.number)) (view h).registers + count_by (to (native f.0.number)) (view h).edges =
      omega (arith, s.counts f.0 f.1, refs_to-view h f.0.number w) in
      sym f.3 ∙ subst (λ z. f.0.count ≡ count_by (same_name z) (view h).registers + count_by (to z) (view h).edges) f.2 here;
  scripts = λ x m. script_names-named h w x (named-there h x m);
  held_lives = λ i m. living-named h i (register-named h i w m);
  source_lives = λ i y m. living-named h i (edge-source h i y w m);
  target_lives = λ x i m. living-named h i (native-there h i w (edge-target h x (native i) w m));
  target_there = λ x y m e. there-named h y (script-place h y e (edge-target h x y w m));
  map_there = λ e m. there-named h e.the_map (joint-there h w e m).the_map;
  key_there = λ e m. there-named h e.key (joint-there h w e m).key;
  value_there = λ e m. there-named h e.value (joint-there h w e m).value;
}
  where
    w : IsWellFormed h
    w = s.well_formed

    named-living : (h : Heap) (i : ℕ) → IsLiving (view h) (native i) → Among (native i) (native_names h)
    named-living h i l =
        let f = living-native h (native i) l.0 l.1 in
        subst (λ z. Among z (native_names h)) f.2 (Among-map (λ (n : HeapNative). native n.number) f.0 h.natives f.1)
