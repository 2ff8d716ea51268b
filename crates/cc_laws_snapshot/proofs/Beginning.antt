-- A SNAPSHOT BEGUN is fresh: candidates, holders of gray objects and members of mappings are its nodes, and none was traversed.
use Rattle.std.proofs.Common.{◌≡◌, ℕ, ◌≤◌, Bool, true, false, List, [], ◌∷◌, ◌++◌, map, Option, Some, None, refl, sym, ◌∙◌, ap, subst, inl, inr, ◌⊎◌, ⊎_elim, arith, count_by}
use Rattle.std.specs.List.{filter, flat_map, list_all, list_any}
use Rattle.std.specs.Option.{option_to_list}
use Rattle.std.proofs.lemmas.Bool.{or_left, or_right, true≢false}
use Rattle.cc_model.specs.Slots.{contents}
use Rattle.cc_lists.specs.Members.{Among}
use Rattle.cc_lists.proofs.Members.{Among-map, Among-map_cases, Among-left, Among-right, Among-append, Among-filter, Among-filtered, Among-flat_map, Among-flat_map_cases}
use Rattle.cc_names.specs.declared.name.Name.{Name}
use Rattle.cc_names.specs.Names.{native, same_name, is_script}
use Rattle.cc_names.proofs.NameTests.{same_name-exact}
use Rattle.cc_model.proofs.Places.{targets-native}
use Rattle.cc_model.specs.Places.{places_of_native}
use Rattle.cc_model.specs.Entries.{Joint, joints}
use Rattle.cc_model.specs.Heap.{Heap, HeapNative, Buffered, is_gray_in}
use Rattle.cc_model.specs.View.{View, view, native_edges, script_edges}
use Rattle.cc_model.specs.Colours.{HasColourInvariant}
use Rattle.cc_model.specs.WellFormed.{native_names}
use Rattle.cc_model.specs.Snapshot.{NodeState, untraversed, gone, traversed, Node, Mapping, node_names}
use Rattle.cc_model.specs.Units.{candidates_of, holds_gray, holders_of, if_gray, mapping_of, mappings_of, members_of, first_names, new_node, begun, with_empty_buffer}
use Rattle.cc_model.specs.Fresh.{node, IsNode, IsScriptThere, MemberOf, IsMappingOf, HasNodes, IsFresh}
use Rattle.cc_model.proofs.MemberNodes.{member-node}
use Rattle.cc_laws_heap.specs.Sound.{IsSound}
use Rattle.cc_laws_snapshot.proofs.NamePairs.{native-no_script}
use Rattle.cc_laws_heap.proofs.ViewEdges.{native_edges-are, script_edges-are}
use Rattle.cc_laws_heap.proofs.ScriptNames.{script-named}
use Rattle.cc_laws_snapshot.proofs.SoundView.{IsSound-view, black-or_gray, living-named, native-name_of}
use Rattle.cc_laws_snapshot.proofs.States.{untraversed-not_traversed, untraversed-not_gone}
use Rattle.cc_lists.proofs.OnceEach.{with_all_last-there, with_all_last-cases, with_all_last-once}
use Rattle.cc_laws_snapshot.proofs.NodeLists.{names_of, is_open, all-done_first}
use Rattle.cc_laws_snapshot.proofs.NodeUnit.{gray-tested}

-- New nodes

-- their names
names-new : (xs : List Name) → names_of (map new_node xs) ≡ xs
names-new [] = refl
names-new (x ∷ xs) = ap (λ ys. x ∷ ys) (names-new xs)

-- they are untraversed
new-state : (xs : List Name) (x : Name) (a : NodeState) → Among (node x a) (map new_node xs) → untraversed ≡ a
new-state xs x a i = let f = Among-map_cases new_node xs (node x a) i in ap (λ (n : Node). n.state) f.2

-- all of them
new-open : (xs : List Name) → list_all is_open (map new_node xs) ≡ true
new-open [] = refl
new-open (x ∷ xs) = new-open xs

-- a test that a member passes is passed by some member
list_any-some : {X : Type 0} (p : X → Bool) (xs : List X) (x : X) → Among x xs → p x ≡ true → list_any p xs ≡ true
list_any-some p [] x m e = absurd m
list_any-some p (y ∷ ys) x m e = ⊎_elim
    (λ s. or_left (p y) (list_any p ys) (ap p s ∙ e))
    (λ t. or_right (p y) (list_any p ys) (list_any-some p ys x t e)) m

-- The members of a mapping

-- a member of a mapping is the joint's
member-is : (h : Heap) (y x : Name) → Among x (option_to_list (if_gray h y)) → y ≡ x
member-is h y x m = grind arith

module _ (h : Heap) (sound : IsSound [] h) (coloured : HasColourInvariant (view h)) where
  -- the view after the begin: nothing is in the buffer
  abbrev after : View
  after = view (with_empty_buffer h)

  -- what the names of the nodes are made of
  abbrev all_names : List Name
  all_names = map native (candidates_of h) ++ (holders_of h ++ flat_map members_of (mappings_of h))

  -- the names of the nodes are the first names
  same-names : node_names (begun h) ≡ first_names h
  same-names = names-new (first_names h)

  -- each of these is a node
  is-node : (x : Name) → Among x all_names → IsNode (begun h) x
  is-node x m = subst (Among x) (sym same-names) (with_all_last-there same_name same_name-exact [] all_names x m)

  -- each candidate is one
  candidate-node : (k : ℕ) → Among k (candidates_of h) → IsNode (begun h) (native k)
  candidate-node k m = is-node (native k)
      (Among-left (native k) (map native (candidates_of h)) (holders_of h ++ flat_map members_of (mappings_of h)) (Among-map native k (candidates_of h) m))

  -- each holder of a gray object is one
  holder-node : (x : Name) → Among x (holders_of h) → IsNode (begun h) x
  holder-node x m = search (is-node, Among-right, Among-left)

  -- each member of a mapping is one
  mapped-node : (m : Mapping) → Among m (mappings_of h) → (x : Name) → Among x (members_of m) → IsNode (begun h) x
  mapped-node m i x j = search (is-node, Among-right, Among-flat_map)

  -- a member of a mapping is a script object that is there
  member-there : (x : Name) → Among x (flat_map members_of (mappings_of h)) → IsScriptThere (view h) x
  member-there x i =
      let f = Among-flat_map_cases members_of (mappings_of h) x i in
      let g = Among-map_cases (mapping_of h) (filter (λ e. is_gray_in h e.value) (joints h.entries)) f.0 f.1 in
      let e : Joint = g.0 in
      let there : Among e (joints h.entries) = Among-filtered (λ (d : Joint). is_gray_in h d.value) e (joints h.entries) g.1 in
      let j : Among x (members_of (mapping_of h e)) = subst (λ m. Among x (members_of m)) (sym g.2) f.2 in
      ⊎_elim
      (λ l. subst (IsScriptThere (view h)) (member-is h e.the_map x l) ((IsSound-view h sound).map_there e there))
      (λ r. ⊎_elim
      (λ k. subst (IsScriptThere (view h)) (member-is h e.key x k) ((IsSound-view h sound).key_there e there))
      (λ v. ⊎_elim (λ s. subst (IsScriptThere (view h)) s ((IsSound-view h sound).value_there e there)) (λ t. absurd t) v)
      (Among-append x (option_to_list (if_gray h e.key)) (e.value ∷ []) r))
      (Among-append x (option_to_list (if_gray h e.the_map)) (option_to_list (if_gray h e.key) ++ e.value ∷ []) j)

  -- a candidate is there
  candidate-there : (x : Name) → Among x (map native (candidates_of h)) → Among x (native_names h)
  candidate-there x m =
      let f = Among-map_cases native (candidates_of h) x m in
      let g = Among-map_cases (λ (b : Buffered). b.number) (filter (λ b. b.purple) h.buffer) f.0 f.1 in
      let b : Among (native g.0.number) (native_names h) = sound.well_formed.buffered g.0 (Among-filtered (λ (c : Buffered). c.purple) g.0 h.buffer g.1) in
      subst (λ y. Among y (native_names h)) (ap native g.2 ∙ f.2) b

  -- a holder is there
  holder-there : (x : Name) → Among x (holders_of h) → Among x (native_names h)
  holder-there x m = grind (arith, Among-map_cases, Among-map, Among-filtered)

  -- each node is a native or a script object that is there
  pub node-cases : (x : Name) → IsNode (begun h) x → Among x (native_names h) ⊎ IsScriptThere (view h) x
  node-cases x i = ⊎_elim
      (λ none. absurd none)
      (λ m. ⊎_elim
      (λ c. inl (candidate-there x c))
      (λ r. ⊎_elim (λ k. inl (holder-there x k)) (λ e. inr (member-there x e)) (Among-append x (holders_of h) (flat_map members_of (mappings_of h)) r))
      (Among-append x (map native (candidates_of h)) (holders_of h ++ flat_map members_of (mappings_of h)) m))
      (with_all_last-cases same_name same_name-exact [] all_names x (subst (Among x) same-names i))

  -- a native that holds a gray object is a node
  gray-holder : (i : ℕ) (y : Name) → Among (native i, y) (view h).edges → Among y (view h).gray → IsNode (begun h) (native i)
  gray-holder i y m g = ⊎_elim
      (λ l.
      let f = Among-flat_map_cases native_edges h.natives (native i, y) l in
      let place : Among y (contents (places_of_native f.0)) =
      subst (Among y) (targets-native f.0) (Among-map (λ (e : Name × Name). e.1) (native i, y) (native_edges f.0) f.2) in
      let holds : holds_gray h f.0 ≡ true = list_any-some (is_gray_in h) (contents (places_of_native f.0)) y place (gray-tested h y g) in
      let listed : Among (native f.0.number) (holders_of h) =
      Among-map (λ (n : HeapNative). native n.number) f.0 (filter (holds_gray h) h.natives) (Among-filter (holds_gray h) f.0 h.natives f.1 holds) in
      subst (IsNode (begun h)) (native_edges-are f.0 (native i) y f.2).0 (holder-node (native f.0.number) listed))
      (λ r.
      let f = Among-flat_map_cases script_edges h.scripts (native i, y) r in
      let script : is_script (native i) ≡ true =
      subst (λ z. is_script z ≡ true) (script_edges-are f.0 (native i) y f.2).0 (script-named h sound.well_formed f.0 f.1) in
      absurd (native-no_script (native i) refl script))
      (Among-append (native i, y) (flat_map native_edges h.natives) (flat_map script_edges h.scripts) m)

  -- a member of the mapping: the joint's where it is gray, else it is black
  member-of : (y : Name) → IsScriptThere (view h) y → MemberOf after (if_gray h y) y
  member-of y there = go (is_gray_in h y) refl
    where
      go : (b : Bool) → is_gray_in h y ≡ b → MemberOf after (elim b [ true ↦ Some y | false ↦ None ]) y
      go true e = inl refl
      go false e = inr (refl, ⊎_elim (λ b. b) (λ g. absurd (true≢false (sym (gray-tested h y g) ∙ e))) (black-or_gray (view h) coloured y there))

  -- a joint that gives a gray object has its mapping
  joint-mapped : (e : Joint) → Among e (joints h.entries) → Among e.value (view h).gray → (m : Mapping) × Among m (mappings_of h) × IsMappingOf after e m
  joint-mapped e i g = (
    mapping_of h e,
    Among-map (mapping_of h) e (filter (λ d. is_gray_in h d.value) (joints h.entries))
        (Among-filter (λ (d : Joint). is_gray_in h d.value) e (joints h.entries) i (gray-tested h e.value g)),
    record {
      value = refl;
      the_map = member-of e.the_map ((IsSound-view h sound).map_there e i);
      key = member-of e.key ((IsSound-view h sound).key_there e i);
    },
  )

  -- the members of a mapping are nodes
  members-nodes : (m : Mapping) → Among m (mappings_of h) → HasNodes (begun h) m
  members-nodes m i = record {
    the_map = member-node (begun h) m.the_map
        (λ x j. mapped-node m i x (Among-left x (option_to_list m.the_map) (option_to_list m.key ++ m.value ∷ []) j));
    key = member-node (begun h) m.key
        (λ x j. mapped-node m i x (Among-right x (option_to_list m.the_map) (option_to_list m.key ++ m.value ∷ [])
        (Among-left x (option_to_list m.key) (m.value ∷ []) j)));
    value = mapped-node m i m.value (Among-right m.value (option_to_list m.the_map) (option_to_list m.key ++ m.value ∷ [])
        (Among-right m.value (option_to_list m.key) (m.value ∷ []) (inl refl)));
  }

  -- the value of a mapping is a script object
  value-script : (m : Mapping) → Among m (mappings_of h) → is_script m.value ≡ true
  value-script m i = (IsSound-view h sound).scripts m.value (member-there m.value (Among-flat_map members_of m m.value (mappings_of h) i
      (Among-right m.value (option_to_list m.the_map) (option_to_list m.key ++ m.value ∷ [])
      (Among-right m.value (option_to_list m.key) (m.value ∷ []) (inl refl)))))

  -- no node was traversed
  none-traversed : (x : Name) (n : Option ℕ) → ¬ (Among (node x (traversed n)) (begun h).nodes)
  none-traversed x n i = untraversed-not_traversed n (new-state (first_names h) x (traversed n) i)

  -- A snapshot just begun is fresh.
  pub begun-fresh : IsFresh h.natives_made (view (with_empty_buffer h)) (begun h)
  begun-fresh = record {
    sampled = λ u c n out i. absurd (none-traversed u n i);
    as_held = λ u c w out t. absurd (none-traversed w t.0 t.1);
    gray_noted = λ w y t e g. absurd (none-traversed w t.0 t.1);
    gray_held = gray-holder;
    gray_value = joint-mapped;
    colours = record { black_to_black = coloured.black_to_black; held_black = coloured.held_black; none_white = coloured.none_white };
    from_node = λ x y i. absurd i;
    to_node = λ x y i. absurd i;
    members = members-nodes;
    values = value-script;
    candidates = candidate-node;
    distinct = λ x. subst (λ xs. count_by (same_name x) xs ≤ 1) (sym same-names)
        (with_all_last-once same_name same_name-exact [] all_names x (omega arith));
    native_nodes = λ i m. ⊎_elim
        (λ l. (IsSound-view h sound).was_made i (living-named h i l))
        (λ r. absurd (native-no_script (native i) refl ((IsSound-view h sound).scripts (native i) r))) (node-cases (native i) m);
    script_nodes = λ x m e. ⊎_elim (λ l. absurd (native-no_script x (native-name_of h x l) e)) (λ r. r) (node-cases x m);
    in_order = all-done_first (map new_node (first_names h)) (new-open (first_names h));
    nothing_from_untraversed = λ x y i j. j;
    nothing_from_gone = λ x y i j. j;
    gone_is_dead = λ x i. absurd (untraversed-not_gone (new-state (first_names h) x gone i));
  }
