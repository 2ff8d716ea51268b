-- What the test of freshness says yes to is fresh.
use Rattle.std.proofs.Common.{◌≡◌, ℕ, zero, suc, ◌<◌, ◌≤◌, true, not, ◌&&◌, ◌||◌, ◌==◌, List, [], ◌∷◌, ◌++◌, map, length, Option, Some, None, refl, sym, ◌∙◌, ap, subst, inl, inr, arith, nat_le, count_by}
use Rattle.std.specs.Prelude.{IsTrue, option_to_list}
use Rattle.std.specs.List.{list_all}
use Rattle.std.proofs.lemmas.Bool.{and_parts, and_from, not-true, false≢true, true≢false, eqb-true, leb-true}
use Rattle.std.proofs.lemmas.List.{nil_from_length}
use Rattle.cc_lists.specs.Members.{Among, has}
use Rattle.cc_lists.proofs.Members.{has-among, has-there, Among-map, Among-map_cases, Among-left, Among-right}
use Rattle.cc_lists.proofs.Counting.{counted_is}
use Rattle.cc_lists.proofs.Booleans.{second-passes, premise-holds}
use Rattle.cc_names.specs.declared.name.Name.{Name}
use Rattle.cc_names.specs.declared.name.Name.TheVariants as name
use Rattle.cc_names.specs.Names.{native, same_name, is_native, is_script}
use Rattle.cc_names.proofs.NameTests.{same_name-true, same_name-refl, same_name-exact}
use Rattle.cc_model.specs.Entries.{Joint}
use Rattle.cc_model.specs.View.{View, between, scripts_there}
use Rattle.cc_model.specs.Snapshot.{Snapshot, Node, Mapping, untraversed, gone, traversed, node_names}
use Rattle.cc_model.specs.Units.{members_of}
use Rattle.cc_model.specs.Fresh.{node, IsNode, IsTraversedNode, IsOutside, IsLiving, IsScriptThere, MemberOf, IsMappingOf, HasNodes, done_first, IsFresh}
use Rattle.cc_model.proofs.MemberNodes.{member-node}
use Rattle.cc_worked.specs.SnapshotTests.{all_among, is_made, is_black_to_gray, is_native_or_black, has_no_black_to_gray, is_traversed, is_gone, is_sampled_as, is_noted_as_held, native_is_fresh, same_reference, is_noted, edge_is_fresh, is_member_of, is_mapping_of, joint_is_fresh, notes_nothing, is_dead_native, was_made_or_there, node_is_fresh, reference_is_fresh, mapping_is_fresh, has_all_nodes, is_fresh}
use Rattle.cc_worked.proofs.Passing.{list_all-each, list_any-some, list_any-none, all_among-each, has-absent, absent-has}

-- a reference by its ends
abbrev pair : Name → Name → Name × Name
pair x y = (x, y)

-- A sampled count that passes is the count.
is_sampled_as-true : (c : ℕ) (n : Option ℕ) → is_sampled_as c (traversed n) ≡ true → n ≡ Some c
is_sampled_as-true c None e = absurd (false≢true e)
is_sampled_as-true c (Some n) e = ap (λ k. Some k) (eqb-true n c e)

-- A reference for which the test of being noted says yes is noted.
is_noted-true : (s : Snapshot) (x y : Name) → is_noted s (x, y) ≡ true → Among (x, y) s.references
is_noted-true s x y h =
    let k = list_any-some (same_reference (x, y)) s.references h in
    let l = and_parts (same_name x k.0.0) (same_name y k.0.1) k.2 in
    let same : pair x y ≡ k.0 = ap (λ z. pair z y) (same_name-true x k.0.0 l.0) ∙ ap (λ z. pair k.0.0 z) (same_name-true y k.0.1 l.1) in
    subst (λ (r : Name × Name). Among r s.references) (sym same) k.1

-- A mapping's member that passes is that of the joint.
is_member_of-true : (v : View) (member : Option Name) (x : Name) → is_member_of v member x ≡ true → MemberOf v member x
is_member_of-true v None x h = inr (refl, has-among same_name same_name-exact v.black x h)
is_member_of-true v (Some y) x h = inl (ap (λ z. Some z) (same_name-true y x h))

-- A mapping that passes is that of the joint.
is_mapping_of-true : (v : View) (e : Joint) (m : Mapping) → is_mapping_of v e m ≡ true → IsMappingOf v e m
is_mapping_of-true v e m h =
    let k = and_parts (same_name m.value e.value) (is_member_of v m.the_map e.the_map && is_member_of v m.key e.key) h in
    let l = and_parts (is_member_of v m.the_map e.the_map) (is_member_of v m.key e.key) k.1 in record {
      value = same_name-true m.value e.value k.0;
      the_map = is_member_of-true v m.the_map e.the_map l.0;
      key = is_member_of-true v m.key e.key l.1;
    }

-- The members of a mapping are nodes where all its names are.
mapping-nodes : (s : Snapshot) (m : Mapping) → ((x : Name) → Among x (members_of m) → IsNode s x) → HasNodes s m
mapping-nodes s m f = record {
  the_map = member-node s m.the_map (λ x i. f x (Among-left x (option_to_list m.the_map) (option_to_list m.key ++ m.value ∷ []) i));
  key = member-node s m.key (λ x i. f x (later x (Among-left x (option_to_list m.key) (m.value ∷ []) i)));
  value = f m.value (later m.value (Among-right m.value (option_to_list m.key) (m.value ∷ []) (inl refl)));
}
  where
    later : (x : Name) → Among x (option_to_list m.key ++ m.value ∷ []) → Among x (members_of m)
    later x i = Among-right x (option_to_list m.the_map) (option_to_list m.key ++ m.value ∷ []) i

-- Names each of which is counted once where it stands are counted at most once.
once-at_most : (xs : List Name) → ((x : Name) → Among x xs → count_by (same_name x) xs ≡ 1) → (x : Name) → count_by (same_name x) xs ≤ 1
once-at_most xs f x = go (count_by (same_name x) xs) refl
  where
    go : (n : ℕ) → count_by (same_name x) xs ≡ n → count_by (same_name x) xs ≤ 1
    go zero k = omega (arith, k)
    go (suc n) k =
        let some : 0 < count_by (same_name x) xs = omega (arith, k) in
        let l = counted_is (same_name x) xs some in
        omega (arith, f x (subst (λ z. Among z xs) (sym (same_name-true x l.0 l.2)) l.1))

-- A name that passes for a dead native is one.
is_dead_native-true : (made : ℕ) (v : View) (x : Name) → is_dead_native made v x ≡ true →
    (i : ℕ) × (x ≡ native i) × (1 ≤ i) × (i ≤ made) × (¬ (IsLiving v x))
is_dead_native-true made v (name.Native i) h =
    let k = and_parts (is_made made i.0) (not (has same_name (map (λ (n : Name × ℕ). n.0) v.natives) (name.Native i))) h in
    let l = and_parts (nat_le 1 i.0) (nat_le i.0 made) k.0 in
    let absent = absent-has (map (λ (n : Name × ℕ). n.0) v.natives) (name.Native i) (not-true (has same_name (map (λ (n : Name × ℕ). n.0) v.natives) (name.Native i)) k.1) in
    (i.0, refl, leb-true 1 i.0 l.0, leb-true i.0 made l.1, λ living. absent (Among-map (λ (n : Name × ℕ). n.0) (name.Native i, living.0) v.natives living.1))
is_dead_native-true made v (name.Script i) h = absurd (false≢true h)
is_dead_native-true made v (name.Reflector i) h = absurd (false≢true h)

-- The tests that a fresh snapshot passes.
record FreshParts (made : ℕ) (v : View) (s : Snapshot) : Type 0 where
  natives : list_all (native_is_fresh v s) v.natives ≡ true
  edges : list_all (edge_is_fresh v s) v.edges ≡ true
  joints : list_all (joint_is_fresh v s) v.joints ≡ true
  colours : has_no_black_to_gray v ≡ true
  members : has_all_nodes s ≡ true
  nodes : list_all (node_is_fresh made v s) s.nodes ≡ true
  order : done_first s.nodes ≡ true

-- They pass where the test of freshness says yes.
fresh-parts : (made : ℕ) (v : View) (s : Snapshot) → is_fresh made v s ≡ true → FreshParts made v s
fresh-parts made v s h =
    let a = and_parts _ _ h in
    let b = and_parts _ _ a.1 in
    let c = and_parts _ _ b.1 in
    let d = and_parts _ _ c.1 in
    let e = and_parts _ _ d.1 in
    let f = and_parts _ _ e.1 in
    record { natives = a.0; edges = b.0; joints = c.0; colours = d.0; members = e.0; nodes = f.0; order = f.1 }

-- The tests that each node of it passes.
record NodeParts (made : ℕ) (v : View) (s : Snapshot) (n : Node) : Type 0 where
  once : (count_by (same_name n.name) (node_names s) == 1) ≡ true
  there : was_made_or_there made v n.name ≡ true
  quiet : (is_traversed n.state || notes_nothing s n.name) ≡ true
  dead : (not (is_gone n.state) || is_dead_native made v n.name) ≡ true

-- They pass where the test of the node says yes.
node-parts : (made : ℕ) (v : View) (s : Snapshot) (n : Node) → node_is_fresh made v s n ≡ true → NodeParts made v s n
node-parts made v s n h =
    let a = and_parts _ _ h in
    let b = and_parts _ _ a.1 in
    let c = and_parts _ _ b.1 in
    record { once = a.0; there = b.0; quiet = c.0; dead = c.1 }

module _ (made : ℕ) (v : View) (s : Snapshot) (part : FreshParts made v s) where
  -- A native outside the buffer passes its two tests.
  outside-right : (u : Name) (c : ℕ) → IsOutside v u c →
      (list_all (λ n. not (same_name n.name u) || is_sampled_as c n.state) s.nodes && list_all (is_noted_as_held v s u) s.nodes) ≡ true
  outside-right u c out = second-passes (has same_name v.buffer u) _
      (list_all-each (native_is_fresh v s) v.natives part.natives (u, c) out.0) (has-absent v.buffer u out.1)

  -- It has the count that was sampled.
  sampled : (u : Name) (c : ℕ) (n : Option ℕ) → IsOutside v u c → Among (node u (traversed n)) s.nodes → n ≡ Some c
  sampled u c n out m =
      let each = (and_parts _ _ (outside-right u c out)).0 in
      is_sampled_as-true c n (premise-holds (same_name u u) (is_sampled_as c (traversed n))
      (list_all-each _ s.nodes each (node u (traversed n)) m) (same_name-refl u))

  -- It is noted from each traversed node as often as that holds it.
  as_held : (u : Name) (c : ℕ) (w : Name) → IsOutside v u c → IsTraversedNode s w →
      count_by (between w u) s.references ≡ count_by (between w u) v.edges
  as_held u c w out t =
      let each = (and_parts _ _ (outside-right u c out)).1 in
      eqb-true _ _ (list_all-each (is_noted_as_held v s u) s.nodes each (node w (traversed t.0)) t.1)

  -- An edge to a gray object passes its two tests.
  gray_edge-right : (w y : Name) → Among (w, y) v.edges → Among y v.gray →
      (list_all (λ n. not (is_traversed n.state && same_name n.name w) || is_noted s (w, y)) s.nodes
      && (not (is_native w) || has same_name (node_names s) w)) ≡ true
  gray_edge-right w y m g = premise-holds (has same_name v.gray y) _
      (list_all-each (edge_is_fresh v s) v.edges part.edges (w, y) m) (has-there same_name same_name-exact v.gray y g)

  -- From a traversed node it is noted.
  gray_noted : (w y : Name) → IsTraversedNode s w → Among (w, y) v.edges → Among y v.gray → Among (w, y) s.references
  gray_noted w y t m g =
      let each = (and_parts _ _ (gray_edge-right w y m g)).0 in
      is_noted-true s w y (premise-holds (same_name w w) (is_noted s (w, y))
      (list_all-each _ s.nodes each (node w (traversed t.0)) t.1) (same_name-refl w))

  -- From a native it is from a node.
  gray_held : (i : ℕ) (y : Name) → Among (native i, y) v.edges → Among y v.gray → IsNode s (native i)
  gray_held i y m g = has-among same_name same_name-exact (node_names s) (native i) (and_parts _ _ (gray_edge-right (native i) y m g)).1

  -- A joint that gives a gray object has a mapping.
  gray_value : (e : Joint) → Among e v.joints → Among e.value v.gray → (m : Mapping) × Among m s.mappings × IsMappingOf v e m
  gray_value e m g =
      let k = list_any-some (is_mapping_of v e) s.mappings (premise-holds (has same_name v.gray e.value) _
      (list_all-each (joint_is_fresh v s) v.joints part.joints e m) (has-there same_name same_name-exact v.gray e.value g)) in
      (k.0, k.1, is_mapping_of-true v e k.0 k.2)

  -- A black object holds no gray one.
  black_to_black : (x y : Name) → Among x v.black → Among (x, y) v.edges → ¬ (Among y v.gray)
  black_to_black x y b m g =
      let none = (and_parts _ _ part.colours).0 in
      let fails = list_any-none (is_black_to_gray v) v.edges (not-true _ none) (x, y) m in
      true≢false (sym (and_from _ _ (has-there same_name same_name-exact v.black x b) (has-there same_name same_name-exact v.gray y g)) ∙ fails)

  -- Script objects in registers are black.
  held_black : (x : Name) → Among x v.registers → IsTrue (is_script x) → Among x v.black
  held_black x m script =
      let each = (and_parts _ _ (and_parts _ _ part.colours).1).0 in
      has-among same_name same_name-exact v.black x (second-passes (is_native x) _
      (list_all-each (is_native_or_black v) v.registers each x m) (not-true (is_native x) script))

  -- No script object is white.
  none_white : v.white ≡ []
  none_white = nil_from_length v.white (eqb-true (length v.white) 0 (and_parts _ _ (and_parts _ _ part.colours).1).1)

  -- A noted reference passes for its ends.
  reference-nodes : (x y : Name) → Among (x, y) s.references → (has same_name (node_names s) x && has same_name (node_names s) y) ≡ true
  reference-nodes x y m = list_all-each (reference_is_fresh s) s.references (and_parts _ _ part.members).0 (x, y) m

  -- It is from a node.
  from_node : (x y : Name) → Among (x, y) s.references → IsNode s x
  from_node x y m = has-among same_name same_name-exact (node_names s) x (and_parts _ _ (reference-nodes x y m)).0

  -- It is to a node.
  to_node : (x y : Name) → Among (x, y) s.references → IsNode s y
  to_node x y m = has-among same_name same_name-exact (node_names s) y (and_parts _ _ (reference-nodes x y m)).1

  -- A mapping passes its test.
  mapping-right : (m : Mapping) → Among m s.mappings → (is_script m.value && all_among (members_of m) (node_names s)) ≡ true
  mapping-right m i = list_all-each (mapping_is_fresh s) s.mappings (and_parts _ _ (and_parts _ _ part.members).1).0 m i

  -- The members of mappings are nodes.
  members : (m : Mapping) → Among m s.mappings → HasNodes s m
  members m i = mapping-nodes s m (all_among-each (members_of m) (node_names s) (and_parts _ _ (mapping-right m i)).1)

  -- Their values are script objects.
  values : (m : Mapping) → Among m s.mappings → IsTrue (is_script m.value)
  values m i = (and_parts _ _ (mapping-right m i)).0

  -- Candidates are nodes.
  candidates : (k : ℕ) → Among k s.candidates → IsNode s (native k)
  candidates k m =
      let all = (and_parts _ _ (and_parts _ _ part.members).1).1 in
      all_among-each (map native s.candidates) (node_names s) all (native k) (Among-map native k s.candidates m)

  -- Each node passes.
  node-right : (n : Node) → Among n s.nodes → NodeParts made v s n
  node-right n m = node-parts made v s n (list_all-each (node_is_fresh made v s) s.nodes part.nodes n m)

  -- No name is two nodes.
  distinct : (x : Name) → count_by (same_name x) (node_names s) ≤ 1
  distinct = once-at_most (node_names s) (λ x m.
      let k = Among-map_cases (λ (n : Node). n.name) s.nodes x m in
      subst (λ z. count_by (same_name z) (node_names s) ≡ 1) k.2 (eqb-true _ _ (node-right k.0 k.1).once))

  -- A node's name passes its test.
  there-right : (x : Name) → IsNode s x → was_made_or_there made v x ≡ true
  there-right x m =
      let k = Among-map_cases (λ (n : Node). n.name) s.nodes x m in
      subst (λ z. was_made_or_there made v z ≡ true) k.2 (node-right k.0 k.1).there

  -- A node that is a native was made.
  native_nodes : (i : ℕ) → IsNode s (native i) → (1 ≤ i) × (i ≤ made)
  native_nodes i m = let k = and_parts (nat_le 1 i) (nat_le i made) (there-right (native i) m) in (leb-true 1 i k.0, leb-true i made k.1)

  -- A node that is a script object is there.
  script_nodes : (x : Name) → IsNode s x → IsTrue (is_script x) → IsScriptThere v x
  script_nodes x m script = has-among same_name same_name-exact (scripts_there v) x (go x (there-right x m) script)
    where
      go : (y : Name) → was_made_or_there made v y ≡ true → IsTrue (is_script y) → has same_name (scripts_there v) y ≡ true
      go (name.Native k) h e = absurd (false≢true e)
      go (name.Script k) h e = h
      go (name.Reflector k) h e = h

  -- A node that notes nothing has no reference from it.
  notes-nothing : (x y : Name) → notes_nothing s x ≡ true → ¬ (Among (x, y) s.references)
  notes-nothing x y e m =
      true≢false (sym (same_name-refl x) ∙ list_any-none (λ (r : Name × Name). same_name r.0 x) s.references (not-true _ e) (x, y) m)

  -- An untraversed node notes nothing.
  nothing_from_untraversed : (x y : Name) → Among (node x untraversed) s.nodes → ¬ (Among (x, y) s.references)
  nothing_from_untraversed x y m = notes-nothing x y (node-right (node x untraversed) m).quiet

  -- A gone node notes nothing.
  nothing_from_gone : (x y : Name) → Among (node x gone) s.nodes → ¬ (Among (x, y) s.references)
  nothing_from_gone x y m = notes-nothing x y (node-right (node x gone) m).quiet

  -- A gone node is a dead native.
  gone_is_dead : (x : Name) → Among (node x gone) s.nodes → (i : ℕ) × (x ≡ native i) × (1 ≤ i) × (i ≤ made) × (¬ (IsLiving v x))
  gone_is_dead x m = is_dead_native-true made v x (node-right (node x gone) m).dead

-- What the test of freshness says yes to is fresh.
pub is_fresh-true : (made : ℕ) (v : View) (s : Snapshot) → is_fresh made v s ≡ true → IsFresh made v s
is_fresh-true made v s h =
    let part = fresh-parts made v s h in record {
      sampled = sampled made v s part;
      as_held = as_held made v s part;
      gray_noted = gray_noted made v s part;
      gray_held = gray_held made v s part;
      gray_value = gray_value made v s part;
      colours = record { black_to_black = black_to_black made v s part; held_black = held_black made v s part; none_white = none_white made v s part };
      from_node = from_node made v s part;
      to_node = to_node made v s part;
      members = members made v s part;
      values = values made v s part;
      candidates = candidates made v s part;
      distinct = distinct made v s part;
      native_nodes = native_nodes made v s part;
      script_nodes = script_nodes made v s part;
      in_order = part.order;
      nothing_from_untraversed = nothing_from_untraversed made v s part;
      nothing_from_gone = nothing_from_gone made v s part;
      gone_is_dead = gone_is_dead made v s part;
    }
