-- A NODE IS TRAVERSED: its references to natives and to gray objects are noted, and the snapshot stays fresh.
use Rattle.std.proofs.Common.{◌≡◌, ℕ, ◌+◌, ◌<◌, ◌≤◌, true, List, map, Option, Some, refl, sym, ◌∙◌, ap, subst, inl, inr, ◌⊎◌, ⊎_elim, arith, count_by}
use Rattle.std.proofs.lemmas.Bool.{cases_lt}
use Rattle.cc_lists.specs.Members.{Among, with_all_last}
use Rattle.cc_lists.proofs.Members.{Among-map, Among-map_cases, Among-left, Among-right, Among-append}
use Rattle.cc_lists.proofs.Counting.{count_by-map, count_by-append, count_by-some, counted_is}
use Rattle.cc_names.specs.declared.name.Name.{Name}
use Rattle.cc_names.specs.Names.{native, same_name, is_native}
use Rattle.cc_names.proofs.NameTests.{same_name-true, same_name-refl, same_name-exact}
use Rattle.cc_model.specs.Slots.{from_to}
use Rattle.cc_model.specs.View.{View, between}
use Rattle.cc_model.specs.Snapshot.{NodeState, untraversed, gone, traversed, Snapshot, node_names}
use Rattle.cc_model.specs.Units.{first_untraversed, with_state, noted}
use Rattle.cc_model.specs.Fresh.{node, IsNode, IsTraversedNode, IsOutside, IsFresh}
use Rattle.cc_model.proofs.UnitsEnd.{names-with_state}
use Rattle.cc_lists.proofs.CountsOf.{count_by-agree}
use Rattle.cc_laws_snapshot.proofs.NamePairs.{name_cases, between-true, between-refl}
use Rattle.cc_laws_snapshot.proofs.SoundView.{IsSoundView}
use Rattle.cc_laws_snapshot.proofs.States.{untraversed-not_traversed, untraversed-not_gone, gone-not_traversed, node-named, fresh-distinct}
use Rattle.cc_lists.proofs.OnceEach.{with_all_last-keeps, with_all_last-there, with_all_last-cases, with_all_last-once}
use Rattle.cc_laws_snapshot.proofs.NodeLists.{first-untraversed, with_state-states, names-with_nodes, with_nodes-states, done_first-with_state, done_first-with_nodes}
use Rattle.cc_laws_snapshot.proofs.PassedOver.{members-stay}

-- what the unit of node x notes: what edges lead to, and of natives and gray objects as many as there are edges
pub record IsNotedOf (v : View) (x : Name) (ys : List Name) : Type 0 where
  pub held : (y : Name) → Among y ys → Among (x, y) v.edges
  pub as_often : (u : Name) → (is_native u ≡ true) ⊎ Among u v.gray → count_by (λ y. same_name y u) ys ≡ count_by (between x u) v.edges

-- references from x to each of a list: as many to u as u stands there
between-from : (x u : Name) (ys : List Name) → count_by (between x u) (map (from_to x) ys) ≡ count_by (λ y. same_name y u) ys
between-from x u ys = grind (arith, count_by-map, count_by-agree, same_name-refl)

-- and none from another name
between-other : (x w u : Name) (ys : List Name) → ¬ (w ≡ x) → count_by (between w u) (map (from_to x) ys) ≤ 0
between-other x w u ys other = grind (arith, counted_is, Among-map_cases, between-true, cases_lt)

module _ (made : ℕ) (v : View) (s : Snapshot) (sound : IsSoundView made v) (fresh : IsFresh made v s)
    (x : Name) (first : first_untraversed s.nodes ≡ Some x) (n : Option ℕ) (ys : List Name) where
  -- the snapshot after the unit
  abbrev after : Snapshot
  after = noted s x (traversed n) ys

  -- its names are those before and the noted ones
  same-names : node_names after ≡ with_all_last same_name (node_names s) ys
  same-names = names-with_nodes (with_state (traversed n) s.nodes) ys ∙ ap (λ xs. with_all_last same_name xs ys) (names-with_state (traversed n) s.nodes)

  -- each node stays one
  stays : (y : Name) → IsNode s y → IsNode after y
  stays y i = subst (Among y) (sym same-names) (with_all_last-keeps same_name same_name-exact (node_names s) ys y i)

  -- what is noted is a node
  noted-node : (y : Name) → Among y ys → IsNode after y
  noted-node y i = subst (Among y) (sym same-names) (with_all_last-there same_name same_name-exact (node_names s) ys y i)

  -- and nothing else is
  node-cases : (y : Name) → IsNode after y → IsNode s y ⊎ Among y ys
  node-cases y i = with_all_last-cases same_name same_name-exact (node_names s) ys y (subst (Among y) same-names i)

  -- the node of the unit was untraversed,
  was-open : Among (node x untraversed) s.nodes
  was-open = first-untraversed s.nodes x first

  -- and is a node
  was-node : IsNode s x
  was-node = node-named s x untraversed was-open

  -- a node that was there with its state, and is not the one of the unit; or this one, traversed; or a new one, untraversed
  abbrev Before : Name → NodeState → Type 0
  Before y a = (Among (node y a) s.nodes × (¬ (y ≡ x))) ⊎ (((x ≡ y) × (traversed n ≡ a)) ⊎ ((untraversed ≡ a) × (¬ (IsNode s y))))

  -- each node is one of these
  states : (y : Name) (a : NodeState) → Among (node y a) after.nodes → Before y a
  states y a i = ⊎_elim
      (λ l. ⊎_elim (λ p. inl p) (λ q. inr (inl q)) (with_state-states (traversed n) s.nodes x (fresh-distinct made v s fresh) first y a l))
      (λ r. inr (inr (r.0, λ m. r.1 (subst (Among y) (sym (names-with_state (traversed n) s.nodes)) m))))
      (with_nodes-states (with_state (traversed n) s.nodes) ys y a i)

  -- another traversed node was so before
  was-so : (y : Name) (m : Option ℕ) → ¬ (y ≡ x) → Among (node y (traversed m)) after.nodes → Among (node y (traversed m)) s.nodes
  was-so y m other j = grind (arith, untraversed-not_traversed, states)

  -- whatever it sampled
  was-traversed : (y : Name) → ¬ (y ≡ x) → IsTraversedNode after y → IsTraversedNode s y
  was-traversed y other t = (t.0, was-so y t.0 other t.1)

  -- references before and the noted ones
  reference-cases : (y z : Name) → Among (y, z) after.references → Among (y, z) s.references ⊎ ((x ≡ y) × Among z ys)
  reference-cases y z i = ⊎_elim (λ l. inl l)
      (λ r. let f = Among-map_cases (from_to x) ys (y, z) r in
      inr (ap (λ (e : Name × Name). e.0) f.2, subst (λ w. Among w ys) (ap (λ (e : Name × Name). e.1) f.2) f.1))
      (Among-append (y, z) s.references (map (from_to x) ys) i)

  -- nothing was noted from x before
  none-before : (u : Name) → count_by (between x u) s.references ≤ 0
  none-before u = ⊎_elim
      (λ some.
      let c = counted_is (between x u) s.references some in
      absurd (fresh.nothing_from_untraversed x u was-open (subst (λ r. Among r s.references) (between-true x u c.0 c.2) c.1)))
      (λ none. none)
      (cases_lt 0 (count_by (between x u) s.references))

  -- references before and noted ones add up
  counts-add : (w u : Name) → count_by (between w u) after.references ≡ count_by (between w u) s.references + count_by (between w u) (map (from_to x) ys)
  counts-add w u = count_by-append (between w u) s.references (map (from_to x) ys)

  module _ (noted-of : IsNotedOf v x ys) (sampled-is : (c : ℕ) → Among (x, c) v.natives → n ≡ Some c) where
    -- the sampled count of each traversed native is its count
    sampled-after : (u : Name) (c : ℕ) (m : Option ℕ) → IsOutside v u c → Among (node u (traversed m)) after.nodes → m ≡ Some c
    sampled-after u c m out j = ⊎_elim (λ l. fresh.sampled u c m out l.0)
        (λ r. ⊎_elim
        (λ q. let state : traversed n ≡ traversed m = q.1 in
        let same : n ≡ m = cc in
        sym same ∙ sampled-is c (subst (λ z. Among (z, c) v.natives) (sym q.0) out.0))
        (λ q. absurd (untraversed-not_traversed m q.0)) r) (states u (traversed m) j)

    -- as many references to a native are noted as each traversed node's object holds
    held-after : (u : Name) (c : ℕ) (w : Name) → IsOutside v u c → IsTraversedNode after w →
        count_by (between w u) after.references ≡ count_by (between w u) v.edges
    held-after u c w out t = ⊎_elim
        (λ e. subst (λ z. count_by (between z u) after.references ≡ count_by (between z u) v.edges) (sym e)
        (omega (arith, counts-add x u, none-before u, between-from x u ys, noted-of.as_often u (inl (sound.named u c out.0)))))
        (λ other. omega (arith, counts-add w u, between-other x w u ys other, fresh.as_held u c w out (was-traversed w other t)))
        (name_cases w x)

    -- what is gray of what it holds is noted
    gray-after : (w y : Name) → IsTraversedNode after w → Among (w, y) v.edges → Among y v.gray → Among (w, y) after.references
    gray-after w y t e g = ⊎_elim
        (λ same.
        let edge : Among (x, y) v.edges = subst (λ z. Among (z, y) v.edges) same e in
        let some : 0 < count_by (between x y) v.edges = count_by-some (between x y) (x, y) v.edges edge (between-refl x y) in
        let c = counted_is (λ z. same_name z y) ys (omega (arith, noted-of.as_often y (inr g))) in
        let there : Among y ys = subst (λ z. Among z ys) (same_name-true c.0 y c.2) c.1 in
        subst (λ z. Among (z, y) after.references) (sym same)
        (Among-right (x, y) s.references (map (from_to x) ys) (Among-map (from_to x) y ys there)))
        (λ other. Among-left (w, y) s.references (map (from_to x) ys) (fresh.gray_noted w y (was-traversed w other t) e g))
        (name_cases w x)

    -- an untraversed node has noted nothing
    open-after : (y z : Name) → Among (node y untraversed) after.nodes → ¬ (Among (y, z) after.references)
    open-after y z j i = ⊎_elim
        (λ l. ⊎_elim (λ o. fresh.nothing_from_untraversed y z l.0 o) (λ new. l.1 (sym new.0)) (reference-cases y z i))
        (λ r. ⊎_elim
        (λ q. untraversed-not_traversed n (sym q.1))
        (λ q. ⊎_elim (λ o. q.1 (fresh.from_node y z o)) (λ new. q.1 (subst (IsNode s) new.0 was-node)) (reference-cases y z i)) r)
        (states y untraversed j)

    -- a gone node was gone
    was-gone : (y : Name) → Among (node y gone) after.nodes → Among (node y gone) s.nodes × (¬ (y ≡ x))
    was-gone y j = ⊎_elim (λ l. l) (λ r. ⊎_elim (λ q. absurd (gone-not_traversed n (sym q.1))) (λ q. absurd (untraversed-not_gone q.0)) r) (states y gone j)

    -- The snapshot stays fresh.
    pub traversed-fresh : IsFresh made v (noted s x (traversed n) ys)
    traversed-fresh = record {
      sampled = sampled-after;
      as_held = held-after;
      gray_noted = gray-after;
      gray_held = λ i y e g. stays (native i) (fresh.gray_held i y e g);
      gray_value = fresh.gray_value;
      colours = fresh.colours;
      from_node = λ y z i. ⊎_elim (λ l. stays y (fresh.from_node y z l)) (λ r. subst (IsNode after) r.0 (stays x was-node)) (reference-cases y z i);
      to_node = λ y z i. ⊎_elim (λ l. stays z (fresh.to_node y z l)) (λ r. noted-node z r.1) (reference-cases y z i);
      members = λ m i. members-stay s after stays m (fresh.members m i);
      values = fresh.values;
      candidates = λ k i. stays (native k) (fresh.candidates k i);
      distinct = λ y. subst (λ xs. count_by (same_name y) xs ≤ 1) (sym same-names)
          (with_all_last-once same_name same_name-exact (node_names s) ys y (fresh.distinct y));
      native_nodes = λ i m. ⊎_elim (fresh.native_nodes i)
          (λ new. sound.was_made i (sound.target_lives x i (noted-of.held (native i) new))) (node-cases (native i) m);
      script_nodes = λ y m e. ⊎_elim (λ old. fresh.script_nodes y old e)
          (λ new. sound.target_there x y (noted-of.held y new) e) (node-cases y m);
      in_order = done_first-with_nodes (with_state (traversed n) s.nodes) ys (done_first-with_state (traversed n) s.nodes refl fresh.in_order);
      nothing_from_untraversed = open-after;
      nothing_from_gone = λ y z j i. let was = was-gone y j in
          ⊎_elim (λ o. fresh.nothing_from_gone y z was.0 o) (λ new. was.1 (sym new.0)) (reference-cases y z i);
      gone_is_dead = λ y j. fresh.gone_is_dead y (was-gone y j).0;
    }
