-- A NODE WHOSE OBJECT IS NO MORE is passed over: the snapshot stays fresh.
use Rattle.std.proofs.Common.{◌≡◌, ℕ, ◌≤◌, List, Option, Some, None, refl, sym, subst, ◌⊎◌, ⊎_elim, count_by}
use Rattle.cc_lists.specs.Members.{Among}
use Rattle.cc_names.specs.declared.name.Name.{Name}
use Rattle.cc_names.specs.Names.{native, same_name}
use Rattle.cc_model.specs.View.{View}
use Rattle.cc_model.specs.Snapshot.{NodeState, untraversed, gone, traversed, Node, Mapping, Snapshot, node_names}
use Rattle.cc_model.specs.Units.{first_untraversed, with_state, passed_over}
use Rattle.cc_model.specs.Fresh.{node, IsNode, IsTraversedNode, IsLiving, MemberIsNode, HasNodes, IsFresh}
use Rattle.cc_model.proofs.UnitsEnd.{names-with_state}
use Rattle.cc_laws_snapshot.proofs.States.{untraversed-not_gone, gone-not_traversed, node-named, fresh-distinct}
use Rattle.cc_laws_snapshot.proofs.NodeLists.{first-untraversed, with_state-states, done_first-with_state}

-- a mapping's members stay nodes where nodes stay
pub members-stay : (s t : Snapshot) → ((x : Name) → IsNode s x → IsNode t x) → (m : Mapping) → HasNodes s m → HasNodes t m
members-stay s t stays m has = record { the_map = one m.the_map has.the_map; key = one m.key has.key; value = stays m.value has.value }
  where
    one : (o : Option Name) → MemberIsNode s o → MemberIsNode t o
    one None h = tt
    one (Some x) h = stays x h

module _ (made : ℕ) (v : View) (s : Snapshot) (fresh : IsFresh made v s) (x : Name) (first : first_untraversed s.nodes ≡ Some x) where
  -- the nodes after the unit
  abbrev passed : List Node
  passed = with_state gone s.nodes

  -- the names of the nodes stay
  same-names : node_names (passed_over s) ≡ node_names s
  same-names = names-with_state gone s.nodes

  -- each node stays one,
  stays : (y : Name) → IsNode s y → IsNode (passed_over s) y
  stays y i = subst (Among y) (sym same-names) i

  -- and was one before
  was : (y : Name) → IsNode (passed_over s) y → IsNode s y
  was y i = subst (Among y) same-names i

  -- each node has the state that it had, and this one is gone
  states : (y : Name) (a : NodeState) → Among (node y a) passed → (Among (node y a) s.nodes × (¬ (y ≡ x))) ⊎ ((x ≡ y) × (gone ≡ a))
  states = with_state-states gone s.nodes x (fresh-distinct made v s fresh) first

  -- a traversed node was so before
  was-so : (y : Name) (n : Option ℕ) → Among (node y (traversed n)) passed → Among (node y (traversed n)) s.nodes
  was-so y n j = ⊎_elim (λ l. l.0) (λ r. absurd (gone-not_traversed n r.1)) (states y (traversed n) j)

  -- what was traversed was so before, whatever it sampled
  was-traversed : (y : Name) → IsTraversedNode (passed_over s) y → IsTraversedNode s y
  was-traversed y t = (t.0, was-so y t.0 t.1)

  -- The snapshot stays fresh.
  pub passed-fresh : (i : ℕ) → x ≡ native i → ¬ (IsLiving v x) → IsFresh made v (passed_over s)
  passed-fresh i named dead = record {
    sampled = λ u c n out j. fresh.sampled u c n out (was-so u n j);
    as_held = λ u c w out t. fresh.as_held u c w out (was-traversed w t);
    gray_noted = λ w y t e g. fresh.gray_noted w y (was-traversed w t) e g;
    gray_held = λ j y e g. stays (native j) (fresh.gray_held j y e g);
    gray_value = fresh.gray_value;
    colours = fresh.colours;
    from_node = λ y z j. stays y (fresh.from_node y z j);
    to_node = λ y z j. stays z (fresh.to_node y z j);
    members = λ m j. members-stay s (passed_over s) stays m (fresh.members m j);
    values = fresh.values;
    candidates = λ k j. stays (native k) (fresh.candidates k j);
    distinct = λ y. subst (λ xs. count_by (same_name y) xs ≤ 1) (sym same-names) (fresh.distinct y);
    native_nodes = λ j n. fresh.native_nodes j (was (native j) n);
    script_nodes = λ y n e. fresh.script_nodes y (was y n) e;
    in_order = done_first-with_state gone s.nodes refl fresh.in_order;
    nothing_from_untraversed = λ y z j. ⊎_elim (λ l. fresh.nothing_from_untraversed y z l.0) (λ r. absurd (untraversed-not_gone (sym r.1))) (states y untraversed j);
    nothing_from_gone = λ y z j. ⊎_elim (λ l. fresh.nothing_from_gone y z l.0)
        (λ r. subst (λ w. ¬ (Among (w, z) s.references)) r.0 (fresh.nothing_from_untraversed x z (first-untraversed s.nodes x first))) (states y gone j);
    gone_is_dead = λ y j. ⊎_elim (λ l. fresh.gone_is_dead y l.0)
        (λ r.
        let node-there : IsNode s x = node-named s x untraversed (first-untraversed s.nodes x first) in
        let made-it = fresh.native_nodes i (subst (IsNode s) named node-there) in
        subst (λ w. (k : ℕ) × (w ≡ native k) × (1 ≤ k) × (k ≤ made) × (¬ (IsLiving v w))) r.0 (i, named, made-it.0, made-it.1, dead)) (states y gone j);
  }
