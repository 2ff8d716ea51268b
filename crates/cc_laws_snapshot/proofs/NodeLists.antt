-- The list of nodes: the first untraversed one gets a state, and new ones go last.
use Rattle.std.proofs.Common.{arith, ◌≡◌, ◌≤◌, Bool, true, false, List, [], ◌∷◌, ◌++◌, map, Some, refl, sym, ◌∙◌, ap, subst, inl, inr, ◌⊎◌, ⊎_elim, count_by}
use Rattle.std.specs.List.{list_all}
use Rattle.std.proofs.lemmas.Bool.{and_parts, and_from, true≢false, false≢true}
use Rattle.std.proofs.lemmas.List.{map_push}
use Rattle.cc_lists.specs.Members.{Among, has, with_last, with_all_last}
use Rattle.cc_lists.proofs.Members.{Among-append, has-there}
use Rattle.cc_lists.proofs.Counting.{count_by-map}
use Rattle.cc_names.specs.declared.name.Name.{Name}
use Rattle.cc_names.specs.Names.{same_name}
use Rattle.cc_names.proofs.NameTests.{same_name-exact}
use Rattle.cc_model.specs.Snapshot.{NodeState, untraversed, Node}
use Rattle.cc_model.specs.Units.{new_node, is_untraversed, first_untraversed, with_state, with_node, with_nodes}
use Rattle.cc_model.specs.Fresh.{node, done_first}
use Rattle.cc_model.proofs.UnitsEnd.{names-with_state}
use Rattle.cc_laws_snapshot.proofs.NamePairs.{name_cases}
use Rattle.cc_lists.proofs.OnceEach.{with_last-keeps}
use Rattle.cc_laws_snapshot.proofs.States.{HasDistinctNodes, one-state}

-- the names of the nodes
abbrev pub names_of : List Node → List Name
names_of ns = map (λ n. n.name) ns

-- whether a node is untraversed
abbrev pub is_open : Node → Bool
is_open n = is_untraversed n.state

-- the test of untraversed tells
is_untraversed-true : (state : NodeState) → is_untraversed state ≡ true → state ≡ untraversed
is_untraversed-true state e = grind arith

-- names that are distinct are those of distinct nodes
names-distinct : (ns : List Node) → ((x : Name) → count_by (same_name x) (names_of ns) ≤ 1) → HasDistinctNodes ns
names-distinct ns d x = subst (λ c. c ≤ 1) (count_by-map (same_name x) (λ (n : Node). n.name) ns) (d x)

-- The first untraversed node gets a state

-- its name is that of an untraversed node
pub first-untraversed : (ns : List Node) (x : Name) → first_untraversed ns ≡ Some x → Among (node x untraversed) ns
first-untraversed [] x e = absurd (cc)
first-untraversed (n ∷ ns) x e = grind (arith, is_untraversed-true, first-untraversed ns x)

-- the node stands there with its state
with_state-there : (state : NodeState) (ns : List Node) (x : Name) → first_untraversed ns ≡ Some x → Among (node x state) (with_state state ns)
with_state-there state [] x e = absurd (cc)
with_state-there state (n ∷ ns) x e = grind (arith, with_state-there state ns x)

-- any other node was there before
with_state-others : (state : NodeState) (ns : List Node) (x : Name) → first_untraversed ns ≡ Some x → (m : Node) → Among m (with_state state ns) →
    Among m ns ⊎ (m.name ≡ x)
with_state-others state [] x e m i = absurd i
with_state-others state (n ∷ ns) x e m i = grind (arith, with_state-others state ns x)

-- Each node has the state that it had, and the first untraversed one the new state.
pub with_state-states : (state : NodeState) (ns : List Node) (x : Name) → HasDistinctNodes ns → first_untraversed ns ≡ Some x →
    (z : Name) (a : NodeState) → Among (node z a) (with_state state ns) → (Among (node z a) ns × (¬ (z ≡ x))) ⊎ ((x ≡ z) × (state ≡ a))
with_state-states state ns x d e z a i = ⊎_elim
    (λ s. inr (sym s, one-state (with_state state ns) distinct x state a (with_state-there state ns x e) (subst (λ y. Among (node y a) (with_state state ns)) s i)))
    (λ other. ⊎_elim (λ l. inl (l, other)) (λ s. absurd (other s)) (with_state-others state ns x e (node z a) i))
    (name_cases z x)
  where
    distinct : HasDistinctNodes (with_state state ns)
    distinct = names-distinct (with_state state ns) (λ y. subst (λ xs. count_by (same_name y) xs ≤ 1) (sym (names-with_state state ns))
        (subst (λ c. c ≤ 1) (sym (count_by-map (same_name y) (λ (n : Node). n.name) ns)) (d y)))

-- New nodes go last

-- the names after one node was added
names-with_node : (ns : List Node) (y : Name) → names_of (with_node ns y) ≡ with_last same_name (names_of ns) y
names-with_node ns y = grind (arith, map_push)

-- the names after several were added
pub names-with_nodes : (ns : List Node) (ys : List Name) → names_of (with_nodes ns ys) ≡ with_all_last same_name (names_of ns) ys
names-with_nodes ns [] = refl
names-with_nodes ns (y ∷ ys) = names-with_nodes (with_node ns y) ys ∙ ap (λ xs. with_all_last same_name xs ys) (names-with_node ns y)

-- one added node is untraversed and of a new name
with_node-states : (ns : List Node) (y z : Name) (a : NodeState) → Among (node z a) (with_node ns y) →
    Among (node z a) ns ⊎ ((untraversed ≡ a) × (¬ (Among z (names_of ns))))
with_node-states ns y z a i = go (has same_name (names_of ns) y) refl i
  where
    go : (b : Bool) → has same_name (names_of ns) y ≡ b → Among (node z a) (elim b [ true ↦ ns | false ↦ ns ++ new_node y ∷ [] ]) →
        Among (node z a) ns ⊎ ((untraversed ≡ a) × (¬ (Among z (names_of ns))))
    go true e j = inl j
    go false e j = ⊎_elim (λ l. inl l)
        (λ r. ⊎_elim
        (λ s. inr (
          ap (λ (n : Node). n.state) s,
          λ m.
              let here : Among y (names_of ns) = subst (λ w. Among w (names_of ns)) (sym (ap (λ (n : Node). n.name) s)) m in
              true≢false (sym (has-there same_name same_name-exact (names_of ns) y here) ∙ e),
        ))
        (λ t. absurd t) r)
        (Among-append (node z a) ns (new_node y ∷ []) j)

-- Each node was there, or is untraversed and of a new name.
pub with_nodes-states : (ns : List Node) (ys : List Name) (z : Name) (a : NodeState) → Among (node z a) (with_nodes ns ys) →
    Among (node z a) ns ⊎ ((untraversed ≡ a) × (¬ (Among z (names_of ns))))
with_nodes-states ns [] z a i = inl i
with_nodes-states ns (y ∷ ys) z a i = ⊎_elim
    (λ l. with_node-states ns y z a l)
    (λ r. inr (r.0, λ m. r.1 (subst (Among z) (sym (names-with_node ns y)) (with_last-keeps same_name same_name-exact (names_of ns) y z m))))
    (with_nodes-states (with_node ns y) ys z a i)

-- The traversed and gone nodes stand first

-- where all are untraversed
pub all-done_first : (ns : List Node) → list_all is_open ns ≡ true → done_first ns ≡ true
all-done_first [] h = refl
all-done_first (n ∷ ns) h = grind (arith, and_parts, false≢true)

-- after the first untraversed one got a state
pub done_first-with_state : (state : NodeState) (ns : List Node) → is_untraversed state ≡ false → done_first ns ≡ true → done_first (with_state state ns) ≡ true
done_first-with_state state [] closed h = refl
done_first-with_state state (n ∷ ns) closed h = grind (arith, all-done_first, done_first-with_state state ns closed)

-- one more untraversed node keeps all untraversed
all_open-push : (ns : List Node) (y : Name) → list_all is_open ns ≡ true → list_all is_open (ns ++ new_node y ∷ []) ≡ true
all_open-push [] y h = refl
all_open-push (n ∷ ns) y h =
    let k = and_parts (is_open n) (list_all is_open ns) h in
    and_from (is_open n) (list_all is_open (ns ++ new_node y ∷ [])) k.0 (all_open-push ns y k.1)

-- after an untraversed one went last
done_first-push : (ns : List Node) (y : Name) → done_first ns ≡ true → done_first (ns ++ new_node y ∷ []) ≡ true
done_first-push [] y h = refl
done_first-push (n ∷ ns) y h = grind (arith, all_open-push, done_first-push ns y)

-- after several untraversed ones went last
pub done_first-with_nodes : (ns : List Node) (ys : List Name) → done_first ns ≡ true → done_first (with_nodes ns ys) ≡ true
done_first-with_nodes ns [] h = h
done_first-with_nodes ns (y ∷ ys) h = done_first-with_nodes (with_node ns y) ys (one (has same_name (names_of ns) y))
  where
    one : (b : Bool) → done_first (elim b [ true ↦ ns | false ↦ ns ++ new_node y ∷ [] ]) ≡ true
    one true = h
    one false = done_first-push ns y h
