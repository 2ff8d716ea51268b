-- EACH UNIT IS COUNTED by the nodes that are behind.
use Rattle.std.proofs.Common.{◌≡◌, suc, ◌+◌, Bool, true, false, List, [], ◌∷◌, length, map, Option, Some, None, refl, ◌∙◌, arith}
use Rattle.cc_lists.proofs.Counting.{count_by-cons, count_by-append}
use Rattle.cc_names.specs.declared.name.Name.{Name}
use Rattle.cc_model.specs.Heap.{Heap}
use Rattle.cc_model.specs.Snapshot.{NodeState, Node, Snapshot}
use Rattle.cc_model.specs.Units.{new_node, is_untraversed, first_untraversed, with_state, with_node, with_nodes, after_node}
use Rattle.cc_model.specs.End.{went_on, at_end, UnitDone, node_or_end, granted, unit}
use Rattle.cc_laws_run.specs.UnitsTaken.{is_behind, nodes_behind, units_taken}
use Rattle.cc_laws_run.proofs.UnitLawful.{unit-cases}

-- the first untraversed node that gets a state is behind then
behind-with_state : (state : NodeState) → is_untraversed state ≡ false → (ns : List Node) (x : Name) → first_untraversed ns ≡ Some x →
    nodes_behind (with_state state ns) ≡ suc (nodes_behind ns)
behind-with_state state closed [] x e = absurd (cc)
behind-with_state state closed (n ∷ ns) x e = go (behind-with_state state closed ns x) (is_untraversed n.state) refl e
  where
    by_test : Bool → List Node
    by_test true = record n { state = state } ∷ ns
    by_test false = n ∷ with_state state ns

    first : Bool → Option Name
    first true = Some n.name
    first false = first_untraversed ns

    go : (first_untraversed ns ≡ Some x → nodes_behind (with_state state ns) ≡ suc (nodes_behind ns)) →
        (b : Bool) → is_untraversed n.state ≡ b → first b ≡ Some x → nodes_behind (by_test b) ≡ suc (nodes_behind (n ∷ ns))
    go ih true k f = rw (count_by-cons is_behind (record n { state = state }) ns, count_by-cons is_behind n ns, closed, k) (omega arith)
    go ih false k f =
        let rest : nodes_behind (with_state state ns) ≡ suc (nodes_behind ns) = ih f in
        rw (count_by-cons is_behind n (with_state state ns), count_by-cons is_behind n ns, k) (omega (arith, rest))

-- nodes that are added are not
behind-with_node : (ns : List Node) (y : Name) → nodes_behind (with_node ns y) ≡ nodes_behind ns
behind-with_node ns y = grind (arith, count_by-append)

behind-with_nodes : (ns : List Node) (ys : List Name) → nodes_behind (with_nodes ns ys) ≡ nodes_behind ns
behind-with_nodes ns [] = refl
behind-with_nodes ns (y ∷ ys) = behind-with_nodes (with_node ns y) ys ∙ behind-with_node ns y

behind-new : (xs : List Name) → nodes_behind (map new_node xs) ≡ 0
behind-new [] = refl
behind-new (x ∷ xs) = rw (count_by-cons is_behind (new_node x) (map new_node xs)) (omega (arith, behind-new xs))

-- where no node is untraversed all are behind
behind-all : (ns : List Node) → first_untraversed ns ≡ None → nodes_behind ns ≡ length ns
behind-all [] e = refl
behind-all (n ∷ ns) e = go (behind-all ns) (is_untraversed n.state) refl e
  where
    first : Bool → Option Name
    first true = Some n.name
    first false = first_untraversed ns

    go : (first_untraversed ns ≡ None → nodes_behind ns ≡ length ns) → (b : Bool) → is_untraversed n.state ≡ b → first b ≡ None →
        nodes_behind (n ∷ ns) ≡ suc (length ns)
    go ih true k f = absurd (cc)
    go ih false k f = rw (count_by-cons is_behind n ns, k) (omega (arith, ih f))

-- the unit of a node
behind-node : (h : Heap) (s : Snapshot) (x : Name) (o : Option (List Name)) → first_untraversed s.nodes ≡ Some x →
    nodes_behind (after_node h s x o).nodes ≡ suc (nodes_behind s.nodes)
behind-node h s x o e = grind (arith, behind-with_state, behind-with_nodes)

-- what a unit that was granted came to
abbrev pub CountsOn : Option Snapshot → UnitDone → Type 0
CountsOn s u = u.progress ≡ went_on → units_taken u.snapshot ≡ suc (units_taken s)

abbrev pub CountsAtEnd : Option Snapshot → UnitDone → Type 0
CountsAtEnd s u = u.progress ≡ at_end → (t : Snapshot) × (s ≡ Some t) × (suc (units_taken s) ≡ length t.nodes + 2)

node_or_end-counts : (h : Heap) (s : Snapshot) (o : Option Name) → first_untraversed s.nodes ≡ o → CountsOn (Some s) (node_or_end h s o) × CountsAtEnd (Some s) (node_or_end h s o)
node_or_end-counts h s o e = grind (arith, behind-all, behind-node)

granted-counts : (h : Heap) (s : Option Snapshot) → CountsOn s (granted h s) × CountsAtEnd s (granted h s)
granted-counts h s = grind (arith, behind-new, node_or_end-counts)

-- EACH UNIT
pub unit-counts : (h : Heap) (s : Option Snapshot) (memory : Bool) → CountsOn s (unit h s memory) × CountsAtEnd s (unit h s memory)
unit-counts h s memory = unit-cases h s memory (λ u. CountsOn s u × CountsAtEnd s u) (λ p. absurd (cc), λ p. absurd (cc)) (granted-counts h s)
