-- The states of the nodes of a fresh snapshot: each node has one, and what noted a reference was traversed.
use Rattle.std.proofs.Common.{◌≡◌, ℕ, ◌≤◌, List, Option, ap, subst, count_by}
use Rattle.cc_lists.specs.Members.{Among}
use Rattle.cc_lists.proofs.Members.{Among-map, Among-map_cases}
use Rattle.cc_lists.proofs.Counting.{count_by-map}
use Rattle.cc_names.specs.declared.name.Name.{Name}
use Rattle.cc_names.specs.Names.{same_name}
use Rattle.cc_names.proofs.NameTests.{same_name-refl}
use Rattle.cc_model.specs.View.{View}
use Rattle.cc_model.specs.Snapshot.{NodeState, untraversed, gone, traversed, Node, Snapshot}
use Rattle.cc_model.specs.Fresh.{node, IsNode, IsTraversedNode, IsFresh, IsTraversed}
use Rattle.cc_lists.proofs.ListWrites.{only-member}

-- States told apart

-- an untraversed node is not traversed
pub untraversed-not_traversed : (n : Option ℕ) → untraversed ≡ traversed n → ⊥
untraversed-not_traversed n e = cc

-- a gone node is not traversed
pub gone-not_traversed : (n : Option ℕ) → gone ≡ traversed n → ⊥
gone-not_traversed n e = cc

-- an untraversed node is not gone
pub untraversed-not_gone : untraversed ≡ gone → ⊥
untraversed-not_gone e = cc

-- The state of a name

-- no two nodes have one name
abbrev pub HasDistinctNodes : List Node → Type 0
HasDistinctNodes ns = (x : Name) → count_by (λ n. same_name x n.name) ns ≤ 1

-- then a name has one state
pub one-state : (ns : List Node) → HasDistinctNodes ns → (x : Name) (a b : NodeState) → Among (node x a) ns → Among (node x b) ns → a ≡ b
one-state ns d x a b i j = ap (λ (n : Node). n.state)
    (only-member (λ n. same_name x n.name) ns (node x a) (node x b) (d x) i (same_name-refl x) j (same_name-refl x))

-- a name that is among those of nodes is that of a node with some state
pub state-of : (s : Snapshot) (x : Name) → IsNode s x → (state : NodeState) × Among (node x state) s.nodes
state-of s x i =
    let f = Among-map_cases (λ (n : Node). n.name) s.nodes x i in
    (f.0.state, subst (λ y. Among (node y f.0.state) s.nodes) f.2 f.1)

-- a node's name is among those of nodes
pub node-named : (s : Snapshot) (x : Name) (state : NodeState) → Among (node x state) s.nodes → IsNode s x
node-named s x state i = Among-map (λ (n : Node). n.name) (node x state) s.nodes i

module _ (made : ℕ) (v : View) (s : Snapshot) (fresh : IsFresh made v s) where
  -- the nodes of a fresh snapshot are distinct
  pub fresh-distinct : HasDistinctNodes s.nodes
  fresh-distinct x = subst (λ c. c ≤ 1) (count_by-map (same_name x) (λ (n : Node). n.name) s.nodes) (fresh.distinct x)

  -- what a noted reference comes from was traversed
  pub from-traversed : (x y : Name) → Among (x, y) s.references → IsTraversedNode s x
  from-traversed x y i = let k = state-of s x (fresh.from_node x y i) in go k.0 k.1
    where
      go : (state : NodeState) → Among (node x state) s.nodes → IsTraversedNode s x
      go untraversed j = absurd (fresh.nothing_from_untraversed x y j i)
      go gone j = absurd (fresh.nothing_from_gone x y j i)
      go (traversed n) j = (n, j)

  -- a node that is not gone was traversed, where none is left to traverse
  pub alive-traversed : IsTraversed s → (x : Name) → IsNode s x → (¬ (Among (node x gone) s.nodes)) → IsTraversedNode s x
  alive-traversed all x i alive = let k = state-of s x i in go k.0 k.1
    where
      go : (state : NodeState) → Among (node x state) s.nodes → IsTraversedNode s x
      go untraversed j = absurd (all x j)
      go gone j = absurd (alive j)
      go (traversed n) j = (n, j)
