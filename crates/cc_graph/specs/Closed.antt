-- THAT A GRAPH SPEAKS OF ITS OWN NODES ALONE.
use Rattle.std.specs.Prelude.{ℕ, ◌<◌, ◌≤◌, ◌^◌, ◌==◌, List, length, count_by, IfSome}
use Rattle.cc_lists.specs.Members.{Among}
use Rattle.cc_graph.specs.Shown.{Edge, Hyperedge, Shown}

-- the members of a mapping, as far as they are nodes, are among so many
pub record IsHyperedgeWithin (count : ℕ) (m : Hyperedge) : Type 0 where
  pub the_map : IfSome m.the_map (λ i. i < count)
  pub key : IfSome m.key (λ i. i < count)
  pub value : m.value < count

abbrev pub AreHyperedgesWithin : ℕ → List Hyperedge → Type 0
AreHyperedgesWithin count ms = (m : Hyperedge) → Among m ms → IsHyperedgeWithin count m

-- the ends of the references and the black ones are among so many nodes, and each is black once at most
pub record IsWithin (count : ℕ) (edges : List Edge) (blacks : List ℕ) : Type 0 where
  pub sources : (e : Edge) → Among e edges → e.source < count
  pub targets : (e : Edge) → Among e edges → e.target < count
  pub members : (i : ℕ) → Among i blacks → i < count
  pub once : (i : ℕ) → count_by (λ k. i == k) blacks ≤ 1

-- a graph is within its nodes, whose numbers have 32 bits
pub record IsClosed (g : Shown) : Type 0 where
  pub few : length g.nodes < 2 ^ 32
  pub within : IsWithin (length g.nodes) g.edges g.blacks
  pub hyperedges : AreHyperedgesWithin (length g.nodes) g.hyperedges
