-- WHEN A SNAPSHOT IS FRESH: what it says of natives that nothing touched since is still so.
use Rattle.std.specs.Prelude.{◌≡◌, ℕ, ◌≤◌, Bool, true, false, ◌⊎◌, IsTrue, List, [], ◌∷◌, count_by, Option, Some, None}
use Rattle.std.specs.List.{list_all}
use Rattle.cc_lists.specs.Members.{Among}
use Rattle.cc_names.specs.declared.name.Name.{Name}
use Rattle.cc_names.specs.Names.{native, same_name, is_script}
use Rattle.cc_model.specs.Entries.{Joint}
use Rattle.cc_model.specs.View.{View, between, scripts_there}
use Rattle.cc_model.specs.Colours.{HasColourInvariant}
use Rattle.cc_model.specs.Snapshot.{Snapshot, Node, NodeState, Mapping, untraversed, gone, traversed, node_names}
use Rattle.cc_model.specs.Units.{is_untraversed}

abbrev pub node : Name → NodeState → Node
node x state = record { name = x; state = state }

abbrev pub IsNode : Snapshot → Name → Type 0
IsNode s x = Among x (node_names s)

-- a node that was traversed
abbrev pub IsTraversedNode : Snapshot → Name → Type 0
IsTraversedNode s x = (sampled : Option ℕ) × Among (node x (traversed sampled)) s.nodes

-- a native of the heaps that is not in the buffer
abbrev pub IsOutside : View → Name → ℕ → Type 0
IsOutside v u c = Among (u, c) v.natives × (¬ (Among u v.buffer))

-- a native is in the heaps
abbrev pub IsLiving : View → Name → Type 0
IsLiving v u = (c : ℕ) × Among (u, c) v.natives

-- a script object is in the heaps
abbrev pub IsScriptThere : View → Name → Type 0
IsScriptThere v x = Among x (scripts_there v)

-- a mapping's member is that of the joint, or there is none and the joint's is black
abbrev pub MemberOf : View → Option Name → Name → Type 0
MemberOf v member x = (member ≡ Some x) ⊎ ((member ≡ None) × Among x v.black)

-- the mapping of a joint
pub record IsMappingOf (v : View) (e : Joint) (m : Mapping) : Type 0 where
  pub value : m.value ≡ e.value
  pub the_map : MemberOf v m.the_map e.the_map
  pub key : MemberOf v m.key e.key

abbrev pub MemberIsNode : Snapshot → Option Name → Type 0
MemberIsNode s None = Unit {0}
MemberIsNode s (Some x) = IsNode s x

-- its members are nodes
pub record HasNodes (s : Snapshot) (m : Mapping) : Type 0 where
  pub the_map : MemberIsNode s m.the_map
  pub key : MemberIsNode s m.key
  pub value : IsNode s m.value

-- the traversed and gone nodes stand first
abbrev pub done_first : List Node → Bool
done_first [] = true
done_first (n ∷ ns) = elim (is_untraversed n.state) [ true ↦ list_all (λ m. is_untraversed m.state) ns | false ↦ done_first ns ]

-- `made` is how many natives were ever made
pub record IsFresh (made : ℕ) (v : View) (s : Snapshot) : Type 0 where
  -- a native outside the buffer that is a traversed node: its sampled count is its count
  pub sampled : (u : Name) (c : ℕ) (n : Option ℕ) → IsOutside v u c → Among (node u (traversed n)) s.nodes → n ≡ Some c
  -- and from each traversed node as many references to it are noted as that node's object holds now (none, where it is no more)
  pub as_held : (u : Name) (c : ℕ) (w : Name) → IsOutside v u c → IsTraversedNode s w →
      count_by (between w u) s.references ≡ count_by (between w u) v.edges
  -- what a traversed node's object holds that is gray is noted
  pub gray_noted : (w y : Name) → IsTraversedNode s w → Among (w, y) v.edges → Among y v.gray → Among (w, y) s.references
  -- each native that holds a gray object is a node
  pub gray_held : (i : ℕ) (y : Name) → Among (native i, y) v.edges → Among y v.gray → IsNode s (native i)
  -- each joint that gives a gray object has a mapping: an entry with a gray value, and one whose key is a gray proxy
  pub gray_value : (e : Joint) → Among e v.joints → Among e.value v.gray → (m : Mapping) × Among m s.mappings × IsMappingOf v e m
  -- no black script object has a gray one in a slot or as its delegate; script registers hold black ones; none is white
  pub colours : HasColourInvariant v
  -- members of references and mappings and all candidates are nodes
  pub from_node : (x y : Name) → Among (x, y) s.references → IsNode s x
  pub to_node : (x y : Name) → Among (x, y) s.references → IsNode s y
  pub members : (m : Mapping) → Among m s.mappings → HasNodes s m
  -- a mapping makes script objects black, and no natives
  pub values : (m : Mapping) → Among m s.mappings → IsTrue (is_script m.value)
  pub candidates : (k : ℕ) → Among k s.candidates → IsNode s (native k)
  -- names of nodes are distinct; native nodes were made, script nodes are in the heaps; the traversed and gone ones stand first
  pub distinct : (x : Name) → count_by (same_name x) (node_names s) ≤ 1
  pub native_nodes : (i : ℕ) → IsNode s (native i) → (1 ≤ i) × (i ≤ made)
  pub script_nodes : (x : Name) → IsNode s x → IsTrue (is_script x) → IsScriptThere v x
  pub in_order : IsTrue (done_first s.nodes)
  -- an untraversed or gone node has no noted reference from it
  pub nothing_from_untraversed : (x y : Name) → Among (node x untraversed) s.nodes → ¬ (Among (x, y) s.references)
  pub nothing_from_gone : (x y : Name) → Among (node x gone) s.nodes → ¬ (Among (x, y) s.references)
  -- a gone node is a native that was made and is no more
  pub gone_is_dead : (x : Name) → Among (node x gone) s.nodes → (i : ℕ) × (x ≡ native i) × (1 ≤ i) × (i ≤ made) × (¬ (IsLiving v x))

-- no node is left to traverse
abbrev pub IsTraversed : Snapshot → Type 0
IsTraversed s = (x : Name) → ¬ (Among (node x untraversed) s.nodes)
