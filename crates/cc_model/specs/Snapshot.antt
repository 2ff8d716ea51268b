-- THE SNAPSHOT of a running collection, what is black in it, and what is white.
use Rattle.std.specs.Prelude.{ℕ, Bool, true, false, not, ◌&&◌, ◌||◌, List, ◌++◌, map, filter, count_by, Option, Some, None, option_to_list, nat_lt}
use Rattle.cc_lists.specs.Members.{Among, has}
use Rattle.cc_lists.specs.Least.{Rule, Least, system, closure}
use Rattle.cc_names.specs.declared.name.Name.{Name}
use Rattle.cc_names.specs.Names.{native, same_name, is_native}
use Rattle.cc_model.specs.Heap.{Heap}
use Rattle.cc_model.specs.View.{View, view, to, is_there}

-- traversed, with the sampled count where it is a native
pub data NodeState : Type 0 where
  untraversed : NodeState
  gone : NodeState
  traversed : Option ℕ → NodeState

pub record Node : Type 0 where
  pub name : Name
  pub state : NodeState

-- of a joint that gives a gray object: its map and its key (or its delegate) where these were gray, and what it gives
pub record Mapping : Type 0 where
  pub the_map : Option Name
  pub key : Option Name
  pub value : Name

pub record Snapshot : Type 0 where
  -- numbers of natives
  pub candidates : List ℕ
  -- their names are distinct
  pub nodes : List Node
  -- the noted references, from and to, with repeats
  pub references : List (Name × Name)
  pub mappings : List Mapping

abbrev pub snapshot_by : List ℕ → List Node → List (Name × Name) → List Mapping → Snapshot
snapshot_by candidates nodes references mappings = record { candidates = candidates; nodes = nodes; references = references; mappings = mappings }

abbrev pub node_names : Snapshot → List Name
node_names s = map (λ n. n.name) s.nodes

-- a mapping as a rule: map and key, where they are there, together give the value
abbrev pub mapping_joint : Mapping → List Name × Name
mapping_joint m = (option_to_list m.the_map ++ option_to_list m.key, m.value)

-- how many noted references lead to a node
abbrev pub noted_to : Snapshot → Name → ℕ
noted_to s x = count_by (to x) s.references

-- whether more references were sampled than are noted
abbrev pub is_above : Snapshot → Name → NodeState → Bool
is_above s x untraversed = false
is_above s x gone = false
is_above s x (traversed None) = false
is_above s x (traversed (Some n)) = nat_lt (noted_to s x) n

-- whether a node is black by itself: a native in the buffer, a script object that is black now,
-- a native with more references than are noted
abbrev pub is_seed : View → Snapshot → Node → Bool
is_seed v s n = elim (is_native n.name) [
  | true ↦ has same_name v.buffer n.name || is_above s n.name n.state
  | false ↦ has same_name v.black n.name
]

abbrev pub seeds : View → Snapshot → List Name
seeds v s = map (λ n. n.name) (filter (is_seed v s) s.nodes)

-- BLACK IN THE SNAPSHOT: a set by rules, and the same as a list
abbrev pub black_in_rules : View → Snapshot → List (Rule Name)
black_in_rules v s = system (seeds v s) s.references (map mapping_joint s.mappings)

abbrev pub BlackIn : View → Snapshot → Name → Type 0
BlackIn v s = Least (black_in_rules v s)

abbrev pub black_in : View → Snapshot → List Name
black_in v s = closure same_name (black_in_rules v s)

-- WHITE IN THE SNAPSHOT: the nodes that are not black and whose object is there
abbrev pub is_white : View → List Name → Name → Bool
is_white v blacks x = is_there v x && not (has same_name blacks x)

abbrev pub white_names : View → Snapshot → List Name
white_names v s = filter (is_white v (black_in v s)) (node_names s)

abbrev pub IsWhite : View → Snapshot → Name → Type 0
IsWhite v s x = Among x (white_names v s)

-- the natives whose names are in a list, by rising number
abbrev pub natives_among : List Name → Heap → List ℕ
natives_among names h = map (λ n. n.number) (filter (λ n. has same_name names (native n.number)) h.natives)

-- the white natives, by rising number
unfoldable pub white_natives : Heap → Snapshot → List ℕ
white_natives h s = natives_among (white_names (view h) s) h
