-- A collection ends: each unit traverses a node, and each node that it adds is what an edge leads to that led to none before.
use Rattle.std.proofs.Common.{◌≡◌, ◌≢◌, ℕ, zero, suc, ◌+◌, ◌<◌, ◌≤◌, Bool, true, false, not, ◌&&◌, List, [], ◌∷◌, ◌++◌, length, map, Option, Some, None, refl, sym, ◌∙◌, ap, subst, inl, inr, arith, count_by, le_trans, ◌==◌}
use Rattle.std.specs.Bool.{⊤}
use Rattle.std.specs.List.{filter, flat_map}
use Rattle.std.specs.Option.{option_map}
use Rattle.std.proofs.lemmas.Bool.{not-true, false≢true}
use Rattle.std.proofs.lemmas.List.{length-map, map_push}
use Rattle.std.proofs.lemmas.List.Sums.{count_by-le-length}
use Rattle.cc_lists.specs.Members.{Among, has}
use Rattle.cc_lists.proofs.Members.{Among-map, Among-map_cases, Among-filtered, Among-left, Among-right, Among-flat_map, has-there}
use Rattle.cc_lists.proofs.Counting.{count_by-cons, count_by-append}
use Rattle.cc_names.specs.declared.name.Name.{Name}
use Rattle.cc_names.specs.declared.name.Name.TheVariants.{Native, Script, Reflector}
use Rattle.cc_names.specs.Names.{object, reflector, same_name}
use Rattle.cc_names.proofs.NameTests.{same_name-exact}
use Rattle.cc_model.specs.declared.item.Event.{Event}
use Rattle.cc_model.specs.Heap.{Heap, HeapNative, HeapScript, native_at, script_at}
use Rattle.cc_model.specs.Slots.{contents}
use Rattle.cc_model.specs.Places.{places_of_native, places_of_script}
use Rattle.cc_model.specs.View.{view, native_edges, script_edges}
use Rattle.cc_model.specs.Snapshot.{NodeState, gone, traversed, Node, Snapshot}
use Rattle.cc_model.specs.Units.{first_names, new_node, begun, is_untraversed, first_untraversed, edges_in, is_noted, to_note, sample, with_state, with_node, with_nodes, after_node}
use Rattle.cc_model.specs.End.{Progress, went_on, at_end, refused, UnitDone, may_be_refused, abandoned, node_or_end, granted, unit}
use Rattle.cc_model.specs.Collecting.{Machine, UnitsDone, no_units, next_answer, one_unit, units_done, nodes_so_far, enough_units, to_the_end}
use Rattle.cc_model.proofs.Places.{targets, targets-native, targets-script}
use Rattle.cc_lists.proofs.Filtering.{find-among, count_by-wider, has-left}

-- What is left to traverse

-- the names of the nodes
abbrev pub names_of : List Node → List Name
names_of ns = map (λ n. n.name) ns

-- whether a node is untraversed
abbrev pub is_open : Node → Bool
is_open n = is_untraversed n.state

-- whether an edge leads to none of the names
abbrev pub leads_out : List Name → Name × Name → Bool
leads_out names e = not (has same_name names e.1)

-- how many nodes can still be traversed: the untraversed ones, and one for each edge that leads to no node
abbrev pub left_to_traverse : List (Name × Name) → List Node → ℕ
left_to_traverse edges ns = count_by is_open ns + count_by (leads_out (names_of ns)) edges

-- a node that gets a state keeps its name
pub names-with_state : (state : NodeState) (ns : List Node) → names_of (with_state state ns) ≡ names_of ns
names-with_state state [] = refl
names-with_state state (n ∷ ns) = go (names-with_state state ns) (is_untraversed n.state)
  where
    by_test : Bool → List Node
    by_test true = record n { state = state } ∷ ns
    by_test false = n ∷ with_state state ns

    go : names_of (with_state state ns) ≡ names_of ns → (b : Bool) → names_of (by_test b) ≡ n.name ∷ names_of ns
    go ih true = refl
    go ih false = ap (λ l. n.name ∷ l) ih

-- the first untraversed node traversed leaves one untraversed node less
open-with_state : (state : NodeState) → is_untraversed state ≡ false → (ns : List Node) (x : Name) → first_untraversed ns ≡ Some x →
    suc (count_by is_open (with_state state ns)) ≡ count_by is_open ns
open-with_state state closed [] x e = absurd (cc)
open-with_state state closed (n ∷ ns) x e = go (open-with_state state closed ns x) (is_untraversed n.state) refl e
  where
    by_test : Bool → List Node
    by_test true = record n { state = state } ∷ ns
    by_test false = n ∷ with_state state ns

    first : Bool → Option Name
    first true = Some n.name
    first false = first_untraversed ns

    go : (first_untraversed ns ≡ Some x → suc (count_by is_open (with_state state ns)) ≡ count_by is_open ns) →
        (b : Bool) → is_untraversed n.state ≡ b → first b ≡ Some x → suc (count_by is_open (by_test b)) ≡ count_by is_open (n ∷ ns)
    go ih true k f = rw (count_by-cons is_open (record n { state = state }) ns, count_by-cons is_open n ns, closed, k) (omega arith)
    go ih false k f =
        let rest : suc (count_by is_open (with_state state ns)) ≡ count_by is_open ns = ih f in
        rw (count_by-cons is_open n (with_state state ns), count_by-cons is_open n ns, k) (omega arith)

-- a node traversed leaves one less to traverse
left-with_state : (edges : List (Name × Name)) (state : NodeState) → is_untraversed state ≡ false → (ns : List Node) (x : Name) →
    first_untraversed ns ≡ Some x → suc (left_to_traverse edges (with_state state ns)) ≡ left_to_traverse edges ns
left-with_state edges state closed ns x e =
    rw (names-with_state state ns) (omega (arith, open-with_state state closed ns x e))

-- an edge that leads to none of more names leads to none of fewer
leads_out-fewer : (xs ys : List Name) (e : Name × Name) → leads_out (xs ++ ys) e ≡ true → leads_out xs e ≡ true
leads_out-fewer xs ys e h = go (has same_name xs e.1) refl
  where
    go : (b : Bool) → has same_name xs e.1 ≡ b → not b ≡ true
    go false k = refl
    go true k = absurd (false≢true (sym (not-true (has same_name (xs ++ ys) e.1) h) ∙ has-left same_name same_name-exact xs ys e.1 k))

-- a node added, to which an edge leads, leaves no more to traverse
left-with_node : (edges : List (Name × Name)) (ns : List Node) (y : Name) → Among y (targets edges) →
    left_to_traverse edges (with_node ns y) ≤ left_to_traverse edges ns
left-with_node edges ns y m = go (has same_name (names_of ns) y) refl
  where
    by_test : Bool → List Node
    by_test true = ns
    by_test false = ns ++ new_node y ∷ []

    go : (b : Bool) → has same_name (names_of ns) y ≡ b → left_to_traverse edges (by_test b) ≤ left_to_traverse edges ns
    go true k = omega arith
    go false k =
        let found = Among-map_cases (λ (e : Name × Name). e.1) edges y m in
        let out : leads_out (names_of ns) found.0 ≡ true = subst (λ z. not (has same_name (names_of ns) z) ≡ true) (sym found.2) (ap not k) in
        let there : has same_name (names_of ns ++ y ∷ []) y ≡ true =
        has-there same_name same_name-exact (names_of ns ++ y ∷ []) y (Among-right y (names_of ns) (y ∷ []) (inl refl)) in
        let inside : leads_out (names_of ns ++ y ∷ []) found.0 ≡ false =
        subst (λ z. not (has same_name (names_of ns ++ y ∷ []) z) ≡ false) (sym found.2) (ap not there) in
        let fewer : count_by (leads_out (names_of ns ++ y ∷ [])) edges < count_by (leads_out (names_of ns)) edges =
        count_by-wider (leads_out (names_of ns ++ y ∷ [])) (leads_out (names_of ns)) edges found.0 (leads_out-fewer (names_of ns) (y ∷ [])) found.1 inside out in
        let more : count_by is_open (ns ++ new_node y ∷ []) ≡ count_by is_open ns + 1 = count_by-append is_open ns (new_node y ∷ []) in
        rw (map_push (λ (n : Node). n.name) ns (new_node y), more) (omega arith)

-- several nodes added, to each of which an edge leads, leave no more to traverse
left-with_nodes : (edges : List (Name × Name)) (ns : List Node) (ys : List Name) → ((y : Name) → Among y ys → Among y (targets edges)) →
    left_to_traverse edges (with_nodes ns ys) ≤ left_to_traverse edges ns
left-with_nodes edges ns [] h = omega arith
left-with_nodes edges ns (y ∷ ys) h = omega (
  arith,
  left-with_nodes edges (with_node ns y) ys (λ z m. h z (inr m)),
  left-with_node edges ns y (h y (inl refl)),
)

-- The unit of a node

-- what a native that is there refers to is what edges of the heaps lead to
from-native : (h : Heap) (k : ℕ) (n : HeapNative) → native_at h k ≡ Some n → (y : Name) → Among y (contents (places_of_native n)) → Among y (targets (view h).edges)
from-native h k n e y m =
    let there : Among n h.natives = find-among (λ n. n.number == k) h.natives n e in
    let found = Among-map_cases (λ (e : Name × Name). e.1) (native_edges n) y (subst (Among y) (sym (targets-native n)) m) in
    let edge : Among found.0 (view h).edges = Among-left found.0 (flat_map native_edges h.natives) (flat_map script_edges h.scripts)
    (Among-flat_map native_edges n found.0 h.natives there found.1) in
    subst (λ z. Among z (targets (view h).edges)) found.2 (Among-map (λ (e : Name × Name). e.1) found.0 (view h).edges edge)

-- what a script object that is there refers to is what edges of the heaps lead to
from-script : (h : Heap) (x : Name) (o : HeapScript) → script_at h x ≡ Some o → (y : Name) → Among y (contents (places_of_script o)) → Among y (targets (view h).edges)
from-script h x o e y m =
    let there : Among o h.scripts = find-among (λ o. same_name o.name x) h.scripts o e in
    let found = Among-map_cases (λ (e : Name × Name). e.1) (script_edges o) y (subst (Among y) (sym (targets-script o)) m) in
    let edge : Among found.0 (view h).edges = Among-right found.0 (flat_map native_edges h.natives) (flat_map script_edges h.scripts)
    (Among-flat_map script_edges o found.0 h.scripts there found.1) in
    subst (λ z. Among z (targets (view h).edges)) found.2 (Among-map (λ (e : Name × Name). e.1) found.0 (view h).edges edge)

-- an edge of the heaps leads to each of the names
abbrev LeadTo : Heap → Option (List Name) → Type 0
LeadTo h None = ⊤
LeadTo h (Some ys) = (y : Name) → Among y ys → Among y (targets (view h).edges)

-- what any object refers to is what edges of the heaps lead to
edges_in-lead : (h : Heap) (x : Name) → LeadTo h (edges_in h x)
edges_in-lead h (Native k) = go (native_at h k.0) refl
  where
    go : (o : Option HeapNative) → native_at h k.0 ≡ o → LeadTo h (option_map contents (option_map places_of_native o))
    go None e = tt
    go (Some n) e = from-native h k.0 n e
edges_in-lead h (Script k) = go (script_at h (object k.0)) refl
  where
    go : (o : Option HeapScript) → script_at h (object k.0) ≡ o → LeadTo h (option_map contents (option_map places_of_script o))
    go None e = tt
    go (Some o) e = from-script h (object k.0) o e
edges_in-lead h (Reflector k) = go (script_at h (reflector k.0)) refl
  where
    go : (o : Option HeapScript) → script_at h (reflector k.0) ≡ o → LeadTo h (option_map contents (option_map places_of_script o))
    go None e = tt
    go (Some o) e = from-script h (reflector k.0) o e

-- what the unit of a node notes is what edges of the heaps lead to
to_note-lead : (h : Heap) (x : Name) → LeadTo h (to_note h x)
to_note-lead h x = go (edges_in h x) (edges_in-lead h x)
  where
    go : (o : Option (List Name)) → LeadTo h o → LeadTo h (option_map (filter (is_noted h)) o)
    go None l = tt
    go (Some ys) l = λ y m. l y (Among-filtered (is_noted h) y ys m)

-- The unit of a node leaves less to traverse.
pub left-after_node : (h : Heap) (s : Snapshot) (x : Name) → first_untraversed s.nodes ≡ Some x →
    left_to_traverse (view h).edges (after_node h s x (to_note h x)).nodes < left_to_traverse (view h).edges s.nodes
left-after_node h s x e = go (to_note h x) (to_note-lead h x)
  where
    go : (o : Option (List Name)) → LeadTo h o →
        left_to_traverse (view h).edges (after_node h s x o).nodes < left_to_traverse (view h).edges s.nodes
    go None l = omega (arith, left-with_state (view h).edges gone refl s.nodes x e)
    go (Some ys) l =
        let state : NodeState = traversed (sample h x) in
        omega (
          arith,
          left-with_nodes (view h).edges (with_state state s.nodes) ys l,
          left-with_state (view h).edges state refl s.nodes x e,
        )

-- what is left to traverse is at most the nodes and the edges
left-le : (edges : List (Name × Name)) (ns : List Node) → left_to_traverse edges ns ≤ length ns + length edges
left-le edges ns = omega (arith, count_by-le-length is_open ns, count_by-le-length (leads_out (names_of ns)) edges)

-- Units one after the other

-- how many units a collection still takes: its begin where none runs, one for each node left, and the end
abbrev pub units_left : Heap → Option Snapshot → ℕ
units_left h None = left_to_traverse (view h).edges (begun h).nodes + 2
units_left h (Some s) = left_to_traverse (view h).edges s.nodes + 1

-- how many are due: none where the last unit ended the collection or was refused
abbrev pub units_due : Progress → Heap → Option Snapshot → ℕ
units_due went_on h s = units_left h s
units_due at_end h s = 0
units_due refused h s = 0

-- how many units are due after a unit
abbrev pub due_after : UnitDone → ℕ
due_after u = units_due u.progress u.heap u.snapshot

-- how many units are due after several units
abbrev pub due : UnitsDone → ℕ
due d = units_due d.progress d.machine.heap d.machine.snapshot

-- a unit that has its memory leaves fewer to do
due-granted : (h : Heap) (s : Option Snapshot) → due_after (granted h s) < units_left h s
due-granted h None = omega arith
due-granted h (Some s) = go (first_untraversed s.nodes) refl
  where
    go : (o : Option Name) → first_untraversed s.nodes ≡ o → due_after (node_or_end h s o) < units_left h (Some s)
    go None e = omega arith
    go (Some x) e = omega (arith, left-after_node h s x e)

-- a collection takes at least one unit
units_left-some : (h : Heap) (s : Option Snapshot) → 0 < units_left h s
units_left-some h None = omega arith
units_left-some h (Some s) = omega arith

-- A unit leaves fewer to do.
pub due-unit : (h : Heap) (s : Option Snapshot) (memory : Bool) → due_after (unit h s memory) < units_left h s
unfolding unit
due-unit h s memory = go (may_be_refused h s && not memory)
  where
    by_test : Bool → UnitDone
    by_test true = abandoned h s
    by_test false = granted h s

    go : (b : Bool) → due_after (by_test b) < units_left h s
    go true = units_left-some h s
    go false = due-granted h s

-- one unit after others leaves fewer to do
due-one_unit : (m : Machine) (events : List Event) → due (one_unit m events) < units_left m.heap m.snapshot
due-one_unit m events = due-unit m.heap m.snapshot (next_answer m.memory)

-- a unit and n more, by what the last unit came to
abbrev units_by : ℕ → UnitsDone → Progress → UnitsDone
units_by n d went_on = units_done n (one_unit d.machine d.events)
units_by n d at_end = d
units_by n d refused = d

-- as many units as are left bring a collection to its end
pub units_done-stops : (n : ℕ) (d : UnitsDone) → due d ≤ n → (units_done n d).progress ≢ went_on
unfolding units_done
units_done-stops zero d enough = λ running.
    let none : units_left d.machine.heap d.machine.snapshot ≤ 0 = subst (λ p. units_due p d.machine.heap d.machine.snapshot ≤ 0) running enough in
    absurd (omega (arith, units_left-some d.machine.heap d.machine.snapshot))
units_done-stops (suc n) d enough = go (units_done-stops n) d.progress refl
  where
    go : ((e : UnitsDone) → due e ≤ n → (units_done n e).progress ≢ went_on) → (p : Progress) → d.progress ≡ p → (units_by n d p).progress ≢ went_on
    go ih went_on e =
        let left : units_left d.machine.heap d.machine.snapshot ≤ suc n = subst (λ p. units_due p d.machine.heap d.machine.snapshot ≤ suc n) e enough in
        ih (one_unit d.machine d.events) (omega (arith, due-one_unit d.machine d.events))
    go ih at_end e = λ f. absurd (cc)
    go ih refused e = λ f. absurd (cc)

-- once a collection has ended, more units change nothing
pub units_done-done : (n : ℕ) (d : UnitsDone) → d.progress ≢ went_on → units_done n d ≡ d
unfolding units_done
units_done-done zero d stopped = refl
units_done-done (suc n) d stopped = go d.progress refl
  where
    go : (p : Progress) → d.progress ≡ p → units_by n d p ≡ d
    go went_on e = absurd (stopped e)
    go at_end e = refl
    go refused e = refl

-- Any two numbers of units that are enough do the same.
pub units_done-enough : (n m : ℕ) (d : UnitsDone) → due d ≤ n → due d ≤ m → units_done n d ≡ units_done m d
unfolding units_done
units_done-enough zero m d enough other = sym (units_done-done m d (units_done-stops zero d enough))
units_done-enough (suc n) zero d enough other = units_done-done (suc n) d (units_done-stops zero d other)
units_done-enough (suc n) (suc m) d enough other = go (units_done-enough n m) d.progress refl
  where
    go : ((e : UnitsDone) → due e ≤ n → due e ≤ m → units_done n e ≡ units_done m e) → (p : Progress) → d.progress ≡ p → units_by n d p ≡ units_by m d p
    go ih went_on e =
        let first : units_left d.machine.heap d.machine.snapshot ≤ suc n = subst (λ p. units_due p d.machine.heap d.machine.snapshot ≤ suc n) e enough in
        let second : units_left d.machine.heap d.machine.snapshot ≤ suc m = subst (λ p. units_due p d.machine.heap d.machine.snapshot ≤ suc m) e other in
        let less : due (one_unit d.machine d.events) < units_left d.machine.heap d.machine.snapshot = due-one_unit d.machine d.events in
        ih (one_unit d.machine d.events) (omega arith) (omega arith)
    go ih at_end e = refl
    go ih refused e = refl

-- the units that a collection is given are enough
pub due-enough_units : (m : Machine) → due (no_units m) ≤ enough_units m
due-enough_units m = go m.snapshot
  where
    go : (s : Option Snapshot) → units_left m.heap s ≤ nodes_so_far m.heap s + length (view m.heap).edges + 2
    go None = omega (arith, left-le (view m.heap).edges (begun m.heap).nodes, length-map (first_names m.heap) new_node)
    go (Some s) = omega (arith, left-le (view m.heap).edges s.nodes)

-- A collection is done within the units that it is given.
pub to_the_end-stops : (m : Machine) → (to_the_end (no_units m)).progress ≢ went_on
to_the_end-stops m = units_done-stops (enough_units m) (no_units m) (due-enough_units m)

-- More units than it is given change nothing.
pub units_done-to_the_end : (n : ℕ) (m : Machine) → enough_units m ≤ n → units_done n (no_units m) ≡ to_the_end (no_units m)
units_done-to_the_end n m enough =
    let small : due (no_units m) ≤ enough_units m = due-enough_units m in
    units_done-enough n (enough_units m) (no_units m) (le_trans small enough) small
