-- How many mappings are looked at, for no node and for each of some nodes: no mapping more than twice.
use Rattle.std.proofs.Common.{◌≡◌, ℕ, ◌+◌, ◌*◌, ◌≤◌, ◌==◌, ◌&&◌, Bool, true, false, cond, List, [], ◌∷◌, ◌++◌, length, filter, Option, Some, None, refl, arith, count_by}
use Rattle.std.specs.Prelude.{◌||◌, is_none}
use Rattle.std.specs.List.{sum_by}
use Rattle.std.proofs.lemmas.List.Sums.{sum_by-cons, sum_by_push}
use Rattle.cc_lists.proofs.Counting.{count_by-cons}
use Rattle.cc_graph.specs.Shown.{Hyperedge, is_node, is_with}

-- how many are looked at for a node, and for none
abbrev pub looks_for : List Hyperedge → Option ℕ → ℕ
looks_for ms node = length (filter (is_with node) ms)

-- for none and for each of some nodes
abbrev pub looks : List ℕ → List Hyperedge → ℕ
looks ns ms = looks_for ms None + sum_by (λ i. looks_for ms (Some i)) ns

-- for one node more
pub looks-more : (ns : List ℕ) (i : ℕ) (ms : List Hyperedge) → looks (ns ++ i ∷ []) ms ≡ looks ns ms + looks_for ms (Some i)
looks-more ns i ms = let e = sum_by_push (λ k. looks_for ms (Some k)) ns i in omega (arith, e)

-- at one mapping more
looks_for-cons : (m : Hyperedge) (ms : List Hyperedge) (node : Option ℕ) → looks_for (m ∷ ms) node ≡ cond (is_with node m) 1 0 + looks_for ms node
looks_for-cons m ms node = go (is_with node m)
  where
    go : (b : Bool) → length {A = Hyperedge} (cond b (m ∷ filter (is_with node) ms) (filter (is_with node) ms)) ≡ cond b 1 0 + length (filter (is_with node) ms)
    go true = omega arith
    go false = omega arith

-- as often as some of the nodes are its map or key
abbrev member_count : Hyperedge → List ℕ → ℕ
member_count m ns = count_by (λ i. is_with (Some i) m) ns

sum-looks : (m : Hyperedge) (ms : List Hyperedge) (ns : List ℕ) → sum_by (λ i. looks_for (m ∷ ms) (Some i)) ns ≡ member_count m ns + sum_by (λ i. looks_for ms (Some i)) ns
sum-looks m ms [] = refl
sum-looks m ms (i ∷ ns) =
    let whole = sum_by-cons (λ k. looks_for (m ∷ ms) (Some k)) i ns in
    let part = sum_by-cons (λ k. looks_for ms (Some k)) i ns in
    let one = count_by-cons (λ k. is_with (Some k) m) i ns in
    omega (arith, whole, part, one, looks_for-cons m ms (Some i), sum-looks m ms ns)

-- each node that stands once is its map once at most, and its key
abbrev as_member : Option ℕ → List ℕ → ℕ
as_member o ns = count_by (λ i. is_node o i) ns

as_member-once : (o : Option ℕ) (ns : List ℕ) → ((k : ℕ) → count_by (λ j. k == j) ns ≤ 1) → as_member o ns + cond (is_none o) 1 0 ≤ 1
as_member-once (Some k) ns once = let few = once k in omega (arith, few)
as_member-once None ns once = let none = nowhere ns in omega (arith, none)
  where
    nowhere : (ns : List ℕ) → as_member None ns ≡ 0
    nowhere [] = refl
    nowhere (n ∷ ns) = let e = count_by-cons (λ i. is_node None i) n ns in omega (arith, e, nowhere ns)

member_count-parts : (m : Hyperedge) (ns : List ℕ) → member_count m ns ≤ as_member m.the_map ns + as_member m.key ns
member_count-parts m [] = omega arith
member_count-parts m (n ∷ ns) =
    let both = count_by-cons (λ i. is_with (Some i) m) n ns in
    let first = count_by-cons (λ i. is_node m.the_map i) n ns in
    let second = count_by-cons (λ i. is_node m.key i) n ns in
    let one = go (is_node m.the_map n) (is_node m.key n) in
    omega (arith, both, first, second, one, member_count-parts m ns)
  where
    go : (a b : Bool) → cond {A = ℕ} (a || b) 1 0 ≤ cond a 1 0 + cond b 1 0
    go true b = omega arith
    go false true = omega arith
    go false false = omega arith

member_count-few : (m : Hyperedge) (ns : List ℕ) → ((k : ℕ) → count_by (λ j. k == j) ns ≤ 1) → cond (is_with None m) 1 0 + member_count m ns ≤ 2
member_count-few m ns once =
    let first = as_member-once m.the_map ns once in
    let second = as_member-once m.key ns once in
    let none = go (is_none m.the_map) (is_none m.key) in
    omega (arith, first, second, none, member_count-parts m ns)
  where
    go : (a b : Bool) → cond {A = ℕ} (a && b) 1 0 ≤ cond a 1 0
    go true true = omega arith
    go true false = omega arith
    go false b = omega arith

-- so there are at most twice as many looks as mappings
pub looks-few : (ns : List ℕ) (ms : List Hyperedge) → ((k : ℕ) → count_by (λ j. k == j) ns ≤ 1) → looks ns ms ≤ 2 * length ms
looks-few ns [] once = let none = nowhere ns in omega (arith, none)
  where
    nowhere : (ns : List ℕ) → sum_by (λ i. looks_for [] (Some i)) ns ≡ 0
    nowhere [] = refl
    nowhere (n ∷ ns) = let e = sum_by-cons (λ i. looks_for [] (Some i)) n ns in omega (arith, e, nowhere ns)
looks-few ns (m ∷ ms) once = omega (arith, looks_for-cons m ms None, sum-looks m ms ns, member_count-few m ns once, looks-few ns ms once)
