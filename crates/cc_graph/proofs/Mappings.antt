-- The chains of mappings: one more mapping goes last in those of its map and of its key.
use Rattle.std.proofs.Common.{◌≡◌, ◌≢◌, ℕ, ◌+◌, ◌<◌, ◌≤◌, zero, suc, Bool, true, false, List, [], ◌∷◌, ◌++◌, length, get_or, refl, sym, ◌∙◌, ap, subst, inl, inr, ◌⊎◌, ⊎_elim, arith, Some, None, option_map}
use Rattle.std.specs.Prelude.{Option, IfSome, slice_get}
use Rattle.std.proofs.Math.ListN.{set}
use Rattle.std.proofs.lemmas.Bool.{true≢false, eqb-true, eq-eqb, ne_eqb, or_cases, cases_lt}
use Rattle.std.proofs.lemmas.List.{length-map, length-set, length_push, map_push, get_or-map, get_or-set_same}
use Rattle.std.proofs.lemmas.Option.{slice_get-get_or, slice_get_cases, slice_get_within, same_Some}
use Rattle.cc_lists.specs.Members.{Among}
use Rattle.cc_lists.proofs.Members.{Among-map}
use Rattle.cc_graph.specs.declared.chain.Chain.{Chain}
use Rattle.cc_graph.specs.declared.mapping.Mapping.{Mapping}
use Rattle.cc_graph.specs.declared.node.Node.{Node}
use Rattle.cc_graph.specs.Shown.{Hyperedge, hyperedge, is_node, is_with, place_with}
use Rattle.cc_graph.specs.Closed.{AreHyperedgesWithin, IsHyperedgeWithin}
use Rattle.cc_graph.specs.Kept.{AreMappings, IsChain, IsLast, but_mappings, chain_of, chained, first_member, hyperedge_of, hyperedges, is_one, last_of, loose_with, next_with, no_chain, nodes_with, same_node, with_link, with_mapping, with_next_with}
use Rattle.cc_graph.proofs.Lists.{among-at}
use Rattle.cc_graph.proofs.Chains.{chain-linked, chain-new, chain-none, chain-other, chain-pushed, last-passes, last-within, length-with_link, passes-within, shown-with_link}

-- Nodes, or none

-- two nodes are the same, or they are not
same_node-cases : (n m : Option ℕ) → (n ≡ m) ⊎ (n ≢ m)
same_node-cases n m = grind (arith, eqb-true, true≢false, eq-eqb, same_Some)

same_node-true : (n m : Option ℕ) → same_node n m ≡ true → n ≡ m
same_node-true n m e = grind (arith, true≢false, eqb-true)

-- a member that is a node
is_node-true : (o : Option ℕ) (i : ℕ) → is_node o i ≡ true → Some i ≡ o
is_node-true o i e = grind (arith, true≢false, eqb-true)

-- a node of a mapping that is not its map is its key
is_with-key : (n : Option ℕ) (m : Hyperedge) → is_with n m ≡ true → same_node m.the_map n ≡ false → n ≡ m.key
is_with-key n m w e = grind (arith, true≢false, is_node-true)

-- Links

-- a mapping keeps what is shown of it
link-shown : (node : Option ℕ) (r : Mapping) (place : ℕ) → hyperedge_of (with_next_with node r place) ≡ hyperedge_of r
link-shown node r place = go (same_node r.the_map node)
  where
    go : (b : Bool) → hyperedge_of (elim b [ true ↦ record r { next_of_map = Some place } | false ↦ record r { next_of_key = Some place } ]) ≡ hyperedge_of r
    go true = refl
    go false = refl

-- has the next one with the node that it is linked for,
link-next : (node : Option ℕ) (r : Mapping) (place : ℕ) → next_with node (with_next_with node r place) ≡ Some place
link-next node r place = go (same_node r.the_map node) refl
  where
    go : (b : Bool) → same_node r.the_map node ≡ b → next_with node (elim b [ true ↦ record r { next_of_map = Some place } | false ↦ record r { next_of_key = Some place } ]) ≡ Some place
    go true e = rw (next_with, e) refl
    go false e = rw (next_with, e) refl

-- and keeps the next one with its other node
link-other : (node other : Option ℕ) (r : Mapping) (place : ℕ) → other ≢ node → is_with node (hyperedge_of r) ≡ true → is_with other (hyperedge_of r) ≡ true →
    next_with other (with_next_with node r place) ≡ next_with other r
link-other node other r place apart w v = go (same_node r.the_map node) refl (same_node r.the_map other) refl
  where
    go : (b : Bool) → same_node r.the_map node ≡ b → (c : Bool) → same_node r.the_map other ≡ c →
        next_with other (elim b [ true ↦ record r { next_of_map = Some place } | false ↦ record r { next_of_key = Some place } ]) ≡ next_with other r
    go true e true f = absurd (apart (sym (same_node-true r.the_map other f) ∙ same_node-true r.the_map node e))
    go true e false f = rw (next_with, f) refl
    go false e true f = rw (next_with, f) refl
    go false e false f = absurd (apart (is_with-key other (hyperedge_of r) v f ∙ sym (is_with-key node (hyperedge_of r) w e)))

-- as many are shown as there are
pub length-hyperedges : (ms : List Mapping) → length (hyperedges ms) ≡ length ms
length-hyperedges ms = length-map ms hyperedge_of

-- A mapping goes last in one more chain

pub mappings-chained : (f g : Option ℕ → Option Chain) (shown more : Option ℕ → List Hyperedge) (ms : List Mapping) (node : Option ℕ) (c : Chain) (m : Hyperedge) (place : ℕ) →
    AreMappings f shown ms → f node ≡ Some c → g node ≡ Some (chained c place) → ((n : Option ℕ) → n ≢ node → g n ≡ f n) →
    shown node ≡ hyperedges ms → more node ≡ hyperedges ms ++ m ∷ [] → ((n : Option ℕ) → n ≢ node → more n ≡ shown n) →
    is_with node m ≡ true → place ≡ length ms → AreMappings g more (with_link (with_next_with node) ms c.last place)
mappings-chained f g shown more ms node c m place h has gives kept all one others with count n d at = ⊎_elim
    (λ same.
    let new = chain-new hyperedge_of (is_with node) (next_with node) (with_next_with node) (link-shown node) ms c m place
    (subst (λ xs. IsChain hyperedge_of (is_with node) (next_with node) xs ms c) all (h node c has)) with count (link-next node) in
    let there : Some (chained c place) ≡ Some d = sym gives ∙ (ap g (sym same) ∙ at) in
    subst (λ z. IsChain hyperedge_of (is_with z) (next_with z) (more z) (with_link (with_next_with node) ms c.last place) d) (sym same)
    (subst (λ xs. IsChain hyperedge_of (is_with node) (next_with node) xs (with_link (with_next_with node) ms c.last place) d) (sym one)
    (subst (IsChain hyperedge_of (is_with node) (next_with node) (hyperedges ms ++ m ∷ []) (with_link (with_next_with node) ms c.last place)) (same_Some _ _ there) new)))
    (λ apart.
    subst (λ xs. IsChain hyperedge_of (is_with n) (next_with n) xs (with_link (with_next_with node) ms c.last place) d) (sym (others n apart))
    (chain-linked hyperedge_of (is_with n) (next_with n) (with_next_with node) (link-shown node) (shown n) ms d c.last place (h n d (sym (kept n apart) ∙ at))
    (λ l r last there v. link-other node n r place apart (its l r last there) v)))
    (same_node-cases n node)
  where
    -- the last one of a node's chain has it
    its : (l : ℕ) (r : Mapping) → c.last ≡ Some l → slice_get ms l ≡ Some r → is_with node (hyperedge_of r) ≡ true
    its l r last there =
        let inside : l < length ms = slice_get_within ms l r there in
        let here : r ≡ get_or ms l r = same_Some _ _ (sym there ∙ slice_get-get_or ms l r inside) in
        let read : get_or (hyperedges ms) l (hyperedge_of r) ≡ hyperedge_of (get_or ms l r) = get_or-map hyperedge_of ms l r (hyperedge_of r) inside in
        ap (λ x. is_with node (hyperedge_of x)) here
        ∙ (ap (is_with node) (sym read)
        ∙ last-passes (is_with node) (hyperedges ms) l (hyperedge_of r)
        (subst (IsLast (is_with node) (hyperedges ms)) last (subst (λ xs. IsLast (is_with node) xs c.last) all (h node c has).last)))

-- The nodes of a mapping

pub first-with : (the_map key : Option ℕ) (value : ℕ) → is_with (first_member the_map key) (hyperedge the_map key value) ≡ true
first-with the_map key value = grind (arith, eq-eqb)

-- where there is no second, no other node is the map or the key
pub one-with : (the_map key : Option ℕ) (value : ℕ) → is_one the_map key ≡ true → (n : Option ℕ) → n ≢ first_member the_map key →
    is_with n (hyperedge the_map key value) ≡ false
one-with the_map key value one n apart = grind (arith, true≢false, is_node-true, or_cases, eqb-true)

-- where there is, it is the key
pub key-with : (the_map key : Option ℕ) (value : ℕ) → is_one the_map key ≡ false → (is_with key (hyperedge the_map key value) ≡ true) × (key ≢ first_member the_map key)
key-with the_map key value two = grind (arith, true≢false, eq-eqb, same_Some)

-- and no other node is the map or the key
pub two-with : (the_map key : Option ℕ) (value : ℕ) → is_one the_map key ≡ false → (n : Option ℕ) → n ≢ first_member the_map key → n ≢ key →
    is_with n (hyperedge the_map key value) ≡ false
two-with the_map key value two n apart other = grind (arith, true≢false, eqb-true)

-- What each chain is shown after it has the mapping

abbrev pub shown_to : Option ℕ → (Option ℕ → List Hyperedge) → List Hyperedge → Option ℕ → List Hyperedge
shown_to node shown all n = elim (same_node n node) [ true ↦ all | false ↦ shown n ]

pub shown-here : (node : Option ℕ) (shown : Option ℕ → List Hyperedge) (all : List Hyperedge) → shown_to node shown all node ≡ all
shown-here None shown all = refl
shown-here (Some i) shown all = rw (shown_to, eq-eqb i i refl) refl

pub shown-other : (node : Option ℕ) (shown : Option ℕ → List Hyperedge) (all : List Hyperedge) (n : Option ℕ) → n ≢ node → shown_to node shown all n ≡ shown n
shown-other node shown all n apart = go (same_node n node) refl
  where
    go : (b : Bool) → same_node n node ≡ b → elim b [ true ↦ all | false ↦ shown n ] ≡ shown n
    go true e = absurd (apart (same_node-true n node e))
    go false e = refl

-- where the others do not have it, all are shown it
pub shown-all : (f : Option ℕ → Option Chain) (shown : Option ℕ → List Hyperedge) (ms : List Mapping) (before : List Hyperedge) (m : Hyperedge) →
    AreMappings f shown ms → length ms ≤ length before →
    ((n : Option ℕ) → (shown n ≡ before ++ m ∷ []) ⊎ ((shown n ≡ before) × (is_with n m ≡ false))) → AreMappings f (λ n. before ++ m ∷ []) ms
shown-all f shown ms before m h few cases n c at = ⊎_elim
    (λ e. subst (λ xs. IsChain hyperedge_of (is_with n) (next_with n) xs ms c) e (h n c at))
    (λ o. chain-other hyperedge_of (is_with n) (next_with n) before ms c m (subst (λ xs. IsChain hyperedge_of (is_with n) (next_with n) xs ms c) o.0 (h n c at)) few o.1)
    (cases n)

-- Chains by node

-- one that a mapping was added to
pub chain-here : (ks : List Node) (loose : Chain) (node : Option ℕ) (c : Chain) (place : ℕ) → chain_of ks loose node ≡ Some c →
    chain_of (nodes_with ks node place) (loose_with loose node place) node ≡ Some (chained c place)
chain-here ks loose None c place e = ap (λ z. Some (chained z place)) (same_Some _ _ e)
chain-here ks loose (Some i) c place e = go (slice_get ks i) refl e
  where
    go : (o : Option Node) → slice_get ks i ≡ o → option_map (λ k. k.mappings) o ≡ Some c →
        option_map (λ k. k.mappings) (slice_get (elim o [ None ↦ ks | Some k ↦ set ks i (with_mapping k place) ]) i) ≡ Some (chained c place)
    go None q e = absurd (cc)
    go (Some k) q e =
        let inside : i < length ks = slice_get_within ks i k q in
        let here : k.mappings ≡ c = same_Some _ _ e in
        ap (option_map (λ k. k.mappings))
        (slice_get-get_or (set ks i (with_mapping k place)) i k (omega (arith, inside, length-set ks i (with_mapping k place)))
        ∙ ap Some (get_or-set_same ks i (with_mapping k place) k inside))
        ∙ ap (λ z. Some (chained z place)) here

-- and another
slice_get-set : {X : Type 0} (xs : List X) (i j : ℕ) (y : X) → j ≢ i → slice_get (set xs i y) j ≡ slice_get xs j
slice_get-set (x ∷ xs) (suc i) (suc j) y apart = slice_get-set xs i j y (λ s. apart (ap suc s))
slice_get-set xs i j y apart = grind (arith)

pub chain-apart : (ks : List Node) (loose : Chain) (node : Option ℕ) (place : ℕ) (n : Option ℕ) → n ≢ node →
    chain_of (nodes_with ks node place) (loose_with loose node place) n ≡ chain_of ks loose n
chain-apart ks loose None place None apart = absurd (apart refl)
chain-apart ks loose None place (Some j) apart = refl
chain-apart ks loose (Some i) place None apart = refl
chain-apart ks loose (Some i) place (Some j) apart = grind (arith, slice_get-set)

-- the last one of a right chain is one of those that there are
pub last-there : (f : Option ℕ → Option Chain) (shown : Option ℕ → List Hyperedge) (ms : List Mapping) (node : Option ℕ) → AreMappings f shown ms →
    shown node ≡ hyperedges ms → IfSome (last_of (f node)) (λ l. l < length ms)
last-there f shown ms node h all = go (f node) refl
  where
    within : (o : Option ℕ) → IfSome o (λ l. l < length (hyperedges ms)) → IfSome o (λ l. l < length ms)
    within None l = tt
    within (Some k) l = omega (arith, l, length-hyperedges ms)

    go : (o : Option Chain) → f node ≡ o → IfSome (last_of o) (λ l. l < length ms)
    go None e = tt
    go (Some c) e = within c.last (last-within (is_with node) (hyperedges ms) c.last (subst (λ xs. IsLast (is_with node) xs c.last) all (h node c e).last))

-- and one of a node of which no more than this changed
pub chain-set : (ks : List Node) (loose : Chain) (i : ℕ) (d y : Node) → i < length ks → y.mappings ≡ (get_or ks i d).mappings → (n : Option ℕ) →
    chain_of (set ks i y) loose n ≡ chain_of ks loose n
chain-set ks loose i d y inside same None = refl
chain-set ks loose i d y inside same (Some j) = ⊎_elim
    (λ e. subst (λ k. option_map (λ x. x.mappings) (slice_get (set ks i y) k) ≡ option_map (λ x. x.mappings) (slice_get ks k)) (same_Some _ _ e)
    (ap (option_map (λ x. x.mappings)) (slice_get-get_or (set ks i y) i d (omega (arith, inside, length-set ks i y)) ∙ ap Some (get_or-set_same ks i y d inside))
    ∙ (ap Some same ∙ sym (ap (option_map (λ x. x.mappings)) (slice_get-get_or ks i d inside)))))
    (λ apart. ap (option_map (λ x. x.mappings)) (slice_get-set ks i j y (λ s. apart (ap Some (sym s)))))
    (same_node-cases (Some i) (Some j))

-- chains that are the same are right together
pub mappings-same : (f g : Option ℕ → Option Chain) (shown : Option ℕ → List Hyperedge) (ms : List Mapping) → ((n : Option ℕ) → g n ≡ f n) →
    AreMappings f shown ms → AreMappings g shown ms
mappings-same f g shown ms same h n c at = h n c (sym (same n) ∙ at)

-- a node that is added has no mapping
pub mappings-added : (ks : List Node) (loose : Chain) (ms : List Mapping) (k : Node) → AreMappings (chain_of ks loose) (λ n. hyperedges ms) ms →
    k.mappings ≡ no_chain → AreHyperedgesWithin (length ks) (hyperedges ms) → AreMappings (chain_of (ks ++ k ∷ []) loose) (λ n. hyperedges ms) ms
mappings-added ks loose ms k h none within None c at = h None c at
mappings-added ks loose ms k h none within (Some i) c at = ⊎_elim
    (λ past. last past)
    (λ less. h (Some i) c (sym (ap (option_map (λ x. x.mappings)) (before ks i less)) ∙ at))
    (cases_last i (length ks))
  where
    cases_last : (i n : ℕ) → (n ≤ i) ⊎ (i < n)
    cases_last i n = go (cases_lt i n)
      where
        go : (i < n) ⊎ (n ≤ i) → (n ≤ i) ⊎ (i < n)
        go e = ⊎_elim (λ l. inr l) (λ r. inl r) e

    before : (xs : List Node) (j : ℕ) → j < length xs → slice_get (xs ++ k ∷ []) j ≡ slice_get xs j
    before [] j l = absurd (omega (arith, l))
    before (x ∷ xs) zero l = refl
    before (x ∷ xs) (suc j) l = before xs j (omega (arith, l))

    behind : (xs : List Node) (j : ℕ) → length xs < j → slice_get (xs ++ k ∷ []) j ≡ None
    behind [] zero l = absurd (omega (arith, l))
    behind [] (suc j) l = refl
    behind (x ∷ xs) zero l = absurd (omega (arith, l))
    behind (x ∷ xs) (suc j) l = behind xs j (omega (arith, l))

    here : (xs : List Node) → slice_get (xs ++ k ∷ []) (length xs) ≡ Some k
    here [] = refl
    here (x ∷ xs) = here xs

    apart : (o : Option ℕ) → IfSome o (λ j. j < length ks) → is_node o (length ks) ≡ false
    apart None l = refl
    apart (Some j) l = ne_eqb j (length ks) (λ s. absurd (omega (arith, l, s)))

    nowhere : (m : Hyperedge) → Among m (hyperedges ms) → is_with (Some (length ks)) m ≡ false
    nowhere m a = rw (apart m.the_map (within m a).the_map) (apart m.key (within m a).key)

    at_last : length ks ≡ i → IsChain hyperedge_of (is_with (Some i)) (next_with (Some i)) (hyperedges ms) ms c
    at_last e =
        let found : option_map (λ x. x.mappings) (slice_get (ks ++ k ∷ []) (length ks)) ≡ Some c = ap (λ j. option_map (λ x. x.mappings) (slice_get (ks ++ k ∷ []) j)) e ∙ at in
        let is : no_chain ≡ c = sym none ∙ same_Some _ _ (sym (ap (option_map (λ x. x.mappings)) (here ks)) ∙ found) in
        subst (λ j. IsChain hyperedge_of (is_with (Some j)) (next_with (Some j)) (hyperedges ms) ms c) e
        (subst (IsChain hyperedge_of (is_with (Some (length ks))) (next_with (Some (length ks))) (hyperedges ms) ms) is
        (chain-none hyperedge_of (is_with (Some (length ks))) (next_with (Some (length ks))) ms nowhere))

    last : length ks ≤ i → IsChain hyperedge_of (is_with (Some i)) (next_with (Some i)) (hyperedges ms) ms c
    last past = ⊎_elim
        (λ more. let none : None ≡ Some c = sym (ap (option_map (λ x. x.mappings)) (behind ks i more)) ∙ at in absurd (cc))
        (λ less. at_last (omega (arith, past, less)))
        (cases_lt (length ks) i)

-- a mapping comes that was shown already
pub mappings-pushed : (f : Option ℕ → Option Chain) (ms : List Mapping) (m : Hyperedge) (y : Mapping) (before : List Hyperedge) →
    AreMappings f (λ n. before ++ m ∷ []) ms → hyperedges ms ≡ before → hyperedge_of y ≡ m → y.next_of_map ≡ None → y.next_of_key ≡ None →
    AreMappings f (λ n. hyperedges (ms ++ y ∷ [])) (ms ++ y ∷ [])
mappings-pushed f ms m y before h same is no_map no_key n c at =
    let shown : hyperedges (ms ++ y ∷ []) ≡ before ++ m ∷ [] = map_push hyperedge_of ms y ∙ (ap (λ xs. xs ++ hyperedge_of y ∷ []) same ∙ ap (λ z. before ++ z ∷ []) is) in
    subst (λ xs. IsChain hyperedge_of (is_with n) (next_with n) xs (ms ++ y ∷ []) c) (sym shown)
    (chain-pushed hyperedge_of (is_with n) (next_with n) (before ++ m ∷ []) ms c y (h n c at)
    (omega (arith, length_push before m, ap length same, length-hyperedges ms)) (next (same_node y.the_map n)))
  where
    next : (b : Bool) → ◌≡◌ {A = Option ℕ} (elim b [ true ↦ y.next_of_map | false ↦ y.next_of_key ]) None
    next true = no_map
    next false = no_key

-- A mapping goes last in all its chains

chain-of-node : (ks : List Node) (loose : Chain) (node : Option ℕ) → IfSome node (λ i. i < length ks) → (c : Chain) × (chain_of ks loose node ≡ Some c)
chain-of-node ks loose None l = (loose, refl)
chain-of-node [] loose (Some i) l = absurd (omega (arith, l))
chain-of-node (k ∷ ks) loose (Some i) l = ((get_or (k ∷ ks) i k).mappings, ap (option_map (λ x. x.mappings)) (slice_get-get_or (k ∷ ks) i k l))

step-chained : (ks : List Node) (loose : Chain) (shown more : Option ℕ → List Hyperedge) (ms : List Mapping) (node : Option ℕ) (m : Hyperedge) (place : ℕ) →
    AreMappings (chain_of ks loose) shown ms → IfSome node (λ i. i < length ks) → shown node ≡ hyperedges ms → more node ≡ hyperedges ms ++ m ∷ [] →
    ((n : Option ℕ) → n ≢ node → more n ≡ shown n) → is_with node m ≡ true → place ≡ length ms →
    AreMappings (chain_of (nodes_with ks node place) (loose_with loose node place)) more (with_link (with_next_with node) ms (last_of (chain_of ks loose node)) place)
step-chained ks loose shown more ms node m place h inside all one others with count =
    let c = chain-of-node ks loose node inside in
    subst (λ o. AreMappings (chain_of (nodes_with ks node place) (loose_with loose node place)) more (with_link (with_next_with node) ms o place)) (sym (ap last_of c.1))
    (mappings-chained (chain_of ks loose) (chain_of (nodes_with ks node place) (loose_with loose node place)) shown more ms node c.0 m place h c.1
    (chain-here ks loose node c.0 place c.1) (λ n apart. chain-apart ks loose node place n apart) all one others with count)

pub length-nodes_with : (ks : List Node) (node : Option ℕ) (place : ℕ) → length (nodes_with ks node place) ≡ length ks
length-nodes_with ks None place = refl
length-nodes_with ks (Some i) place = grind (arith, length-set)

-- what is kept of nodes but for their mappings stays
pub but-nodes_with : (ks : List Node) (node : Option ℕ) (place : ℕ) → but_mappings (nodes_with ks node place) ≡ but_mappings ks
but-nodes_with ks None place = refl
but-nodes_with ks (Some i) place = over ks i
  where
    over : (xs : List Node) (i : ℕ) → but_mappings (elim (slice_get xs i) [ None ↦ xs | Some k ↦ set xs i (with_mapping k place) ]) ≡ but_mappings xs
    over [] i = refl
    over (x ∷ xs) zero = refl
    over (x ∷ xs) (suc i) = go (slice_get xs i) (over xs i)
      where
        go : (o : Option Node) → but_mappings (elim o [ None ↦ xs | Some k ↦ set xs i (with_mapping k place) ]) ≡ but_mappings xs →
            but_mappings (elim o [ None ↦ x ∷ xs | Some k ↦ x ∷ set xs i (with_mapping k place) ]) ≡ but_mappings (x ∷ xs)
        go None e = refl
        go (Some k) e = ap (λ ys. record x { mappings = no_chain } ∷ ys) e

-- and so do mappings as they are shown
pub hyperedges-linked : (ms : List Mapping) (node o : Option ℕ) (place : ℕ) → hyperedges (with_link (with_next_with node) ms o place) ≡ hyperedges ms
hyperedges-linked ms node o place = shown-with_link (with_next_with node) hyperedge_of (link-shown node) ms o place

module _ (ks : List Node) (loose : Chain) (ms : List Mapping) (the_map key : Option ℕ) (value place : ℕ)
    (h : AreMappings (chain_of ks loose) (λ n. hyperedges ms) ms) (map_inside : IfSome the_map (λ i. i < length ks)) (key_inside : IfSome key (λ i. i < length ks))
    (count : place ≡ length ms) where
  abbrev it : Hyperedge
  it = hyperedge the_map key value

  abbrev first : Option ℕ
  first = first_member the_map key

  abbrev nodes₁ : List Node
  nodes₁ = nodes_with ks first place

  abbrev loose₁ : Chain
  loose₁ = loose_with loose first place

  abbrev mappings₁ : List Mapping
  mappings₁ = with_link (with_next_with first) ms (last_of (chain_of ks loose first)) place

  abbrev shown₁ : Option ℕ → List Hyperedge
  shown₁ = shown_to first (λ n. hyperedges ms) (hyperedges ms ++ it ∷ [])

  inside₁ : IfSome first (λ i. i < length ks)
  inside₁ = grind (arith)

  -- in that of the first,
  chained₁ : AreMappings (chain_of nodes₁ loose₁) shown₁ mappings₁
  chained₁ = step-chained ks loose (λ n. hyperedges ms) shown₁ ms first it place h inside₁ refl (shown-here first (λ n. hyperedges ms) (hyperedges ms ++ it ∷ []))
      (shown-other first (λ n. hyperedges ms) (hyperedges ms ++ it ∷ [])) (first-with the_map key value) count

  few₁ : length mappings₁ ≡ length ms
  few₁ = length-with_link (with_next_with first) ms (last_of (chain_of ks loose first)) place

  same₁ : hyperedges mappings₁ ≡ hyperedges ms
  same₁ = hyperedges-linked ms first (last_of (chain_of ks loose first)) place

  -- which is all where there is no second,
  pub members-one : is_one the_map key ≡ true → AreMappings (chain_of nodes₁ loose₁) (λ n. hyperedges ms ++ it ∷ []) mappings₁
  members-one one = shown-all (chain_of nodes₁ loose₁) shown₁ mappings₁ (hyperedges ms) it chained₁ (omega (arith, few₁, length-hyperedges ms))
      (λ n. ⊎_elim
      (λ same. inl (ap shown₁ same ∙ shown-here first (λ n. hyperedges ms) (hyperedges ms ++ it ∷ [])))
      (λ apart. inr (shown-other first (λ n. hyperedges ms) (hyperedges ms ++ it ∷ []) n apart, one-with the_map key value one n apart))
      (same_node-cases n first))

  -- and in the key's
  module _ (two : is_one the_map key ≡ false) where
    abbrev shown₂ : Option ℕ → List Hyperedge
    shown₂ = shown_to key shown₁ (hyperedges ms ++ it ∷ [])

    key_apart : key ≢ first
    key_apart = (key-with the_map key value two).1

    unshown : shown₁ key ≡ hyperedges mappings₁
    unshown = shown-other first (λ n. hyperedges ms) (hyperedges ms ++ it ∷ []) key key_apart ∙ sym same₁

    inside₂ : IfSome key (λ i. i < length nodes₁)
    inside₂ = subst (λ n. IfSome key (λ i. i < n)) (sym (length-nodes_with ks first place)) key_inside

    pub second-there : IfSome (last_of (chain_of nodes₁ loose₁ key)) (λ l. l < length mappings₁)
    second-there = last-there (chain_of nodes₁ loose₁) shown₁ mappings₁ key chained₁ unshown

    pub members-two : AreMappings (chain_of (nodes_with nodes₁ key place) (loose_with loose₁ key place)) (λ n. hyperedges ms ++ it ∷ [])
        (with_link (with_next_with key) mappings₁ (last_of (chain_of nodes₁ loose₁ key)) place)
    members-two = shown-all (chain_of (nodes_with nodes₁ key place) (loose_with loose₁ key place)) shown₂
        (with_link (with_next_with key) mappings₁ (last_of (chain_of nodes₁ loose₁ key)) place) (hyperedges ms) it
        (step-chained nodes₁ loose₁ shown₁ shown₂ mappings₁ key it place chained₁ inside₂ unshown
        (shown-here key shown₁ (hyperedges ms ++ it ∷ []) ∙ ap (λ xs. xs ++ it ∷ []) (sym same₁))
        (shown-other key shown₁ (hyperedges ms ++ it ∷ [])) (key-with the_map key value two).0 (omega (arith, count, few₁)))
        (omega (arith, few₁, length-hyperedges ms, length-with_link (with_next_with key) mappings₁ (last_of (chain_of nodes₁ loose₁ key)) place))
        (λ n. ⊎_elim
        (λ same. inl (ap shown₂ same ∙ shown-here key shown₁ (hyperedges ms ++ it ∷ [])))
        (λ apart. others n apart)
        (same_node-cases n key))
      where
        others : (n : Option ℕ) → n ≢ key → (shown₂ n ≡ hyperedges ms ++ it ∷ []) ⊎ ((shown₂ n ≡ hyperedges ms) × (is_with n it ≡ false))
        others n apart = ⊎_elim
            (λ same. inl (shown-other key shown₁ (hyperedges ms ++ it ∷ []) n apart ∙ (ap shown₁ same ∙ shown-here first (λ n. hyperedges ms) (hyperedges ms ++ it ∷ []))))
            (λ other. inr (
              shown-other key shown₁ (hyperedges ms ++ it ∷ []) n apart ∙ shown-other first (λ n. hyperedges ms) (hyperedges ms ++ it ∷ []) n other,
              two-with the_map key value two n other apart,
            ))
            (same_node-cases n first)

-- The next one

-- a node that is the map or the key of a mapping has a chain, and none has
chain-there : (ks : List Node) (loose : Chain) (node : Option ℕ) (m : Hyperedge) → is_with node m ≡ true → IsHyperedgeWithin (length ks) m →
    (c : Chain) × (chain_of ks loose node ≡ Some c)
chain-there ks loose None m w within = (loose, refl)
chain-there ks loose (Some i) m w within = go (slice_get_cases ks i).1
  where
    member : (o : Option ℕ) → is_node o i ≡ true → IfSome o (λ j. j < length ks) → i < length ks
    member None e l = absurd (true≢false (sym e))
    member (Some j) e l = let same : j ≡ i = eqb-true j i e in omega (arith, l, same)

    inside : i < length ks
    inside = ⊎_elim (λ l. member m.the_map l within.the_map) (λ r. member m.key r within.key) (or_cases (is_node m.the_map i) (is_node m.key i) w)

    go : ((k : Node) × (i < length ks) × (slice_get ks i ≡ Some k) × (get_or ks i k ≡ k)) ⊎ ((length ks ≤ i) × (slice_get ks i ≡ None)) →
        (c : Chain) × (option_map (λ k. k.mappings) (slice_get ks i) ≡ Some c)
    go e = ⊎_elim (λ l. (l.0.mappings, ap (option_map (λ k. k.mappings)) l.2)) (λ r. let far : length ks ≤ i = r.0 in absurd (omega (arith, far, inside))) e

-- the next one with a node is where its chain leads
pub next-there : (ks : List Node) (loose : Chain) (ms : List Mapping) (node : Option ℕ) (place : ℕ) (m : Mapping) → AreMappings (chain_of ks loose) (λ n. hyperedges ms) ms →
    AreHyperedgesWithin (length ks) (hyperedges ms) → option_map (is_with node) (slice_get (hyperedges ms) place) ≡ Some true → m ≡ get_or ms place m →
    next_with node m ≡ place_with (hyperedges ms) node (place + 1)
next-there ks loose ms node place m h within member at =
    let inside : place < length ms = omega (arith, passes-within (is_with node) (hyperedges ms) place member, length-hyperedges ms) in
    let read : get_or (hyperedges ms) place (hyperedge_of m) ≡ hyperedge_of (get_or ms place m) = get_or-map hyperedge_of ms place m (hyperedge_of m) inside in
    let found : slice_get (hyperedges ms) place ≡ Some (hyperedge_of (get_or ms place m)) =
    slice_get-get_or (hyperedges ms) place (hyperedge_of m) (omega (arith, inside, length-hyperedges ms)) ∙ ap Some read in
    let passes : is_with node (hyperedge_of (get_or ms place m)) ≡ true = same_Some _ _ (sym (ap (option_map (is_with node)) found) ∙ member) in
    let there = chain-there ks loose node (hyperedge_of (get_or ms place m)) passes
    (within (hyperedge_of (get_or ms place m)) (Among-map hyperedge_of (get_or ms place m) ms (among-at ms place m inside))) in
    ap (next_with node) at ∙ (h node there.0 there.1).links place m inside passes
