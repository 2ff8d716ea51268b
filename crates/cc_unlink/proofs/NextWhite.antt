-- THE WHITE NATIVES ONE AFTER ANOTHER: a walk over the natives that are nodes, by rising number.
use Rattle.std.specs.Prelude.{IfNone, slice_get}
use Rattle.std.proofs.Common.{◌≡◌, ℕ, zero, suc, ◌+◌, ◌-◌, ◌<◌, ◌≤◌, ◌⊎◌, Bool, true, false, List, [], ◌∷◌, length, Option, Some, None, IfSome, option_map, not, refl, sym, ◌∙◌, ap, subst, inl, ⊎_elim, arith}
use Rattle.std.specs.List.{filter}
use Rattle.std.proofs.lemmas.Bool.{true≢false, cases_lt, lt-ltb, ltb-true}
use Rattle.std.proofs.lemmas.Bool.Decides.{eqb_tells}
use Rattle.cc_lists.specs.Members.{Among}
use Rattle.cc_lists.specs.Walks.{IsRising}
use Rattle.cc_lists.proofs.CountsOf.{false-left}
use Rattle.cc_lists.proofs.Filtering.{filter-nothing}
use Rattle.cc_lists.proofs.Members.{Among-filter, Among-filtered, Among-map, Among-map_cases, Among-passes}
use Rattle.cc_lists.proofs.Places.{place-among}
use Rattle.cc_lists.proofs.Rising.{IsRising-filter, IsRising-first}
use Rattle.cc_lists.proofs.Searching.{filter-map}
use Rattle.cc_names.specs.declared.number.NativeNo.{NativeNo}
use Rattle.cc_names.specs.declared.name.Name.{Name}
use Rattle.cc_names.specs.Names as names
use Rattle.cc_names.specs.Names.{native, same_name}
use Rattle.cc_names.proofs.NameTests.{same_name-true}
use Rattle.cc_model.specs.Heap.{Heap, HeapNative}
use Rattle.cc_model.specs.WellFormed.{native_names}
use Rattle.cc_graph.specs.Natives.{IsLast, IsNext, behind, from_behind}
use Rattle.cc_graph.specs.Shown.{Shown, Vertex, is_black, number_from, number_of}
use Rattle.cc_unlink.specs.Keys.{HasNodeKeys, HasOtherKey}
use Rattle.cc_unlink.specs.Whites.{whites_of, is_white_node, is_white_number, whites_above}
use Rattle.cc_heaps.specs.Keyed.{Keyed, IsInOrder, keyed_native, counts_of, number_at}
use Rattle.cc_heaps.specs.Holders.{native_numbers, is_above, first_of}
use Rattle.cc_heaps.proofs.Calls.{number-named}

-- white natives by the numbers that are there
pub whites_of-numbers : (g : Shown) (h : Heap) → whites_of g h ≡ filter (is_white_number g) (native_numbers h.natives)
whites_of-numbers g h = sym (filter-map (is_white_number g) (λ (n : HeapNative). n.number) h.natives)

-- Nodes

-- the number of a node is below how many there are
number_from-below : (i : ℕ) (vs : List Vertex) (x : Name) (j : ℕ) → number_from i vs x ≡ Some j → j < i + length vs
number_from-below i [] x j e = absurd (cc)
number_from-below i (v ∷ vs) x j e = go (number_from-below (suc i) vs x j) (same_name v.name x) e
  where
    go : (number_from (suc i) vs x ≡ Some j → j < suc i + length vs) → (b : Bool) →
        elim b [ true ↦ Some i | false ↦ number_from (suc i) vs x ] ≡ Some j → j < i + length (v ∷ vs)
    go ih true t = let same : i ≡ j = cc in omega arith
    go ih false t = omega (arith, ih t)

-- a node's number is that of a node of its name
pub record IsNodeOf (vs : List Vertex) (x : Name) (place : ℕ) : Type 0 where
  pub node : Vertex
  pub there : slice_get vs place ≡ Some node
  pub name : node.name ≡ x

number_from-node : (i : ℕ) (vs : List Vertex) (x : Name) (j : ℕ) → number_from i vs x ≡ Some j → (place : ℕ) × (i + place ≡ j) × IsNodeOf vs x place
number_from-node i [] x j e = absurd (cc)
number_from-node i (v ∷ vs) x j e = go (number_from-node (suc i) vs x j) (same_name v.name x) refl e
  where
    go : (number_from (suc i) vs x ≡ Some j → (place : ℕ) × (suc i + place ≡ j) × IsNodeOf vs x place) → (b : Bool) → same_name v.name x ≡ b →
        elim b [ true ↦ Some i | false ↦ number_from (suc i) vs x ] ≡ Some j → (place : ℕ) × (i + place ≡ j) × IsNodeOf (v ∷ vs) x place
    go ih true t e = let same : i ≡ j = cc in (zero, omega arith, record { node = v; there = refl; name = same_name-true v.name x t })
    go ih false t e = let f = ih e in (suc f.0, omega (arith, f.1), record { node = f.2.node; there = f.2.there; name = f.2.name })

pub number_of-node : (vs : List Vertex) (x : Name) (j : ℕ) → number_of vs x ≡ Some j → IsNodeOf vs x j
number_of-node vs x j e =
    let f = number_from-node 0 vs x j e in
    let place : f.0 ≡ j = omega (arith, f.1) in
    subst (IsNodeOf vs x) place f.2

-- Graphs of which every node is black

-- no native is white in such a one,
black-nodes : (g : Shown) → ((i : ℕ) → i < length g.nodes → is_black g i ≡ false → ⊥) → (k : ℕ) → is_white_number g k ≡ false
black-nodes g none k = node (number_of g.nodes (native k)) refl
  where
    black : (i : ℕ) → i < length g.nodes → (b : Bool) → is_black g i ≡ b → not b ≡ false
    black i inside true e = refl
    black i inside false e = absurd (none i inside e)

    node : (o : Option ℕ) → number_of g.nodes (native k) ≡ o → is_white_node g o ≡ false
    node None e = refl
    node (Some i) e =
        let below : i < 0 + length g.nodes = number_from-below 0 g.nodes (native k) i e in
        black i (omega (arith, below)) (is_black g i) refl

-- so a search ends with none
pub black-none : (g : Shown) (h : Heap) (at : Option ℕ) → ((i : ℕ) → i < length g.nodes → is_black g i ≡ false → ⊥) → None ≡ first_of (whites_above g h at)
black-none g h at none =
    ap (λ ws. first_of (filter (is_above at) ws))
    (sym (whites_of-numbers g h ∙ filter-nothing (is_white_number g) (native_numbers h.natives) (λ k m. black-nodes g none k)))

-- A WALK over the natives that are nodes, by rising number, for the first that is white

-- what is above a number is from the next on
pub above-behind : (at : Option ℕ) (j : ℕ) → is_above at j ≡ true → behind at ≤ j
above-behind None j e = omega arith
above-behind (Some k) j e = let l : k < j = ltb-true k j e in omega (arith, l)

pub behind-above : (at : Option ℕ) (j : ℕ) → behind at ≤ j → is_above at j ≡ true
behind-above None j l = refl
behind-above (Some k) j l = lt-ltb k j (omega (arith, l))

-- the least of rising numbers above another is the first of them,
first-least : (ks : List ℕ) → IsRising ks → (at : Option ℕ) (k : ℕ) → Among k ks → behind at ≤ k → ((j : ℕ) → Among j ks → behind at ≤ j → k ≤ j) →
    Some k ≡ first_of (filter (is_above at) ks)
first-least ks rising at k m from least =
    go (filter (is_above at) ks) (IsRising-filter (is_above at) ks rising) (Among-filter (is_above at) k ks m (behind-above at k from))
    (λ j n. least j (Among-filtered (is_above at) j ks n) (above-behind at j (Among-passes (is_above at) j ks n)))
  where
    go : (js : List ℕ) → IsRising js → Among k js → ((j : ℕ) → Among j js → k ≤ j) → Some k ≡ first_of js
    go [] r n all = absurd n
    go (j ∷ js) r n all = ⊎_elim
        (λ same. ap Some (sym same))
        (λ later. let above : j < k = IsRising-first j js r k later in let below : k ≤ j = all j (inl refl) in absurd (omega arith))
        n

-- and where none is above it there is no first
none-least : (ks : List ℕ) (at : Option ℕ) → ((j : ℕ) → Among j ks → behind at ≤ j → ⊥) → None ≡ first_of (filter (is_above at) ks)
none-least ks at none =
    ap first_of (sym (filter-nothing (is_above at) ks (λ j m. false-left (is_above at j) (λ e. none j m (above-behind at j e)))))

-- the natives from the next one on are those that are left
abbrev pub IsLeft : Option (NativeNo × ℕ) → ℕ → Type 0
IsLeft None j = ⊥
IsLeft (Some n) j = n.0.0 ≤ j

-- the next one is a node
abbrev pub IsNode : Shown → Option ℕ → NativeNo → ℕ → Type 0
IsNode g at n i = (number_of g.nodes (native n.0) ≡ Some i) × (behind at ≤ n.0) × (n.0 < 4294967296) × (i < length g.nodes)

-- between two steps: of the white natives above a number none was passed
pub record IsWalking (g : Shown) (h : Heap) (at : Option ℕ) (next : Option (NativeNo × ℕ)) : Type 0 where
  pub left : (j : ℕ) → Among j (whites_of g h) → behind at ≤ j → IsLeft next j
  pub node : IfSome next (λ n. IsNode g at n.0 n.1)

-- a white native is a node that is not black, and is there
white-parts : (g : Shown) (h : Heap) (j : ℕ) → Among j (whites_of g h) → Among j (native_numbers h.natives) × (is_white_number g j ≡ true)
white-parts g h j m =
    let n : Among j (filter (is_white_number g) (native_numbers h.natives)) = subst (λ ks. Among j ks) (whites_of-numbers g h) m in
    (Among-filtered (is_white_number g) j (native_numbers h.natives) n, Among-passes (is_white_number g) j (native_numbers h.natives) n)

-- what is no node is not white
white-node : (g : Shown) (h : Heap) (j : ℕ) → Among j (whites_of g h) → number_of g.nodes (native j) ≡ None → ⊥
white-node g h j m none = true≢false (sym (white-parts g h j m).1 ∙ ap (is_white_node g) none)

-- a native that is there has its number among the natives', and a key
named-number : (h : Heap) (k : ℕ) → Among (native k) (native_names h) → Among k (native_numbers h.natives)
named-number h k m =
    let f = Among-map_cases (λ (n : HeapNative). native n.number) h.natives (native k) m in
    let same : f.0.number ≡ k = ap names.number_of f.2 in
    subst (λ j. Among j (native_numbers h.natives)) same (Among-map (λ (n : HeapNative). n.number) f.0 h.natives f.1)

number-keyed : (v : Keyed) (owned : List ℕ) → IsInOrder owned v → (k : ℕ) → Among k (native_numbers v.heap.natives) → (key : ℕ) × (number_at v key ≡ Some k)
number-keyed v owned order k m =
    let f = Among-map_cases (λ (n : HeapNative). n.number) v.heap.natives k m in
    let key = order.keyed.key_of (keyed_native v.scripts f.0) (Among-map (keyed_native v.scripts) f.0 v.heap.natives f.1) in
    (key.0, key.1 ∙ ap Some f.2)

-- a walk over numbers of 32 bits ends: so many are left of it
abbrev pub count_left : Option (NativeNo × ℕ) → ℕ
count_left None = 0
count_left (Some n) = 4294967296 - n.0.0

fewer-left : (n : NativeNo) (i : ℕ) (next : Option (NativeNo × ℕ)) → n.0 < 4294967296 → IfSome next (λ m. n.0 < m.0.0) → count_left next < count_left (Some (n, i))
fewer-left n i None small up = omega arith
fewer-left n i (Some m) small up = omega arith

-- the next behind a native is above it
next-above : (f : Name → Option ℕ) (n : NativeNo) (next : Option (NativeNo × ℕ)) → IfSome next (λ m. IsNext f (Some n) m.0.0 m.1) → IfSome next (λ m. n.0 < m.0.0)
next-above f n None h = tt
next-above f n (Some m) h = let up = h.from in omega (arith, up)

-- THE NEXT ONE behind a native is found, where no white one from the first on is before those behind it
walking : (g : Shown) (h : Heap) (at : Option ℕ) (after : Option NativeNo) (next : Option (NativeNo × ℕ)) → behind at ≤ from_behind after →
    ((j : ℕ) → Among j (whites_of g h) → behind at ≤ j → from_behind after ≤ j) → IfSome next (λ n. IsNext (number_of g.nodes) after n.0.0 n.1) →
    IfSome next (λ n. n.1 < length g.nodes) → IfSome next (λ n. n.0.0 < 4294967296) → IfNone next (IsLast (number_of g.nodes) after) → IsWalking g h at next
walking g h at after None low all is within small last = record {
  left = λ j m from. white-node g h j m (last j (all j m from));
  node = tt;
}
walking g h at after (Some n) low all is within small last = record {
  left = λ j m from. ⊎_elim
      (λ l. absurd (white-node g h j m (is.before j (all j m from) l)))
      (λ l. l)
      (cases_lt j n.0.0);
  node = (is.there, omega (arith, low, is.from), small, within);
}

-- so it begins,
pub walking-start : (g : Shown) (h : Heap) (after : Option NativeNo) (next : Option (NativeNo × ℕ)) →
    IfSome next (λ n. IsNext (number_of g.nodes) after n.0.0 n.1) → IfSome next (λ n. n.1 < length g.nodes) → IfSome next (λ n. n.0.0 < 4294967296) →
    IfNone next (IsLast (number_of g.nodes) after) → IsWalking g h (option_map (λ (k : NativeNo). k.0) after) next
walking-start g h after next is within small last =
    walking g h (option_map (λ (k : NativeNo). k.0) after) after next (omega arith) (λ j m from. from) is within small last

module _ (g : Shown) (v : Keyed) (owned : List ℕ) (order : IsInOrder owned v) (at : Option ℕ) (n : NativeNo) (i : ℕ)
    (w : IsWalking g v.heap at (Some (n, i))) where
  -- It ends with a native whose node is not black, and that is there by its node's key,
  pub walking-found : (key : ℕ) → is_black g i ≡ false → number_at v key ≡ Some n.0 → Some n.0 ≡ first_of (whites_above g v.heap at)
  walking-found key white there =
      first-least (whites_of g v.heap) (subst IsRising (sym (whites_of-numbers g v.heap)) (IsRising-filter (is_white_number g) numbers order.sound.well_formed.rising)) at n.0
      (subst (λ ks. Among n.0 ks) (sym (whites_of-numbers g v.heap))
      (Among-filter (is_white_number g) n.0 numbers (named-number v.heap n.0 (number-named v owned key n.0 order there)) passes))
      w.node.1 (λ j m from. w.left j m from)
    where
      numbers : List ℕ
      numbers = native_numbers v.heap.natives

      passes : is_white_number g n.0 ≡ true
      passes = ap (is_white_node g) w.node.0 ∙ ap not white

  -- and passes another:
  walking-passed : HasNodeKeys g v → (is_black g i ≡ true) ⊎ HasOtherKey g (counts_of v) i n.0 → (j : ℕ) → Among j (whites_of g v.heap) → behind at ≤ j → from_behind (Some n) ≤ j
  walking-passed keys other j m from =
      let up : n.0 ≤ j = w.left j m from in
      ⊎_elim
      (λ same. absurd (no_white (subst (λ k. Among k (whites_of g v.heap)) same.1 m)))
      (λ apart. let different : ¬ (j ≡ n.0) = apart.1 in omega arith)
      (eqb_tells j n.0)
    where
      no_white : Among n.0 (whites_of g v.heap) → ⊥
      no_white m = ⊎_elim
          (λ black. true≢false (sym (white-parts g v.heap n.0 m).1 ∙ (ap (is_white_node g) w.node.0 ∙ ap not black)))
          (λ elsewhere.
          let k = number-keyed v owned order n.0 (white-parts g v.heap n.0 m).0 in
          let node = number_of-node g.nodes (native n.0) i w.node.0 in
          elsewhere node.node.held (ap (option_map (λ (x : Vertex). x.held)) node.there)
          (keys node.node n.0 k.0 (place-among node.node g.nodes i node.there) node.name k.1))
          other

  pub walking-next : HasNodeKeys g v → (is_black g i ≡ true) ⊎ HasOtherKey g (counts_of v) i n.0 → (next : Option (NativeNo × ℕ)) →
      IfSome next (λ m. IsNext (number_of g.nodes) (Some n) m.0.0 m.1) → IfSome next (λ m. m.1 < length g.nodes) → IfSome next (λ m. m.0.0 < 4294967296) →
      IfNone next (IsLast (number_of g.nodes) (Some n)) → IsWalking g v.heap at next
  walking-next keys other next is within small last =
      let up : behind at ≤ n.0 = w.node.1 in
      walking g v.heap at (Some n) next (omega arith) (walking-passed keys other) is within small last

  -- so less is left.
  pub walking-fewer : (next : Option (NativeNo × ℕ)) → IfSome next (λ m. IsNext (number_of g.nodes) (Some n) m.0.0 m.1) → count_left next < count_left (Some (n, i))
  walking-fewer next is = fewer-left n i next w.node.2 (next-above (number_of g.nodes) n next is)

-- Or it ends with none.
pub walking-none : (g : Shown) (h : Heap) (at : Option ℕ) → IsWalking g h at None → None ≡ first_of (whites_above g h at)
walking-none g h at w = none-least (whites_of g h) at w.left
