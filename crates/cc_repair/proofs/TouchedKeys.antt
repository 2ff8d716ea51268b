-- Whether a node's native stands in the buffer, or its script object is black, by the key that the node has.
use Rattle.std.specs.Prelude.{IsTrue, ◌↔◌, is_some, not, slice_get}
use Rattle.std.proofs.Common.{◌≡◌, ℕ, ◌≤◌, Bool, true, false, ◌==◌, List, [], ◌∷◌, ◌||◌, map, filter, Option, Some, None, option_map, refl, sym, ◌∙◌, ap, subst, count_by}
use Rattle.cc_lists.specs.Members.{Among, has}
use Rattle.cc_lists.proofs.Members.{Among-map, Among-map_cases, Among-filter, Among-filtered, Among-passes, has-among, has-there}
use Rattle.cc_lists.proofs.Counting.{count_by-map}
use Rattle.cc_lists.proofs.CountsOf.{false-left}
use Rattle.std.proofs.lemmas.Bool.{true≢false}
use Rattle.cc_lists.proofs.Filtering.{filter-nothing, find-among}
use Rattle.cc_lists.proofs.ListWrites.{each-map, only-member}
use Rattle.cc_lists.proofs.Places.{place-among}
use Rattle.cc_names.specs.declared.name.Name.{Name}
use Rattle.cc_names.specs.declared.kind.Colour.{Colour}
use Rattle.cc_names.specs.declared.kind.Colour.TheVariants.{White, Gray, Black}
use Rattle.cc_names.specs.declared.number.NativeNo.{NativeNo}
use Rattle.cc_names.specs.declared.name.Name.TheVariants as name
use Rattle.cc_names.specs.declared.name.Name.TheVariants.{Native}
use Rattle.cc_names.specs.declared.number.NKey.{NKey}
use Rattle.cc_names.specs.declared.number.SKey.{SKey}
use Rattle.cc_names.specs.Names.{native, is_native, same_name}
use Rattle.cc_names.proofs.NameTests.{same_name-exact, same_name-refl}
use Rattle.cc_model.specs.Heap.{Heap, HeapScript, Buffered, is_black_colour}
use Rattle.cc_model.specs.View.{view, buffered, names_with}
use Rattle.cc_model.specs.WellFormed.{native_names}
use Rattle.cc_counted.specs.Counts.{number_or_none}
use Rattle.cc_counted.specs.declared.held.Held.{Held}
use Rattle.cc_counted.specs.declared.held.Held.TheVariants as held
use Rattle.cc_script.specs.Objects.{Object, object_at, name_at, colour_at, is_there}
use Rattle.cc_graph.specs.Shown.{Vertex, Shown}
use Rattle.cc_graph.specs.Held.{AreHeld}
use Rattle.cc_heaps.specs.HasKey.{HasKey}
use Rattle.cc_graph.proofs.MarkedNodes.{numbers-passing}
use Rattle.cc_repair.specs.Touched.{is_touched, touched}
use Rattle.cc_heaps.specs.Keyed.{Keyed, IsInOrder, named_object, number_at, the_number}
use Rattle.cc_counted.specs.Suspects.{front_number, is_in_buffer}
use Rattle.cc_heaps.proofs.Reaching.{same-tests}

-- the buffer by names and by numbers
buffer-by_number : (bs : List Buffered) (k : ℕ) → has same_name (map buffered bs) (native k) ≡ is_in_buffer bs k
buffer-by_number [] k = refl
buffer-by_number (b ∷ bs) k = go (buffer-by_number bs k) (b.number == k)
  where
    go : has same_name (map buffered bs) (native k) ≡ is_in_buffer bs k → (t : Bool) → t || has same_name (map buffered bs) (native k) ≡ elim t [ true ↦ true | false ↦ is_in_buffer bs k ]
    go ih true = refl
    go ih false = ih

module _ (v : Keyed) (order : IsInOrder [] v) (k key : ℕ) (at : Among (native k) (native_names v.heap) → number_at v key ≡ Some k) where
  -- what stands in the buffer is at its key:
  key-there : has same_name (view v.heap).buffer (native k) ≡ true → number_at v key ≡ Some k
  key-there e =
      let b = Among-map_cases buffered v.heap.buffer (native k) (has-among same_name same_name-exact (view v.heap).buffer (native k) e) in
      at (subst (λ x. Among x (native_names v.heap)) b.2 (order.sound.well_formed.buffered b.0 b.1))

  -- where something else is there, or nothing, the native is not in the buffer
  pub key-elsewhere : (number_at v key ≡ Some k → ⊥) → has same_name (view v.heap).buffer (native k) ≡ false
  key-elsewhere other = false-left (has same_name (view v.heap).buffer (native k)) (λ e. other (key-there e))

-- and where the native is there, the buffer tells
pub key-tells : (v : Keyed) (k key : ℕ) → number_at v key ≡ Some k → has same_name (view v.heap).buffer (native k) ≡ is_in_buffer v.heap.buffer (the_number v key)
key-tells v k key e = buffer-by_number v.heap.buffer k ∙ ap (is_in_buffer v.heap.buffer) (sym (ap number_or_none e))

-- a test for none that passes
pub no-first : (o : Option NKey) (t : Bool) → is_some o ≡ not t → t ≡ true → o ≡ None
no-first None t e f = refl
no-first (Some k) true e f = absurd (cc)
no-first (Some k) false e f = absurd (cc)

-- where the buffer has no first one it has none
pub buffer-empty : (bs : List Buffered) (x : Name) → front_number bs ≡ None → has same_name (map buffered bs) x ≡ false
buffer-empty [] x e = refl
buffer-empty (b ∷ bs) x e = absurd (cc)

-- Script objects of a colour

-- an object, by name, is among those that pass a test where it passes
names-tell : (p : HeapScript → Bool) (os : List HeapScript) (o : HeapScript) → count_by (same_name o.name) (map (λ (s : HeapScript). s.name) os) ≤ 1 → Among o os →
    has same_name (names_with p os) o.name ≡ p o
names-tell p os o once there = same-tests (has same_name (names_with p os) o.name) (p o)
    (λ e.
    let m = Among-map_cases (λ (s : HeapScript). s.name) (filter p os) o.name (has-among same_name same_name-exact (names_with p os) o.name e) in
    let same : o ≡ m.0 = only-member (λ s. same_name o.name s.name) os o m.0 counted there (same_name-refl o.name)
    (Among-filtered p m.0 os m.1) ((same_name-exact o.name m.0.name).1 (sym m.2)) in
    ap p same ∙ Among-passes p m.0 os m.1)
    (λ e. has-there same_name same_name-exact (names_with p os) o.name (Among-map (λ (s : HeapScript). s.name) o (filter p os) (Among-filter p o os there e)))
  where
    counted : count_by (λ (s : HeapScript). same_name o.name s.name) os ≤ 1
    counted = subst (λ n. n ≤ 1) (count_by-map (same_name o.name) (λ (s : HeapScript). s.name) os) once

-- the object at a key
record IsAt (v : Keyed) (key : ℕ) (x : Name) : Type 0 where
  object : Object
  at : object_at v.scripts key ≡ Some object
  name : object.name ≡ x

named-at : (v : Keyed) (key : ℕ) (x : Name) → name_at v.scripts key ≡ Some x → IsAt v key x
named-at v key x e = go (object_at v.scripts key) refl e
  where
    go : (o : Option Object) → object_at v.scripts key ≡ o → option_map (λ (s : Object). s.name) o ≡ Some x → IsAt v key x
    go None f n = absurd (cc)
    go (Some o) f n = record { object = o; at = f; name = cc }

-- its name is among the black ones where its colour says so
colour-tells : (v : Keyed) → IsInOrder [] v → (key : ℕ) (x : Name) (b : Bool) → name_at v.scripts key ≡ Some x → option_map is_black_colour (colour_at v.scripts key) ≡ Some b →
    has same_name (view v.heap).black x ≡ b
colour-tells v order key x b e f =
    let at = named-at v key x e in
    let o = named_object v.scripts at.object in
    let there : Among o v.heap.scripts = subst (Among o) (sym order.named)
    (Among-map (named_object v.scripts) at.object v.scripts (find-among (λ (s : Object). s.key == key) v.scripts at.object at.at)) in
    let black : Some (is_black_colour at.object.colour) ≡ Some b =
    ap (λ (s : Option Object). option_map is_black_colour (option_map (λ (t : Object). t.colour) s)) (sym at.at) ∙ f in
    let same : is_black_colour at.object.colour ≡ b = cc in
    subst (λ y. has same_name (view v.heap).black y ≡ b) at.name
    (names-tell (λ s. is_black_colour s.colour) v.heap.scripts o (order.sound.well_formed.distinct o.name) there ∙ same)

-- A node's test by the node's parts

node-test : (v : Keyed) (o : Option Vertex) (x : Name) (b : Bool) → option_map (λ w. w.name) o ≡ Some x → is_touched (view v.heap) x ≡ b →
    option_map (λ w. is_touched (view v.heap) w.name) o ≡ Some b
node-test v None x b e h = absurd (cc)
node-test v (Some w) x b e h = let same : w.name ≡ x = cc in ap Some (ap (is_touched (view v.heap)) same ∙ h)

pub touched-native : (v : Keyed) (o : Option Vertex) (x : Name) (number : NativeNo) (b : Bool) → option_map (λ w. w.name) o ≡ Some x → x ≡ Native number →
    b ≡ has same_name (view v.heap).buffer (native number.0) → option_map (λ w. is_touched (view v.heap) w.name) o ≡ Some b
touched-native v o x number b e one h = node-test v o x b e (ap (is_touched (view v.heap)) one ∙ sym h)

-- what a node has is that of its name
has-key : (g : Shown) (v : Keyed) → AreHeld g (HasKey v) → (i : ℕ) (x : Name) (h : Held) → option_map (λ w. w.name) (slice_get g.nodes i) ≡ Some x →
    option_map (λ w. w.held) (slice_get g.nodes i) ≡ Some h → HasKey v x h
has-key g v are i x h name at = go (slice_get g.nodes i) refl name at
  where
    go : (o : Option Vertex) → slice_get g.nodes i ≡ o → option_map (λ w. w.name) o ≡ Some x → option_map (λ w. w.held) o ≡ Some h → HasKey v x h
    go None e n k = absurd (cc)
    go (Some w) e n k =
        let named : w.name ≡ x = cc in
        let held_by : w.held ≡ h = cc in
        subst (λ y. HasKey v y h) named (subst (HasKey v w.name) held_by (are w (place-among w g.nodes i e)))

-- a node's native is at the node's key,
pub node-key : (g : Shown) (v : Keyed) → AreHeld g (HasKey v) → (i : ℕ) (x : Name) (h : Held) (number : NativeNo) (key : NKey) → option_map (λ w. w.name) (slice_get g.nodes i) ≡ Some x →
    option_map (λ w. w.held) (slice_get g.nodes i) ≡ Some h → x ≡ Native number → h ≡ held.Native key →
    Among (native number.0) (native_names v.heap) → number_at v key.0 ≡ Some number.0
node-key g v are i x h number key name at native_one key_one =
    (subst (HasKey v x) key_one (has-key g v are i x h name at)).1 number.0 native_one

-- which no other object has,
pub only-natives : (g : Shown) (v : Keyed) → AreHeld g (HasKey v) → (i : ℕ) (x : Name) (h : Held) (key : NKey) → option_map (λ w. w.name) (slice_get g.nodes i) ≡ Some x →
    option_map (λ w. w.held) (slice_get g.nodes i) ≡ Some h → h ≡ held.Native key → ((k : NativeNo) → x ≡ Native k → ⊥) → ⊥
only-natives g v are i x h key named at key_one other = none x other (subst (HasKey v x) key_one (has-key g v are i x h named at)).0
  where
    none : (y : Name) → ((k : NativeNo) → y ≡ Native k → ⊥) → is_native y ≡ true → ⊥
    none (name.Native k) o e = o k refl
    none (name.Script k) o e = cc
    none (name.Reflector k) o e = cc

-- and its script object is there
pub node-script : (g : Shown) (v : Keyed) → AreHeld g (HasKey v) → (i : ℕ) (x : Name) (h : Held) (key : SKey) → option_map (λ w. w.name) (slice_get g.nodes i) ≡ Some x →
    option_map (λ w. w.held) (slice_get g.nodes i) ≡ Some h → h ≡ held.Script key → IsTrue (is_there v.scripts key.0)
node-script g v are i x h key name at key_one = go (object_at v.scripts key.0) (subst (HasKey v x) key_one (has-key g v are i x h name at)).1
  where
    go : (o : Option Object) → option_map (λ (s : Object). s.name) o ≡ Some x → IsTrue (is_some o)
    go None e = absurd (cc)
    go (Some o) e = refl

pub touched-script : (g : Shown) (v : Keyed) → IsInOrder [] v → AreHeld g (HasKey v) → (i : ℕ) (x : Name) (h : Held) (key : SKey) (b : Bool) → option_map (λ w. w.name) (slice_get g.nodes i) ≡ Some x →
    option_map (λ w. w.held) (slice_get g.nodes i) ≡ Some h → h ≡ held.Script key → option_map is_black_colour (colour_at v.scripts key.0) ≡ Some b →
    option_map (λ w. is_touched (view v.heap) w.name) (slice_get g.nodes i) ≡ Some b
touched-script g v order are i x h key b name at key_one black =
    let k = subst (HasKey v x) key_one (has-key g v are i x h name at) in
    node-test v (slice_get g.nodes i) x b name (by_kind (is_native x) k.0 (colour-tells v order key.0 x b k.1 black))
  where
    by_kind : (t : Bool) → t ≡ false → has same_name (view v.heap).black x ≡ b → elim t [ true ↦ has same_name (view v.heap).buffer x | false ↦ has same_name (view v.heap).black x ] ≡ b
    by_kind true e f = absurd (cc)
    by_kind false e f = f

-- NOTHING WAS TOUCHED where the buffer has no first one and no script object is black

-- a test for some that fails
pub no-some : (o : Option NKey) (t : Bool) → t ≡ is_some o → t ≡ false → o ≡ None
no-some None t e f = refl
no-some (Some k) t e f = absurd (true≢false (sym e ∙ f))

-- a colour that passes for black is black
black-exact : (c : Colour) → is_black_colour c ≡ true → c ≡ Black
black-exact White e = absurd (true≢false (sym e))
black-exact Gray e = absurd (true≢false (sym e))
black-exact Black e = refl

module _ (v : Keyed) (order : IsInOrder [] v) (front : front_number v.heap.buffer ≡ None) (scripts : List Object) (found : Bool) (same : scripts ≡ v.scripts)
    (black : IsTrue found ↔ ((o : Object) × (Among o scripts × (o.colour ≡ Black)))) (none : found ≡ false) where
  -- each object is white or gray
  other-each : (o : Object) → Among o v.scripts → is_black_colour o.colour ≡ false
  other-each o m = false-left (is_black_colour o.colour)
      (λ e. true≢false (sym (black.1 (o, (subst (Among o) (sym same) m, black-exact o.colour e))) ∙ none))

  -- and so it is by name
  other-named : (o : HeapScript) → Among o v.heap.scripts → is_black_colour o.colour ≡ false
  other-named o m = each-map (λ (q : HeapScript). is_black_colour q.colour ≡ false) (named_object v.scripts) v.scripts other-each o (subst (Among o) order.named m)

  -- so no name is one of those that would be
  pub untouched : (x : Name) → is_touched (view v.heap) x ≡ false
  untouched x = by_kind (is_native x)
    where
      blacks : (view v.heap).black ≡ []
      blacks = ap (map (λ (o : HeapScript). o.name)) (filter-nothing (λ (o : HeapScript). is_black_colour o.colour) v.heap.scripts other-named)

      by_kind : (b : Bool) → elim b [ true ↦ has same_name (view v.heap).buffer x | false ↦ has same_name (view v.heap).black x ] ≡ false
      by_kind true = buffer-empty v.heap.buffer x front
      by_kind false = ap (λ ys. has same_name ys x) blacks

-- and no node is touched
pub untouched-none : (g : Shown) (h : Heap) → ((x : Name) → is_touched (view h) x ≡ false) → (i : ℕ) → Among i (touched g h) → ⊥
untouched-none g h none i m =
    let k = numbers-passing (λ j v. is_touched (view h) v.name) 0 g.nodes i m in
    true≢false (sym k.passes ∙ none k.node.name)
