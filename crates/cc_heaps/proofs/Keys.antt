-- KEYS OF NATIVES read numbers alone, and those of natives that are no more hold nothing. Reflectors have the keys of their
-- natives still where these are there.
use Rattle.cc_names.specs.declared.number.SKey.{SKey}
use Rattle.cc_heaps.specs.Changes.{script_name}
use Rattle.cc_laws_heap.proofs.Face.{IsIn, IsWellFormed-distinct, KeepsNumber, changed_at, changed_at-number, named-found, named-member, native_at-member, native_at-named}
use Rattle.cc_lists.proofs.Held.{held-is}
use Rattle.cc_heaps.proofs.Reaching.{name_at-found}
use Rattle.std.proofs.Common.{arith, ◌≡◌, ℕ, List, [], map, Option, Some, None, refl, sym, ◌∙◌, ap, subst, if◌then◌else◌}
use Rattle.std.specs.Option.{is_some}
use Rattle.std.specs.List.{find}
use Rattle.std.proofs.Math.ListN.{get_or-map}
use Rattle.std.proofs.lemmas.Simd.{map-map}
use Rattle.cc_lists.specs.Members.{Among}
use Rattle.cc_lists.proofs.Members.{Among-map, Among-map_cases}
use Rattle.cc_lists.proofs.Filtering.{find-among, find-passes}
use Rattle.cc_lists.proofs.ListWrites.{map-kept}
use Rattle.cc_names.specs.declared.name.Name.{Name}
use Rattle.cc_names.specs.declared.name.Name.TheVariants as name
use Rattle.cc_names.specs.Names.{native, reflector, same_name, object}
use Rattle.cc_names.proofs.NameTests.{same_name-true}
use Rattle.cc_model.specs.Heap.{Heap, HeapNative, Buffered, native_at, change_native}
use Rattle.cc_model.specs.WellFormed.{IsRising, IsWellFormed, native_names, script_names}
use Rattle.cc_names.specs.declared.kind.Walked.{Walked}
use Rattle.cc_counted.specs.Counts.{Counts, key_left, number_at, heap_of}
use Rattle.cc_counted.specs.Counts as counts
use Rattle.cc_counted.specs.Owning.{HasKeys}
use Rattle.cc_script.specs.Objects.{Object, name_at}
use Rattle.cc_heaps.specs.Keyed.{Keyed, Reflects, keyed_native, counts_of, left_with, named_object, named_objects}
use Rattle.cc_heaps.specs.Keyed as keyed

-- the numbers of natives
abbrev pub numbers_of_natives : List HeapNative → List ℕ
numbers_of_natives ns = map (λ n. n.number) ns

-- the natives of heaps, which stand at these keys; nothing is said of reflectors, nor of a walk
abbrev pub counts_in : Heap → List (Option ℕ) → Counts
counts_in h keys = record { natives = h.natives; buffer = h.buffer; keys = keys; reflectors = []; walks = [] }

-- names by numbers
names-by_numbers : (ns : List HeapNative) → map (λ (n : HeapNative). native n.number) ns ≡ map native (numbers_of_natives ns)
names-by_numbers ns = sym (map-map native (λ (n : HeapNative). n.number) ns)

-- keys read numbers alone
pub HasKeys-numbers : {walks : List Walked} (c : Counts) (ns : List HeapNative) (bs : List Buffered) (rs : List (Option ℕ)) → numbers_of_natives ns ≡ numbers_of_natives c.natives → HasKeys c →
    HasKeys (record c { natives = ns; buffer = bs; reflectors = rs; walks = walks })
HasKeys-numbers c ns bs rs same k = record {
  key_of = λ n m.
      let f = Among-map_cases (λ (o : HeapNative). o.number) c.natives n.number
      (subst (λ is. Among n.number is) same (Among-map (λ (o : HeapNative). o.number) n ns m)) in
      let found = k.key_of f.0 f.1 in
      (found.0, found.1 ∙ ap Some f.2);
  there = λ key j e. subst (λ names. Among (native j) names) (sym names) (k.there key j e);
  one_key = k.one_key;
  rising = subst IsRising (sym same) k.rising;
}
  where
    names : map (λ (n : HeapNative). native n.number) ns ≡ map (λ (n : HeapNative). native n.number) c.natives
    names = names-by_numbers ns ∙ (ap (map native) same ∙ sym (names-by_numbers c.natives))

-- a native changed keeps its number
pub numbers-changed : (h : Heap) (k : ℕ) (f : HeapNative → HeapNative) → KeepsNumber f → numbers_of_natives (change_native h k f).natives ≡ numbers_of_natives h.natives
numbers-changed h k f keeps = map-kept (λ (n : HeapNative). n.number) (changed_at k f) h.natives (changed_at-number k f keeps)

-- a key that is left has its number still
pub key_left-some : (g : Heap) (o : Option ℕ) (k : ℕ) → key_left g o ≡ Some k → (o ≡ Some k) × ((n : HeapNative) × (native_at g k ≡ Some n))
key_left-some g None k e = absurd (cc)
key_left-some g (Some j) k e = go (native_at g j) refl e
  where
    go : (x : Option HeapNative) → native_at g j ≡ x → (if is_some x then Some j else None) ≡ Some k → (Some j ≡ Some k) × ((n : HeapNative) × (native_at g k ≡ Some n))
    go None f e = absurd (cc)
    go (Some n) f e = let same : j ≡ k = cc in (e, (n, subst (λ i. native_at g i ≡ Some n) same f))

-- the key of a native that is there is left
pub key_left-there : (g : Heap) (k : ℕ) (n : HeapNative) → native_at g k ≡ Some n → key_left g (Some k) ≡ Some k
key_left-there g k n e = rw e refl

-- the number at a key after natives left
pub number_at-left : (c : Counts) (g : Heap) (key : ℕ) → number_at (counts.left_with c g) key ≡ key_left g (number_at c key)
number_at-left c g key = get_or-map (key_left g) c.keys key None

-- the keys of the natives that left hold nothing
pub HasKeys-left : {walks : List Walked} (c : Counts) (g : Heap) (rs : List (Option ℕ)) → IsWellFormed g → ((k : ℕ) → Among (native k) (native_names g) → Among (native k) (native_names (heap_of c))) → HasKeys c →
    HasKeys (record (counts.left_with c g) { reflectors = rs; walks = walks })
HasKeys-left c g rs w before k = record {
  key_of = λ n m.
      let named : Among (native n.number) (native_names g) = Among-map (λ (o : HeapNative). native o.number) n g.natives m in
      let was = named-member (heap_of c) n.number (before n.number named) in
      let found = k.key_of was.0 was.1 in
      let at : number_at c found.0 ≡ Some n.number = found.1 ∙ ap Some was.2 in
      (found.0, number_at-left c g found.0 ∙ (ap (key_left g) at ∙ key_left-there g n.number n (native_at-member g (IsWellFormed-distinct g w) n m)));
  there = λ key j e.
      let f = key_left-some g (number_at c key) j (sym (number_at-left c g key) ∙ e) in
      native_at-named g j f.1.0 f.1.1;
  one_key = λ p q j e f. k.one_key p q j
      (key_left-some g (number_at c p) j (sym (number_at-left c g p) ∙ e)).0
      (key_left-some g (number_at c q) j (sym (number_at-left c g q) ∙ f)).0;
  rising = w.rising;
}

-- keys of natives that got their names, or whose script objects gave theirs back
pub HasKeys-keyed : {walks : List Walked} (v : Keyed) (g : Heap) (keys : List (Option ℕ)) → HasKeys (counts_in g keys) → HasKeys (counts_of (record v { heap = g; keys = keys; walks = walks }))
HasKeys-keyed v g keys k = HasKeys-numbers (counts_in g keys) (map (keyed_native v.scripts) g.natives) g.buffer (keyed.reflectors_by v.scripts keys)
    (map-map (λ (n : HeapNative). n.number) (keyed_native v.scripts) g.natives) k

pub HasKeys-names : (v : Keyed) → HasKeys (counts_of v) → HasKeys (counts_in v.heap v.keys)
HasKeys-names v k = HasKeys-numbers (counts_of v) v.heap.natives v.heap.buffer [] (sym (map-map (λ (n : HeapNative). n.number) (keyed_native v.scripts) v.heap.natives)) k

-- Reflectors

-- each reflector has the key of its native, and other script objects have that of none
abbrev pub AreReflecting : Keyed → Type 0
AreReflecting v = (o : Object) → Among o v.scripts → Reflects v o.name o.native

-- whose names and keys reflect each other: a plain object, whose key is that of none, and the reflector of a native at its key
pub Reflects-cases : (v : Keyed) (P : Name → Option ℕ → Type 0) → ((k : ℕ) → P (object k) None) → ((k q : ℕ) → keyed.number_at v q ≡ Some k → P (reflector k) (Some q)) →
    (x : Name) (key : Option ℕ) → Reflects v x key → P x key
Reflects-cases v P plain own (name.Native k) key r = absurd r
Reflects-cases v P plain own (name.Script k) key r = subst (P (object k.0)) (sym r) (plain k.0)
Reflects-cases v P plain own (name.Reflector k) None r = absurd r
Reflects-cases v P plain own (name.Reflector k) (Some q) r = own k.0 q r

-- the object with the key of a native is its reflector
pub Reflects-some : (v : Keyed) (x : Name) (q : ℕ) → Reflects v x (Some q) → (k : ℕ) × (x ≡ reflector k) × (keyed.number_at v q ≡ Some k)
Reflects-some v x q r = grind (arith, Reflects-cases)

-- a reflector's native stays at its key
pub Reflects-kept : (v w : Keyed) (x : Name) (key : Option ℕ) → ((q k : ℕ) → x ≡ reflector k → keyed.number_at v q ≡ Some k → keyed.number_at w q ≡ Some k) →
    Reflects v x key → Reflects w x key
Reflects-kept v w x key kept r = Reflects-cases v (λ y q. x ≡ y → Reflects w y q) (λ k e. refl) (λ k q at e. kept q k e at) x key r refl

-- an object that stands at a key has its name in the heaps
pub object-name : (h : Heap) (objects : List Object) → h.scripts ≡ named_objects objects → (o : Object) → Among o objects → Among o.name (script_names h)
object-name h objects e o m = grind (arith, Among-map)

-- and each that has a name there stands at a key
pub named-object : (h : Heap) (objects : List Object) → h.scripts ≡ named_objects objects → (x : Name) → Among x (script_names h) → (o : Object) × Among o objects × (o.name ≡ x)
named-object h objects e x m = grind (arith, Among-map_cases)

-- what stands at a key has its name there
pub name-in : (h : Heap) (objects : List Object) → h.scripts ≡ named_objects objects → (key : ℕ) → IsIn (script_names h) (name_at objects key)
name-in h objects e key x m = grind (arith, name_at-found, held-is, object-name)

pub script_name-in : (v : Keyed) → v.heap.scripts ≡ named_objects v.scripts → (x : Option SKey) → IsIn (script_names v.heap) (script_name v x)
script_name-in v e None x m = absurd m
script_name-in v e (Some key) x m = name-in v.heap v.scripts e key.0 x m

-- where natives left, those of reflectors did not
pub AreReflecting-left : (v : Keyed) (g : Heap) → g.scripts ≡ named_objects v.scripts → IsWellFormed g → AreReflecting v → AreReflecting (left_with v g)
AreReflecting-left v g e w all o m = Reflects-kept v (left_with v g) o.name o.native stays (all o m)
  where
    stays : (q k : ℕ) → o.name ≡ reflector k → keyed.number_at v q ≡ Some k → keyed.number_at (left_with v g) q ≡ Some k
    stays q k is at =
        let f = named-found g k (w.reflected k (subst (λ x. Among x (script_names g)) is (object-name g v.scripts e o m))) in
        number_at-left (counts_of v) g q ∙ (ap (key_left g) at ∙ key_left-there g k f.0 f.1)

-- a name that is not in the heaps is that of no object
pub find-unnamed : (h : Heap) (objects : List Object) → h.scripts ≡ named_objects objects → (x : Name) → ¬ (Among x (script_names h)) →
    find (λ o. same_name o.name x) objects ≡ None
find-unnamed h objects e x none = go (find (λ (o : Object). same_name o.name x) objects) refl
  where
    go : (f : Option Object) → find (λ (o : Object). same_name o.name x) objects ≡ f → f ≡ None
    go None s = refl
    go (Some o) s =
        let named : o.name ≡ x = same_name-true o.name x (find-passes (λ (q : Object). same_name q.name x) objects o s) in
        absurd (none (subst (λ y. Among y (script_names h)) named (object-name h objects e o (find-among (λ (q : Object). same_name q.name x) objects o s))))
