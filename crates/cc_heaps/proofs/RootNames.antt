-- THE ROOTS OF SCRIPT MARKING BY KEYS AND BY NAMES: what registers hold, and what natives hold.
use Rattle.cc_heaps.proofs.Keys.{named-object}
use Rattle.std.proofs.Common.{arith, ◌≡◌, ℕ, ◌==◌, true, List, ◌++◌, map, Option, Some, None, refl, sym, ◌∙◌, ap, subst, inl, ⊎_elim}
use Rattle.std.specs.Prelude.{IsTrue}
use Rattle.std.specs.List.{flat_map}
use Rattle.std.specs.Option.{option_to_list}
use Rattle.cc_lists.specs.Members.{Among, has}
use Rattle.cc_lists.specs.Least.{closure, system}
use Rattle.cc_lists.proofs.Members.{Among-map, Among-map_cases, Among-left, Among-right, Among-append, Among-filter, Among-filtered, Among-passes, Among-flat_map, Among-flat_map_cases, has-among, has-there}
use Rattle.cc_lists.proofs.Closure.{closure-derived}
use Rattle.cc_names.specs.declared.name.Name.{Name}
use Rattle.cc_names.specs.declared.number.SKey.{SKey}
use Rattle.cc_names.specs.Names.{object, same_name, is_script}
use Rattle.cc_names.proofs.NameTests.{same_name-exact}
use Rattle.cc_model.specs.Slots.{contents, from_to}
use Rattle.cc_model.specs.Entries.{Entry, Joint, joints, rules_of}
use Rattle.cc_model.proofs.Joints.{Gives, its_value, its_key, derived-by_joints, joint-cases}
use Rattle.cc_model.proofs.Places.{script_place-cases}
use Rattle.cc_model.specs.Heap.{HeapNative}
use Rattle.cc_model.specs.Places.{places_of_native, script_places_of}
use Rattle.cc_model.specs.View.{script_slot_edges}
use Rattle.cc_model.specs.Exposure.{slots_of_scripts}
use Rattle.cc_model.specs.Colours.{black_names, scripts_held_by, scripts_held, marked_names}
use Rattle.cc_model.specs.WellFormed.{HasMembers, IsWellFormed, script_names}
use Rattle.cc_lists.proofs.Numbers.{number-exact}
use Rattle.cc_counted.specs.Counts.{Counts}
use Rattle.cc_counted.specs.Owning.{HasKeys}
use Rattle.cc_script.specs.Objects.{Object, is_there, name_at}
use Rattle.cc_script.proofs.Reaching.{held-among, among-held}
use Rattle.cc_marking.specs.Marking.{black_keys, keys_marked, marked_keys}
use Rattle.cc_heaps.specs.Keyed.{IsInOrder}
use Rattle.cc_heaps.specs.Named.{named_native, script_named}
use Rattle.cc_heaps.specs.Fields.{heap_of, keyed_of, IsLinked}
use Rattle.cc_heaps.specs.Roots.{keys_in_registers, key_in, keys_in, references_in, keys_held}
use Rattle.cc_heaps.specs.declared.heaps.Heaps.TheInside.{Inside}
use Rattle.cc_heaps.proofs.ObjectsKept.{keys-counted}
use Rattle.cc_heaps.proofs.ReferenceNames.{references-there, named-reference, reference-named}
use Rattle.cc_heaps.proofs.Reaching.{AreNamesOf, name_at-own, name_at-found, marked-alike_from}

-- Keys that are held

-- a key of registers is that of one
pub register-key : (xs : List (Option SKey)) (k : ℕ) → Among k (keys_in_registers xs) → (key : SKey) × Among (Some key) xs × (key.0 ≡ k)
register-key xs k m = grind (arith, Among-map_cases, held-among)

-- and each register gives its key
pub key-register : (xs : List (Option SKey)) (key : SKey) → Among (Some key) xs → Among key.0 (keys_in_registers xs)
key-register xs key m = Among-map (λ (key : SKey). key.0) key (flat_map option_to_list xs) (among-held xs key m)

-- the key of a name is that of a script object
key_in-object : (x : Name) (k : ℕ) → Among k (key_in x) → x ≡ object k
key_in-object x k m = grind arith

-- a key of natives is that of a reference of one
pub native-key : (c : Counts) (ns : List HeapNative) (k : ℕ) → Among k (keys_held c ns) → (n : HeapNative) × Among n ns × Among (object k) (contents (references_in c n))
native-key c ns k m = grind (arith, Among-flat_map_cases, key_in-object)

-- and each reference gives its key
key-native : (c : Counts) (ns : List HeapNative) (n : HeapNative) (k : ℕ) → Among n ns → Among (object k) (contents (references_in c n)) → Among k (keys_held c ns)
key-native c ns n k m i = Among-flat_map (λ (n : HeapNative). keys_in (references_in c n)) n k ns m (Among-flat_map key_in (object k) k (contents (references_in c n)) i (inl refl))

module _ (p : Inside) (l : IsLinked p) where
  -- what registers hold is there
  pub register-there : (k : ℕ) → Among k (keys_in_registers p.script_registers.items) → IsTrue (is_there p.scripts k)
  register-there k m = let f = register-key p.script_registers.items k m in subst (λ j. IsTrue (is_there p.scripts j)) f.2 (l.script_registers (Some f.0) f.1)

  -- and so is what natives hold
  pub native-there : HasKeys p.counted → (k : ℕ) → Among k (keys_held p.counted p.counted.natives) → IsTrue (is_there p.scripts k)
  native-there keyed k m = let f = native-key p.counted p.counted.natives k m in references-there p l keyed f.0 (object k) f.1 f.2

  -- Their names

  -- WHAT REGISTERS HOLD
  pub register-names : AreNamesOf p.scripts (keys_in_registers p.script_registers.items) (contents (heap_of p).script_registers)
  register-names = record {
    named = λ k x m e.
        let f = register-key p.script_registers.items k m in
        among-held (map (script_named p.scripts) p.script_registers.items) x
        (subst (λ y. Among y (map (script_named p.scripts) p.script_registers.items)) (ap (name_at p.scripts) f.2 ∙ e)
        (Among-map (script_named p.scripts) (Some f.0) p.script_registers.items f.1));
    keyed = λ x m.
        let f = Among-map_cases (script_named p.scripts) p.script_registers.items (Some x) (held-among (map (script_named p.scripts) p.script_registers.items) x m) in
        go x f.0 f.1 f.2;
  }
    where
      go : (x : Name) (y : Option SKey) → Among y p.script_registers.items → script_named p.scripts y ≡ Some x →
          (k : ℕ) × Among k (keys_in_registers p.script_registers.items) × (name_at p.scripts k ≡ Some x)
      go x None i e = absurd (cc)
      go x (Some key) i e = (key.0, key-register p.script_registers.items key i, e)

  -- a name of a script object is that of no native
  pub script-named : (k : ℕ) (x : Name) → name_at p.scripts k ≡ Some x → is_script x ≡ true
  script-named k x e = grind (arith, name_at-found)

-- two lots of keys, and of names
pub AreNamesOf-append : (objects : List Object) (ks js : List ℕ) (xs ys : List Name) → AreNamesOf objects ks xs → AreNamesOf objects js ys → AreNamesOf objects (ks ++ js) (xs ++ ys)
AreNamesOf-append objects ks js xs ys a b = record {
  named = λ k x m e. ⊎_elim (λ i. Among-left x xs ys (a.named k x i e)) (λ i. Among-right x xs ys (b.named k x i e)) (Among-append k ks js m);
  keyed = λ x m. ⊎_elim
      (λ i. let f = a.keyed x i in (f.0, Among-left f.0 ks js f.1, f.2))
      (λ i. let f = b.keyed x i in (f.0, Among-right f.0 ks js f.1, f.2))
      (Among-append x xs ys m);
}

-- the keys of the roots
abbrev pub black_roots : Inside → List ℕ
black_roots p = keys_in_registers p.script_registers.items

abbrev pub gray_roots : Inside → List ℕ
gray_roots p = keys_held p.counted p.counted.natives

-- what some names lead to, over slots and entries
abbrev pub names_led : Inside → List Name → List Name
names_led p names = closure same_name (system names (slots_of_scripts (heap_of p)) (rules_of (joints (heap_of p).entries)))

module _ {owned : List ℕ} (p : Inside) (l : IsLinked p) (o : IsInOrder owned (keyed_of p)) where
  -- WHAT NATIVES HOLD
  native-names : AreNamesOf p.scripts (gray_roots p) (scripts_held (heap_of p))
  native-names = record {
    named = λ k x m e.
        let f = native-key p.counted p.counted.natives k m in
        Among-flat_map scripts_held_by (named_native p.scripts f.0) x (heap_of p).natives (Among-map (named_native p.scripts) f.0 p.counted.natives f.1)
        (Among-filter is_script x (targets_of (named_native p.scripts f.0)) (named-reference p l keyed w f.0 k x f.1 f.2 e) (script-named p l k x e));
    keyed = λ x m.
        let f = Among-flat_map_cases scripts_held_by (heap_of p).natives x m in
        let g = Among-map_cases (named_native p.scripts) p.counted.natives f.0 f.1 in
        let i : Among x (scripts_held_by (named_native p.scripts g.0)) = subst (λ n. Among x (scripts_held_by n)) (sym g.2) f.2 in
        let k = reference-named p l keyed w g.0 x g.1 (Among-filtered is_script x (targets_of (named_native p.scripts g.0)) i) (Among-passes is_script x (targets_of (named_native p.scripts g.0)) i) in
        (k.0, key-native p.counted p.counted.natives g.0 k.0 g.1 k.1, k.2);
  }
    where
      keyed : HasKeys p.counted
      keyed = keys-counted owned p l o

      w : IsWellFormed (heap_of p)
      w = o.sound.well_formed

      targets_of : HeapNative → List Name
      targets_of n = contents (places_of_native n)

  -- what names of script objects lead to is the name of one that is there
  led-there : (names : List Name) → ((x : Name) → Among x names → Among x (script_names (heap_of p))) → (x : Name) → Among x (names_led p names) →
      (q : Object) × Among q p.scripts × (q.name ≡ x)
  led-there names roots x m =
      let w : IsWellFormed (heap_of p) = o.sound.well_formed in
      let there : Among x (script_names (heap_of p)) =
      derived-by_joints names (slots_of_scripts (heap_of p)) (joints (heap_of p).entries) (λ y. Among y (script_names (heap_of p)))
      roots
      (λ y z i before.
      let f = Among-flat_map_cases script_slot_edges (heap_of p).scripts (y, z) i in
      let g = Among-map_cases (from_to f.0.name) (contents (script_places_of f.0)) (y, z) f.2 in
      ⊎_elim (w.script_contents f.0 z f.1) (w.delegate_there f.0 z f.1)
      (script_place-cases f.0 z (subst (λ u. Among u (contents (script_places_of f.0))) (ap (λ (e : Name × Name). e.1) g.2) g.1)))
      (λ j i a b. let f = joint-cases (heap_of p).entries j i in given (w.entries f.0 f.1) j f.2) x
      (closure-derived same_name same_name-exact (system names (slots_of_scripts (heap_of p)) (rules_of (joints (heap_of p).entries))) x m) in
      named-object (heap_of p) p.scripts refl x there
    where
      given : {e : Entry} → HasMembers (heap_of p) e → (j : Joint) → Gives e j → Among j.value (script_names (heap_of p))
      given m _ its_value = m.value
      given m _ (its_key d q) = m.key

  -- What a mark comes to from keys that have these names
  module _ (keys : List ℕ) (names : List Name) (are : AreNamesOf p.scripts keys names) where
    -- A MARK COMES TO AN OBJECT BY ITS KEY where it comes to it by its name.
    pub led-alike : (q : Object) → Among q p.scripts → has ◌==◌ (keys_marked p.scripts p.weak keys) q.key ≡ has same_name (names_led p names) q.name
    led-alike = marked-alike_from p.scripts l.one_key l.one_name p.weak o.entries_there keys names are

    -- the names of the keys to which a mark comes are the names to which it comes
    pub led-names : ((x : Name) → Among x names → Among x (script_names (heap_of p))) → AreNamesOf p.scripts (keys_marked p.scripts p.weak keys) (names_led p names)
    led-names roots = grind (arith, name_at-found, has-there, number-exact, has-among, same_name-exact, led-alike, led-there, name_at-own)

  -- an object is black by its key where it is black by its name
  pub black-alike : (q : Object) → Among q p.scripts → has ◌==◌ (black_keys p.scripts p.weak (black_roots p)) q.key ≡ has same_name (black_names (heap_of p)) q.name
  black-alike = led-alike (black_roots p) (contents (heap_of p).script_registers) (register-names p l)

  -- WHAT IS BLACK
  black_names-names : AreNamesOf p.scripts (black_keys p.scripts p.weak (black_roots p)) (black_names (heap_of p))
  black_names-names = led-names (black_roots p) (contents (heap_of p).script_registers) (register-names p l) o.sound.well_formed.script_registers

  -- and it is marked by its key where it is marked by its name
  pub marked-alike : (q : Object) → Among q p.scripts →
      has ◌==◌ (marked_keys p.scripts p.weak (black_roots p) (gray_roots p)) q.key ≡ has same_name (marked_names (heap_of p)) q.name
  marked-alike = grind (arith, marked-alike_from, AreNamesOf-append, black_names-names, native-names)
