-- WHAT IS READ OF REFLECTORS AND PROXIES by keys, by names: the reflector of a native, whether it is preserved, and the delegate of a proxy.
use Rattle.std.proofs.Common.{◌≡◌, ℕ, ◌==◌, Bool, true, false, [], List, Option, Some, None, option_map, refl, sym, ◌∙◌, ap, subst}
use Rattle.std.specs.Prelude.{◌↔◌, IsSome, IsTrue}
use Rattle.cc_lists.proofs.Searching.{find-map}
use Rattle.cc_names.specs.declared.name.Name.{Name}
use Rattle.cc_names.specs.declared.name.Name.TheVariants as name
use Rattle.cc_names.specs.declared.number.NKey.{NKey}
use Rattle.cc_names.specs.declared.number.SKey.{SKey}
use Rattle.cc_names.specs.Names.{native, number_of, reflector}
use Rattle.cc_model.specs.Checks.{native_of}
use Rattle.cc_model.specs.Heap.{HeapNative, delegate_at, has_reflector, native_at}
use Rattle.cc_laws_heap.proofs.Face.{is_some-found, named-found, option_map-found}
use Rattle.cc_counted.specs.Counts.{Counts, heap_of, number_or_none, preserved_at, preserved_of, reflector_at}
use Rattle.cc_script.specs.Objects as objects
use Rattle.cc_heaps.specs.Keyed.{Keyed, IsInOrder, counts_of, keyed_native, name_held, number_at, the_number}
use Rattle.cc_heaps.specs.Changes.{IsScriptThere, native_name, script_name}
use Rattle.cc_heaps.proofs.Calls.{number-named}
use Rattle.cc_heaps.proofs.EntriesSet.{delegate-live, delegate-named}
use Rattle.cc_heaps.proofs.ObjectsKept.{named-there}
use Rattle.cc_heaps.proofs.Reaching.{the_name-is}
use Rattle.cc_wrappers.proofs.Wrapped.{reflector-has, reflector-name, reflector-none}
use Rattle.cc_host.specs.declared.object.Object.{Object}
use Rattle.cc_host.specs.Hosted.{named}
use Rattle.cc_host.specs.Reading.{preserved_in, reflector_in}
use Rattle.cc_host.proofs.Reading.{IsReadAs}

module _ (v : Keyed) (o : IsInOrder [] v) where
  -- The reflector of a native

  abbrev in_heap : Bool → ℕ → Option Name
  in_heap has k = elim has [ true ↦ Some (reflector k) | false ↦ None ]

  reflector-by_number : (key : ℕ) → IsSome (number_at v key) → (y : Option SKey) → option_map (λ (k : SKey). k.0) y ≡ reflector_at (counts_of v) key →
      IsReadAs v y (in_heap (has_reflector v.heap (the_number v key)) (the_number v key))
  reflector-by_number key live None e = record {
    name = sym (ap (λ b. in_heap b (the_number v key)) (reflector-none v o key live (sym e)));
    there = tt;
  }
  reflector-by_number key live (Some r) e =
      let name = reflector-name v o key live r.0 (sym e) in
      record {
        name = name ∙ sym (ap (λ b. in_heap b (the_number v key)) (reflector-has v o key live r.0 (sym e)));
        there = named-there v.scripts r.0 (reflector (the_number v key)) name;
      }

  -- the number in the name of the native at a key
  number-in : (key : ℕ) (x : Name) → option_map native (number_at v key) ≡ Some x → the_number v key ≡ number_of x
  number-in key x e =
      let f = option_map-found native (number_at v key) x e in
      ap number_or_none f.1 ∙ ap number_of f.2

  -- WHAT A NATIVE HAS FOR ITS REFLECTOR is the one that is there
  pub reflector-read : (d : Counts) → d ≡ counts_of v → (key : NKey) (x : Name) → native_name v (Some key) ≡ Some x → IsSome (number_at v key.0) →
      (y : Option SKey) → option_map (λ (k : SKey). k.0) y ≡ reflector_at d key.0 → IsReadAs v y (reflector_in v.heap x)
  reflector-read d is key x e live y read =
      subst (λ k. IsReadAs v y (in_heap (has_reflector v.heap k) k)) (number-in key.0 x e)
      (reflector-by_number key.0 live y (read ∙ ap (λ (c : Counts). reflector_at c key.0) is))

  -- Whether it is preserved

  abbrev preserved_if_any : Option HeapNative → Option Bool
  preserved_if_any n = option_map (λ (m : HeapNative). m.preserved) n

  preserved-by_number : (d : Counts) → d ≡ counts_of v → (key k : ℕ) → number_at v key ≡ Some k → preserved_if_any (native_at v.heap k) ≡ Some (preserved_of d key)
  preserved-by_number d is key k e =
      let n = named-found v.heap k (number-named v [] key k o e) in
      ap preserved_if_any n.1
      ∙ ap (λ b. Some b) (sym (
      ap (λ (c : Counts). preserved_of c key) is
      ∙ (ap (λ j. preserved_at (native_at (heap_of (counts_of v)) (number_or_none j))) e
      ∙ (ap preserved_at (find-map (λ (m : HeapNative). m.number == k) (keyed_native v.scripts) v.heap.natives)
      ∙ ap (λ j. preserved_at (option_map (keyed_native v.scripts) j)) n.1))))

  -- the native behind a reflector has its number
  behind-number : (x : Name) (key j : ℕ) → number_at v key ≡ Some j → option_map native (number_at v key) ≡ native_of (Some x) → number_at v key ≡ Some (number_of x)
  behind-number (name.Native k) key j at e = let no : Some (native j) ≡ None = sym (ap (option_map native) at) ∙ e in absurd (cc)
  behind-number (name.Script k) key j at e = let no : Some (native j) ≡ None = sym (ap (option_map native) at) ∙ e in absurd (cc)
  behind-number (name.Reflector k) key j at e =
      let f = option_map-found native (number_at v key) (native k.0) e in
      f.1 ∙ ap (λ n. Some (number_of n)) f.2

  -- WHAT THE NATIVE BEHIND A REFLECTOR HAS is whether that is preserved
  pub preserved-read : (d : Counts) → d ≡ counts_of v → (y : Option Name) (x : Name) → y ≡ Some x → (key : NKey) → native_name v (Some key) ≡ native_of y →
      IsSome (number_at v key.0) → (b : Bool) → b ≡ preserved_of d key.0 → preserved_in v.heap x ≡ Some b
  preserved-read d is y x named key e live b read =
      let j = is_some-found (number_at v key.0) live in
      preserved-by_number d is key.0 (number_of x) (behind-number x key.0 j.0 j.1 (e ∙ ap native_of named)) ∙ ap (λ c. Some c) (sym read)

  -- The delegate of a proxy

  -- by key and by name
  by_key : (y : Option SKey) → script_name v y ≡ name_held v.scripts (option_map (λ (k : SKey). k.0) y)
  by_key None = refl
  by_key (Some k) = refl

  -- WHAT AN OBJECT HAS FOR ITS DELEGATE is the one that it has by its name
  pub delegate-read : (os : List objects.Object) → os ≡ v.scripts → (key : SKey) (x : Name) → script_name v (Some key) ≡ Some x → IsTrue (objects.is_there v.scripts key.0) →
      (y : Option SKey) → option_map (λ (k : SKey). k.0) y ≡ objects.delegate_at os key.0 → IsReadAs v y (delegate_at v.heap x)
  delegate-read os is key x named live y read = record {
    name = by_key y ∙ (ap (name_held v.scripts) at ∙ (sym (delegate-named [] v o key.0 live) ∙ ap (delegate_at v.heap) (the_name-is v.scripts key.0 x named)));
    there = there y at;
  }
    where
      at : option_map (λ (k : SKey). k.0) y ≡ objects.delegate_at v.scripts key.0
      at = read ∙ ap (λ ps. objects.delegate_at ps key.0) is

      there : (z : Option SKey) → option_map (λ (k : SKey). k.0) z ≡ objects.delegate_at v.scripts key.0 → IsScriptThere v z
      there None f = tt
      there (Some d) f = delegate-live [] v o key.0 live d.0 (sym f)

  -- what has a name by a key is there exactly where there is a key
  pub some-alike : (r : Option Object) (y : Option SKey) → named r ≡ script_name v y → IsScriptThere v y → IsSome r ↔ IsSome y
  some-alike None None e t = (λ i. i, λ i. i)
  some-alike None (Some k) e t =
      let q = is_some-found (objects.object_at v.scripts k.0) t in
      let no : None ≡ Some q.0.name = e ∙ ap (λ (p : Option objects.Object). option_map (λ (p : objects.Object). p.name) p) q.1 in
      absurd (cc)
  some-alike (Some x) None e t = absurd (cc)
  some-alike (Some x) (Some k) e t = (λ i. refl, λ i. refl)
