-- AN OBJECT MADE is of its kind, and has as many slots as asked for.
use Rattle.std.proofs.Common.{◌≡◌, ℕ, zero, suc, ◌+◌, [], length, Option, Some, None, option_map, refl, sym, ◌∙◌, ap, subst, inl, ◌∷◌, ⊎_elim, arith}
use Rattle.std.specs.Option.{option_and_then}
use Rattle.cc_lists.specs.Members.{Among}
use Rattle.cc_lists.proofs.Members.{Among-append, Among-right}
use Rattle.cc_names.specs.declared.kind.Kind.{Kind}
use Rattle.cc_names.specs.declared.kind.Kind.TheVariants.{Plain, Proxy}
use Rattle.cc_names.specs.declared.name.Name.{Name}
use Rattle.cc_names.specs.declared.name.Name.TheVariants as name
use Rattle.cc_names.specs.declared.register.Reg.TheVariants.{N}
use Rattle.cc_names.specs.Names.{native, number_of, object}
use Rattle.cc_model.specs.Slots.{empty_slots}
use Rattle.cc_model.specs.Checks.{slots_or_none}
use Rattle.cc_model.specs.Heap.{Heap, HeapNative, HeapScript, native_at, native_to_make, new_script, preserve, register, script_at, set_register, slots_in, slots_of_script}
use Rattle.cc_model.specs.Cascade.{let_go}
use Rattle.cc_model.specs.WellFormed.{IsWellFormed}
use Rattle.cc_model.specs.Effects.{make_native, make_object, make_proxy, with_native}
use Rattle.cc_laws_heap.proofs.Face.{named-found, option_map-found}
use Rattle.cc_laws_heap.proofs.Natives.{native_at-number, native_at-there}
use Rattle.cc_laws_heap.proofs.ScriptNames.{script_at-member}
use Rattle.cc_laws_run.proofs.TouchedCommands.{scripts_made-preserve}
use Rattle.cc_script.specs.Objects.{Object, kind_at, name_at, object_at}
use Rattle.cc_heaps.specs.Keyed.{IsInOrder, Keyed, named_object, number_at}
use Rattle.cc_heaps.proofs.Calls.{number-named}
use Rattle.cc_heaps.proofs.EachNative.{IsOfEach, each-cascade}
use Rattle.cc_heaps.proofs.ContentNames.{object-there}

-- so many slots are empty
pub many-empty : (n : ℕ) → length (empty_slots n) ≡ n
many-empty zero = refl
many-empty (suc n) = ap suc (many-empty n)

module _ (v : Keyed) (order : IsInOrder [] v) where
  -- the kind of what stands at a key, by its name
  kind-found : (key : ℕ) (made : HeapScript) → name_at v.scripts key ≡ Some made.name → Among made v.heap.scripts → kind_at v.scripts key ≡ Some made.kind
  kind-found key made e m =
      let o = option_map-found (λ (p : Object). p.name) (object_at v.scripts key) made.name e in
      let well = order.sound.well_formed in
      let one = script_at-member v.heap well (named_object v.scripts o.0) (object-there [] v order key o.0 o.1) in
      let two = script_at-member v.heap well made m in
      let same : Some (named_object v.scripts o.0) ≡ Some made = sym one ∙ (ap (script_at v.heap) o.2 ∙ two) in
      ap (option_map (λ (p : Object). p.kind)) o.1 ∙ ap (option_map (λ (s : HeapScript). s.kind)) same

  -- its slots
  many-found : (k n : ℕ) (d : Option Name) → Among (new_script (object k) Plain n d) v.heap.scripts → length (slots_or_none (slots_in v.heap (object k))) ≡ n
  many-found k n d m = ap (λ o. length (slots_or_none (option_and_then slots_of_script o))) (script_at-member v.heap order.sound.well_formed (new_script (object k) Plain n d) m) ∙ many-empty n

  module _ (h : Heap) (r : ℕ) (kind : Kind) (n : ℕ) (d : Option Name) (is : v.heap ≡ make_object h r kind n d) where
    made-there : Among (new_script (object (h.scripts_made + 1)) kind n d) v.heap.scripts
    made-there = subst (λ (g : Heap). Among (new_script (object (h.scripts_made + 1)) kind n d) g.scripts) (sym is) (Among-right _ h.scripts _ (inl refl))

    -- THE KIND of an object made
    pub made-kind : (key : ℕ) → name_at v.scripts key ≡ Some (object (h.scripts_made + 1)) → kind_at v.scripts key ≡ Some kind
    made-kind key e = kind-found key (new_script (object (h.scripts_made + 1)) kind n d) e made-there

-- THE SLOTS of a plain object made
pub made-many : (v : Keyed) → IsInOrder [] v → (h : Heap) (r n : ℕ) → v.heap ≡ make_object h r Plain n None → length (slots_or_none (slots_in v.heap (object (h.scripts_made + 1)))) ≡ n
made-many v order h r n is = many-found v order (h.scripts_made + 1) n None (made-there v order h r Plain n None is)

-- THE KIND of a proxy made
pub proxy-kind : (v : Keyed) → IsInOrder [] v → (h : Heap) (r : ℕ) (o : Option Name) (x : Name) → o ≡ Some x → v.heap ≡ make_proxy h r o →
    (key : ℕ) → name_at v.scripts key ≡ Some (object (h.scripts_made + 1)) → kind_at v.scripts key ≡ Some Proxy
proxy-kind v order h r o x e is key named =
    made-kind v order (preserve h (Some x)) r Proxy 0 (Some x) (is ∙ ap (make_proxy h r) e) key
    (named ∙ ap (λ n. Some (object (n + 1))) (sym (scripts_made-preserve h (Some x))))

-- A NATIVE MADE
module _ (h : Heap) (r n : ℕ) (w : IsWellFormed h) where
  abbrev HasMany : HeapNative → Type 0
  HasMany p = p.number ≡ h.natives_made + 1 → length p.slots ≡ n

  many-put : IsOfEach HasMany (with_native h n).natives
  many-put p m e = ⊎_elim
      (λ was. absurd (let low = (w.native_numbers p was).1 in omega (arith, low, e)))
      (λ new. ⊎_elim (λ is. subst (λ (q : HeapNative). length q.slots ≡ n) is (many-empty n)) (λ none. absurd none) new)
      (Among-append p h.natives (native_to_make h n ∷ []) m)

  many-left : (put : Heap) (x : Option Name) → IsOfEach HasMany put.natives → IsOfEach HasMany (let_go put x).heap.natives
  many-left put (Some (name.Native k)) all = each-cascade HasMany put k.0 all
  many-left put (Some (name.Script k)) all = all
  many-left put (Some (name.Reflector k)) all = all
  many-left put None all = all

  many-made : IsOfEach HasMany (make_native h r n).heap.natives
  unfolding make_native
  many-made = many-left (set_register (with_native h n) (N r) (Some (native (h.natives_made + 1)))) (register (with_native h n) (N r)) many-put

  -- THE SLOTS of a native made, where it is there
  pub native-many : (k : Heap) → k ≡ (make_native h r n).heap → (p : HeapNative) → native_at k (h.natives_made + 1) ≡ Some p →
      length (slots_or_none (slots_in k (native (h.natives_made + 1)))) ≡ n
  native-many k e p f =
      ap (λ (o : Option HeapNative). length (slots_or_none (option_map (λ (q : HeapNative). q.slots) o))) f
      ∙ many-made p (subst (λ (m : Heap). Among p m.natives) e (native_at-there k (h.natives_made + 1) p f)) (native_at-number k (h.natives_made + 1) p f)

-- one that stands at a key is there
numbered : (o : Option ℕ) (m : ℕ) → option_map native o ≡ Some (native m) → o ≡ Some m
numbered None m f = absurd (cc)
numbered (Some j) m f = ap (option_map number_of) f

pub keyed-many : (v : Keyed) → IsInOrder [] v → (h : Heap) (r n : ℕ) → IsWellFormed h → v.heap ≡ (make_native h r n).heap →
    (key : ℕ) → option_map native (number_at v key) ≡ Some (native (h.natives_made + 1)) → length (slots_or_none (slots_in v.heap (native (h.natives_made + 1)))) ≡ n
keyed-many v order h r n w e key is =
    let f = named-found v.heap (h.natives_made + 1) (number-named v [] key (h.natives_made + 1) order (numbered (number_at v key) (h.natives_made + 1) is)) in
    native-many h r n w v.heap e f.0 f.1
