-- WHAT REGISTERS, SLOTS AND ENTRIES OF WELL FORMED HEAPS HOLD is there.
use Rattle.std.proofs.Common.{arith, slice_index_or, ◌≡◌, ℕ, true, false, Option, Some, None, is_some, refl, sym, ◌∙◌, ap, subst, inl, ⊎_elim, option_map}
use Rattle.std.specs.Option.{option_and_then}
use Rattle.std.proofs.lemmas.Bool.{true≢false}
use Rattle.cc_lists.specs.Members.{Among}
use Rattle.cc_lists.proofs.Members.{Among-map, Among-map_cases, Among-left, Among-right, Among-append}
use Rattle.cc_lists.proofs.Filtering.{find-among, find-passes}
use Rattle.cc_names.specs.declared.name.Name.{Name}
use Rattle.cc_names.specs.declared.name.Name.TheVariants as name
use Rattle.cc_names.specs.declared.register.Reg.{Reg}
use Rattle.cc_names.specs.declared.register.Reg.TheVariants.{N, S, W}
use Rattle.cc_names.specs.declared.kind.Kind.{Kind}
use Rattle.cc_names.specs.declared.kind.Kind.TheVariants.{Map}
use Rattle.cc_names.specs.Names.{native, reflector, same_name}
use Rattle.cc_names.proofs.NameTests.{same_name-true, same_name-refl}
use Rattle.cc_model.specs.Slots.{contents}
use Rattle.cc_model.specs.Checks.{slots_or_none, slot_at, value_at, is_native_there, is_script_there, native_of}
use Rattle.cc_model.specs.Heap.{Heap, HeapNative, HeapScript, native_at, script_at, slots_in, slots_of_script, slots_of_kind, register, objects_of, source, has_reflector}
use Rattle.cc_model.specs.WellFormed.{IsWellFormed, native_names, script_names, names_there}
use Rattle.cc_lists.proofs.Searching.{find-some}
use Rattle.cc_laws_heap.proofs.Natives.{native_at-there}
use Rattle.cc_laws_heap.proofs.References.{native-there}
use Rattle.cc_laws_heap.proofs.Owning.{IsIn}
use Rattle.cc_laws_heap.proofs.Writes.{contents-at}
use Rattle.cc_laws_heap.proofs.EntriesKept.{value_in-among}
use Rattle.cc_laws_heap.proofs.ScriptsKept.{native-no_script}

-- what stands in a list stands in a longer one
pub IsIn-natives : (h : Heap) (x : Option Name) → IsIn (native_names h) x → IsIn (names_there h) x
IsIn-natives h x m = λ y i. Among-left y (native_names h) (script_names h) (m y i)

-- and so is a script object
IsIn-scripts : (h : Heap) (x : Option Name) → IsIn (script_names h) x → IsIn (names_there h) x
IsIn-scripts h x m = λ y i. Among-right y (native_names h) (script_names h) (m y i)

-- what is there and no script object is a native
pub IsIn-no_script : (h : Heap) (x : Option Name) → IsWellFormed h → IsIn (names_there h) x → is_script_there x ≡ false → IsIn (native_names h) x
IsIn-no_script h None w m e = λ y i. absurd i
IsIn-no_script h (Some (name.Native k)) w m e = λ y i. ⊎_elim
    (λ s. subst (λ z. Among z (native_names h)) s (native-there h k.0 w (m (native k.0) (inl refl)))) (λ n. absurd n) i
IsIn-no_script h _ w m e = absurd (true≢false e)

-- a name of a script object that is there is one of the script objects
script-there : (h : Heap) (x : Name) → Among x (names_there h) → ¬ ((k : ℕ) × (native k ≡ x)) → Among x (script_names h)
script-there h x m d = ⊎_elim
    (λ l. let f = Among-map_cases (λ (n : HeapNative). native n.number) h.natives x l in absurd (d (f.0.number, f.2)))
    (λ r. r)
    (Among-append x (native_names h) (script_names h) m)

-- what is there and no native is a script object
pub IsIn-no_native : (h : Heap) (x : Option Name) → IsIn (names_there h) x → is_native_there x ≡ false → IsIn (script_names h) x
IsIn-no_native h None m e = λ y i. absurd i
IsIn-no_native h (Some (name.Native k)) m e = absurd (true≢false e)
IsIn-no_native h (Some (name.Script k)) m e = λ y i. ⊎_elim
    (λ s. subst (λ z. Among z (script_names h)) s (script-there h (name.Script k) (m (name.Script k) (inl refl)) (λ p. absurd (cc)))) (λ n. absurd n) i
IsIn-no_native h (Some (name.Reflector k)) m e = λ y i. ⊎_elim
    (λ s. subst (λ z. Among z (script_names h)) s (script-there h (name.Reflector k) (m (name.Reflector k) (inl refl)) (λ p. absurd (cc)))) (λ n. absurd n) i

-- Registers

-- native registers hold natives that are there
pub native_register-there : (h : Heap) (d : ℕ) → IsWellFormed h → IsIn (native_names h) (register h (N d))
native_register-there h d w = λ y m. w.native_registers y (contents-at h.native_registers d y m)

-- script registers hold script objects that are there
pub script_register-there : (h : Heap) (d : ℕ) → IsWellFormed h → IsIn (script_names h) (register h (S d))
script_register-there h d w = λ y m. w.script_registers y (contents-at h.script_registers d y m)

-- any register holds what is there
register-there : (h : Heap) (r : Reg) → IsWellFormed h → IsIn (names_there h) (register h r)
register-there h (N d) w = IsIn-natives h (register h (N d)) (native_register-there h d w)
register-there h (S d) w = IsIn-scripts h (register h (S d)) (script_register-there h d w)
register-there h (W d) w = λ y m. absurd m

-- what a source gives is there, where it is none or a register
pub source-there : (h : Heap) (r : Option Reg) → IsWellFormed h → IsIn (names_there h) (source h r)
source-there h r w = grind (arith, register-there)

-- Slots

-- the slots of a script object that is there
slots_of_script-contents : (h : Heap) (o : HeapScript) → IsWellFormed h → Among o h.scripts → (y : Name) →
    Among y (contents (slots_or_none (slots_of_script o))) → Among y (script_names h)
slots_of_script-contents h o w m y i = go o.kind i
  where
    go : (kind : Kind) → Among y (contents (slots_or_none (slots_of_kind kind o.slots))) → Among y (script_names h)
    go Map j = absurd j
    go _ j = w.script_contents o y m j

-- the same of what is found by its name
found-contents : (h : Heap) (x : Name) → IsWellFormed h → (o : Option HeapScript) → script_at h x ≡ o → (y : Name) →
    Among y (contents (slots_or_none (option_and_then slots_of_script o))) → Among y (script_names h)
found-contents h x w None e y i = absurd i
found-contents h x w (Some o) e y i = slots_of_script-contents h o w (find-among (λ p. same_name p.name x) h.scripts o e) y i

-- what any object has in its slots is there
pub slots_in-there : (h : Heap) (x : Name) → IsWellFormed h → (y : Name) → Among y (contents (slots_or_none (slots_in h x))) → Among y (names_there h)
slots_in-there h (name.Native k) w y i = go (native_at h k.0) refl i
  where
    go : (o : Option HeapNative) → native_at h k.0 ≡ o → Among y (contents (slots_or_none (option_map (λ n. n.slots) o))) → Among y (names_there h)
    go None e j = absurd j
    go (Some n) e j = w.native_contents n y (native_at-there h k.0 n e) j
slots_in-there h x w y i =
    Among-right y (native_names h) (script_names h) (found-contents h x w (script_at h x) refl y i)

-- what a script object has in its slots are script objects
slots_in-script : (h : Heap) (x : Name) → IsWellFormed h → Among x (script_names h) → (y : Name) →
    Among y (contents (slots_or_none (slots_in h x))) → Among y (script_names h)
slots_in-script h (name.Native k) w m y i = absurd (native-no_script h k.0 w m)
slots_in-script h x w m y i = found-contents h x w (script_at h x) refl y i

-- what a slot of what a register holds holds is there
pub slot_at-there : (h : Heap) (r : Reg) (i : ℕ) → IsWellFormed h → IsIn (names_there h) (slot_at (objects_of h) r i)
slot_at-there h r i w = go (register h r)
  where
    go : (o : Option Name) → IsIn (names_there h) (slice_index_or (slots_or_none (option_and_then (slots_in h) o)) i None)
    go None = λ y m. absurd m
    go (Some x) = λ y m. slots_in-there h x w y (contents-at (slots_or_none (slots_in h x)) i y m)

-- what a slot of what a script register holds holds is a script object that is there
pub script_slot-there : (h : Heap) (d i : ℕ) → IsWellFormed h → IsIn (script_names h) (slot_at (objects_of h) (S d) i)
script_slot-there h d i w = go (register h (S d)) (script_register-there h d w)
  where
    go : (o : Option Name) → IsIn (script_names h) o → IsIn (script_names h) (slice_index_or (slots_or_none (option_and_then (slots_in h) o)) i None)
    go None t = λ y m. absurd m
    go (Some x) t = λ y m. slots_in-script h x w (t x (inl refl)) y (contents-at (slots_or_none (slots_in h x)) i y m)

-- Entries, natives behind reflectors, reflectors

-- the value of a map and a key is a script object that is there
pub value_at-there : (h : Heap) (m k : Option Name) → IsWellFormed h → IsIn (script_names h) (value_at (objects_of h) m k)
value_at-there h (Some m) (Some k) w = λ y i.
    let e = value_in-among h.entries m k y i in subst (λ z. Among z (script_names h)) e.2 (w.entries e.0 e.1).value
value_at-there h _ _ w = λ y i. absurd i

-- the native behind a reflector that is there is there
pub native_of-there : (h : Heap) (x : Option Name) → IsWellFormed h → IsIn (script_names h) x → IsIn (native_names h) (native_of x)
native_of-there h (Some (name.Reflector k)) w m = λ y i. ⊎_elim
    (λ s. subst (λ z. Among z (native_names h)) s (w.reflected k.0 (m (reflector k.0) (inl refl)))) (λ n. absurd n) i
native_of-there h _ w m = λ y i. absurd i

-- a native has a reflector where one of its name is among the script objects
pub has_reflector-there : (h : Heap) (k : ℕ) → has_reflector h k ≡ true → Among (reflector k) (script_names h)
has_reflector-there h k e = go (script_at h (reflector k)) refl e
  where
    go : (o : Option HeapScript) → script_at h (reflector k) ≡ o → is_some o ≡ true → Among (reflector k) (script_names h)
    go None f t = absurd (true≢false (sym t))
    go (Some o) f t =
        let named : o.name ≡ reflector k = same_name-true o.name (reflector k) (find-passes (λ p. same_name p.name (reflector k)) h.scripts o f) in
        subst (λ x. Among x (script_names h)) named
        (Among-map (λ (p : HeapScript). p.name) o h.scripts (find-among (λ p. same_name p.name (reflector k)) h.scripts o f))

-- and where it has none, none is there
pub has_reflector-none : (h : Heap) (k : ℕ) → has_reflector h k ≡ false → ¬ (Among (reflector k) (script_names h))
has_reflector-none h k e m =
    let f = Among-map_cases (λ (o : HeapScript). o.name) h.scripts (reflector k) m in
    let g = find-some (λ (p : HeapScript). same_name p.name (reflector k)) h.scripts f.0 f.1
    (ap (λ x. same_name x (reflector k)) f.2 ∙ same_name-refl (reflector k)) in
    true≢false (sym (rw g.1 refl) ∙ e)
