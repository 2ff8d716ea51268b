-- SCRIPT OBJECTS MADE, NATIVES WRAPPED, ENTRIES SET.
use Rattle.std.proofs.Common.{◌≡◌, ℕ, ◌+◌, ◌<◌, ◌≤◌, Bool, true, false, List, Option, Some, None, is_none, refl, sym, ◌∙◌, ap, subst, inl, ⊎_elim, arith, is_some, option_to_list}
use Rattle.std.specs.Option.{option_and_then}
use Rattle.cc_lists.specs.Members.{Among}
use Rattle.cc_lists.proofs.Members.{Among-map_cases}
use Rattle.cc_lists.proofs.Filtering.{find-among, find-passes}
use Rattle.cc_names.specs.declared.name.Name.{Name}
use Rattle.cc_names.specs.declared.name.Name.TheVariants as name
use Rattle.cc_names.specs.declared.register.Reg.TheVariants.{S}
use Rattle.cc_names.specs.declared.kind.Kind.{Kind}
use Rattle.cc_names.specs.declared.kind.Kind.TheVariants.{Reflector, Map, Proxy as proxy_kind}
use Rattle.cc_names.specs.Names.{native, object, reflector, same_name, number_of}
use Rattle.cc_names.proofs.NameTests.{same_name-true, same_name-refl}
use Rattle.cc_model.specs.Slots.{empty_slots, reflector_slots}
use Rattle.cc_model.specs.Entries.{entry, with_entry, Entry}
use Rattle.cc_model.specs.Checks.{is_map_in, reflector_of}
use Rattle.cc_model.specs.Heap.{Heap, HeapScript, script_at, slots_in, slots_of_script, slots_of_kind, set_register, objects_of, has_reflector, preserve, delegate_at, new_script}
use Rattle.cc_model.specs.Cascade.{add_ref}
use Rattle.cc_model.specs.Exposure.{exposed}
use Rattle.cc_model.specs.Effects.{make_object, with_reflector, wrapped, set_entry, make_proxy}
use Rattle.cc_model.specs.WellFormed.{IsWellFormed, FitsName, HasMembers, native_names, script_names, is_proxy_kind}
use Rattle.cc_laws_heap.specs.Sound.{IsSound}
use Rattle.cc_lists.proofs.Searching.{find-some}
use Rattle.cc_laws_heap.proofs.Kept.{with_entries}
use Rattle.cc_laws_heap.proofs.Making.{contents-empty_none, IsNewScript, script_names-new_script}
use Rattle.cc_laws_heap.proofs.HoldsTheSame.{HoldsTheSame-add_ref, native_names-alike}
use Rattle.cc_laws_heap.proofs.Owning.{IsIn, add_ref-sound}
use Rattle.cc_laws_heap.proofs.Writes.{script_register-sound, set_preserved-sound}
use Rattle.cc_laws_heap.proofs.MadeSound.{with_script-sound}
use Rattle.cc_laws_heap.proofs.EntriesKept.{with_entry-sound, without_entry-sound}
use Rattle.cc_laws_heap.proofs.ScriptsKept.{native-no_script, script_names-exposed, exposed-sound, script_names-preserve, preserve-room, preserve-sound}
use Rattle.cc_laws_heap.proofs.Holding.{has_reflector-there, has_reflector-none}
use Rattle.cc_laws_heap.proofs.ScriptNames.{delegate_at-found}

-- one name stands in a list where it is there
IsIn-one : (names : List Name) (x : Name) → Among x names → IsIn names (Some x)
IsIn-one names x m = λ y i. ⊎_elim (λ e. subst (λ z. Among z names) e m) (λ n. absurd n) i

-- Plain objects, weak maps and proxies

-- a delegate that an object of a kind may have: a script object that is there, where it is a proxy
pub record IsDelegate (h : Heap) (kind : Kind) (d : Option Name) : Type 0 where
  pub of_kind : is_some d ≡ is_proxy_kind kind
  pub there : IsIn (script_names h) d

-- no delegate, of all but proxies
pub no_delegate : (h : Heap) (kind : Kind) → is_proxy_kind kind ≡ false → IsDelegate h kind None
no_delegate h kind e = record { of_kind = sym e; there = λ y m. absurd m }

module _ (h : Heap) (kind : Kind) (n : ℕ) (d : Option Name) (w : IsWellFormed h) (fits : FitsName (object (h.scripts_made + 1)) kind (empty_slots n))
    (its_delegate : IsDelegate h kind d) where
  -- an object with the next number may go last
  pub IsNewScript-object : h.scripts_made < h.limits.scripts → IsNewScript h (new_script (object (h.scripts_made + 1)) kind n d) (h.scripts_made + 1)
  IsNewScript-object room = record {
    unknown = λ m. let made : h.scripts_made + 1 ≤ h.scripts_made = (w.object_numbers (h.scripts_made + 1) m).1 in absurd (omega arith);
    fits = fits;
    empty = contents-empty_none n;
    delegate = its_delegate.of_kind;
    delegate_there = λ x e. its_delegate.there x (subst (λ y. Among x (option_to_list y)) (sym e) (inl refl));
    number = λ k e. let same : h.scripts_made + 1 ≡ k = ap number_of e in (omega arith, omega arith);
    behind = λ k e. absurd (cc);
    more = omega arith;
    allowed = omega arith;
  }

-- A script object with a number is made, and a script register holds it.
pub make_object-sound : (owned : List ℕ) (h : Heap) (d : ℕ) (kind : Kind) (n : ℕ) (its_delegate : Option Name) →
    FitsName (object (h.scripts_made + 1)) kind (empty_slots n) → IsDelegate h kind its_delegate →
    h.scripts_made < h.limits.scripts → IsSound owned h → IsSound owned (make_object h d kind n its_delegate)
make_object-sound owned h d kind n its_delegate fits is_one room s = search (script_register-sound, IsIn-one, script_names-new_script, with_script-sound, IsNewScript-object)

-- A proxy of a script object that is there is made, which is preserved first where it is a reflector.
pub make_proxy-sound : (owned : List ℕ) (h : Heap) (d : ℕ) (x : Option Name) → IsIn (script_names h) x → h.scripts_made < h.limits.scripts → IsSound owned h →
    IsSound owned (make_proxy h d x)
make_proxy-sound owned h d None there room s = s
make_proxy-sound owned h d (Some x) there room s = make_object-sound owned (preserve h (Some x)) d proxy_kind 0 (Some x) refl
    (record { of_kind = refl; there = subst (λ xs. IsIn xs (Some x)) (sym (script_names-preserve h (Some x))) there })
    (preserve-room h (Some x) room) (preserve-sound owned h (Some x) there s)

-- Reflectors

-- a native that is there, and has none, may get a reflector
IsNewScript-reflector : (h : Heap) (k : ℕ) → IsWellFormed h → Among (native k) (native_names h) → has_reflector h k ≡ false →
    IsNewScript (add_ref h k) (new_script (reflector k) Reflector reflector_slots None) h.scripts_made
IsNewScript-reflector h k w there none = record {
  unknown = has_reflector-none h k none;
  fits = refl;
  empty = contents-empty_none reflector_slots;
  delegate = refl;
  delegate_there = λ x e. absurd (cc);
  number = λ j e. absurd (cc);
  behind = λ j e. subst (λ i. Among (native i) (native_names (add_ref h k))) (ap number_of e)
      (subst (λ xs. Among (native k) xs) (sym (native_names-alike h (add_ref h k) (HoldsTheSame-add_ref h k))) there);
  more = omega arith;
  allowed = w.scripts_allowed;
}

-- A native gets a reflector, which refers to it.
pub with_reflector-sound : (owned : List ℕ) (h : Heap) (k : ℕ) → Among (native k) (native_names h) → has_reflector h k ≡ false → IsSound owned h →
    IsSound owned (with_reflector h k)
with_reflector-sound owned h k there none s = with_script-sound owned (add_ref h k) (new_script (reflector k) Reflector reflector_slots None) h.scripts_made
    (IsNewScript-reflector h k s.well_formed there none) (add_ref-sound owned h k there s)

-- A native is wrapped, and a script register holds its reflector.
pub wrapped-sound : (owned : List ℕ) (h : Heap) (d : ℕ) (x : Option Name) → IsIn (native_names h) x → IsSound owned h →
    IsSound owned (set_register (wrapped h x) (S d) (reflector_of x))
wrapped-sound owned h d None there s = script_register-sound owned h d None (λ y m. absurd m) s
wrapped-sound owned h d (Some (name.Script k)) there s = script_register-sound owned h d None (λ y m. absurd m) s
wrapped-sound owned h d (Some (name.Reflector k)) there s = script_register-sound owned h d None (λ y m. absurd m) s
wrapped-sound owned h d (Some (name.Native k)) there s = go (has_reflector h k.0) refl
  where
    go : (b : Bool) → has_reflector h k.0 ≡ b →
        IsSound owned (set_register (elim b [ true ↦ exposed h (Some (reflector k.0)) | false ↦ with_reflector h k.0 ]) (S d) (Some (reflector k.0)))
    go true e = script_register-sound owned (exposed h (Some (reflector k.0))) d (Some (reflector k.0))
        (subst (λ xs. IsIn xs (Some (reflector k.0))) (sym (script_names-exposed h (Some (reflector k.0)) s.well_formed))
        (IsIn-one (script_names h) (reflector k.0) (has_reflector-there h k.0 e)))
        (exposed-sound owned h (Some (reflector k.0)) s)
    go false e = script_register-sound owned (with_reflector h k.0) d (Some (reflector k.0))
        (IsIn-one (script_names (with_reflector h k.0)) (reflector k.0)
        (script_names-new_script h (new_script (reflector k.0) Reflector reflector_slots None) h.scripts_made))
        (with_reflector-sound owned h k.0 (there (native k.0) (inl refl)) e s)

-- Entries

-- what is found and has no slots is a weak map
found-map : (h : Heap) (x : Name) → Among x (script_names h) → is_none (option_and_then slots_of_script (script_at h x)) ≡ true →
    (o : HeapScript) × Among o h.scripts × (o.name ≡ x) × (o.kind ≡ Map)
found-map h x m e = go (script_at h x) refl e
  where
    f : (o : HeapScript) × Among o h.scripts × (o.name ≡ x)
    f = Among-map_cases (λ (o : HeapScript). o.name) h.scripts x m

    some : (o : HeapScript) × (script_at h x ≡ Some o)
    some = find-some (λ (p : HeapScript). same_name p.name x) h.scripts f.0 f.1 (ap (λ y. same_name y x) f.2 ∙ same_name-refl x)

    kind : (q : Kind) (o : HeapScript) → is_none (slots_of_kind q o.slots) ≡ true → q ≡ Map
    kind q o t = grind arith

    go : (o : Option HeapScript) → script_at h x ≡ o → is_none (option_and_then slots_of_script o) ≡ true →
        (o : HeapScript) × Among o h.scripts × (o.name ≡ x) × (o.kind ≡ Map)
    go None r t = let both : None ≡ Some some.0 = sym r ∙ some.1 in absurd (cc)
    go (Some o) r t = (
      o,
      find-among (λ p. same_name p.name x) h.scripts o r,
      same_name-true o.name x (find-passes (λ p. same_name p.name x) h.scripts o r),
      kind o.kind o t,
    )

-- what is there and has no slots is a weak map
map-there : (h : Heap) (x : Name) → IsWellFormed h → Among x (script_names h) → is_none (slots_in h x) ≡ true →
    (o : HeapScript) × Among o h.scripts × (o.name ≡ x) × (o.kind ≡ Map)
map-there h (name.Native k) w m e = absurd (native-no_script h k.0 w m)
map-there h x w m e = found-map h x m e

-- An entry of a weak map is set, its key preserved, or taken out.
pub set_entry-sound : (owned : List ℕ) (h : Heap) (m k v : Option Name) → IsIn (script_names h) m → IsIn (script_names h) k →
    IsIn (script_names h) v →
    is_map_in (objects_of h) m ≡ true → IsSound owned h → IsSound owned (set_entry h m k v)
set_entry-sound owned h None k v a b c is_map s = s
set_entry-sound owned h (Some m) None v a b c is_map s = s
set_entry-sound owned h (Some m) (Some k) None a b c is_map s = without_entry-sound owned h m k s
set_entry-sound owned h (Some m) (Some k) (Some v) a b c is_map s = go k (b k (inl refl)) set_first
  where
    members : HasMembers h (entry m k (delegate_at h k) v)
    members = record {
      the_map = map-there h m s.well_formed (a m (inl refl)) is_map;
      key = b k (inl refl);
      value = c v (inl refl);
      delegate = λ o i is. sym (delegate_at-found h s.well_formed o i) ∙ ap (delegate_at h) is;
    }

    entries : List Entry
    entries = with_entry h.entries m k (delegate_at h k) v

    set_first : IsSound owned (with_entries h entries)
    set_first = with_entry-sound owned h m k (delegate_at h k) v members s

    go : (x : Name) → Among x (script_names h) → IsSound owned (with_entries h entries) → IsSound owned (record (preserve h (Some x)) { entries = entries })
    go (name.Reflector j) t u = set_preserved-sound owned (with_entries h entries) j.0 t u
    go _ t u = u
