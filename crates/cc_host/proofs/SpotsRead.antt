-- WHAT IS WRITTEN IS READ.
use Rattle.std.proofs.Common.{arith, ◌≡◌, ℕ, ◌+◌, ◌<◌, true, cond, [], ◌∷◌, ◌++◌, length, set, get_or, Option, Some, None, option_map, refl, ◌∙◌, ap, subst, if◌then◌else◌, ◌==◌}
use Rattle.std.specs.List.{find}
use Rattle.std.specs.Option.{option_and_then, option_or}
use Rattle.std.proofs.lemmas.List.{get_or-set_same}
use Rattle.std.proofs.lemmas.List.Folds.{find-append}
use Rattle.cc_lists.specs.Members.{Among}
use Rattle.cc_lists.proofs.Filtering.{find-among, find-passes}
use Rattle.cc_lists.proofs.Members.{Among-map}
use Rattle.cc_names.specs.declared.name.Name.{Name}
use Rattle.cc_names.specs.declared.name.Name.TheVariants as name
use Rattle.cc_names.specs.declared.kind.Kind.{Kind}
use Rattle.cc_names.specs.declared.kind.Kind.TheVariants.{Plain, Reflector, Map, Proxy}
use Rattle.cc_names.specs.Names.{object, reflector, same_name}
use Rattle.cc_names.specs.Places.{where_set}
use Rattle.cc_names.proofs.NameTests.{same_name-refl, same_name-true}
use Rattle.cc_model.specs.Slots.{Slots}
use Rattle.cc_model.specs.Checks.{slots_or_none}
use Rattle.cc_model.specs.Heap.{Heap, HeapNative, HeapScript, change_script, delegate_at, native_at, new_script, preserve, script_at, set_slot, slots_in, slots_of_kind, slots_of_script, with_script_slot}
use Rattle.cc_model.specs.Effects.{make_proxy, set_entry}
use Rattle.cc_model.specs.WellFormed.{IsWellFormed, script_names}
use Rattle.cc_laws_heap.proofs.Face.{native_at-change_same}
use Rattle.cc_host.specs.Spots.{HasSpot, IsWritten, Spot, if_reflector, reads}
use Rattle.cc_host.proofs.SpotsWritten.{script_slots, scripts-found, value-none, value-own}
use Rattle.cc_host.proofs.SpotsCalls.{native_slot-own, not-gone}

-- A slot of a script object that has it

module _ (h : Heap) (x : Name) (i : ℕ) (y : Option Name) where
  name-kept : (o : HeapScript) → (if same_name o.name x then with_script_slot i y o else o).name ≡ o.name
  name-kept o = grind arith

  kinds : (kind : Kind) (ss : Slots) → i < length (slots_or_none (slots_of_kind kind ss)) → get_or (slots_or_none (slots_of_kind kind (set ss i y))) i None ≡ y
  kinds Plain ss l = get_or-set_same ss i y None l
  kinds Reflector ss l = get_or-set_same ss i y None l
  kinds Map ss l = absurd (omega (arith, l))
  kinds Proxy ss l = get_or-set_same ss i y None l

  pub script_slot-own : i < length (script_slots h x) → get_or (script_slots (change_script h x (with_script_slot i y)) x) i None ≡ y
  script_slot-own within =
      ap (λ o. get_or (slots_or_none (option_and_then slots_of_script o)) i None) (scripts-found h (λ (o : HeapScript). if same_name o.name x then with_script_slot i y o else o) name-kept x)
      ∙ go (script_at h x) refl within
    where
      go : (o : Option HeapScript) → script_at h x ≡ o → i < length (slots_or_none (option_and_then slots_of_script o)) →
          get_or (slots_or_none (option_and_then slots_of_script (option_map (λ (p : HeapScript). if same_name p.name x then with_script_slot i y p else p) o))) i None ≡ y
      go None e l = absurd (omega (arith, l))
      go (Some o) e l =
          let t : same_name o.name x ≡ true = find-passes (λ (p : HeapScript). same_name p.name x) h.scripts o e in
          ap (λ b. get_or (slots_or_none (slots_of_script (if b then with_script_slot i y o else o))) i None) t ∙ kinds o.kind o.slots l

-- A REFLECTOR PRESERVED, where its native is there
pub preserved-written : (h k : Heap) (x : Name) → IsWellFormed k → k.natives ≡ (preserve h (Some x)).natives → IsWritten (Spot.preserved x) (if_reflector x) k
preserved-written h k (name.Native j) w e = record { holds = λ has. refl }
preserved-written h k (name.Script j) w e = record { holds = λ has. refl }
preserved-written h k (name.Reflector j) w e = record { holds = λ has. ap (option_and_then (λ (n : HeapNative). where_set n.preserved (Some (reflector j.0)))) found ∙ go (native_at h j.0) refl has }
  where
    found : native_at k j.0 ≡ option_map (λ (n : HeapNative). record n { preserved = true }) (native_at h j.0)
    found = ap (find (λ (n : HeapNative). n.number == j.0)) e ∙ native_at-change_same h j.0 (λ (n : HeapNative). record n { preserved = true }) (λ n. refl)

    go : (o : Option HeapNative) → native_at h j.0 ≡ o → HasSpot k (Spot.preserved (name.Reflector j)) →
        option_and_then (λ (n : HeapNative). where_set n.preserved (Some (reflector j.0))) (option_map (λ (n : HeapNative). record n { preserved = true }) o) ≡ Some (reflector j.0)
    go None d has = absurd (not-gone k w (Spot.preserved (name.Reflector j)) has (found ∙ ap (option_map (λ (n : HeapNative). record n { preserved = true })) d))
    go (Some n) d has = refl

-- A SLOT of an object that has it
pub slot-own : (h : Heap) (x : Name) (i : ℕ) (y : Option Name) → i < length (slots_or_none (slots_in h x)) → reads (set_slot h (Some x) i y) (Spot.slot x i) ≡ y
slot-own h (name.Native k) i y within = native_slot-own h k.0 i y within
slot-own h (name.Script k) i y within = script_slot-own h (object k.0) i y within
slot-own h (name.Reflector k) i y within = script_slot-own h (reflector k.0) i y within

-- AN ENTRY SET
pub set_entry-written : (h : Heap) (m k v : Name) → reads (set_entry h (Some m) (Some k) (Some v)) (Spot.entry m k) ≡ Some v
set_entry-written h m k v = value-own h.entries m k (delegate_at h k) v

-- or taken out
pub unset_entry-written : (h : Heap) (m k : Name) → reads (set_entry h (Some m) (Some k) None) (Spot.entry m k) ≡ None
unset_entry-written h m k = value-none h.entries m k

-- what is not there is not found
not-found : (h : Heap) (x : Name) → ¬ (Among x (script_names h)) → script_at h x ≡ None
not-found h x none = go (script_at h x) refl
  where
    go : (o : Option HeapScript) → script_at h x ≡ o → o ≡ None
    go None e = refl
    go (Some o) e =
        let named : o.name ≡ x = same_name-true o.name x (find-passes (λ (p : HeapScript). same_name p.name x) h.scripts o e) in
        absurd (none (subst (λ z. Among z (script_names h)) named (Among-map (λ (p : HeapScript). p.name) o h.scripts (find-among (λ (p : HeapScript). same_name p.name x) h.scripts o e))))

-- THE DELEGATE OF A PROXY that is made
pub proxy-written : (h : Heap) (r : ℕ) (x : Name) → IsWellFormed h → reads (make_proxy h r (Some x)) (Spot.delegate (object (h.scripts_made + 1))) ≡ Some x
proxy-written h r x w = go x
  where
    none : script_at h (object (h.scripts_made + 1)) ≡ None
    none = not-found h (object (h.scripts_made + 1)) (λ i. omega (arith, w.object_numbers (h.scripts_made + 1) i))

    found : (y : Name) → option_and_then (λ (o : HeapScript). o.delegate)
        (find (λ (o : HeapScript). same_name o.name (object (h.scripts_made + 1))) (h.scripts ++ new_script (object (h.scripts_made + 1)) Proxy 0 (Some y) ∷ [])) ≡ Some y
    found y = ap (option_and_then (λ (o : HeapScript). o.delegate))
        (find-append (λ (o : HeapScript). same_name o.name (object (h.scripts_made + 1))) h.scripts (new_script (object (h.scripts_made + 1)) Proxy 0 (Some y) ∷ [])
        ∙ (ap (λ o. option_or o (cond (same_name (object (h.scripts_made + 1)) (object (h.scripts_made + 1))) (Some (new_script (object (h.scripts_made + 1)) Proxy 0 (Some y))) None)) none
        ∙ ap (λ b. cond b (Some (new_script (object (h.scripts_made + 1)) Proxy 0 (Some y))) None) (same_name-refl (object (h.scripts_made + 1)))))

    go : (y : Name) → reads (make_proxy h r (Some y)) (Spot.delegate (object (h.scripts_made + 1))) ≡ Some y
    go (name.Native k) = found (name.Native k)
    go (name.Script k) = found (name.Script k)
    go (name.Reflector k) = found (name.Reflector k)
