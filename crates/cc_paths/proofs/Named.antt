-- WHAT STANDS FOR OBJECTS OF THE HEAPS, by their names.
use Rattle.std.specs.Prelude.{slice_get, IsSome, IsTrue}
use Rattle.std.proofs.Common.{◌≡◌, ℕ, true, List, Option, Some, None, option_map, option_and_then, is_some, refl, sym, ◌∙◌, ap, subst}
use Rattle.cc_lists.proofs.Places.{place-among}
use Rattle.cc_names.specs.declared.name.Name.{Name}
use Rattle.cc_names.specs.declared.number.NKey.{NKey}
use Rattle.cc_names.specs.declared.number.SKey.{SKey}
use Rattle.cc_names.specs.Names.{is_native, native}
use Rattle.cc_model.specs.Checks.{slots_or_none}
use Rattle.cc_model.specs.Entries.{Entry}
use Rattle.cc_model.specs.Places.{places_in}
use Rattle.cc_counted.specs.declared.held.Held.{Held}
use Rattle.cc_counted.specs.declared.held.Held.TheVariants as held
use Rattle.cc_counted.specs.Counts.{held_of_native}
use Rattle.cc_script.specs.Objects.{Object, is_there, object_at, name_at}
use Rattle.cc_weakmaps.specs.Entries.{KeyedEntry}
use Rattle.cc_marking.specs.Marking.{IsEntryThere}
use Rattle.cc_heaps.specs.Keyed.{Keyed, IsInOrder, name_held, named_entry, number_at}
use Rattle.cc_heaps.specs.Changes.{IsNativeThere, IsScriptThere, IsThere, held_name, native_name, script_name}
use Rattle.cc_heaps.specs.Places.{places_at}
use Rattle.cc_heaps.proofs.Reaching.{the_name-there}
use Rattle.std.proofs.lemmas.Option.{slice_get-map}
use Rattle.cc_search.specs.Named.{AreMembers, IsHeldAs}

-- WHAT IS THERE has a name
pub there-named : (v : Keyed) (object : Held) → IsThere v (Some object) → (x : Name) × (held_name v (Some object) ≡ Some x)
there-named v (held.Native key) t = go (number_at v key.0) t
  where
    go : (o : Option ℕ) → IsSome o → (x : Name) × (option_map native o ≡ Some x)
    go None k = absurd (cc)
    go (Some n) k = (native n, refl)
there-named v (held.Script key) t = go (object_at v.scripts key.0) t
  where
    go : (o : Option Object) → IsTrue (is_some o) → (x : Name) × (option_map (λ p. p.name) o ≡ Some x)
    go None k = absurd (cc)
    go (Some p) k = (p.name, refl)

-- what has a name is there
pub named-there : (v : Keyed) (object : Held) → IsSome (held_name v (Some object)) → IsThere v (Some object)
named-there v (held.Native key) e = go (number_at v key.0) e
  where
    go : (o : Option ℕ) → IsSome (option_map native o) → IsSome o
    go None k = absurd (cc)
    go (Some n) k = refl
named-there v (held.Script key) e = go (object_at v.scripts key.0) e
  where
    go : (o : Option Object) → IsSome (option_map (λ p. p.name) o) → IsTrue (is_some o)
    go None k = absurd (cc)
    go (Some p) k = refl

-- a native has the name of one
pub native-named : (v : Keyed) (object : Held) (key : NKey) (x : Name) → object ≡ held.Native key → held_name v (Some object) ≡ Some x → is_native x ≡ true
native-named v object key x is named = go (number_at v key.0) (ap (λ h. held_name v (Some h)) (sym is) ∙ named)
  where
    go : (o : Option ℕ) → option_map native o ≡ Some x → is_native x ≡ true
    go None k = absurd (cc)
    go (Some n) k = let it : native n ≡ x = cc in ap is_native (sym it)

-- the name of the script object at a key
pub script-named : (v : Keyed) (object : Held) (key : SKey) (x : Name) → object ≡ held.Script key → held_name v (Some object) ≡ Some x → name_at v.scripts key.0 ≡ Some x
script-named v object key x is named = ap (λ h. held_name v (Some h)) (sym is) ∙ named

-- what stands where a name is held
pub held-as : (v : Keyed) (object : Option Held) (content : Option Name) → held_name v object ≡ content → IsThere v object → IsHeldAs (λ o. held_name v (Some o)) content object
held-as v None content e t = ap (option_map (λ (x : Name). Some x)) e
held-as v (Some object) content e t =
    let x = there-named v object t in
    ap Some x.1 ∙ ap (option_map (λ (y : Name). Some y)) (sym x.1 ∙ e)

-- what registers hold
pub native-held : (v : Keyed) (o : Option NKey) → held_name v (held_of_native o) ≡ native_name v o
native-held v None = refl
native-held v (Some key) = refl

pub native-held_there : (v : Keyed) (o : Option NKey) → IsNativeThere v o → IsThere v (held_of_native o)
native-held_there v None t = tt
native-held_there v (Some key) t = t

pub script-held : (v : Keyed) (o : Option SKey) → held_name v (option_map held.Script o) ≡ script_name v o
script-held v None = refl
script-held v (Some key) = refl

pub script-held_there : (v : Keyed) (o : Option SKey) → IsScriptThere v o → IsThere v (option_map held.Script o)
script-held_there v None t = tt
script-held_there v (Some key) t = t

-- the places of what has a name
pub places-named : (v : Keyed) (object : Held) (x : Name) → held_name v (Some object) ≡ Some x → places_at v object ≡ slots_or_none (places_in v.heap x)
places-named v object x named = ap (λ o. slots_or_none (option_and_then (places_in v.heap) o)) named

-- what stands for the members of an entry
pub entry-members : (v : Keyed) (owned : List ℕ) → IsInOrder owned v → (i : ℕ) (m k x : SKey) (d : Option SKey) →
    slice_get v.entries i ≡ Some (record { the_map = m.0; key = k.0; delegate = option_map (λ (j : SKey). j.0) d; value = x.0 }) → (e : Entry) → slice_get v.heap.entries i ≡ Some e →
    AreMembers (λ o. held_name v (Some o)) e (held.Script m, held.Script k, option_map held.Script d, held.Script x)
entry-members v owned order i m k x d at e here =
    subst (λ f. AreMembers (λ o. held_name v (Some o)) f (held.Script m, held.Script k, option_map held.Script d, held.Script x)) same (record {
      the_map = the_name-there v.scripts m.0 there.the_map;
      key = the_name-there v.scripts k.0 there.key;
      delegate = delegate d (λ j is. there.delegate j.0 (ap (option_map (λ (l : SKey). l.0)) is));
      value = the_name-there v.scripts x.0 there.value;
    })
  where
    keyed : KeyedEntry
    keyed = record { the_map = m.0; key = k.0; delegate = option_map (λ (j : SKey). j.0) d; value = x.0 }

    there : IsEntryThere v.scripts keyed
    there = order.entries_there keyed (place-among keyed v.entries i at)

    same : named_entry v.scripts keyed ≡ e
    same =
        let one : slice_get v.heap.entries i ≡ Some (named_entry v.scripts keyed) =
        ap (λ es. slice_get es i) order.entries ∙ (slice_get-map (named_entry v.scripts) v.entries i ∙ ap (option_map (named_entry v.scripts)) at) in
        let both : Some (named_entry v.scripts keyed) ≡ Some e = sym one ∙ here in
        cc

    delegate : (o : Option SKey) → ((j : SKey) → o ≡ Some j → IsTrue (is_there v.scripts j.0)) →
        IsHeldAs (λ p. held_name v (Some p)) (name_held v.scripts (option_map (λ (j : SKey). j.0) o)) (option_map held.Script o)
    delegate None t = refl
    delegate (Some j) t = held-as v (Some (held.Script j)) (name_at v.scripts j.0) refl (t j refl)
