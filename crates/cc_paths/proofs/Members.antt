-- THE ENTRIES OF AN OBJECT by its key are those of which it is a member by name; a native is a member of none.
use Rattle.std.specs.Prelude.{slice_get, IsTrue}
use Rattle.std.proofs.Common.{◌≡◌, ℕ, zero, suc, ◌==◌, Bool, true, false, not, ◌||◌, List, length, Option, Some, None, option_map, refl, sym, ◌∙◌, ap}
use Rattle.std.proofs.lemmas.Bool.{eqb-true, eq-eqb, false≢true}
use Rattle.std.proofs.lemmas.List.{length-map}
use Rattle.std.proofs.lemmas.Option.{slice_get-map}
use Rattle.cc_lists.specs.Members.{Among}
use Rattle.cc_lists.proofs.Members.{Among-map_cases}
use Rattle.cc_lists.proofs.CountsOf.{false-left}
use Rattle.cc_lists.proofs.Places.{place-among}
use Rattle.cc_names.specs.declared.name.Name.{Name}
use Rattle.cc_names.specs.Names.{is_native, is_script, same_name}
use Rattle.cc_names.proofs.NameTests.{same_name-true, same_name-exact}
use Rattle.cc_model.specs.Entries.{Entry}
use Rattle.cc_model.specs.Heap.{Heap, HeapScript}
use Rattle.cc_model.specs.WellFormed.{IsWellFormed}
use Rattle.cc_model.specs.Derivations.{is_delegate, is_member}
use Rattle.cc_laws_heap.proofs.Face.{entry-named, script_names-named}
use Rattle.cc_script.specs.Objects.{Object, is_there, name_at}
use Rattle.cc_weakmaps.specs.Entries.{KeyedEntry}
use Rattle.cc_weakmaps.specs.Index.{has_object, is_it}
use Rattle.cc_weakmaps.specs.Index as keyed
use Rattle.cc_heaps.specs.Keyed.{Keyed, IsInOrder, name_held, named_entry, the_name_at}
use Rattle.cc_heaps.proofs.Reaching.{HasOneName, key-named, name_at-found, same-tests, the_name-is, the_name-there}
use Rattle.cc_heaps.proofs.ScriptsChanged.{HasOneName-named}
use Rattle.cc_search.specs.Members.{IsPlaceOf, place_below}

-- Members by key and by name

-- whether what stands at a key has a name
same-key : (objects : List Object) → HasOneName objects → (a key : ℕ) (x : Name) → IsTrue (is_there objects a) → name_at objects key ≡ Some x →
    same_name (the_name_at objects a) x ≡ (a == key)
same-key objects one a key x there at =
    same-tests (same_name (the_name_at objects a) x) (a == key)
    (λ t.
    let o = name_at-found objects a x (the_name-there objects a there ∙ ap Some (same_name-true (the_name_at objects a) x t)) in
    eq-eqb a key (sym o.2 ∙ key-named objects one key x at o.0 o.1 o.3))
    (λ t.
    (same_name-exact (the_name_at objects a) x).1 (the_name-is objects a x (ap (name_at objects) (eqb-true a key t) ∙ at)))

same-delegate : (objects : List Object) → HasOneName objects → (d : Option ℕ) (key : ℕ) (x : Name) → ((a : ℕ) → d ≡ Some a → IsTrue (is_there objects a)) → name_at objects key ≡ Some x →
    is_delegate (name_held objects d) x ≡ is_it key d
same-delegate objects one None key x there at = refl
same-delegate objects one (Some a) key x there at =
    ap (λ o. is_delegate o x) (the_name-there objects a (there a refl)) ∙ same-key objects one a key x (there a refl) at

either-way : (a b c : Bool) → (a || b || c) ≡ ((a || b) || c)
either-way true b c = refl
either-way false true c = refl
either-way false false c = refl

pub member-named : (v : Keyed) (owned : List ℕ) → IsInOrder owned v → (key : ℕ) (x : Name) → name_at v.scripts key ≡ Some x → (e : KeyedEntry) → Among e v.entries →
    is_member x (named_entry v.scripts e) ≡ has_object key e
member-named v owned order key x at e m =
    let one = HasOneName-named v.heap v.scripts order.named order.sound.well_formed in
    let there = order.entries_there e m in
    (λ i. same-key v.scripts one e.the_map key x there.the_map at i || same-key v.scripts one e.key key x there.key at i || same-delegate v.scripts one e.delegate key x there.delegate at i)
    ∙ either-way (e.the_map == key) (e.key == key) (is_it key e.delegate)

-- PLACES BY KEY AND BY NAME are the same

member-at : (v : Keyed) (owned : List ℕ) → IsInOrder owned v → (key : ℕ) (x : Name) → name_at v.scripts key ≡ Some x → (i : ℕ) →
    option_map (is_member x) (slice_get v.heap.entries i) ≡ option_map (has_object key) (slice_get v.entries i)
member-at v owned order key x at i =
    ap (λ es. option_map (is_member x) (slice_get es i)) order.entries
    ∙ (ap (option_map (is_member x)) (slice_get-map (named_entry v.scripts) v.entries i) ∙ go (slice_get v.entries i) refl)
  where
    go : (o : Option KeyedEntry) → slice_get v.entries i ≡ o → option_map (is_member x) (option_map (named_entry v.scripts) o) ≡ option_map (has_object key) o
    go None e = refl
    go (Some d) e = ap Some (member-named v owned order key x at d (place-among d v.entries i e))

pub place-by_name : (v : Keyed) (owned : List ℕ) → IsInOrder owned v → (key : ℕ) (x : Name) → name_at v.scripts key ≡ Some x → (i : ℕ) → IsPlaceOf v.heap.entries x i →
    keyed.IsPlaceOf v.entries key i
place-by_name v owned order key x at i h = sym (member-at v owned order key x at i) ∙ h

pub below-by_name : (v : Keyed) (owned : List ℕ) → IsInOrder owned v → (key : ℕ) (x : Name) → name_at v.scripts key ≡ Some x → (n : ℕ) →
    keyed.place_below v.entries key n ≡ place_below v.heap.entries x n
below-by_name v owned order key x at zero = refl
below-by_name v owned order key x at (suc n) =
    ap (λ o. elim o [ None ↦ keyed.place_below v.entries key n | Some b ↦ elim b [ true ↦ Some n | false ↦ keyed.place_below v.entries key n ] ]) (sym (member-at v owned order key x at n))
    ∙ ap (λ p. elim (option_map (is_member x) (slice_get v.heap.entries n)) [ None ↦ p | Some b ↦ elim b [ true ↦ Some n | false ↦ p ] ]) (below-by_name v owned order key x at n)

pub entries-length : (v : Keyed) (owned : List ℕ) → IsInOrder owned v → length v.entries ≡ length v.heap.entries
entries-length v owned order = sym (length-map v.entries (named_entry v.scripts)) ∙ ap (λ es. length es) (sym order.entries)

-- A NATIVE is a member of none

script-apart : (x y : Name) → is_native x ≡ true → is_script y ≡ true → same_name y x ≡ false
script-apart x y n s = false-left (same_name y x) (λ t. false≢true (sym (ap not n) ∙ (ap is_script (sym (same_name-true y x t)) ∙ s)))

native-member : (h : Heap) → IsWellFormed h → (x : Name) → is_native x ≡ true → (e : Entry) → Among e h.entries → is_member x e ≡ false
native-member h well x n e m =
    let k = entry-named h well e m in
    (λ i. script-apart x e.the_map n k.0 i || script-apart x e.key n k.1 i || delegate e.delegate refl i)
  where
    named : (d : Name) → e.delegate ≡ Some d → is_script d ≡ true
    named d is =
        let members = well.entries e m in
        let o = Among-map_cases (λ (p : HeapScript). p.name) h.scripts e.key members.key in
        script_names-named h well d (well.delegate_there o.0 d o.1 (members.delegate o.0 o.1 o.2 ∙ is))

    delegate : (d : Option Name) → e.delegate ≡ d → is_delegate d x ≡ false
    delegate None is = refl
    delegate (Some d) is = script-apart x d n (named d is)

pub native-below : (h : Heap) → IsWellFormed h → (x : Name) → is_native x ≡ true → (n : ℕ) → place_below h.entries x n ≡ None
native-below h well x its zero = refl
native-below h well x its (suc n) = go (native-below h well x its n) (slice_get h.entries n) refl
  where
    after : Option Bool → Option ℕ
    after o = elim o [ None ↦ place_below h.entries x n | Some b ↦ elim b [ true ↦ Some n | false ↦ place_below h.entries x n ] ]

    go : place_below h.entries x n ≡ None → (o : Option Entry) → slice_get h.entries n ≡ o → place_below h.entries x (suc n) ≡ None
    go before None e = ap (λ o. after (option_map (is_member x) o)) e ∙ before
    go before (Some d) e = ap (λ o. after (option_map (is_member x) o)) e ∙ (ap (λ b. after (Some b)) (native-member h well x its d (place-among d h.entries n e)) ∙ before)
