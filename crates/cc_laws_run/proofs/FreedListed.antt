-- The names that events free, and what is listed after them, in census order.
use Rattle.std.proofs.Common.{arith, ◌≡◌, ◌==◌, ℕ, Bool, true, false, not, ◌&&◌, ◌||◌, List, [], ◌∷◌, ◌++◌, map, refl, sym, ◌∙◌, ap, subst, inl, inr, ⊎_elim}
use Rattle.std.specs.List.{filter, flat_map}
use Rattle.std.proofs.Math.Path.{fun_ext}
use Rattle.std.proofs.lemmas.Bool.{false≢true}
use Rattle.std.proofs.lemmas.List.Elements.{filter-append}
use Rattle.cc_lists.specs.Members.{Among, has, without}
use Rattle.cc_lists.proofs.Members.{Among-map_cases, Among-append, Among-filtered}
use Rattle.cc_names.specs.declared.name.Name.{Name}
use Rattle.cc_names.specs.Names.{native, same_name, is_native, is_script, natives_in}
use Rattle.cc_model.specs.declared.item.Event.{Event}
use Rattle.cc_model.specs.declared.item.Event.TheVariants.{Unlinked, Freed, Abandoned}
use Rattle.cc_model.specs.Heap.{Heap, HeapNative}
use Rattle.cc_model.specs.WellFormed.{IsWellFormed, native_names, script_names, names_there}
use Rattle.cc_model.specs.Listed.{census_order, after_events}
use Rattle.cc_model.specs.Run.{census_names}
use Rattle.cc_laws_heap.specs.Ending.{freed_numbers, NamesNative}
use Rattle.cc_laws_heap.specs.Rounds.{is_not_among}
use Rattle.cc_lists.proofs.Filtering.{filter-each}
use Rattle.cc_lists.proofs.Searching.{filter-map, filter-true, filter-filter, filter-swap}
use Rattle.cc_laws_heap.proofs.ScriptNames.{script_names-named}
use Rattle.cc_laws_heap.proofs.NameLists.{same_name-sym, is_not_among-from}

-- the name that an event frees
abbrev pub freed_name : Event → List Name
freed_name (Freed x) = x ∷ []
freed_name _ = []

-- the names that events free, in order
abbrev pub freed_names : List Event → List Name
freed_names es = flat_map freed_name es

-- What is listed after events

-- what is listed after events is what none of them frees
pub after_events-left : (es : List Event) (names : List Name) → after_events names es ≡ filter (is_not_among (freed_names es)) names
after_events-left [] names = sym (filter-true (is_not_among []) names (λ x. refl))
after_events-left (Unlinked x ∷ es) names = after_events-left es names
after_events-left (Abandoned ∷ es) names = after_events-left es names
after_events-left (Freed x ∷ es) names =
    after_events-left es (without same_name x names)
    ∙ (filter-filter (is_not_among (freed_names es)) (λ y. not (same_name y x)) names ∙ ap (λ p. filter p names) (fun_ext each))
  where
    by_test : (b c : Bool) → (not b && not c) ≡ not (b || c)
    by_test true c = refl
    by_test false c = refl

    each : (y : Name) → (not (same_name y x) && is_not_among (freed_names es) y) ≡ is_not_among (x ∷ freed_names es) y
    each y = ap (λ b. not b && is_not_among (freed_names es) y) (same_name-sym y x) ∙ by_test (same_name x y) (has same_name (freed_names es) y)

-- a filter keeps the census order
census_order-filter : (p : Name → Bool) (names : List Name) → census_order (filter p names) ≡ filter p (census_order names)
census_order-filter p names = grind (arith, filter-swap, filter-append)

-- what stands in census order stands in the list
pub census_order-listed : (names : List Name) (x : Name) → Among x (census_order names) → Among x names
census_order-listed names x m = ⊎_elim
    (λ l. Among-filtered is_native x names l)
    (λ r. Among-filtered is_script x names r)
    (Among-append x (filter is_native names) (filter is_script names) m)

-- what is in the heaps is listed
pub there-listed : (h : Heap) (names : List Name) (x : Name) → census_names h ≡ census_order names → Among x (names_there h) → Among x names
there-listed h names x e m = census_order-listed names x (subst (Among x) e m)

-- HEAPS THAT LOSE WHAT EVENTS FREE have the names that are listed after the events.
pub census_names-left : (h k : Heap) (names : List Name) (es : List Event) → census_names h ≡ census_order names →
    native_names k ≡ filter (is_not_among (freed_names es)) (native_names h) →
    script_names k ≡ filter (is_not_among (freed_names es)) (script_names h) →
    census_names k ≡ census_order (after_events names es)
census_names-left h k names es listed ns os = grind (arith, filter-append, census_order-filter, after_events-left)

-- Natives alone are freed

-- where natives alone are named, the names that are freed are those of the numbers
pub freed_names-natives : (es : List Event) → ((e : Event) → Among e es → NamesNative e) → freed_names es ≡ map native (freed_numbers es)
freed_names-natives [] n = refl
freed_names-natives (Unlinked x ∷ es) n = freed_names-natives es (λ e m. n e (inr m))
freed_names-natives (Abandoned ∷ es) n = freed_names-natives es (λ e m. n e (inr m))
freed_names-natives (Freed x ∷ es) n =
    let k = n (Freed x) (inl refl) in
    subst (λ y. y ∷ freed_names es ≡ map native (natives_in y ++ freed_numbers es)) (sym k.1)
    (ap (λ l. native k.0 ∷ l) (freed_names-natives es (λ e m. n e (inr m))))

-- names of natives are those of their numbers
native_names-numbers : (ns : List HeapNative) → map (λ n. native n.number) ns ≡ map native (map (λ n. n.number) ns)
native_names-numbers [] = refl
native_names-numbers (n ∷ ns) = ap (λ l. native n.number ∷ l) (native_names-numbers ns)

-- a number stands in a list where its native stands among theirs
pub has-native : (ks : List ℕ) (j : ℕ) → has same_name (map native ks) (native j) ≡ has ◌==◌ ks j
has-native [] j = refl
has-native (k ∷ ks) j = ap (λ b. (k == j) || b) (has-native ks j)

-- THE HEAPS AFTER AN END have the names that are listed after its events.
pub census_names-end : (h k : Heap) (names : List Name) (es : List Event) (freed : List ℕ) → IsWellFormed h → census_names h ≡ census_order names →
    ((e : Event) → Among e es → NamesNative e) → freed_numbers es ≡ freed →
    map (λ n. n.number) k.natives ≡ filter (λ j. not (has ◌==◌ freed j)) (map (λ n. n.number) h.natives) → k.scripts ≡ h.scripts →
    census_names k ≡ census_order (after_events names es)
census_names-end h k names es freed w listed alone told ns os = census_names-left h k names es listed natives scripts
  where
    freed_are : freed_names es ≡ map native freed
    freed_are = freed_names-natives es alone ∙ ap (map native) told

    natives : native_names k ≡ filter (is_not_among (freed_names es)) (native_names h)
    natives =
        native_names-numbers k.natives
        ∙ (ap (map native) ns
        ∙ (ap (λ p. map native (filter p (map (λ n. n.number) h.natives))) (fun_ext (λ j. ap not (sym (has-native freed j))))
        ∙ (sym (filter-map (is_not_among (map native freed)) native (map (λ n. n.number) h.natives))
        ∙ (ap (filter (is_not_among (map native freed))) (sym (native_names-numbers h.natives))
        ∙ ap (λ xs. filter (is_not_among xs) (native_names h)) (sym freed_are)))))

    apart : (x : Name) → Among x (script_names h) → is_not_among (map native freed) x ≡ true
    apart x m = is_not_among-from (map native freed) x (λ i.
        let f = Among-map_cases native freed x i in
        false≢true (ap is_script f.2 ∙ script_names-named h w x m))

    scripts : script_names k ≡ filter (is_not_among (freed_names es)) (script_names h)
    scripts =
        ap (map (λ o. o.name)) os
        ∙ (sym (filter-each (is_not_among (map native freed)) (script_names h) apart)
        ∙ ap (λ xs. filter (is_not_among xs) (script_names h)) (sym freed_are))

-- Free lines alone

-- free lines free what they name
pub freed_names-freed : (xs : List Name) → freed_names (map Freed xs) ≡ xs
freed_names-freed [] = refl
freed_names-freed (x ∷ xs) = ap (λ l. x ∷ l) (freed_names-freed xs)
