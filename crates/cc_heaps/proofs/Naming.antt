-- THE COUNTED HEAP UNDER ITS NAMES, with the rest of the heaps beside it: whatever is done to its natives and its buffer
-- comes to the same before and after script objects get their names, and tells the same.
use Rattle.std.proofs.Common.{arith, ◌≡◌, ℕ, zero, suc, ◌==◌, Bool, false, not, List, [], ◌∷◌, ◌++◌, map, length, count_by, Option, Some, None, option_map, refl, sym, ◌∙◌, ap}
use Rattle.std.specs.Option.{option_to_list, option_and_then}
use Rattle.std.specs.List.{flat_map}
use Rattle.std.proofs.lemmas.Grind.{flat_map-append}
use Rattle.std.proofs.lemmas.List.{map-set, length-map}
use Rattle.std.proofs.lemmas.Simd.{map-map}
use Rattle.cc_lists.specs.Members.{Among}
use Rattle.cc_lists.proofs.Filtering.{find-among}
use Rattle.cc_lists.proofs.Searching.{find-map, filter-map}
use Rattle.cc_names.specs.declared.name.Name.{Name}
use Rattle.cc_names.specs.declared.name.Name.TheVariants as name
use Rattle.cc_names.specs.Names.{native, same_name, is_native, natives_in}
use Rattle.cc_model.specs.declared.item.Event.TheVariants.{Unlinked}
use Rattle.cc_model.specs.Slots.{Slots, contents}
use Rattle.cc_model.specs.Heap.{Heap, HeapNative, Outcome, native_at, silently, after, change_native, set_slot, set_preserved, as_unlinked, set_unlinked, outcome_of}
use Rattle.cc_model.specs.Cascade.{Draining, add_ref, lower, give_up, give_up_each, removed, natives_of_slots, told_free, without_native, free_front, drain, at_rest, drained, cascade, let_go}
use Rattle.cc_model.specs.Counts.{slots_of_natives, times}
use Rattle.cc_model.specs.End.{empty_slot, empty_each, slots_now, marked_unlinked, unlink}
use Rattle.cc_model.specs.WellFormed.{native_names}
use Rattle.cc_laws_heap.proofs.Face.{changed_at, times-natives_in}
use Rattle.cc_script.specs.Objects.{Object, object_at, name_at}
use Rattle.cc_heaps.specs.Named.{own_name, named_native}

-- the name of what a slot of the counted heap holds
abbrev pub name_in : List Object → Option Name → Option Name
name_in objects x = option_and_then (own_name objects) x

-- slots under their names
abbrev pub named_slots : List Object → Slots → Slots
named_slots objects slots = map (name_in objects) slots

-- the natives of a counted heap under their names, and its buffer, with the rest of other heaps
abbrev pub shown : Heap → List Object → Heap → Heap
shown h objects g = record h { natives = map (named_native objects) g.natives; buffer = g.buffer }

abbrev pub draining_shown : Heap → List Object → Draining → Draining
draining_shown h objects d = record d { heap = shown h objects d.heap }

abbrev pub outcome_shown : Heap → List Object → Outcome → Outcome
outcome_shown h objects o = record o { heap = shown h objects o.heap }

-- no script object has the name of a native
abbrev pub AreScripts : List Object → Type 0
AreScripts objects = (o : Object) → Among o objects → is_native o.name ≡ false

-- Lists changed before or after they are named

map-either : (f g n : HeapNative → HeapNative) → ((m : HeapNative) → g (n m) ≡ n (f m)) → (ms : List HeapNative) → map g (map n ms) ≡ map n (map f ms)
map-either f g n e [] = refl
map-either f g n e (m ∷ ms) = λ i. e m i ∷ map-either f g n e ms i

changed-either : (k : ℕ) (f g n : HeapNative → HeapNative) → ((m : HeapNative) → (n m).number ≡ m.number) → ((m : HeapNative) → g (n m) ≡ n (f m)) →
    (m : HeapNative) → changed_at k g (n m) ≡ n (changed_at k f m)
changed-either k f g n number e m = grind arith

module _ (objects : List Object) where
  abbrev named : HeapNative → HeapNative
  named = named_native objects

  -- a native changed
  change-named : (h g : Heap) (k : ℕ) (f after : HeapNative → HeapNative) → ((n : HeapNative) → after (named n) ≡ named (f n)) →
      change_native (shown h objects g) k after ≡ shown h objects (change_native g k f)
  change-named h g k f after e = grind (arith, map-either, changed-either)

  -- natives keep their numbers and their names
  pub native_at-shown : (h g : Heap) (k : ℕ) → native_at (shown h objects g) k ≡ option_map named (native_at g k)
  native_at-shown h g k = find-map (λ (n : HeapNative). n.number == k) named g.natives

  pub native_names-shown : (h g : Heap) → native_names (shown h objects g) ≡ native_names g
  native_names-shown h g = map-map (λ (n : HeapNative). native n.number) named g.natives

  -- A reference taken
  pub add_ref-shown : (h g : Heap) (k : ℕ) → add_ref (shown h objects g) k ≡ shown h objects (add_ref g k)
  add_ref-shown h g k = grind (arith, change-named)

  -- A slot written
  pub set_slot-shown : (h g : Heap) (k i : ℕ) (x : Option Name) → set_slot (shown h objects g) (Some (native k)) i (name_in objects x) ≡
      shown h objects (set_slot g (Some (native k)) i x)
  set_slot-shown h g k i x = grind (arith, change-named, map-set)

  -- A preservation that began or ended
  pub set_preserved-shown : (h g : Heap) (k : ℕ) (on : Bool) → set_preserved (shown h objects g) k on ≡ shown h objects (set_preserved g k on)
  set_preserved-shown h g k on = change-named h g k (λ n. record n { preserved = on }) (λ n. record n { preserved = on }) (λ n. refl)

  -- A native that is unlinked for good
  set_unlinked-shown : (h g : Heap) (k : ℕ) → set_unlinked (shown h objects g) k ≡ shown h objects (set_unlinked g k)
  set_unlinked-shown h g k = change-named h g k as_unlinked as_unlinked (λ n. refl)

  -- A reference given up, by counts and numbers alone

  lower-shown : (h g : Heap) (k : ℕ) → lower (shown h objects g) k ≡ shown h objects (lower g k)
  lower-shown h g k = grind (arith, change-named)

  give_up-shown : (h : Heap) (d : Draining) (k : ℕ) → give_up (draining_shown h objects d) k ≡ draining_shown h objects (give_up d k)
  give_up-shown h d k = grind (arith, native_at-shown, lower-shown)

  give_up_each-shown : (h : Heap) (d : Draining) (ks : List ℕ) → give_up_each (draining_shown h objects d) ks ≡ draining_shown h objects (give_up_each d ks)
  give_up_each-shown h d [] = refl
  give_up_each-shown h d (k ∷ ks) = ap (λ e. give_up_each e ks) (give_up-shown h d k) ∙ give_up_each-shown h (give_up d k) ks

  removed-shown : (h g : Heap) (k : ℕ) → removed (shown h objects g) k ≡ shown h objects (removed g k)
  removed-shown h g k = ap (λ ns. record h { natives = ns; buffer = g.buffer }) (filter-map (λ (n : HeapNative). not (n.number == k)) named g.natives)

  -- No script object is a native
  module _ (scripts : AreScripts objects) where
    pub name_at-script : (key : ℕ) → flat_map natives_in (option_to_list (name_at objects key)) ≡ []
    name_at-script key = go (object_at objects key) refl
      where
        none : (x : Name) → is_native x ≡ false → natives_in x ++ [] ≡ []
        none (name.Native k) e = absurd (cc)
        none (name.Script k) e = refl
        none (name.Reflector k) e = refl

        go : (o : Option Object) → object_at objects key ≡ o → flat_map natives_in (option_to_list (option_map (λ (o : Object). o.name) o)) ≡ []
        go None e = refl
        go (Some o) e = none o.name (scripts o (find-among (λ (o : Object). o.key == key) objects o e))

    natives_in-name : (x : Option Name) → flat_map natives_in (option_to_list (name_in objects x)) ≡ flat_map natives_in (option_to_list x)
    natives_in-name None = refl
    natives_in-name (Some (name.Native k)) = refl
    natives_in-name (Some (name.Script k)) = name_at-script k.0
    natives_in-name (Some (name.Reflector k)) = refl

    natives_in-slots : (slots : Slots) → flat_map natives_in (contents (named_slots objects slots)) ≡ flat_map natives_in (contents slots)
    natives_in-slots [] = refl
    natives_in-slots (x ∷ xs) =
        flat_map-append natives_in (option_to_list (name_in objects x)) (contents (named_slots objects xs))
        ∙ ((λ i. natives_in-name x i ++ natives_in-slots xs i)
        ∙ sym (flat_map-append natives_in (option_to_list x) (contents xs)))

    natives_of_slots-shown : (o : Option HeapNative) → natives_of_slots (option_map named o) ≡ natives_of_slots o
    natives_of_slots-shown None = refl
    natives_of_slots-shown (Some n) = natives_in-slots n.slots

    -- References are the same
    natives_in-held : (ns : List HeapNative) → flat_map natives_in (flat_map (λ (n : HeapNative). contents n.slots) (map named ns)) ≡
        flat_map natives_in (flat_map (λ (n : HeapNative). contents n.slots) ns)
    natives_in-held [] = refl
    natives_in-held (n ∷ ns) =
        flat_map-append natives_in (contents (named_slots objects n.slots)) (flat_map (λ (m : HeapNative). contents m.slots) (map named ns))
        ∙ ((λ i. natives_in-slots n.slots i ++ natives_in-held ns i)
        ∙ sym (flat_map-append natives_in (contents n.slots) (flat_map (λ (m : HeapNative). contents m.slots) ns)))

    pub references-shown : (h g : Heap) (k : ℕ) → count_by (same_name (native k)) (slots_of_natives (shown h objects g)) ≡ count_by (same_name (native k)) (slots_of_natives g)
    references-shown h g k =
        sym (times-natives_in k (slots_of_natives (shown h objects g)))
        ∙ (ap (times k) (natives_in-held g.natives) ∙ times-natives_in k (slots_of_natives g))

    -- Cascades

    free_front-shown : (h : Heap) (d : Draining) (k : ℕ) (ks : List ℕ) → free_front (draining_shown h objects d) k ks ≡ draining_shown h objects (free_front d k ks)
    free_front-shown h d k ks =
        ap (λ (o : Option HeapNative). without_native (give_up_each (told_free (draining_shown h objects d) k ks) (natives_of_slots o)) k) (native_at-shown h d.heap k)
        ∙ (ap (λ ns. without_native (give_up_each (told_free (draining_shown h objects d) k ks) ns) k) (natives_of_slots-shown (native_at d.heap k))
        ∙ (ap (λ e. without_native e k) (give_up_each-shown h (told_free d k ks) (natives_of_slots (native_at d.heap k)))
        ∙ gone (give_up_each (told_free d k ks) (natives_of_slots (native_at d.heap k)))))
      where
        gone : (e : Draining) → without_native (draining_shown h objects e) k ≡ draining_shown h objects (without_native e k)
        gone e = ap (λ (f : Heap). record e { heap = f }) (removed-shown h e.heap k)

    drain-shown : (h : Heap) (n : ℕ) (d : Draining) → drain n (draining_shown h objects d) ≡ draining_shown h objects (drain n d)
    unfolding drain
    drain-shown h zero d = refl
    drain-shown h (suc n) d = go (drain-shown h n) d.queue
      where
        by_queue : Draining → List ℕ → Draining
        by_queue e [] = e
        by_queue e (k ∷ ks) = drain n (free_front e k ks)

        go : ((e : Draining) → drain n (draining_shown h objects e) ≡ draining_shown h objects (drain n e)) → (q : List ℕ) →
            by_queue (draining_shown h objects d) q ≡ draining_shown h objects (by_queue d q)
        go ih [] = refl
        go ih (k ∷ ks) = ap (drain n) (free_front-shown h d k ks) ∙ ih (free_front d k ks)

    drained-shown : (h g : Heap) (k : ℕ) → drained (shown h objects g) k ≡ draining_shown h objects (drained g k)
    unfolding drained
    drained-shown h g k =
        ap (λ n. drain n (give_up (at_rest (shown h objects g)) k)) (length-map g.natives named)
        ∙ (ap (drain (length g.natives)) (give_up-shown h (at_rest g) k) ∙ drain-shown h (length g.natives) (give_up (at_rest g) k))

    pub cascade-shown : (h g : Heap) (k : ℕ) → cascade (shown h objects g) k ≡ outcome_shown h objects (cascade g k)
    cascade-shown h g k = ap (λ (d : Draining). outcome d) (drained-shown h g k)
      where
        outcome : Draining → Outcome
        outcome d = outcome_of d.heap d.events

    -- What a register or a slot holds taken up, and given up

    pub let_go-script : (g : Heap) (x : Option Name) → flat_map natives_in (option_to_list x) ≡ [] → let_go g x ≡ silently g
    let_go-script g None e = refl
    let_go-script g (Some (name.Native k)) e = absurd (cc)
    let_go-script g (Some (name.Script k)) e = refl
    let_go-script g (Some (name.Reflector k)) e = refl

    pub let_go-shown : (h g : Heap) (x : Option Name) → let_go (shown h objects g) (name_in objects x) ≡ outcome_shown h objects (let_go g x)
    let_go-shown h g None = refl
    let_go-shown h g (Some (name.Native k)) = cascade-shown h g k.0
    let_go-shown h g (Some (name.Script k)) = let_go-script (shown h objects g) (name_at objects k.0) (name_at-script k.0)
    let_go-shown h g (Some (name.Reflector k)) = refl

    -- A native unlinked

    empty_slot-shown : (h g : Heap) (k i : ℕ) (x : Option Name) → empty_slot (shown h objects g) k i (name_in objects x) ≡ outcome_shown h objects (empty_slot g k i x)
    empty_slot-shown h g k i x =
        ap (λ (f : Heap). let_go f (name_in objects x)) (set_slot-shown h g k i None) ∙ let_go-shown h (set_slot g (Some (native k)) i None) x

    empty_each-shown : (h : Heap) (k i : ℕ) (xs : Slots) (o : Outcome) → empty_each k i (named_slots objects xs) (outcome_shown h objects o) ≡
        outcome_shown h objects (empty_each k i xs o)
    empty_each-shown h k i [] o = refl
    empty_each-shown h k i (x ∷ xs) o =
        ap (λ p. empty_each k (suc i) (named_slots objects xs) (after o.events p)) (empty_slot-shown h o.heap k i x)
        ∙ empty_each-shown h k (suc i) xs (after o.events (empty_slot o.heap k i x))

    pub slots_now-named : (o : Option HeapNative) → slots_now (option_map named o) ≡ named_slots objects (slots_now o)
    slots_now-named None = refl
    slots_now-named (Some n) = refl

    pub unlink-shown : (h g : Heap) (k : ℕ) → unlink (shown h objects g) k ≡ outcome_shown h objects (unlink g k)
    unfolding unlink
    unlink-shown h g k =
        ap (λ ss. after (Unlinked (native k) ∷ []) (marked_unlinked k (empty_each k 0 ss (silently (shown h objects g)))))
        (ap slots_now (native_at-shown h g k) ∙ slots_now-named (native_at g k))
        ∙ (ap (λ o. after (Unlinked (native k) ∷ []) (marked_unlinked k o)) (empty_each-shown h k 0 (slots_now (native_at g k)) (silently g))
        ∙ whole (empty_each k 0 (slots_now (native_at g k)) (silently g)))
      where
        whole : (o : Outcome) → after (Unlinked (native k) ∷ []) (marked_unlinked k (outcome_shown h objects o)) ≡
            outcome_shown h objects (after (Unlinked (native k) ∷ []) (marked_unlinked k o))
        whole o = ap (λ (f : Heap). outcome_of f (Unlinked (native k) ∷ o.events)) (set_unlinked-shown h o.heap k)
