-- WHICH NATIVES HAVE ENDED after a command: it ends those that it tells freed, and no others.
use Rattle.std.proofs.Common.{◌≡◌, ℕ, ◌+◌, ◌≤◌, ◌<◌, Bool, true, false, List, [], ◌∷◌, ◌++◌, map, Option, Some, None, refl, sym, ◌∙◌, ap, subst, inl, inr, ⊎_elim, arith}
use Rattle.std.specs.Prelude.{IsTrue}
use Rattle.cc_lists.specs.Members.{Among}
use Rattle.cc_lists.proofs.Members.{Among-append}
use Rattle.cc_names.specs.declared.name.Name.{Name}
use Rattle.cc_names.specs.declared.name.Name.TheVariants as name
use Rattle.cc_names.specs.declared.kind.Kind.TheVariants.{Reflector}
use Rattle.cc_names.specs.declared.register.Reg.TheVariants.{N}
use Rattle.cc_names.specs.Names.{native, reflector}
use Rattle.cc_model.specs.declared.command.Command.{Command}
use Rattle.cc_model.specs.Ranges.{in_range}
use Rattle.cc_model.specs.Slots.{reflector_slots}
use Rattle.cc_model.specs.Checks.{slot_at}
use Rattle.cc_model.specs.Deeds.{Deed, nothing_done, native_made, plain_made, map_made, proxy_made, native_held, script_held, script_copied, native_stored, slot_moved, script_stored, reflector_held, reflector_preserved, entry_written, object_exposed, weak_written, deed_of}
use Rattle.cc_model.specs.Heap.{Heap, HeapNative, Outcome, register, objects_of, has_reflector, set_register, set_slot, preserve}
use Rattle.cc_model.specs.Cascade.{take_up, let_go}
use Rattle.cc_model.specs.Exposure.{exposed}
use Rattle.cc_model.specs.Effects.{done_in, effects, make_native, hold_native, store_native, move_slot, touched, taken_out, put_in_register, put_in_slot, with_native, with_script, with_reflector, wrapped, make_proxy, set_entry}
use Rattle.cc_model.specs.Listed.{after_events}
use Rattle.cc_model.specs.Lawful.{unlinked_numbers}
use Rattle.cc_model.specs.WellFormed.{IsWellFormed, native_names}
use Rattle.cc_laws_heap.specs.Sound.{IsSound}
use Rattle.cc_laws_heap.proofs.Freed.{freed_event}
use Rattle.cc_laws_heap.proofs.Making.{native_names-made}
use Rattle.cc_laws_heap.proofs.Taken.{IsTaken}
use Rattle.cc_laws_heap.proofs.Unseen.{Leaves-add_ref, Leaves-take_up, Leaves-let_go, Leaves-exposed, Leaves-touched}
use Rattle.cc_laws_heap.proofs.UnlinkedKept.{WasThereOrMade, done_in-unlinked}
use Rattle.cc_laws_run.proofs.NamesAfter.{NamesAfter, natives_made_by, made_natives, made_scripts, effects-names}
use Rattle.cc_laws_run.proofs.FreedListed.{freed_names, after_events-left}
use Rattle.cc_laws_run.proofs.EndedAfter.{EndsWhatItTells, ends-freed}

-- How many natives were made

-- a reference taken, one given up with its cascade, an exposure and a touch make none
take_up-made : (h : Heap) (x : Option Name) → (take_up h x).natives_made ≡ h.natives_made
take_up-made h x = (Leaves-take_up h x).beside.natives_made

let_go-made : (h : Heap) (x : Option Name) → (let_go h x).heap.natives_made ≡ h.natives_made
let_go-made h x = (Leaves-let_go h x).beside.natives_made

exposed-made : (h : Heap) (x : Option Name) → (exposed h x).natives_made ≡ h.natives_made
exposed-made h x = (Leaves-exposed h x).beside.natives_made

-- nor does a slot that is written, or a reflector that is preserved
set_slot-made : (h : Heap) (x : Option Name) (i : ℕ) (y : Option Name) → (set_slot h x i y).natives_made ≡ h.natives_made
set_slot-made h None i y = refl
set_slot-made h (Some (name.Native k)) i y = refl
set_slot-made h (Some (name.Script k)) i y = refl
set_slot-made h (Some (name.Reflector k)) i y = refl

preserve-made : (h : Heap) (x : Option Name) → (preserve h x).natives_made ≡ h.natives_made
preserve-made h (Some (name.Reflector k)) = refl
preserve-made h (Some (name.Native k)) = refl
preserve-made h (Some (name.Script k)) = refl
preserve-made h None = refl

-- a native register and a slot of a native written, with what they held given up
put-made : (h : Heap) (d : ℕ) (x : Option Name) → (put_in_register h d x).heap.natives_made ≡ h.natives_made
put-made h d x = let_go-made (set_register h (N d) x) (register h (N d))

pub hold-made : (h : Heap) (d : ℕ) (x : Option Name) → (hold_native h d x).heap.natives_made ≡ h.natives_made
unfolding hold_native
hold-made h d x = put-made (take_up h x) d x ∙ take_up-made h x

put_in_slot-made : (h : Heap) (d i : ℕ) (x : Option Name) → (put_in_slot h d i x).heap.natives_made ≡ h.natives_made
put_in_slot-made h d i x = let_go-made (set_slot h (register h (N d)) i x) (slot_at (objects_of h) (N d) i) ∙ set_slot-made h (register h (N d)) i x

store-made : (h : Heap) (d i : ℕ) (x : Option Name) → (store_native h d i x).heap.natives_made ≡ h.natives_made
unfolding store_native
store-made h d i x = put_in_slot-made (take_up h x) d i x ∙ take_up-made h x

move-made : (h : Heap) (d i s j : ℕ) → (move_slot h d i s j).heap.natives_made ≡ h.natives_made
unfolding move_slot
move-made h d i s j =
    let x : Option Name = slot_at (objects_of h) (N s) j in
    put_in_slot-made (taken_out h (register h (N s)) j x) d i x
    ∙ (set_slot-made (touched h x) (register h (N s)) j None ∙ (Leaves-touched h x).beside.natives_made)

-- a reflector made or found, a proxy made, an entry written
wrapped-made : (h : Heap) (x : Option Name) → (wrapped h x).natives_made ≡ h.natives_made
wrapped-made h (Some (name.Native k)) = go (has_reflector h k.0)
  where
    go : (b : Bool) → (elim b as (λ _. Heap) [ true ↦ exposed h (Some (reflector k.0)) | false ↦ with_reflector h k.0 ]).natives_made ≡ h.natives_made
    go true = exposed-made h (Some (reflector k.0))
    go false = (Leaves-add_ref (with_script h (reflector k.0) Reflector reflector_slots None) k.0).beside.natives_made
wrapped-made h (Some (name.Script k)) = refl
wrapped-made h (Some (name.Reflector k)) = refl
wrapped-made h None = refl

proxy-made : (h : Heap) (d : ℕ) (x : Option Name) → (make_proxy h d x).natives_made ≡ h.natives_made
proxy-made h d None = refl
proxy-made h d (Some x) = preserve-made h (Some x)

entry-made : (h : Heap) (m k v : Option Name) → (set_entry h m k v).natives_made ≡ h.natives_made
entry-made h (Some m) (Some k) (Some v) = preserve-made h (Some k)
entry-made h (Some m) (Some k) None = refl
entry-made h (Some m) None v = refl
entry-made h None k v = refl

-- how many were made then
abbrev made_after : Heap → Deed → ℕ
made_after h (native_made d n) = h.natives_made + 1
made_after h _ = h.natives_made

-- a native made
make-made : (h : Heap) (d n : ℕ) → (make_native h d n).heap.natives_made ≡ h.natives_made + 1
unfolding make_native
make-made h d n = put-made (with_native h n) d (Some (native (h.natives_made + 1)))

-- HOW MANY WERE MADE after a deed
done_in-made : (h : Heap) (d : Deed) → (done_in h d).heap.natives_made ≡ made_after h d
unfolding done_in
done_in-made h nothing_done = refl
done_in-made h (native_made d n) = make-made h d n
done_in-made h (plain_made d n) = refl
done_in-made h (map_made d) = refl
done_in-made h (proxy_made d x) = proxy-made h d x
done_in-made h (native_held d x) = hold-made h d x
done_in-made h (script_held d x) = exposed-made h x
done_in-made h (script_copied d x) = refl
done_in-made h (native_stored d i x) = store-made h d i x
done_in-made h (slot_moved d i s j) = move-made h d i s j
done_in-made h (script_stored x i y) = set_slot-made (preserve h x) x i y ∙ preserve-made h x
done_in-made h (reflector_held d x) = wrapped-made h x
done_in-made h (reflector_preserved x) = preserve-made h x
done_in-made h (entry_written m k v) = entry-made h m k v
done_in-made h (object_exposed x) = exposed-made h x
done_in-made h (weak_written w x) = refl

-- no fewer than before
made-more : (h : Heap) (d : Deed) → h.natives_made ≤ made_after h d
made-more h d = grind arith

-- what a deed makes has the next number
made-number : (h : Heap) (d : Deed) (j : ℕ) → h.natives_made < j → j ≤ made_after h d → Among (native j) (natives_made_by h d)
made-number h (native_made d n) j l m = inl (ap native (omega (arith, l, m)))
made-number h nothing_done j l m = absurd (omega (arith, l, m))
made-number h (plain_made d n) j l m = absurd (omega (arith, l, m))
made-number h (map_made d) j l m = absurd (omega (arith, l, m))
made-number h (proxy_made d x) j l m = absurd (omega (arith, l, m))
made-number h (native_held d x) j l m = absurd (omega (arith, l, m))
made-number h (script_held d x) j l m = absurd (omega (arith, l, m))
made-number h (script_copied d x) j l m = absurd (omega (arith, l, m))
made-number h (native_stored d i x) j l m = absurd (omega (arith, l, m))
made-number h (slot_moved d i s k) j l m = absurd (omega (arith, l, m))
made-number h (script_stored x i y) j l m = absurd (omega (arith, l, m))
made-number h (reflector_held d x) j l m = absurd (omega (arith, l, m))
made-number h (reflector_preserved x) j l m = absurd (omega (arith, l, m))
made-number h (entry_written x k v) j l m = absurd (omega (arith, l, m))
made-number h (object_exposed x) j l m = absurd (omega (arith, l, m))
made-number h (weak_written w x) j l m = absurd (omega (arith, l, m))

-- what is made has no greater number
made-few : (h : Heap) (d : Deed) (j : ℕ) → Among (native j) (natives_made_by h d) → j ≤ made_after h d
made-few h (native_made d n) j m = ⊎_elim (λ e. few (ap number e)) (λ b. absurd b) m
  where
    number : Name → ℕ
    number (name.Native k) = k.0
    number (name.Script k) = 0
    number (name.Reflector k) = 0

    few : h.natives_made + 1 ≡ j → j ≤ h.natives_made + 1
    few e = omega (arith, e)
made-few h nothing_done j m = absurd m
made-few h (plain_made d n) j m = absurd m
made-few h (map_made d) j m = absurd m
made-few h (proxy_made d x) j m = absurd m
made-few h (native_held d x) j m = absurd m
made-few h (script_held d x) j m = absurd m
made-few h (script_copied d x) j m = absurd m
made-few h (native_stored d i x) j m = absurd m
made-few h (slot_moved d i s k) j m = absurd m
made-few h (script_stored x i y) j m = absurd m
made-few h (reflector_held d x) j m = absurd m
made-few h (reflector_preserved x) j m = absurd m
made-few h (entry_written x k v) j m = absurd m
made-few h (object_exposed x) j m = absurd m
made-few h (weak_written w x) j m = absurd m

-- Natives that are told freed

-- free lines of natives free these names, and unlink none
freed-names : (ks : List ℕ) → freed_names (map freed_event ks) ≡ map native ks
freed-names [] = refl
freed-names (k ∷ ks) = ap (λ xs. native k ∷ xs) (freed-names ks)

pub freed-unlinks_none : (ks : List ℕ) → unlinked_numbers (map freed_event ks) ≡ []
freed-unlinks_none [] = refl
freed-unlinks_none (k ∷ ks) = freed-unlinks_none ks

-- heaps after natives were made and freed END WHAT IS TOLD
pub ends-names : (h : Heap) (o : Outcome) (ks : List ℕ) (made scripts : List Name) → IsWellFormed h → IsWellFormed o.heap → NamesAfter h o ks made scripts →
    ((p : HeapNative) → Among p o.heap.natives → WasThereOrMade h p) → h.natives_made ≤ o.heap.natives_made →
    ((j : ℕ) → h.natives_made < j → j ≤ o.heap.natives_made → Among (native j) made) → ((j : ℕ) → Among (native j) made → j ≤ o.heap.natives_made) →
    EndsWhatItTells h o.heap o.events
ends-names h o ks made scripts w v names keep more makes few = ends-freed h o.heap o.events made w v keep more
    (names.natives_left ∙ (ap (λ es. after_events native_list es) (sym names.told) ∙ after_events-left o.events native_list)) makes
    (ap unlinked_numbers names.told ∙ freed-unlinks_none ks)
    (λ j m. ⊎_elim
    (λ old. omega (arith, native_names-made h 0 w j old, more))
    (λ new. few j new)
    (Among-append (native j) (native_names h) made (were j (numbers j m))))
  where
    native_list : List Name
    native_list = native_names h ++ made

    numbers : (j : ℕ) → Among (native j) (freed_names o.events) → Among (native j) (map native ks)
    numbers j m = subst (Among (native j)) (ap freed_names names.told ∙ freed-names ks) m

    were : (j : ℕ) → Among (native j) (map native ks) → Among (native j) native_list
    were j m = in_list ks (λ k i. names.were_there k i) m
      where
        in_list : (ls : List ℕ) → ((k : ℕ) → Among k ls → Among (native k) native_list) → Among (native j) (map native ls) → Among (native j) native_list
        in_list [] all b = absurd b
        in_list (l ∷ ls) all b = ⊎_elim (λ e. subst (λ x. Among x native_list) e (all l (inl refl))) (λ r. in_list ls (λ k i. all k (inr i)) r) b

-- A COMMAND ENDS WHAT IT TELLS.
pub effects-end : (h : Heap) (c : Command) → IsSound [] h → IsSound [] (effects h c).heap → IsTrue (in_range c) → IsTaken (objects_of h) c →
    EndsWhatItTells h (effects h c).heap (effects h c).events
unfolding effects
effects-end h c s k r t =
    let d : Deed = deed_of (objects_of h) c in
    let names = effects-names h c s r t in
    let made = done_in-made h d in
    ends-names h (effects h c) names.0 (made_natives h c) (made_scripts h c) s.well_formed k.well_formed names.1 (λ p i. done_in-unlinked h d p i)
    (subst (λ n. h.natives_made ≤ n) (sym made) (made-more h d))
    (λ j l m. made-number h d j l (subst (λ n. j ≤ n) made m))
    (λ j m. subst (λ n. j ≤ n) (sym made) (made-few h d j m))
