-- WHETHER A NATIVE WAS UNLINKED STAYS in all that the heaps do, but in the end of a collection: there the natives that it takes are
-- unlinked. A native that is made was not unlinked.
use Rattle.std.proofs.Common.{arith, ◌≡◌, ℕ, ◌+◌, ◌≤◌, ◌==◌, Bool, true, false, ◌&&◌, ◌||◌, List, [], ◌∷◌, Option, Some, None, is_some, refl, sym, ◌∙◌, ap, subst, inl, inr, ◌⊎◌, ⊎_elim, if◌then◌else◌}
use Rattle.cc_lists.specs.Members.{Among}
use Rattle.cc_lists.proofs.Members.{Among-map_cases, Among_or_not}
use Rattle.cc_lists.proofs.Numbers.{number-exact}
use Rattle.cc_names.specs.declared.name.Name.{Name}
use Rattle.cc_names.specs.declared.name.Name.TheVariants as name
use Rattle.cc_names.specs.declared.register.Reg.TheVariants.{N}
use Rattle.cc_names.specs.declared.kind.Kind.TheVariants.{Reflector}
use Rattle.cc_names.specs.Names.{native, reflector}
use Rattle.cc_model.specs.Slots.{reflector_slots}
use Rattle.cc_model.specs.Checks.{slot_at}
use Rattle.cc_model.specs.Deeds.{Deed, nothing_done, native_made, plain_made, map_made, proxy_made, native_held, script_held, script_copied, native_stored, slot_moved, script_stored, reflector_held, reflector_preserved, entry_written, object_exposed, weak_written}
use Rattle.cc_model.specs.Heap as heap
use Rattle.cc_model.specs.Heap.{Heap, HeapNative, native_at, change_native, with_native_slot, set_slot, preserve, has_reflector, suspect, objects_of}
use Rattle.cc_model.specs.Given.{is_usable_native, is_usable}
use Rattle.cc_model.specs.Cascade.{add_ref, take_up, let_go}
use Rattle.cc_model.specs.Exposure.{exposed}
use Rattle.cc_model.specs.Effects as effects
use Rattle.cc_model.specs.Effects.{done_in, make_native, hold_native, store_native, move_slot, touched, taken_out, put_in_register, put_in_slot, with_native}
use Rattle.cc_model.specs.Units.{with_empty_buffer}
use Rattle.cc_model.specs.Sweep.{sweep, collect_scripts}
use Rattle.cc_model.specs.Colours.{marked}
use Rattle.cc_model.specs.End.{take_away, give_back}
use Rattle.cc_model.specs.WellFormed.{native_names}
use Rattle.cc_laws_heap.specs.Sound.{IsSound}
use Rattle.cc_laws_heap.specs.Balance.{HasDistinctNumbers}
use Rattle.cc_laws_heap.proofs.Natives.{KeepsNumber, native_at-there, native_at-number, native_at-member}
use Rattle.cc_laws_heap.proofs.Leaving.{IsOf}
use Rattle.cc_laws_heap.proofs.Changing.{Change, unchanged, HeapChanges}
use Rattle.cc_laws_heap.proofs.Unseen.{Leaves-add_ref, Leaves-take_up, Leaves-let_go, Leaves-exposed, Leaves-touched}
use Rattle.cc_laws_heap.proofs.NewObjects.{last-cases}
use Rattle.cc_laws_heap.proofs.RoundParts.{sweep-natives, round-natives}
use Rattle.cc_laws_heap.proofs.CollectedColours.{collecting-keeps}
use Rattle.cc_laws_heap.proofs.TakingAway.{take_away-takes}

-- The natives that stay

-- a native was in these heaps, unlinked or not as it is
abbrev pub WasThere : Heap → HeapNative → Type 0
WasThere h n = (m : HeapNative) × Among m h.natives × (m.number ≡ n.number) × (m.unlinked ≡ n.unlinked)

-- each native of the second heaps was in the first so
abbrev pub KeepUnlinked : Heap → Heap → Type 0
KeepUnlinked h k = (n : HeapNative) → Among n k.natives → WasThere h n

-- heaps left as they are keep whether each native was unlinked
pub KeepUnlinked-refl : (h : Heap) → KeepUnlinked h h
KeepUnlinked-refl h n i = (n, i, refl, refl)

-- two changes that keep whether each native was unlinked keep it one after the other
pub KeepUnlinked-then : (h j k : Heap) → KeepUnlinked h j → KeepUnlinked j k → KeepUnlinked h k
KeepUnlinked-then h j k a b n i =
    let m = b n i in
    let l = a m.0 m.1 in
    (l.0, l.1, l.2 ∙ m.2, l.3 ∙ m.3)

-- a change of shapes keeps whether each native was unlinked
KeepUnlinked-changes : (f : Change) (h k : Heap) → HeapChanges f h k → KeepUnlinked h k
KeepUnlinked-changes f h k c n i = let m = c.natives n i in (m.0, m.1, m.2, m.4)

-- a change of counts keeps whether each native was unlinked
KeepUnlinked-counts : (h k : Heap) → ((n : HeapNative) → Among n k.natives → IsOf h n) → KeepUnlinked h k
KeepUnlinked-counts h k of n i =
    let m = of n i in
    (m.0, m.1, ap (λ (u : HeapNative). u.number) m.2, ap (λ (u : HeapNative). u.unlinked) m.2)

-- a change of a native that leaves its number, and whether it was unlinked, keeps that of each
pub KeepUnlinked-change_native : (h : Heap) (k : ℕ) (f : HeapNative → HeapNative) → KeepsNumber f → ((n : HeapNative) → (f n).unlinked ≡ n.unlinked) → KeepUnlinked h (change_native h k f)
KeepUnlinked-change_native h k f number same n i =
    let m = Among-map_cases (λ (n : HeapNative). if n.number == k then f n else n) h.natives n i in
    (m.0, m.1, sym (numbers m.0 (m.0.number == k)) ∙ ap (λ (n : HeapNative). n.number) m.2, sym (flags m.0 (m.0.number == k)) ∙ ap (λ (n : HeapNative). n.unlinked) m.2)
  where
    numbers : (n : HeapNative) (b : Bool) → (if b then f n else n).number ≡ n.number
    numbers n true = number n
    numbers n false = refl

    flags : (n : HeapNative) (b : Bool) → (if b then f n else n).unlinked ≡ n.unlinked
    flags n true = same n
    flags n false = refl

-- a slot written
pub KeepUnlinked-slot : (h : Heap) (x : Option Name) (i : ℕ) (y : Option Name) → KeepUnlinked h (set_slot h x i y)
KeepUnlinked-slot h None i y = KeepUnlinked-refl h
KeepUnlinked-slot h (Some (name.Native k)) i y = KeepUnlinked-change_native h k.0 (with_native_slot i y) (λ n. refl) (λ n. refl)
KeepUnlinked-slot h (Some (name.Script k)) i y = KeepUnlinked-refl h
KeepUnlinked-slot h (Some (name.Reflector k)) i y = KeepUnlinked-refl h

-- a reflector preserved
pub KeepUnlinked-preserve : (h : Heap) (x : Option Name) → KeepUnlinked h (preserve h x)
KeepUnlinked-preserve h (Some (name.Reflector k)) = KeepUnlinked-change_native h k.0 (λ n. record n { preserved = true }) (λ n. refl) (λ n. refl)
KeepUnlinked-preserve h _ = KeepUnlinked-refl h

-- a reference taken, and one given up with all that is freed
pub KeepUnlinked-add_ref : (h : Heap) (k : ℕ) → KeepUnlinked h (add_ref h k)
KeepUnlinked-add_ref h k = KeepUnlinked-changes unchanged h (add_ref h k) (Leaves-add_ref h k).objects

pub KeepUnlinked-take_up : (h : Heap) (x : Option Name) → KeepUnlinked h (take_up h x)
KeepUnlinked-take_up h x = KeepUnlinked-changes unchanged h (take_up h x) (Leaves-take_up h x).objects

pub KeepUnlinked-let_go : (h : Heap) (x : Option Name) → KeepUnlinked h (let_go h x).heap
KeepUnlinked-let_go h x = KeepUnlinked-changes unchanged h (let_go h x).heap (Leaves-let_go h x).objects

-- an exposure, and a touch
pub KeepUnlinked-exposed : (h : Heap) (x : Option Name) → KeepUnlinked h (exposed h x)
KeepUnlinked-exposed h x = KeepUnlinked-changes unchanged h (exposed h x) (Leaves-exposed h x).objects

pub KeepUnlinked-touched : (h : Heap) (x : Option Name) → KeepUnlinked h (touched h x)
KeepUnlinked-touched h x = KeepUnlinked-changes unchanged h (touched h x) (Leaves-touched h x).objects

-- Deeds

-- a native was there so, or it is the one that was made, and was not unlinked
abbrev pub WasThereOrMade : Heap → HeapNative → Type 0
WasThereOrMade h n = WasThere h n ⊎ ((n.number ≡ h.natives_made + 1) × (n.unlinked ≡ false))

-- a register written, with what it held given up
put-unlinked : (h : Heap) (d : ℕ) (x : Option Name) → KeepUnlinked h (put_in_register h d x).heap
put-unlinked h d x = KeepUnlinked-let_go (heap.set_register h (N d) x) (heap.register h (N d))

-- a slot written, with what it held given up
put_in_slot-unlinked : (h : Heap) (d i : ℕ) (x : Option Name) → KeepUnlinked h (put_in_slot h d i x).heap
put_in_slot-unlinked h d i x =
    let k : Heap = set_slot h (heap.register h (N d)) i x in
    KeepUnlinked-then h k (put_in_slot h d i x).heap (KeepUnlinked-slot h (heap.register h (N d)) i x) (KeepUnlinked-let_go k (slot_at (objects_of h) (N d) i))

-- a register of natives holds something else
pub hold-unlinked : (h : Heap) (d : ℕ) (x : Option Name) → KeepUnlinked h (hold_native h d x).heap
unfolding hold_native
hold-unlinked h d x = KeepUnlinked-then h (take_up h x) (put_in_register (take_up h x) d x).heap (KeepUnlinked-take_up h x) (put-unlinked (take_up h x) d x)

-- a slot of a native holds something else
store-unlinked : (h : Heap) (d i : ℕ) (x : Option Name) → KeepUnlinked h (store_native h d i x).heap
unfolding store_native
store-unlinked h d i x = KeepUnlinked-then h (take_up h x) (put_in_slot (take_up h x) d i x).heap (KeepUnlinked-take_up h x) (put_in_slot-unlinked (take_up h x) d i x)

-- what a slot of a native holds goes into another
move-unlinked : (h : Heap) (d i s j : ℕ) → KeepUnlinked h (move_slot h d i s j).heap
unfolding move_slot
move-unlinked h d i s j =
    let x : Option Name = slot_at (objects_of h) (N s) j in
    let k : Heap = taken_out h (heap.register h (N s)) j x in
    KeepUnlinked-then h k (put_in_slot k d i x).heap
    (KeepUnlinked-then h (touched h x) k (KeepUnlinked-touched h x) (KeepUnlinked-slot (touched h x) (heap.register h (N s)) j None))
    (put_in_slot-unlinked k d i x)

-- a reflector made or found
wrapped-unlinked : (h : Heap) (x : Option Name) → KeepUnlinked h (effects.wrapped h x)
wrapped-unlinked h (Some (name.Native k)) = go (has_reflector h k.0)
  where
    go : (b : Bool) → KeepUnlinked h (elim b [ true ↦ exposed h (Some (reflector k.0)) | false ↦ effects.with_reflector h k.0 ])
    go true = KeepUnlinked-exposed h (Some (reflector k.0))
    go false = KeepUnlinked-add_ref (effects.with_script h (reflector k.0) Reflector reflector_slots None) k.0
wrapped-unlinked h _ = KeepUnlinked-refl h

-- a proxy is made
proxy-unlinked : (h : Heap) (d : ℕ) (x : Option Name) → KeepUnlinked h (effects.make_proxy h d x)
proxy-unlinked h d None = KeepUnlinked-refl h
proxy-unlinked h d (Some x) = KeepUnlinked-preserve h (Some x)

-- an entry is set or taken out
entry-unlinked : (h : Heap) (m k v : Option Name) → KeepUnlinked h (effects.set_entry h m k v)
entry-unlinked h (Some m) (Some k) (Some v) = KeepUnlinked-preserve h (Some k)
entry-unlinked h (Some m) (Some k) None = KeepUnlinked-refl h
entry-unlinked h _ _ v = KeepUnlinked-refl h

-- a native made
make-unlinked : (h : Heap) (d n : ℕ) → (m : HeapNative) → Among m (make_native h d n).heap.natives → WasThereOrMade h m
unfolding make_native
make-unlinked h d n m i =
    let l = put-unlinked (with_native h n) d (Some (native (h.natives_made + 1))) m i in
    ⊎_elim
    (λ old. inl (l.0, old, l.2, l.3))
    (λ new. inr (sym l.2 ∙ ap (λ (u : HeapNative). u.number) (sym new), sym l.3 ∙ ap (λ (u : HeapNative). u.unlinked) (sym new)))
    (last-cases h.natives _ l.0 l.1)

-- WHATEVER IS DONE, a native that is there then was there before, unlinked or not as it is, or was made, and not unlinked.
pub done_in-unlinked : (h : Heap) (d : Deed) (n : HeapNative) → Among n (done_in h d).heap.natives → WasThereOrMade h n
unfolding done_in
done_in-unlinked h nothing_done n i = inl (KeepUnlinked-refl h n i)
done_in-unlinked h (native_made d m) n i = make-unlinked h d m n i
done_in-unlinked h (plain_made d m) n i = inl (KeepUnlinked-refl h n i)
done_in-unlinked h (map_made d) n i = inl (KeepUnlinked-refl h n i)
done_in-unlinked h (proxy_made d x) n i = inl (proxy-unlinked h d x n i)
done_in-unlinked h (native_held d x) n i = inl (hold-unlinked h d x n i)
done_in-unlinked h (script_held d x) n i = inl (KeepUnlinked-exposed h x n i)
done_in-unlinked h (script_copied d x) n i = inl (KeepUnlinked-refl h n i)
done_in-unlinked h (native_stored d j x) n i = inl (store-unlinked h d j x n i)
done_in-unlinked h (slot_moved d j s l) n i = inl (move-unlinked h d j s l n i)
done_in-unlinked h (script_stored x j y) n i = inl (KeepUnlinked-then h (preserve h x) (effects.put_in_script h x j y) (KeepUnlinked-preserve h x) (KeepUnlinked-slot (preserve h x) x j y) n i)
done_in-unlinked h (reflector_held d x) n i = inl (wrapped-unlinked h x n i)
done_in-unlinked h (reflector_preserved x) n i = inl (KeepUnlinked-preserve h x n i)
done_in-unlinked h (entry_written m k v) n i = inl (entry-unlinked h m k v n i)
done_in-unlinked h (object_exposed x) n i = inl (KeepUnlinked-exposed h x n i)
done_in-unlinked h (weak_written w x) n i = inl (KeepUnlinked-refl h n i)

-- Script collections

-- A SWEEP KEEPS whether each native was unlinked.
pub sweep-unlinked : {owned : List ℕ} (h : Heap) → IsSound owned h → KeepUnlinked h (sweep h).heap
sweep-unlinked h s = KeepUnlinked-counts h (sweep h).heap (sweep-natives h s)

-- A SCRIPT COLLECTION KEEPS whether each native was unlinked.
pub collect_scripts-unlinked : {owned : List ℕ} (h : Heap) → IsSound owned h → KeepUnlinked h (collect_scripts h).heap
collect_scripts-unlinked h s = collecting-keeps (λ o. KeepUnlinked h o.heap)
    (λ o c a. KeepUnlinked-then h o.heap (sweep (marked o.heap)).heap a (KeepUnlinked-counts o.heap (sweep (marked o.heap)).heap (round-natives o.heap c)))
    h s (KeepUnlinked-refl h)

-- Units of a collection

-- the begin of a collection empties the buffer, and keeps whether each native was unlinked
pub empty_buffer-unlinked : (h : Heap) → KeepUnlinked h (with_empty_buffer h)
empty_buffer-unlinked h = KeepUnlinked-refl h

-- candidates given back leave the natives as they are
give_back-natives : (ks : List ℕ) (h : Heap) → (give_back ks h).natives ≡ h.natives
give_back-natives [] h = refl
give_back-natives (k ∷ ks) h = go (λ g. give_back-natives ks g) (is_some (native_at h k))
  where
    go : ((g : Heap) → (give_back ks g).natives ≡ g.natives) → (b : Bool) → (elim b as (λ _. Heap) [ true ↦ give_back ks (suspect h k) | false ↦ give_back ks h ]).natives ≡ h.natives
    go ih true = ih (suspect h k)
    go ih false = ih h

-- an abandonment keeps whether each native was unlinked
pub give_back-unlinked : (ks : List ℕ) (h : Heap) → KeepUnlinked h (give_back ks h)
give_back-unlinked ks h n i = KeepUnlinked-refl h n (subst (Among n) (give_back-natives ks h) i)

-- THE END OF A COLLECTION unlinks the natives that it takes; each other native is unlinked or not as it was.
pub take_away-unlinked : (h : Heap) (ks : List ℕ) → IsSound [] h → ((k : ℕ) → Among k ks → Among (native k) (native_names h)) → (n : HeapNative) → Among n (take_away ks h).heap.natives →
    (Among n.number ks × (n.unlinked ≡ true)) ⊎ ((¬ (Among n.number ks)) × WasThere h n)
take_away-unlinked h ks s there n i =
    let l = (take_away-takes h ks s there).1.left n i in
    ⊎_elim
    (λ t. inl (t, (l.taken t).unlinked))
    (λ o. inr (o, (l.was, l.there, l.number, ap (λ (u : HeapNative). u.unlinked) (l.other o))))
    (Among_or_not ◌==◌ number-exact ks n.number)

-- Natives by their numbers

-- THE NATIVE THAT IS FOUND AT A NUMBER was unlinked where the one was that was found before.
pub unlinked-kept : (h k : Heap) (j : ℕ) (m n : HeapNative) → HasDistinctNumbers h → ((p : HeapNative) → Among p k.natives → WasThereOrMade h p) → j ≤ h.natives_made →
    native_at h j ≡ Some m → native_at k j ≡ Some n → n.unlinked ≡ m.unlinked
unlinked-kept h k j m n d keep made e f = ⊎_elim
    (λ w.
    let found : Some m ≡ Some w.0 = sym e ∙ (ap (native_at h) (sym (w.2 ∙ native_at-number k j n f)) ∙ native_at-member h d w.0 w.1) in
    let same : m ≡ w.0 = cc in
    sym w.3 ∙ ap (λ (u : HeapNative). u.unlinked) (sym same))
    (λ new. absurd (omega (arith, made, new.0, native_at-number k j n f)))
    (keep n (native_at-there k j n f))

-- A native found at a number that had been made before was there, unlinked or not as it is.
pub found-before : (h k : Heap) (j : ℕ) (n : HeapNative) → HasDistinctNumbers h → ((p : HeapNative) → Among p k.natives → WasThereOrMade h p) → j ≤ h.natives_made →
    native_at k j ≡ Some n → (m : HeapNative) × (native_at h j ≡ Some m) × (m.unlinked ≡ n.unlinked)
found-before h k j n d keep made f = ⊎_elim
    (λ w. (w.0, ap (native_at h) (sym (w.2 ∙ native_at-number k j n f)) ∙ native_at-member h d w.0 w.1, w.3))
    (λ new. absurd (omega (arith, made, new.0, native_at-number k j n f)))
    (keep n (native_at-there k j n f))

-- what is found is usable where what was found before was
usable-found : (o p : Option HeapNative) (m n : HeapNative) → p ≡ Some m → o ≡ Some n → m.unlinked ≡ n.unlinked → is_usable_native o || false ≡ (is_usable_native p || false) && is_some o
usable-found o p m n e f u = grind arith

-- what is not found is not usable
usable-none : (o p : Option HeapNative) → o ≡ None → is_usable_native o || false ≡ (is_usable_native p || false) && is_some o
usable-none o p e = grind arith

-- A NATIVE IS USABLE where it was, and is there still.
pub usable-kept : (h k : Heap) (j : ℕ) → HasDistinctNumbers h → ((p : HeapNative) → Among p k.natives → WasThereOrMade h p) → j ≤ h.natives_made →
    is_usable k (native j) ≡ (is_usable h (native j) && is_some (native_at k j))
usable-kept h k j d keep made = go (native_at k j) refl
  where
    go : (o : Option HeapNative) → native_at k j ≡ o → is_usable k (native j) ≡ (is_usable h (native j) && is_some (native_at k j))
    go None e = usable-none (native_at k j) (native_at h j) e
    go (Some n) e = let m = found-before h k j n d keep made e in usable-found (native_at k j) (native_at h j) m.0 n m.1 e m.2
