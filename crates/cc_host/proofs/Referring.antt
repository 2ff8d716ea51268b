-- WHAT MAY BE HELD by a root: natives that are there and were not unlinked.
use Rattle.std.proofs.Common.{◌≡◌, ℕ, Bool, true, false, not, ◌&&◌, ◌||◌, List, Option, Some, None, IsTrue, option_map, refl, sym, ◌∙◌, ap, subst, inl, inr, arith}
use Rattle.std.proofs.lemmas.Bool.{eqb-true, false≢true}
use Rattle.cc_lists.proofs.Searching.{find-map}
use Rattle.cc_names.specs.declared.name.Name.{Name}
use Rattle.cc_names.specs.declared.name.Name.TheVariants as name
use Rattle.cc_names.specs.declared.number.NKey.{NKey}
use Rattle.cc_names.specs.declared.number.NativeNo.{NativeNo}
use Rattle.cc_names.specs.Names.{native}
use Rattle.cc_model.specs.Heap.{Heap, HeapNative, native_at}
use Rattle.cc_model.specs.Given.{is_usable, is_usable_native}
use Rattle.cc_counted.specs.Counts.{heap_of, number_or_none, unlinked_at, unlinked_of}
use Rattle.cc_laws_heap.proofs.Face.{named-found}
use Rattle.cc_heaps.specs.Keyed.{Keyed, IsInOrder, counts_of, number_at, the_number}
use Rattle.cc_heaps.specs.Changes.{native_name}
use Rattle.cc_heaps.specs.Standing.{IsReached, MayBeHeld}
use Rattle.cc_heaps.proofs.Calls.{number-named}
use Rattle.cc_host.specs.declared.object.Object.{Object}
use Rattle.cc_host.specs.Hosted.{Hosted, is_name, is_usable_at}
use Rattle.cc_host.specs.Stops.{stop_at}

-- What is reached may be held.
pub reached-held : (h : Heap) (x : Option Name) → IsReached h x → MayBeHeld h x
reached-held h None r = tt
reached-held h (Some x) r = inl r

-- The counted heap shows whether a native was unlinked as the heaps do.
unlinked-keyed : (v : Keyed) (k : ℕ) → unlinked_at (native_at (heap_of (counts_of v)) k) ≡ unlinked_at (native_at v.heap k)
unlinked-keyed v k = grind (arith, find-map)

-- Whether the native at a key was unlinked, by its number.
pub unlinked-of : (v : Keyed) (key : ℕ) → unlinked_of (counts_of v) key ≡ unlinked_at (native_at v.heap (the_number v key))
unlinked-of v key = unlinked-keyed v (the_number v key)

-- WHAT IS FOUND AT A KEY stands there and was not unlinked.
pub found-there : (v : Keyed) (key : ℕ) (number : NativeNo) → is_usable_at v key number ≡ true → (number_at v key ≡ Some number.0) × (unlinked_of (counts_of v) key ≡ false)
found-there v key number e = go (number_at v key) (unlinked_of (counts_of v) key) e
  where
    go : (x : Option ℕ) (b : Bool) → is_name (name.Native number) (option_map native x) && not b ≡ true → (x ≡ Some number.0) × (b ≡ false)
    go None b f = absurd (false≢true f)
    go (Some k) true f = absurd (grind arith)
    go (Some k) false f = (ap Some (grind (arith, eqb-true)), refl)

-- SUCH A NATIVE MAY BE HELD.
pub found-held : (v : Keyed) (owned : List ℕ) → IsInOrder owned v → (key k : ℕ) → number_at v key ≡ Some k → unlinked_of (counts_of v) key ≡ false → IsTrue (is_usable v.heap (native k))
found-held v owned o key k at u = go (native_at v.heap k) f.1 flag
  where
    f : (n : HeapNative) × (native_at v.heap k ≡ Some n)
    f = named-found v.heap k (number-named v owned key k o at)

    flag : unlinked_at (native_at v.heap k) ≡ false
    flag = ap (λ x. unlinked_at (native_at v.heap (number_or_none x))) (sym at) ∙ (sym (unlinked-of v key) ∙ u)

    go : (x : Option HeapNative) → x ≡ Some f.0 → unlinked_at x ≡ false → is_usable_native x || false ≡ true
    go None e b = absurd (cc)
    go (Some n) e b = grind (arith, b)

-- A key at which something was found holds what may be held.
pub key-held : (v : Keyed) (owned : List ℕ) → IsInOrder owned v → (key : NKey) (number : NativeNo) → is_usable_at v key.0 number ≡ true → MayBeHeld v.heap (native_name v (Some key))
key-held v owned o key number e =
    let t = found-there v key.0 number e in
    subst (λ x. MayBeHeld v.heap (option_map native x)) (sym t.0) (inr (found-held v owned o key.0 number.0 t.0 t.1))

-- A native at which no call stops is found at its key.
pub found-native : (h : Hosted) (x : Object) (number : NativeNo) → x.name ≡ name.Native number → stop_at h x ≡ None → is_usable_at h.heaps x.key number ≡ true
found-native h x number is none = grind (arith, is, none)
