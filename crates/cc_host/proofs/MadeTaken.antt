-- WHAT WAS MADE IS TAKEN by each call: it stands at its key, and was not unlinked.
use Rattle.std.proofs.Common.{◌≡◌, ℕ, ◌+◌, ◌<◌, [], Bool, true, false, not, ◌&&◌, ◌==◌, Option, Some, None, option_map, refl, ◌∙◌, ap, subst, ⊎_elim, arith}
use Rattle.std.proofs.lemmas.Bool.{false≢true, true≢false, eq-eqb, eqb-true}
use Rattle.cc_lists.specs.Members.{Among}
use Rattle.cc_names.specs.declared.name.Name.{Name}
use Rattle.cc_names.specs.declared.name.Name.TheVariants as name
use Rattle.cc_names.specs.Names.{native, number_of}
use Rattle.cc_names.proofs.NameTests.{same_name-refl}
use Rattle.cc_model.specs.Deeds.{native_made}
use Rattle.cc_model.specs.Heap.{Heap, HeapNative, native_at}
use Rattle.cc_model.specs.Effects.{done_in, make_native}
use Rattle.cc_model.specs.WellFormed.{IsWellFormed}
use Rattle.cc_laws_heap.proofs.UnlinkedKept.{WasThereOrMade, done_in-unlinked}
use Rattle.cc_laws_heap.proofs.Natives.{native_at-number, native_at-there}
use Rattle.cc_counted.specs.Counts.{number_or_none, unlinked_at, unlinked_of}
use Rattle.cc_names.specs.declared.number.NativeNo.{NativeNo}
use Rattle.cc_laws_heap.proofs.Face.{named-found}
use Rattle.cc_heaps.specs.Keyed.{Keyed, IsInOrder, counts_of, number_at}
use Rattle.cc_heaps.proofs.Calls.{number-named}
use Rattle.cc_host.specs.declared.weak.Weak.{Weak}
use Rattle.cc_host.specs.Referring.{has_ended, referent, stop_weak}
use Rattle.cc_host.specs.declared.object.Object.{Object}
use Rattle.cc_host.specs.declared.stop.Stop.TheVariants.{Foreign, Gone, Kind}
use Rattle.cc_host.specs.Hosted.{Hosted, IsKept, IsThere, is_name, is_usable_at}
use Rattle.cc_host.specs.Stops.{first, where_so, stop_at}
use Rattle.cc_host.proofs.Referring.{found-there, unlinked-of}

-- each native that is there when one was made was there before, unlinked or not as it is, or is the one
made-cases : (h : Heap) (r n : ℕ) (p : HeapNative) → Among p (make_native h r n).heap.natives → WasThereOrMade h p
unfolding done_in
made-cases h r n p i = done_in-unlinked h (native_made r n) p i

-- WHAT WAS MADE was not unlinked.
pub made-whole : (h k : Heap) (r n : ℕ) → IsWellFormed h → k ≡ (make_native h r n).heap → unlinked_at (native_at k (h.natives_made + 1)) ≡ false
made-whole h k r n w e = go (native_at k (h.natives_made + 1)) refl
  where
    go : (o : Option HeapNative) → native_at k (h.natives_made + 1) ≡ o → unlinked_at o ≡ false
    go None f = refl
    go (Some p) f = ⊎_elim
        (λ was. absurd (let low = (w.native_numbers was.0 was.1).1 in omega (arith, low, was.2, native_at-number k (h.natives_made + 1) p f)))
        (λ new. new.1)
        (made-cases h r n p (subst (λ (m : Heap). Among p m.natives) e (native_at-there k (h.natives_made + 1) p f)))

-- a name has one number
numbered : (o : Option ℕ) (m : ℕ) → option_map native o ≡ Some (native m) → o ≡ Some m
numbered None m f = absurd (cc)
numbered (Some j) m f = ap (option_map number_of) f

-- names that are the same where they are there
same_of : {x y : Name} → Some x ≡ Some y → x ≡ y
same_of e = cc

-- no test stops
none-stops : (z a b u : Bool) → z ≡ false → a ≡ true → b ≡ true → u ≡ false →
    first (where_so z Kind) (first (where_so (not a) Foreign) (where_so (not (b && not u)) Gone)) ≡ None
none-stops false true true false o p q r = refl
none-stops true a b u o p q r = absurd (true≢false o)
none-stops false false b u o p q r = absurd (false≢true p)
none-stops false true false u o p q r = absurd (false≢true q)
none-stops false true true true o p q r = absurd (true≢false r)

-- what has a number above 0 is something
above : (m : ℕ) → 0 < m → (m == 0) ≡ false
above m e = go (m == 0) refl
  where
    go : (b : Bool) → (m == 0) ≡ b → b ≡ false
    go false f = refl
    go true f = absurd (omega (arith, e, eqb-true m 0 f))

-- A NATIVE THAT STANDS AT ITS KEY and was not unlinked is taken by each call.
pub whole-taken : (h : Hosted) (x : Object) (n k : ℕ) → k ≡ n + 1 → Some x.name ≡ Some (native k) → IsThere h x → unlinked_at (native_at h.heaps.heap k) ≡ false → stop_at h x ≡ None
whole-taken h x n k is named there whole = go x.name (same_of named) there
  where
    go : (y : Name) → y ≡ native k → IsThere h (record x { name = y }) → stop_at h (record x { name = y }) ≡ None
    go (name.Script j) e t = absurd (cc)
    go (name.Reflector j) e t = absurd (cc)
    go (name.Native j) e t =
        let at : number_at h.heaps x.key ≡ Some j.0 = numbered (number_at h.heaps x.key) j.0 t.1 in
        let same : j.0 ≡ k = ap number_of e in
        let flag : unlinked_of (counts_of h.heaps) x.key ≡ false =
        unlinked-of h.heaps x.key ∙ (ap (λ o. unlinked_at (native_at h.heaps.heap (number_or_none o))) at ∙ (ap (λ l. unlinked_at (native_at h.heaps.heap l)) same ∙ whole)) in
        none-stops (j.0 == 0) (x.mark == h.mark) (is_name (name.Native j) (option_map native (number_at h.heaps x.key))) (unlinked_of (counts_of h.heaps) x.key)
        (above j.0 (omega (arith, same, is))) (eq-eqb x.mark h.mark t.0) (ap (is_name (name.Native j)) t.1 ∙ same_name-refl (name.Native j)) flag

-- a native that is found at a key has a number above 0
found-above : (v : Keyed) (key : ℕ) (number : NativeNo) → IsInOrder [] v → is_usable_at v key number ≡ true → 0 < number.0
found-above v key number o e =
    let f = named-found v.heap number.0 (number-named v [] key number.0 o (found-there v key number e).0) in
    omega (arith, o.sound.well_formed.native_numbers f.0 (native_at-there v.heap number.0 f.0 f.1), native_at-number v.heap number.0 f.0 f.1)

-- THE NATIVE OF A WEAK REFERENCE that has not ended is taken by each call.
pub followed-taken : (h : Hosted) (w : Weak) → IsKept h → stop_weak h w ≡ None → has_ended h w ≡ false → stop_at h (referent w) ≡ None
followed-taken h w kept marks not_ended =
    go (w.number.0 == 0) (w.mark == h.mark) (is_usable_at h.heaps w.key.0 w.number) (λ u. above w.number.0 (found-above h.heaps w.key.0 w.number kept.runs.order u)) marks not_ended
  where
    go : (z a u : Bool) → (u ≡ true → z ≡ false) → where_so (not a) Foreign ≡ None → not u ≡ false →
        first (where_so z Kind) (first (where_so (not a) Foreign) (where_so (not u) Gone)) ≡ None
    go false true true f m e = refl
    go true true true f m e = absurd (true≢false (f refl))
    go z true false f m e = absurd (true≢false e)
    go z false u f m e = absurd (cc)
