-- WHAT EACH CHANGE LEAVES USABLE: each native that stays is unlinked or not as it was, and one that is made is not unlinked.
use Rattle.std.proofs.Common.{◌≡◌, ℕ, ◌+◌, Bool, true, false, not, ◌||◌, [], Option, Some, None, refl, sym, ◌∙◌, ap, subst, ◌⊎◌, inl, inr, ⊎_elim}
use Rattle.cc_lists.specs.Members.{Among}
use Rattle.cc_lists.proofs.Members.{Among-left, Among-map}
use Rattle.cc_names.specs.declared.name.Name.{Name}
use Rattle.cc_names.specs.declared.kind.Kind.{Kind}
use Rattle.cc_names.specs.declared.number.NKey.{NKey}
use Rattle.cc_names.specs.declared.register.Reg.TheVariants.{N}
use Rattle.cc_names.specs.Names.{native}
use Rattle.cc_model.specs.Banks.{of_natives}
use Rattle.cc_model.specs.Heap.{Heap, HeapNative, lengthen, native_at, register, set_register}
use Rattle.cc_model.specs.Given.{is_usable, is_usable_native}
use Rattle.cc_model.specs.Effects.{hold_native, make_native, make_object, make_proxy, with_native}
use Rattle.cc_model.specs.WellFormed.{IsWellFormed, native_names, script_names}
use Rattle.cc_laws_heap.specs.Balance.{HasDistinctNumbers}
use Rattle.cc_laws_heap.proofs.NewObjects.{last-cases}
use Rattle.cc_laws_heap.proofs.UnlinkedKept.{KeepUnlinked, KeepUnlinked-refl, KeepUnlinked-then, WasThere}
use Rattle.cc_laws_heap.proofs.Face.{IsWellFormed-distinct, named-found, named-member, native-there, native_at-member, native_at-number, native_at-there}
use Rattle.cc_laws_told.proofs.Face.{Stays, Stays-lengthen, Stays-let_go, Stays-preserve, Stays-register, Stays-then}
use Rattle.cc_heaps.specs.Keyed.{Keyed, IsInOrder, left_with}
use Rattle.cc_heaps.specs.Leaving.{NoneCame}
use Rattle.cc_host.specs.Holding.{IsHeld, IsLetGo}
use Rattle.cc_host.specs.Lasting.{KeepsUsable}
use Rattle.cc_host.proofs.LastingSteps.{held-stays, hold-stays, let_go-stays, stays-as}

-- By natives

-- a native that is found is usable where it was not unlinked
pub found-usable : (h : Heap) (j : ℕ) (n : HeapNative) (b : Bool) → native_at h j ≡ Some n → n.unlinked ≡ b → is_usable h (native j) ≡ not b
found-usable h j n b e u = ap (λ o. is_usable_native o || false) e ∙ (ap (λ c. not c || false) u ∙ plain (not b))
  where
    plain : (c : Bool) → (c || false) ≡ c
    plain true = refl
    plain false = refl

-- where each was there, unlinked or not as it is, or is not unlinked
usable-by : (h k : Heap) → HasDistinctNumbers h → ((n : HeapNative) → Among n k.natives → WasThere h n ⊎ (n.unlinked ≡ false)) → KeepsUsable h k
usable-by h k d left = record { usable = λ j u there. go j u (named-found k j there) }
  where
    go : (j : ℕ) → is_usable h (native j) ≡ true → (n : HeapNative) × (native_at k j ≡ Some n) → is_usable k (native j) ≡ true
    go j u f = ⊎_elim
        (λ (w : WasThere h f.0).
        let was : native_at h j ≡ Some w.0 = ap (native_at h) (sym (w.2 ∙ native_at-number k j f.0 f.1)) ∙ native_at-member h d w.0 w.1 in
        found-usable k j f.0 f.0.unlinked f.1 refl ∙ (ap not (sym w.3) ∙ (sym (found-usable h j w.0 w.0.unlinked was refl) ∙ u)))
        (λ plain. found-usable k j f.0 false f.1 plain)
        (left f.0 (native_at-there k j f.0 f.1))

usable-kept : (h k : Heap) → HasDistinctNumbers h → KeepUnlinked h k → KeepsUsable h k
usable-kept h k d s = usable-by h k d (λ n i. inl (s n i))

-- of heaps that are another's
pub usable-as : (a b c : Heap) → c ≡ b → KeepsUsable a b → KeepsUsable a c
usable-as a b c is u = subst (KeepsUsable a) (sym is) u

pub stays-usable : (v w : Keyed) → IsInOrder [] v → Stays v.heap w.heap → KeepsUsable v.heap w.heap
stays-usable v w order s = usable-kept v.heap w.heap (IsWellFormed-distinct v.heap order.sound.well_formed) s.natives

-- One after another

usable-along : (a b c : Heap) → ((j : ℕ) → Among (native j) (native_names c) → Among (native j) (native_names b)) → KeepsUsable a b → KeepsUsable b c → KeepsUsable a c
usable-along a b c back f g = record { usable = λ j u there. g.usable j (f.usable j u (back j there)) there }

-- where nothing comes by the second
pub usable-then : (a b c : Heap) → IsWellFormed b → NoneCame b c → KeepsUsable a b → KeepsUsable b c → KeepsUsable a c
usable-then a b c w came f g =
    usable-along a b c (λ j there. native-there b j w (came (native j) (Among-left (native j) (native_names c) (script_names c) there))) f g

-- where the second leaves natives as they are
pub usable-still : (a : Heap) (v w : Keyed) → IsInOrder [] v → Stays v.heap w.heap → KeepsUsable a v.heap → KeepsUsable a w.heap
usable-still a v w order s f = usable-along a v.heap w.heap back f (stays-usable v w order s)
  where
    back : (j : ℕ) → Among (native j) (native_names w.heap) → Among (native j) (native_names v.heap)
    back j there =
        let n = named-member w.heap j there in
        let m = s.natives n.0 n.1 in
        subst (λ i. Among (native i) (native_names v.heap)) (m.2 ∙ n.2) (Among-map (λ (o : HeapNative). native o.number) m.0 v.heap.natives m.1)

-- Natives

-- while one is held, and let go again
pub around-usable : {key : NKey} (a b c d : Keyed) → IsInOrder [] a → IsHeld key a b → Stays b.heap c.heap → IsLetGo c d → KeepsUsable a.heap d.heap
around-usable {key} a b c d order held s gone = stays-usable a d order
    (Stays-then a.heap c.heap d.heap (Stays-then a.heap b.heap c.heap (hold-stays a b key held) s) (let_go-stays c d gone))

-- a register that the bank was lengthened for
pub place-usable : (v mid w : Keyed) (r : ℕ) (x : Option Name) → IsInOrder [] v → mid.heap ≡ lengthen v.heap of_natives (r + 1) → w ≡ left_with mid (hold_native mid.heap r x).heap → KeepsUsable v.heap w.heap
place-usable v mid w r x order longer is = stays-usable v w order (Stays-then v.heap mid.heap w.heap
    (stays-as v.heap (lengthen v.heap of_natives (r + 1)) mid.heap longer (Stays-lengthen v.heap of_natives (r + 1)))
    (held-stays mid w r x is))

-- one made
pub make-usable : (h : Heap) (d n : ℕ) → HasDistinctNumbers h → KeepsUsable h (make_native h d n).heap
unfolding make_native
make-usable h d n distinct =
    let k : Heap = with_native h n in
    let put : Heap = set_register k (N d) (Some (native (h.natives_made + 1))) in
    let end : Heap = (make_native h d n).heap in
    let s : Stays k end = Stays-then k put end (Stays-register k (N d) (Some (native (h.natives_made + 1)))) (Stays-let_go put (register k (N d))) in
    usable-by h end distinct (λ m i.
    let w : WasThere k m = s.natives m i in
    ⊎_elim
    (λ old. inl (w.0, old, w.2, w.3))
    (λ new. inr (sym w.3 ∙ ap (λ (u : HeapNative). u.unlinked) (sym new)))
    (last-cases h.natives _ w.0 w.1))

-- Script objects made

pub object-usable : (h : Heap) (r : ℕ) (kind : Kind) (n : ℕ) (d : Option Name) → KeepsUsable h (make_object h r kind n d)
object-usable h r kind n d = record { usable = λ j u there. u }

pub proxy-usable : (u v w : Keyed) (r : ℕ) (x : Option Name) → IsInOrder [] u → Stays u.heap v.heap → w.heap ≡ make_proxy v.heap r x → KeepsUsable u.heap w.heap
proxy-usable u v w r x order s is = usable-kept u.heap w.heap (IsWellFormed-distinct u.heap order.sound.well_formed)
    (KeepUnlinked-then u.heap v.heap w.heap s.natives (subst (KeepUnlinked v.heap) (sym is) (go x)))
  where
    go : (x : Option Name) → KeepUnlinked v.heap (make_proxy v.heap r x)
    go None = KeepUnlinked-refl v.heap
    go (Some x) = let p : Stays v.heap _ = Stays-preserve v.heap (Some x) in p.natives
