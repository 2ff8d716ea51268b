-- WHAT THE HEAPS' CALLS WRITE, by what they come to.
use Rattle.std.proofs.Common.{◌≡◌, ◌≢◌, ℕ, ◌+◌, ◌<◌, List, [], ◌∷◌, length, get_or, Option, Some, None, refl, sym, ◌∙◌, ap, subst, inl, inr, ⊎_elim}
use Rattle.std.proofs.lemmas.List.{length-map}
use Rattle.cc_lists.specs.Members.{Among}
use Rattle.cc_names.specs.declared.name.Name.{Name}
use Rattle.cc_names.specs.declared.kind.Kind.{Kind}
use Rattle.cc_names.specs.declared.register.Reg.TheVariants.{N, S}
use Rattle.cc_names.specs.Names.{native, object}
use Rattle.cc_model.specs.Checks.{slots_or_none}
use Rattle.cc_model.specs.Banks.{Bank, of_natives, of_scripts, of_weak}
use Rattle.cc_model.specs.Heap.{Heap, lengthen, native_at, preserve, register, set_register, set_slot, slots_in}
use Rattle.cc_model.specs.Cascade.{take_up}
use Rattle.cc_model.specs.Effects.{hold_native, hold_script, make_native, make_object, make_proxy, set_entry, wrapped}
use Rattle.cc_model.specs.End.{slots_now}
use Rattle.cc_model.specs.WellFormed.{IsWellFormed}
use Rattle.cc_laws_heap.proofs.Face.{option_map-found}
use Rattle.cc_script.specs.Objects as objects
use Rattle.cc_script.specs.Objects.{name_at}
use Rattle.cc_mutator.proofs.ScriptsRead.{slots-of_object}
use Rattle.cc_heaps.specs.Keyed.{IsInOrder, Keyed, left_with, name_held, named_object}
use Rattle.cc_heaps.proofs.ContentNames.{object-there}
use Rattle.cc_heaps.specs.Changes.{moved_in, slot_held, stored_in}
use Rattle.cc_heaps.specs.Leaving.{NoneCame}
use Rattle.cc_host.specs.Spots.{IsWritten, Spot, WritesOnly, if_reflector, reads}
use Rattle.cc_host.proofs.Spots.{Alters, alters-take_up, alters-then}
use Rattle.cc_host.proofs.SpotsWritten.{alters-native_register, alters-preserve, alters-set_entry, alters-slot, alters-unset_entry}
use Rattle.cc_host.proofs.SpotsCalls.{alters-hold_native, alters-hold_script, alters-make_object, alters-make_proxy, alters-moved_in, alters-stored_in, alters-wrapped, moved_in-emptied, moved_in-written, others-make_native, slots-read, stored_in-written, writes-alters, writes-others}
use Rattle.cc_host.proofs.SpotsRead.{preserved-written, proxy-written, set_entry-written, slot-own, unset_entry-written}
use Rattle.cc_host.proofs.Lengthened.{lengthened-place}
use Rattle.cc_host.proofs.Placed.{held_script-holds}
use Rattle.cc_host.proofs.SpotsThen.{writes-but, writes-more, writes-then}

-- of heaps that are what a change comes to
pub writes-as : (spots : List Spot) (h k m : Heap) → m ≡ k → IsWellFormed m → Alters spots h k → WritesOnly spots h m
writes-as spots h k m e w a = writes-alters spots h m w (subst (Alters spots h) (sym e) a)

-- Natives

pub held-only : (v w : Keyed) (r : ℕ) (x : Option Name) → w ≡ left_with v (hold_native v.heap r x).heap → IsWellFormed w.heap → WritesOnly (Spot.register (N r) ∷ []) v.heap w.heap
held-only v w r x is well = writes-as (Spot.register (N r) ∷ []) v.heap (hold_native v.heap r x).heap w.heap (ap (λ (u : Keyed). u.heap) is) well
    (alters-hold_native (Spot.register (N r) ∷ []) v.heap r x (inl refl))

pub stored-only : (v w : Keyed) (k i : ℕ) (x : Option Name) → w ≡ left_with v (stored_in v.heap k i x).heap → IsWellFormed w.heap → WritesOnly (Spot.slot (native k) i ∷ []) v.heap w.heap
stored-only v w k i x is well = writes-as (Spot.slot (native k) i ∷ []) v.heap (stored_in v.heap k i x).heap w.heap (ap (λ (u : Keyed). u.heap) is) well
    (alters-stored_in (Spot.slot (native k) i ∷ []) v.heap k i x (inl refl))

pub stored-written : (v w : Keyed) (k i : ℕ) (x : Option Name) → w ≡ left_with v (stored_in v.heap k i x).heap → IsWellFormed w.heap → i < length (slots_now (native_at v.heap k)) →
    IsWritten (Spot.slot (native k) i) x w.heap
stored-written v w k i x is well within =
    let e = ap (λ (u : Keyed). u.heap) is in
    subst (IsWritten (Spot.slot (native k) i) x) (sym e) (stored_in-written v.heap k i x within (subst IsWellFormed e well))

module _ (h g : Heap) (k i m j : ℕ) (is : g ≡ (moved_in h k i m j).heap) (well : IsWellFormed g) where
  abbrev both : List Spot
  both = Spot.slot (native k) i ∷ Spot.slot (native m) j ∷ []

  pub moved-only : WritesOnly (Spot.slot (native k) i ∷ Spot.slot (native m) j ∷ []) h g
  moved-only = writes-as both h (moved_in h k i m j).heap g is well (alters-moved_in both h k i m j (inl refl) (inr (inl refl)))

  pub moved-written : i < length (slots_now (native_at h k)) → IsWritten (Spot.slot (native k) i) (slot_held h m j) g
  moved-written within = subst (IsWritten (Spot.slot (native k) i) (slot_held h m j)) (sym is) (moved_in-written h k i m j within (subst IsWellFormed is well))

  pub moved-emptied : Spot.slot (native k) i ≢ Spot.slot (native m) j → IsWritten (Spot.slot (native m) j) None g
  moved-emptied apart = subst (IsWritten (Spot.slot (native m) j) None) (sym is) (moved_in-emptied h k i m j apart (subst IsWellFormed is well))

-- what a slot of a native holds
pub slot-read : (h : Heap) (k i : ℕ) → slot_held h k i ≡ reads h (Spot.slot (native k) i)
slot-read h k i = ap (λ ss. get_or ss i None) (slots-read (native_at h k))

-- a native is held meanwhile
pub writes-round : (r : ℕ) (spots : List Spot) (a b c d : Heap) → NoneCame b c → NoneCame c d → register a (N r) ≡ None → register d (N r) ≡ None →
    WritesOnly (Spot.register (N r) ∷ []) a b → WritesOnly spots b c → WritesOnly (Spot.register (N r) ∷ []) c d → WritesOnly spots a d
writes-round r spots a b c d came late before after f g e =
    let many : List Spot = Spot.register (N r) ∷ spots in
    let one : (s : Spot) → Among s (Spot.register (N r) ∷ []) → Among s many = λ s i. ⊎_elim (λ l. inl l) (λ n. absurd n) i in
    writes-but r spots a d before after
    (writes-then many a c d late
    (writes-then many a b c came (writes-more (Spot.register (N r) ∷ []) many a b one f) (writes-more spots many b c (λ s i. inr i) g))
    (writes-more (Spot.register (N r) ∷ []) many c d one e))

-- a native wrapped while a register holds it
pub wrapped-only : (h a b : Heap) (r : ℕ) (x : Option Name) (k : ℕ) → a ≡ set_register (take_up h x) (N r) x → b ≡ wrapped a (Some (native k)) → IsWellFormed b →
    WritesOnly (Spot.register (N r) ∷ []) h b
wrapped-only h a b r x k e is well =
    let only : List Spot = Spot.register (N r) ∷ [] in
    let up = take_up h x in
    let late = set_register up (N r) x in
    writes-as only h (wrapped late (Some (native k))) b (is ∙ ap (λ g. wrapped g (Some (native k))) e) well
    (alters-then only h late (wrapped late (Some (native k)))
    (alters-then only h up late (alters-take_up only h x) (alters-native_register only up r x (inl refl)))
    (alters-wrapped only late k))

-- Script objects, by names that are there

pub script_held-only : (h k : Heap) (r : ℕ) (x : Option Name) → k ≡ hold_script h r x → IsWellFormed k → WritesOnly (Spot.register (S r) ∷ []) h k
script_held-only h k r x is well = writes-as (Spot.register (S r) ∷ []) h (hold_script h r x) k is well (alters-hold_script (Spot.register (S r) ∷ []) h r x (inl refl))

pub preserved-only : (h k : Heap) (o : Option Name) (x : Name) → o ≡ Some x → k ≡ preserve h o → IsWellFormed k → WritesOnly (Spot.preserved x ∷ []) h k
preserved-only h k o x e is well = writes-as (Spot.preserved x ∷ []) h (preserve h (Some x)) k (is ∙ ap (preserve h) e) well (alters-preserve (Spot.preserved x ∷ []) h x (inl refl))

pub slot-only : (h k : Heap) (o : Option Name) (x : Name) (i : ℕ) (y : Option Name) → o ≡ Some x → k ≡ set_slot h o i y → IsWellFormed k → WritesOnly (Spot.slot x i ∷ []) h k
slot-only h k o x i y e is well = writes-as (Spot.slot x i ∷ []) h (set_slot h (Some x) i y) k (is ∙ ap (λ z. set_slot h z i y) e) well (alters-slot (Spot.slot x i ∷ []) h x i y (inl refl))

-- a script object has as many slots by its key as by its name
pub script_many : (v : Keyed) → IsInOrder [] v → (key : ℕ) (x : Name) → name_at v.scripts key ≡ Some x → length (objects.slots_at v.scripts key) ≡ length (slots_or_none (slots_in v.heap x))
script_many v order key x name =
    let o = option_map-found (λ (o : objects.Object). o.name) (objects.object_at v.scripts key) x name in
    ap (λ (p : Option objects.Object). length (objects.slots_or_none p)) o.1
    ∙ (sym (length-map o.0.slots (name_held v.scripts))
    ∙ sym (ap length (ap (λ y. slots_or_none (slots_in v.heap y)) (sym o.2) ∙ slots-of_object [] v order (named_object v.scripts o.0) (object-there [] v order key o.0 o.1))))

pub slot-written : (h k : Heap) (o : Option Name) (x : Name) (i : ℕ) (y : Option Name) → o ≡ Some x → k ≡ set_slot h o i y → i < length (slots_or_none (slots_in h x)) →
    IsWritten (Spot.slot x i) y k
slot-written h k o x i y e is within = record { holds = λ has. ap (λ g. reads g (Spot.slot x i)) (is ∙ ap (λ z. set_slot h z i y) e) ∙ slot-own h x i y within }

pub preserved-holds : (h k : Heap) (o : Option Name) (x : Name) → o ≡ Some x → k ≡ preserve h o → IsWellFormed k → IsWritten (Spot.preserved x) (if_reflector x) k
preserved-holds h k o x e is well = preserved-written h k x well (ap (λ (g : Heap). g.natives) (is ∙ ap (preserve h) e))

pub script_held-written : (h k : Heap) (r : ℕ) (x : Option Name) → r < length h.script_registers → k ≡ hold_script h r x → IsWritten (Spot.register (S r)) x k
script_held-written h k r x room is = record { holds = λ has. ap (λ (g : Heap). register g (S r)) is ∙ held_script-holds h r x room }

-- Entries

module _ (h k : Heap) (om ok ov : Option Name) (m x v : Name) (em : om ≡ Some m) (ek : ok ≡ Some x) (ev : ov ≡ Some v) (is : k ≡ set_entry h om ok ov) (well : IsWellFormed k) where
  entry-is : k ≡ set_entry h (Some m) (Some x) (Some v)
  entry-is = is ∙ (λ i. set_entry h (em i) (ek i) (ev i))

  pub entry-only : WritesOnly (Spot.entry m x ∷ Spot.preserved x ∷ []) h k
  entry-only = writes-as (Spot.entry m x ∷ Spot.preserved x ∷ []) h (set_entry h (Some m) (Some x) (Some v)) k entry-is well
      (alters-set_entry (Spot.entry m x ∷ Spot.preserved x ∷ []) h m x v (inl refl) (inr (inl refl)))

  pub entry-written : IsWritten (Spot.entry m x) (Some v) k
  entry-written = record { holds = λ has. ap (λ g. reads g (Spot.entry m x)) entry-is ∙ set_entry-written h m x v }

  pub entry-preserved : IsWritten (Spot.preserved x) (if_reflector x) k
  entry-preserved = preserved-written h k x well (ap (λ (g : Heap). g.natives) entry-is)

module _ (h k : Heap) (om ok : Option Name) (m x : Name) (em : om ≡ Some m) (ek : ok ≡ Some x) (is : k ≡ set_entry h om ok None) (well : IsWellFormed k) where
  unset-is : k ≡ set_entry h (Some m) (Some x) None
  unset-is = is ∙ (λ i. set_entry h (em i) (ek i) None)

  pub unset-only : WritesOnly (Spot.entry m x ∷ []) h k
  unset-only = writes-as (Spot.entry m x ∷ []) h (set_entry h (Some m) (Some x) None) k unset-is well (alters-unset_entry (Spot.entry m x ∷ []) h m x (inl refl))

  pub unset-written : IsWritten (Spot.entry m x) None k
  unset-written = record { holds = λ has. ap (λ g. reads g (Spot.entry m x)) unset-is ∙ unset_entry-written h m x }

-- Objects made

pub made_native-only : (h k : Heap) (r n : ℕ) → k ≡ (make_native h r n).heap → IsWellFormed k → WritesOnly (Spot.register (N r) ∷ []) h k
made_native-only h k r n is well = subst (WritesOnly (Spot.register (N r) ∷ []) h) (sym is)
    (writes-others (Spot.register (N r) ∷ []) h (make_native h r n).heap (subst IsWellFormed is well) (others-make_native (Spot.register (N r) ∷ []) h r n (inl refl)))

pub made_object-only : (h k : Heap) (r : ℕ) (kind : Kind) (n : ℕ) → k ≡ make_object h r kind n None → IsWellFormed k → WritesOnly (Spot.register (S r) ∷ []) h k
made_object-only h k r kind n is well = writes-as (Spot.register (S r) ∷ []) h (make_object h r kind n None) k is well
    (alters-make_object (Spot.register (S r) ∷ []) h r kind n None (inl refl) (inl refl))

module _ (h k : Heap) (r : ℕ) (o : Option Name) (x : Name) (e : o ≡ Some x) (is : k ≡ make_proxy h r o) (well : IsWellFormed k) where
  abbrev its_delegate : Spot
  its_delegate = Spot.delegate (object (h.scripts_made + 1))

  proxy-is : k ≡ make_proxy h r (Some x)
  proxy-is = is ∙ ap (make_proxy h r) e

  pub proxy-only : WritesOnly (Spot.register (S r) ∷ Spot.delegate (object (h.scripts_made + 1)) ∷ Spot.preserved x ∷ []) h k
  proxy-only = writes-as (Spot.register (S r) ∷ its_delegate ∷ Spot.preserved x ∷ []) h (make_proxy h r (Some x)) k proxy-is well
      (alters-make_proxy (Spot.register (S r) ∷ its_delegate ∷ Spot.preserved x ∷ []) h r x (inl refl) (inr (inl refl)) (inr (inr (inl refl))))

  pub proxy-delegate : IsWellFormed h → IsWritten (Spot.delegate (object (h.scripts_made + 1))) (Some x) k
  proxy-delegate before = record { holds = λ has. ap (λ g. reads g its_delegate) proxy-is ∙ proxy-written h r x before }

  pub proxy-preserved : IsWritten (Spot.preserved x) (if_reflector x) k
  proxy-preserved = preserved-written h k x well (ap (λ (g : Heap). g.natives) proxy-is)

-- Registers behind the others, whose bank was lengthened

alters-longer : (spots : List Spot) (h : Heap) (b : Bank) (n : ℕ) → Alters spots h (lengthen h b n)
alters-longer spots h b n = record { others = λ s out. inr (go b s); none_comes = λ j e. none b j e }
  where
    none : (b : Bank) (j : ℕ) → native_at h j ≡ None → native_at (lengthen h b n) j ≡ None
    none of_natives j e = e
    none of_scripts j e = e
    none of_weak j e = e

    go : (b : Bank) (s : Spot) → reads (lengthen h b n) s ≡ reads h s
    go of_natives (Spot.register (N q)) = lengthened-place h.native_registers n q
    go of_scripts (Spot.register (S q)) = lengthened-place h.script_registers n q
    go of_natives s = refl
    go of_scripts s = refl
    go of_weak s = refl

pub placed-only : (v mid w : Keyed) (r : ℕ) (x : Option Name) → mid.heap ≡ lengthen v.heap of_natives (r + 1) → w ≡ left_with mid (hold_native mid.heap r x).heap → IsWellFormed w.heap →
    WritesOnly (Spot.register (N r) ∷ []) v.heap w.heap
placed-only v mid w r x longer is well =
    let only : List Spot = Spot.register (N r) ∷ [] in
    let late = lengthen v.heap of_natives (r + 1) in
    writes-as only v.heap (hold_native late r x).heap w.heap (ap (λ (u : Keyed). u.heap) is ∙ ap (λ h. (hold_native h r x).heap) longer) well
    (alters-then only v.heap late (hold_native late r x).heap (alters-longer only v.heap of_natives (r + 1)) (alters-hold_native only late r x (inl refl)))

pub placed_script-only : (h k : Heap) (r : ℕ) (x : Option Name) → k ≡ hold_script (lengthen h of_scripts (r + 1)) r x → IsWellFormed k → WritesOnly (Spot.register (S r) ∷ []) h k
placed_script-only h k r x is well =
    let only : List Spot = Spot.register (S r) ∷ [] in
    let late = lengthen h of_scripts (r + 1) in
    writes-as only h (hold_script late r x) k is well
    (alters-then only h late (hold_script late r x) (alters-longer only h of_scripts (r + 1)) (alters-hold_script only late r x (inl refl)))

-- nothing is written where nothing changes
pub unwritten-same : (spots : List Spot) (v w : Keyed) → w ≡ v → WritesOnly spots v.heap w.heap
unwritten-same spots v w e = record { others = λ s has out. ap (λ (u : Keyed). reads u.heap s) e }
