-- WHAT THE HEAPS' CALLS WRITE, spot by spot.
use Rattle.std.proofs.Common.{arith, ◌≡◌, ◌≢◌, ◌⊎◌, ℕ, zero, suc, ◌+◌, ◌<◌, Bool, true, false, List, [], ◌∷◌, length, set, get_or, Option, Some, None, option_map, refl, sym, ◌∙◌, ap, subst, inl, inr, ⊎_elim}
use Rattle.std.proofs.lemmas.List.{get_or-set_same}
use Rattle.cc_lists.specs.Members.{Among}
use Rattle.cc_lists.proofs.Members.{Among-append}
use Rattle.cc_names.specs.declared.name.Name.{Name}
use Rattle.cc_names.specs.declared.name.Name.TheVariants as name
use Rattle.cc_names.specs.declared.kind.Kind.{Kind}
use Rattle.cc_names.specs.declared.kind.Kind.TheVariants.{Proxy, Reflector}
use Rattle.cc_names.specs.declared.register.Reg.TheVariants.{N, S}
use Rattle.cc_names.specs.Names.{native, object, reflector}
use Rattle.cc_model.specs.Slots.{Slots, reflector_slots}
use Rattle.cc_model.specs.Checks.{slots_or_none}
use Rattle.cc_model.specs.Heap.{Heap, HeapNative, has_reflector, native_at, preserve, register, set_register, set_slot, with_native_slot}
use Rattle.cc_model.specs.Cascade.{let_go, take_up}
use Rattle.cc_model.specs.Effects.{hold_native, hold_script, make_native, make_object, make_proxy, touched, with_native, with_object, with_reflector, with_script, wrapped}
use Rattle.cc_model.specs.End.{slots_now}
use Rattle.cc_model.specs.Exposure.{exposed}
use Rattle.cc_model.specs.WellFormed.{IsWellFormed, native_names, names_there, script_names}
use Rattle.cc_laws_heap.proofs.Face.{taken_out-length, named-found, native-no_script, native_at-change_same}
use Rattle.cc_heaps.specs.Changes.{moved_in, slot_held, stored_in, taken_from}
use Rattle.cc_heaps.proofs.ReflectingMade.{wrapped_by}
use Rattle.cc_heaps.proofs.SlotsHeld.{slots-taken}
use Rattle.cc_host.specs.Spots.{HasSpot, IsWritten, Spot, WritesOnly, reads}
use Rattle.cc_host.proofs.Spots.{Alters, IsGone, alters-let_go, alters-same, alters-take_up, alters-then}
use Rattle.cc_host.proofs.SpotsWritten.{alters-exposed, alters-native_register, alters-native_slot, alters-preserve, alters-script_register}
use Rattle.cc_host.proofs.SpotsMade.{alters-with_script, others-then, others-with_native}

-- a native that has a spot that is there is there
pub not-gone : (k : Heap) → IsWellFormed k → (s : Spot) → HasSpot k s → IsGone k s → ⊥
not-gone k w s has gone = go s has gone
  where
    native-here : (j : ℕ) → Among (native j) (names_there k) → native_at k j ≡ None → ⊥
    native-here j m none = ⊎_elim
        (λ l. let f = named-found k j l in absurd (cc))
        (λ r. native-no_script k j w r)
        (Among-append (native j) (native_names k) (script_names k) m)

    go : (s : Spot) → HasSpot k s → IsGone k s → ⊥
    go (Spot.slot (name.Native j) i) has gone = native-here j.0 has gone
    go (Spot.slot (name.Script j) i) has gone = gone
    go (Spot.slot (name.Reflector j) i) has gone = gone
    go (Spot.preserved (name.Native j)) has gone = gone
    go (Spot.preserved (name.Script j)) has gone = gone
    go (Spot.preserved (name.Reflector j)) has gone = native-here j.0 has gone
    go (Spot.register r) has gone = gone
    go (Spot.entry m x) has gone = gone
    go (Spot.delegate x) has gone = gone

module _ (spots : List Spot) (h k : Heap) (w : IsWellFormed k) where
  pub writes-others : ((s : Spot) → ¬ (Among s spots) → IsGone k s ⊎ (reads k s ≡ reads h s)) → WritesOnly spots h k
  writes-others f = record { others = λ s has out. ⊎_elim (λ gone. absurd (not-gone k w s has gone)) (λ e. e) (f s out) }

  pub writes-alters : Alters spots h k → WritesOnly spots h k
  writes-alters a = writes-others a.others

-- Natives written

module _ (spots : List Spot) (h : Heap) where
  pub alters-hold_native : (r : ℕ) (x : Option Name) → Among (Spot.register (N r)) spots → Alters spots h (hold_native h r x).heap
  unfolding hold_native
  alters-hold_native r x m =
      let up = take_up h x in
      let late = set_register up (N r) x in
      alters-then spots h late (let_go late (register up (N r))).heap
      (alters-then spots h up late (alters-take_up spots h x) (alters-native_register spots up r x m))
      (alters-let_go spots late (register up (N r)))

  pub alters-stored_in : (k i : ℕ) (x : Option Name) → Among (Spot.slot (native k) i) spots → Alters spots h (stored_in h k i x).heap
  alters-stored_in k i x m =
      let up = take_up h x in
      let late = set_slot up (Some (native k)) i x in
      alters-then spots h late (let_go late (slot_held up k i)).heap
      (alters-then spots h up late (alters-take_up spots h x) (alters-native_slot spots up k i x m))
      (alters-let_go spots late (slot_held up k i))

  -- touched
  alters-touched : (x : Option Name) → Alters spots h (touched h x)
  alters-touched None = alters-same spots h
  alters-touched (Some (name.Native k)) = record { others = λ s out. inr refl; none_comes = λ j e. e }
  alters-touched (Some (name.Script k)) = alters-exposed spots h (Some (object k.0))
  alters-touched (Some (name.Reflector k)) = alters-exposed spots h (Some (reflector k.0))

  pub alters-moved_in : (k i m j : ℕ) → Among (Spot.slot (native k) i) spots → Among (Spot.slot (native m) j) spots → Alters spots h (moved_in h k i m j).heap
  alters-moved_in k i m j to from =
      let x = slot_held h m j in
      let near = touched h x in
      let taken = taken_from h m j in
      let late = set_slot taken (Some (native k)) i x in
      alters-then spots h late (let_go late (slot_held taken k i)).heap
      (alters-then spots h taken late
      (alters-then spots h near taken (alters-touched x) (alters-native_slot spots near m j None from))
      (alters-native_slot spots taken k i x to))
      (alters-let_go spots late (slot_held taken k i))

  -- a native made, which a register holds
  pub others-make_native : (r n : ℕ) → Among (Spot.register (N r)) spots → (s : Spot) → ¬ (Among s spots) →
      IsGone (make_native h r n).heap s ⊎ (reads (make_native h r n).heap s ≡ reads h s)
  unfolding make_native
  others-make_native r n m =
      let put = with_native h n in
      let late = set_register put (N r) (Some (native (h.natives_made + 1))) in
      others-then spots h put (let_go late (register put (N r))).heap (others-with_native spots h n)
      (alters-then spots put late (let_go late (register put (N r))).heap
      (alters-native_register spots put r (Some (native (h.natives_made + 1))) m)
      (alters-let_go spots late (register put (N r))))

  -- Script objects written

  pub alters-hold_script : (r : ℕ) (x : Option Name) → Among (Spot.register (S r)) spots → Alters spots h (hold_script h r x)
  alters-hold_script r x m = alters-then spots h (exposed h x) (hold_script h r x) (alters-exposed spots h x) (alters-script_register spots (exposed h x) r x m)

  -- a script object made, which a register holds
  pub alters-make_object : (r : ℕ) (kind : Kind) (n : ℕ) (d : Option Name) → Among (Spot.register (S r)) spots →
      ((d ≡ None) ⊎ Among (Spot.delegate (object (h.scripts_made + 1))) spots) → Alters spots h (make_object h r kind n d)
  alters-make_object r kind n d m free =
      let put = with_object h kind n d in
      let made = alters-with_script spots h (object (h.scripts_made + 1)) kind n d free in
      alters-then spots h put (make_object h r kind n d) (record { others = made.others; none_comes = made.none_comes })
      (alters-script_register spots put r (Some (object (h.scripts_made + 1))) m)

module _ (spots : List Spot) (h : Heap) where
  -- a proxy made
  pub alters-make_proxy : (r : ℕ) (x : Name) → Among (Spot.register (S r)) spots → Among (Spot.delegate (object (h.scripts_made + 1))) spots → Among (Spot.preserved x) spots →
      Alters spots h (make_proxy h r (Some x))
  alters-make_proxy r x m d p =
      let mid = preserve h (Some x) in
      alters-then spots h mid (make_proxy h r (Some x)) (alters-preserve spots h x p)
      (alters-make_object spots mid r Proxy 0 (Some x) m (inr (subst (λ k. Among (Spot.delegate (object (k + 1))) spots) (sym (made x)) d)))
    where
      made : (y : Name) → (preserve h (Some y)).scripts_made ≡ h.scripts_made
      made (name.Native j) = refl
      made (name.Script j) = refl
      made (name.Reflector j) = refl

  -- a native wrapped
  pub alters-wrapped : (k : ℕ) → Alters spots h (wrapped h (Some (native k)))
  alters-wrapped k = go (has_reflector h k)
    where
      go : (b : Bool) → Alters spots h (wrapped_by h k b)
      go true = alters-exposed spots h (Some (reflector k))
      go false =
          let put = with_script h (reflector k) Reflector reflector_slots None in
          alters-then spots h put (with_reflector h k) (alters-with_script spots h (reflector k) Reflector reflector_slots None (inl refl))
          (alters-take_up spots put (Some (native k)))

-- What is written is read.

-- a slot of a native that has it
pub native_slot-own : (h : Heap) (k i : ℕ) (y : Option Name) → i < length (slots_or_none (option_map (λ (n : HeapNative). n.slots) (native_at h k))) →
    reads (set_slot h (Some (native k)) i y) (Spot.slot (native k) i) ≡ y
native_slot-own h k i y within =
    ap (λ o. get_or (slots_or_none (option_map (λ (n : HeapNative). n.slots) o)) i None) (native_at-change_same h k (with_native_slot i y) (λ n. refl))
    ∙ go (native_at h k) within
  where
    go : (o : Option HeapNative) → i < length (slots_or_none (option_map (λ (n : HeapNative). n.slots) o)) →
        get_or (slots_or_none (option_map (λ (n : HeapNative). n.slots) (option_map (with_native_slot i y) o))) i None ≡ y
    go None l = absurd (omega (arith, l))
    go (Some n) l = get_or-set_same n.slots i y None l

-- its slots
pub slots-read : (o : Option HeapNative) → slots_now o ≡ slots_or_none (option_map (λ (n : HeapNative). n.slots) o)
slots-read None = refl
slots-read (Some n) = refl

own-slot : (h : Heap) (k i : ℕ) (y : Option Name) → i < length (slots_now (native_at h k)) → reads (set_slot h (Some (native k)) i y) (Spot.slot (native k) i) ≡ y
own-slot h k i y within = native_slot-own h k i y (subst (λ ss. i < length ss) (slots-read (native_at h k)) within)

-- a slot that is emptied, whether the native has it or not
empty-slot : (h : Heap) (k i : ℕ) → reads (set_slot h (Some (native k)) i None) (Spot.slot (native k) i) ≡ None
empty-slot h k i =
    ap (λ o. get_or (slots_or_none (option_map (λ (n : HeapNative). n.slots) o)) i None) (native_at-change_same h k (with_native_slot i None) (λ n. refl))
    ∙ go (native_at h k)
  where
    emptied : (ss : Slots) (j : ℕ) → get_or (set ss j None) j None ≡ None
    emptied [] j = refl
    emptied (s ∷ ss) zero = refl
    emptied (s ∷ ss) (suc j) = emptied ss j

    go : (o : Option HeapNative) → get_or (slots_or_none (option_map (λ (n : HeapNative). n.slots) (option_map (with_native_slot i None) o))) i None ≡ None
    go None = refl
    go (Some n) = emptied n.slots i

-- natives have as many slots as before once something was taken out of one
lengths : (h : Heap) (k m j : ℕ) → length (slots_now (native_at (taken_from h m j) k)) ≡ length (slots_now (native_at h k))
lengths h k m j = taken_out-length h m j (slot_held h m j) k

-- what is left of it is read so
left-slot : (h k : Heap) (w : IsWellFormed k) (s : Spot) (y : Option Name) → Alters [] h k → reads h s ≡ y → IsWritten s y k
left-slot h k w s y a e = record { holds = λ has. ⊎_elim (λ gone. absurd (not-gone k w s has gone)) (λ d. d ∙ e) (a.others s (λ i. i)) }

pub stored_in-written : (h : Heap) (k i : ℕ) (x : Option Name) → i < length (slots_now (native_at h k)) → IsWellFormed (stored_in h k i x).heap →
    IsWritten (Spot.slot (native k) i) x (stored_in h k i x).heap
stored_in-written h k i x within w =
    let up = take_up h x in
    let late = set_slot up (Some (native k)) i x in
    left-slot late (stored_in h k i x).heap w (Spot.slot (native k) i) x (alters-let_go [] late (slot_held up k i))
    (own-slot up k i x (subst (λ ss. i < length ss) (sym (slots-taken h x k)) within))

-- what moves
pub moved_in-written : (h : Heap) (k i m j : ℕ) → i < length (slots_now (native_at h k)) → IsWellFormed (moved_in h k i m j).heap →
    IsWritten (Spot.slot (native k) i) (slot_held h m j) (moved_in h k i m j).heap
moved_in-written h k i m j within w =
    let x = slot_held h m j in
    let taken = taken_from h m j in
    let late = set_slot taken (Some (native k)) i x in
    left-slot late (moved_in h k i m j).heap w (Spot.slot (native k) i) x (alters-let_go [] late (slot_held taken k i)) (own-slot taken k i x (subst (λ n. i < n) (sym (lengths h k m j)) within))

-- and the slot that it left is empty
pub moved_in-emptied : (h : Heap) (k i m j : ℕ) → Spot.slot (native k) i ≢ Spot.slot (native m) j → IsWellFormed (moved_in h k i m j).heap →
    IsWritten (Spot.slot (native m) j) None (moved_in h k i m j).heap
moved_in-emptied h k i m j apart w =
    let x = slot_held h m j in
    let near = touched h x in
    let taken = taken_from h m j in
    let late = set_slot taken (Some (native k)) i x in
    let left : Alters (Spot.slot (native k) i ∷ []) taken (moved_in h k i m j).heap =
    alters-then (Spot.slot (native k) i ∷ []) taken late (moved_in h k i m j).heap (alters-native_slot (Spot.slot (native k) i ∷ []) taken k i x (inl refl))
    (alters-let_go (Spot.slot (native k) i ∷ []) late (slot_held taken k i)) in
    record {
      holds = λ has. ⊎_elim
          (λ gone. absurd (not-gone (moved_in h k i m j).heap w (Spot.slot (native m) j) has gone))
          (λ e. e ∙ empty-slot near m j)
          (left.others (Spot.slot (native m) j) (λ i. ⊎_elim apart (λ a. a) i));
    }
