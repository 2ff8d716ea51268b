-- NATIVES HELD, STORED AND MADE: the new reference is taken first, then the place is written, then the old one is given up.
use Rattle.std.proofs.Common.{◌≡◌, ℕ, ◌+◌, ◌<◌, ◌≤◌, List, ◌++◌, length, Option, Some, None, refl, sym, subst, inl, ⊎_elim, arith, option_map, slice_index_or}
use Rattle.std.specs.Option.{option_and_then}
use Rattle.cc_lists.specs.Members.{Among}
use Rattle.cc_lists.proofs.Members.{Among-map_cases}
use Rattle.cc_names.specs.declared.name.Name.{Name}
use Rattle.cc_names.specs.declared.name.Name.TheVariants as name
use Rattle.cc_names.specs.declared.register.Reg.TheVariants.{N}
use Rattle.cc_names.specs.Names.{native}
use Rattle.cc_names.specs.Sizes.{most_slots}
use Rattle.cc_model.specs.Slots.{Slots}
use Rattle.cc_model.specs.Checks.{slots_or_none, slots_at}
use Rattle.cc_model.specs.Heap.{Heap, HeapNative, Outcome, native_at, slots_in, register, set_register, change_native, with_native_slot, objects_of}
use Rattle.cc_model.specs.Cascade.{take_up, let_go}
use Rattle.cc_model.specs.Effects.{put_in_register, hold_native, put_in_slot, store_native, with_native, make_native}
use Rattle.cc_model.specs.WellFormed.{IsWellFormed, native_names, names_there}
use Rattle.cc_laws_heap.specs.Sound.{IsSound, numbers_of}
use Rattle.cc_laws_heap.proofs.Making.{native_names-new_native}
use Rattle.cc_laws_heap.proofs.HoldsTheSame.{HoldsTheSame-take_up, native_names-alike, names_there-alike, slots_at-alike}
use Rattle.cc_laws_heap.proofs.Owning.{IsIn, take_up-sound, let_go-sound}
use Rattle.cc_laws_heap.proofs.Writes.{native_register-sound, native_slot-sound}
use Rattle.cc_laws_heap.proofs.MadeSound.{with_native-sound}
use Rattle.cc_laws_heap.proofs.Holding.{IsIn-natives, native_register-there}

-- Native registers

-- a native register written, whose new reference is owned
pub put_in_register-sound : (owned : List ℕ) (h : Heap) (d : ℕ) (x : Option Name) → d < length h.native_registers → IsIn (native_names h) x →
    IsSound (numbers_of x ++ owned) h → IsSound owned (put_in_register h d x).heap
put_in_register-sound owned h d x room there s = let_go-sound owned (set_register h (N d) x) (register h (N d)) (native_register-sound owned h d x room there s)

-- a reference taken leaves what is there
pub IsIn-take_up : (h : Heap) (x y : Option Name) → IsIn (native_names h) y → IsIn (native_names (take_up h x)) y
IsIn-take_up h x y there = subst (λ xs. IsIn xs y) (sym (native_names-alike h (take_up h x) (HoldsTheSame-take_up h x))) there

-- and all registers
pub room-take_up : (h : Heap) (x : Option Name) (d : ℕ) → d < length h.native_registers → d < length (take_up h x).native_registers
room-take_up h x d room = subst (λ (rs : Slots). d < length rs) (sym (HoldsTheSame-take_up h x).beside.native_registers) room

-- A native that is there comes into a native register.
pub hold_native-sound : (owned : List ℕ) (h : Heap) (d : ℕ) (x : Option Name) → d < length h.native_registers → IsIn (native_names h) x → IsSound owned h →
    IsSound owned (hold_native h d x).heap
unfolding hold_native
hold_native-sound owned h d x room there s = put_in_register-sound owned (take_up h x) d x (room-take_up h x d room) (IsIn-take_up h x x there)
    (take_up-sound owned h x (IsIn-natives h x there) s)

-- Slots of natives

-- a native register whose native has the slot
pub record HasSlot (h : Heap) (d i : ℕ) : Type 0 where
  pub number : ℕ
  pub there : HeapNative
  pub held : register h (N d) ≡ Some (native number)
  pub found : native_at h number ≡ Some there
  pub room : i < length there.slots

-- an index below the number of slots of what a native register holds is that of a slot of a native
pub HasSlot-from : (h : Heap) (d i : ℕ) → IsWellFormed h → i < length (slots_at (objects_of h) (N d)) → HasSlot h d i
HasSlot-from h d i w room = go (register h (N d)) refl (native_register-there h d w) room
  where
    at : (k : ℕ) (o : Option HeapNative) → register h (N d) ≡ Some (native k) → native_at h k ≡ o →
        i < length (slots_or_none (option_map (λ n. n.slots) o)) → HasSlot h d i
    at k o e f l = grind arith

    no_native : (x : Name) → Among x (native_names h) → (k : ℕ) × (native k ≡ x)
    no_native x m = let f = Among-map_cases (λ (n : HeapNative). native n.number) h.natives x m in (f.0.number, f.2)

    go : (o : Option Name) → register h (N d) ≡ o → IsIn (native_names h) o → i < length (slots_or_none (option_and_then (slots_in h) o)) →
        HasSlot h d i
    go None e t l = absurd (omega arith)
    go (Some (name.Native k)) e t l = at k.0 (native_at h k.0) e refl l
    go (Some (name.Script k)) e t l = let f = no_native (name.Script k) (t (name.Script k) (inl refl)) in absurd (cc)
    go (Some (name.Reflector k)) e t l = let f = no_native (name.Reflector k) (t (name.Reflector k) (inl refl)) in absurd (cc)

-- then the slot is written, and what it held is given up
pub put_in_slot-written : (h : Heap) (d i : ℕ) (x : Option Name) (f : HasSlot h d i) →
    put_in_slot h d i x ≡ let_go (change_native h f.number (with_native_slot i x)) (slice_index_or f.there.slots i None)
put_in_slot-written h d i x f = grind arith

-- a slot of a native written, whose new reference is owned
pub put_in_slot-sound : (owned : List ℕ) (h : Heap) (d i : ℕ) (x : Option Name) → IsIn (names_there h) x → HasSlot h d i →
    IsSound (numbers_of x ++ owned) h → IsSound owned (put_in_slot h d i x).heap
put_in_slot-sound owned h d i x there f s = subst (λ (o : Outcome). IsSound owned o.heap) (sym (put_in_slot-written h d i x f))
    (let_go-sound owned (change_native h f.number (with_native_slot i x)) (slice_index_or f.there.slots i None)
    (native_slot-sound owned h f.number i f.there x f.found f.room there s))

-- a reference taken leaves the native its slots
pub HasSlot-take_up : (owned : List ℕ) (h : Heap) (d i : ℕ) (x : Option Name) → IsSound owned (take_up h x) →
    i < length (slots_at (objects_of h) (N d)) → HasSlot (take_up h x) d i
HasSlot-take_up owned h d i x s room = HasSlot-from (take_up h x) d i s.well_formed
    (subst (λ (ss : Slots). i < length ss) (sym (slots_at-alike h (take_up h x) (HoldsTheSame-take_up h x) (N d))) room)

-- a reference taken leaves each object that is there
pub names_there-take_up : (h : Heap) (x : Option Name) → IsIn (names_there h) x → IsIn (names_there (take_up h x)) x
names_there-take_up h x there = subst (λ xs. IsIn xs x) (sym (names_there-alike h (take_up h x) (HoldsTheSame-take_up h x))) there

-- What is there comes into a slot of a native.
pub store_native-sound : (owned : List ℕ) (h : Heap) (d i : ℕ) (x : Option Name) → IsIn (names_there h) x →
    i < length (slots_at (objects_of h) (N d)) →
    IsSound owned h → IsSound owned (store_native h d i x).heap
unfolding store_native
store_native-sound owned h d i x there room s =
    let taken : IsSound (numbers_of x ++ owned) (take_up h x) = take_up-sound owned h x there s in
    put_in_slot-sound owned (take_up h x) d i x (names_there-take_up h x there) (HasSlot-take_up (numbers_of x ++ owned) h d i x taken room) taken

-- A native made

-- the native that was made is there
pub IsIn-made : (h : Heap) (n : ℕ) → IsWellFormed h → IsIn (native_names (with_native h n)) (Some (native (h.natives_made + 1)))
IsIn-made h n w = λ y m. ⊎_elim (λ e. subst (λ z. Among z (native_names (with_native h n))) e (native_names-new_native h n w)) (λ t. absurd t) m

-- A native is made, and a native register holds it.
pub make_native-sound : (owned : List ℕ) (h : Heap) (d n : ℕ) → d < length h.native_registers → n ≤ most_slots → h.natives_made < h.limits.natives → IsSound owned h →
    IsSound owned (make_native h d n).heap
unfolding make_native
make_native-sound owned h d n room few allowed s = put_in_register-sound owned (with_native h n) d (Some (native (h.natives_made + 1))) room
    (IsIn-made h n s.well_formed) (with_native-sound owned h n s few allowed)
