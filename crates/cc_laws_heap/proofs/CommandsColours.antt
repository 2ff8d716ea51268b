-- EACH COMMAND THAT IS NOT REFUSED KEEPS THE COLOURS.
use Rattle.std.proofs.Common.{◌≡◌, ℕ, ◌+◌, Bool, true, false, ◌<◌, ◌≤◌, List, [], ◌∷◌, ◌++◌, length, Option, Some, None, refl, sym, subst, ⊎_elim, arith, slice_set, slice_index_or, option_to_list, inl}
use Rattle.std.specs.Prelude.{IsTrue}
use Rattle.cc_lists.specs.Members.{Among}
use Rattle.cc_lists.proofs.Members.{Among-map}
use Rattle.cc_names.specs.declared.name.Name.{Name}
use Rattle.cc_names.specs.declared.name.Name.TheVariants as name
use Rattle.cc_names.specs.declared.register.Reg.TheVariants.{N, S}
use Rattle.cc_names.specs.declared.kind.Kind.{Kind}
use Rattle.cc_names.specs.declared.kind.Kind.TheVariants.{Plain, Reflector, Map, Proxy as proxy_kind}
use Rattle.cc_names.specs.declared.kind.Colour.TheVariants.{Black}
use Rattle.cc_names.specs.Names.{native, object, reflector}
use Rattle.cc_model.specs.declared.command.Command.{Command}
use Rattle.cc_model.specs.Deeds.{Deed, nothing_done, native_made, plain_made, map_made, proxy_made, native_held, script_held, script_copied, native_stored, slot_moved, script_stored, reflector_held, reflector_preserved, entry_written, object_exposed, weak_written, deed_of}
use Rattle.cc_model.specs.Slots.{reflector_slots, contents}
use Rattle.cc_model.specs.Ranges.{in_range}
use Rattle.cc_model.specs.Checks.{slots_at, reflector_of}
use Rattle.cc_model.specs.Heap.{Heap, HeapScript, Outcome, set_register, objects_of, preserve, has_reflector, new_script}
use Rattle.cc_model.specs.Exposure.{exposed}
use Rattle.cc_model.specs.Effects.{done_in, effects, touched, taken_out, hold_native, put_in_slot, store_native, move_slot, make_native, make_object, with_reflector, wrapped, put_in_script, set_entry, make_proxy}
use Rattle.cc_model.specs.WellFormed.{IsWellFormed, script_names}
use Rattle.cc_model.specs.Places.{script_places_of}
use Rattle.cc_model.proofs.Places.{script_place-cases}
use Rattle.cc_laws_heap.specs.Sound.{IsSound}
use Rattle.cc_lists.proofs.ListWrites.{each-push}
use Rattle.cc_laws_heap.proofs.Making.{contents-empty_none}
use Rattle.cc_laws_heap.proofs.Holding.{has_reflector-none}
use Rattle.cc_laws_heap.proofs.Taken.{IsTaken}
use Rattle.cc_laws_heap.proofs.Coloured.{AreColoured, IsColoured}
use Rattle.cc_laws_heap.proofs.ColourChanges.{IsHeldBlack, AreColoured-register, AreColoured-slot, AreColoured-push, exposed-coloured, exposed-black}
use Rattle.cc_laws_heap.proofs.NativesKeepScripts.{SameScripts-coloured, hold_native-scripts, put_in_slot-scripts, store_native-scripts, make_native-scripts}
use Rattle.cc_laws_heap.proofs.Owning.{IsIn}
use Rattle.cc_laws_heap.proofs.NativeCommands.{HasSlot-from}
use Rattle.cc_laws_heap.proofs.Moving.{HasSlot-taken_out, move_slot-is}
use Rattle.cc_laws_heap.proofs.MayBeDone.{MayBeDone, may_be_done}
use Rattle.cc_laws_heap.proofs.ScriptsKept.{native-no_script, preserve-sound, preserve-scripts}

-- Script registers

-- what comes into a script register is exposed first
exposed_register-coloured : (h : Heap) (d : ℕ) (x : Option Name) → IsColoured h → IsColoured (set_register (exposed h x) (S d) x)
exposed_register-coloured h d x c = AreColoured-register (exposed h x).scripts (exposed h x).script_registers d x (exposed-black h x) (exposed-coloured h x c)

-- Script objects

-- a blank object holds its delegate alone
pub blank-holds : (x : Name) (kind : Kind) (n : ℕ) (d : Option Name) (y : Name) → Among y (contents (script_places_of (new_script x kind n d))) → d ≡ Some y
blank-holds x kind n d y m = ⊎_elim (λ s. absurd (contents-empty_none n y s)) (λ e. e) (script_place-cases (new_script x kind n d) y m)

-- a black script object with a new name and a black delegate goes last, and a script register holds it
blank-coloured : (h : Heap) (d : ℕ) (x : Name) (kind : Kind) (n : ℕ) (its_delegate : Option Name) → ¬ (Among x (script_names h)) →
    IsHeldBlack h.scripts its_delegate → IsColoured h →
    AreColoured (h.scripts ++ new_script x kind n its_delegate ∷ []) (slice_set h.script_registers d (Some x))
blank-coloured h d x kind n its_delegate unknown black c = AreColoured-register (h.scripts ++ new_script x kind n its_delegate ∷ []) h.script_registers d (Some x)
    (each-push (λ o. Among o.name (x ∷ []) → o.colour ≡ Black) h.scripts (new_script x kind n its_delegate)
    (λ o m i. absurd (unknown (⊎_elim (λ e. subst (λ z. Among z (script_names h)) (sym e)
    (Among-map (λ (p : HeapScript). p.name) o h.scripts m)) (λ t. absurd t) i)))
    (λ i. refl))
    (AreColoured-push h.scripts h.script_registers (new_script x kind n its_delegate) refl
    (λ o m i. black o m (subst (λ y. Among o.name (option_to_list y)) (sym (blank-holds x kind n its_delegate o.name i)) (inl refl))) c)

-- a plain object, a weak map or a proxy is made black
pub make_object-coloured : (h : Heap) (d : ℕ) (kind : Kind) (n : ℕ) (its_delegate : Option Name) → IsWellFormed h → IsHeldBlack h.scripts its_delegate → IsColoured h →
    IsColoured (make_object h d kind n its_delegate)
make_object-coloured h d kind n its_delegate w black c = blank-coloured h d (object (h.scripts_made + 1)) kind n its_delegate
    (λ m. let made : h.scripts_made + 1 ≤ h.scripts_made = (w.object_numbers (h.scripts_made + 1) m).1 in absurd (omega arith)) black c

-- a reflector is exposed, or made black
wrapped-coloured : (h : Heap) (d : ℕ) (x : Option Name) → IsColoured h → IsColoured (set_register (wrapped h x) (S d) (reflector_of x))
wrapped-coloured h d None c = AreColoured-register h.scripts h.script_registers d None (λ o m i. absurd i) c
wrapped-coloured h d (Some (name.Script k)) c = AreColoured-register h.scripts h.script_registers d None (λ o m i. absurd i) c
wrapped-coloured h d (Some (name.Reflector k)) c = AreColoured-register h.scripts h.script_registers d None (λ o m i. absurd i) c
wrapped-coloured h d (Some (name.Native k)) c = go (has_reflector h k.0) refl
  where
    go : (b : Bool) → has_reflector h k.0 ≡ b →
        IsColoured (set_register (elim b [ true ↦ exposed h (Some (reflector k.0)) | false ↦ with_reflector h k.0 ]) (S d) (Some (reflector k.0)))
    go true e = exposed_register-coloured h d (Some (reflector k.0)) c
    go false e = blank-coloured h d (reflector k.0) Reflector reflector_slots None (has_reflector-none h k.0 e) (λ o m i. absurd i) c

-- a slot of a script object takes what is black
put_in_script-coloured : (h : Heap) (x : Option Name) (i : ℕ) (y : Option Name) → IsHeldBlack h.scripts y → IsColoured h →
    IsColoured (put_in_script h x i y)
put_in_script-coloured h (Some (name.Script k)) i y black c = AreColoured-slot h.scripts h.script_registers (object k.0) i y black c
put_in_script-coloured h (Some (name.Reflector k)) i y black c = AreColoured-slot h.scripts h.script_registers (reflector k.0) i y black c
put_in_script-coloured h _ i y black c = c

-- Natives and entries

-- what is touched keeps colours
touched-coloured : (h : Heap) (x : Option Name) → IsColoured h → IsColoured (touched h x)
touched-coloured h (Some (name.Script k)) c = exposed-coloured h (Some (object k.0)) c
touched-coloured h (Some (name.Reflector k)) c = exposed-coloured h (Some (reflector k.0)) c
touched-coloured h _ c = c

-- so does what is taken out of a slot of a native,
pub taken_out-coloured : (h : Heap) (m j : ℕ) (x : Option Name) → IsColoured h → IsColoured (taken_out h (Some (native m)) j x)
taken_out-coloured h m j x c = touched-coloured h x c

-- and where it is a script object it is black then
pub taken_out-black : (h : Heap) (m j : ℕ) (x : Option Name) → IsWellFormed h → IsHeldBlack (taken_out h (Some (native m)) j x).scripts x
taken_out-black h m j None w = λ o i n. absurd n
taken_out-black h m j (Some (name.Native k)) w = λ o i n.
    absurd (native-no_script h k.0 w (subst (λ y. Among y (script_names h)) (⊎_elim (λ e. sym e) (λ t. absurd t) n) (Among-map (λ (p : HeapScript). p.name) o h.scripts i)))
taken_out-black h m j (Some (name.Script k)) w = exposed-black h (Some (object k.0))
taken_out-black h m j (Some (name.Reflector k)) w = exposed-black h (Some (reflector k.0))

-- what a slot holds moved into another
move_slot-coloured : (h : Heap) (d i s j : ℕ) → IsWellFormed h → i < length (slots_at (objects_of h) (N d)) → j < length (slots_at (objects_of h) (N s)) → IsColoured h →
    IsColoured (move_slot h d i s j).heap
move_slot-coloured h d i s j w to from c =
    let f = HasSlot-from h s j w from in
    let x : Option Name = slice_index_or f.there.slots j None in
    let left : Heap = taken_out h (Some (native f.number)) j x in
    subst (λ (o : Outcome). IsColoured o.heap) (sym (move_slot-is h d i s j f))
    (SameScripts-coloured left (put_in_slot left d i x).heap (put_in_slot-scripts left d i x (HasSlot-taken_out h f.number j x d i (HasSlot-from h d i w to)))
    (taken_out-coloured h f.number j x c))

-- a reflector preserved keeps colours
preserve-coloured : (h : Heap) (x : Option Name) → IsColoured h → IsColoured (preserve h x)
preserve-coloured h x c = grind arith

-- an entry set or taken out keeps colours
set_entry-coloured : (h : Heap) (m k v : Option Name) → IsColoured h → IsColoured (set_entry h m k v)
set_entry-coloured h m k v c = grind (arith, preserve-coloured)

-- a proxy of what is black is made black
pub make_proxy-coloured : {owned : List ℕ} (h : Heap) (d : ℕ) (x : Option Name) → IsSound owned h → IsIn (script_names h) x → IsHeldBlack h.scripts x → IsColoured h →
    IsColoured (make_proxy h d x)
make_proxy-coloured h d None s there black c = c
make_proxy-coloured {owned} h d (Some x) s there black c = make_object-coloured (preserve h (Some x)) d proxy_kind 0 (Some x)
    (preserve-sound owned h (Some x) there s).well_formed
    (subst (λ os. IsHeldBlack os (Some x)) (sym (preserve-scripts h (Some x))) black) (preserve-coloured h (Some x) c)

-- WHAT IS DONE KEEPS THE COLOURS.
pub done_in-coloured : {owned : List ℕ} (h : Heap) (d : Deed) → IsSound owned h → IsColoured h → MayBeDone h d → IsColoured (done_in h d).heap
unfolding done_in
done_in-coloured h nothing_done s c m = c
done_in-coloured h (native_made d n) s c m = SameScripts-coloured h (make_native h d n).heap (make_native-scripts h d n) c
done_in-coloured h (plain_made d n) s c m = make_object-coloured h d Plain n None s.well_formed (λ o i j. absurd j) c
done_in-coloured h (map_made d) s c m = make_object-coloured h d Map 0 None s.well_formed (λ o i j. absurd j) c
done_in-coloured h (proxy_made d x) s c m = make_proxy-coloured h d x s m.0.there (m.0.black c) c
done_in-coloured h (native_held d x) s c m = SameScripts-coloured h (hold_native h d x).heap (hold_native-scripts h d x) c
done_in-coloured h (script_held d x) s c m = exposed_register-coloured h d x c
done_in-coloured h (script_copied d x) s c m = AreColoured-register h.scripts h.script_registers d x (m.black c) c
done_in-coloured {owned} h (native_stored d i x) s c m = SameScripts-coloured h (store_native h d i x).heap (store_native-scripts owned h d i x m.0.there m.1 s) c
done_in-coloured h (slot_moved d i q j) s c m = move_slot-coloured h d i q j s.well_formed m.0 m.1 c
done_in-coloured h (script_stored x i y) s c m = put_in_script-coloured h x i y (m.1.black c) c
done_in-coloured h (reflector_held d x) s c m = wrapped-coloured h d x c
done_in-coloured h (reflector_preserved x) s c m = preserve-coloured h x c
done_in-coloured h (entry_written m k v) s c t = set_entry-coloured h m k v c
done_in-coloured h (object_exposed x) s c m = exposed-coloured h x c
done_in-coloured h (weak_written w x) s c m = c

-- A command that is not refused keeps the colours.
pub effects-coloured : {owned : List ℕ} (h : Heap) (c : Command) → IsSound owned h → IsColoured h → IsTrue (in_range c) → IsTaken (objects_of h) c →
    IsColoured (effects h c).heap
unfolding effects
effects-coloured h c s colours r t = done_in-coloured h (deed_of (objects_of h) c) s colours (may_be_done h c s r t)
