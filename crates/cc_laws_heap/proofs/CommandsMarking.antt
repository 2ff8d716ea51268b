-- EACH COMMAND THAT IS NOT REFUSED KEEPS THE HEAPS UNDER MARKING.
use Rattle.std.proofs.Common.{arith, ◌≡◌, ℕ, ◌+◌, Bool, true, false, ◌<◌, ◌≤◌, List, [], ◌∷◌, ◌++◌, map, length, Option, Some, None, refl, sym, ◌∙◌, ap, subst, inl, inr, ◌⊎◌, ⊎_elim, slice_set, slice_index_or, option_to_list}
use Rattle.std.specs.Prelude.{IsTrue}
use Rattle.std.proofs.lemmas.Bool.{false≢true}
use Rattle.cc_lists.specs.Members.{Among}
use Rattle.cc_lists.proofs.Members.{Among-map, Among-map_cases, Among-left, Among-flat_map}
use Rattle.cc_lists.proofs.ListWrites.{Among-flat_map_set, changed_where, changed_where-either, flat_map-kept}
use Rattle.cc_names.specs.declared.name.Name.{Name}
use Rattle.cc_names.specs.declared.name.Name.TheVariants as name
use Rattle.cc_names.specs.declared.register.Reg.{Reg}
use Rattle.cc_names.specs.declared.register.Reg.TheVariants.{N, S, W}
use Rattle.cc_names.specs.declared.kind.Kind.TheVariants.{Plain, Reflector, Map, Proxy as proxy_kind}
use Rattle.cc_names.specs.Names.{native, object, reflector, is_script}
use Rattle.cc_model.specs.declared.command.Command.{Command}
use Rattle.cc_model.specs.Deeds.{Deed, nothing_done, native_made, plain_made, map_made, proxy_made, native_held, script_held, script_copied, native_stored, slot_moved, script_stored, reflector_held, reflector_preserved, entry_written, object_exposed, weak_written, deed_of}
use Rattle.cc_model.specs.Slots.{Slots, reflector_slots, contents}
use Rattle.cc_model.specs.Ranges.{in_range}
use Rattle.cc_model.specs.Checks.{slots_at, slot_at, reflector_of}
use Rattle.cc_model.specs.Heap.{Heap, HeapNative, HeapScript, Outcome, set_register, source, objects_of, preserve, has_reflector, new_script}
use Rattle.cc_model.specs.Cascade.{take_up}
use Rattle.std.specs.List.{flat_map}
use Rattle.cc_model.specs.View.{script_slot_edges}
use Rattle.cc_model.specs.Exposure.{slots_of_scripts, exposed, exposed_names, as_black}
use Rattle.cc_model.specs.Effects.{done_in, effects, touched, taken_out, hold_native, put_in_slot, store_native, move_slot, make_native, make_object, with_script, with_reflector, wrapped, put_in_script, set_entry, make_proxy}
use Rattle.cc_model.specs.WellFormed.{IsWellFormed, script_names}
use Rattle.cc_model.specs.Colours.{scripts_held, scripts_held_by}
use Rattle.cc_model.specs.Marking.{NewMarks, exposed_by, marking_after}
use Rattle.cc_laws_heap.specs.Sound.{IsSound, numbers_of}
use Rattle.cc_laws_heap.specs.UnderMarking.{IsUnderMarking}
use Rattle.cc_laws_heap.proofs.Natives.{native_at-there}
use Rattle.cc_laws_heap.proofs.Kept.{script_names-kept}
use Rattle.cc_laws_heap.proofs.Writes.{contents-at}
use Rattle.cc_laws_heap.proofs.Owning.{IsIn, take_up-sound}
use Rattle.cc_laws_heap.proofs.ScriptsKept.{is_one_of, native-no_script, ChangesScripts-slot, script_names-exposed}
use Rattle.cc_laws_heap.proofs.Holding.{has_reflector-none}
use Rattle.cc_laws_heap.proofs.Taken.{IsTaken}
use Rattle.cc_laws_heap.proofs.Resting.{Readings, RestsOn, AreRead, rests_on}
use Rattle.cc_laws_heap.proofs.NativeCommands.{HasSlot, HasSlot-from, HasSlot-take_up}
use Rattle.cc_laws_heap.proofs.Moving.{HasSlot-taken_out, move_slot-is, touched-natives}
use Rattle.cc_laws_heap.proofs.NativesKeepScripts.{SameScripts, hold_native-scripts, put_in_slot-scripts, store_native-scripts, make_native-scripts}
use Rattle.cc_laws_heap.proofs.MayBeDone.{MayBeDone, may_be_done}
use Rattle.cc_laws_heap.proofs.HoldsBut.{HeldOr, HoldsBut, HoldsBut-refl, IsUnderMarking-then}
use Rattle.cc_laws_heap.proofs.NativesHold.{held_by-slot, HeldOr-after, HeldOr-more, HeldOr-same, HeldOr-take_up, HeldOr-add_ref, HeldOr-slot, HeldOr-preserve, HeldOr-hold_native, HeldOr-make_native, HeldOr-put_in_slot}

-- What commands read

-- a script object to be stored stands in a script register
abbrev pub IsHeldHere : Heap → Option Name → Type 0
IsHeldHere h x = (y : Name) → is_script y ≡ true → Among y (option_to_list x) → Among y (contents h.script_registers)

-- what is known of what commands read, where script registers are looked at alone
abbrev pub holdings : Heap → Readings
holdings h = record {
  native = λ x. Unit {0};
  held_native = λ x. Unit {0};
  script = λ x. Unit {0};
  held_script = IsIn (contents h.script_registers);
  held = IsHeldHere h;
  place = λ d. Unit {0};
}

-- a source gives no script object but one that a script register holds
source-held : (h : Heap) (r : Option Reg) → IsWellFormed h → IsHeldHere h (source h r)
source-held h None w = λ y s i. absurd i
source-held h (Some (N d)) w = λ y s i.
    let f = Among-map_cases (λ (n : HeapNative). native n.number) h.natives y (w.native_registers y (contents-at h.native_registers d y i)) in
    absurd (false≢true (subst (λ z. is_script z ≡ true) (sym f.2) s))
source-held h (Some (S d)) w = λ y s i. contents-at h.script_registers d y i
source-held h (Some (W d)) w = λ y s i. absurd i

-- what commands read is known
pub holdings-read : (h : Heap) → IsWellFormed h → AreRead (holdings h) (objects_of h)
holdings-read h w = record {
  no_native = tt;
  no_script = λ y i. absurd i;
  place = λ d within. tt;
  native_register = λ d. tt;
  held_native = λ d. tt;
  script_register = λ d. contents-at h.script_registers d;
  source = λ r. source-held h r w;
  native_slot = λ s i e. tt;
  script_in_native = λ s i e. tt;
  script_slot = λ s i. tt;
  value = λ m k. tt;
  behind = λ s. tt;
}

-- Kinds of change

-- natives change alone
HoldsBut-natives : (h g : Heap) (e : Option Name) → SameScripts h g → HeldOr (contents h.script_registers) h g → HoldsBut h g e
HoldsBut-natives h g e s held = record {
  registers = λ y i. inl (subst (λ (rs : Slots). Among y (contents rs)) s.registers i);
  held = held;
  there = λ y i. subst (λ (os : List HeapScript). Among y (map (λ (o : HeapScript). o.name) os)) (sym s.scripts) i;
}

-- script objects change, and keep their names
HoldsBut-scripts : (h g : Heap) (e : Option Name) → script_names g ≡ script_names h → g.script_registers ≡ h.script_registers →
    HeldOr (contents h.script_registers) h g → HoldsBut h g e
HoldsBut-scripts h g e names registers held = record {
  registers = λ y i. inl (subst (λ (rs : Slots). Among y (contents rs)) registers i);
  held = held;
  there = λ y i. subst (Among y) (sym names) i;
}

-- a script register takes what another holds, or what is exposed
HoldsBut-register : (h g : Heap) (d : ℕ) (x e : Option Name) → script_names g ≡ script_names h → g.script_registers ≡ slice_set h.script_registers d x →
    HeldOr (contents h.script_registers) h g →
    ((y : Name) → Among y (option_to_list x) → Among y (contents h.script_registers) ⊎ Among y (option_to_list e)) → HoldsBut h g e
HoldsBut-register h g d x e names registers held known = record {
  registers = λ y i. ⊎_elim
      (λ new. ⊎_elim (λ old. inl old) (λ shown. inr (inl shown)) (known y new))
      (λ old. inl old)
      (Among-flat_map_set option_to_list h.script_registers d x y (subst (λ (rs : Slots). Among y (contents rs)) registers i));
  held = held;
  there = λ y i. subst (Among y) (sym names) i;
}

-- a script object with a new name goes last, and a script register holds it
HoldsBut-made : (h g : Heap) (d : ℕ) (o : HeapScript) (e : Option Name) → ¬ (Among o.name (script_names h)) → g.scripts ≡ h.scripts ++ o ∷ [] →
    g.script_registers ≡ slice_set h.script_registers d (Some o.name) →
    HeldOr (contents h.script_registers) h g → HoldsBut h g e
HoldsBut-made h g d o e unknown scripts registers held = record {
  registers = λ y i. ⊎_elim
      (λ new. inr (inr (λ m. unknown (⊎_elim (λ is. subst (λ z. Among z (script_names h)) (sym is) m) (λ t. absurd t) new))))
      (λ old. inl old)
      (Among-flat_map_set option_to_list h.script_registers d (Some o.name) y (subst (λ (rs : Slots). Among y (contents rs)) registers i));
  held = held;
  there = λ y i.
      let f = Among-map_cases (λ (p : HeapScript). p.name) h.scripts y i in
      subst (λ (os : List HeapScript). Among y (map (λ (p : HeapScript). p.name) os)) (sym scripts)
      (subst (λ z. Among z (map (λ (p : HeapScript). p.name) (h.scripts ++ o ∷ []))) f.2
      (Among-map (λ (p : HeapScript). p.name) f.0 (h.scripts ++ o ∷ []) (Among-left f.0 h.scripts (o ∷ []) f.1)));
}

-- Script objects made

-- the next number is new
next-unknown : (h : Heap) → IsWellFormed h → ¬ (Among (object (h.scripts_made + 1)) (script_names h))
next-unknown h w m = let made : h.scripts_made + 1 ≤ h.scripts_made = (w.object_numbers (h.scripts_made + 1) m).1 in absurd (omega arith)

-- a plain object or a weak map made
make_object-holds : (h : Heap) (d : ℕ) (o : HeapScript) → o.name ≡ object (h.scripts_made + 1) → IsWellFormed h → (g : Heap) → g.natives ≡ h.natives →
    g.scripts ≡ h.scripts ++ o ∷ [] → g.script_registers ≡ slice_set h.script_registers d (Some o.name) → HoldsBut h g None
make_object-holds h d o is w g natives scripts registers = HoldsBut-made h g d o None
    (λ m. next-unknown h w (subst (λ z. Among z (script_names h)) is m)) scripts registers (HeldOr-same (contents h.script_registers) h g natives)

-- a proxy made of what a script register holds
make_proxy-holds : (h : Heap) (d : ℕ) (x : Option Name) → IsWellFormed h → IsIn (contents h.script_registers) x → HoldsBut h (make_proxy h d x) None
make_proxy-holds h d None w held = HoldsBut-refl h None
make_proxy-holds h d (Some (name.Native k)) w held = make_object-holds h d (new_script (object (h.scripts_made + 1)) proxy_kind 0 (Some (name.Native k))) refl w
    (make_proxy h d (Some (name.Native k))) refl refl refl
make_proxy-holds h d (Some (name.Script k)) w held = make_object-holds h d (new_script (object (h.scripts_made + 1)) proxy_kind 0 (Some (name.Script k))) refl w
    (make_proxy h d (Some (name.Script k))) refl refl refl
make_proxy-holds h d (Some (name.Reflector k)) w held = HoldsBut-made h (make_proxy h d (Some (name.Reflector k))) d
    (new_script (object (h.scripts_made + 1)) proxy_kind 0 (Some (name.Reflector k))) None (next-unknown h w) refl refl
    (HeldOr-preserve (contents h.script_registers) h (Some (name.Reflector k)) held)

-- Exposures

-- an exposure leaves script registers
exposed-registers : (h : Heap) (x : Option Name) → (exposed h x).script_registers ≡ h.script_registers
unfolding exposed
exposed-registers h None = refl
exposed-registers h (Some x) = refl

-- an exposure leaves natives
exposed-natives : (h : Heap) (x : Option Name) → (exposed h x).natives ≡ h.natives
unfolding exposed
exposed-natives h None = refl
exposed-natives h (Some x) = refl

-- an exposure changes colours alone, so it leaves the edges over script slots
pub exposed-edges : (h : Heap) (x : Option Name) → slots_of_scripts (exposed h x) ≡ slots_of_scripts h
unfolding exposed
exposed-edges h None = refl
exposed-edges h (Some x) = flat_map-kept script_slot_edges (changed_where (is_one_of (exposed_names h x)) as_black) h.scripts
    (λ o. changed_where-either (λ p. script_slot_edges p ≡ script_slot_edges o) (is_one_of (exposed_names h x)) as_black o (λ e. refl) refl)

-- what is exposed comes into a script register
hold_script-holds : (h : Heap) (d : ℕ) (x : Option Name) → IsWellFormed h → HoldsBut h (set_register (exposed h x) (S d) x) x
hold_script-holds h d x w = HoldsBut-register h (set_register (exposed h x) (S d) x) d x x (script_names-exposed h x w)
    (ap (λ (rs : Slots). slice_set rs d x) (exposed-registers h x))
    (HeldOr-same (contents h.script_registers) h (set_register (exposed h x) (S d) x) (exposed-natives h x)) (λ y i. inr i)

-- a reflector is exposed, or made
wrapped-holds : (h : Heap) (d : ℕ) (x : Option Name) → IsWellFormed h → HoldsBut h (set_register (wrapped h x) (S d) (reflector_of x)) (reflector_of x)
wrapped-holds h d (Some (name.Native k)) w = go (has_reflector h k.0) refl
  where
    go : (b : Bool) → has_reflector h k.0 ≡ b →
        HoldsBut h (set_register (elim b [ true ↦ exposed h (Some (reflector k.0)) | false ↦ with_reflector h k.0 ]) (S d) (Some (reflector k.0)))
        (Some (reflector k.0))
    go true e = hold_script-holds h d (Some (reflector k.0)) w
    go false e = HoldsBut-made h (set_register (with_reflector h k.0) (S d) (Some (reflector k.0))) d (new_script (reflector k.0) Reflector reflector_slots None)
        (Some (reflector k.0)) (has_reflector-none h k.0 e) refl refl
        (HeldOr-more (contents h.script_registers) h (with_reflector h k.0) (HeldOr-add_ref (with_script h (reflector k.0) Reflector reflector_slots None) k.0))
wrapped-holds h d None w = HoldsBut-register h (set_register h (S d) None) d None None refl refl
    (HeldOr-same (contents h.script_registers) h (set_register h (S d) None) refl) (λ y i. inl (absurd i))
wrapped-holds h d (Some (name.Script k)) w = HoldsBut-register h (set_register h (S d) None) d None None refl refl
    (HeldOr-same (contents h.script_registers) h (set_register h (S d) None) refl) (λ y i. inl (absurd i))
wrapped-holds h d (Some (name.Reflector k)) w = HoldsBut-register h (set_register h (S d) None) d None None refl refl
    (HeldOr-same (contents h.script_registers) h (set_register h (S d) None) refl) (λ y i. inl (absurd i))

-- Slots of script objects, and entries

-- a slot of a script object written
put_in_script-holds : (h : Heap) (x : Option Name) (i : ℕ) (y : Option Name) → IsWellFormed h → IsIn (contents h.script_registers) x → IsIn (script_names h) y →
    HoldsBut h (put_in_script h x i y) None
put_in_script-holds h None i y w held there = HoldsBut-refl h None
put_in_script-holds h (Some (name.Native k)) i y w held there = absurd (native-no_script h k.0 w (w.script_registers (native k.0) (held (native k.0) (inl refl))))
put_in_script-holds h (Some (name.Script k)) i y w held there = HoldsBut-scripts h (put_in_script h (Some (name.Script k)) i y) None
    (script_names-kept h _ (ChangesScripts-slot h (object k.0) i y w there)) refl (HeldOr-same (contents h.script_registers) h (put_in_script h (Some (name.Script k)) i y) refl)
put_in_script-holds h (Some (name.Reflector k)) i y w held there = HoldsBut-scripts h (put_in_script h (Some (name.Reflector k)) i y) None
    (script_names-kept h _ (ChangesScripts-slot h (reflector k.0) i y w there)) refl
    (HeldOr-preserve (contents h.script_registers) h (Some (name.Reflector k)) held)

-- a reflector preserved leaves script objects and script registers
preserve-same : (h : Heap) (x : Option Name) → SameScripts h (preserve h x)
preserve-same h None = record { scripts = refl; registers = refl }
preserve-same h (Some (name.Native k)) = record { scripts = refl; registers = refl }
preserve-same h (Some (name.Script k)) = record { scripts = refl; registers = refl }
preserve-same h (Some (name.Reflector k)) = record { scripts = refl; registers = refl }

-- a reflector that a script register holds preserved
preserve-holds : (h : Heap) (x : Option Name) → IsIn (contents h.script_registers) x → HoldsBut h (preserve h x) None
preserve-holds h x held = HoldsBut-natives h (preserve h x) None (preserve-same h x) (HeldOr-preserve (contents h.script_registers) h x held)

-- an entry set or taken out
set_entry-holds : (h : Heap) (m k v : Option Name) → IsIn (contents h.script_registers) k → HoldsBut h (set_entry h m k v) None
set_entry-holds h None k v held = HoldsBut-refl h None
set_entry-holds h (Some m) None v held = HoldsBut-refl h None
set_entry-holds h (Some m) (Some k) None held = let c = HoldsBut-refl h None in record { registers = c.registers; held = c.held; there = c.there }
set_entry-holds h (Some m) (Some k) (Some v) held = let c = preserve-holds h (Some k) held in record { registers = c.registers; held = c.held; there = c.there }

-- A move

-- what is touched leaves names and script registers
touched-names : (h : Heap) (x : Option Name) → IsWellFormed h → script_names (touched h x) ≡ script_names h
touched-names h None w = refl
touched-names h (Some (name.Native k)) w = refl
touched-names h (Some (name.Script k)) w = script_names-exposed h (Some (object k.0)) w
touched-names h (Some (name.Reflector k)) w = script_names-exposed h (Some (reflector k.0)) w

touched-script_registers : (h : Heap) (x : Option Name) → (touched h x).script_registers ≡ h.script_registers
touched-script_registers h None = refl
touched-script_registers h (Some (name.Native k)) = refl
touched-script_registers h (Some (name.Script k)) = exposed-registers h (Some (object k.0))
touched-script_registers h (Some (name.Reflector k)) = exposed-registers h (Some (reflector k.0))

-- what a slot of a native holds moved into another: natives hold the same
move_slot-holds : (h : Heap) (d i s j : ℕ) (e : Option Name) → IsWellFormed h → i < length (slots_at (objects_of h) (N d)) →
    j < length (slots_at (objects_of h) (N s)) → HoldsBut h (move_slot h d i s j).heap e
move_slot-holds h d i s j e w to from = subst (λ (o : Outcome). HoldsBut h o.heap e) (sym (move_slot-is h d i s j f)) moved
  where
    f : HasSlot h s j
    f = HasSlot-from h s j w from

    x : Option Name
    x = slice_index_or f.there.slots j None

    left : Heap
    left = taken_out h (Some (native f.number)) j x

    slot : HasSlot left d i
    slot = HasSlot-taken_out h f.number j x d i (HasSlot-from h d i w to)

    same : SameScripts left (put_in_slot left d i x).heap
    same = put_in_slot-scripts left d i x slot

    taken : HeldOr [] h left
    taken = HeldOr-after [] h (touched h x) left (HeldOr-same [] h (touched h x) (touched-natives h x))
        (HeldOr-slot [] (touched h x) f.number j None (λ y t m. m))

    -- what the slot holds is held already
    there : (y : Name) → is_script y ≡ true → Among y (option_to_list x) → Among y (scripts_held h)
    there y t m = Among-flat_map scripts_held_by f.there y h.natives (native_at-there h f.number f.there f.found)
        (held_by-slot f.there y t (contents-at f.there.slots j y m))

    moved : HoldsBut h (put_in_slot left d i x).heap e
    moved = record {
      registers = λ y m. inl (subst (λ (rs : Slots). Among y (contents rs)) (same.registers ∙ touched-script_registers h x) m);
      held = λ y m. inl (⊎_elim
          (λ l. ⊎_elim (λ old. old) (λ none. absurd none) (taken y l))
          (λ new. new)
          (HeldOr-put_in_slot (scripts_held h) left d i x slot there y m));
      there = λ y m. subst (λ (os : List HeapScript). Among y (map (λ (o : HeapScript). o.name) os)) (sym same.scripts)
          (subst (Among y) (sym (touched-names h x w)) m);
    }

-- what is touched leaves the edges over script slots
touched-edges : (h : Heap) (x : Option Name) → slots_of_scripts (touched h x) ≡ slots_of_scripts h
touched-edges h None = refl
touched-edges h (Some (name.Native k)) = refl
touched-edges h (Some (name.Script k)) = exposed-edges h (Some (object k.0))
touched-edges h (Some (name.Reflector k)) = exposed-edges h (Some (reflector k.0))

-- a move leaves them
pub move_slot-edges : (h : Heap) (d i s j : ℕ) → IsWellFormed h → i < length (slots_at (objects_of h) (N d)) → j < length (slots_at (objects_of h) (N s)) →
    slots_of_scripts (move_slot h d i s j).heap ≡ slots_of_scripts h
move_slot-edges h d i s j w to from =
    let f = HasSlot-from h s j w from in
    let x : Option Name = slice_index_or f.there.slots j None in
    let left : Heap = taken_out h (Some (native f.number)) j x in
    let same = put_in_slot-scripts left d i x (HasSlot-taken_out h f.number j x d i (HasSlot-from h d i w to)) in
    subst (λ (o : Outcome). slots_of_scripts o.heap ≡ slots_of_scripts h) (sym (move_slot-is h d i s j f))
    (ap (λ os. flat_map script_slot_edges os) same.scripts ∙ touched-edges h x)

-- A SLOT OF A NATIVE TAKES what is no script object, or one that a script register holds
store_native-held : {owned : List ℕ} (h : Heap) (d i : ℕ) (x : Option Name) → IsSound owned h → MayBeDone h (native_stored d i x) → IsHeldHere h x →
    HeldOr (contents h.script_registers) h (store_native h d i x).heap
unfolding store_native
store_native-held {owned} h d i x s m held = HeldOr-after (contents h.script_registers) h (take_up h x) (put_in_slot (take_up h x) d i x).heap (HeldOr-take_up h x)
    (HeldOr-put_in_slot (contents h.script_registers) (take_up h x) d i x
    (HasSlot-take_up (numbers_of x ++ owned) h d i x (take_up-sound owned h x m.0.there s) m.1) held)

-- WHAT IS HELD AFTER A DEED and was not before is exposed, made, or was held by script registers.
pub done_in-holds : {owned : List ℕ} (h : Heap) (d : Deed) → IsSound owned h → MayBeDone h d → RestsOn (holdings h) (objects_of h) d →
    HoldsBut h (done_in h d).heap (exposed_by h d)
unfolding done_in
done_in-holds h nothing_done s m r = HoldsBut-refl h None
done_in-holds h (native_made d n) s m r = HoldsBut-natives h (make_native h d n).heap None (make_native-scripts h d n)
    (HeldOr-more (contents h.script_registers) h (make_native h d n).heap (HeldOr-make_native h d n))
done_in-holds h (plain_made d n) s m r = make_object-holds h d (new_script (object (h.scripts_made + 1)) Plain n None) refl s.well_formed
    (make_object h d Plain n None) refl refl refl
done_in-holds h (map_made d) s m r = make_object-holds h d (new_script (object (h.scripts_made + 1)) Map 0 None) refl s.well_formed
    (make_object h d Map 0 None) refl refl refl
done_in-holds h (proxy_made d x) s m r = make_proxy-holds h d x s.well_formed r.0
done_in-holds h (native_held d x) s m r = HoldsBut-natives h (hold_native h d x).heap None (hold_native-scripts h d x)
    (HeldOr-more (contents h.script_registers) h (hold_native h d x).heap (HeldOr-hold_native h d x))
done_in-holds h (script_held d x) s m r = hold_script-holds h d x s.well_formed
done_in-holds h (script_copied d x) s m r = HoldsBut-register h (set_register h (S d) x) d x None refl refl
    (HeldOr-same (contents h.script_registers) h (set_register h (S d) x) refl) (λ y i. inl (r y i))
done_in-holds {owned} h (native_stored d i x) s m r = HoldsBut-natives h (store_native h d i x).heap None
    (store_native-scripts owned h d i x m.0.there m.1 s) (store_native-held h d i x s m r.0)
done_in-holds h (slot_moved d i q j) s m r = move_slot-holds h d i q j (slot_at (objects_of h) (N q) j) s.well_formed m.0 m.1
done_in-holds h (script_stored x i y) s m r = put_in_script-holds h x i y s.well_formed r.0 m.1.there
done_in-holds h (reflector_held d x) s m r = wrapped-holds h d x s.well_formed
done_in-holds h (reflector_preserved x) s m r = preserve-holds h x r
done_in-holds h (entry_written t k v) s m r = set_entry-holds h t k v r.key
done_in-holds h (object_exposed x) s m r = HoldsBut-scripts h (exposed h x) x (script_names-exposed h x s.well_formed) (exposed-registers h x)
    (HeldOr-same (contents h.script_registers) h (exposed h x) (exposed-natives h x))
done_in-holds h (weak_written w x) s m r = HoldsBut-refl h None

-- A COMMAND THAT IS NOT REFUSED KEEPS THE HEAPS UNDER MARKING.
pub effects-marking : {owned : List ℕ} (h : Heap) (m : NewMarks) (c : Command) → IsSound owned h → IsUnderMarking h m → IsTrue (in_range c) →
    IsTaken (objects_of h) c → IsUnderMarking (effects h c).heap (marking_after h (deed_of (objects_of h) c) m)
unfolding effects
effects-marking h m c s u r t =
    let d : Deed = deed_of (objects_of h) c in
    IsUnderMarking-then h (done_in h d).heap (exposed_by h d) m
    (done_in-holds h d s (may_be_done h c s r t) (rests_on (holdings h) (objects_of h) (holdings-read h s.well_formed) c r t)) u
