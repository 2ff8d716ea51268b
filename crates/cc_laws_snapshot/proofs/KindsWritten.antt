-- WHAT IS WRITTEN keeps every snapshot fresh: a reference, a register, a slot, a flag, an entry.
use Rattle.std.proofs.Common.{arith, ◌≡◌, ℕ, ◌<◌, Bool, true, List, [], ◌∷◌, ◌++◌, map, length, Option, Some, None, refl, sym, subst, inl, inr, ⊎_elim, slice_index_or}
use Rattle.std.specs.Prelude.{IsTrue}
use Rattle.std.specs.Option.{option_to_list}
use Rattle.std.proofs.lemmas.List.{append-nil}
use Rattle.cc_lists.specs.Members.{Among}
use Rattle.cc_lists.proofs.Members.{Among-map, Among-map_cases, Among-left, Among-right, Among-append, Among-flat_map}
use Rattle.cc_names.specs.declared.name.Name.{Name}
use Rattle.cc_names.specs.declared.kind.Colour.{Colour}
use Rattle.cc_names.specs.declared.register.Reg.{Reg}
use Rattle.cc_names.specs.declared.register.Reg.TheVariants.{N, S, W}
use Rattle.cc_names.specs.Names.{native, reflector, natives_in, is_script}
use Rattle.cc_model.specs.Slots.{contents}
use Rattle.cc_model.specs.Heap.{Heap, HeapNative, HeapScript, native_at, is_white_colour, is_black_colour, set_register, touch, change_native, change_script, with_native_slot, with_script_slot, set_preserved}
use Rattle.cc_model.specs.Cascade.{add_ref}
use Rattle.cc_model.specs.Effects.{set_entry}
use Rattle.cc_model.specs.View.{View, view, names_with}
use Rattle.cc_model.specs.Colours.{HasColourInvariant}
use Rattle.cc_model.specs.WellFormed.{IsWellFormed}
use Rattle.cc_model.specs.Snapshot.{Snapshot}
use Rattle.cc_lists.proofs.ListWrites.{changed_where, changed_where-either, Among-flat_map_set}
use Rattle.cc_laws_heap.proofs.ScriptsKept.{has_name}
use Rattle.cc_laws_snapshot.specs.Kinds.{counting, IsFreshIn, IsFreshCounting, IsInBuffer, IsNotGrayIn, IsThereIn, IsScriptObject}
use Rattle.cc_laws_heap.specs.Sound.{numbers_of}
use Rattle.cc_laws_snapshot.proofs.SoundView.{black-or_gray, living-native, named-there}
use Rattle.cc_laws_snapshot.proofs.NativeParts.{register-gentle, add_ref-gentle, native_slot-gentle, flag-gentle}
use Rattle.cc_laws_snapshot.proofs.MovesGentle.{touch-gentle}
use Rattle.cc_laws_snapshot.proofs.ScriptParts.{script_slot-gentle, set_entry-gentle}
use Rattle.cc_laws_snapshot.proofs.KindsFresh.{IsGentleBut-buffers, KeepsColours, fresh-by, some_wait-fresh}

-- References and registers

-- A native gets a reference.
pub reference_added-fresh : (h : Heap) (s : Snapshot) (k : ℕ) → IsFreshIn h s → IsFreshIn (add_ref h k) s
reference_added-fresh h s k = fresh-by h.natives_made h.natives_made (view h) (view (add_ref h k)) (add_ref-gentle h k)
    (record { black = λ x m. m; white = refl; held = λ x m i. inl m }) s

-- A native is touched.
pub touched-fresh : (h : Heap) (s : Snapshot) (k : ℕ) → IsFreshIn h s → IsFreshIn (touch h k) s
touched-fresh h s k = fresh-by h.natives_made h.natives_made (view h) (view (touch h k)) (touch-gentle h k)
    (record { black = λ x m. m; white = refl; held = λ x m i. inl m }) s

-- what is there and not gray is black
black-left : (h : Heap) (x : Option Name) → HasColourInvariant (view h) → IsThereIn (view h) x → IsNotGrayIn (view h) x →
    (y : Name) → Among y (option_to_list x) → IsTrue (is_script y) → Among y (view h).black
black-left h x c there pale y m i = ⊎_elim (λ b. b) (λ g. absurd (pale y m g)) (black-or_gray (view h) c y (there y m i))

-- a register that takes it keeps the colours
register-colours : (h : Heap) (r : Reg) (x : Option Name) → ((y : Name) → Among y (option_to_list x) → IsTrue (is_script y) → Among y (view h).black) →
    KeepsColours (view h) (view (set_register h r x))
register-colours h (N d) x black = record {
  black = λ y m. m;
  white = refl;
  held = λ y m i. ⊎_elim
      (λ l. ⊎_elim (λ new. inr (black y new i)) (λ old. inl (Among-left y (contents h.native_registers) (contents h.script_registers) old))
      (Among-flat_map_set option_to_list h.native_registers d x y l))
      (λ r. inl (Among-right y (contents h.native_registers) (contents h.script_registers) r))
      (Among-append y (contents (set_register h (N d) x).native_registers) (contents h.script_registers) m);
}
register-colours h (S d) x black = record {
  black = λ y m. m;
  white = refl;
  held = λ y m i. ⊎_elim
      (λ l. inl (Among-left y (contents h.native_registers) (contents h.script_registers) l))
      (λ r. ⊎_elim (λ new. inr (black y new i)) (λ old. inl (Among-right y (contents h.native_registers) (contents h.script_registers) old))
      (Among-flat_map_set option_to_list h.script_registers d x y r))
      (Among-append y (contents h.native_registers) (contents (set_register h (S d) x).script_registers) m);
}
register-colours h (W d) x black = record { black = λ y m. m; white = refl; held = λ y m i. inl m }

-- A register is written.
pub register_written-fresh : (h : Heap) (s : Snapshot) (r : Reg) (x : Option Name) → IsThereIn (view h) x → IsNotGrayIn (view h) x →
    IsFreshIn h s → IsFreshIn (set_register h r x) s
register_written-fresh h s r x there pale f = search (fresh-by, register-gentle, register-colours, black-left)

-- Slots of natives

-- A slot of a native is written while others wait: so does what it held.
pub slot_written_waiting-fresh : (h : Heap) (s : Snapshot) (n : HeapNative) (k i : ℕ) (x : Option Name) (others : List ℕ) → IsWellFormed h → native_at h k ≡ Some n →
    i < length n.slots → IsInBuffer (view h) x → IsNotGrayIn (view h) x →
    IsFreshCounting others h s → IsFreshCounting (numbers_of (slice_index_or n.slots i None) ++ others) (change_native h k (with_native_slot i x)) s
slot_written_waiting-fresh h s n k i x others w found room taken pale = fresh-by h.natives_made h.natives_made (counting others (view h)) later
    (IsGentleBut-buffers (option_to_list old) h.natives_made h.natives_made (view h) (view written)
    (counting others (view h)).buffer (counting others (view h)).purple later.buffer later.purple
    (native_slot-gentle h k i n x w found room taken pale) stays
    (λ u c m l. let f = waits u c m l in counted u f.0 f.1 (Among-left f.0 (numbers_of old) others f.2))
    (λ u c m b. ⊎_elim (stays u)
    (λ o. let f = Among-map_cases native others u o in counted u f.0 f.2 (Among-right f.0 (numbers_of old) others f.1))
    (Among-append u (view h).buffer (map native others) b)))
    (record { black = λ y m. m; white = refl; held = λ y m i. inl m }) s
  where
    old : Option Name
    old = slice_index_or n.slots i None

    written : Heap
    written = change_native h k (with_native_slot i x)

    later : View
    later = counting (numbers_of old ++ others) (view written)

    -- who stood in the buffer does
    stays : (u : Name) → Among u (view h).buffer → Among u later.buffer
    stays u b = Among-left u (view written).buffer (map native (numbers_of old ++ others)) b

    -- who waits counts as in the buffer
    counted : (u : Name) (j : ℕ) → native j ≡ u → Among j (numbers_of old ++ others) → Among u later.buffer
    counted u j e m = Among-right u (view written).buffer (map native (numbers_of old ++ others))
        (subst (λ v. Among v (map native (numbers_of old ++ others))) e (Among-map native j (numbers_of old ++ others) m))

    -- a native that the slot held is one of the numbers that wait
    waits : (u : Name) (c : ℕ) → Among (u, c) (view written).natives → Among u (option_to_list old) → (j : ℕ) × (native j ≡ u) × Among j (numbers_of old)
    waits u c m l =
        let f = living-native written u c m in
        let held : Among (native f.0.number) (option_to_list old) = subst (λ v. Among v (option_to_list old)) (sym f.2) l in
        (f.0.number, f.2, Among-flat_map natives_in (native f.0.number) f.0.number (option_to_list old) held (inl refl))

-- A slot of a native is written, and nothing else waits: what it held waits.
pub slot_written-fresh : (h : Heap) (s : Snapshot) (n : HeapNative) (k i : ℕ) (x : Option Name) → IsWellFormed h → native_at h k ≡ Some n →
    i < length n.slots → IsInBuffer (view h) x → IsNotGrayIn (view h) x →
    IsFreshIn h s → IsFreshCounting (numbers_of (slice_index_or n.slots i None)) (change_native h k (with_native_slot i x)) s
slot_written-fresh h s n k i x w found room taken pale f =
    subst (λ (ks : List ℕ). IsFreshCounting ks (change_native h k (with_native_slot i x)) s) (append-nil (numbers_of (slice_index_or n.slots i None)))
    (slot_written_waiting-fresh h s n k i x [] w found room taken pale (some_wait-fresh h s [] f))

-- Slots of script objects

-- script objects that change keep their names by a test that they keep
names_with-kept : (p : HeapScript → Bool) (f : HeapScript → HeapScript) (os : List HeapScript) → ((o : HeapScript) → p (f o) ≡ p o) →
    ((o : HeapScript) → (f o).name ≡ o.name) → names_with p (map f os) ≡ names_with p os
names_with-kept p f [] same named = refl
names_with-kept p f (o ∷ os) same named = grind (arith, names_with-kept p f os same named)

-- A slot of a script object is written.
pub script_slot_written-fresh : (h : Heap) (s : Snapshot) (o : Name) (i : ℕ) (x : Option Name) → IsWellFormed h →
    IsScriptObject x → IsThereIn (view h) x → IsNotGrayIn (view h) x → IsFreshIn h s → IsFreshIn (change_script h o (with_script_slot i x)) s
script_slot_written-fresh h s o i x w scripts there pale = fresh-by h.natives_made h.natives_made (view h) (view (change_script h o written))
    (script_slot-gentle h o i x w (λ y m. named-there h y (there y m (scripts y m))) pale)
    (record {
      black = λ y m. subst (Among y) (kept is_black_colour) m;
      white = kept is_white_colour;
      held = λ y m j. inl m;
    }) s
  where
    written : HeapScript → HeapScript
    written p = with_script_slot i x p

    changed : HeapScript → HeapScript
    changed p = changed_where (has_name o) written p

    kept : (test : Colour → Bool) → names_with (λ p. test p.colour) (map changed h.scripts) ≡ names_with (λ p. test p.colour) h.scripts
    kept test = names_with-kept (λ p. test p.colour) changed h.scripts
        (λ p. changed_where-either (λ q. test q.colour ≡ test p.colour) (has_name o) written p (λ e. refl) refl)
        (λ p. changed_where-either (λ q. q.name ≡ p.name) (has_name o) written p (λ e. refl) refl)

-- Flags

-- A flag is written.
pub flag_written-fresh : (h : Heap) (s : Snapshot) (k : ℕ) (on : Bool) → (on ≡ true → ¬ (Among (reflector k) (view h).gray)) →
    IsFreshIn h s → IsFreshIn (set_preserved h k on) s
flag_written-fresh h s k on pale = fresh-by h.natives_made h.natives_made (view h) (view (set_preserved h k on)) (flag-gentle h k on pale)
    (record { black = λ x m. m; white = refl; held = λ x m i. inl m }) s

-- Entries

-- an entry written keeps the colours
entry-colours : (h : Heap) (m k : Name) (v : Option Name) → KeepsColours (view h) (view (set_entry h (Some m) (Some k) v))
entry-colours h m k v = grind arith

-- An entry is written.
pub entry_written-fresh : (h : Heap) (s : Snapshot) (m k : Name) (v : Option Name) → ¬ (Among k (view h).gray) → IsNotGrayIn (view h) v →
    IsFreshIn h s → IsFreshIn (set_entry h (Some m) (Some k) v) s
entry_written-fresh h s m k v pale_k pale_v =
    fresh-by h.natives_made (set_entry h (Some m) (Some k) v).natives_made (view h) (view (set_entry h (Some m) (Some k) v))
    (set_entry-gentle h (Some m) (Some k) v (λ y i g. ⊎_elim (λ e. pale_k (subst (λ z. Among z (view h).gray) (sym e) g)) (λ t. t) i) pale_v)
    (entry-colours h m k v) s
