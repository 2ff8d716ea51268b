-- THE NAMES OF ALL OBJECTS AFTER A COMMAND: what it told as freed is there no more, what it made goes last.
use Rattle.std.proofs.Common.{◌≡◌, ℕ, ◌+◌, ◌<◌, ◌≤◌, Bool, true, false, not, List, [], ◌∷◌, ◌++◌, map, length, Option, Some, None, refl, sym, ◌∙◌, ap, subst, arith, slice_index_or, is_none}
use Rattle.std.specs.Prelude.{IsTrue}
use Rattle.std.specs.List.{filter}
use Rattle.std.proofs.Math.Path.{fun_ext}
use Rattle.std.proofs.lemmas.List.{append-nil, map_push}
use Rattle.std.proofs.lemmas.Simd.{map-map}
use Rattle.cc_lists.specs.Members.{Among}
use Rattle.cc_names.specs.declared.name.Name.{Name}
use Rattle.cc_names.specs.declared.name.Name.TheVariants as name
use Rattle.cc_names.specs.declared.register.Reg.TheVariants.{N, S}
use Rattle.cc_names.specs.declared.kind.Kind.{Kind}
use Rattle.cc_names.specs.declared.kind.Kind.TheVariants.{Plain, Reflector, Map, Proxy as proxy_kind}
use Rattle.cc_names.specs.Names.{native, object, reflector}
use Rattle.cc_names.specs.Sizes.{most_slots}
use Rattle.cc_model.specs.declared.command.Command.{Command}
use Rattle.cc_model.specs.Slots.{reflector_slots}
use Rattle.cc_model.specs.Ranges.{in_range}
use Rattle.cc_model.specs.Checks.{slots_at, reflector_of}
use Rattle.cc_model.specs.Heap.{Heap, HeapNative, HeapScript, Outcome, silently, register, objects_of, has_reflector, change_native, with_native_slot, set_register, preserve, new_script, native_to_make}
use Rattle.cc_model.specs.Cascade.{take_up, let_go}
use Rattle.cc_model.specs.Exposure.{exposed}
use Rattle.cc_model.specs.Deeds.{Deed, nothing_done, native_made, plain_made, map_made, proxy_made, native_held, script_held, script_copied, native_stored, slot_moved, script_stored, reflector_held, reflector_preserved, entry_written, object_exposed, weak_written, deed_of}
use Rattle.cc_model.specs.Effects.{done_in, effects, put_in_register, hold_native, store_native, put_in_slot, taken_out, move_slot, with_native, make_native, with_script, with_reflector, make_object, hold_script, wrapped, put_in_script, set_entry, make_proxy}
use Rattle.cc_model.specs.WellFormed.{IsWellFormed, native_names, script_names, names_there}
use Rattle.cc_model.specs.Counts.{times}
use Rattle.cc_model.specs.Listed.{after_events}
use Rattle.cc_laws_heap.specs.Sound.{IsSound, numbers_of}
use Rattle.cc_laws_heap.specs.Freeing.{Frees}
use Rattle.cc_laws_heap.specs.Rounds.{is_not_among}
use Rattle.cc_lists.proofs.Searching.{filter-map}
use Rattle.cc_laws_heap.proofs.Freed.{freed_event}
use Rattle.cc_laws_heap.proofs.Leaving.{numbers_there, Leave-frees}
use Rattle.cc_laws_heap.proofs.HoldsTheSame.{HoldsTheSame-take_up, HoldsTheSame-add_ref}
use Rattle.cc_laws_heap.proofs.Owning.{IsIn, take_up-sound}
use Rattle.cc_laws_heap.proofs.Writes.{native_register-sound, native_slot-sound}
use Rattle.cc_laws_heap.proofs.MadeSound.{with_native-sound}
use Rattle.cc_laws_heap.proofs.Holding.{IsIn-natives}
use Rattle.cc_laws_heap.proofs.NativeCommands.{IsIn-take_up, room-take_up, HasSlot, HasSlot-from, HasSlot-take_up, put_in_slot-written, names_there-take_up, IsIn-made}
use Rattle.cc_laws_heap.proofs.Moving.{taken_out-sound, taken_out-there, HasSlot-taken_out, move_slot-is}
use Rattle.cc_laws_heap.proofs.Emptying.{let_go-frees}
use Rattle.cc_laws_heap.proofs.Taken.{IsTaken}
use Rattle.cc_laws_heap.proofs.MayBeDone.{MayBeDone, may_be_done}
use Rattle.cc_laws_run.proofs.Listing.{after_events-freed}
use Rattle.cc_laws_run.proofs.NamesKept.{SameNames, SameNames-refl, SameNames-trans, SameNames-alike, SameNames-change_native, SameNames-preserve, SameNames-put_in_script, SameNames-set_entry, SameNames-exposed, SameNames-taken_out}
use Rattle.cc_laws_run.proofs.FreedListed.{has-native}
use Rattle.cc_laws_run.proofs.TouchedCommands.{scripts_made-preserve}

-- these natives and script objects went last, then the natives ks were told freed, each once, and are there no more; all
-- others are there, in their order
pub record NamesAfter (h : Heap) (o : Outcome) (ks : List ℕ) (natives scripts : List Name) : Type 0 where
  pub told : o.events ≡ map freed_event ks
  pub once : (k : ℕ) → times k ks ≤ 1
  pub were_there : (k : ℕ) → Among k ks → Among (native k) (native_names h ++ natives)
  pub natives_left : native_names o.heap ≡ after_events (native_names h ++ natives) (map freed_event ks)
  pub scripts_left : script_names o.heap ≡ script_names h ++ scripts

-- Nothing freed

-- the same names, and script objects that went last
NamesAfter-scripts : (h g : Heap) (scripts : List Name) → native_names g ≡ native_names h → script_names g ≡ script_names h ++ scripts →
    NamesAfter h (silently g) [] [] scripts
NamesAfter-scripts h g scripts e f = grind (arith, append-nil)

-- the same names
NamesAfter-same : (h g : Heap) → SameNames h g → (ks : List ℕ) × NamesAfter h (silently g) ks [] []
NamesAfter-same h g s = ([], NamesAfter-scripts h g [] s.natives (s.scripts ∙ sym (append-nil (script_names h))))

-- Natives freed

-- names of natives by their numbers
native_names-numbers : (h : Heap) → native_names h ≡ map native (numbers_there h)
native_names-numbers h = sym (map-map native (λ (n : HeapNative). n.number) h.natives)

-- what is left of the natives is what the free lines leave of their names
native_names-freed : (h : Heap) (ks : List ℕ) (o : Outcome) → Frees h ks o → native_names o.heap ≡ after_events (native_names h) (map freed_event ks)
native_names-freed h ks o f =
    native_names-numbers o.heap
    ∙ (ap (map native) ((Leave-frees h ks o f).numbers ∙ ap (λ p. filter p (numbers_there h)) (fun_ext (λ k. ap not (sym (has-native ks k)))))
    ∙ (sym (filter-map (is_not_among (map native ks)) native (numbers_there h))
    ∙ (ap (filter (is_not_among (map native ks))) (sym (native_names-numbers h))
    ∙ sym (after_events-freed ks (native_names h)))))

-- natives freed after a native went last
NamesAfter-frees : (h g : Heap) (natives : List Name) (ks : List ℕ) (o : Outcome) → native_names g ≡ native_names h ++ natives → script_names g ≡ script_names h →
    Frees g ks o → NamesAfter h o ks natives []
NamesAfter-frees h g natives ks o e s f = grind (arith, native_names-freed, append-nil)

-- natives freed where the same names were there
NamesAfter-freed : (h g : Heap) (o : Outcome) → SameNames h g → (ks : List ℕ) × Frees g ks o → (ks : List ℕ) × NamesAfter h o ks [] []
NamesAfter-freed h g o s f = (f.0, NamesAfter-frees h g [] f.0 o (s.natives ∙ sym (append-nil (native_names h))) s.scripts f.1)

-- Commands that give up natives

-- a native register written
put_in_register-frees : (h : Heap) (d : ℕ) (x : Option Name) → d < length h.native_registers → IsIn (native_names h) x → IsSound (numbers_of x ++ []) h →
    (ks : List ℕ) × Frees (set_register h (N d) x) ks (put_in_register h d x)
put_in_register-frees h d x room there s = let_go-frees [] (set_register h (N d) x) (register h (N d)) (native_register-sound [] h d x room there s)

-- a native register written with what is there
put_in_register-names : (h g : Heap) (d : ℕ) (x : Option Name) → SameNames h g → d < length g.native_registers → IsIn (native_names g) x → IsSound (numbers_of x ++ []) g →
    (ks : List ℕ) × NamesAfter h (put_in_register g d x) ks [] []
put_in_register-names h g d x a room there s =
    NamesAfter-freed h (set_register g (N d) x) (put_in_register g d x) (record { natives = a.natives; scripts = a.scripts }) (put_in_register-frees g d x room there s)

-- a native register written, with the reference taken first
pub hold_native-names : (h : Heap) (d : ℕ) (x : Option Name) → d < length h.native_registers → IsIn (native_names h) x → IsSound [] h →
    (ks : List ℕ) × NamesAfter h (hold_native h d x) ks [] []
unfolding hold_native
hold_native-names h d x room there s = put_in_register-names h (take_up h x) d x (SameNames-alike h (take_up h x) (HoldsTheSame-take_up h x)) (room-take_up h x d room)
    (IsIn-take_up h x x there) (take_up-sound [] h x (IsIn-natives h x there) s)

-- a slot of a native written
put_in_slot-names : (h g : Heap) (d i : ℕ) (x : Option Name) → SameNames h g → IsIn (names_there g) x → HasSlot g d i → IsSound (numbers_of x ++ []) g →
    (ks : List ℕ) × NamesAfter h (put_in_slot g d i x) ks [] []
put_in_slot-names h g d i x a there f s = subst (λ (o : Outcome). (ks : List ℕ) × NamesAfter h o ks [] []) (sym (put_in_slot-written g d i x f))
    (NamesAfter-freed h written (let_go written old) (SameNames-trans h g written a (SameNames-change_native g f.number (with_native_slot i x) (λ n. refl)))
    (let_go-frees [] written old (native_slot-sound [] g f.number i f.there x f.found f.room there s)))
  where
    written : Heap
    written = change_native g f.number (with_native_slot i x)

    old : Option Name
    old = slice_index_or f.there.slots i None

-- a slot of a native written, with the reference taken first
store_native-names : (h : Heap) (d i : ℕ) (x : Option Name) → IsIn (names_there h) x → i < length (slots_at (objects_of h) (N d)) → IsSound [] h →
    (ks : List ℕ) × NamesAfter h (store_native h d i x) ks [] []
unfolding store_native
store_native-names h d i x there room s =
    let taken : IsSound (numbers_of x ++ []) (take_up h x) = take_up-sound [] h x there s in
    put_in_slot-names h (take_up h x) d i x (SameNames-alike h (take_up h x) (HoldsTheSame-take_up h x)) (names_there-take_up h x there)
    (HasSlot-take_up (numbers_of x ++ []) h d i x taken room) taken

-- what a slot holds moved into another
move_slot-names : (h : Heap) (d i s j : ℕ) → i < length (slots_at (objects_of h) (N d)) → j < length (slots_at (objects_of h) (N s)) → IsSound [] h →
    (ks : List ℕ) × NamesAfter h (move_slot h d i s j) ks [] []
move_slot-names h d i s j to from sound =
    let f = HasSlot-from h s j sound.well_formed from in
    let x : Option Name = slice_index_or f.there.slots j None in
    let left : Heap = taken_out h (Some (native f.number)) j x in
    subst (λ (o : Outcome). (ks : List ℕ) × NamesAfter h o ks [] []) (sym (move_slot-is h d i s j f))
    (put_in_slot-names h left d i x (SameNames-taken_out h (Some (native f.number)) j x sound.well_formed) (taken_out-there h f.number j f.there x sound.well_formed f.found refl)
    (HasSlot-taken_out h f.number j x d i (HasSlot-from h d i sound.well_formed to)) (taken_out-sound h f.number j x [] f.there f.found f.room refl sound))

-- a native made
make_native-names : (h : Heap) (d n : ℕ) → d < length h.native_registers → n ≤ most_slots → h.natives_made < h.limits.natives → IsSound [] h →
    (ks : List ℕ) × NamesAfter h (make_native h d n) ks (native (h.natives_made + 1) ∷ []) []
unfolding make_native
make_native-names h d n room few allowed s =
    let f = put_in_register-frees (with_native h n) d (Some (native (h.natives_made + 1))) room (IsIn-made h n s.well_formed) (with_native-sound [] h n s few allowed) in (
      f.0,
      NamesAfter-frees h (set_register (with_native h n) (N d) (Some (native (h.natives_made + 1)))) (native (h.natives_made + 1) ∷ []) f.0
          (put_in_register (with_native h n) d (Some (native (h.natives_made + 1))))
          (map_push (λ (m : HeapNative). native m.number) h.natives (native_to_make h n)) refl f.1,
    )

-- Commands of script objects

-- a script object made
make_object-names : (h : Heap) (d : ℕ) (kind : Kind) (n : ℕ) (its_delegate : Option Name) →
    (ks : List ℕ) × NamesAfter h (silently (make_object h d kind n its_delegate)) ks [] (object (h.scripts_made + 1) ∷ [])
make_object-names h d kind n its_delegate = (
  [],
  NamesAfter-scripts h (make_object h d kind n its_delegate) (object (h.scripts_made + 1) ∷ []) refl
      (map_push (λ (o : HeapScript). o.name) h.scripts (new_script (object (h.scripts_made + 1)) kind n its_delegate)),
)

-- a proxy made of what a register holds
make_proxy-names : (h : Heap) (d : ℕ) (x : Option Name) → is_none x ≡ false →
    (ks : List ℕ) × NamesAfter h (silently (make_proxy h d x)) ks [] (object (h.scripts_made + 1) ∷ [])
make_proxy-names h d None held = absurd (cc)
make_proxy-names h d (Some x) held = (
  [],
  NamesAfter-scripts h (make_proxy h d (Some x)) (object (h.scripts_made + 1) ∷ []) (SameNames-preserve h (Some x)).natives
      (map_push (λ (o : HeapScript). o.name) (preserve h (Some x)).scripts (new_script (object ((preserve h (Some x)).scripts_made + 1)) proxy_kind 0 (Some x))
      ∙ (ap (λ xs. xs ++ object ((preserve h (Some x)).scripts_made + 1) ∷ []) (SameNames-preserve h (Some x)).scripts
      ∙ ap (λ n. script_names h ++ object (n + 1) ∷ []) (scripts_made-preserve h (Some x)))),
)

-- what comes into a script register is exposed
hold_script-names : (h : Heap) (d : ℕ) (x : Option Name) → IsWellFormed h → (ks : List ℕ) × NamesAfter h (silently (hold_script h d x)) ks [] []
hold_script-names h d x w = let s = SameNames-exposed h x w in NamesAfter-same h (hold_script h d x) (record { natives = s.natives; scripts = s.scripts })

-- the reflector that a native gets, where it has none
abbrev pub made_reflector : Heap → Option Name → List Name
made_reflector h (Some (name.Native k)) = elim (has_reflector h k.0) [ true ↦ [] | false ↦ reflector k.0 ∷ [] ]
made_reflector h _ = []

-- a native wrapped
wrapped-names : (h : Heap) (d : ℕ) (x : Option Name) → IsWellFormed h →
    (ks : List ℕ) × NamesAfter h (silently (set_register (wrapped h x) (S d) (reflector_of x))) ks [] (made_reflector h x)
wrapped-names h d None w = NamesAfter-same h (set_register h (S d) None) (record { natives = refl; scripts = refl })
wrapped-names h d (Some (name.Script k)) w = NamesAfter-same h (set_register h (S d) None) (record { natives = refl; scripts = refl })
wrapped-names h d (Some (name.Reflector k)) w = NamesAfter-same h (set_register h (S d) None) (record { natives = refl; scripts = refl })
wrapped-names h d (Some (name.Native k)) w = go (has_reflector h k.0)
  where
    with_one : Heap
    with_one = with_script h (reflector k.0) Reflector reflector_slots None

    go : (b : Bool) → (ks : List ℕ) × NamesAfter h
        (silently (set_register (elim b [ true ↦ exposed h (Some (reflector k.0)) | false ↦ with_reflector h k.0 ]) (S d) (Some (reflector k.0))))
        ks [] (elim b [ true ↦ [] | false ↦ reflector k.0 ∷ [] ])
    go true = hold_script-names h d (Some (reflector k.0)) w
    go false =
        let s : SameNames with_one (with_reflector h k.0) = SameNames-alike with_one (with_reflector h k.0) (HoldsTheSame-add_ref with_one k.0) in (
          [],
          NamesAfter-scripts h (set_register (with_reflector h k.0) (S d) (Some (reflector k.0))) (reflector k.0 ∷ []) s.natives
              (s.scripts ∙ map_push (λ (o : HeapScript). o.name) h.scripts (new_script (reflector k.0) Reflector reflector_slots None)),
        )

-- All deeds

-- the natives that a deed makes
abbrev pub natives_made_by : Heap → Deed → List Name
natives_made_by h (native_made d n) = native (h.natives_made + 1) ∷ []
natives_made_by h _ = []

-- the script objects that a deed makes
abbrev pub scripts_made_by : Heap → Deed → List Name
scripts_made_by h (plain_made d n) = object (h.scripts_made + 1) ∷ []
scripts_made_by h (map_made d) = object (h.scripts_made + 1) ∷ []
scripts_made_by h (proxy_made d x) = object (h.scripts_made + 1) ∷ []
scripts_made_by h (reflector_held d x) = made_reflector h x
scripts_made_by h _ = []

-- THE NAMES AFTER WHAT IS DONE.
done_in-names : (h : Heap) (d : Deed) → IsSound [] h → MayBeDone h d → (ks : List ℕ) × NamesAfter h (done_in h d) ks (natives_made_by h d) (scripts_made_by h d)
unfolding done_in
done_in-names h nothing_done s m = NamesAfter-same h h (SameNames-refl h)
done_in-names h (native_made d n) s m = make_native-names h d n m.register m.few m.room s
done_in-names h (plain_made d n) s m = make_object-names h d Plain n None
done_in-names h (map_made d) s m = make_object-names h d Map 0 None
done_in-names h (proxy_made d x) s m = make_proxy-names h d x m.1
done_in-names h (native_held d x) s m = hold_native-names h d x m.0 m.1 s
done_in-names h (script_held d x) s m = hold_script-names h d x s.well_formed
done_in-names h (script_copied d x) s m = NamesAfter-same h (set_register h (S d) x) (record { natives = refl; scripts = refl })
done_in-names h (native_stored d i x) s m = store_native-names h d i x m.0.there m.1 s
done_in-names h (slot_moved d i q j) s m = move_slot-names h d i q j m.0 m.1 s
done_in-names h (script_stored x i y) s m = NamesAfter-same h (put_in_script h x i y) (SameNames-put_in_script h x i y)
done_in-names h (reflector_held d x) s m = wrapped-names h d x s.well_formed
done_in-names h (reflector_preserved x) s m = NamesAfter-same h (preserve h x) (SameNames-preserve h x)
done_in-names h (entry_written x k v) s m = NamesAfter-same h (set_entry h x k v) (SameNames-set_entry h x k v)
done_in-names h (object_exposed x) s m = NamesAfter-same h (exposed h x) (SameNames-exposed h x s.well_formed)
done_in-names h (weak_written w x) s m = NamesAfter-same h h (SameNames-refl h)

-- Commands

-- the natives that a command makes
abbrev pub made_natives : Heap → Command → List Name
made_natives h c = natives_made_by h (deed_of (objects_of h) c)

-- the script objects that a command makes
abbrev pub made_scripts : Heap → Command → List Name
made_scripts h c = scripts_made_by h (deed_of (objects_of h) c)

-- THE NAMES AFTER A COMMAND THAT IS NOT REFUSED.
pub effects-names : (h : Heap) (c : Command) → IsSound [] h → IsTrue (in_range c) → IsTaken (objects_of h) c →
    (ks : List ℕ) × NamesAfter h (effects h c) ks (made_natives h c) (made_scripts h c)
unfolding effects
effects-names h c s r t = done_in-names h (deed_of (objects_of h) c) s (may_be_done h c s r t)
