-- PARTS OF COMMANDS THAT CHANGE SCRIPT OBJECTS AND ENTRIES, each gentle: an exposure, a slot written, a script object
-- made, a native wrapped, an entry set or taken out.
use Rattle.std.proofs.Common.{◌≡◌, ℕ, ◌+◌, Bool, true, false, not, List, [], ◌∷◌, ◌++◌, Option, Some, None, refl, sym, ◌∙◌, ap, subst, inl, ⊎_elim, arith}
use Rattle.std.specs.Option.{option_to_list}
use Rattle.std.proofs.lemmas.Bool.{false≢true}
use Rattle.cc_lists.specs.Members.{Among}
use Rattle.cc_lists.proofs.Members.{Among-filtered}
use Rattle.cc_names.specs.declared.name.Name.{Name}
use Rattle.cc_names.specs.declared.name.Name.TheVariants as name
use Rattle.cc_names.specs.declared.register.Reg.TheVariants.{S}
use Rattle.cc_names.specs.declared.kind.Kind.{Kind}
use Rattle.cc_names.specs.declared.kind.Kind.TheVariants.{Reflector, Proxy}
use Rattle.cc_names.specs.Names.{native, object, reflector}
use Rattle.cc_model.proofs.Joints.{Gives, its_value, its_key, joint-cases, gives-joint}
use Rattle.cc_model.specs.Places.{script_places_of}
use Rattle.cc_model.specs.Slots.{contents, reflector_slots}
use Rattle.cc_model.specs.Entries.{Entry, Joint, joints, entry, is_entry_of, with_entry, without_entry}
use Rattle.cc_model.specs.Checks.{reflector_of}
use Rattle.cc_model.specs.Heap.{Heap, HeapScript, is_gray_colour, set_register, change_script, with_script_slot, set_preserved, preserve, delegate_at, has_reflector, new_script}
use Rattle.cc_model.specs.View.{view}
use Rattle.cc_model.specs.Cascade.{add_ref}
use Rattle.cc_model.specs.Exposure.{exposed, exposed_names, as_black}
use Rattle.cc_model.specs.Effects.{hold_script, with_object, make_object, make_proxy, with_reflector, wrapped, put_in_script, set_entry}
use Rattle.cc_model.specs.WellFormed.{IsWellFormed, native_names, script_names}
use Rattle.cc_laws_heap.specs.Sound.{IsSound}
use Rattle.cc_lists.proofs.ListWrites.{changed_where, changed_where-either, Among-flat_map_set}
use Rattle.cc_laws_heap.proofs.EntryLists.{with_entry-cases}
use Rattle.cc_laws_heap.proofs.Kept.{with_entries}
use Rattle.cc_laws_heap.proofs.CommandsColours.{blank-holds}
use Rattle.cc_laws_heap.proofs.Owning.{IsIn, add_ref-sound}
use Rattle.cc_laws_heap.proofs.Writes.{set_preserved-sound}
use Rattle.cc_laws_heap.proofs.ScriptsKept.{has_name, is_one_of, native-no_script, preserve-sound, script_names-preserve, ChangesScripts-slot, ChangesScripts-black}
use Rattle.cc_laws_heap.proofs.ColourChanges.{IsHeldBlack}
use Rattle.cc_laws_snapshot.proofs.Marked.{names_in, with_mark-there}
use Rattle.cc_laws_snapshot.proofs.GentleBut.{AreGentle, AreGentle-refl, AreGentle-then}
use Rattle.cc_laws_snapshot.proofs.NativeParts.{IsNotGray, register-gentle, add_ref-gentle, preserve-gentle}
use Rattle.cc_laws_heap.proofs.Coloured.{is_gray, is_black, names_with-is}
use Rattle.cc_laws_snapshot.proofs.ScriptsChange.{ScriptsGently-each, ScriptsGently-push, AreGentle-scripts}

-- what is black is not gray
pub not_gray-held : (h : Heap) (x : Option Name) → IsHeldBlack h.scripts x → IsNotGray h x
not_gray-held h x black y m g =
    let f = names_with-is is_gray h.scripts y g in
    false≢true (sym (ap is_gray_colour (black f.0 f.1 (subst (λ z. Among z (option_to_list x)) (sym f.3) m))) ∙ f.2)

-- Exposures

-- An exposure is gentle: it makes nothing gray.
pub exposed-gentle : (h : Heap) (x : Option Name) → IsWellFormed h → AreGentle h (exposed h x)
unfolding exposed
exposed-gentle h None w = AreGentle-refl h
exposed-gentle h (Some x) w = AreGentle-scripts h _ h.scripts_made (ScriptsGently-each h (changed_where is_it as_black) w (record {
  changes = ChangesScripts-black h (exposed_names h x) w;
  slots = λ o y m g. changed_where-either (λ p. Among y (contents p.slots) → Among y (contents o.slots)) is_it as_black o (λ e i. i) (λ i. i) m;
  gray = λ o e. changed_where-either (λ p. is_gray p ≡ true → is_gray o ≡ true) is_it as_black o (λ t f. absurd (false≢true f)) (λ f. f) e;
  black = λ o e. changed_where-either (λ p. is_black p ≡ true) is_it as_black o (λ t. refl) e;
}))
  where
    is_it : HeapScript → Bool
    is_it o = is_one_of (exposed_names h x) o

-- What comes into a script register is exposed.
pub hold_script-gentle : (h : Heap) (d : ℕ) (x : Option Name) → IsWellFormed h → AreGentle h (hold_script h d x)
hold_script-gentle h d x w = AreGentle-then h (exposed h x) (hold_script h d x) (exposed-gentle h x w) (register-gentle (exposed h x) (S d) x)

-- Slots of script objects

-- a slot of a script object takes what is there and not gray
pub script_slot-gentle : (h : Heap) (x : Name) (i : ℕ) (y : Option Name) → IsWellFormed h → IsIn (script_names h) y → IsNotGray h y →
    AreGentle h (change_script h x (with_script_slot i y))
script_slot-gentle h x i y w there pale = AreGentle-scripts h (change_script h x written).scripts h.scripts_made (ScriptsGently-each h (changed_where is_it written) w (record {
  changes = ChangesScripts-slot h x i y w there;
  slots = λ o z m g. changed_where-either (λ p. Among z (contents p.slots) → Among z (contents o.slots)) is_it written o
      (λ e t. ⊎_elim (λ new. absurd (pale z new g)) (λ old. old) (Among-flat_map_set option_to_list o.slots i y z t)) (λ t. t) m;
  gray = λ o e. changed_where-either (λ p. is_gray p ≡ true → is_gray o ≡ true) is_it written o (λ t f. f) (λ f. f) e;
  black = λ o e. changed_where-either (λ p. is_black p ≡ true) is_it written o (λ t. e) e;
}))
  where
    is_it : HeapScript → Bool
    is_it o = has_name x o

    written : HeapScript → HeapScript
    written o = with_script_slot i y o

-- A reflector that is not gray is preserved, and a slot of the script object takes what is there and not gray.
pub put_in_script-gentle : (owned : List ℕ) (h : Heap) (x : Option Name) (i : ℕ) (y : Option Name) → IsIn (script_names h) x → IsIn (script_names h) y →
    IsNotGray h x → IsNotGray h y → IsSound owned h → AreGentle h (put_in_script h x i y)
put_in_script-gentle owned h None i y at there pale_x pale_y s = AreGentle-refl h
put_in_script-gentle owned h (Some (name.Native k)) i y at there pale_x pale_y s = absurd (native-no_script h k.0 s.well_formed (at (native k.0) (inl refl)))
put_in_script-gentle owned h (Some (name.Script k)) i y at there pale_x pale_y s = script_slot-gentle h (object k.0) i y s.well_formed there pale_y
put_in_script-gentle owned h (Some (name.Reflector k)) i y at there pale_x pale_y s =
    AreGentle-then h (set_preserved h k.0 true) (put_in_script h (Some (reflector k.0)) i y) (preserve-gentle h (Some (reflector k.0)) pale_x)
    (script_slot-gentle (set_preserved h k.0 true) (reflector k.0) i y (set_preserved-sound owned h k.0 (at (reflector k.0) (inl refl)) s).well_formed there pale_y)

-- Script objects made

-- A script object made is gentle, where its delegate is there and not gray.
pub make_object-gentle : (h : Heap) (d : ℕ) (kind : Kind) (n : ℕ) (its_delegate : Option Name) → IsWellFormed h →
    IsIn (script_names h) its_delegate → IsNotGray h its_delegate → AreGentle h (make_object h d kind n its_delegate)
make_object-gentle h d kind n its_delegate w there pale = AreGentle-then h (with_object h kind n its_delegate) (make_object h d kind n its_delegate)
    (AreGentle-scripts h (h.scripts ++ new ∷ []) (h.scripts_made + 1) (ScriptsGently-push h new w refl holds (λ k m. absurd m)))
    (register-gentle (with_object h kind n its_delegate) (S d) (Some new.name))
  where
    new : HeapScript
    new = new_script (object (h.scripts_made + 1)) kind n its_delegate

    holds : (x : Name) → Among x (contents (script_places_of new)) → Among x (script_names h) × (¬ (Among x (view h).gray))
    holds x m =
        let e : its_delegate ≡ Some x = blank-holds (object (h.scripts_made + 1)) kind n its_delegate x m in
        let i : Among x (option_to_list its_delegate) = subst (λ y. Among x (option_to_list y)) (sym e) (inl refl) in
        (there x i, pale x i)

-- A proxy made is gentle, where its delegate is there and not gray: that is preserved first, where it is a reflector.
pub make_proxy-gentle : (owned : List ℕ) (h : Heap) (d : ℕ) (x : Option Name) → IsIn (script_names h) x → IsNotGray h x → IsSound owned h →
    AreGentle h (make_proxy h d x)
make_proxy-gentle owned h d None there pale s = AreGentle-refl h
make_proxy-gentle owned h d (Some x) there pale s = AreGentle-then h (preserve h (Some x)) (make_proxy h d (Some x)) (preserve-gentle h (Some x) pale)
    (make_object-gentle (preserve h (Some x)) d Proxy 0 (Some x) (preserve-sound owned h (Some x) there s).well_formed
    (subst (λ xs. IsIn xs (Some x)) (sym (script_names-preserve h (Some x))) there) (λ y m g. pale y m (subst (λ xs. Among y xs) (gray-preserve h (Some x)) g)))
  where
    gray-preserve : (h : Heap) (o : Option Name) → (view (preserve h o)).gray ≡ (view h).gray
    gray-preserve h o = grind arith

-- A reflector made is gentle: its native is in the buffer.
pub with_reflector-gentle : (owned : List ℕ) (h : Heap) (k : ℕ) → Among (native k) (native_names h) → IsSound owned h → AreGentle h (with_reflector h k)
with_reflector-gentle owned h k there s = AreGentle-then h (add_ref h k) (with_reflector h k) (add_ref-gentle h k)
    (AreGentle-scripts (add_ref h k) (h.scripts ++ new ∷ []) h.scripts_made (ScriptsGently-push (add_ref h k) new (add_ref-sound owned h k there s).well_formed
    refl (λ x m. absurd (no_delegate (blank-holds (reflector k) Reflector reflector_slots None x m)))
    (λ j m. ⊎_elim (λ e. subst (λ i. Among (native i) (names_in (add_ref h k).buffer)) e (with_mark-there false k h.buffer)) (λ t. absurd t) m)))
  where
    new : HeapScript
    new = new_script (reflector k) Reflector reflector_slots None

    no_delegate : {x : Name} → None ≡ Some x → ⊥
    no_delegate e = cc

-- A native is wrapped, and a script register holds its reflector.
pub wrapped-gentle : (owned : List ℕ) (h : Heap) (d : ℕ) (x : Option Name) → IsIn (native_names h) x → IsSound owned h →
    AreGentle h (set_register (wrapped h x) (S d) (reflector_of x))
wrapped-gentle owned h d None there s = register-gentle h (S d) None
wrapped-gentle owned h d (Some (name.Script k)) there s = register-gentle h (S d) None
wrapped-gentle owned h d (Some (name.Reflector k)) there s = register-gentle h (S d) None
wrapped-gentle owned h d (Some (name.Native k)) there s = go (has_reflector h k.0)
  where
    go : (b : Bool) → AreGentle h (set_register (elim b [ true ↦ exposed h (Some (reflector k.0)) | false ↦ with_reflector h k.0 ]) (S d) (Some (reflector k.0)))
    go true = hold_script-gentle h d (Some (reflector k.0)) s.well_formed
    go false = AreGentle-then h (with_reflector h k.0) (set_register (with_reflector h k.0) (S d) (Some (reflector k.0)))
        (with_reflector-gentle owned h k.0 (there (native k.0) (inl refl)) s) (register-gentle (with_reflector h k.0) (S d) (Some (reflector k.0)))

-- Entries

-- other entries are gentle, where each of their joints was there or gives what is not gray
entries-gentle : (h : Heap) (es : List Entry) → ((j : Joint) → Among j (joints es) → Among j.value (view h).gray → Among j (joints h.entries)) → AreGentle h (with_entries h es)
entries-gentle h es was = record {
  made_more = omega arith;
  outside = λ u c m o l. (m, o);
  as_often = λ u w c m o l. refl;
  gray_edge = λ x y m g. (m, g);
  gray_joint = λ j m g. (was j m g, g);
  black_stays = λ x m. m;
  scripts_stay = λ x m. m;
  lives = λ i c m. inl (c, m);
}

-- An entry set, its key preserved, or taken out is gentle, where neither the key nor the value is gray.
pub set_entry-gentle : (h : Heap) (m k v : Option Name) → IsNotGray h k → IsNotGray h v → AreGentle h (set_entry h m k v)
set_entry-gentle h None k v pale_k pale_v = AreGentle-refl h
set_entry-gentle h (Some m) None v pale_k pale_v = AreGentle-refl h
set_entry-gentle h (Some m) (Some k) None pale_k pale_v =
    entries-gentle h (without_entry h.entries m k) (λ j i g. let f = joint-cases (without_entry h.entries m k) j i in
    gives-joint h.entries f.0 j (Among-filtered (λ (d : Entry). not (is_entry_of m k d)) f.0 h.entries f.1) f.2)
set_entry-gentle h (Some m) (Some k) (Some v) pale_k pale_v = go k pale_k
  where
    es : List Entry
    es = with_entry h.entries m k (delegate_at h k) v

    given : (e : Entry) → entry m k (delegate_at h k) v ≡ e → (j : Joint) → Gives e j → ¬ (Among j.value (view h).gray)
    given e new _ its_value g = pale_v v (inl refl) (subst (λ (f : Entry). Among f.value (view h).gray) (sym new) g)
    given e new _ (its_key d q) g = pale_k k (inl refl) (subst (λ (f : Entry). Among f.key (view h).gray) (sym new) g)

    set_first : AreGentle h (with_entries h es)
    set_first = entries-gentle h es (λ j i g. let f = joint-cases es j i in ⊎_elim
        (λ new. absurd (given f.0 new j f.2 g))
        (λ old. gives-joint h.entries f.0 j old f.2)
        (with_entry-cases h.entries m k (delegate_at h k) v f.0 f.1))

    after : Name → Heap
    after x = record (preserve h (Some x)) { entries = es }

    go : (x : Name) → IsNotGray h (Some x) → AreGentle h (after x)
    go (name.Reflector j) pale = AreGentle-then h (with_entries h es) (after (reflector j.0)) set_first
        (preserve-gentle (with_entries h es) (Some (reflector j.0)) pale)
    go _ pale = set_first
