-- WHICH SCRIPT OBJECTS AND ENTRIES ARE THERE AFTER A DEED: those that were, and one that is made goes last; entries are written of
-- what script registers hold.
use Rattle.std.proofs.Common.{arith, ◌≡◌, ℕ, ◌+◌, ◌<◌, ◌≤◌, Bool, true, false, not, List, [], ◌∷◌, ◌++◌, map, length, Option, Some, None, refl, sym, ◌∙◌, ap, subst, inl, inr, ◌⊎◌, ⊎_elim, slice_index_or}
use Rattle.std.specs.Prelude.{IsTrue}
use Rattle.std.proofs.lemmas.List.{append-nil, map-append}
use Rattle.cc_lists.specs.Members.{Among}
use Rattle.cc_lists.proofs.Members.{Among-filtered}
use Rattle.cc_names.specs.declared.name.Name.{Name}
use Rattle.cc_names.specs.declared.name.Name.TheVariants as name
use Rattle.cc_names.specs.declared.register.Reg.TheVariants.{N}
use Rattle.cc_names.specs.declared.kind.Kind.TheVariants.{Plain, Reflector, Map, Proxy as proxy_kind}
use Rattle.cc_names.specs.Names.{native, object, reflector}
use Rattle.cc_model.specs.declared.command.Command.{Command}
use Rattle.cc_model.specs.Deeds.{Deed, nothing_done, native_made, plain_made, map_made, proxy_made, native_held, script_held, script_copied, native_stored, slot_moved, script_stored, reflector_held, reflector_preserved, entry_written, object_exposed, weak_written, deed_of}
use Rattle.cc_model.specs.Slots.{reflector_slots, contents}
use Rattle.cc_model.specs.Ranges.{in_range}
use Rattle.cc_model.specs.Checks.{slots_at}
use Rattle.cc_model.specs.Entries.{Entry, is_entry_of}
use Rattle.cc_model.specs.Heap.{Heap, HeapScript, Outcome, objects_of, preserve, has_reflector, new_script, delegate_at}
use Rattle.cc_model.specs.Cascade.{take_up, let_go}
use Rattle.cc_model.specs.Exposure.{exposed}
use Rattle.cc_model.specs.Effects.{done_in, effects, touched, taken_out, put_in_register, hold_native, put_in_slot, store_native, move_slot, with_native, make_native, make_object, with_reflector, wrapped, put_in_script, set_entry, make_proxy}
use Rattle.cc_model.specs.WellFormed.{IsWellFormed, script_names, names_there}
use Rattle.cc_laws_heap.specs.Sound.{IsSound, numbers_of}
use Rattle.cc_laws_heap.specs.Freeing.{SameBeside}
use Rattle.cc_laws_heap.proofs.Kept.{script_names-kept}
use Rattle.cc_laws_heap.proofs.CascadeTakesOut.{TakesOut-let_go}
use Rattle.cc_laws_heap.proofs.HoldsTheSame.{HoldsTheSame-take_up}
use Rattle.cc_laws_heap.proofs.Owning.{IsIn, take_up-sound}
use Rattle.cc_laws_heap.proofs.EntryLists.{with_entry-cases}
use Rattle.cc_laws_heap.proofs.ScriptsKept.{ChangesScripts-slot, preserve-scripts, script_names-exposed}
use Rattle.cc_laws_heap.proofs.Holding.{has_reflector-none}
use Rattle.cc_laws_heap.proofs.Taken.{IsTaken}
use Rattle.cc_laws_heap.proofs.Resting.{RestsOn, rests_on}
use Rattle.cc_laws_heap.proofs.MayBeDone.{MayBeDone, may_be_done}
use Rattle.cc_laws_heap.proofs.NativeCommands.{HasSlot, HasSlot-from, HasSlot-take_up, put_in_slot-written}
use Rattle.cc_laws_heap.proofs.Moving.{HasSlot-taken_out, move_slot-is}
use Rattle.cc_laws_heap.proofs.CommandsMarking.{holdings, holdings-read}

-- Names and entries

-- a list has the names of another, and others after them
pub record HasMore (xs ys : List Name) : Type 0 where
  pub more : List Name
  pub whole : ys ≡ xs ++ more
  pub others : (x : Name) → Among x more → ¬ (Among x xs)

-- there may be no others
HasMore-same : (xs ys : List Name) → ys ≡ xs → HasMore xs ys
HasMore-same xs ys e = record { more = []; whole = e ∙ sym (append-nil xs); others = λ x i. absurd i }

-- what an entry that is written has: map, key and value stand in script registers, and the delegate is that of the key
pub record IsNewEntry (h : Heap) (e : Entry) : Type 0 where
  pub the_map : Among e.the_map (contents h.script_registers)
  pub key : Among e.key (contents h.script_registers)
  pub value : Among e.value (contents h.script_registers)
  pub delegate : e.delegate ≡ delegate_at h e.key

-- an entry is one of those before, or it is written
abbrev pub EntriesBut : Heap → List Entry → Type 0
EntriesBut h es = (e : Entry) → Among e es → Among e h.entries ⊎ IsNewEntry h e

-- what is there after a change: the script objects that were, and others after them, and the entries that were, but for written ones
pub record GrowsTo (h g : Heap) : Type 0 where
  pub names : HasMore (script_names h) (script_names g)
  pub entries : EntriesBut h g.entries

-- entries may be as they were
EntriesBut-same : (h g : Heap) → g.entries ≡ h.entries → EntriesBut h g.entries
EntriesBut-same h g e x i = inl (subst (Among x) e i)

-- the same names and the same entries
GrowsTo-same : (h g : Heap) → script_names g ≡ script_names h → g.entries ≡ h.entries → GrowsTo h g
GrowsTo-same h g names entries = record { names = HasMore-same (script_names h) (script_names g) names; entries = EntriesBut-same h g entries }

-- Natives

-- the same script objects and entries
pub record SameObjects (h g : Heap) : Type 0 where
  pub scripts : g.scripts ≡ h.scripts
  pub entries : g.entries ≡ h.entries

-- heaps that are the same but for natives and the buffer have the same script objects and entries
SameObjects-beside : (h g : Heap) → SameBeside h g → SameObjects h g
SameObjects-beside h g b = record { scripts = b.scripts; entries = b.entries }

-- one change after another
SameObjects-trans : (h g f : Heap) → SameObjects h g → SameObjects g f → SameObjects h f
SameObjects-trans h g f s t = record { scripts = t.scripts ∙ s.scripts; entries = t.entries ∙ s.entries }

-- a reference taken
SameObjects-take_up : (h : Heap) (x : Option Name) → SameObjects h (take_up h x)
SameObjects-take_up h x = SameObjects-beside h (take_up h x) (HoldsTheSame-take_up h x).beside

-- a reference given up
SameObjects-let_go : (h : Heap) (x : Option Name) → SameObjects h (let_go h x).heap
SameObjects-let_go h x = SameObjects-beside h (let_go h x).heap (TakesOut-let_go h x).1.beside

-- a native register written
SameObjects-put_in_register : (h : Heap) (d : ℕ) (x : Option Name) → SameObjects h (put_in_register h d x).heap
SameObjects-put_in_register h d x = grind (arith, SameObjects-let_go)

-- a native register written, with the reference taken first
pub SameObjects-hold_native : (h : Heap) (d : ℕ) (x : Option Name) → SameObjects h (hold_native h d x).heap
unfolding hold_native
SameObjects-hold_native h d x = grind (arith, SameObjects-trans, SameObjects-take_up, SameObjects-put_in_register)

-- a slot of a native written
SameObjects-put_in_slot : (h : Heap) (d i : ℕ) (x : Option Name) → HasSlot h d i → SameObjects h (put_in_slot h d i x).heap
SameObjects-put_in_slot h d i x f = grind (arith, SameObjects-let_go, put_in_slot-written)

-- a slot of a native written, with the reference taken first
SameObjects-store_native : (owned : List ℕ) (h : Heap) (d i : ℕ) (x : Option Name) → IsIn (names_there h) x → i < length (slots_at (objects_of h) (N d)) →
    IsSound owned h → SameObjects h (store_native h d i x).heap
unfolding store_native
SameObjects-store_native owned h d i x there room s = SameObjects-trans h (take_up h x) (put_in_slot (take_up h x) d i x).heap (SameObjects-take_up h x)
    (SameObjects-put_in_slot (take_up h x) d i x (HasSlot-take_up (numbers_of x ++ owned) h d i x (take_up-sound owned h x there s) room))

-- a native made
SameObjects-make_native : (h : Heap) (d n : ℕ) → SameObjects h (make_native h d n).heap
unfolding make_native
SameObjects-make_native h d n =
    let k = SameObjects-put_in_register (with_native h n) d (Some (native (h.natives_made + 1))) in
    record { scripts = k.scripts; entries = k.entries }

-- the same script objects and entries are there
GrowsTo-objects : (h g : Heap) → SameObjects h g → GrowsTo h g
GrowsTo-objects h g s = GrowsTo-same h g (ap (λ (os : List HeapScript). map (λ (o : HeapScript). o.name) os) s.scripts) s.entries

-- Script objects

-- the next number is new
next-unknown : (h : Heap) → IsWellFormed h → ¬ (Among (object (h.scripts_made + 1)) (script_names h))
next-unknown h w m = let made : h.scripts_made + 1 ≤ h.scripts_made = (w.object_numbers (h.scripts_made + 1) m).1 in absurd (omega arith)

-- a script object with a new name goes last
GrowsTo-made : (h g : Heap) (o : HeapScript) → ¬ (Among o.name (script_names h)) → g.scripts ≡ h.scripts ++ o ∷ [] → g.entries ≡ h.entries → GrowsTo h g
GrowsTo-made h g o unknown scripts entries = record {
  names = record {
    more = o.name ∷ [];
    whole = ap (λ (os : List HeapScript). map (λ (p : HeapScript). p.name) os) scripts ∙ map-append (λ (p : HeapScript). p.name) h.scripts (o ∷ []);
    others = λ x i m. unknown (⊎_elim (λ e. subst (λ z. Among z (script_names h)) (sym e) m) (λ none. absurd none) i);
  };
  entries = EntriesBut-same h g entries;
}

-- a proxy made
GrowsTo-proxy : (h : Heap) (d : ℕ) (x : Option Name) → IsWellFormed h → GrowsTo h (make_proxy h d x)
GrowsTo-proxy h d None w = GrowsTo-same h h refl refl
GrowsTo-proxy h d (Some (name.Native k)) w = GrowsTo-made h (make_proxy h d (Some (name.Native k)))
    (new_script (object (h.scripts_made + 1)) proxy_kind 0 (Some (name.Native k))) (next-unknown h w) refl refl
GrowsTo-proxy h d (Some (name.Script k)) w = GrowsTo-made h (make_proxy h d (Some (name.Script k)))
    (new_script (object (h.scripts_made + 1)) proxy_kind 0 (Some (name.Script k))) (next-unknown h w) refl refl
GrowsTo-proxy h d (Some (name.Reflector k)) w = GrowsTo-made h (make_proxy h d (Some (name.Reflector k)))
    (new_script (object (h.scripts_made + 1)) proxy_kind 0 (Some (name.Reflector k))) (next-unknown h w) refl refl

-- an exposure leaves entries
exposed-entries : (h : Heap) (x : Option Name) → (exposed h x).entries ≡ h.entries
unfolding exposed
exposed-entries h None = refl
exposed-entries h (Some x) = refl

-- an exposure
GrowsTo-exposed : (h : Heap) (x : Option Name) → IsWellFormed h → GrowsTo h (exposed h x)
GrowsTo-exposed h x w = GrowsTo-same h (exposed h x) (script_names-exposed h x w) (exposed-entries h x)

-- a reflector exposed or made
GrowsTo-wrapped : (h : Heap) (x : Option Name) → IsWellFormed h → GrowsTo h (wrapped h x)
GrowsTo-wrapped h (Some (name.Native k)) w = go (has_reflector h k.0) refl
  where
    go : (b : Bool) → has_reflector h k.0 ≡ b → GrowsTo h (elim b [ true ↦ exposed h (Some (reflector k.0)) | false ↦ with_reflector h k.0 ])
    go true e = GrowsTo-exposed h (Some (reflector k.0)) w
    go false e = GrowsTo-made h (with_reflector h k.0) (new_script (reflector k.0) Reflector reflector_slots None) (has_reflector-none h k.0 e) refl refl
GrowsTo-wrapped h None w = GrowsTo-same h h refl refl
GrowsTo-wrapped h (Some (name.Script k)) w = GrowsTo-same h h refl refl
GrowsTo-wrapped h (Some (name.Reflector k)) w = GrowsTo-same h h refl refl

-- a slot of a script object written
GrowsTo-slot : (h : Heap) (x : Option Name) (i : ℕ) (y : Option Name) → IsWellFormed h → IsIn (script_names h) y → GrowsTo h (put_in_script h x i y)
GrowsTo-slot h None i y w there = GrowsTo-same h h refl refl
GrowsTo-slot h (Some (name.Native k)) i y w there = GrowsTo-same h (put_in_script h (Some (name.Native k)) i y) refl refl
GrowsTo-slot h (Some (name.Script k)) i y w there = GrowsTo-same h (put_in_script h (Some (name.Script k)) i y)
    (script_names-kept h _ (ChangesScripts-slot h (object k.0) i y w there)) refl
GrowsTo-slot h (Some (name.Reflector k)) i y w there = GrowsTo-same h (put_in_script h (Some (name.Reflector k)) i y)
    (script_names-kept h _ (ChangesScripts-slot h (reflector k.0) i y w there)) refl

-- a reflector preserved leaves entries
preserve-entries : (h : Heap) (x : Option Name) → (preserve h x).entries ≡ h.entries
preserve-entries h None = refl
preserve-entries h (Some (name.Native k)) = refl
preserve-entries h (Some (name.Script k)) = refl
preserve-entries h (Some (name.Reflector k)) = refl

-- a reflector preserved leaves the names of script objects
preserve-names : (h : Heap) (x : Option Name) → script_names (preserve h x) ≡ script_names h
preserve-names h x = ap (λ (os : List HeapScript). map (λ (o : HeapScript). o.name) os) (preserve-scripts h x)

-- an entry set or taken out
GrowsTo-entry : (h : Heap) (m k v : Option Name) → IsIn (contents h.script_registers) m → IsIn (contents h.script_registers) k →
    IsIn (contents h.script_registers) v → GrowsTo h (set_entry h m k v)
GrowsTo-entry h None k v a b c = GrowsTo-same h h refl refl
GrowsTo-entry h (Some m) None v a b c = GrowsTo-same h h refl refl
GrowsTo-entry h (Some m) (Some k) None a b c = record {
  names = HasMore-same (script_names h) (script_names h) refl;
  entries = λ e i. inl (Among-filtered (λ f. not (is_entry_of m k f)) e h.entries i);
}
GrowsTo-entry h (Some m) (Some k) (Some v) a b c = record {
  names = HasMore-same (script_names h) (script_names (preserve h (Some k))) (preserve-names h (Some k));
  entries = λ e i. ⊎_elim
      (λ is. inr (subst (IsNewEntry h) is (record { the_map = a m (inl refl); key = b k (inl refl); value = c v (inl refl); delegate = refl })))
      (λ old. inl old)
      (with_entry-cases h.entries m k (delegate_at h k) v e i);
}

-- A move

-- what is touched leaves entries
touched-entries : (h : Heap) (x : Option Name) → (touched h x).entries ≡ h.entries
touched-entries h None = refl
touched-entries h (Some (name.Native k)) = refl
touched-entries h (Some (name.Script k)) = exposed-entries h (Some (object k.0))
touched-entries h (Some (name.Reflector k)) = exposed-entries h (Some (reflector k.0))

-- what is touched leaves the names of script objects
touched-names : (h : Heap) (x : Option Name) → IsWellFormed h → script_names (touched h x) ≡ script_names h
touched-names h None w = refl
touched-names h (Some (name.Native k)) w = refl
touched-names h (Some (name.Script k)) w = script_names-exposed h (Some (object k.0)) w
touched-names h (Some (name.Reflector k)) w = script_names-exposed h (Some (reflector k.0)) w

-- what a slot of a native holds moved into another
GrowsTo-move : (h : Heap) (d i s j : ℕ) → IsWellFormed h → i < length (slots_at (objects_of h) (N d)) → j < length (slots_at (objects_of h) (N s)) →
    GrowsTo h (move_slot h d i s j).heap
GrowsTo-move h d i s j w to from =
    let f = HasSlot-from h s j w from in
    let x : Option Name = slice_index_or f.there.slots j None in
    let left : Heap = taken_out h (Some (native f.number)) j x in
    let same = SameObjects-put_in_slot left d i x (HasSlot-taken_out h f.number j x d i (HasSlot-from h d i w to)) in
    subst (λ (o : Outcome). GrowsTo h o.heap) (sym (move_slot-is h d i s j f))
    (GrowsTo-same h (put_in_slot left d i x).heap
    (ap (λ (os : List HeapScript). map (λ (o : HeapScript). o.name) os) same.scripts ∙ touched-names h x w)
    (same.entries ∙ touched-entries h x))

-- WHAT IS THERE AFTER A DEED.
pub done_in-grows : {owned : List ℕ} (h : Heap) (d : Deed) → IsSound owned h → MayBeDone h d → RestsOn (holdings h) (objects_of h) d → GrowsTo h (done_in h d).heap
unfolding done_in
done_in-grows h nothing_done s m r = GrowsTo-same h h refl refl
done_in-grows h (native_made d n) s m r = GrowsTo-objects h (make_native h d n).heap (SameObjects-make_native h d n)
done_in-grows h (plain_made d n) s m r = GrowsTo-made h (make_object h d Plain n None) (new_script (object (h.scripts_made + 1)) Plain n None)
    (next-unknown h s.well_formed) refl refl
done_in-grows h (map_made d) s m r = GrowsTo-made h (make_object h d Map 0 None) (new_script (object (h.scripts_made + 1)) Map 0 None)
    (next-unknown h s.well_formed) refl refl
done_in-grows h (proxy_made d x) s m r = GrowsTo-proxy h d x s.well_formed
done_in-grows h (native_held d x) s m r = GrowsTo-objects h (hold_native h d x).heap (SameObjects-hold_native h d x)
done_in-grows h (script_held d x) s m r = let g = GrowsTo-exposed h x s.well_formed in record { names = g.names; entries = g.entries }
done_in-grows h (script_copied d x) s m r = let g = GrowsTo-same h h refl refl in record { names = g.names; entries = g.entries }
done_in-grows {owned} h (native_stored d i x) s m r = GrowsTo-objects h (store_native h d i x).heap (SameObjects-store_native owned h d i x m.0.there m.1 s)
done_in-grows h (slot_moved d i q j) s m r = GrowsTo-move h d i q j s.well_formed m.0 m.1
done_in-grows h (script_stored x i y) s m r = GrowsTo-slot h x i y s.well_formed m.1.there
done_in-grows h (reflector_held d x) s m r = let g = GrowsTo-wrapped h x s.well_formed in record { names = g.names; entries = g.entries }
done_in-grows h (reflector_preserved x) s m r = GrowsTo-same h (preserve h x) (preserve-names h x) (preserve-entries h x)
done_in-grows h (entry_written t k v) s m r = GrowsTo-entry h t k v r.the_map r.key r.value
done_in-grows h (object_exposed x) s m r = GrowsTo-exposed h x s.well_formed
done_in-grows h (weak_written w x) s m r = GrowsTo-same h h refl refl

-- WHAT IS THERE AFTER A COMMAND that is not refused.
pub effects-grow : {owned : List ℕ} (h : Heap) (c : Command) → IsSound owned h → IsTrue (in_range c) → IsTaken (objects_of h) c → GrowsTo h (effects h c).heap
unfolding effects
effects-grow h c s r t =
    let d : Deed = deed_of (objects_of h) c in
    done_in-grows h d s (may_be_done h c s r t) (rests_on (holdings h) (objects_of h) (holdings-read h s.well_formed) c r t)
