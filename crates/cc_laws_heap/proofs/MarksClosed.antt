-- WHAT STAYS IN A SWEEP, where the marks are closed: what natives hold, and what is held by what stays.
use Rattle.std.proofs.Common.{arith, ◌≡◌, Bool, true, false, [], ◌∷◌, Some, refl, sym, subst}
use Rattle.cc_lists.specs.Members.{Among}
use Rattle.cc_lists.proofs.Members.{Among-map, Among-left, Among-right, Among-filter, Among-flat_map}
use Rattle.cc_names.specs.declared.name.Name.{Name}
use Rattle.cc_names.specs.Names.{native, reflector, is_script}
use Rattle.cc_model.specs.Slots.{contents, from_to}
use Rattle.cc_model.specs.Entries.{Entry, joint}
use Rattle.cc_model.proofs.Joints.{value-joint, delegate-joint}
use Rattle.cc_model.specs.Heap.{Heap, HeapNative, HeapScript}
use Rattle.cc_model.specs.Places.{places_of_native, script_places_of}
use Rattle.cc_model.specs.View.{slot_edges, native_edges}
use Rattle.cc_model.proofs.Places.{preserved_edge, native_edges-split, slot-place, delegate-place, targets-native}
use Rattle.cc_model.specs.Colours.{scripts_held_by}
use Rattle.cc_laws_heap.specs.Marks.{Stays, AreMarksClosed}
use Rattle.cc_laws_heap.proofs.Led.{place-edge}

module _ (h : Heap) (c : AreMarksClosed h) where
  -- what a script object that stays has in a place over which marking goes
  pub stays-place : (o : HeapScript) (x : Name) → Among o h.scripts → Among x (contents (script_places_of o)) → Stays h o.name → Stays h x
  stays-place o x m i s = c.edges o.name x (place-edge h o x m i) s

  -- what it has in a slot
  pub stays-slot : (o : HeapScript) (x : Name) → Among o h.scripts → Among x (contents o.slots) → Stays h o.name → Stays h x
  stays-slot o x m i = stays-place o x m (slot-place o x i)

  -- its delegate
  pub stays-delegate : (o : HeapScript) (x : Name) → Among o h.scripts → o.delegate ≡ Some x → Stays h o.name → Stays h x
  stays-delegate o x m e = stays-place o x m (delegate-place o x e)

  -- the value of an entry whose map and key stay
  pub stays-value : (e : Entry) → Among e h.entries → Stays h e.the_map → Stays h e.key → Stays h e.value
  stays-value e m a b = c.joints (joint e.the_map e.key e.value) (value-joint h.entries e m) a b

  -- a proxy whose delegate stays, where it is the key of an entry of a map that stays
  pub stays-key : (e : Entry) (d : Name) → Among e h.entries → e.delegate ≡ Some d → Stays h e.the_map → Stays h d → Stays h e.key
  stays-key e d m is a b = c.joints (joint e.the_map d e.key) (delegate-joint h.entries e d m is) a b

  -- a script object to which a native refers
  pub stays-held : (n : HeapNative) (x : Name) → Among n h.natives → Among (native n.number, x) (native_edges n) → is_script x ≡ true → Stays h x
  stays-held n x m i s = c.held x
      (Among-flat_map scripts_held_by n x h.natives m
      (Among-filter is_script x (contents (places_of_native n))
      (subst (Among x) (targets-native n) (Among-map (λ (e : Name × Name). e.1) (native n.number, x) (native_edges n) i)) s))

  -- one in a native's slot
  pub stays-native_slot : (n : HeapNative) (x : Name) → Among n h.natives → Among x (contents n.slots) → is_script x ≡ true → Stays h x
  stays-native_slot n x m i s = stays-held n x m
      (subst (Among (native n.number, x)) (sym (native_edges-split n))
      (Among-left (native n.number, x) (slot_edges (native n.number) n.slots) (preserved_edge n) (Among-map (from_to (native n.number)) x (contents n.slots) i))) s

  -- a preserved reflector
  pub stays-preserved : (n : HeapNative) → Among n h.natives → n.preserved ≡ true → Stays h (reflector n.number)
  stays-preserved n m e = stays-held n (reflector n.number) m
      (subst (Among edge) (sym (native_edges-split n)) (Among-right edge (slot_edges (native n.number) n.slots) (preserved_edge n) (by_flag n.preserved e))) refl
    where
      edge : Name × Name
      edge = from_to (native n.number) (reflector n.number)

      by_flag : (b : Bool) → b ≡ true → Among edge (elim b [ true ↦ edge ∷ [] | false ↦ [] ])
      by_flag b f = grind arith
