-- WHAT COMMANDS READ FROM SLOTS AND ENTRIES, and so expose, is nothing that can't be marked; but a native that they wrap may have such
-- a reflector.
use Rattle.std.proofs.Common.{arith, ◌≡◌, ℕ, true, List, [], ◌∷◌, Option, Some, None, refl, sym, subst, inl, ⊎_elim, slice_index_or, option_to_list, option_map}
use Rattle.std.specs.Option.{option_and_then}
use Rattle.std.proofs.lemmas.Bool.{false≢true}
use Rattle.cc_lists.specs.Members.{Among}
use Rattle.cc_lists.proofs.Members.{Among-map, Among-map_cases, Among-flat_map}
use Rattle.cc_lists.proofs.Filtering.{find-among, find-passes}
use Rattle.cc_names.specs.declared.name.Name.{Name}
use Rattle.cc_names.specs.declared.name.Name.TheVariants as name
use Rattle.cc_names.specs.declared.register.Reg.{Reg}
use Rattle.cc_names.specs.declared.register.Reg.TheVariants.{N, S, W}
use Rattle.cc_names.specs.declared.kind.Kind.{Kind}
use Rattle.cc_names.specs.declared.kind.Kind.TheVariants.{Map}
use Rattle.cc_names.specs.Names.{native, object, reflector, same_name, is_script}
use Rattle.cc_names.proofs.NameTests.{same_name-true}
use Rattle.cc_model.specs.declared.command.Command.{Command}
use Rattle.cc_model.specs.declared.command.Command.TheVariants.{Drop, Get, Move, Take, Wrap, GetEntry, Expose}
use Rattle.cc_model.specs.Deeds.{Deed, reflector_held, deed_of}
use Rattle.cc_model.specs.Slots.{contents, from_to}
use Rattle.cc_model.specs.Checks.{slot_at, value_at, slots_or_none}
use Rattle.cc_model.specs.Entries.{Entry, value_in, joint, joints, is_entry_of}
use Rattle.cc_model.proofs.Joints.{value-joint}
use Rattle.cc_model.proofs.Places.{slot-place}
use Rattle.cc_model.specs.Heap.{Heap, HeapNative, HeapScript, register, native_at, script_at, slots_in, slots_of_kind, slots_of_script, objects_of}
use Rattle.cc_model.specs.View.{script_slot_edges}
use Rattle.cc_model.specs.Places.{script_places_of}
use Rattle.cc_model.specs.Colours.{scripts_held_by}
use Rattle.cc_model.specs.WellFormed.{IsWellFormed, script_names}
use Rattle.cc_model.specs.Marking.{NewMarks, exposed_by}
use Rattle.cc_laws_heap.specs.UnderMarking.{IsUnderMarking}
use Rattle.cc_laws_heap.proofs.Natives.{native_at-there}
use Rattle.cc_laws_heap.proofs.Writes.{contents-at}
use Rattle.cc_laws_heap.proofs.EntryLists.{is_entry_of-parts}
use Rattle.cc_laws_heap.proofs.ScriptNames.{script_names-named}
use Rattle.cc_laws_heap.proofs.Holding.{native_register-there}
use Rattle.cc_laws_heap.proofs.NativesHold.{held_by-slot}
use Rattle.cc_laws_marking.specs.Unmarkable.{IsUnmarkable, wrapped_by}

-- an entry leads from its map and its key to its value, by these names
entry-joint : (es : List Entry) (e : Entry) (m k y : Name) → Among e es → e.the_map ≡ m → e.key ≡ k → e.value ≡ y → Among (joint m k y) (joints es)
entry-joint es e m k y i a b c =
    subst (λ z. Among (joint z k y) (joints es)) a
    (subst (λ z. Among (joint e.the_map z y) (joints es)) b
    (subst (λ z. Among (joint e.the_map e.key z) (joints es)) c (value-joint es e i)))

-- the value of a map and a key is that of one of their entries
value-found : (es : List Entry) (m k y : Name) → Among y (option_to_list (value_in es m k)) →
    (e : Entry) × Among e es × (is_entry_of m k e ≡ true) × (e.value ≡ y)
value-found [] m k y i = absurd i
value-found (e ∷ es) m k y i = grind (arith, value-found es m k y)

-- a map and a key lead to the value that is found
value-entry : (es : List Entry) (m k y : Name) → Among y (option_to_list (value_in es m k)) → Among (joint m k y) (joints es)
value-entry es m k y i =
    let e = value-found es m k y i in
    let p = is_entry_of-parts m k e.0 e.2 in
    entry-joint es e.0 m k y e.1 p.0 p.1 e.3

module _ (h : Heap) (m : NewMarks) (them : List Name) (well : IsWellFormed h) (u : IsUnderMarking h m) (w : IsUnmarkable h m them) where
  -- each of them is there
  pub them-there : (x : Name) → Among x them → Among x (script_names h)
  them-there x i = u.there x (u.within x (w.unmarked x i))

  -- none of them is what a register or a slot holds
  abbrev pub IsNoneOf : Option Name → Type 0
  IsNoneOf o = (x : Name) → Among x (option_to_list o) → ¬ (Among x them)

  -- what slots of a native hold is none of them
  native-slots : (n : HeapNative) → Among n h.natives → (x : Name) → Among x (contents n.slots) → ¬ (Among x them)
  native-slots n there x i t = w.held x t (Among-flat_map scripts_held_by n x h.natives there
      (held_by-slot n x (script_names-named h well x (them-there x t)) i))

  -- what slots of a script object that is none of them hold is none of them
  script-slots : (o : HeapScript) → Among o h.scripts → ¬ (Among o.name them) → (x : Name) → Among x (contents (slots_or_none (slots_of_script o))) → ¬ (Among x them)
  script-slots o there other x i t = go o.kind i
    where
      held : Among x (contents o.slots) → ⊥
      held j = other (w.holders o.name x (Among-flat_map script_slot_edges o (from_to o.name x) h.scripts there
          (Among-map (from_to o.name) x (contents (script_places_of o)) (slot-place o x j))) t)

      go : (kind : Kind) → Among x (contents (slots_or_none (slots_of_kind kind o.slots))) → ⊥
      go Map j = absurd j
      go _ j = held j

  -- what slots of a script object that is found by its name hold is none of them, where it is none of them
  found-slots : (z : Name) → ¬ (Among z them) → (o : Option HeapScript) → script_at h z ≡ o → (x : Name) →
      Among x (contents (slots_or_none (option_and_then slots_of_script o))) → ¬ (Among x them)
  found-slots z other None e x i = absurd i
  found-slots z other (Some o) e x i =
      let named : o.name ≡ z = same_name-true o.name z (find-passes (λ p. same_name p.name z) h.scripts o e) in
      script-slots o (find-among (λ p. same_name p.name z) h.scripts o e) (λ t. other (subst (λ y. Among y them) named t)) x i

  -- what slots of an object that is none of them hold is none of them
  object-slots : (z : Name) → ¬ (Among z them) → (x : Name) → Among x (contents (slots_or_none (slots_in h z))) → ¬ (Among x them)
  object-slots (name.Native k) other x i = go (native_at h k.0) refl i
    where
      go : (o : Option HeapNative) → native_at h k.0 ≡ o → Among x (contents (slots_or_none (option_map (λ n. n.slots) o))) → ¬ (Among x them)
      go None e j = absurd j
      go (Some n) e j = native-slots n (native_at-there h k.0 n e) x j
  object-slots (name.Script k) other x i = found-slots (object k.0) other (script_at h (object k.0)) refl x i
  object-slots (name.Reflector k) other x i = found-slots (reflector k.0) other (script_at h (reflector k.0)) refl x i

  -- what a native register holds is none of them
  native_register-other : (d : ℕ) → IsNoneOf (register h (N d))
  native_register-other d x i t =
      let f = Among-map_cases (λ (n : HeapNative). native n.number) h.natives x (native_register-there h d well x i) in
      false≢true (subst (λ z. is_script z ≡ true) (sym f.2) (script_names-named h well x (them-there x t)))

  -- what a script register holds is none of them
  script_register-other : (d : ℕ) → IsNoneOf (register h (S d))
  script_register-other d x i t = w.registers x t (contents-at h.script_registers d x i)

  -- what a slot of what is none of them holds is none of them
  slot-other : (r : Reg) (i : ℕ) → IsNoneOf (register h r) → IsNoneOf (slot_at (objects_of h) r i)
  slot-other r i = go (register h r)
    where
      go : (o : Option Name) → IsNoneOf o → IsNoneOf (slice_index_or (slots_or_none (option_and_then (slots_in h) o)) i None)
      go None other = λ x j. absurd j
      go (Some z) other = λ x j. object-slots z (other z (inl refl)) x (contents-at (slots_or_none (slots_in h z)) i x j)

  -- the value of a map and a key that are none of them is none of them
  value-other : (a b : Option Name) → IsNoneOf a → IsNoneOf b → IsNoneOf (value_at (objects_of h) a b)
  value-other (Some a) (Some b) p q x i t = ⊎_elim (p a (inl refl)) (q b (inl refl)) (w.members (joint a b x) (value-entry h.entries a b x i) t)
  value-other (Some a) None p q x i t = absurd i
  value-other None b p q x i t = absurd i

  -- WHAT A COMMAND EXPOSES IS NONE OF THEM, but for the reflector of a native that it wraps.
  pub exposed-wrapped : (c : Command) (x : Name) → Among x (option_to_list (exposed_by h (deed_of (objects_of h) c))) → Among x them →
      Among x (wrapped_by (deed_of (objects_of h) c))
  unfolding deed_of
  exposed-wrapped (Drop (N d)) x i t = absurd i
  exposed-wrapped (Drop (S d)) x i t = absurd i
  exposed-wrapped (Drop (W d)) x i t = absurd i
  exposed-wrapped (Get (N d) s j) x i t = absurd i
  exposed-wrapped (Get (S d) s j) x i t = absurd (slot-other (N s) j (native_register-other s) x i t)
  exposed-wrapped (Get (W d) s j) x i t = absurd i
  exposed-wrapped (Move d j s k) x i t = absurd (slot-other (N s) k (native_register-other s) x i t)
  exposed-wrapped (Take d s j) x i t = absurd (slot-other (S s) j (script_register-other s) x i t)
  exposed-wrapped (Wrap d s) x i t = i
  exposed-wrapped (GetEntry d a b) x i t = absurd (value-other (register h (S a)) (register h (S b)) (script_register-other a) (script_register-other b) x i t)
  exposed-wrapped (Expose s j) x i t = absurd (slot-other (N s) j (native_register-other s) x i t)
  exposed-wrapped c x i t = grind arith

  -- the reflector of a native that is wrapped is exposed
  pub wrapped-exposed : (c : Command) (x : Name) → Among x (wrapped_by (deed_of (objects_of h) c)) → Among x (option_to_list (exposed_by h (deed_of (objects_of h) c)))
  wrapped-exposed c x i = go (deed_of (objects_of h) c) i
    where
      go : (d : Deed) → Among x (wrapped_by d) → Among x (option_to_list (exposed_by h d))
      go (reflector_held d y) j = j
      go _ j = absurd j
