-- WHAT COMMANDS READ IS HELD BY REGISTERS: what these hold, what slots of that hold, values of such maps and keys, natives and
-- reflectors behind it. So it is none of names that no register has and that only such names hold.
use Rattle.std.proofs.Common.{◌≡◌, ℕ, Bool, true, false, List, [], ◌∷◌, map, Option, Some, None, refl, sym, ap, subst, inl, inr, ◌⊎◌, ⊎_elim, option_map, slice_index_or}
use Rattle.std.specs.Option.{option_to_list, option_and_then}
use Rattle.std.proofs.lemmas.Bool.{and_parts}
use Rattle.cc_lists.specs.Members.{Among}
use Rattle.cc_lists.proofs.Least.{derived-within}
use Rattle.cc_lists.proofs.Members.{Among-left, Among-map_cases, Among-right}
use Rattle.cc_lists.proofs.Filtering.{find-among, find-passes}
use Rattle.cc_names.specs.declared.name.Name.{Name}
use Rattle.cc_names.specs.declared.name.Name.TheVariants as name
use Rattle.cc_names.specs.declared.register.Reg.{Reg}
use Rattle.cc_names.specs.declared.register.Reg.TheVariants.{N, S, W}
use Rattle.cc_names.specs.declared.kind.Kind.{Kind}
use Rattle.cc_names.specs.declared.kind.Kind.TheVariants.{Map}
use Rattle.cc_names.specs.Names.{native, object, reflector, same_name}
use Rattle.cc_names.proofs.NameTests.{same_name-true}
use Rattle.cc_model.specs.Slots.{contents}
use Rattle.cc_model.specs.Entries.{Entry, is_entry_of, value_in, Joint, joints, joint, rule_of, rules_of}
use Rattle.cc_model.specs.Checks.{slots_or_none, slot_at, value_at, native_of, reflector_of}
use Rattle.cc_model.specs.declared.command.Command.{Command}
use Rattle.cc_model.specs.declared.command.Command.TheVariants.{Drop, Get, SetEntry}
use Rattle.cc_model.specs.Deeds.{Deed, entry_written, deed_of}
use Rattle.cc_model.specs.Heap.{Heap, HeapNative, HeapScript, native_at, script_at, slots_in, slots_of_script, slots_of_kind, register, objects_of}
use Rattle.cc_model.specs.View.{view, ReachedIn}
use Rattle.cc_model.specs.WellFormed.{IsWellFormed}
use Rattle.cc_model.proofs.Places.{slot-place}
use Rattle.cc_model.proofs.Joints.{value-joint}
use Rattle.cc_laws_heap.proofs.Natives.{native_at-there, native_at-number}
use Rattle.cc_laws_heap.proofs.Writes.{contents-at}
use Rattle.cc_laws_heap.proofs.Holding.{script_register-there}
use Rattle.cc_laws_heap.proofs.Coloured.{edge-from_script_place}
use Rattle.cc_laws_heap.proofs.Naming.{EachNamed, deed-named}
use Rattle.cc_laws_run.specs.Doomed.{KeepsReflectors}
use Rattle.cc_laws_snapshot.proofs.Handing.{edge-from_slot, edge-from_reflector}
use Rattle.cc_laws_run.proofs.TouchedParts.{IsUntouched}

-- the value of a map and a key is that of their entry
pub value_in-entry : (es : List Entry) (m k y : Name) → Among y (option_to_list (value_in es m k)) →
    (e : Entry) × Among e es × (e.the_map ≡ m) × (e.key ≡ k) × (e.value ≡ y)
value_in-entry [] m k y i = absurd i
value_in-entry (e ∷ es) m k y i = go (value_in-entry es m k y) (is_entry_of m k e) refl i
  where
    go : (Among y (option_to_list (value_in es m k)) → (f : Entry) × Among f es × (f.the_map ≡ m) × (f.key ≡ k) × (f.value ≡ y)) →
        (t : Bool) → is_entry_of m k e ≡ t → Among y (option_to_list (elim t [ true ↦ Some e.value | false ↦ value_in es m k ])) →
        (f : Entry) × Among f (e ∷ es) × (f.the_map ≡ m) × (f.key ≡ k) × (f.value ≡ y)
    go ih true t j =
        let both = and_parts (same_name e.the_map m) (same_name e.key k) t in
        (e, inl refl, same_name-true e.the_map m both.0, same_name-true e.key k both.1, ⊎_elim (λ s. s) (λ n. absurd n) j)
    go ih false t j = let f = ih j in (f.0, inr f.1, f.2, f.3, f.4)

-- no register has one of the names, and only such names hold them
pub record IsApart (ds : List Name) (h : Heap) : Type 0 where
  pub unregistered : (x : Name) → Among x ds → ¬ (Among x (view h).registers)
  pub holder : (x y : Name) → Among (x, y) (view h).edges → Among y ds → Among x ds
  pub joint : (e : Joint) → Among e (joints h.entries) → Among e.value ds → Among e.the_map ds ⊎ Among e.key ds

module _ (ds : List Name) (h : Heap) (d : IsApart ds h) where
  -- what is reached is no member
  pub reached-untouched : (x : Name) → ReachedIn (view h) x → ¬ (Among x ds)
  reached-untouched = derived-within (view h).registers (view h).edges (rules_of (joints h.entries)) (λ x. ¬ (Among x ds))
      (λ x m i. d.unregistered x i m)
      (λ x y m out i. out (d.holder x y m i))
      (λ ps y m out i.
      let c = Among-map_cases rule_of (joints h.entries) (ps, y) m in
      let given : c.0.value ≡ y = ap (λ (r : List Name × Name). r.1) c.2 in
      let asked : c.0.the_map ∷ c.0.key ∷ [] ≡ ps = ap (λ (r : List Name × Name). r.0) c.2 in
      ⊎_elim
      (λ l. out c.0.the_map (subst (Among c.0.the_map) asked (inl refl)) l)
      (λ r. out c.0.key (subst (Among c.0.key) asked (inr (inl refl))) r)
      (d.joint c.0 c.1 (subst (λ z. Among z ds) (sym given) i)))

  -- what a register holds is no member
  pub register-untouched : (r : Reg) → IsUntouched ds (register h r)
  register-untouched (N r) y m i = d.unregistered y i (Among-left y (contents h.native_registers) (contents h.script_registers) (contents-at h.native_registers r y m))
  register-untouched (S r) y m i = d.unregistered y i (Among-right y (contents h.native_registers) (contents h.script_registers) (contents-at h.script_registers r y m))
  register-untouched (W r) y m i = contents-at [] r y m

  -- a script object that has a member in a slot is one
  found-holder : (x : Name) → (o : Option HeapScript) → script_at h x ≡ o → (y : Name) →
      Among y (contents (slots_or_none (option_and_then slots_of_script o))) → Among y ds → Among x ds
  found-holder x None e y i m = absurd i
  found-holder x (Some o) e y i m = go o.kind i
    where
      there : Among y (contents o.slots) → Among x ds
      there j = subst (λ z. Among z ds) (same_name-true o.name x (find-passes (λ p. same_name p.name x) h.scripts o e))
          (d.holder o.name y (edge-from_script_place h o y (find-among (λ p. same_name p.name x) h.scripts o e) (slot-place o y j)) m)

      go : (kind : Kind) → Among y (contents (slots_or_none (slots_of_kind kind o.slots))) → Among x ds
      go Map j = absurd j
      go _ j = there j

  -- any object that has a member in a slot is one
  pub slots_in-holder : (x y : Name) → Among y (contents (slots_or_none (slots_in h x))) → Among y ds → Among x ds
  slots_in-holder (name.Native k) y i m = go (native_at h k.0) refl i
    where
      go : (o : Option HeapNative) → native_at h k.0 ≡ o → Among y (contents (slots_or_none (option_map (λ n. n.slots) o))) → Among (native k.0) ds
      go None e j = absurd j
      go (Some n) e j = subst (λ c. Among (native c) ds) (native_at-number h k.0 n e)
          (d.holder (native n.number) y (edge-from_slot h n y (native_at-there h k.0 n e) j) m)
  slots_in-holder (name.Script k) y i m = found-holder (object k.0) (script_at h (object k.0)) refl y i m
  slots_in-holder (name.Reflector k) y i m = found-holder (reflector k.0) (script_at h (reflector k.0)) refl y i m

  -- what a slot of what is no member holds is none
  pub slot_of-untouched : (x : Option Name) (i : ℕ) → IsUntouched ds x → IsUntouched ds (slice_index_or (slots_or_none (option_and_then (slots_in h) x)) i None)
  slot_of-untouched None i none y m j = m
  slot_of-untouched (Some x) i none y m j = none x (inl refl) (slots_in-holder x y (contents-at (slots_or_none (slots_in h x)) i y m) j)

  -- what a slot of what a register holds holds is no member
  pub slot_at-untouched : (r : Reg) (i : ℕ) → IsUntouched ds (slot_at (objects_of h) r i)
  slot_at-untouched r i = slot_of-untouched (register h r) i (register-untouched r)

  -- the value of a map and a key that are no members is none
  pub value_at-untouched : (m k : Option Name) → IsUntouched ds m → IsUntouched ds k → IsUntouched ds (value_at (objects_of h) m k)
  value_at-untouched (Some m) (Some k) a b y i j =
      let f = value_in-entry h.entries m k y i in
      ⊎_elim
      (λ t. a m (inl refl) (subst (λ z. Among z ds) f.2 t))
      (λ t. b k (inl refl) (subst (λ z. Among z ds) f.3 t))
      (d.joint (joint f.0.the_map f.0.key f.0.value) (value-joint h.entries f.0 f.1) (subst (λ z. Among z ds) (sym f.4) j))
  value_at-untouched _ _ a b y i j = i

  -- the native of a reflector that is no member is none
  pub behind-untouched : (x : Option Name) → IsUntouched ds x → ((y : Name) → Among y (option_to_list x) → Among y (map (λ (o : HeapScript). o.name) h.scripts)) →
      IsUntouched ds (native_of x)
  behind-untouched (Some (name.Reflector k)) none there y m i = ⊎_elim
      (λ e. none (reflector k.0) (inl refl) (d.holder (reflector k.0) (native k.0) (edge-from_reflector h k.0 (there (reflector k.0) (inl refl)))
      (subst (λ z. Among z ds) (sym e) i)))
      (λ b. b) m
  behind-untouched _ none there y m i = m

  -- the native of the reflector that a script register holds is no member
  pub native_of-untouched : (r : ℕ) → IsWellFormed h → IsUntouched ds (native_of (register h (S r)))
  native_of-untouched r w = behind-untouched (register h (S r)) (register-untouched (S r)) (script_register-there h r w)

-- the reflector of a native that is no member is none
pub reflector_of-untouched : (ds : List Name) (x : Option Name) → KeepsReflectors ds → IsUntouched ds x → IsUntouched ds (reflector_of x)
reflector_of-untouched ds (Some (name.Native k)) keeps none y m i = ⊎_elim
    (λ e. none (native k.0) (inl refl) (keeps k.0 (subst (λ z. Among z ds) (sym e) i)))
    (λ b. b) m
reflector_of-untouched ds _ keeps none y m i = m

-- What a command comes to names no member.
pub deed-untouched : (ds : List Name) (h : Heap) → IsApart ds h → IsWellFormed h → (c : Command) → EachNamed (IsUntouched ds) (deed_of (objects_of h) c)
deed-untouched ds h d w = deed-named (IsUntouched ds) (objects_of h) (record {
  nothing = λ y m i. m;
  register = register-untouched ds h d;
  slot = slot_at-untouched ds h d;
  value = λ m k. value_at-untouched ds h d (register h (S m)) (register h (S k)) (register-untouched ds h d (S m)) (register-untouched ds h d (S k));
  behind = λ r. native_of-untouched ds h d r w;
})

-- what a deed writes an entry of: its map
abbrev pub NamesMap : (Option Name → Type 0) → Deed → Type 0
NamesMap P (entry_written m k v) = P m
NamesMap P d = Unit {0}

-- It is no member either.
pub map-untouched : (ds : List Name) (h : Heap) → IsApart ds h → (c : Command) → NamesMap (IsUntouched ds) (deed_of (objects_of h) c)
unfolding deed_of
map-untouched ds h d (SetEntry m k v) = register-untouched ds h d (S m)
map-untouched ds h d (Drop (N r)) = tt
map-untouched ds h d (Drop (S r)) = tt
map-untouched ds h d (Drop (W r)) = tt
map-untouched ds h d (Get (N r) s i) = tt
map-untouched ds h d (Get (S r) s i) = tt
map-untouched ds h d (Get (W r) s i) = tt
map-untouched ds h d c = tt
