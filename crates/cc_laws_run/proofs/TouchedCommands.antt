-- COMMANDS LEAVE NAMES ALONE that are apart, in each of their parts, and so what is doomed stays so.
use Rattle.std.proofs.Common.{◌≡◌, ℕ, ◌+◌, ◌≤◌, Bool, true, false, not, List, [], ◌∷◌, ◌++◌, Option, Some, None, refl, sym, ap, subst, inl, ⊎_elim, arith, option_to_list, ◌⊎◌, inr}
use Rattle.std.proofs.lemmas.Bool.{false≢true, cases_Bool}
use Rattle.cc_lists.specs.Members.{Among, has}
use Rattle.cc_lists.proofs.Members.{Among-append, Among-filter, Among-filtered, has-among}
use Rattle.cc_lists.proofs.Least.{derived-within}
use Rattle.cc_lists.proofs.Closure.{closure-derived}
use Rattle.cc_names.specs.declared.name.Name.{Name}
use Rattle.cc_names.specs.declared.name.Name.TheVariants as name
use Rattle.cc_names.specs.declared.register.Reg.{Reg}
use Rattle.cc_names.specs.declared.register.Reg.TheVariants.{N, S, W}
use Rattle.cc_names.specs.declared.kind.Kind.{Kind}
use Rattle.cc_names.specs.declared.kind.Kind.TheVariants.{Plain, Reflector, Map, Proxy as proxy_kind}
use Rattle.cc_names.specs.Names.{native, object, reflector, same_name}
use Rattle.cc_names.proofs.NameTests.{same_name-exact}
use Rattle.cc_model.specs.declared.command.Command.{Command}
use Rattle.cc_model.specs.Deeds.{Deed, nothing_done, native_made, plain_made, map_made, proxy_made, native_held, script_held, script_copied, native_stored, slot_moved, script_stored, reflector_held, reflector_preserved, entry_written, object_exposed, weak_written, deed_of}
use Rattle.cc_model.specs.Slots.{reflector_slots}
use Rattle.cc_model.specs.Entries.{Entry, is_entry_of, with_entry, without_entry, Joint, joint, joints, entry}
use Rattle.cc_model.specs.Checks.{slot_at, native_of, reflector_of}
use Rattle.cc_model.specs.Heap.{Heap, HeapNative, HeapScript, change_native, change_script, with_native_slot, with_script_slot, register, set_register, set_slot, objects_of, preserve, has_reflector, delegate_at, new_script, native_to_make}
use Rattle.cc_model.specs.View.{view, native_edges, script_edges}
use Rattle.cc_model.specs.Cascade.{take_up}
use Rattle.cc_model.specs.Exposure.{slots_of_scripts, exposure_rules, exposed_names, as_black, blackened, exposed}
use Rattle.cc_model.specs.Effects.{done_in, effects, touched, taken_out, put_in_register, hold_native, put_in_slot, store_native, move_slot, with_native, make_native, hold_script, with_script, with_object, make_object, with_reflector, wrapped, set_entry, put_in_script, make_proxy}
use Rattle.cc_model.specs.WellFormed.{IsWellFormed}
use Rattle.cc_model.specs.Snapshot.{Snapshot}
use Rattle.cc_model.proofs.Joints.{Gives, its_key, gives-joint, joint-cases, its_value}
use Rattle.cc_laws_heap.proofs.EntryLists.{is_entry_of-parts, with_entry-cases}
use Rattle.cc_laws_heap.proofs.Making.{contents-empty_none, native_names-made}
use Rattle.cc_laws_heap.proofs.ViewEdges.{native_edges-are, script_edges-are}
use Rattle.cc_laws_snapshot.proofs.SoundView.{named-there}
use Rattle.cc_laws_run.specs.Doomed.{IsDoomed, KeepsReflectors}
use Rattle.cc_laws_snapshot.proofs.NamesAndEdges.{named-of_living}
use Rattle.cc_laws_run.proofs.DoomedBegin.{slot-edge}
use Rattle.cc_laws_run.proofs.TouchedViews.{Spares, doomed-spared, Spares-entries}
use Rattle.cc_laws_run.proofs.TouchedParts.{IsUntouched, Spares-register, Spares-native_slot, Spares-preserved, Spares-new_native, Spares-script_slot, Spares-blackened, Spares-new_script}
use Rattle.cc_laws_run.proofs.TouchedCascade.{leaves-touch, leaves-add_ref, leaves-take_up, leaves-let_go}
use Rattle.cc_laws_run.proofs.TouchedSteps.{Leaves, leaves-refl, leaves-on, leaves-still}
use Rattle.cc_laws_heap.proofs.Natives.{KeepsNumber}
use Rattle.cc_laws_heap.proofs.Leaving.{IsOf, OthersStay-change_native}
use Rattle.cc_laws_heap.proofs.Naming.{EachNamed}
use Rattle.cc_laws_heap.proofs.CommandsColours.{blank-holds}
use Rattle.cc_laws_run.proofs.TouchedReads.{IsApart, register-untouched, slot_at-untouched, reflector_of-untouched, NamesMap, deed-untouched, map-untouched}
use Rattle.cc_laws_run.proofs.JointLists.{joints-within}

-- a place that is to hold a name that is no member
pub one-untouched : (ds : List Name) (x : Name) → ¬ (Among x ds) → IsUntouched ds (Some x)
one-untouched ds x out y m i = ⊎_elim (λ e. out (subst (λ z. Among z ds) (sym e) i)) (λ b. b) m

-- a native that is made has no edges
new_native-no_edge : (h : Heap) (n : ℕ) (x y : Name) → ¬ (Among (x, y) (native_edges (native_to_make h n)))
new_native-no_edge h n x y m = ⊎_elim (λ c. contents-empty_none n y c) (λ p. absurd (false≢true p.0)) (native_edges-are (native_to_make h n) x y m).1

-- a script object that is made has one to its delegate, where it is a proxy, and a reflector one to its native
blank-edge : (z : Name) (kind : Kind) (n : ℕ) (d : Option Name) (x y : Name) → Among (x, y) (script_edges (new_script z kind n d)) →
    (d ≡ Some y) ⊎ ((k : ℕ) × (z ≡ reflector k) × (native k ≡ y))
blank-edge z kind n d x y m = ⊎_elim (λ c. inl (blank-holds z kind n d y c)) (λ p. inr p) (script_edges-are (new_script z kind n d) x y m).1

-- a reflector preserved leaves numbers made and entries
pub scripts_made-preserve : (h : Heap) (x : Option Name) → (preserve h x).scripts_made ≡ h.scripts_made
scripts_made-preserve h x = grind arith

pub entries-preserve : (h : Heap) (x : Option Name) → (preserve h x).entries ≡ h.entries
entries-preserve h x = grind arith

-- what an exposure of what is no member makes black is none, where only such names hold them
exposed-untouched : (ds : List Name) (h : Heap) (x : Name) → ((y z : Name) → Among (y, z) (view h).edges → Among z ds → Among y ds) → ¬ (Among x ds) →
    (o : HeapScript) → has same_name (exposed_names h x) o.name ≡ true → ¬ (Among o.name ds)
exposed-untouched ds h x holder out o t =
    derived-within (x ∷ []) (slots_of_scripts h) [] (λ y. ¬ (Among y ds))
    (λ y m i. ⊎_elim (λ e. out (subst (λ z. Among z ds) (sym e) i)) (λ b. b) m)
    (λ y z m k i. k (holder y z (slot-edge h y z m) i))
    (λ ps y m k. absurd m)
    o.name
    (closure-derived same_name same_name-exact (exposure_rules h x) o.name
    (has-among same_name same_name-exact (exposed_names h x) o.name t))

-- an exposure of what is no member spares members
Spares-exposed : (ds : List Name) (h : Heap) (x : Name) → ((y z : Name) → Among (y, z) (view h).edges → Among z ds → Among y ds) → ¬ (Among x ds) →
    Spares ds (view h) (view (blackened h (exposed_names h x)))
Spares-exposed ds h x holder out = Spares-blackened ds h (λ o. has same_name (exposed_names h x) o.name) as_black (λ o. refl) (λ o. refl)
    (exposed-untouched ds h x holder out)

-- a script object made spares members, where it is none
Spares-new_object : (ds : List Name) (h : Heap) (kind : Kind) (n : ℕ) (d : Option Name) → ¬ (Among (object (h.scripts_made + 1)) ds) → IsUntouched ds d →
    Spares ds (view h) (view (with_object h kind n d))
Spares-new_object ds h kind n d out none = Spares-new_script ds h (new_script (object (h.scripts_made + 1)) kind n d) out
    (λ x y i m. ⊎_elim
    (λ e. none y (subst (λ z. Among y (option_to_list z)) (sym e) (inl refl)) i)
    (λ f. absurd (cc))
    (blank-edge (object (h.scripts_made + 1)) kind n d x y m))

-- a reflector made, where neither it nor its native is one
Spares-new_reflector : (ds : List Name) (h : Heap) (k : ℕ) → ¬ (Among (native k) ds) → ¬ (Among (reflector k) ds) →
    Spares ds (view h) (view (with_script h (reflector k) Reflector reflector_slots None))
Spares-new_reflector ds h k out none = grind (arith, Spares-new_script, blank-edge)

-- with an entry set whose key and value are no members, each joint that gives a member was there
pub entry-old : (ds : List Name) (h : Heap) (m k : Name) (d : Option Name) (v : Name) → ¬ (Among k ds) → ¬ (Among v ds) →
    (j : Joint) → Among j.value ds → Among j (joints (with_entry h.entries m k d v)) → Among j (joints (preserve h (Some k)).entries)
entry-old ds h m k d v no_key out j i at = subst (λ es. Among j (joints es)) (sym (entries-preserve h (Some k))) (was (joint-cases (with_entry h.entries m k d v) j at))
  where
    new : (e : Entry) (j : Joint) → entry m k d v ≡ e → Gives e j → ¬ (Among j.value ds)
    new e _ same its_value n = out (subst (λ (f : Entry). Among f.value ds) (sym same) n)
    new e _ same (its_key x q) n = no_key (subst (λ (f : Entry). Among f.key ds) (sym same) n)

    was : (e : Entry) × Among e (with_entry h.entries m k d v) × Gives e j → Among j (joints h.entries)
    was f = ⊎_elim (λ same. absurd (new f.0 j same f.2 i)) (λ old. gives-joint h.entries f.0 j old f.2) (with_entry-cases h.entries m k d v f.0 f.1)

-- an entry of another map or another key stays where one is taken out
pub without_entry-other : (es : List Entry) (m k : Name) (e : Entry) → Among e es → Among e (without_entry es m k) ⊎ ((e.the_map ≡ m) × (e.key ≡ k))
without_entry-other es m k e i = ⊎_elim
    (λ t. inr (is_entry_of-parts m k e t))
    (λ t. inl (Among-filter (λ f. not (is_entry_of m k f)) e es i (ap not t)))
    (cases_Bool (is_entry_of m k e))

-- an entry of another map or another key stays where one is set
pub with_entry-other : (es : List Entry) (m k : Name) (d : Option Name) (v : Name) (e : Entry) → Among e es → Among e (with_entry es m k d v) ⊎ ((e.the_map ≡ m) × (e.key ≡ k))
with_entry-other [] m k d v e i = absurd i
with_entry-other (f ∷ es) m k d v e i = go (with_entry-other es m k d v e) (is_entry_of m k f) refl i
  where
    go : (Among e es → Among e (with_entry es m k d v) ⊎ ((e.the_map ≡ m) × (e.key ≡ k))) → (b : Bool) → is_entry_of m k f ≡ b → Among e (f ∷ es) →
        Among e (elim b [ true ↦ entry m k d v ∷ es | false ↦ f ∷ with_entry es m k d v ]) ⊎ ((e.the_map ≡ m) × (e.key ≡ k))
    go ih true t j = ⊎_elim
        (λ s. inr (subst (λ (z : Entry). (z.the_map ≡ m) × (z.key ≡ k)) s (is_entry_of-parts m k f t)))
        (λ s. inl (inr s)) j
    go ih false t j = ⊎_elim (λ s. inl (inl s)) (λ s. ⊎_elim (λ l. inl (inr l)) (λ r. inr r) (ih s)) j

-- What gives a member stays where an entry is written whose map and key are none.
entry-kept : (ds : List Name) (h : Heap) → IsApart ds h → (m k : Name) → ¬ (Among m ds) → ¬ (Among k ds) → (es : List Entry) →
    ((e : Entry) → Among e h.entries → Among e es ⊎ ((e.the_map ≡ m) × (e.key ≡ k))) →
    (j : Joint) → Among j.value ds → Among j (joints h.entries) → Among j (joints es)
entry-kept ds h d m k no_map no_key es other j i at =
    let f = joint-cases h.entries j at in
    ⊎_elim (λ l. gives-joint es f.0 j l f.2) (λ r. absurd (gone f.0 j f.2 r i at)) (other f.0 f.1)
  where
    gone : (e : Entry) (j : Joint) → Gives e j → (e.the_map ≡ m) × (e.key ≡ k) → Among j.value ds → Among j (joints h.entries) → ⊥
    gone e _ its_value r i at = ⊎_elim
        (λ l. no_map (subst (λ z. Among z ds) r.0 l))
        (λ l. no_key (subst (λ z. Among z ds) r.1 l))
        (d.joint (joint e.the_map e.key e.value) at i)
    gone e _ (its_key x q) r i at = no_key (subst (λ z. Among z ds) r.1 i)

module _ (ds : List Name) (g : Heap) where
  -- heaps that leave these names alone
  abbrev Left : Heap → Type 0
  Left h = Leaves ds g h

  -- Registers and slots

  -- a native changed that is no member
  leaves-changed : (h : Heap) (k : ℕ) (f : HeapNative → HeapNative) → KeepsNumber f → ¬ (Among (native k) ds) → Spares ds (view h) (view (change_native h k f)) →
      Left h → Left (change_native h k f)
  leaves-changed h k f keeps out = leaves-on ds g h (change_native h k f) (omega arith) (omega arith)
      (λ n there m. OthersStay-change_native h k f keeps n there (λ e. out (subst (λ j. Among (native j) ds) e m)))

  -- a register written
  pub leaves-register : (h : Heap) (r : Reg) (x : Option Name) → IsUntouched ds x → Left h → Left (set_register h r x)
  leaves-register h (N r) x none d = leaves-still ds g h (set_register h (N r) x) (omega arith) (omega arith) refl (Spares-register ds h (N r) x none) d
  leaves-register h (S r) x none d = leaves-still ds g h (set_register h (S r) x) (omega arith) (omega arith) refl (Spares-register ds h (S r) x none) d
  leaves-register h (W r) x none d = d

  -- a slot of a script object written
  pub leaves-script_slot : (h : Heap) (z : Name) (i : ℕ) (x : Option Name) → ¬ (Among z ds) → IsUntouched ds x → Left h →
      Left (change_script h z (with_script_slot i x))
  leaves-script_slot h z i x out none d = leaves-still ds g h (change_script h z (with_script_slot i x)) (omega arith) (omega arith) refl
      (Spares-script_slot ds h z i x out none) d

  -- a slot written
  pub leaves-slot : (h : Heap) (z : Option Name) (i : ℕ) (x : Option Name) → IsUntouched ds z → IsUntouched ds x → Left h → Left (set_slot h z i x)
  leaves-slot h None i x out none d = d
  leaves-slot h (Some (name.Native k)) i x out none d =
      leaves-changed h k.0 (with_native_slot i x) (λ n. refl) (out (native k.0) (inl refl)) (Spares-native_slot ds h k.0 i x (out (native k.0) (inl refl)) none) d
  leaves-slot h (Some (name.Script k)) i x out none d = leaves-script_slot h (object k.0) i x (out (object k.0) (inl refl)) none d
  leaves-slot h (Some (name.Reflector k)) i x out none d = leaves-script_slot h (reflector k.0) i x (out (reflector k.0) (inl refl)) none d

  -- a native register written, and what it held given up
  pub leaves-put_in_register : (h : Heap) (r : ℕ) (x : Option Name) → IsUntouched ds x → Left h → Left (put_in_register h r x).heap
  leaves-put_in_register h r x none d = leaves-let_go ds g (set_register h (N r) x) (register h (N r)) (register-untouched ds h d.apart (N r))
      (leaves-register h (N r) x none d)

  -- what comes into a native register
  pub leaves-hold_native : (h : Heap) (r : ℕ) (x : Option Name) → IsUntouched ds x → Left h → Left (hold_native h r x).heap
  unfolding hold_native
  leaves-hold_native h r x none d = leaves-put_in_register (take_up h x) r x none (leaves-take_up ds g h x none d)

  -- a slot of what a native register holds written, and what it held given up
  leaves-put_in_slot : (h : Heap) (r i : ℕ) (x : Option Name) → IsUntouched ds x → Left h → Left (put_in_slot h r i x).heap
  leaves-put_in_slot h r i x none d = leaves-let_go ds g (set_slot h (register h (N r)) i x) (slot_at (objects_of h) (N r) i) (slot_at-untouched ds h d.apart (N r) i)
      (leaves-slot h (register h (N r)) i x (register-untouched ds h d.apart (N r)) none d)

  -- what comes into such a slot
  leaves-store_native : (h : Heap) (r i : ℕ) (x : Option Name) → IsUntouched ds x → Left h → Left (store_native h r i x).heap
  unfolding store_native
  leaves-store_native h r i x none d = leaves-put_in_slot (take_up h x) r i x none (leaves-take_up ds g h x none d)

  -- Exposures

  -- an exposure
  pub leaves-exposed : (h : Heap) (x : Option Name) → IsUntouched ds x → Left h → Left (exposed h x)
  unfolding exposed
  leaves-exposed h None none d = d
  leaves-exposed h (Some x) none d = leaves-still ds g h (blackened h (exposed_names h x)) (omega arith) (omega arith) refl
      (Spares-exposed ds h x d.apart.holder (none x (inl refl))) d

  -- what is taken out of a slot is touched
  pub leaves-touched : (h : Heap) (x : Option Name) → IsUntouched ds x → Left h → Left (touched h x)
  leaves-touched h None none d = d
  leaves-touched h (Some (name.Native k)) none d = leaves-touch ds g h k.0 (none (native k.0) (inl refl)) d
  leaves-touched h (Some (name.Script k)) none d = leaves-exposed h (Some (object k.0)) none d
  leaves-touched h (Some (name.Reflector k)) none d = leaves-exposed h (Some (reflector k.0)) none d

  -- what a slot holds moved into another slot
  leaves-move_slot : (h : Heap) (r i q j : ℕ) → Left h → Left (move_slot h r i q j).heap
  unfolding move_slot
  leaves-move_slot h r i q j d =
      let none = slot_at-untouched ds h d.apart (N q) j in
      leaves-put_in_slot (taken_out h (register h (N q)) j (slot_at (objects_of h) (N q) j)) r i (slot_at (objects_of h) (N q) j) none
      (leaves-slot (touched h (slot_at (objects_of h) (N q) j)) (register h (N q)) j None (register-untouched ds h d.apart (N q)) (λ y m i. m)
      (leaves-touched h (slot_at (objects_of h) (N q) j) none d))

  -- what comes into a script register
  pub leaves-hold_script : (h : Heap) (r : ℕ) (x : Option Name) → IsUntouched ds x → Left h → Left (hold_script h r x)
  leaves-hold_script h r x none d = leaves-register (exposed h x) (S r) x none (leaves-exposed h x none d)

  -- Flags and entries

  -- a reflector preserved
  pub leaves-preserve : (h : Heap) (x : Option Name) → IsUntouched ds x → IsUntouched ds (native_of x) → Left h → Left (preserve h x)
  leaves-preserve h (Some (name.Reflector k)) none own d = leaves-changed h k.0 (λ n. record n { preserved = true }) (λ n. refl) (own (native k.0) (inl refl))
      (Spares-preserved ds h k.0 (none (reflector k.0) (inl refl))) d
  leaves-preserve h _ none own d = d

  -- a slot of what a script register holds written
  pub leaves-put_in_script : (h : Heap) (z : Option Name) (i : ℕ) (x : Option Name) → IsUntouched ds z → IsUntouched ds (native_of z) → IsUntouched ds x →
      Left h → Left (put_in_script h z i x)
  leaves-put_in_script h z i x out own none d = leaves-slot (preserve h z) z i x out none (leaves-preserve h z out own d)

  -- entries changed, with the same joints that give members
  pub leaves-entries : (h : Heap) (es : List Entry) → ((j : Joint) → Among j.value ds → Among j (joints es) → Among j (joints h.entries)) →
      ((j : Joint) → Among j.value ds → Among j (joints h.entries) → Among j (joints es)) → Left h → Left (record h { entries = es })
  leaves-entries h es old kept = leaves-still ds g h (record h { entries = es }) (omega arith) (omega arith) refl (Spares-entries ds h es old kept)

  -- an entry set or taken out
  pub leaves-set_entry : (h : Heap) (m k v : Option Name) → IsUntouched ds m → IsUntouched ds k → IsUntouched ds (native_of k) → IsUntouched ds v → Left h → Left (set_entry h m k v)
  leaves-set_entry h (Some m) (Some k) None n a o b d = leaves-entries h (without_entry h.entries m k)
      (λ j i at. joints-within (without_entry h.entries m k) h.entries (λ e n. Among-filtered (λ f. not (is_entry_of m k f)) e h.entries n) j at)
      (λ j i at. entry-kept ds h d.apart m k (n m (inl refl)) (a k (inl refl)) (without_entry h.entries m k)
      (λ e t. without_entry-other h.entries m k e t) j i at) d
  leaves-set_entry h (Some m) (Some k) (Some v) n a o b d = leaves-entries (preserve h (Some k)) (with_entry h.entries m k (delegate_at h k) v)
      (entry-old ds h m k (delegate_at h k) v (a k (inl refl)) (b v (inl refl)))
      (λ j i at. entry-kept ds h d.apart m k (n m (inl refl)) (a k (inl refl)) (with_entry h.entries m k (delegate_at h k) v)
      (λ e t. with_entry-other h.entries m k (delegate_at h k) v e t) j i (subst (λ es. Among j (joints es)) (entries-preserve h (Some k)) at))
      (leaves-preserve h (Some k) a o d)
  leaves-set_entry h _ _ v n a o b d = d

  -- Objects made

  -- a native made, and a native register holds it
  pub leaves-make_native : (h : Heap) (r n : ℕ) → ¬ (Among (native (h.natives_made + 1)) ds) → Left h → Left (make_native h r n).heap
  unfolding make_native
  leaves-make_native h r n out d = leaves-put_in_register (with_native h n) r (Some (native (h.natives_made + 1)))
      (one-untouched ds (native (h.natives_made + 1)) out)
      (leaves-touch ds g larger (h.natives_made + 1) out
      (leaves-on ds g h larger (omega arith) (omega arith) old (Spares-new_native ds h (native_to_make h n) (new_native-no_edge h n)) d))
    where
      larger : Heap
      larger = record h { natives = h.natives ++ native_to_make h n ∷ []; natives_made = h.natives_made + 1 }

      old : (o : HeapNative) → Among o larger.natives → Among (native o.number) ds → IsOf h o
      old o there m = ⊎_elim
          (λ l. (o, l, refl))
          (λ r. ⊎_elim (λ s. absurd (out (subst (λ (p : HeapNative). Among (native p.number) ds) (sym s) m))) (λ b. absurd b) r)
          (Among-append o h.natives (native_to_make h n ∷ []) there)

  -- a script object made, and a script register holds it
  pub leaves-make_object : (h : Heap) (r : ℕ) (kind : Kind) (n : ℕ) (x : Option Name) → ¬ (Among (object (h.scripts_made + 1)) ds) → IsUntouched ds x → Left h →
      Left (make_object h r kind n x)
  leaves-make_object h r kind n x out none d = leaves-register (with_object h kind n x) (S r) (Some (object (h.scripts_made + 1)))
      (one-untouched ds (object (h.scripts_made + 1)) out)
      (leaves-still ds g h (with_object h kind n x) (omega arith) (omega arith) refl (Spares-new_object ds h kind n x out none) d)

  -- a proxy made
  pub leaves-make_proxy : (h : Heap) (r : ℕ) (x : Option Name) → ¬ (Among (object (h.scripts_made + 1)) ds) → IsUntouched ds x → IsUntouched ds (native_of x) → Left h →
      Left (make_proxy h r x)
  leaves-make_proxy h r None out none own d = d
  leaves-make_proxy h r (Some x) out none own d = leaves-make_object (preserve h (Some x)) r proxy_kind 0 (Some x)
      (subst (λ n. ¬ (Among (object (n + 1)) ds)) (sym (scripts_made-preserve h (Some x))) out) none (leaves-preserve h (Some x) none own d)

  -- a reflector made
  pub leaves-with_reflector : (h : Heap) (k : ℕ) → ¬ (Among (native k) ds) → ¬ (Among (reflector k) ds) → Left h → Left (with_reflector h k)
  leaves-with_reflector h k out none d =
      let larger : Heap = with_script h (reflector k) Reflector reflector_slots None in
      leaves-add_ref ds g larger k out (leaves-still ds g h larger (omega arith) (omega arith) refl (Spares-new_reflector ds h k out none) d)

  -- a native wrapped
  pub leaves-wrapped : (h : Heap) (x : Option Name) → KeepsReflectors ds → IsUntouched ds x → Left h → Left (wrapped h x)
  leaves-wrapped h (Some (name.Native k)) keeps none d = go (has_reflector h k.0)
    where
      out : ¬ (Among (native k.0) ds)
      out = none (native k.0) (inl refl)

      hidden : ¬ (Among (reflector k.0) ds)
      hidden m = out (keeps k.0 m)

      go : (b : Bool) → Left (elim b [ true ↦ exposed h (Some (reflector k.0)) | false ↦ with_reflector h k.0 ])
      go true = leaves-exposed h (Some (reflector k.0)) (one-untouched ds (reflector k.0) hidden) d
      go false = leaves-with_reflector h k.0 out hidden d
  leaves-wrapped h _ keeps none d = d

  -- a deed that names no member, where the next numbers are of none
  leaves-done : (h : Heap) (d : Deed) → KeepsReflectors ds → ¬ (Among (native (h.natives_made + 1)) ds) → ¬ (Among (object (h.scripts_made + 1)) ds) →
      NamesMap (IsUntouched ds) d → EachNamed (IsUntouched ds) d → Left h → Left (done_in h d).heap
  unfolding done_in
  leaves-done h nothing_done keeps a b n u l = l
  leaves-done h (native_made r c) keeps a b n u l = leaves-make_native h r c a l
  leaves-done h (plain_made r c) keeps a b n u l = leaves-make_object h r Plain c None b (λ y m i. m) l
  leaves-done h (map_made r) keeps a b n u l = leaves-make_object h r Map 0 None b (λ y m i. m) l
  leaves-done h (proxy_made r x) keeps a b n u l = leaves-make_proxy h r x b u.0 u.1 l
  leaves-done h (native_held r x) keeps a b n u l = leaves-hold_native h r x u l
  leaves-done h (script_held r x) keeps a b n u l = leaves-hold_script h r x u l
  leaves-done h (script_copied r x) keeps a b n u l = leaves-register h (S r) x u l
  leaves-done h (native_stored r i x) keeps a b n u l = leaves-store_native h r i x u l
  leaves-done h (slot_moved r i q j) keeps a b n u l = leaves-move_slot h r i q j l
  leaves-done h (script_stored x i y) keeps a b n u l = leaves-put_in_script h x i y u.0 u.1 u.2 l
  leaves-done h (reflector_held r x) keeps a b n u l = leaves-register (wrapped h x) (S r) (reflector_of x) (reflector_of-untouched ds x keeps u) (leaves-wrapped h x keeps u l)
  leaves-done h (reflector_preserved x) keeps a b n u l = leaves-preserve h x u.0 u.1 l
  leaves-done h (entry_written m k v) keeps a b n u l = leaves-set_entry h m k v n u.0 u.1 u.2 l
  leaves-done h (object_exposed x) keeps a b n u l = leaves-exposed h x u l
  leaves-done h (weak_written w x) keeps a b n u l = l

-- COMMANDS LEAVE NAMES ALONE that are apart, where the next numbers are of none of them.
pub command-leaves : (ds : List Name) (h : Heap) (c : Command) → IsWellFormed h → KeepsReflectors ds → ¬ (Among (native (h.natives_made + 1)) ds) →
    ¬ (Among (object (h.scripts_made + 1)) ds) → IsApart ds h → Leaves ds h (effects h c).heap
unfolding effects
command-leaves ds h c w keeps a b d = leaves-done ds h h (deed_of (objects_of h) c) keeps a b (map-untouched ds h d c) (deed-untouched ds h d w c) (leaves-refl ds h d)

-- What is doomed

-- the next native is not doomed
pub next_native-undoomed : (s : Snapshot) (ds : List Name) (h : Heap) → IsWellFormed h → IsDoomed (view h) s ds → ¬ (Among (native (h.natives_made + 1)) ds)
next_native-undoomed s ds h w d m =
    let made : h.natives_made + 1 ≤ h.natives_made = native_names-made h 0 w (h.natives_made + 1)
    (named-of_living h (native (h.natives_made + 1)) (d.natives (h.natives_made + 1) m)) in
    absurd (omega arith)

-- the next script object is not doomed
pub next_object-undoomed : (s : Snapshot) (ds : List Name) (h : Heap) → IsWellFormed h → IsDoomed (view h) s ds → ¬ (Among (object (h.scripts_made + 1)) ds)
next_object-undoomed s ds h w d m =
    let made : h.scripts_made + 1 ≤ h.scripts_made = (w.object_numbers (h.scripts_made + 1)
    (named-there h (object (h.scripts_made + 1)) (d.scripts (object (h.scripts_made + 1)) m refl))).1 in
    absurd (omega arith)

-- COMMANDS SPARE WHAT IS DOOMED.
pub effects-spare : (s : Snapshot) (ds : List Name) (h : Heap) (c : Command) → IsWellFormed h → KeepsReflectors ds → IsDoomed (view h) s ds →
    Spares ds (view h) (view (effects h c).heap)
effects-spare s ds h c w keeps d = (command-leaves ds h c w keeps (next_native-undoomed s ds h w d) (next_object-undoomed s ds h w d)
    (record { unregistered = d.unregistered; holder = d.holder; joint = d.joint })).spares

-- COMMANDS LEAVE WHAT IS DOOMED.
pub doomed-effects : (s : Snapshot) (ds : List Name) (h : Heap) (c : Command) → IsWellFormed h → KeepsReflectors ds → IsDoomed (view h) s ds →
    IsDoomed (view (effects h c).heap) s ds
doomed-effects s ds h c w keeps d = doomed-spared s ds (view h) (view (effects h c).heap) (effects-spare s ds h c w keeps d) d

-- A NATIVE REGISTER THAT GETS what is not doomed spares what is.
pub hold_native-spares : (s : Snapshot) (ds : List Name) (h : Heap) (r : ℕ) (x : Option Name) → IsUntouched ds x → IsDoomed (view h) s ds →
    Spares ds (view h) (view (hold_native h r x).heap)
hold_native-spares s ds h r x none d = (leaves-hold_native ds h h r x none
    (leaves-refl ds h (record { unregistered = d.unregistered; holder = d.holder; joint = d.joint }))).spares
