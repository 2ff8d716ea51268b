-- WHAT A CHANGE MAKES OF THE GRAPHS THAT THE HEAPS STAND FOR. What is handed in is reached, so it was made, and the changed
-- graph is well made; the changed heaps follow it, and are well formed, so they stand for it.
use Rattle.cc_heaps.proofs.ObjectsKept.{there-named}
use Rattle.cc_heaps.proofs.Reflecting.{held-made, shape-made}
use Rattle.std.proofs.Common.{arith, ◌≡◌, ℕ, ◌<◌, ◌≤◌, List, length, get_or, Option, Some, None, refl, sym, ap, subst, inl, ⊎_elim}
use Rattle.std.specs.Prelude.{IsTrue}
use Rattle.std.proofs.lemmas.Bool.{lt-leb}
use Rattle.cc_names.specs.declared.name.Name.{Name}
use Rattle.cc_names.specs.declared.number.NKey.{NKey}
use Rattle.cc_names.specs.declared.number.SKey.{SKey}
use Rattle.cc_names.specs.declared.register.Reg.TheVariants.{N, S}
use Rattle.cc_names.specs.Names.{native}
use Rattle.cc_names.specs.Sizes.{most_slots}
use Rattle.cc_model.specs.declared.command.Command.{Command}
use Rattle.cc_model.specs.declared.command.Command.TheVariants.{Native, Script, WeakMap}
use Rattle.cc_model.specs.Slots.{Slots}
use Rattle.cc_model.specs.Checks.{refusal_of}
use Rattle.cc_model.specs.Deeds.{deed_of}
use Rattle.cc_model.specs.Graph as graph
use Rattle.cc_model.specs.Graph.{Graph, GraphNative, GraphScript, native_in, script_in, step}
use Rattle.cc_model.specs.Reached.{Reached}
use Rattle.cc_model.specs.Given.{Given}
use Rattle.cc_model.specs.WellMade.{IsWellMade}
use Rattle.cc_model.specs.Heap.{Heap, objects_of, native_at, set_slot}
use Rattle.cc_model.specs.Cascade.{take_up}
use Rattle.cc_model.specs.End.{slots_now}
use Rattle.cc_model.specs.Effects.{done_in, effects, hold_native, hold_script, make_native, make_proxy}
use Rattle.cc_model.specs.WellFormed.{IsWellFormed, native_names, script_names}
use Rattle.cc_model.specs.StandsFor.{StandsFor}
use Rattle.cc_laws_heap.specs.Sound.{IsSound}
use Rattle.cc_laws_heap.proofs.Face.{Follows, Follows-left, Follows-slot, HasBehind, IsGivenNative, IsIn, IsWellMade-change_native, KeepsNative-slot, Leaves-let_go, Leaves-take_up, Made, MadeScript, MayBeDone, MayBeDoneTo, OfSome, OfSome-then, Reached-given, done-stands, follows-stands, hold-stands, hold-well, in-reached, make_proxy-sound, proxy-follows, proxy-well, script-behind, stands-follows, stands-reached, usable-given}
use Rattle.cc_laws_snapshot.proofs.Face.{native-name_of}
use Rattle.cc_counted.specs.declared.held.Held.{Held}
use Rattle.cc_script.specs.Objects.{is_there, name_at}
use Rattle.cc_heaps.specs.Keyed.{Keyed, IsInOrder, left_with}
use Rattle.cc_heaps.specs.Making.{MayBeMade, delegate_name, made_in}
use Rattle.cc_heaps.specs.declared.heaps.to_make.ToMake.{ToMake}
use Rattle.cc_heaps.specs.declared.heaps.to_make.ToMake.TheVariants.{Plain, Map, Proxy}
use Rattle.cc_names.specs.Allowance.{Allowance}
use Rattle.cc_heaps.specs.Changes.{native_name, script_name, held_name, stored_in}
use Rattle.cc_heaps.specs.Standing.{IsReached, IsReachedOrReflects, MayBeHeld, MayHold, StandsAfter}
use Rattle.cc_heaps.proofs.Content.{native-in}
use Rattle.cc_heaps.proofs.Following.{made_by, proxy-made, name_at-there, script_name-there}
use Rattle.cc_heaps.proofs.ReflectingWritten.{held_script-stands, slot_written-stands, handed-given, handed-reached}

-- What was made

module _ (h : Heap) (g : Graph) (w : IsWellFormed h) (m : IsWellMade g) (s : StandsFor h g) where
  -- what is handed in was made
  pub handed-made : (x : Option Name) → IsReached h x → OfSome (Made g) x
  handed-made x r = OfSome-then (Reached g) (Made g) (λ y d. let k = stands-reached h g s y d in shape-made g y k.shape k.made) x (handed-reached h g x w m s r)

-- What may be held is a native that is given
handed-native : (h : Heap) (g : Graph) (w : IsWellFormed h) (m : IsWellMade g) (s : StandsFor h g) (x : Option Name) → IsIn (native_names h) x → MayBeHeld h x → IsGivenNative h g x
handed-native h g w m s None there r = tt
handed-native h g w m s (Some x) there r = (native-name_of h x (there x (inl refl)), ⊎_elim (λ d. Reached-given h g x (in-reached h g w m s x d)) (usable-given h g x) r)

-- What is reached may be held.
pub reached-may_be_held : (h : Heap) (x : Option Name) → IsReached h x → MayBeHeld h x
reached-may_be_held h None r = tt
reached-may_be_held h (Some x) r = inl r

-- Changes of the heaps

-- WELL FORMED HEAPS THAT FOLLOW what a change makes of each graph stand for it.
pub StandsAfter-from : (h k : Heap) (change : Graph → Graph) → IsWellFormed h → IsWellFormed k →
    ((g : Graph) → IsWellMade g → StandsFor h g → IsWellMade (change g)) →
    ((g : Graph) → IsWellMade g → StandsFor h g → Follows (Given h g) h g → Follows (Given h g) k (change g)) → StandsAfter h k change
StandsAfter-from h k change early late well follows g m s =
    (well g m s, follows-stands (Given h g) k (change g) late (well g m s) (follows g m s (stands-follows h g early s)))

-- A native register is written.
hold_native-stands : {owned : List ℕ} (h : Heap) (d : ℕ) (x : Option Name) → IsSound owned h → d < length h.native_registers → IsIn (native_names h) x → MayBeHeld h x →
    StandsAfter h (hold_native h d x).heap (λ g. graph.set_register g (N d) x)
hold_native-stands h d x s place there r g m t =
    let given = handed-native h g s.well_formed m t x there r in
    (hold-well h g d x s m t place given, hold-stands h g d x s m t place given)

module _ (h : Heap) (w : IsWellFormed h) where
  -- A slot of a native is written.
  stored_in-stands : (k i : ℕ) (x : Option Name) → IsReached h (Some (native k)) → IsReached h x → IsWellFormed (stored_in h k i x).heap →
      StandsAfter h (stored_in h k i x).heap (λ g. graph.set_slot g (Some (native k)) i x)
  stored_in-stands k i x held r late = StandsAfter-from h (stored_in h k i x).heap (λ g. graph.set_slot g (Some (native k)) i x) w late
      (λ g m s. IsWellMade-change_native g k (graph.with_slot i x) (λ n e. e) m (KeepsNative-slot g k i x (handed-made h g w m s x r)))
      (λ g m s t. Follows-left (Given h g) (set_slot (take_up h x) (Some (native k)) i x) (stored_in h k i x).heap (graph.set_slot g (Some (native k)) i x)
      (Leaves-let_go (set_slot (take_up h x) (Some (native k)) i x) (get_or (slots_now (native_at (take_up h x) k)) i None))
      (Follows-slot (Given h g) (take_up h x) g (Some (native k)) i x (handed-given h g (Some (native k)) w m s held) (handed-given h g x w m s r)
      (λ j a e. absurd (cc)) (Follows-left (Given h g) h (take_up h x) g (Leaves-take_up h x) t)))

-- A command that is not refused, where what it comes to may be done.
command-stands_after : {owned : List ℕ} (h : Heap) (c : Command) → IsSound owned h → refusal_of (objects_of h) c ≡ None → MayBeDone h (deed_of (objects_of h) c) →
    ((g : Graph) → StandsFor h g → MayBeDoneTo g (deed_of (graph.objects_of g) c)) → StandsAfter h (effects h c).heap (λ g. step g c)
command-stands_after h c s taken may to g m t = done-stands h g c s m t taken may (to g t)

-- where the heaps may have one native more, and one script object more, the graph may
natives-allowed : (h : Heap) (g : Graph) → StandsFor h g → h.natives_made < h.limits.natives → length g.natives < g.limits.natives
natives-allowed h g t allowed = omega (arith, allowed, t.natives_made, ap (λ (a : Allowance). a.natives) t.limits)

scripts-allowed : (h : Heap) (g : Graph) → StandsFor h g → h.scripts_made < h.limits.scripts → length g.scripts < g.limits.scripts
scripts-allowed h g t allowed = omega (arith, allowed, t.scripts_made, ap (λ (a : Allowance). a.scripts) t.limits)

-- A native is made.
pub make_native-stands : {owned : List ℕ} (h : Heap) (d n : ℕ) → IsSound owned h → d < length h.native_registers → n ≤ most_slots → h.natives_made < h.limits.natives →
    StandsAfter h (make_native h d n).heap (λ g. step g (Native d n))
unfolding effects done_in deed_of refusal_of
make_native-stands h d n s room few allowed = command-stands_after h (Native d n) s (rw (lt-leb h.limits.natives h.natives_made allowed) refl)
    (record { register = room; few = few; room = allowed })
    (λ g t. record { register = subst (λ (rs : Slots). d < length rs) t.native_registers room; few = few; room = natives-allowed h g t allowed })

-- A proxy is made of what is there and reached.
make_proxy-stands : {owned : List ℕ} (h : Heap) (d : ℕ) (x : Option Name) → IsSound owned h → h.scripts_made < h.limits.scripts → IsIn (script_names h) x → IsReached h x →
    StandsAfter h (make_proxy h d x) (λ g. graph.with_proxy g d x)
make_proxy-stands {owned} h d x s allowed there r g m t = (
  well,
  proxy-follows h g s.well_formed m t d x (OfSome-then (Reached g) (Given h g) (Reached-given h g) x reached)
      (OfSome-then (HasBehind (Reached g)) (HasBehind (Given h g)) (λ y b j e. Reached-given h g (native j) (b j e)) x (script-behind g x made reached)) made (StandsFor (make_proxy h d x) (graph.with_proxy g d x))
      (λ P f. follows-stands P (make_proxy h d x) (graph.with_proxy g d x) (make_proxy-sound owned h d x there allowed s).well_formed well f),
)
  where
    made : OfSome (MadeScript g) x
    made = held-made h g x s.well_formed t there

    reached : OfSome (Reached g) x
    reached = handed-reached h g x s.well_formed m t r

    well : IsWellMade (graph.with_proxy g d x)
    well = proxy-well g m d x made (scripts-allowed h g t allowed)

-- the commands that make a plain object or a weak map are not refused
plain-not_refused : (h : Heap) (d n : ℕ) → h.scripts_made < h.limits.scripts → refusal_of (objects_of h) (Script d n) ≡ None
unfolding refusal_of
plain-not_refused h d n allowed = grind (arith, lt-leb)

map-not_refused : (h : Heap) (d : ℕ) → h.scripts_made < h.limits.scripts → refusal_of (objects_of h) (WeakMap d) ≡ None
unfolding refusal_of
map-not_refused h d allowed = grind (arith, lt-leb)

-- A script object is made.
pub make_object-stands : {owned : List ℕ} (v : Keyed) (o : IsInOrder owned v) (d : ℕ) (what : ToMake) → MayBeMade v.scripts what →
    v.heap.scripts_made < v.heap.limits.scripts → IsReached v.heap (delegate_name v what) → StandsAfter v.heap (made_by v d what) (λ g. made_in g d what (delegate_name v what))
unfolding effects done_in deed_of
make_object-stands v o d (Plain n) few allowed r = command-stands_after v.heap (Script d n) o.sound (plain-not_refused v.heap d n allowed)
    (few, allowed) (λ g t. (few, scripts-allowed v.heap g t allowed))
make_object-stands v o d Map few allowed r = command-stands_after v.heap (WeakMap d) o.sound (map-not_refused v.heap d allowed) allowed (λ g t. scripts-allowed v.heap g t allowed)
make_object-stands {owned} v o d (Proxy k) black allowed r = subst (λ l. StandsAfter v.heap l (λ g. graph.with_proxy g d (name_at v.scripts k.0))) (proxy-made v d k black)
    (make_proxy-stands v.heap d (name_at v.scripts k.0) o.sound allowed (name_at-there owned v o k.0) r)

-- The heaps with their keys

module _ {owned : List ℕ} (v w : Keyed) (o : IsInOrder owned v) (p : IsInOrder owned w) where
  -- where the heaps afterwards are well formed, as they are in order
  changed-stands : (k : Heap) (change : Graph → Graph) → w.heap ≡ k → (IsWellFormed k → StandsAfter v.heap k change) → StandsAfter v.heap w.heap change
  changed-stands k change e f = subst (λ l. StandsAfter v.heap l change) (sym e) (f (subst IsWellFormed e p.sound.well_formed))

  -- A native register is written with what is at a key.
  pub native_register-stands : (d : ℕ) (x : Option NKey) → d < length v.heap.native_registers → w ≡ left_with v (hold_native v.heap d (native_name v x)).heap →
      MayBeHeld v.heap (native_name v x) → StandsAfter v.heap w.heap (λ g. graph.set_register g (N d) (native_name v x))
  native_register-stands d x place e r = subst (λ k. StandsAfter v.heap k (λ g. graph.set_register g (N d) (native_name v x))) (sym (ap (λ (u : Keyed). u.heap) e))
      (hold_native-stands v.heap d (native_name v x) o.sound place (native-in owned v x o) r)

  -- A script register is written.
  pub script_register-stands : (d : ℕ) (x : Option SKey) → w.heap ≡ hold_script v.heap d (script_name v x) → IsReachedOrReflects v.heap (script_name v x) →
      StandsAfter v.heap w.heap (λ g. graph.set_register g (S d) (script_name v x))
  script_register-stands d x e r = subst (λ k. StandsAfter v.heap k (λ g. graph.set_register g (S d) (script_name v x))) (sym e)
      (held_script-stands v.heap d (script_name v x) o.sound (script_name-there owned v o x) r)

  -- A slot of a native is written with what is held.
  pub native_slot-stands : (k i : ℕ) (x : Option Held) → w ≡ left_with v (stored_in v.heap k i (held_name v x)).heap →
      IsReached v.heap (Some (native k)) → IsReached v.heap (held_name v x) →
      StandsAfter v.heap w.heap (λ g. graph.set_slot g (Some (native k)) i (held_name v x))
  native_slot-stands k i x e held r = changed-stands (stored_in v.heap k i (held_name v x)).heap (λ g. graph.set_slot g (Some (native k)) i (held_name v x))
      (ap (λ (u : Keyed). u.heap) e) (stored_in-stands v.heap o.sound.well_formed k i (held_name v x) held r)

  -- A slot of a script object is written, where it may hold something.
  pub script_slot-stands : (key i : ℕ) (x : Option SKey) → IsTrue (is_there v.scripts key) → w.heap ≡ set_slot v.heap (name_at v.scripts key) i (script_name v x) →
      IsReached v.heap (name_at v.scripts key) → IsReached v.heap (script_name v x) → MayHold v.heap (name_at v.scripts key) →
      StandsAfter v.heap w.heap (λ g. graph.set_slot g (name_at v.scripts key) i (script_name v x))
  script_slot-stands key i x live e =
      let n = there-named v.scripts key live in
      subst (λ k. IsReached v.heap (name_at v.scripts key) → IsReached v.heap (script_name v x) → MayHold v.heap (name_at v.scripts key) →
      StandsAfter v.heap k (λ g. graph.set_slot g (name_at v.scripts key) i (script_name v x))) (sym e)
      (subst (λ y. IsReached v.heap y → IsReached v.heap (script_name v x) → MayHold v.heap y →
      StandsAfter v.heap (set_slot v.heap y i (script_name v x)) (λ g. graph.set_slot g y i (script_name v x))) (sym n.1)
      (slot_written-stands v.heap n.0 i (script_name v x) o.sound
      (subst (λ y. IsIn (script_names v.heap) y) n.1 (name_at-there owned v o key) n.0 (inl refl)) (script_name-there owned v o x)))
