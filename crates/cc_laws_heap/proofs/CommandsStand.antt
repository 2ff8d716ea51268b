-- HEAPS THAT STAND FOR A GRAPH GO ON STANDING FOR IT: after each command that is not refused they stand for the graph's step,
-- and what they told as freed is not reached.
use Rattle.std.proofs.Common.{arith, ◌≡◌, ℕ, ◌+◌, List, [], ◌++◌, length, Option, Some, None, refl, sym, ◌∙◌, ap, subst, inr, ◌⊎◌, ⊎_elim}
use Rattle.std.specs.Prelude.{IsTrue}
use Rattle.std.proofs.lemmas.Bool.{false≢true, and_parts}
use Rattle.cc_lists.specs.Members.{Among}
use Rattle.cc_lists.proofs.Members.{Among-append}
use Rattle.cc_names.specs.Allowance.{Allowance}
use Rattle.cc_names.specs.declared.name.Name.{Name}
use Rattle.cc_names.specs.declared.name.Name.TheVariants as name
use Rattle.cc_names.specs.declared.register.Reg.TheVariants.{N, S, W}
use Rattle.cc_names.specs.declared.kind.Kind.TheVariants.{Plain, Map, Proxy as proxy_kind}
use Rattle.cc_names.specs.Names.{native, object, reflector, is_script}
use Rattle.cc_names.specs.Sizes.{bank_length}
use Rattle.cc_model.specs.declared.command.Command.{Command}
use Rattle.cc_model.specs.declared.item.Event.TheVariants.{Freed}
use Rattle.cc_model.specs.Ranges.{in_range}
use Rattle.cc_model.specs.Slots.{empty_slots}
use Rattle.cc_model.specs.Checks.{slot_at, reflector_of, refusal_of}
use Rattle.cc_model.specs.Graph as graph
use Rattle.cc_model.specs.Graph.{Graph, plain_object, weak_map, proxy, empty_graph, done_to, changed, unless_refused, step}
use Rattle.cc_model.specs.Reached.{Reached, held, edge, value, key, roots_of}
use Rattle.cc_model.specs.Given.{given, Given}
use Rattle.cc_model.specs.Deeds.{Deed, nothing_done, native_made, plain_made, map_made, proxy_made, native_held, script_held, script_copied, native_stored, slot_moved, script_stored, reflector_held, reflector_preserved, entry_written, object_exposed, weak_written, deed_of}
use Rattle.cc_model.specs.WellMade.{IsWellMade, was_made}
use Rattle.cc_model.specs.Heap as heap
use Rattle.cc_model.specs.Heap.{Heap, empty_heap}
use Rattle.cc_model.specs.Exposure.{exposed}
use Rattle.cc_model.specs.Effects as effects_of
use Rattle.cc_model.specs.Effects.{done_in, effects, hold_native, store_native, move_slot, make_native, put_in_script}
use Rattle.cc_model.specs.WellFormed.{IsWellFormed, names_there, native_names}
use Rattle.cc_model.specs.StandsFor.{StandsFor}
use Rattle.cc_laws_heap.specs.Sound.{IsSound}
use Rattle.cc_laws_heap.proofs.Holds.{OfSome, OfSome-then, contents-get}
use Rattle.cc_laws_heap.proofs.GraphReads.{MadeNative, MadeScript, MadeScript-made, native_register-made}
use Rattle.cc_laws_heap.proofs.GraphCommands.{done_to-well, preserve-well, scripts-preserve, step-well}
use Rattle.cc_laws_heap.proofs.References.{native-there}
use Rattle.cc_laws_heap.proofs.ReachedAlike.{reached-there}
use Rattle.cc_laws_heap.proofs.CascadeTakesOut.{TellsWhatIsGone, let_go-gone}
use Rattle.cc_laws_heap.proofs.Taken.{IsTaken, IsTaken-from}
use Rattle.cc_laws_heap.proofs.MayBeDoneTo.{IsScriptNamed, MayBeDoneTo, may_be_done_to}
use Rattle.cc_laws_heap.proofs.MayBeDone.{MayBeDone}
use Rattle.cc_laws_heap.proofs.CommandsSound.{done_in-sound, effects-sound}
use Rattle.cc_laws_heap.proofs.Numbered.{numbered-nothing}
use Rattle.cc_laws_heap.proofs.RepliesAlike.{AreAlike, slot_at-alike, refusal_of-alike, deed_of-alike, delegate-stands, objects-stand}
use Rattle.cc_laws_heap.proofs.ReachedReads.{HasBehind, register-reached, slot_at-reached, script-behind}
use Rattle.cc_laws_heap.proofs.Given.{Reached-given, given_from-reached, given_from-grows}
use Rattle.cc_laws_heap.proofs.Following.{Follows, stands-follows}
use Rattle.cc_laws_heap.proofs.Standing.{follows-stands}
use Rattle.cc_laws_heap.proofs.Changing.{Follows-left}
use Rattle.cc_laws_heap.proofs.SlotsWritten.{IsPreserved}
use Rattle.cc_laws_heap.proofs.NewObjects.{next_native, next_object, Follows-native, Follows-plain, Follows-map, Follows-proxy}
use Rattle.cc_laws_heap.proofs.Unseen.{Leaves-exposed}
use Rattle.cc_laws_heap.proofs.Wrapping.{Follows-wrapped}
use Rattle.cc_laws_heap.proofs.WeakRegisters.{Follows-weak_register}
use Rattle.cc_laws_heap.proofs.StepsAlike.{Follows-script_register, Follows-put, Follows-hold, Follows-hold_script, Follows-store, Follows-move, Follows-preserve, preserved-after, Follows-put_script, Follows-set_entry}
use Rattle.cc_laws_heap.proofs.Making.{contents-empty_none}

module _ (h : Heap) (g : Graph) (w : IsWellFormed h) (well : IsWellMade g) (s : StandsFor h g) where
  -- the heaps follow the graph
  start : Follows (Given h g) h g
  start = stands-follows h g w s

  -- what is reached is given, and so is the native behind a reflector
  up : (x : Option Name) → OfSome (Reached g) x → OfSome (Given h g) x
  up x r = OfSome-then (Reached g) (Given h g) (Reached-given h g) x r

  up-behind : (x : Option Name) → OfSome (HasBehind (Reached g)) x → OfSome (HasBehind (Given h g)) x
  up-behind x b = OfSome-then (HasBehind (Reached g)) (HasBehind (Given h g)) (λ y f k e. Reached-given h g (native k) (f k e)) x b

  -- what a register holds is given
  held-given : (d : ℕ) → OfSome (Given h g) (graph.register g (N d))
  held-given d = up (graph.register g (N d)) (register-reached g (N d))

  -- what the checks look at is the same
  a : AreAlike (heap.objects_of h) (graph.objects_of g)
  a = objects-stand h g s

  -- what a native register holds has no native whose reflector it is
  native-preserved : (f : Graph) (d : ℕ) → OfSome (IsPreserved f) (graph.register g (N d))
  native-preserved f d = grind (arith, OfSome-then, native_register-made)

  -- a reflector made or found, and put into a register
  wrap : (d : ℕ) (x : Option Name) → OfSome (Reached g) x → OfSome (MadeNative g) x → (Q : Type 0) →
      ((P : Name → Type 0) → Follows P (heap.set_register (effects_of.wrapped h x) (S d) (reflector_of x)) (graph.set_register (graph.wrapped g x) (S d) (reflector_of x)) → Q) → Q
  wrap d None r t Q f = f (Given h g) (Follows-script_register (Given h g) h g d None None refl tt start)
  wrap d (Some (name.Native k)) r t Q f = Follows-wrapped h g k.0 w well s r Q
      (λ P p u. f P (Follows-script_register P (effects_of.wrapped h (Some (name.Native k))) (graph.wrapped g (Some (name.Native k))) d (Some (reflector k.0)) (Some (reflector k.0)) refl p u))
  wrap d _ r t Q f = absurd (false≢true t)

  -- a script object that is named has the same delegate
  delegate-same : (x : Option Name) → IsScriptNamed g x → OfSome (λ y. heap.delegate_at h y ≡ graph.delegate_in g y) x
  delegate-same None n = tt
  delegate-same (Some x) n = delegate-stands h g s x (and_parts (is_script x) (was_made g x) n.made).0 n.reached

  -- the native behind it, where it is a reflector, is given
  behind : (x : Option Name) → IsScriptNamed g x → OfSome (HasBehind (Given h g)) x
  behind x n = up-behind x (script-behind g x n.made n.reached)

  -- a proxy made of what a register holds, which is preserved first where it is a reflector, and put into a register
  pub proxy-follows : (d : ℕ) (o : Option Name) → OfSome (Given h g) o → OfSome (HasBehind (Given h g)) o → OfSome (MadeScript g) o → (Q : Type 0) →
      ((P : Name → Type 0) → Follows P (effects_of.make_proxy h d o) (graph.with_proxy g d o) → Q) → Q
  proxy-follows d None r b i Q f = f (Given h g) start
  proxy-follows d (Some x) r b i Q f = f (λ z. Given h g z ⊎ (next_object e ≡ z))
      (Follows-script_register (λ z. Given h g z ⊎ (next_object e ≡ z)) (effects_of.with_object k proxy_kind 0 (Some x)) (graph.with_script e (proxy x)) d
      (Some (object (k.scripts_made + 1))) (Some (object (length g.scripts + 1)))
      (ap (λ j. Some (object (j + 1))) (t.beside.scripts_made ∙ ap length same)) (inr (ap (λ os. object (length os + 1)) same))
      (Follows-proxy (Given h g) k e x r (preserved-after g x) (preserve-well g well (Some x) (MadeScript-made g x i)) t))
    where
      k : Heap
      k = heap.preserve h (Some x)

      e : Graph
      e = graph.preserve g (Some x)

      t : Follows (Given h g) k e
      t = Follows-preserve (Given h g) h g (Some x) r b start

      same : e.scripts ≡ g.scripts
      same = scripts-preserve g (Some x)

  -- a script object made, and put into a register
  object-follows : (d : ℕ) (k : Heap) (e : Graph) → k.scripts_made ≡ h.scripts_made + 1 → (Q : Type 0) → Follows (λ z. Given h g z ⊎ (next_object g ≡ z)) k e →
      ((P : Name → Type 0) → Follows P (heap.set_register k (S d) (Some (object (h.scripts_made + 1)))) (graph.set_register e (S d) (Some (next_object g))) → Q) → Q
  object-follows d k e made Q t f = f (λ z. Given h g z ⊎ (next_object g ≡ z))
      (Follows-script_register (λ z. Given h g z ⊎ (next_object g ≡ z)) k e d (Some (object (h.scripts_made + 1))) (Some (next_object g))
      (ap (λ j. Some (object (j + 1))) s.scripts_made) (inr refl) t)

  -- WHATEVER IS DONE, THE HEAPS FOLLOW what it makes of the graph: whatever follows from that, follows.
  done_in-follows : (d : Deed) → MayBeDoneTo g d → (Q : Type 0) → ((P : Name → Type 0) → Follows P (done_in h d).heap (done_to g d) → Q) → Q
  unfolding done_in make_native done_to
  done_in-follows nothing_done m Q f = f (Given h g) start
  done_in-follows (native_made d n) m Q f = f (λ z. Given h g z ⊎ (next_native g ≡ z))
      (Follows-put (λ z. Given h g z ⊎ (next_native g ≡ z)) (effects_of.with_native h n) (graph.with_native g n) d
      (Some (native (h.natives_made + 1))) (Some (native (length g.natives + 1))) (ap (λ k. Some (native (k + 1))) s.natives_made) (inr refl)
      (Follows-native (Given h g) h g n well start))
  done_in-follows (plain_made d n) m Q f = object-follows d (effects_of.with_object h Plain n None) (graph.with_script g (plain_object (empty_slots n))) refl Q
      (Follows-plain (Given h g) h g n well start) f
  done_in-follows (map_made d) m Q f = object-follows d (effects_of.with_object h Map 0 None) (graph.with_script g weak_map) refl Q
      (Follows-map (Given h g) h g well start) f
  done_in-follows (proxy_made d x) m Q f = proxy-follows d x (up x m.0.reached) (behind x m.0) m.0.made Q f
  done_in-follows (native_held d x) m Q f = f (Given h g) (Follows-hold (Given h g) h g d x x refl (up x m.1.reached) start)
  done_in-follows (script_held d x) m Q f = f (Given h g) (Follows-hold_script (Given h g) h g d x x refl (up x m.reached) start)
  done_in-follows (script_copied d x) m Q f = f (Given h g) (Follows-script_register (Given h g) h g d x x refl (up x m.reached) start)
  done_in-follows (native_stored d i x) m Q f = f (Given h g)
      (Follows-store (Given h g) h g d i x x refl (up x m.0.reached) (held-given d) (native-preserved g d) start)
  done_in-follows (slot_moved d i r j) m Q f = f (Given h g) (Follows-move (Given h g) h g d i r j (slot_at (graph.objects_of g) (N r) j)
      (slot_at-alike (heap.objects_of h) (graph.objects_of g) a (N r) j) (up (slot_at (graph.objects_of g) (N r) j) (slot_at-reached g (N r) j)) (held-given d) (held-given r) native-preserved start)
  done_in-follows (script_stored x i y) m Q f = f (Given h g) (Follows-put_script (Given h g) h g x i y (up x m.0.reached) (behind x m.0) (up y m.1.reached) start)
  done_in-follows (reflector_held d x) m Q f = wrap d x m.reached m.made Q f
  done_in-follows (reflector_preserved x) m Q f = f (Given h g) (Follows-preserve (Given h g) h g x (up x m.reached) (behind x m) start)
  done_in-follows (entry_written x k v) m Q f = f (Given h g) (Follows-set_entry (Given h g) h g x k v (up x m.the_map.reached) (up k m.key.reached) (behind k m.key)
      (up v m.value.reached) (delegate-same k m.key) well.one_entry start)
  done_in-follows (object_exposed x) m Q f = f (Given h g) (Follows-left (Given h g) h (exposed h x) g (Leaves-exposed h x) start)
  done_in-follows (weak_written d x) m Q f = f (Given h g) (Follows-weak_register (Given h g) h g d x start)

  -- AFTER EACH COMMAND that is not refused the heaps follow what it makes of the graph.
  effects-follow : (c : Command) → IsTrue (in_range c) → IsTaken (graph.objects_of g) c → (Q : Type 0) →
      ((P : Name → Type 0) → Follows P (effects h c).heap (changed g c) → Q) → Q
  unfolding effects changed
  effects-follow c r t Q f = done_in-follows (deed_of (graph.objects_of g) c) (may_be_done_to g well c r t) Q
      (λ P k. f P (subst (λ d. Follows P (done_in h d).heap (done_to g (deed_of (graph.objects_of g) c))) (sym (deed_of-alike (heap.objects_of h) (graph.objects_of g) a c)) k))

-- the graph does not refuse what the heaps do not refuse
refused-alike : (h : Heap) (g : Graph) (c : Command) → StandsFor h g → refusal_of (heap.objects_of h) c ≡ None → refusal_of (graph.objects_of g) c ≡ None
refused-alike h g c s t = sym (refusal_of-alike (heap.objects_of h) (graph.objects_of g) (objects-stand h g s) c) ∙ t

-- what it makes of the graph
step-changed : (h : Heap) (g : Graph) (c : Command) → StandsFor h g → refusal_of (heap.objects_of h) c ≡ None → step g c ≡ changed g c
step-changed h g c s t = ap (λ o. unless_refused o g (changed g c)) (refused-alike h g c s t)

-- AFTER EACH COMMAND THAT IS NOT REFUSED THE HEAPS STAND FOR THE GRAPH'S STEP.
pub command-stands : {owned : List ℕ} (h : Heap) (g : Graph) (c : Command) → IsSound owned h → IsWellMade g → StandsFor h g → IsTrue (in_range c) →
    refusal_of (heap.objects_of h) c ≡ None → StandsFor (effects h c).heap (step g c)
command-stands h g c sound m s r t = effects-follow h g sound.well_formed m s c r (IsTaken-from (graph.objects_of g) c (refused-alike h g c s t)) (StandsFor (effects h c).heap (step g c))
    (λ P f. follows-stands P (effects h c).heap (step g c) (effects-sound h c sound r (IsTaken-from (heap.objects_of h) c t)).well_formed (step-well g m c r)
    (subst (Follows P (effects h c).heap) (sym (step-changed h g c s t)) f))

-- WHERE A DEED MAY BE DONE THE HEAPS STAND, once it is done, for what it makes of the graph.
deed-stands : {owned : List ℕ} (h : Heap) (g : Graph) (d : Deed) → IsSound owned h → IsWellMade g → StandsFor h g → MayBeDone h d → MayBeDoneTo g d →
    IsWellMade (done_to g d) × StandsFor (done_in h d).heap (done_to g d)
deed-stands h g d sound m s may to =
    let well : IsWellMade (done_to g d) = done_to-well g m d to in (
      well,
      done_in-follows h g sound.well_formed m s d to (StandsFor (done_in h d).heap (done_to g d))
          (λ P f. follows-stands P (done_in h d).heap (done_to g d) (done_in-sound h d sound may).well_formed well f),
    )

-- A COMMAND THAT IS NOT REFUSED LEAVES THEM STANDING wherever what it comes to may be done, also with a register that no command names.
pub done-stands : {owned : List ℕ} (h : Heap) (g : Graph) (c : Command) → IsSound owned h → IsWellMade g → StandsFor h g → refusal_of (heap.objects_of h) c ≡ None →
    MayBeDone h (deed_of (heap.objects_of h) c) → MayBeDoneTo g (deed_of (graph.objects_of g) c) → IsWellMade (step g c) × StandsFor (effects h c).heap (step g c)
unfolding effects changed
done-stands h g c sound m s t may to =
    let same = deed_of-alike (heap.objects_of h) (graph.objects_of g) (objects-stand h g s) c in
    subst (λ e. IsWellMade e × StandsFor (done_in h (deed_of (heap.objects_of h) c)).heap e) (sym (step-changed h g c s t))
    (subst (λ d. IsWellMade (done_to g (deed_of (graph.objects_of g) c)) × StandsFor (done_in h d).heap (done_to g (deed_of (graph.objects_of g) c))) (sym same)
    (deed-stands h g (deed_of (graph.objects_of g) c) sound m s (subst (MayBeDone h) same may) to))

-- What is freed

-- what a command tells as freed are natives that are there no more
effects-gone : (h : Heap) (c : Command) → TellsWhatIsGone (effects h c)
unfolding effects done_in deed_of make_native hold_native store_native move_slot
effects-gone h c = grind (arith, let_go-gone)

-- NOTHING THAT WAS FREED IS REACHED.
pub freed-unreached : {owned : List ℕ} (h : Heap) (g : Graph) (c : Command) (x : Name) → IsSound owned h → IsWellMade g → StandsFor h g → IsTrue (in_range c) →
    refusal_of (heap.objects_of h) c ≡ None → Among (Freed x) (effects h c).events → ¬ (Reached (step g c) x)
freed-unreached h g c x sound m s r t told d =
    let gone = effects-gone h c x told in
    let w : IsWellFormed (effects h c).heap = (effects-sound h c sound r (IsTaken-from (heap.objects_of h) c t)).well_formed in
    let there : Among x (names_there (effects h c).heap) = reached-there (effects h c).heap (step g c) x (command-stands h g c sound m s r t) d in
    gone.1 (subst (λ y. Among y (native_names (effects h c).heap)) gone.0.1
    (native-there (effects h c).heap gone.0.0 w (subst (λ y. Among y (names_there (effects h c).heap)) (sym gone.0.1) there)))

-- The empty heaps

-- nothing is reached in the empty graph
empty-unreached : (limits : Allowance) (x : Name) → Reached (empty_graph limits) x → ⊥
empty-unreached limits _ (held (N r) x e) = contents-empty_none bank_length x (contents-get (empty_slots bank_length) r x e)
empty-unreached limits _ (held (S r) x e) = contents-empty_none bank_length x (contents-get (empty_slots bank_length) r x e)
empty-unreached limits _ (held (W r) x e) = contents-get [] r x e
empty-unreached limits _ (edge x y d i) = empty-unreached limits x d
empty-unreached limits _ (value e i a b) = i
empty-unreached limits _ (key e d i q a b) = i

-- nothing is given by the empty heaps and the empty graph
empty-ungiven : (limits : Allowance) (x : Name) → Given (empty_heap limits) (empty_graph limits) x → ⊥
empty-ungiven limits x d = empty-unreached limits x (given_from-reached (empty_graph limits) x
    (given_from-grows (empty_graph limits) (roots_of (empty_graph limits) ++ []) (roots_of (empty_graph limits))
    (λ y i. ⊎_elim (λ r. given y r) (λ n. absurd n) (Among-append y (roots_of (empty_graph limits)) [] i)) x d))

-- THE EMPTY HEAPS STAND FOR THE EMPTY GRAPH.
pub empty-stands : (limits : Allowance) → StandsFor (empty_heap limits) (empty_graph limits)
empty-stands limits = grind (arith, empty-ungiven, numbered-nothing)
