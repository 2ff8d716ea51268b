-- NOTHING IS REACHED AGAIN: what a step of the graph reaches was reached before it, or is what the command makes or wraps.
use Rattle.std.proofs.Common.{arith, ◌≡◌, ◌≢◌, ℕ, ◌+◌, true, false, List, [], ◌∷◌, length, Option, Some, None, is_some, option_map, refl, sym, ◌∙◌, ap, subst, inl, inr, ◌⊎◌, ⊎_elim}
use Rattle.std.specs.Prelude.{IsTrue}
use Rattle.std.specs.Option.{option_and_then}
use Rattle.std.proofs.lemmas.Bool.{true≢false, false≢true, cases_Bool}
use Rattle.cc_lists.specs.Members.{Among}
use Rattle.cc_lists.proofs.Members.{Among-append, Among-right, Among-filtered}
use Rattle.cc_names.specs.declared.name.Name.{Name}
use Rattle.cc_names.specs.declared.name.Name.TheVariants as name
use Rattle.cc_names.specs.declared.register.Reg.TheVariants.{N, S, W}
use Rattle.cc_names.specs.Names.{native, object, reflector}
use Rattle.cc_names.proofs.NameTests.{same_name-true, same_name-refl}
use Rattle.cc_model.specs.Slots.{Slots, contents, empty_slots, reflector_slots}
use Rattle.cc_model.specs.Entries.{Entry, with_entry, without_entry}
use Rattle.cc_model.specs.Checks.{slot_at, reflector_of}
use Rattle.cc_model.specs.Deeds.{Deed, nothing_done, native_made, plain_made, map_made, proxy_made, native_held, script_held, script_copied, native_stored, slot_moved, script_stored, reflector_held, reflector_preserved, entry_written, object_exposed, weak_written}
use Rattle.cc_model.specs.Graph as graph
use Rattle.cc_model.specs.Graph.{Graph, GraphNative, plain_object, weak_map, proxy, native_in, done_to, delegate_in, slots_or_blank}
use Rattle.cc_model.specs.Heap.{Heap, empty_heap}
use Rattle.cc_model.specs.Reached.{Reached, held, edge, value, key}
use Rattle.cc_model.specs.WellMade.{IsWellMade, IsMadeEntry, was_made}
use Rattle.cc_model.specs.StandsFor.{Shape, shape_in, shape_of_native, shape_of_reflector, script_shape, ArePart}
use Rattle.cc_laws_heap.proofs.Holds.{OfSome, OfSome-then, contents-get, contents-place}
use Rattle.cc_laws_heap.proofs.Shapes.{IsOfNone, delegate_of_shape, delegate_in-shape, edges_of_some, edges_of-shape, further_of}
use Rattle.cc_laws_heap.proofs.ReachedAlike.{edges_of-made}
use Rattle.cc_laws_heap.proofs.Following.{Follows, IsBlank, IsClosed, shape_in-reflector}
use Rattle.cc_laws_heap.proofs.Changing.{unchanged, Follows-changed, GraphChanges, IsChange-unchanged, option_map-same}
use Rattle.cc_laws_heap.proofs.Writing.{SameGraphBeside-native, numbered-changed}
use Rattle.cc_laws_heap.proofs.Numbered.{numbered-change, numbered-change_other}
use Rattle.cc_laws_heap.proofs.GraphWrites.{set_native-is}
use Rattle.cc_laws_heap.proofs.GraphParts.{is_some-found, reflector-made}
use Rattle.cc_laws_heap.proofs.MadeAlike.{IsMade, Follows-made}
use Rattle.cc_laws_heap.proofs.NewObjects.{next_native, next_object, Follows-native, Follows-plain, Follows-map, Follows-proxy, unmade-no_entry, unmade-no_delegate}
use Rattle.cc_laws_heap.proofs.SlotsWritten.{IsPreserved, Follows-slot}
use Rattle.cc_laws_heap.proofs.EntriesWritten.{Follows-entries}
use Rattle.cc_laws_heap.proofs.EntryLists.{with_entry-cases}
use Rattle.cc_laws_heap.proofs.StepsAlike.{Follows-script_register, Follows-hold, Follows-preserve, Follows-put_script, preserved-after}
use Rattle.cc_laws_heap.proofs.ReachedReads.{HasBehind, register-reached, slot_at-reached, script-behind}
use Rattle.cc_laws_heap.proofs.GraphCommands.{preserve-well, scripts-preserve}
use Rattle.cc_laws_heap.proofs.GraphReads.{MadeScript-made, native_register-made}
use Rattle.cc_laws_heap.proofs.MayBeDoneTo.{IsScriptNamed, IsNativeNamed, MayBeDoneTo}
use Rattle.cc_laws_heap.proofs.Making.{contents-empty_none}

-- what is new after a deed, where anything is
abbrev pub new_by : Graph → Deed → Option Name
new_by g (native_made d n) = Some (next_native g)
new_by g (plain_made d n) = Some (next_object g)
new_by g (map_made d) = Some (next_object g)
new_by g (proxy_made d x) = Some (next_object g)
new_by g (reflector_held d x) = reflector_of x
new_by g _ = None

-- a reflector that is not preserved is blank, and all that is reached was reached before, or is new
pub record ReachesNoMore (g e : Graph) (new : Option Name) : Type 0 where
  pub blank : IsBlank e
  pub reached : (x : Name) → Reached e x → Reached g x ⊎ (new ≡ Some x)

-- Heaps without objects follow any graph

abbrev husk : Graph → Heap
husk g = record (empty_heap g.limits) {
  native_registers = g.native_registers;
  script_registers = g.script_registers;
  entries = g.entries;
  natives_made = length g.natives;
  scripts_made = length g.scripts;
}

ArePart-same : {X : Type 0} (xs : List X) → ArePart xs xs
ArePart-same [] = tt
ArePart-same (x ∷ xs) = inl (refl, ArePart-same xs)

husk-follows : (P : Name → Type 0) (g : Graph) → IsBlank g → IsClosed P g → Follows P (husk g) g
husk-follows P g b c = record {
  beside = record { native_registers = refl; script_registers = refl; limits = refl; natives_made = refl; scripts_made = refl };
  objects = record {
    natives = λ n m. absurd m;
    living = λ n m u. absurd m;
    spent = λ n m u p. absurd m;
    alike = λ n m. absurd m;
    scripts = λ o m. absurd m;
    named = λ o m. absurd m;
  };
  entries = record { values = λ m k p q. refl; part = ArePart-same g.entries };
  blank = b;
  closed = c;
}

-- what is reached has all that the registers reach
reached-closed : (g : Graph) → IsClosed (Reached g) g
reached-closed g = record {
  native_registers = λ x m. let k = contents-place g.native_registers x m in held (N k.0) x k.1;
  script_registers = λ x m. let k = contents-place g.script_registers x m in held (S k.0) x k.1;
  edges = λ x y t d e m. edge x y d (subst (Among y) (sym (edges_of-made g x t e)) m);
  entries = λ e m a b. value e m a b;
  keys = λ e d m q a b. key e d m q a b;
}

-- and nothing else
closed-reached : (P : Name → Type 0) (g : Graph) → IsClosed P g → (x : Name) → Reached g x → P x
closed-reached P g c _ (held (N r) x e) = c.native_registers x (contents-get g.native_registers r x e)
closed-reached P g c _ (held (S r) x e) = c.script_registers x (contents-get g.script_registers r x e)
closed-reached P g c _ (held (W r) x e) = absurd (contents-get [] r x e)
closed-reached P g c _ (edge x y d i) = go (closed-reached P g c x d) (shape_in g x) refl (subst (Among y) (edges_of-shape g x) i)
  where
    go : P x → (o : Option Shape) → shape_in g x ≡ o → Among y (edges_of_some x o) → P y
    go p None e j = absurd j
    go p (Some s) e j = c.edges x y s p e j
closed-reached P g c _ (value e i a b) = c.entries e i (closed-reached P g c e.the_map a) (closed-reached P g c e.key b)
closed-reached P g c _ (key e d i q a b) = c.keys e d i q (closed-reached P g c e.the_map a) (closed-reached P g c d b)

-- a graph that heaps follow over what was reached and what is new, reaches no more
by-following : (P : Name → Type 0) (h : Heap) (g e : Graph) (new : Option Name) → ((x : Name) → P x → Reached g x ⊎ (new ≡ Some x)) → Follows P h e → ReachesNoMore g e new
by-following P h g e new old f = record { blank = f.blank; reached = λ x r. old x (closed-reached P e f.closed x r) }

one-new : (g : Graph) (y : Name) (x : Name) → Reached g x ⊎ (y ≡ x) → Reached g x ⊎ (Some y ≡ Some x)
one-new g y x t = ⊎_elim (λ r. inl r) (λ e. inr (ap (λ z. Some z) e)) t

-- A reflector made, or found

-- a graph in which native k was wrapped
abbrev with_wrapped : Graph → ℕ → Graph
with_wrapped g k = graph.set_native g k (option_map graph.as_wrapped (native_in g k))

-- nothing but its reflector changes its shape
wrapped-others : (g : Graph) (k : ℕ) (z : Name) → z ≢ reflector k → shape_in (with_wrapped g k) z ≡ shape_in g z
wrapped-others g k z d = grind (arith, set_native-is, numbered-changed, numbered-change_other)

-- and that has slots
wrapped-made : (g : Graph) (k : ℕ) (n : GraphNative) → native_in g k ≡ Some n → shape_in (with_wrapped g k) (reflector k) ≡ Some (script_shape (Some (slots_or_blank n.reflector)) None)
wrapped-made g k n i = grind (arith, set_native-is, numbered-change)

-- the delegate of an entry is one of an object of the graph
entry-delegate : (g : Graph) (e : Entry) → IsMadeEntry g e → (x : Name) → IsOfNone g x → ¬ (e.delegate ≡ Some x)
entry-delegate g e m x none q = go (shape_in g e.key) refl (sym (delegate_in-shape g e.key) ∙ (sym m.delegate ∙ q))
  where
    go : (o : Option Shape) → shape_in g e.key ≡ o → delegate_of_shape o ≡ Some x → ⊥
    go None i r = cc
    go (Some s) i r = none e.key s i r

-- the shape of a blank reflector
abbrev blank_shape : Shape
blank_shape = script_shape (Some (empty_slots reflector_slots)) None

module _ (g : Graph) (k : ℕ) (w : IsWellMade g) (b : IsBlank g) (d : Reached g (native k)) (n : GraphNative) (i : native_in g k ≡ Some n) where
  follows : Follows (Reached g) (husk g) g
  follows = husk-follows (Reached g) g b (reached-closed g)

  -- the native has its shape
  made : shape_in g (native k) ≡ Some (shape_of_native n)
  made = ap (option_map shape_of_native) i

  -- Where the reflector is preserved it is reached, and nothing changes

  preserved-reached : n.preserved ≡ true → Reached g (reflector k)
  preserved-reached p = follows.closed.edges (native k) (reflector k) (shape_of_native n) d made
      (Among-right (reflector k) (contents n.slots) (further_of (native k) (shape_of_native n)) (subst (λ b. Among (reflector k) (elim b [ true ↦ reflector k ∷ [] | false ↦ [] ])) (sym p) (inl refl)))

  same-shape : (t : Shape) → shape_in g (reflector k) ≡ Some t → script_shape (Some (slots_or_blank n.reflector)) None ≡ t
  same-shape t e = grind (arith, shape_in-reflector)

  unchanged-graph : (t : Shape) → shape_in g (reflector k) ≡ Some t → GraphChanges unchanged g (with_wrapped g k)
  unchanged-graph t e z = grind (arith, same_name-true, wrapped-made, same-shape, option_map-same, wrapped-others, same_name-refl)

  has-shape : n.preserved ≡ true → (t : Shape) × (shape_in g (reflector k) ≡ Some t)
  has-shape p = let m = reflector-made g k (w.preserved k n i p) in
      let slots = is_some-found m.0.reflector m.2 in
      (script_shape (Some slots.0) None, ap (option_and_then shape_of_reflector) m.1 ∙ ap (option_map (λ l. script_shape (Some l) None)) slots.1)

  follows-preserved : n.preserved ≡ true → Follows (Reached g) (husk g) (with_wrapped g k)
  follows-preserved p = let t = has-shape p in
      Follows-changed (Reached g) unchanged (husk g) (husk g) g (with_wrapped g k)
      (record { natives = λ n m. absurd m; scripts = λ o m. absurd m }) (unchanged-graph t.0 t.1)
      (record { native_registers = refl; script_registers = refl; entries = refl; natives_made = refl; scripts_made = refl; limits = refl })
      (SameGraphBeside-native g k graph.as_wrapped) (IsChange-unchanged (Reached g) (husk g) g follows) follows

  -- Where it is not preserved, it is blank

  kept-shape : (slots : Slots) → n.reflector ≡ Some slots → shape_in g (reflector k) ≡ Some (script_shape (Some slots) None)
  kept-shape slots r = ap (option_and_then shape_of_reflector) i ∙ ap (option_map (λ l. script_shape (Some l) None)) r

  blank-slots : n.preserved ≡ false → slots_or_blank n.reflector ≡ empty_slots reflector_slots
  blank-slots p = go n.reflector refl
    where
      go : (o : Option Slots) → n.reflector ≡ o → slots_or_blank o ≡ empty_slots reflector_slots
      go None r = refl
      go (Some slots) r = let same = (b k (shape_of_native n) (script_shape (Some slots) None) made p (kept-shape slots r)).0 in cc

  -- it was never made, or stands for a blank one
  unmade : n.reflector ≡ None → ¬ (IsTrue (was_made g (reflector k)))
  unmade r t = true≢false (sym t ∙ (ap (λ o. is_some (option_and_then (λ (n : GraphNative). n.reflector) o)) i ∙ ap is_some r))

  no-delegate : n.preserved ≡ false → IsOfNone g (reflector k)
  no-delegate p = go n.reflector refl
    where
      go : (o : Option Slots) → n.reflector ≡ o → IsOfNone g (reflector k)
      go None r = unmade-no_delegate g w (reflector k) (unmade r)
      go (Some slots) r = (b k (shape_of_native n) (script_shape (Some slots) None) made p (kept-shape slots r)).2

  no-entry : n.preserved ≡ false → (e : Entry) → Among e g.entries → (e.the_map ≢ reflector k) × (e.key ≢ reflector k) × (e.delegate ≢ Some (reflector k))
  no-entry p = go n.reflector refl
    where
      go : (o : Option Slots) → n.reflector ≡ o → (e : Entry) → Among e g.entries → (e.the_map ≢ reflector k) × (e.key ≢ reflector k) × (e.delegate ≢ Some (reflector k))
      go None r = unmade-no_entry g w (reflector k) (unmade r)
      go (Some slots) r = λ e j. (
        (λ q. apart (sym (w.entries e j).the_map.1 ∙ q)),
        (b k (shape_of_native n) (script_shape (Some slots) None) made p (kept-shape slots r)).1 e j,
        (λ q. entry-delegate g e (w.entries e j) (reflector k) (no-delegate p) q),
      )
        where
          apart : {a b : ℕ} → object a ≡ reflector b → ⊥
          apart q = cc

  is-made : n.preserved ≡ false → IsMade (Reached g) (husk g) (husk g) g (with_wrapped g k) (reflector k) blank_shape
  is-made p = record {
    natives = λ n l. inl l;
    scripts = λ o l. inl l;
    others = wrapped-others g k;
    made = wrapped-made g k n i ∙ ap (λ (l : Slots). Some (script_shape (Some l) None)) (blank-slots p);
    before = λ t e. (sym (same-shape t e) ∙ ap (λ (l : Slots). script_shape (Some l) None) (blank-slots p), refl);
    targets = λ y l. ⊎_elim (λ a. absurd (contents-empty_none reflector_slots y a)) (λ r. ⊎_elim (λ q. subst (Reached g) q d) (λ q. absurd q) r)
        (Among-append y (contents (empty_slots reflector_slots)) (native k ∷ []) l);
    no_entry = no-entry p;
    no_delegate = no-delegate p;
    blank = λ j e. refl;
    delegate = λ j a q. absurd (cc);
    beside = let s = SameGraphBeside-native g k graph.as_wrapped in record {
      native_registers = sym s.native_registers;
      script_registers = sym s.script_registers;
      limits = sym s.limits;
      natives_made = sym s.natives_made;
      scripts_made = sym s.scripts_made;
    };
    heap_entries = refl;
    graph_entries = (SameGraphBeside-native g k graph.as_wrapped).entries;
    native_registers = (SameGraphBeside-native g k graph.as_wrapped).native_registers;
    script_registers = (SameGraphBeside-native g k graph.as_wrapped).script_registers;
  }

  -- A REFLECTOR MADE, OR FOUND, and put into a register
  wrapped-reaches : (r : ℕ) → ReachesNoMore g (graph.set_register (with_wrapped g k) (S r) (Some (reflector k))) (Some (reflector k))
  wrapped-reaches r = ⊎_elim
      (λ p. by-following (Reached g) _ g _ (Some (reflector k)) (λ x a. inl a)
      (Follows-script_register (Reached g) (husk g) (with_wrapped g k) r (Some (reflector k)) (Some (reflector k)) refl (preserved-reached p) (follows-preserved p)))
      (λ p. by-following (λ z. Reached g z ⊎ (reflector k ≡ z)) _ g _ (Some (reflector k)) (one-new g (reflector k))
      (Follows-script_register (λ z. Reached g z ⊎ (reflector k ≡ z)) (husk g) (with_wrapped g k) r (Some (reflector k)) (Some (reflector k)) refl (inr refl)
      (Follows-made (Reached g) (husk g) (husk g) g (with_wrapped g k) (reflector k) blank_shape (is-made p) follows)))
      (cases_Bool n.preserved)

module _ (g : Graph) (w : IsWellMade g) (b : IsBlank g) where
  start : Follows (Reached g) (husk g) g
  start = husk-follows (Reached g) g b (reached-closed g)

  no-more : (h : Heap) (e : Graph) → Follows (Reached g) h e → ReachesNoMore g e None
  no-more h e f = by-following (Reached g) h g e None (λ x r. inl r) f

  one-more : (h : Heap) (e : Graph) (y : Name) → Follows (λ z. Reached g z ⊎ (y ≡ z)) h e → ReachesNoMore g e (Some y)
  one-more h e y f = by-following (λ z. Reached g z ⊎ (y ≡ z)) h g e (Some y) (one-new g y) f

  -- what a native register holds has no native whose reflector it is
  native-preserved : (f : Graph) (d : ℕ) → OfSome (IsPreserved f) (graph.register g (N d))
  native-preserved f d = grind (arith, OfSome-then, native_register-made)

  -- the native behind it, where it is a reflector, is reached
  behind : (x : Option Name) → IsScriptNamed g x → OfSome (HasBehind (Reached g)) x
  behind x n = script-behind g x n.made n.reached

  -- a script object made, and put into a register
  object-made : (h : Heap) (e : Graph) (d : ℕ) → Follows (λ z. Reached g z ⊎ (next_object g ≡ z)) h e →
      ReachesNoMore g (graph.set_register e (S d) (Some (next_object g))) (Some (next_object g))
  object-made h e d f = one-more _ (graph.set_register e (S d) (Some (next_object g))) (next_object g)
      (Follows-script_register (λ z. Reached g z ⊎ (next_object g ≡ z)) h e d (Some (next_object g)) (Some (next_object g)) refl (inr refl) f)

  -- a proxy made of what a register holds, which is preserved first where it is a reflector
  proxy-reaches : (d : ℕ) (x : Option Name) → IsScriptNamed g x → ReachesNoMore g (graph.with_proxy g d x) (Some (next_object g))
  proxy-reaches d None n = let t = no-more (husk g) g start in record { blank = t.blank; reached = λ y r. inl (closed-reached (Reached g) g (reached-closed g) y r) }
  proxy-reaches d (Some x) n = subst (λ y. ReachesNoMore g (graph.set_register (graph.with_script e (proxy x)) (S d) (Some y)) (Some y)) new
      (one-more _ (graph.set_register (graph.with_script e (proxy x)) (S d) (Some (next_object e))) (next_object e)
      (Follows-script_register (λ z. Reached g z ⊎ (next_object e ≡ z)) _ (graph.with_script e (proxy x)) d (Some (next_object e)) (Some (next_object e)) refl (inr refl)
      (Follows-proxy (Reached g) _ e x n.reached (preserved-after g x) (preserve-well g w (Some x) (MadeScript-made g x n.made))
      (Follows-preserve (Reached g) (husk g) g (Some x) n.reached (behind (Some x) n) start))))
    where
      e : Graph
      e = graph.preserve g (Some x)

      new : next_object e ≡ next_object g
      new = ap (λ os. object (length os + 1)) (scripts-preserve g (Some x))

  -- a slot of a native emptied, and one written
  move-reaches : (d i s j : ℕ) → ReachesNoMore g (graph.move_slot g (graph.register g (N d)) i (graph.register g (N s)) j (slot_at (graph.objects_of g) (N s) j)) None
  move-reaches d i s j = no-more _ _
      (Follows-slot (Reached g) _ emptied (graph.register g (N d)) i (slot_at (graph.objects_of g) (N s) j) (register-reached g (N d)) (slot_at-reached g (N s) j)
      (native-preserved emptied d)
      (Follows-slot (Reached g) (husk g) g (graph.register g (N s)) j None (register-reached g (N s)) tt (native-preserved g s) start))
    where
      emptied : Graph
      emptied = graph.set_slot g (graph.register g (N s)) j None

  -- it leaves the entries
  preserve-entries : (x : Option Name) → (graph.preserve g x).entries ≡ g.entries
  preserve-entries x = grind (arith, SameGraphBeside-native)

  -- an entry set, its key preserved; or taken out
  entry-reaches : (m k v : Option Name) → IsScriptNamed g m → IsScriptNamed g k → IsScriptNamed g v → ReachesNoMore g (graph.set_entry g m k v) None
  entry-reaches None k v p q r = no-more (husk g) g start
  entry-reaches (Some m) None v p q r = no-more (husk g) g start
  entry-reaches (Some m) (Some k) None p q r = no-more _ _
      (Follows-entries (Reached g) (husk g) g (without_entry g.entries m k) (without_entry g.entries m k)
      (record { values = λ a b x y. refl; part = ArePart-same (without_entry g.entries m k) })
      (λ e i. inl (Among-filtered _ e g.entries i)) start)
  entry-reaches (Some m) (Some k) (Some v) p q r = no-more _ _
      (Follows-entries (Reached g) _ (graph.preserve g (Some k)) es es
      (record { values = λ a b x y. refl; part = ArePart-same es })
      (λ e i. ⊎_elim
      (λ s. inr (
        subst (Reached g) (ap (λ (d : Entry). d.value) s) r.reached,
        subst (Reached g) (ap (λ (d : Entry). d.key) s) q.reached,
        subst (IsPreserved (graph.preserve g (Some k))) (ap (λ (d : Entry). d.key) s) (preserved-after g k),
      ))
      (λ old. inl (subst (Among e) (sym (preserve-entries (Some k))) old))
      (with_entry-cases g.entries m k (delegate_in g k) v e i))
      (Follows-preserve (Reached g) (husk g) g (Some k) q.reached (behind (Some k) q) start))
    where
      es : List Entry
      es = with_entry g.entries m k (delegate_in g k) v

  -- a reflector made, or found
  wrap-reaches : (d : ℕ) (x : Option Name) → IsNativeNamed g x → ReachesNoMore g (graph.set_register (graph.wrapped g x) (S d) (reflector_of x)) (reflector_of x)
  wrap-reaches d None n = no-more _ _ (Follows-script_register (Reached g) (husk g) g d None None refl tt start)
  wrap-reaches d (Some (name.Native k)) n = (let o = is_some-found (native_in g k.0) n.made in wrapped-reaches g k.0 w b n.reached o.0 o.1 d)
  wrap-reaches d _ n = absurd (false≢true n.made)

  -- what weak registers note is no root
  weak-reaches : (k : ℕ) (x : Option Name) → ReachesNoMore g (graph.set_weak g k x) None
  weak-reaches k x = let c = reached-closed g in
      record {
        blank = b;
        reached = λ y r. inl (closed-reached (Reached g) (graph.set_weak g k x)
            (record { native_registers = c.native_registers; script_registers = c.script_registers; edges = c.edges; entries = c.entries; keys = c.keys }) y r);
      }

  -- WHAT IS DONE REACHES NO MORE.
  pub done_to-reaches : (d : Deed) → MayBeDoneTo g d → ReachesNoMore g (done_to g d) (new_by g d)
  unfolding done_to
  done_to-reaches nothing_done m = no-more (husk g) g start
  done_to-reaches (native_made d n) m = one-more _ _ (next_native g)
      (Follows-hold (λ z. Reached g z ⊎ (next_native g ≡ z)) _ (graph.with_native g n) d (Some (next_native g)) (Some (next_native g)) refl (inr refl)
      (Follows-native (Reached g) (husk g) g n w start))
  done_to-reaches (plain_made d n) m = object-made _ (graph.with_script g (plain_object (empty_slots n))) d (Follows-plain (Reached g) (husk g) g n w start)
  done_to-reaches (map_made d) m = object-made _ (graph.with_script g weak_map) d (Follows-map (Reached g) (husk g) g w start)
  done_to-reaches (proxy_made d x) m = proxy-reaches d x m.0
  done_to-reaches (native_held d x) m = no-more _ _ (Follows-hold (Reached g) (husk g) g d x x refl m.1.reached start)
  done_to-reaches (script_held d x) m = no-more _ _ (Follows-script_register (Reached g) (husk g) g d x x refl m.reached start)
  done_to-reaches (script_copied d x) m = no-more _ _ (Follows-script_register (Reached g) (husk g) g d x x refl m.reached start)
  done_to-reaches (native_stored d i x) m = no-more _ _
      (Follows-slot (Reached g) (husk g) g (graph.register g (N d)) i x (register-reached g (N d)) m.0.reached (native-preserved g d) start)
  done_to-reaches (slot_moved d i s j) m = move-reaches d i s j
  done_to-reaches (script_stored x i y) m = no-more _ _ (Follows-put_script (Reached g) (husk g) g x i y m.0.reached (behind x m.0) m.1.reached start)
  done_to-reaches (reflector_held d x) m = wrap-reaches d x m
  done_to-reaches (reflector_preserved x) m = no-more _ _ (Follows-preserve (Reached g) (husk g) g x m.reached (behind x m) start)
  done_to-reaches (entry_written a k v) m = entry-reaches a k v m.the_map m.key m.value
  done_to-reaches (object_exposed x) m = no-more (husk g) g start
  done_to-reaches (weak_written k x) m = weak-reaches k x
