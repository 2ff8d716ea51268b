-- WHAT THE GRAPH GIVES FROM NAMES IT GIVES AFTER A COMMAND, from these and what was reached before it: an edge or an entry goes only from what
-- registers reach, and then what it led to was reached too.
use Rattle.std.proofs.Common.{arith, ◌≡◌, ℕ, ◌+◌, Bool, true, false, List, [], ◌∷◌, length, set, Option, Some, None, option_map, refl, sym, ◌∙◌, ap, subst, inl, inr, ◌⊎◌, ⊎_elim, if◌then◌else◌}
use Rattle.cc_lists.specs.Members.{Among}
use Rattle.cc_lists.proofs.Members.{Among-left, Among-right, Among-append}
use Rattle.cc_names.specs.declared.name.Name.{Name}
use Rattle.cc_names.specs.declared.name.Name.TheVariants as name
use Rattle.cc_names.specs.declared.register.Reg.{Reg}
use Rattle.cc_names.specs.declared.register.Reg.TheVariants.{N, S, W}
use Rattle.cc_names.specs.Names.{native, object, reflector, same_name}
use Rattle.cc_names.proofs.NameTests.{same_name-true}
use Rattle.cc_model.specs.declared.command.Command.{Command}
use Rattle.cc_model.specs.declared.command.Command.TheVariants.{Drop, Get, Put, SetEntry}
use Rattle.cc_model.specs.declared.item.Refusal.{Refusal}
use Rattle.cc_model.specs.declared.item.Reply.{Reply}
use Rattle.cc_model.specs.Mutating.{Class, reads_weak, class_of}
use Rattle.cc_model.specs.Answers.{Answer}
use Rattle.cc_model.specs.Asks.{Ask, taken}
use Rattle.cc_model.specs.Slots.{Slots, contents, empty_slots}
use Rattle.cc_model.specs.Entries.{Entry}
use Rattle.cc_model.specs.Checks.{slots_or_none, refusal_of, slot_at, reflector_of}
use Rattle.cc_model.specs.Deeds.{Deed, nothing_done, native_made, plain_made, map_made, proxy_made, native_held, script_held, script_copied, native_stored, slot_moved, script_stored, reflector_held, reflector_preserved, entry_written, object_exposed, weak_written, deed_of}
use Rattle.cc_model.specs.Graph.{Graph, GraphScript, plain_object, weak_map, proxy, native_in, script_in, delegate_in, register, set_register, set_weak, objects_of, set_slot, preserve, wrapped, set_entry, with_native, with_script, with_proxy, with_slot, with_reflector_slot, with_script_slot, as_preserved, as_wrapped, done_to, changed, unless_refused, step}
use Rattle.cc_model.specs.Reached.{Reached, edge, value, edges_of}
use Rattle.cc_model.specs.Given.{GivenFrom, given, given_edge, given_value, given_key}
use Rattle.cc_model.specs.Lawful.{State, next, noted_in, step_of, step_with, graph_after, is_without_memory}
use Rattle.cc_model.specs.StandsFor.{Shape, shape_in, shape_of_object, script_shape}
use Rattle.cc_laws_heap.proofs.Holds.{OfSome}
use Rattle.cc_laws_heap.proofs.ReachedReads.{register-reached}
use Rattle.cc_laws_heap.proofs.Shapes.{edges_of_shape, edges_of_some, edges_of-shape, further_of}
use Rattle.cc_laws_heap.proofs.Numbered.{numbered-push_old}
use Rattle.cc_laws_heap.proofs.GraphWrites.{set_native-is}
use Rattle.cc_laws_heap.proofs.Changing.{GraphChanges}
use Rattle.cc_laws_heap.proofs.Writing.{changed_at, with_slot_written, with_preserved, numbered-changed, GraphChanges-native, GraphChanges-reflector, GraphChanges-script}
use Rattle.cc_laws_run.specs.Returning.{MayBeBack}
use Rattle.cc_laws_run.proofs.TouchedCommands.{with_entry-other, without_entry-other}

-- the second graph has all edges and entries of the first, but for edges of what `P` holds of and entries of such a map and such a key
pub record KeepsBut (P : Name → Type 0) (g e : Graph) : Type 0 where
  pub edges : (x y : Name) → Among y (edges_of g x) → Among y (edges_of e x) ⊎ P x
  pub entries : (d : Entry) → Among d g.entries → Among d e.entries ⊎ (P d.the_map × P d.key)

module _ (P : Name → Type 0) where
  -- a graph has all edges and entries of its own
  pub KeepsBut-refl : (g : Graph) → KeepsBut P g g
  KeepsBut-refl g = record { edges = λ x y m. inl m; entries = λ d m. inl m }

  -- two changes one after the other keep what each keeps
  KeepsBut-then : (g e f : Graph) → KeepsBut P g e → KeepsBut P e f → KeepsBut P g f
  KeepsBut-then g e f a b = record {
    edges = λ x y m. ⊎_elim (λ l. b.edges x y l) (λ r. inr r) (a.edges x y m);
    entries = λ d m. ⊎_elim (λ l. b.entries d l) (λ r. inr r) (a.entries d m);
  }

  -- a graph with the same edges and the same entries keeps them all
  KeepsBut-same : (g e : Graph) → ((x : Name) → edges_of e x ≡ edges_of g x) → e.entries ≡ g.entries → KeepsBut P g e
  KeepsBut-same g e same entries = record {
    edges = λ x y m. inl (subst (Among y) (sym (same x)) m);
    entries = λ d m. inl (subst (Among d) (sym entries) m);
  }

  -- a register written keeps all edges and entries
  KeepsBut-register : (g : Graph) (r : Reg) (x : Option Name) → KeepsBut P g (set_register g r x)
  KeepsBut-register g (N d) x = KeepsBut-same g (set_register g (N d) x) same refl
    where
      same : (y : Name) → edges_of (set_register g (N d) x) y ≡ edges_of g y
      same (name.Native k) = refl
      same (name.Script k) = refl
      same (name.Reflector k) = refl
  KeepsBut-register g (S d) x = KeepsBut-same g (set_register g (S d) x) same refl
    where
      same : (y : Name) → edges_of (set_register g (S d) x) y ≡ edges_of g y
      same (name.Native k) = refl
      same (name.Script k) = refl
      same (name.Reflector k) = refl
  KeepsBut-register g (W d) x = KeepsBut-refl g

  -- what has a shape keeps its edges where the shape does
  KeepsBut-shapes : (g e : Graph) → e.entries ≡ g.entries →
      ((x : Name) (s : Shape) → shape_in g x ≡ Some s →
      (t : Shape) × (shape_in e x ≡ Some t) × ((y : Name) → Among y (edges_of_shape x s) → Among y (edges_of_shape x t) ⊎ P x)) → KeepsBut P g e
  KeepsBut-shapes g e entries shapes = record {
    edges = λ x y m. go x y (shape_in g x) refl (subst (Among y) (edges_of-shape g x) m);
    entries = λ d m. inl (subst (Among d) (sym entries) m);
  }
    where
      go : (x y : Name) (o : Option Shape) → shape_in g x ≡ o → Among y (edges_of_some x o) → Among y (edges_of e x) ⊎ P x
      go x y None q m = absurd m
      go x y (Some s) q m =
          let t = shapes x s q in
          ⊎_elim (λ l. inl (subst (Among y) (sym (edges_of-shape e x ∙ ap (edges_of_some x) t.1)) l)) (λ r. inr r) (t.2 y m)

  -- where the shape of one object changes, all others keep their edges
  KeepsBut-changed : (g e : Graph) (z : Name) (f : Shape → Shape) → GraphChanges (changed_at z f) g e → e.entries ≡ g.entries →
      ((s : Shape) (y : Name) → Among y (edges_of_shape z s) → Among y (edges_of_shape z (f s)) ⊎ P z) → KeepsBut P g e
  KeepsBut-changed g e z f graph entries kept = KeepsBut-shapes g e entries
      (λ x s q. (changed_at z f x s, graph x ∙ ap (option_map (changed_at z f x)) q, λ y m. go x s y m (same_name x z) refl))
    where
      go : (x : Name) (s : Shape) (y : Name) → Among y (edges_of_shape x s) → (b : Bool) → same_name x z ≡ b →
          Among y (edges_of_shape x (if b then f s else s)) ⊎ P x
      go x s y m true q =
          let same : x ≡ z = same_name-true x z q in
          subst (λ v. Among y (edges_of_shape v (f s)) ⊎ P v) (sym same) (kept s y (subst (λ v. Among y (edges_of_shape v s)) same m))
      go x s y m false q = inl m

  -- a slot written keeps the edges of all that `P` does not hold of, where it holds of the slot's object
  KeepsBut-slot : (g : Graph) (o : Option Name) (i : ℕ) (x : Option Name) → OfSome P o → KeepsBut P g (set_slot g o i x)
  KeepsBut-slot g None i x p = KeepsBut-refl g
  KeepsBut-slot g (Some (name.Native k)) i x p = KeepsBut-changed g (set_slot g (Some (name.Native k)) i x) (native k.0) (with_slot_written i x)
      (GraphChanges-native g k.0 (with_slot i x) (with_slot_written i x) (λ n. refl) (λ n. refl))
      (ap (λ (e : Graph). e.entries) (set_native-is g k.0 (option_map (with_slot i x) (native_in g k.0))))
      (λ s y m. inr p)
  KeepsBut-slot g (Some (name.Script k)) i x p = KeepsBut-changed g (set_slot g (Some (name.Script k)) i x) (object k.0) (with_slot_written i x)
      (GraphChanges-script g k.0 (with_script_slot i x) (with_slot_written i x) made)
      (entries-script (script_in g k.0))
      (λ s y m. inr p)
    where
      made : (o : GraphScript) → shape_of_object (with_script_slot i x o) ≡ with_slot_written i x (shape_of_object o)
      made o = grind arith

      entries-script : (o : Option GraphScript) → (set_slot g (Some (name.Script k)) i x).entries ≡ g.entries
      entries-script o = grind arith
  KeepsBut-slot g (Some (name.Reflector k)) i x p = KeepsBut-changed g (set_slot g (Some (name.Reflector k)) i x) (reflector k.0) (with_slot_written i x)
      (GraphChanges-reflector g k.0 (with_reflector_slot i x) (with_slot_written i x) (λ n. refl) (λ n. made n.reflector))
      (ap (λ (e : Graph). e.entries) (set_native-is g k.0 (option_map (with_reflector_slot i x) (native_in g k.0))))
      (λ s y m. inr p)
    where
      made : (r : Option Slots) → option_map (λ slots. script_shape (Some slots) None) (option_map (λ slots. set slots i x) r)
          ≡ option_map (with_slot_written i x) (option_map (λ slots. script_shape (Some slots) None) r)
      made r = grind arith

  -- a reflector preserved adds an edge and keeps the others
  KeepsBut-preserve : (g : Graph) (o : Option Name) → KeepsBut P g (preserve g o)
  KeepsBut-preserve g (Some (name.Reflector k)) = KeepsBut-changed g (preserve g (Some (name.Reflector k))) (native k.0) with_preserved
      (GraphChanges-native g k.0 as_preserved with_preserved (λ n. refl) (λ n. refl))
      (ap (λ (e : Graph). e.entries) (set_native-is g k.0 (option_map as_preserved (native_in g k.0))))
      (λ s y m. inl (⊎_elim
      (λ l. Among-left y (contents (slots_or_none s.slots)) (reflector k.0 ∷ []) l)
      (λ r. Among-right y (contents (slots_or_none s.slots)) (reflector k.0 ∷ []) (preserved y s.preserved r))
      (Among-append y (contents (slots_or_none s.slots)) (further_of (native k.0) s) m)))
    where
      preserved : (y : Name) (b : Bool) → Among y (elim b [ true ↦ reflector k.0 ∷ [] | false ↦ [] ]) → Among y (reflector k.0 ∷ [])
      preserved y true m = m
      preserved y false m = absurd m
  KeepsBut-preserve g _ = KeepsBut-refl g

  -- where each object keeps its shape, edges stay
  KeepsBut-still : (g e : Graph) → e.entries ≡ g.entries → ((x : Name) (s : Shape) → shape_in g x ≡ Some s → shape_in e x ≡ Some s) → KeepsBut P g e
  KeepsBut-still g e entries still = KeepsBut-shapes g e entries (λ x s q. (s, still x s q, λ y m. inl m))

  -- a reflector made leaves the edges that there were
  KeepsBut-wrapped : (g : Graph) (o : Option Name) → KeepsBut P g (wrapped g o)
  KeepsBut-wrapped g (Some (name.Native k)) = KeepsBut-still g (wrapped g (Some (name.Native k)))
      (ap (λ (e : Graph). e.entries) (set_native-is g k.0 (option_map as_wrapped (native_in g k.0)))) still
    where
      still : (x : Name) (s : Shape) → shape_in g x ≡ Some s → shape_in (wrapped g (Some (name.Native k))) x ≡ Some s
      still x s q = grind (arith, set_native-is, numbered-changed)
  KeepsBut-wrapped g _ = KeepsBut-refl g

  -- an object made leaves the edges that there were
  KeepsBut-with_native : (g : Graph) (n : ℕ) → KeepsBut P g (with_native g n)
  KeepsBut-with_native g n = KeepsBut-still g (with_native g n) refl still
    where
      still : (x : Name) (s : Shape) → shape_in g x ≡ Some s → shape_in (with_native g n) x ≡ Some s
      still x s q = grind (arith, numbered-push_old)

  KeepsBut-with_script : (g : Graph) (o : GraphScript) → KeepsBut P g (with_script g o)
  KeepsBut-with_script g o = KeepsBut-still g (with_script g o) refl still
    where
      still : (x : Name) (s : Shape) → shape_in g x ≡ Some s → shape_in (with_script g o) x ≡ Some s
      still x s q = grind (arith, numbered-push_old)

  -- a script object made that a register holds leaves the edges that there were
  KeepsBut-made : (g : Graph) (o : GraphScript) (d : ℕ) (x : Option Name) → KeepsBut P g (set_register (with_script g o) (S d) x)
  KeepsBut-made g o d x = KeepsBut-then g (with_script g o) (set_register (with_script g o) (S d) x) (KeepsBut-with_script g o) (KeepsBut-register (with_script g o) (S d) x)

  -- a proxy made leaves the edges that there were
  KeepsBut-proxy : (g : Graph) (d : ℕ) (x : Option Name) → KeepsBut P g (with_proxy g d x)
  KeepsBut-proxy g d None = KeepsBut-refl g
  KeepsBut-proxy g d (Some x) = KeepsBut-then g (preserve g (Some x)) (with_proxy g d (Some x)) (KeepsBut-preserve g (Some x))
      (KeepsBut-made (preserve g (Some x)) (proxy x) d (Some (object (length g.scripts + 1))))

  -- an entry written keeps all other entries, where `P` holds of its map and its key
  KeepsBut-entry : (g : Graph) (m k v : Option Name) → OfSome P m → OfSome P k → KeepsBut P g (set_entry g m k v)
  KeepsBut-entry g None k v p q = KeepsBut-refl g
  KeepsBut-entry g (Some m) None v p q = KeepsBut-refl g
  KeepsBut-entry g (Some m) (Some k) None p q = record {
    edges = λ x y i. inl (subst (Among y) (sym (same x)) i);
    entries = λ d i. ⊎_elim (λ l. inl l) (λ r. inr (subst P (sym r.0) p, subst P (sym r.1) q)) (without_entry-other g.entries m k d i);
  }
    where
      same : (y : Name) → edges_of (set_entry g (Some m) (Some k) None) y ≡ edges_of g y
      same (name.Native j) = refl
      same (name.Script j) = refl
      same (name.Reflector j) = refl
  KeepsBut-entry g (Some m) (Some k) (Some v) p q = KeepsBut-then g (preserve g (Some k)) (set_entry g (Some m) (Some k) (Some v)) (KeepsBut-preserve g (Some k)) (record {
    edges = λ x y i. inl (subst (Among y) (sym (same x)) i);
    entries = λ d i. ⊎_elim (λ l. inl l) (λ r. inr (subst P (sym r.0) p, subst P (sym r.1) q))
        (with_entry-other g.entries m k (delegate_in g k) v d (subst (Among d) (entries-preserve k) i));
  })
    where
      same : (y : Name) → edges_of (set_entry g (Some m) (Some k) (Some v)) y ≡ edges_of (preserve g (Some k)) y
      same (name.Native j) = refl
      same (name.Script j) = refl
      same (name.Reflector j) = refl

      entries-preserve : (k : Name) → (preserve g (Some k)).entries ≡ g.entries
      entries-preserve k = grind (arith, set_native-is)

-- Deeds

-- `P` holds of the objects that a deed names and writes to
abbrev WritesTo : (Name → Type 0) → Deed → Type 0
WritesTo P (script_stored x i y) = OfSome P x
WritesTo P (entry_written m k v) = OfSome P m × OfSome P k
WritesTo P d = Unit {0}

-- what a command writes to is reached
writes_to-reached : (g : Graph) (c : Command) → WritesTo (Reached g) (deed_of (objects_of g) c)
unfolding deed_of
writes_to-reached g (Put d i s) = register-reached g (S d)
writes_to-reached g (SetEntry m k v) = (register-reached g (S m), register-reached g (S k))
writes_to-reached g (Drop (N d)) = tt
writes_to-reached g (Drop (S d)) = tt
writes_to-reached g (Drop (W d)) = tt
writes_to-reached g (Get (N d) s i) = tt
writes_to-reached g (Get (S d) s i) = tt
writes_to-reached g (Get (W d) s i) = tt
writes_to-reached g c = tt

-- A DEED KEEPS all edges and entries but those of what is reached.
done_to-keeps : (g : Graph) (d : Deed) → WritesTo (Reached g) d → KeepsBut (Reached g) g (done_to g d)
unfolding done_to
done_to-keeps g nothing_done w = KeepsBut-refl (Reached g) g
done_to-keeps g (native_made d n) w = KeepsBut-then (Reached g) g (with_native g n) (set_register (with_native g n) (N d) (Some (native (length g.natives + 1))))
    (KeepsBut-with_native (Reached g) g n) (KeepsBut-register (Reached g) (with_native g n) (N d) (Some (native (length g.natives + 1))))
done_to-keeps g (plain_made d n) w = KeepsBut-made (Reached g) g (plain_object (empty_slots n)) d (Some (object (length g.scripts + 1)))
done_to-keeps g (map_made d) w = KeepsBut-made (Reached g) g weak_map d (Some (object (length g.scripts + 1)))
done_to-keeps g (proxy_made d x) w = KeepsBut-proxy (Reached g) g d x
done_to-keeps g (native_held d x) w = KeepsBut-register (Reached g) g (N d) x
done_to-keeps g (script_held d x) w = KeepsBut-register (Reached g) g (S d) x
done_to-keeps g (script_copied d x) w = KeepsBut-register (Reached g) g (S d) x
done_to-keeps g (native_stored d i x) w = KeepsBut-slot (Reached g) g (register g (N d)) i x (register-reached g (N d))
done_to-keeps g (slot_moved d i s j) w = KeepsBut-then (Reached g) g (set_slot g (register g (N s)) j None) (done_to g (slot_moved d i s j))
    (KeepsBut-slot (Reached g) g (register g (N s)) j None (register-reached g (N s)))
    (KeepsBut-slot (Reached g) (set_slot g (register g (N s)) j None) (register g (N d)) i (slot_at (objects_of g) (N s) j) (register-reached g (N d)))
done_to-keeps g (script_stored x i y) w = KeepsBut-then (Reached g) g (preserve g x) (set_slot (preserve g x) x i y) (KeepsBut-preserve (Reached g) g x)
    (KeepsBut-slot (Reached g) (preserve g x) x i y w)
done_to-keeps g (reflector_held d x) w = KeepsBut-then (Reached g) g (wrapped g x) (set_register (wrapped g x) (S d) (reflector_of x)) (KeepsBut-wrapped (Reached g) g x)
    (KeepsBut-register (Reached g) (wrapped g x) (S d) (reflector_of x))
done_to-keeps g (reflector_preserved x) w = KeepsBut-preserve (Reached g) g x
done_to-keeps g (entry_written m k v) w = KeepsBut-entry (Reached g) g m k v w.0 w.1
done_to-keeps g (object_exposed x) w = KeepsBut-refl (Reached g) g
done_to-keeps g (weak_written d x) w = KeepsBut-same (Reached g) g (set_weak g d x) same refl
  where
    same : (y : Name) → edges_of (set_weak g d x) y ≡ edges_of g y
    same (name.Native k) = refl
    same (name.Script k) = refl
    same (name.Reflector k) = refl

-- A STEP OF THE GRAPH KEEPS all edges and entries but those of what is reached.
step-keeps : (g : Graph) (c : Command) → KeepsBut (Reached g) g (step g c)
unfolding changed
step-keeps g c = go (refusal_of (objects_of g) c)
  where
    go : (o : Option Refusal) → KeepsBut (Reached g) g (unless_refused o g (changed g c))
    go None = done_to-keeps g (deed_of (objects_of g) c) (writes_to-reached g c)
    go (Some refusal) = KeepsBut-refl (Reached g) g

-- a step beside ended names keeps them too: what these decide is a register alone
step_of-keeps : (ended : List Name) (g : Graph) (c : Command) (k : Class) → KeepsBut (Reached g) g (step_of ended g c k)
step_of-keeps ended g c (reads_weak d w) = KeepsBut-register (Reached g) g (N d) (noted_in ended g w)
step_of-keeps ended g c _ = step-keeps g c

-- EACH ASK KEEPS all edges and entries but those of what was reached before it, whatever is answered.
pub ask-keeps : (s : State) (ask : Ask) (a : Answer) → KeepsBut (Reached s.graph) s.graph (next s ask a).graph
ask-keeps s (taken c) a = go a.reply
  where
    granted : (reply : Reply) (b : Bool) → KeepsBut (Reached s.graph) s.graph (elim b [ true ↦ s.graph | false ↦ step_with s.ended s.graph c ])
    granted reply true = KeepsBut-refl (Reached s.graph) s.graph
    granted reply false = step_of-keeps s.ended s.graph c (class_of c)

    go : (o : Option Reply) → KeepsBut (Reached s.graph) s.graph (graph_after s.ended s.graph c o)
    go None = KeepsBut-refl (Reached s.graph) s.graph
    go (Some reply) = granted reply (is_without_memory reply)
ask-keeps s _ a = KeepsBut-refl (Reached s.graph) s.graph

-- What is given

module _ (g e : Graph) (k : KeepsBut (Reached g) g e) (met later : List Name) (more : (x : Name) → Among x met → Among x later)
    (reached : (x : Name) → Reached g x → Among x later) where
  -- what some names give they give later, with all that was reached
  pub given-stays : (x : Name) → GivenFrom g met x → GivenFrom e later x
  given-stays _ (given x m) = given x (more x m)
  given-stays _ (given_edge x y d m) = ⊎_elim
      (λ l. given_edge x y (given-stays x d) l)
      (λ r. given y (reached y (edge x y r m)))
      (k.edges x y m)
  given-stays _ (given_value d m a b) = ⊎_elim
      (λ l. given_value d l (given-stays d.the_map a) (given-stays d.key b))
      (λ r. given d.value (reached d.value (value d m r.0 r.1)))
      (k.entries d m)
  given-stays _ (given_key d z m is a b) = ⊎_elim
      (λ l. given_key d z l is (given-stays d.the_map a) (given-stays z b))
      (λ r. given d.key (reached d.key r.1))
      (k.entries d m)

  -- WHAT MAY BE BACK MAY BE BACK LATER.
  pub back-stays : (x : Name) → MayBeBack g met x → MayBeBack e later x
  back-stays x b = ⊎_elim (λ l. inl (given-stays x l)) (λ r. inr (r.0, r.1, given-stays (native r.0) r.2)) b
