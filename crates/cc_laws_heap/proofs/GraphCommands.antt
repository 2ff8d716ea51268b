-- EACH COMMAND LEAVES A GRAPH WELL MADE: what it puts into a register, a slot or an entry was made.
use Rattle.std.proofs.Common.{◌≡◌, ℕ, ◌+◌, ◌<◌, Bool, true, false, not, List, [], ◌∷◌, ◌++◌, length, set, Option, Some, None, is_none, is_some, option_map, slice_index_or, refl, sym, subst, ⊎_elim, arith}
use Rattle.std.specs.Prelude.{IsTrue}
use Rattle.std.specs.Option.{option_and_then}
use Rattle.std.proofs.lemmas.Bool.{false≢true}
use Rattle.cc_lists.specs.Members.{has}
use Rattle.cc_lists.proofs.Members.{Among-filtered}
use Rattle.cc_lists.proofs.Filtering.{count_by-filter-le}
use Rattle.cc_names.specs.Allowance.{Allowance}
use Rattle.cc_names.specs.declared.name.Name.{Name}
use Rattle.cc_names.specs.declared.name.Name.TheVariants as name
use Rattle.cc_names.specs.declared.register.Reg.TheVariants.{N, S}
use Rattle.cc_names.specs.Names.{native, object, same_name}
use Rattle.cc_model.specs.declared.command.Command.{Command}
use Rattle.cc_model.specs.declared.item.Refusal.{Refusal}
use Rattle.cc_model.specs.Ranges.{in_range}
use Rattle.cc_model.specs.Mutating.{Class, reads_weak, class_of}
use Rattle.cc_model.specs.Lawful.{unless_ended, noted_in, step_of, step_with}
use Rattle.cc_model.specs.Slots.{Slots, empty_slots}
use Rattle.cc_model.specs.Entries.{entry, is_entry_of, with_entry, without_entry}
use Rattle.cc_model.specs.Checks.{slot_at, reflector_of, is_map_in, refusal_of}
use Rattle.cc_model.specs.Graph.{Graph, GraphScript, plain_object, weak_map, proxy, numbered, script_in, delegate_in, slots_in, objects_of, register, set_register, set_slot, move_slot, preserve, wrapped, set_entry, as_preserved, as_wrapped, with_slot, with_reflector_slot, with_native, with_script, with_proxy, empty_graph, done_to, changed, unless_refused, step}
use Rattle.cc_model.specs.Deeds.{Deed, nothing_done, native_made, plain_made, map_made, proxy_made, native_held, script_held, script_copied, native_stored, slot_moved, script_stored, reflector_held, reflector_preserved, entry_written, object_exposed, weak_written, deed_of}
use Rattle.cc_model.specs.WellMade.{IsWellMade, IsMadeEntry}
use Rattle.cc_laws_heap.proofs.Taken.{IsTaken, IsTaken-from}
use Rattle.cc_laws_heap.proofs.MayBeDoneTo.{MayBeDoneTo, may_be_done_to}
use Rattle.cc_laws_heap.proofs.Holds.{OfSome, OfSome-then, contents-at}
use Rattle.cc_laws_heap.proofs.Numbered.{numbered-nothing, numbered-push, numbered-change}
use Rattle.cc_laws_heap.proofs.EntryLists.{with_entry-cases, entries_of-set}
use Rattle.cc_laws_heap.proofs.GraphParts.{ScriptFits, is_some-found, was_made-native, was_made-script, was_made-reflector, reflector-made, Grows, is_made_native-grows, is_made_script-grows, IsMadeEntry-grows, IsWellMade-entries}
use Rattle.cc_laws_heap.proofs.GraphWrites.{IsWellMade-native_register, IsWellMade-script_register, IsWellMade-weak_register, set_native-is, Grows-change_native, IsWellMade-change_native, KeepsNative-slot, KeepsNative-reflector_slot, KeepsNative-preserved, KeepsNative-wrapped, IsWellMade-script_slot, IsWellMade-with_native, IsWellMade-with_script, ScriptFits-plain, ScriptFits-map, ScriptFits-proxy}
use Rattle.cc_laws_heap.proofs.GraphReads.{Made, MadeNative, MadeScript, MadeScript-made, native_register-made, slot_at-made}
use Rattle.cc_laws_heap.proofs.Making.{contents-empty_none}

-- a slot written takes no reflector away
pub KeepsReflector-slot : (i : ℕ) (x : Option Name) (o : Option Slots) → is_some o ≡ true → is_some (option_map (λ (slots : Slots). set slots i x) o) ≡ true
KeepsReflector-slot i x o e = grind arith

-- a reflector preserved changes nothing else
Grows-preserve : (g : Graph) (o : Option Name) → Grows g (preserve g o)
Grows-preserve g None = record { made = λ x m. m; maps = λ k s. s; delegates = λ x m. refl }
Grows-preserve g (Some (name.Native k)) = record { made = λ x m. m; maps = λ k s. s; delegates = λ x m. refl }
Grows-preserve g (Some (name.Script k)) = record { made = λ x m. m; maps = λ k s. s; delegates = λ x m. refl }
Grows-preserve g (Some (name.Reflector k)) = Grows-change_native g k.0 as_preserved (λ n r. r)

-- nor does a slot of a native emptied
Grows-emptied : (g : Graph) (o : Option Name) (j : ℕ) → OfSome (MadeNative g) o → Grows g (set_slot g o j None)
Grows-emptied g None j t = record { made = λ x m. m; maps = λ k s. s; delegates = λ x m. refl }
Grows-emptied g (Some (name.Native k)) j t = Grows-change_native g k.0 (with_slot j None) (λ n r. r)
Grows-emptied g _ j t = absurd (false≢true t)

-- what has no slots and was made is a weak map
map-made : (g : Graph) (x : Name) → MadeScript g x → is_none (slots_in g x) ≡ true → (k : ℕ) × (x ≡ object k) × (script_in g k ≡ Some weak_map)
map-made g x s e = grind (arith, is_some-found, reflector-made)

module _ (g : Graph) (w : IsWellMade g) where
  -- Writes of slots and entries, reflectors preserved and made

  -- a slot of a native written
  native_slot-well : (o : Option Name) (i : ℕ) (x : Option Name) → OfSome (MadeNative g) o → OfSome (Made g) x → IsWellMade (set_slot g o i x)
  native_slot-well None i x t m = w
  native_slot-well (Some (name.Native k)) i x t m = IsWellMade-change_native g k.0 (with_slot i x) (λ n r. r) w (KeepsNative-slot g k.0 i x m)
  native_slot-well _ i x t m = absurd (false≢true t)

  -- a reflector preserved
  pub preserve-well : (o : Option Name) → OfSome (Made g) o → IsWellMade (preserve g o)
  preserve-well (Some (name.Reflector k)) t = IsWellMade-change_native g k.0 as_preserved (λ n r. r) w (KeepsNative-preserved g k.0 t)
  preserve-well _ t = w

  -- a slot of a script object written
  script_slot-well : (o : Option Name) (i : ℕ) (x : Option Name) → OfSome (MadeScript g) o → OfSome (MadeScript g) x → IsWellMade (set_slot g o i x)
  script_slot-well None i x t m = w
  script_slot-well (Some (name.Native k)) i x t m = absurd (false≢true t)
  script_slot-well (Some (name.Script k)) i x t m = IsWellMade-script_slot g k.0 i x w m
  script_slot-well (Some (name.Reflector k)) i x t m = IsWellMade-change_native g k.0 (with_reflector_slot i x)
      (λ n r. KeepsReflector-slot i x n.reflector r) w (KeepsNative-reflector_slot g k.0 i x m)

  -- a reflector made
  wrapped-well : (o : Option Name) → IsWellMade (wrapped g o)
  wrapped-well (Some (name.Native k)) = IsWellMade-change_native g k.0 as_wrapped (λ n r. refl) w (KeepsNative-wrapped g k.0)
  wrapped-well _ = w

  -- the reflector of a native that was made is made then
  wrapped-made : (o : Option Name) → OfSome (MadeNative g) o → OfSome (MadeScript (wrapped g o)) (reflector_of o)
  wrapped-made o m = grind (arith, is_some-found, set_native-is, numbered-change, was_made-reflector)

  -- an entry of a weak map set, or taken out
  set_entry-well : (m k v : Option Name) → OfSome (λ x. MadeScript g x × (is_none (slots_in g x) ≡ true)) m → OfSome (MadeScript g) k → OfSome (MadeScript g) v → IsWellMade (set_entry g m k v)
  set_entry-well None k v s t u = w
  set_entry-well (Some m) None v s t u = w
  set_entry-well (Some m) (Some k) None s t u = IsWellMade-entries g (without_entry g.entries m k) w
      (λ e i. w.entries e (Among-filtered (λ e. not (is_entry_of m k e)) e g.entries i))
      (λ a b. omega (arith, count_by-filter-le (is_entry_of a b) (λ e. not (is_entry_of m k e)) g.entries, w.one_entry a b))
  set_entry-well (Some m) (Some k) (Some v) s t u = IsWellMade-entries (preserve g (Some k)) (with_entry g.entries m k (delegate_in g k) v) (preserve-well (Some k) (MadeScript-made g k t))
      (λ e i. IsMadeEntry-grows g (preserve g (Some k)) (Grows-preserve g (Some k)) e (⊎_elim (λ same. subst (IsMadeEntry g) same made) (w.entries e) (with_entry-cases g.entries m k (delegate_in g k) v e i)))
      (entries_of-set g.entries m k (delegate_in g k) v w.one_entry)
    where
      made : IsMadeEntry g (entry m k (delegate_in g k) v)
      made = record { the_map = map-made g m s.0 s.1; key = t; value = u; delegate = refl }

-- what a slot of a native holds moved into another
move-well : (g : Graph) → IsWellMade g → (to : Option Name) (i : ℕ) (from : Option Name) (j : ℕ) (x : Option Name) → OfSome (MadeNative g) to → OfSome (MadeNative g) from → OfSome (Made g) x →
    IsWellMade (move_slot g to i from j x)
move-well g w to i from j x t f m = native_slot-well left (native_slot-well g w from j None f tt) to i x
    (OfSome-then (MadeNative g) (MadeNative left) (is_made_native-grows g left more) to t) (OfSome-then (Made g) (Made left) more.made x m)
  where
    left : Graph
    left = set_slot g from j None

    more : Grows g left
    more = Grows-emptied g from j f

-- a reflector preserved, and a slot of a script object written
put-well : (g : Graph) → IsWellMade g → (o : Option Name) (i : ℕ) (x : Option Name) → OfSome (MadeScript g) o → OfSome (MadeScript g) x → IsWellMade (set_slot (preserve g o) o i x)
put-well g w o i x t m = search (script_slot-well, preserve-well, OfSome-then, MadeScript-made, is_made_script-grows, Grows-preserve)

-- it leaves the number of script objects
pub scripts-preserve : (g : Graph) (o : Option Name) → (preserve g o).scripts ≡ g.scripts
scripts-preserve g o = grind (arith, set_native-is)

-- and the limits
limits-preserve : (g : Graph) (o : Option Name) → (preserve g o).limits ≡ g.limits
limits-preserve g o = grind (arith, set_native-is)

-- a proxy made of an object that was made, which is preserved first where it is a reflector
pub proxy-well : (g : Graph) → IsWellMade g → (d : ℕ) (o : Option Name) → OfSome (MadeScript g) o → length g.scripts < g.limits.scripts → IsWellMade (with_proxy g d o)
proxy-well g w d None m room = w
proxy-well g w d (Some x) m room = IsWellMade-script_register f d (Some (object (length g.scripts + 1)))
    (IsWellMade-with_script e (proxy x) (preserve-well g w (Some x) (MadeScript-made g x m)) (ScriptFits-proxy e x (is_made_script-grows g e (Grows-preserve g (Some x)) x m))
    (subst (λ os. length os < e.limits.scripts) (sym (scripts-preserve g (Some x))) (subst (λ l. length g.scripts < l.scripts) (sym (limits-preserve g (Some x))) room)))
    (was_made-script f (length g.scripts + 1) (proxy x)
    (subst (λ os. numbered (os ++ proxy x ∷ []) (length g.scripts + 1) ≡ Some (proxy x)) (sym (scripts-preserve g (Some x))) (numbered-push g.scripts (proxy x))))
  where
    e : Graph
    e = preserve g (Some x)

    f : Graph
    f = with_script e (proxy x)

module _ (g : Graph) (w : IsWellMade g) where
  -- a script object made, which a register holds
  object_made-well : (d : ℕ) (o : GraphScript) → ScriptFits g o → length g.scripts < g.limits.scripts →
      IsWellMade (set_register (with_script g o) (S d) (Some (object (length g.scripts + 1))))
  object_made-well d o fits room = IsWellMade-script_register (with_script g o) d (Some (object (length g.scripts + 1)))
      (IsWellMade-with_script g o w fits room) (was_made-script (with_script g o) (length g.scripts + 1) o (numbered-push g.scripts o))

  -- a weak map that was made has no slots
  map-named : (x : Option Name) → OfSome (MadeScript g) x → is_map_in (objects_of g) x ≡ true → OfSome (λ y. MadeScript g y × (is_none (slots_in g y) ≡ true)) x
  map-named x m e = grind arith

  -- WHAT IS DONE LEAVES THE GRAPH WELL MADE.
  pub done_to-well : (d : Deed) → MayBeDoneTo g d → IsWellMade (done_to g d)
  unfolding done_to
  done_to-well nothing_done m = w
  done_to-well (native_made d n) m = IsWellMade-native_register (with_native g n) d (Some (native (length g.natives + 1)))
      (IsWellMade-with_native g n w m.few m.room) (was_made-native (with_native g n) (length g.natives + 1) _ (numbered-push g.natives _))
  done_to-well (plain_made d n) m = object_made-well d (plain_object (empty_slots n)) (ScriptFits-plain n m.0 g) m.1
  done_to-well (map_made d) m = object_made-well d weak_map (ScriptFits-map g) m
  done_to-well (proxy_made d x) m = proxy-well g w d x m.0.made m.2
  done_to-well (native_held d x) m = IsWellMade-native_register g d x w m.1.made
  done_to-well (script_held d x) m = IsWellMade-script_register g d x w m.made
  done_to-well (script_copied d x) m = IsWellMade-script_register g d x w m.made
  done_to-well (native_stored d i x) m = native_slot-well g w (register g (N d)) i x (native_register-made g w d) m.0.made
  done_to-well (slot_moved d i s j) m = move-well g w (register g (N d)) i (register g (N s)) j (slot_at (objects_of g) (N s) j)
      (native_register-made g w d) (native_register-made g w s) (slot_at-made g w (N s) j)
  done_to-well (script_stored x i y) m = put-well g w x i y m.0.made m.1.made
  done_to-well (reflector_held d x) m = IsWellMade-script_register (wrapped g x) d (reflector_of x) (wrapped-well g w x) (wrapped-made g w x m.made)
  done_to-well (reflector_preserved x) m = preserve-well g w x (OfSome-then (MadeScript g) (Made g) (MadeScript-made g) x m.made)
  done_to-well (entry_written a k v) m = set_entry-well g w a k v (map-named a m.the_map.made m.is_map) m.key.made m.value.made
  done_to-well (object_exposed x) m = w
  done_to-well (weak_written d x) m = IsWellMade-weak_register g d x w m.made

  -- A command that is not refused leaves the graph well made.
  changed-well : (c : Command) → IsTrue (in_range c) → IsTaken (objects_of g) c → IsWellMade (changed g c)
  unfolding changed
  changed-well c r t = done_to-well (deed_of (objects_of g) c) (may_be_done_to g w c r t)

  -- A STEP LEAVES THE GRAPH WELL MADE.
  pub step-well : (c : Command) → IsTrue (in_range c) → IsWellMade (step g c)
  step-well c r = go (refusal_of (objects_of g) c) refl
    where
      go : (o : Option Refusal) → refusal_of (objects_of g) c ≡ o → IsWellMade (unless_refused o g (changed g c))
      go None e = changed-well c r (IsTaken-from (objects_of g) c e)
      go (Some refusal) e = w

  -- what a weak register gives was made
  noted-made : (ended : List Name) (n : ℕ) → OfSome (MadeNative g) (noted_in ended g n)
  noted-made ended n = unless (slice_index_or g.weak_registers n None) (contents-at (MadeNative g) g.weak_registers n w.weak_registers)
    where
      one : (x : Name) (b : Bool) → MadeNative g x → OfSome (MadeNative g) (elim b [ true ↦ None | false ↦ Some x ])
      one x true m = tt
      one x false m = m

      unless : (o : Option Name) → OfSome (MadeNative g) o → OfSome (MadeNative g) (option_and_then (unless_ended ended) o)
      unless None m = tt
      unless (Some x) m = one x (has same_name ended x) m

  -- A STEP BESIDE THE ENDED NAMES leaves it well made, too.
  pub step_with-well : (ended : List Name) (c : Command) → IsTrue (in_range c) → IsWellMade (step_with ended g c)
  step_with-well ended c r = of_class (class_of c)
    where
      of_class : (k : Class) → IsWellMade (step_of ended g c k)
      of_class (reads_weak d n) = IsWellMade-native_register g d (noted_in ended g n) w (noted-made ended n)
      of_class _ = step-well c r

-- The empty graph

-- THE EMPTY GRAPH IS WELL MADE.
pub empty-well : (limits : Allowance) → IsWellMade (empty_graph limits)
empty-well limits = grind (arith, contents-empty_none, numbered-nothing)
