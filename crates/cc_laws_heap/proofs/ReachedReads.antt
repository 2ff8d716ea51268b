-- WHAT A COMMAND READS is reached: what registers, slots and entries of reached objects hold, and natives behind reflectors.
use Rattle.std.proofs.Common.{arith, ◌≡◌, ℕ, true, [], ◌∷◌, get_or, Option, Some, None, is_some, option_map, refl, sym, subst, inl}
use Rattle.std.specs.Prelude.{IsTrue}
use Rattle.std.specs.Option.{option_and_then}
use Rattle.cc_lists.specs.Members.{Among}
use Rattle.cc_lists.proofs.Members.{Among-left, Among-right}
use Rattle.cc_names.specs.declared.name.Name.{Name}
use Rattle.cc_names.specs.declared.name.Name.TheVariants as name
use Rattle.cc_names.specs.declared.register.Reg.{Reg}
use Rattle.cc_names.specs.Names.{native, reflector}
use Rattle.cc_model.specs.Slots.{Slots, contents}
use Rattle.cc_model.specs.Entries.{value_in}
use Rattle.cc_model.specs.Checks.{slots_or_none, slot_at, value_at, native_of}
use Rattle.cc_model.specs.Graph.{Graph, slots_in, objects_of, register, source}
use Rattle.cc_model.specs.Reached.{Reached, held, edge, value, edges_of}
use Rattle.cc_model.specs.WellMade.{was_made}
use Rattle.cc_model.specs.StandsFor.{Shape, shape_in, shape_of_reflector, script_shape}
use Rattle.cc_laws_heap.proofs.Holds.{OfSome, OfSome-from, contents-at}
use Rattle.cc_laws_heap.proofs.Shapes.{slots_of_shape, slots_in-graph, further_of, edges_of_some, edges_of-shape}
use Rattle.cc_laws_heap.proofs.EntryLists.{found-among}
use Rattle.cc_laws_heap.proofs.GraphParts.{reflector-made}
use Rattle.cc_laws_heap.proofs.GraphReads.{MadeScript, MadeScript-made}

-- `P` holds of the native of a reflector
abbrev pub HasBehind : (Name → Type 0) → Name → Type 0
HasBehind P x = (k : ℕ) → x ≡ reflector k → P (native k)

-- what an object has in a slot is an edge of it
slot-edge : (g : Graph) (x y : Name) → Among y (contents (slots_or_none (slots_in g x))) → Among y (edges_of g x)
slot-edge g x y m = subst (Among y) (sym (edges_of-shape g x))
    (go (shape_in g x) (subst (λ o. Among y (contents (slots_or_none o))) (slots_in-graph g x) m))
  where
    go : (o : Option Shape) → Among y (contents (slots_or_none (slots_of_shape o))) → Among y (edges_of_some x o)
    go None i = absurd i
    go (Some s) i = Among-left y (contents (slots_or_none s.slots)) (further_of x s) i

module _ (g : Graph) where
  -- what a register holds
  pub register-reached : (r : Reg) → OfSome (Reached g) (register g r)
  register-reached r = OfSome-from (Reached g) (register g r) (held r)

  -- what a source gives
  pub source-reached : (r : Option Reg) → OfSome (Reached g) (source g r)
  source-reached r = grind (arith, register-reached)

  -- what a slot of what a register holds has
  pub slot_at-reached : (r : Reg) (i : ℕ) → OfSome (Reached g) (slot_at (objects_of g) r i)
  slot_at-reached r i = go (register g r) (register-reached r)
    where
      go : (o : Option Name) → OfSome (Reached g) o → OfSome (Reached g) (get_or (slots_or_none (option_and_then (slots_in g) o)) i None)
      go None d = tt
      go (Some x) d = contents-at (Reached g) (slots_or_none (slots_in g x)) i
          (λ y m. edge x y d (slot-edge g x y m))

  -- the value of what two registers hold
  pub value_at-reached : (a b : Reg) → OfSome (Reached g) (value_at (objects_of g) (register g a) (register g b))
  value_at-reached a b = go (register g a) (register-reached a) (register g b) (register-reached b)
    where
      go : (o : Option Name) → OfSome (Reached g) o → (p : Option Name) → OfSome (Reached g) p → OfSome (Reached g) (value_at (objects_of g) o p)
      go (Some m) d (Some k) e = OfSome-from (Reached g) (value_in g.entries m k)
          (λ y i. let f = found-among g.entries m k y i in
          subst (Reached g) f.4 (value f.0 f.1 (subst (Reached g) (sym f.2) d) (subst (Reached g) (sym f.3) e)))
      go _ d _ e = tt

  -- the native of a reached reflector, which was made
  behind-reached : (k : ℕ) → IsTrue (was_made g (reflector k)) → Reached g (reflector k) → Reached g (native k)
  behind-reached k m d =
      let n = reflector-made g k m in
      edge (reflector k) (native k) d (subst (Among (native k)) (sym (edges_of-shape g (reflector k)))
      (subst (λ o. Among (native k) (edges_of_some (reflector k) (option_and_then shape_of_reflector o))) (sym n.1) (some n.0.reflector n.2)))
    where
      some : (r : Option Slots) → is_some r ≡ true → Among (native k) (edges_of_some (reflector k) (option_map (λ slots. script_shape (Some slots) None) r))
      some None e = absurd (cc)
      some (Some slots) e = Among-right (native k) (contents slots) (native k ∷ []) (inl refl)

  -- the native behind what a script register holds, where that is a reflector
  pub script-behind : (o : Option Name) → OfSome (MadeScript g) o → OfSome (Reached g) o → OfSome (HasBehind (Reached g)) o
  script-behind o m d = grind (arith, behind-reached, MadeScript-made)

  -- the native that a reflector stands for
  pub native_of-reached : (o : Option Name) → OfSome (MadeScript g) o → OfSome (Reached g) o → OfSome (Reached g) (native_of o)
  native_of-reached (Some (name.Reflector k)) m d = behind-reached k.0 m d
  native_of-reached _ m d = tt
