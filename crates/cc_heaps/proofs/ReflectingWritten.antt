-- WHAT COMES INTO A SLOT OF A SCRIPT OBJECT OR A SCRIPT REGISTER, a reflector among them: the heaps stand for the graph in
-- which it is written.
use Rattle.cc_lists.proofs.Held.{of-one}
use Rattle.std.proofs.Common.{arith, ◌≡◌, ℕ, true, List, Option, Some, None, refl, sym, ◌∙◌, ap, inl, ⊎_elim}
use Rattle.cc_lists.specs.Members.{Among}
use Rattle.cc_names.specs.declared.name.Name.{Name}
use Rattle.cc_names.specs.declared.name.Name.TheVariants as name
use Rattle.cc_names.specs.declared.register.Reg.TheVariants.{S}
use Rattle.cc_names.specs.Names.{native, object, reflector}
use Rattle.cc_model.specs.Graph as graph
use Rattle.cc_model.specs.Graph.{Graph, with_reflector_slot}
use Rattle.cc_model.specs.Reached.{Reached}
use Rattle.cc_model.specs.Given.{Given}
use Rattle.cc_model.specs.WellMade.{IsWellMade}
use Rattle.cc_model.specs.Heap.{Heap, native_at, set_slot}
use Rattle.cc_model.specs.Effects.{hold_script}
use Rattle.cc_model.specs.WellFormed.{IsWellFormed, script_names}
use Rattle.cc_model.specs.StandsFor.{Shape, shape_in, shape_of_held_native, StandsFor}
use Rattle.cc_laws_heap.specs.Sound.{IsSound}
use Rattle.cc_laws_heap.proofs.Face.{Follows, Follows-hold_script, Follows-slot, IsIn, IsPreserved, IsWellMade-change_native, IsWellMade-script_register, IsWellMade-script_slot, KeepsNative-reflector_slot, KeepsReflector-slot, OfSome, OfSome-then, Reached-given, follows-stands, hold_script-sound, in-reached, native-no_script, native_of-reached, option_map-found, script_slot-sound, stands-follows, stands-reached}
use Rattle.cc_heaps.specs.Standing.{IsReached, IsReachedOrReflects, MayHold, StandsAfter}
use Rattle.cc_heaps.proofs.Reflecting.{there-made, held-made, Follows-reflector}

-- what is handed in is reached in the graph
pub handed-reached : (h : Heap) (g : Graph) (x : Option Name) → IsWellFormed h → IsWellMade g → StandsFor h g → IsReached h x → OfSome (Reached g) x
handed-reached h g x w m s r = grind (arith, in-reached)

-- so it is given
pub handed-given : (h : Heap) (g : Graph) (x : Option Name) → IsWellFormed h → IsWellMade g → StandsFor h g → IsReached h x → OfSome (Given h g) x
handed-given h g x w m s r = OfSome-then (Reached g) (Given h g) (Reached-given h g) x (handed-reached h g x w m s r)

-- Script registers

-- A SCRIPT REGISTER WRITTEN with what is reached, or with the reflector of a native that is: the heaps stand for the graph
-- in which it is.
pub held_script-stands : {owned : List ℕ} (h : Heap) (d : ℕ) (x : Option Name) → IsSound owned h → IsIn (script_names h) x → IsReachedOrReflects h x →
    StandsAfter h (hold_script h d x) (λ g. graph.set_register g (S d) x)
held_script-stands {owned} h d x s there r g m t = (well, go x there r)
  where
    well : IsWellMade (graph.set_register g (S d) x)
    well = IsWellMade-script_register g d x m (held-made h g x s.well_formed t there)

    stands : (P : Name → Type 0) (y : Option Name) → IsIn (script_names h) y → OfSome P y → Follows P h g → StandsFor (hold_script h d y) (graph.set_register g (S d) y)
    stands P y in_it p f = follows-stands P (hold_script h d y) (graph.set_register g (S d) y) (hold_script-sound owned h d y in_it s).well_formed
        (IsWellMade-script_register g d y m (held-made h g y s.well_formed t in_it)) (Follows-hold_script P h g d y y refl p f)

    start : Follows (Given h g) h g
    start = stands-follows h g s.well_formed t

    go : (y : Option Name) → IsIn (script_names h) y → IsReachedOrReflects h y → StandsFor (hold_script h d y) (graph.set_register g (S d) y)
    go None i q = stands (Given h g) None i tt start
    go (Some (name.Native k)) i q = absurd (native-no_script h k.0 s.well_formed (i (native k.0) (inl refl)))
    go (Some (name.Script k)) i q = stands (Given h g) (Some (object k.0)) i (handed-given h g (Some (object k.0)) s.well_formed m t q) start
    go (Some (name.Reflector k)) i q = ⊎_elim
        (λ a. stands (Given h g) (Some (reflector k.0)) i (handed-given h g (Some (reflector k.0)) s.well_formed m t a) start)
        (λ a. Follows-reflector h g k.0 s.well_formed m t (i (reflector k.0) (inl refl)) (in-reached h g s.well_formed m t (native k.0) a)
        (StandsFor (hold_script h d (Some (reflector k.0))) (graph.set_register g (S d) (Some (reflector k.0))))
        (λ P p b f. stands P (Some (reflector k.0)) i b f)) q

-- Slots of script objects

-- a graph with a slot of a script object written is well made
slot-well : (h : Heap) (g : Graph) (x : Name) (i : ℕ) (y : Option Name) → IsWellFormed h → IsWellMade g → StandsFor h g → Among x (script_names h) →
    IsIn (script_names h) y → IsWellMade (graph.set_slot g (Some x) i y)
slot-well h g (name.Native k) i y w m s at there = absurd (native-no_script h k.0 w at)
slot-well h g (name.Script k) i y w m s at there = IsWellMade-script_slot g k.0 i y m (held-made h g y w s there)
slot-well h g (name.Reflector k) i y w m s at there = IsWellMade-change_native g k.0 (with_reflector_slot i y)
    (λ n r. KeepsReflector-slot i y n.reflector r) m (KeepsNative-reflector_slot g k.0 i y (held-made h g y w s there))

-- a reflector that is reached and may hold something is preserved in the graph
preserved-in : (h : Heap) (g : Graph) (x : Name) → IsWellFormed h → IsWellMade g → StandsFor h g → Among x (script_names h) → Reached g x → MayHold h (Some x) → IsPreserved g x
preserved-in h g (name.Native k) w m s at d may = λ j t e i. absurd (cc)
preserved-in h g (name.Script k) w m s at d may = λ j t e i. absurd (cc)
preserved-in h g (name.Reflector k) w m s at d may = λ j t e i.
    let own = stands-reached h g s (native k.0) (native_of-reached g (Some (reflector k.0)) (there-made h g (reflector k.0) w s at) d) in
    let found = option_map-found shape_of_held_native (native_at h k.0) own.shape own.there in
    let kept : own.shape.preserved ≡ true = sym (ap (λ (v : Shape). v.preserved) found.2) ∙ may found.0 found.1 in
    let one : j ≡ k.0 = cc in
    let both : Some own.shape ≡ Some t = sym own.made ∙ (ap (λ a. shape_in g (native a)) (sym one) ∙ i) in
    let same : own.shape ≡ t = cc in
    sym (ap (λ (v : Shape). v.preserved) same) ∙ kept

module _ {owned : List ℕ} (h : Heap) (x : Name) (i : ℕ) (y : Option Name) (s : IsSound owned h) (at : Among x (script_names h)) (there : IsIn (script_names h) y) where
  -- A SLOT OF A SCRIPT OBJECT WRITTEN leaves the heaps sound.
  pub slot_written-sound : IsSound owned (set_slot h (Some x) i y)
  slot_written-sound = script_slot-sound owned h (Some x) i y (of-one (λ w. Among w (script_names h)) x at) there s

  -- They stand for the graph in which it is written, where both are reached and the object may hold something.
  pub slot_written-stands : IsReached h (Some x) → IsReached h y → MayHold h (Some x) → StandsAfter h (set_slot h (Some x) i y) (λ g. graph.set_slot g (Some x) i y)
  slot_written-stands r q may g m t =
      let well = slot-well h g x i y s.well_formed m t at there in
      let d = in-reached h g s.well_formed m t x r in (
        well,
        follows-stands (Given h g) (set_slot h (Some x) i y) (graph.set_slot g (Some x) i y) slot_written-sound.well_formed well
            (Follows-slot (Given h g) h g (Some x) i y (Reached-given h g x d) (handed-given h g y s.well_formed m t q)
            (preserved-in h g x s.well_formed m t at d may) (stands-follows h g s.well_formed t)),
      )
