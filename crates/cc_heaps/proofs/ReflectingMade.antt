-- A REFLECTOR MADE, OR EXPOSED WHERE IT IS THERE: the heaps stand for the graph in which the native is wrapped, the colour
-- invariant stays, every snapshot that was fresh is fresh, and no unreached native is forgotten.
use Rattle.std.proofs.Common.{arith, ◌≡◌, ℕ, Bool, true, false, List, [], ◌∷◌, Option, Some, None, refl, sym, ap, subst, ⊎_elim}
use Rattle.std.specs.List.{flat_map}
use Rattle.cc_lists.specs.Members.{Among}
use Rattle.cc_lists.proofs.Members.{Among-left, Among-append, Among-flat_map_cases}
use Rattle.cc_lists.proofs.ListWrites.{changed_where-either, flat_map-kept}
use Rattle.cc_names.specs.declared.name.Name.{Name}
use Rattle.cc_names.specs.declared.kind.Kind.TheVariants.{Reflector}
use Rattle.cc_names.specs.Names.{native, reflector}
use Rattle.cc_model.specs.Slots.{reflector_slots}
use Rattle.cc_model.specs.Graph as graph
use Rattle.cc_model.specs.Graph.{as_wrapped}
use Rattle.cc_model.proofs.Places.{script_place-cases}
use Rattle.cc_model.specs.Heap.{Heap, has_reflector, new_script}
use Rattle.cc_model.specs.View.{view, native_edges, script_edges, ReachedIn}
use Rattle.cc_model.specs.Cascade.{add_ref}
use Rattle.cc_model.specs.Exposure.{exposed}
use Rattle.cc_model.specs.Effects.{with_reflector, wrapped}
use Rattle.cc_model.specs.WellFormed.{IsWellFormed, native_names}
use Rattle.cc_model.specs.StandsFor.{StandsFor}
use Rattle.cc_laws_heap.specs.Sound.{IsSound}
use Rattle.cc_laws_heap.proofs.Face.{AreColoured-from_view, AreColoured-push, Follows-wrapped, HasColourInvariant-from, HoldsTheSame-add_ref, IsWellMade-change_native, KeepsNative-wrapped, contents-empty_none, exposed-sound, follows-stands, in-reached, with_reflector-sound}
use Rattle.cc_laws_snapshot.proofs.Face.{edges-alike, reached-kept, reflector_made-fresh, reflector_made-suspected, script-edge}
use Rattle.cc_heaps.specs.Standing.{IsReached, StandsAfter, KeepsFresh, KeepsSuspected, KeepsColours}

-- native k is wrapped: its reflector exposed where it has one, or made
abbrev pub wrapped_by : Heap → ℕ → Bool → Heap
wrapped_by h k b = elim b [ true ↦ exposed h (Some (reflector k)) | false ↦ with_reflector h k ]

-- A reflector made takes nothing away from what is reached,
pub made-reached : (h : Heap) (k : ℕ) → IsWellFormed (with_reflector h k) → (x : Name) → ReachedIn (view h) x → ReachedIn (view (with_reflector h k)) x
made-reached h k w = reached-kept h (with_reflector h k) w (record {
  registers = λ x i. i;
  edges = λ x y r i e. more x y (subst (λ es. Among (x, y) es) (sym (edges-alike h (add_ref h k) (HoldsTheSame-add_ref h k))) e);
  joints = λ j i a b. i;
})
  where
    more : (x y : Name) → Among (x, y) (view (add_ref h k)).edges → Among (x, y) (view (with_reflector h k)).edges
    more x y e = ⊎_elim
        (λ l. Among-left (x, y) (flat_map native_edges (add_ref h k).natives) (flat_map script_edges (with_reflector h k).scripts) l)
        (λ l. let f = Among-flat_map_cases script_edges h.scripts (x, y) l in
        script-edge (with_reflector h k) f.0 x y (Among-left f.0 h.scripts (new_script (reflector k) Reflector reflector_slots None ∷ []) f.1) f.2)
        (Among-append (x, y) (flat_map native_edges (add_ref h k).natives) (flat_map script_edges h.scripts) e)

-- and neither does an exposure.
pub exposed-reached : {owned : List ℕ} (h : Heap) (x : Option Name) → IsSound owned h → (y : Name) → ReachedIn (view h) y → ReachedIn (view (exposed h x)) y
unfolding exposed
exposed-reached {owned} h y s = grind (arith, reached-kept, exposed-sound, flat_map-kept, changed_where-either)

module _ {owned : List ℕ} (h : Heap) (k : ℕ) (s : IsSound owned h) (there : Among (native k) (native_names h)) where
  -- A NATIVE WRAPPED leaves the heaps sound.
  wrapped-stays_sound : IsSound owned (wrapped h (Some (native k)))
  wrapped-stays_sound = go (has_reflector h k) refl
    where
      go : (b : Bool) → has_reflector h k ≡ b → IsSound owned (wrapped_by h k b)
      go true e = exposed-sound owned h (Some (reflector k)) s
      go false e = with_reflector-sound owned h k there e s

  -- They stand for the graph in which the native is wrapped, where it is reached.
  pub wrapped-stands : IsReached h (Some (native k)) → StandsAfter h (wrapped h (Some (native k))) (λ g. graph.wrapped g (Some (native k)))
  wrapped-stands r g m t =
      let well = IsWellMade-change_native g k as_wrapped (λ n q. refl) m (KeepsNative-wrapped g k) in (
        well,
        Follows-wrapped h g k s.well_formed m t (in-reached h g s.well_formed m t (native k) r)
            (StandsFor (wrapped h (Some (native k))) (graph.wrapped g (Some (native k))))
            (λ P p f. follows-stands P (wrapped h (Some (native k))) (graph.wrapped g (Some (native k))) wrapped-stays_sound.well_formed well f),
      )

  module _ (none : has_reflector h k ≡ false) where
    -- A REFLECTOR MADE is that.
    as_wrapped-made : wrapped h (Some (native k)) ≡ with_reflector h k
    as_wrapped-made = ap (wrapped_by h k) none

    pub reflector_made-sound : IsSound owned (with_reflector h k)
    reflector_made-sound = with_reflector-sound owned h k there none s

    pub reflector_made-stands : IsReached h (Some (native k)) → StandsAfter h (with_reflector h k) (λ g. graph.wrapped g (Some (native k)))
    reflector_made-stands r = subst (λ l. StandsAfter h l (λ g. graph.wrapped g (Some (native k)))) as_wrapped-made (wrapped-stands r)

    -- It is black and holds nothing: the colour invariant stays,
    pub reflector_made-colours : KeepsColours h (with_reflector h k)
    reflector_made-colours c = HasColourInvariant-from (with_reflector h k) reflector_made-sound.well_formed
        (AreColoured-push h.scripts h.script_registers (new_script (reflector k) Reflector reflector_slots None) refl
        (λ o m i. ⊎_elim (λ l. absurd (contents-empty_none reflector_slots o.name l)) (λ e. absurd (cc)) (script_place-cases (new_script (reflector k) Reflector reflector_slots None) o.name i))
        (AreColoured-from_view h s.well_formed c))

    -- and every snapshot that was fresh is fresh.
    pub reflector_made-keeps_fresh : KeepsFresh h (with_reflector h k)
    reflector_made-keeps_fresh t = reflector_made-fresh owned h t k s there none

    -- No unreached native is forgotten, where the native is reached.
    pub reflector_made-keeps_suspected : IsReached h (Some (native k)) → KeepsSuspected h (with_reflector h k)
    reflector_made-keeps_suspected r candidates = reflector_made-suspected h candidates k s.well_formed (made-reached h k reflector_made-sound.well_formed (native k) r)
