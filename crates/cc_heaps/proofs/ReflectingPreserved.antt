-- A REFLECTOR PRESERVED that is there: the heaps stand for the graph in which it is, the colour invariant stays, every
-- snapshot that was fresh is fresh where it is not gray, and no unreached native is forgotten.
use Rattle.cc_laws_snapshot.proofs.Face.{flag_written-fresh, flag_written-suspected, gray-tested, native-edge, reached-kept}
use Rattle.std.proofs.Common.{arith, ◌≡◌, ℕ, ◌==◌, Bool, true, false, List, [], ◌∷◌, Some, refl, sym, ◌∙◌, subst, ⊎_elim}
use Rattle.std.specs.List.{flat_map}
use Rattle.std.proofs.lemmas.Bool.{true≢false}
use Rattle.cc_lists.specs.Members.{Among}
use Rattle.cc_lists.proofs.Members.{Among-map, Among-left, Among-right, Among-append, Among-flat_map_cases}
use Rattle.cc_lists.proofs.ListWrites.{changed_where, changed_where-either}
use Rattle.cc_names.specs.declared.name.Name.{Name}
use Rattle.cc_names.specs.Names.{native, reflector}
use Rattle.cc_model.specs.Slots.{from_to}
use Rattle.cc_model.specs.Graph as graph
use Rattle.cc_model.specs.Graph.{as_preserved}
use Rattle.cc_model.specs.Heap.{Heap, HeapNative, set_preserved, is_gray_in}
use Rattle.cc_model.specs.View.{view, slot_edges, native_edges, script_edges, ReachedIn}
use Rattle.cc_model.proofs.Places.{preserved_edge, native_edges-split}
use Rattle.cc_model.specs.WellFormed.{script_names}
use Rattle.cc_model.specs.StandsFor.{StandsFor}
use Rattle.cc_laws_heap.specs.Sound.{IsSound}
use Rattle.cc_laws_heap.proofs.Face.{AreColoured-from_view, Follows-preserved, HasColourInvariant-from, IsWellMade-change_native, KeepsNative-preserved, follows-stands, in-reached, native_at-change_same, set_preserved-sound}
use Rattle.cc_heaps.specs.Standing.{IsReached, MayHold, StandsAfter, KeepsFresh, KeepsSuspected, KeepsColours}
use Rattle.cc_heaps.proofs.Reflecting.{there-made, Follows-reflector}

module _ {owned : List ℕ} (h : Heap) (k : ℕ) (s : IsSound owned h) (there : Among (reflector k) (script_names h)) where
  -- A REFLECTOR PRESERVED leaves the heaps sound.
  pub preserved-sound : IsSound owned (set_preserved h k true)
  preserved-sound = set_preserved-sound owned h k there s

  -- They stand for the graph in which it is preserved, where its native is reached.
  pub preserved-stands : IsReached h (Some (native k)) → StandsAfter h (set_preserved h k true) (λ g. graph.preserve g (Some (reflector k)))
  preserved-stands r g m t =
      let well = IsWellMade-change_native g k as_preserved (λ n q. q) m (KeepsNative-preserved g k (there-made h g (reflector k) s.well_formed t there)) in (
        well,
        Follows-reflector h g k s.well_formed m t there (in-reached h g s.well_formed m t (native k) r)
            (StandsFor (set_preserved h k true) (graph.preserve g (Some (reflector k))))
            (λ P p q f. follows-stands P (set_preserved h k true) (graph.preserve g (Some (reflector k))) preserved-sound.well_formed well
            (Follows-preserved P h g k p q f)),
      )

  -- The colour invariant stays.
  pub preserved-colours : KeepsColours h (set_preserved h k true)
  preserved-colours c = HasColourInvariant-from (set_preserved h k true) preserved-sound.well_formed (AreColoured-from_view h s.well_formed c)

  -- what is not gray has no name among the gray ones
  not_gray : is_gray_in h (reflector k) ≡ false → ¬ (Among (reflector k) (view h).gray)
  not_gray pale m = true≢false (sym (gray-tested h (reflector k) m) ∙ pale)

  -- Every snapshot that was fresh is fresh, where the reflector is not gray.
  pub preserved-fresh : is_gray_in h (reflector k) ≡ false → KeepsFresh h (set_preserved h k true)
  preserved-fresh pale t = flag_written-fresh h t k true (λ e. not_gray pale)

  -- No unreached native is forgotten.
  pub preserved-suspected : KeepsSuspected h (set_preserved h k true)
  preserved-suspected candidates = flag_written-suspected h candidates k true s.well_formed

  -- WHAT IS REACHED STAYS REACHED: the native holds its reflector besides.
  pub preserved-reached : (x : Name) → ReachedIn (view h) x → ReachedIn (view (set_preserved h k true)) x
  preserved-reached = reached-kept h (set_preserved h k true) preserved-sound.well_formed (record {
    registers = λ x i. i;
    edges = λ x y r i e. ⊎_elim
        (λ l. let f = Among-flat_map_cases native_edges h.natives (x, y) l in
        native-edge (set_preserved h k true) (changed f.0) x y (Among-map changed f.0 h.natives f.1) (more f.0 (x, y) f.2))
        (λ l. Among-right (x, y) (flat_map native_edges (set_preserved h k true).natives) (flat_map script_edges h.scripts) l)
        (Among-append (x, y) (flat_map native_edges h.natives) (flat_map script_edges h.scripts) e);
    joints = λ j i a b. i;
  })
    where
      flagged : HeapNative → HeapNative
      flagged n = record n { preserved = true }

      changed : HeapNative → HeapNative
      changed n = changed_where (λ (m : HeapNative). m.number == k) flagged n

      kept : (n : HeapNative) (e : Name × Name) (b : Bool) → n.preserved ≡ b →
          Among e (elim b [ true ↦ from_to (native n.number) (reflector n.number) ∷ [] | false ↦ [] ]) → Among e (preserved_edge (flagged n))
      kept n e true p i = i
      kept n e false p i = absurd i

      more : (n : HeapNative) (e : Name × Name) → Among e (native_edges n) → Among e (native_edges (changed n))
      more n e i = changed_where-either (λ m. Among e (native_edges m)) (λ (m : HeapNative). m.number == k) flagged n
          (λ t. subst (Among e) (sym (native_edges-split (flagged n))) (⊎_elim
          (λ l. Among-left e (slot_edges (native n.number) n.slots) (preserved_edge (flagged n)) l)
          (λ l. Among-right e (slot_edges (native n.number) n.slots) (preserved_edge (flagged n)) (kept n e n.preserved refl l))
          (Among-append e (slot_edges (native n.number) n.slots) (preserved_edge n) (subst (Among e) (native_edges-split n) i))))
          i

  -- It may hold something from then on.
  pub preserved-may_hold : MayHold (set_preserved h k true) (Some (reflector k))
  preserved-may_hold n e = grind (arith, native_at-change_same)
