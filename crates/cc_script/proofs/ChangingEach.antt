-- EACH OBJECT CHANGED in the same way at once: made white, made white by the new mark, or with its colour and its new mark exchanged.
use Rattle.std.proofs.Common.{◌≡◌, ℕ, ◌≤◌, List, map, length, Option, Some, None, option_map, refl, sym, ◌∙◌, ap, subst, arith}
use Rattle.std.proofs.Math.ListN.{get_or-map}
use Rattle.std.proofs.lemmas.Simd.{map-map}
use Rattle.slab.specs.Slab.{Slab}
use Rattle.cc_lists.proofs.ListWrites.{map-agree}
use Rattle.cc_names.specs.declared.kind.Colour.TheVariants.{White}
use Rattle.cc_names.specs.declared.kind.Walked.{Walked}
use Rattle.cc_names.specs.Sizes.{most_slots}
use Rattle.cc_script.specs.declared.parts.ScriptParts.{ScriptParts}
use Rattle.cc_script.specs.Objects.{Object, FitsKind, FitsDelegate, whitened, with_colour, with_new_mark}
use Rattle.cc_script.specs.NewMarks.{exchanged}
use Rattle.cc_script.specs.Lists.{Placed, Lists, cell_at, exchanged_marks, newly_marked, painted, placed_or_nothing, shown_at, objects_of, with_key, IsPlaced}
use Rattle.cc_script.specs.Cells.{ChangesEach, Linked, cells_of}
use Rattle.cc_script.specs.Parts.{lists_of, marking_of, shows, IsChained}
use Rattle.cc_script.proofs.Chained.{lists-kept}

-- a change of colours and new marks alone
abbrev pub ChangesMarks : (Placed → Placed) → Type 0
ChangesMarks change = (c : Placed) → change c ≡ record c { colour = (change c).colour; new_mark = (change c).new_mark }

module _ (change : Placed → Placed) (alone : ChangesMarks change) (l : Lists) (p : IsPlaced l) (cells : List (Option Placed)) (e : cells ≡ map (option_map change) l.cells) where
  at : (key : ℕ) → cell_at cells key ≡ option_map change (cell_at l.cells key)
  at key = ap (λ cs. cell_at cs key) e ∙ get_or-map (option_map change) l.cells key None

  -- what stands at a key was there before
  was : (key : ℕ) (c : Placed) → cell_at cells key ≡ Some c → (d : Placed) × ((cell_at l.cells key ≡ Some d) × (c ≡ change d))
  was key c f = grind (arith, at)

  pub IsPlaced-each : IsPlaced (record l { cells = cells })
  IsPlaced-each = record {
    in_order = λ key m. let f = p.in_order key m in (change f.0, at key ∙ ap (option_map change) f.1);
    ordered = λ key c f. let w = was key c f in p.ordered key w.0 w.1.0;
    once = p.once;
    small = λ key c f. let w = was key c f in subst (λ (d : Placed). length d.slots ≤ most_slots) (sym (w.1.1 ∙ alone w.0)) (p.small key w.0 w.1.0);
    reflected = λ key c f. let w = was key c f in subst (λ (d : Placed). FitsKind d.kind d.native) (sym (w.1.1 ∙ alone w.0)) (p.reflected key w.0 w.1.0);
    delegated = λ key c f. let w = was key c f in subst (λ (d : Placed). FitsDelegate d.kind d.delegate) (sym (w.1.1 ∙ alone w.0)) (p.delegated key w.0 w.1.0);
  }

  pub objects-each : (f : Object → Object) → ((key : ℕ) (walked : Walked) (c : Placed) → with_key key walked (change c) ≡ f (with_key key walked c)) →
      objects_of (record l { cells = cells }) ≡ map f (objects_of l)
  objects-each f same =
      map-agree (shown_at (record l { cells = cells })) (λ key. f (shown_at l key)) l.order (λ key m. here key (p.in_order key m))
      ∙ sym (map-map f (shown_at l) l.order)
    where
      here : (key : ℕ) → (c : Placed) × (cell_at l.cells key ≡ Some c) → shown_at (record l { cells = cells }) key ≡ f (shown_at l key)
      here key c =
          ap (λ o. with_key key (l.walks key) (placed_or_nothing o)) (at key ∙ ap (option_map change) c.1)
          ∙ (same key (l.walks key) c.0 ∙ ap (λ o. f (with_key key (l.walks key) (placed_or_nothing o))) (sym c.1))

-- The three changes

module _ (l : Lists) (p : IsPlaced l) (cells : List (Option Placed)) where
  module _ (e : cells ≡ map (option_map (painted White)) l.cells) where
    pub IsPlaced-whitened : IsPlaced (record l { cells = cells })
    IsPlaced-whitened = IsPlaced-each (painted White) (λ c. refl) l p cells e

    pub objects-whitened : objects_of (record l { cells = cells }) ≡ whitened (objects_of l)
    objects-whitened = objects-each (painted White) (λ c. refl) l p cells e (with_colour White) (λ key walked c. refl)

  module _ (e : cells ≡ map (option_map (newly_marked White)) l.cells) where
    pub IsPlaced-unmarked : IsPlaced (record l { cells = cells })
    IsPlaced-unmarked = IsPlaced-each (newly_marked White) (λ c. refl) l p cells e

    pub objects-unmarked : objects_of (record l { cells = cells }) ≡ map (with_new_mark White) (objects_of l)
    objects-unmarked = objects-each (newly_marked White) (λ c. refl) l p cells e (with_new_mark White) (λ key walked c. refl)

  module _ (e : cells ≡ map (option_map exchanged_marks) l.cells) where
    IsPlaced-exchanged : IsPlaced (record l { cells = cells })
    IsPlaced-exchanged = IsPlaced-each exchanged_marks (λ c. refl) l p cells e

    objects-exchanged : objects_of (record l { cells = cells }) ≡ map exchanged (objects_of l)
    objects-exchanged = objects-each exchanged_marks (λ c. refl) l p cells e exchanged (λ key walked c. refl)

-- the parts once marks and colours are exchanged
pub record AreExchanged (p q : ScriptParts) : Type 0 where
  pub placed : IsPlaced (lists_of q)
  pub chained : IsChained q
  pub objects : shows q ≡ map exchanged (shows p)
  pub waits : (marking_of q).waiting ≡ (marking_of p).waiting

pub are-exchanged : (p : ScriptParts) → IsPlaced (lists_of p) → IsChained p → (cells : Slab Linked) → ChangesEach p.cells cells exchanged_marks → AreExchanged p (record p { cells = cells })
are-exchanged p placed chained cells each =
    let a = lists-kept p chained cells each.links in
    record {
      placed = subst IsPlaced (sym a.lists) (IsPlaced-exchanged (lists_of p) placed (cells_of cells.slots) each.cells);
      chained = a.chained;
      objects = ap objects_of a.lists ∙ objects-exchanged (lists_of p) placed (cells_of cells.slots) each.cells;
      waits = a.waits;
    }
