-- AN OBJECT GIVEN ANOTHER COLOUR at its key, or another new mark.
use Rattle.std.proofs.Common.{◌≡◌, ℕ, List, Option, Some, option_map, refl}
use Rattle.std.proofs.Math.ListN.{set}
use Rattle.cc_names.specs.declared.kind.Colour.{Colour}
use Rattle.cc_script.specs.Objects.{Object, change_object, with_new_mark}
use Rattle.cc_script.specs.Lists.{Placed, Lists, cell_at, newly_marked, painted, with_key, objects_of, IsPlaced}
use Rattle.cc_script.proofs.Changing.{IsPlaced-cells, objects-cells}

module _ (l : Lists) (p : IsPlaced l) (key : ℕ) (c : Placed) (at : cell_at l.cells key ≡ Some c) (colour : Colour) (cells : List (Option Placed)) where
  module _ (e : cells ≡ set l.cells key (option_map (painted colour) (cell_at l.cells key))) where
    pub IsPlaced-painted : IsPlaced (record l { cells = cells })
    IsPlaced-painted = IsPlaced-cells l p key c at (painted colour) cells e (p.small key c at) (p.reflected key c at) (p.delegated key c at)

    pub objects-painted : (f : Object → Object) → f (with_key key (l.walks key) c) ≡ with_key key (l.walks key) (painted colour c) → objects_of (record l { cells = cells }) ≡ change_object (objects_of l) key f
    objects-painted f same = objects-cells l p key c at (painted colour) cells e f same

  module _ (e : cells ≡ set l.cells key (option_map (newly_marked colour) (cell_at l.cells key))) where
    pub IsPlaced-newly_marked : IsPlaced (record l { cells = cells })
    IsPlaced-newly_marked = IsPlaced-cells l p key c at (newly_marked colour) cells e (p.small key c at) (p.reflected key c at) (p.delegated key c at)

    pub objects-newly_marked : objects_of (record l { cells = cells }) ≡ change_object (objects_of l) key (with_new_mark colour)
    objects-newly_marked = objects-cells l p key c at (newly_marked colour) cells e (with_new_mark colour) refl
