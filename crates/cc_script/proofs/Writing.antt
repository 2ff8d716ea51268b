-- A SLOT WRITTEN.
use Rattle.std.proofs.Common.{◌≡◌, ℕ, ◌≤◌, List, Option, Some, option_map, IfSome, refl, sym, subst, arith}
use Rattle.std.proofs.Math.ListN.{set}
use Rattle.std.proofs.lemmas.List.{length-set}
use Rattle.cc_names.specs.declared.number.SKey.{SKey}
use Rattle.cc_names.specs.Sizes.{most_slots}
use Rattle.cc_script.specs.Objects.{change_object, with_slot}
use Rattle.cc_script.specs.Lists.{Placed, Lists, cell_at, written, objects_of, IsPlaced}
use Rattle.cc_script.proofs.Changing.{IsPlaced-cells, objects-cells}
use Rattle.cc_script.proofs.Reading.{held_key}

module _ (l : Lists) (p : IsPlaced l) (key : ℕ) (c : Placed) (at : cell_at l.cells key ≡ Some c) (i : ℕ) (x : Option ℕ) (cells : List (Option Placed))
    (e : cells ≡ set l.cells key (option_map (written i x) (cell_at l.cells key))) where
  pub IsPlaced-written : IsPlaced (record l { cells = cells })
  IsPlaced-written = IsPlaced-cells l p key c at (written i x) cells e (subst (λ n. n ≤ most_slots) (sym (length-set c.slots i x)) (p.small key c at)) (p.reflected key c at) (p.delegated key c at)

  pub objects-written : objects_of (record l { cells = cells }) ≡ change_object (objects_of l) key (with_slot i x)
  objects-written = objects-cells l p key c at (written i x) cells e (with_slot i x) refl

-- what holds of an item holds of the key that it is
pub each-held : (P : ℕ → Type 0) (item : Option SKey) → IfSome item (λ (k : SKey). P k.0) → (q : ℕ) → held_key item ≡ Some q → P q
each-held P item h q e = grind arith
