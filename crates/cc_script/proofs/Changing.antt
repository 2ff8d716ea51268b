-- ONE OBJECT CHANGED AT ITS KEY.
use Rattle.std.proofs.Common.{◌≡◌, ◌≢◌, ℕ, ◌<◌, ◌≤◌, List, length, Option, Some, None, option_map, sym, ◌∙◌, ap, subst, ⊎_elim, ◌⊎◌, arith}
use Rattle.std.proofs.Math.ListN.{set}
use Rattle.std.proofs.lemmas.Bool.{cases_lt, eq-eqb, ne_eqb}
use Rattle.std.proofs.lemmas.Bool.Decides.{eqb_tells}
use Rattle.std.proofs.lemmas.List.{get_or-set_same, get_or-set_other, get_or_past}
use Rattle.std.proofs.lemmas.Simd.{map-map}
use Rattle.cc_lists.proofs.ListWrites.{map-agree}
use Rattle.cc_names.specs.Sizes.{most_slots}
use Rattle.cc_script.specs.Objects.{Object, FitsKind, FitsDelegate, change_object}
use Rattle.cc_script.specs.Lists.{Placed, Lists, cell_at, with_key, objects_of, with_cell, IsPlaced}
use Rattle.cc_script.proofs.Keys.{changed_at}

module _ (l : Lists) (p : IsPlaced l) (key : ℕ) (c d : Placed) (at : cell_at l.cells key ≡ Some c) where
  within : key < length l.cells
  within = ⊎_elim (λ t. t) (λ r. let none : Some c ≡ None = sym at ∙ get_or_past l.cells key None r in absurd (cc)) (cases_lt key (length l.cells))

  abbrev after : Lists
  after = with_cell l key (Some d)

  same : cell_at after.cells key ≡ Some d
  same = get_or-set_same l.cells key (Some d) None within

  other : (k : ℕ) → k ≢ key → cell_at after.cells k ≡ cell_at l.cells k
  other k o = get_or-set_other l.cells key k (Some d) None o

  cases : (k : ℕ) (b : Placed) → cell_at after.cells k ≡ Some b → ((k ≡ key) × (b ≡ d)) ⊎ (cell_at l.cells k ≡ Some b)
  cases k b e = grind (arith, same, other, eqb_tells)

  pub IsPlaced-changed : length d.slots ≤ most_slots → FitsKind d.kind d.native → FitsDelegate d.kind d.delegate → IsPlaced (with_cell l key (Some d))
  IsPlaced-changed few fits stands = record {
    in_order = λ k m. ⊎_elim
        (λ t. (d, ap (cell_at after.cells) t.1 ∙ same))
        (λ t. let f = p.in_order k m in (f.0, other k t.1 ∙ f.1)) (eqb_tells k key);
    ordered = λ k b e. ⊎_elim (λ t. p.ordered k c (ap (cell_at l.cells) t.0 ∙ at)) (λ t. p.ordered k b t) (cases k b e);
    once = p.once;
    small = λ k b e. ⊎_elim (λ t. subst (λ (a : Placed). length a.slots ≤ most_slots) (sym t.1) few) (λ t. p.small k b t) (cases k b e);
    reflected = λ k b e. ⊎_elim (λ t. subst (λ (a : Placed). FitsKind a.kind a.native) (sym t.1) fits) (λ t. p.reflected k b t) (cases k b e);
    delegated = λ k b e. ⊎_elim (λ t. subst (λ (a : Placed). FitsDelegate a.kind a.delegate) (sym t.1) stands) (λ t. p.delegated k b t) (cases k b e);
  }

  -- what is shown of it
  pub objects-changed : (f : Object → Object) → f (with_key key (l.walks key) c) ≡ with_key key (l.walks key) d → objects_of (with_cell l key (Some d)) ≡ change_object (objects_of l) key f
  objects-changed f e = grind (arith, map-agree, changed_at, map-map, eq-eqb, ne_eqb, same, other, eqb_tells)

-- the same where cells are given, at which a change made another of it
module _ (l : Lists) (p : IsPlaced l) (key : ℕ) (c : Placed) (at : cell_at l.cells key ≡ Some c) (change : Placed → Placed) (cells : List (Option Placed))
    (e : cells ≡ set l.cells key (option_map change (cell_at l.cells key))) where
  lists : with_cell l key (Some (change c)) ≡ record l { cells = cells }
  lists = ap (λ cs. record l { cells = cs }) (sym (e ∙ ap (λ o. set l.cells key (option_map change o)) at))

  pub IsPlaced-cells : length (change c).slots ≤ most_slots → FitsKind (change c).kind (change c).native → FitsDelegate (change c).kind (change c).delegate → IsPlaced (record l { cells = cells })
  IsPlaced-cells few fits stands = subst IsPlaced lists (IsPlaced-changed l p key c (change c) at few fits stands)

  pub objects-cells : (f : Object → Object) → f (with_key key (l.walks key) c) ≡ with_key key (l.walks key) (change c) → objects_of (record l { cells = cells }) ≡ change_object (objects_of l) key f
  objects-cells f same = ap objects_of (sym lists) ∙ objects-changed l p key c (change c) at f same
