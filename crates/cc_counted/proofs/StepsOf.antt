-- One reference given up, in the words of the contracts: what is left, and why its native does not wait yet.
use Rattle.std.proofs.Common.{◌≡◌, ℕ, ◌≤◌, List, [], ◌∷◌, ◌++◌, map, Some, option_map, refl, sym, ◌∙◌, true, ap, subst, arith}
use Rattle.std.proofs.Math.ListN.{set}
use Rattle.std.proofs.lemmas.List.{length-set}
use Rattle.cc_model.specs.Cascade.{give_up}
use Rattle.cc_model.specs.Heap.{native_at}
use Rattle.cc_lists.specs.Members.{Among}
use Rattle.cc_lists.proofs.Members.{Among-map}
use Rattle.cc_model.specs.Counts.{times}
use Rattle.cc_laws_heap.proofs.Face.{one_at_zero-above, times-cons_same, times-some}
use Rattle.cc_laws_heap.specs.Balance.{IsBalanced, count_of, waiting as waits}
use Rattle.cc_purple.specs.Marks.{with_mark, without_key}
use Rattle.cc_counted.specs.Counts.{the_number, heap_of}
use Rattle.cc_counted.specs.Lists.{Placed, Lists, cell_at, with_one_less, count_placed, keyed, shown, counts_of, draining_of, IsPlaced}
use Rattle.cc_counted.specs.Steps.{GivesUp}
use Rattle.cc_counted.proofs.Places.{the_number-cell, native_at-cell}
use Rattle.cc_counted.proofs.Changing.{keyed-changed, cells-changed}
use Rattle.cc_counted.proofs.GivingUp.{give_up-suspected, give_up-waiting, IsPlaced-suspected, IsPlaced-waiting}

module _ (l : Lists) (p : IsPlaced l) (key : ℕ) (c : Placed) (at : cell_at l.cells key ≡ Some c) where
  -- the count at the key
  pub count-placed : count_placed (cell_at l.cells key) ≡ c.count
  count-placed = ap count_placed at

  -- the cells after the count fell
  lowered : set l.cells key (Some (with_one_less c)) ≡ set l.cells key (option_map with_one_less (cell_at l.cells key))
  lowered = ap (λ o. set l.cells key (option_map with_one_less o)) (sym at)

  pub GivesUp-suspected : 2 ≤ c.count → (new : Lists) →
      new ≡ record l { cells = set l.cells key (option_map with_one_less (cell_at l.cells key)); marks = with_mark true key l.marks } → GivesUp l new (the_number (keyed l.cells) key ∷ [])
  GivesUp-suspected more new e =
      subst (λ n. GivesUp l n (the_number (keyed l.cells) key ∷ [])) (ap (λ xs. record l { cells = xs; marks = with_mark true key l.marks }) lowered ∙ sym e)
      (record {
        draining = λ es. give_up-suspected l p key c at more es ∙ ap (give_up (draining_of l es)) (sym (the_number-cell l.cells key c at));
        placed = IsPlaced-suspected l p key c at;
        keys = keyed-changed l p key c (with_one_less c) at refl;
        order = refl;
        walk = refl;
        as_many = length-set l.cells key (Some (with_one_less c));
        cells = cells-changed l p key c (with_one_less c) at refl refl;
      })

  pub GivesUp-waiting : c.count ≡ 1 → (new : Lists) →
      new ≡ record l { cells = set l.cells key (option_map with_one_less (cell_at l.cells key)); queue = l.queue ++ key ∷ []; marks = without_key key l.marks } →
      GivesUp l new (the_number (keyed l.cells) key ∷ [])
  GivesUp-waiting one new e =
      subst (λ n. GivesUp l n (the_number (keyed l.cells) key ∷ []))
      (ap (λ xs. record l { cells = xs; queue = l.queue ++ key ∷ []; marks = without_key key l.marks }) lowered ∙ sym e)
      (record {
        draining = λ es. give_up-waiting l p key c at one es ∙ ap (give_up (draining_of l es)) (sym (the_number-cell l.cells key c at));
        placed = IsPlaced-waiting l p key c at;
        keys = keyed-changed l p key c (with_one_less c) at refl;
        order = refl;
        walk = refl;
        as_many = length-set l.cells key (Some (with_one_less c));
        cells = cells-changed l p key c (with_one_less c) at refl refl;
      })

  module _ (owned : List ℕ) (b : IsBalanced (c.number ∷ owned) (draining_of l [])) where
    -- the reference that is given up is counted
    pub counted : 1 ≤ c.count
    counted =
        let found : count_of (native_at (heap_of (counts_of l)) c.number) ≡ c.count = ap count_of (native_at-cell l p key c at) in
        omega (arith, b.counts c.number, times-cons_same c.number owned)

    -- and a native that is counted does not wait
    pub idle : ¬ (Among key l.queue)
    idle m =
        let found : native_at (heap_of (counts_of l)) c.number ≡ Some (shown (keyed l.cells) (Some c)) = native_at-cell l p key c at in
        let some : 1 ≤ times c.number (map (the_number (keyed l.cells)) l.queue) =
        times-some c.number (map (the_number (keyed l.cells)) l.queue)
        (subst (λ k. Among k (map (the_number (keyed l.cells)) l.queue)) (the_number-cell l.cells key c at) (Among-map (the_number (keyed l.cells)) key l.queue m)) in
        omega (arith, b.queue c.number, ap waits found, one_at_zero-above c.count counted)
