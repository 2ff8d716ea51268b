-- AN OBJECT TAKEN OUT.
use Rattle.std.proofs.Common.{◌≡◌, ◌≢◌, ℕ, ◌<◌, ◌≤◌, Bool, not, length, Some, None, sym, ◌∙◌, ap, ⊎_elim, arith, count_by, ◌==◌}
use Rattle.std.specs.List.{filter}
use Rattle.std.proofs.lemmas.Bool.{cases_lt, eq-eqb, ne_eqb, true≢false}
use Rattle.std.proofs.lemmas.Bool.Decides.{eqb_tells}
use Rattle.std.proofs.lemmas.List.{get_or-set_same, get_or-set_other, get_or_past}
use Rattle.cc_lists.specs.Members.{Among}
use Rattle.cc_lists.proofs.Members.{Among-filter, Among-filtered, Among-passes}
use Rattle.cc_lists.proofs.Filtering.{count_by-filter-le}
use Rattle.cc_lists.proofs.Searching.{filter-map}
use Rattle.cc_lists.proofs.ListWrites.{map-agree}
use Rattle.cc_names.specs.declared.kind.Walked.TheVariants.{Out}
use Rattle.cc_walk.proofs.Sets.{with_state-other}
use Rattle.cc_script.specs.Objects.{without_object}
use Rattle.cc_script.specs.Lists.{Placed, Lists, cell_at, objects_of, placed_or_nothing, shown_at, taken_out, with_key, with_walk, IsPlaced}

module _ (l : Lists) (p : IsPlaced l) (key : ℕ) (c : Placed) (at : cell_at l.cells key ≡ Some c) where
  within : key < length l.cells
  within = ⊎_elim (λ t. t) (λ r. let none : Some c ≡ None = sym at ∙ get_or_past l.cells key None r in absurd (cc)) (cases_lt key (length l.cells))

  abbrev after : Lists
  after = taken_out l key

  same : cell_at after.cells key ≡ None
  same = get_or-set_same l.cells key None None within

  other : (k : ℕ) → k ≢ key → cell_at after.cells k ≡ cell_at l.cells k
  other k o = get_or-set_other l.cells key k None None o

  abbrev stays : ℕ → Bool
  stays k = not (k == key)

  stayed : (k : ℕ) → Among k after.order → k ≢ key
  stayed k m e = true≢false (sym (Among-passes stays k l.order m) ∙ ap not (eq-eqb k key e))

  -- what stands there then stood there, at another key
  left : (k : ℕ) (b : Placed) → cell_at after.cells k ≡ Some b → (k ≢ key) × (cell_at l.cells k ≡ Some b)
  left k b e = grind (arith, same, other, eqb_tells)

  pub IsPlaced-left : IsPlaced (taken_out l key)
  IsPlaced-left = record {
    in_order = λ k m. let f = p.in_order k (Among-filtered stays k l.order m) in (f.0, other k (stayed k m) ∙ f.1);
    ordered = λ k b e. let f = left k b e in Among-filter stays k l.order (p.ordered k b f.1) (ap not (ne_eqb k key f.0));
    once = λ k.
        let part : count_by (λ j. j == k) (filter stays l.order) ≤ count_by (λ j. j == k) l.order = count_by-filter-le (λ j. j == k) stays l.order in
        let all : count_by (λ j. j == k) l.order ≤ 1 = p.once k in
        omega arith;
    small = λ k b e. p.small k b (left k b e).1;
    reflected = λ k b e. p.reflected k b (left k b e).1;
    delegated = λ k b e. p.delegated k b (left k b e).1;
  }

  objects-left : objects_of (taken_out l key) ≡ without_object (objects_of l) key
  objects-left = search (map-agree, other, stayed, filter-map)

  -- however it stood in a walk
  pub objects-left_out : objects_of (taken_out (with_walk l key Out) key) ≡ without_object (objects_of l) key
  objects-left_out =
      map-agree (shown_at (taken_out (with_walk l key Out) key)) (shown_at after) after.order
      (λ k m. ap (λ walked. with_key k walked (placed_or_nothing (cell_at after.cells k))) (with_state-other l.walks key Out k (stayed k m)))
      ∙ objects-left
