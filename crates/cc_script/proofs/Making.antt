-- NO OBJECTS, and one made at a key that held nothing.
use Rattle.std.proofs.Common.{◌≡◌, ◌≢◌, ℕ, ◌≤◌, List, [], ◌∷◌, ◌++◌, length, Option, Some, None, refl, sym, ◌∙◌, ap, subst, ⊎_elim, ◌⊎◌, inl, arith, count_by, ◌==◌}
use Rattle.std.proofs.lemmas.Bool.{ne_eqb}
use Rattle.std.proofs.lemmas.Bool.Decides.{eqb_tells}
use Rattle.std.proofs.lemmas.List.{map-append}
use Rattle.cc_lists.specs.Members.{Among}
use Rattle.cc_lists.proofs.Members.{Among-append, Among-left, Among-right}
use Rattle.cc_lists.proofs.Counting.{count_by-append, count_by-cons}
use Rattle.cc_lists.proofs.CountsOf.{count_by-none}
use Rattle.cc_lists.proofs.ListWrites.{map-agree}
use Rattle.cc_names.specs.Sizes.{most_slots}
use Rattle.cc_walk.specs.Walks.{nowhere}
use Rattle.cc_script.specs.Objects.{FitsKind, FitsDelegate}
use Rattle.cc_script.specs.Lists.{Placed, Lists, cell_at, with_key, objects_of, made, IsPlaced}

-- no object
abbrev pub no_lists : Lists
no_lists = record { cells = []; order = []; walks = nowhere }

pub IsPlaced-none : IsPlaced no_lists
IsPlaced-none = grind arith

-- one more
module _ (l : Lists) (p : IsPlaced l) (key : ℕ) (d : Placed) (cells : List (Option Placed)) (vacant : cell_at l.cells key ≡ None) (at : cell_at cells key ≡ Some d)
    (others : (k : ℕ) → k ≢ key → cell_at cells k ≡ cell_at l.cells k) where
  -- a key of an object is another
  other : (k : ℕ) → Among k l.order → k ≢ key
  other k m e = let f = p.in_order k m in let bad : None ≡ Some f.0 = sym vacant ∙ (ap (cell_at l.cells) (sym e) ∙ f.1) in absurd (cc)

  cases : (k : ℕ) (c : Placed) → cell_at cells k ≡ Some c → ((k ≡ key) × (c ≡ d)) ⊎ (cell_at l.cells k ≡ Some c)
  cases k c e = grind (arith, eqb_tells)

  once : (j : ℕ) → count_by (λ k. k == j) (l.order ++ key ∷ []) ≤ 1
  once j = ⊎_elim
      (λ t.
      let none : count_by (λ k. k == j) l.order ≡ 0 = count_by-none (λ k. k == j) l.order (λ k m. ne_eqb k j (λ s. other k m (s ∙ sym t.1))) in
      let last : count_by (λ k. k == j) (key ∷ []) ≤ 1 = rw (count_by-cons (λ k. k == j) key [], t.0) (omega arith) in
      omega (arith, count_by-append (λ k. k == j) l.order (key ∷ [])))
      (λ t.
      let last : count_by (λ k. k == j) (key ∷ []) ≡ 0 = rw (count_by-cons (λ k. k == j) key [], t.0) refl in
      omega (arith, count_by-append (λ k. k == j) l.order (key ∷ []), p.once j))
      (eqb_tells key j)

  pub IsPlaced-made : length d.slots ≤ most_slots → FitsKind d.kind d.native → FitsDelegate d.kind d.delegate → IsPlaced (made l cells key)
  IsPlaced-made few fits stands = record {
    in_order = λ k m. ⊎_elim
        (λ t. let f = p.in_order k t in (f.0, others k (other k t) ∙ f.1))
        (λ t. ⊎_elim (λ e. (d, ap (cell_at cells) (sym e) ∙ at)) (λ x. absurd x) t)
        (Among-append k l.order (key ∷ []) m);
    ordered = λ k c e. ⊎_elim
        (λ t. Among-right k l.order (key ∷ []) (inl (sym t.0)))
        (λ t. Among-left k l.order (key ∷ []) (p.ordered k c t)) (cases k c e);
    once = once;
    small = λ k c e. ⊎_elim (λ t. subst (λ (b : Placed). length b.slots ≤ most_slots) (sym t.1) few) (λ t. p.small k c t) (cases k c e);
    reflected = λ k c e. ⊎_elim (λ t. subst (λ (b : Placed). FitsKind b.kind b.native) (sym t.1) fits) (λ t. p.reflected k c t) (cases k c e);
    delegated = λ k c e. ⊎_elim (λ t. subst (λ (b : Placed). FitsDelegate b.kind b.delegate) (sym t.1) stands) (λ t. p.delegated k c t) (cases k c e);
  }

  pub objects-made : objects_of (made l cells key) ≡ objects_of l ++ with_key key (l.walks key) d ∷ []
  objects-made = grind (arith, map-append, map-agree, other)
