-- STEPS THAT ARE WANTED: one more of them is, and what is left to be done after each, from the last to the first.
use Rattle.std.specs.Prelude.{slice_get, slice_index_or, slice_set, reverse}
use Rattle.std.proofs.Common.{◌≡◌, ℕ, zero, suc, ◌+◌, ◌==◌, ◌<◌, Bool, true, false, ◌||◌, List, [], ◌∷◌, ◌++◌, length, take, drop, Some, refl, sym, ◌∙◌, ap, arith, replicate}
use Rattle.std.proofs.lemmas.Bool.{true≢false, eqb-true, eq-eqb}
use Rattle.std.proofs.lemmas.Grind.{get_or-set_at}
use Rattle.std.proofs.lemmas.List.{append-nil, get_or-set_other, reverse-append, take_more}
use Rattle.std.proofs.lemmas.Option.{get_or_from_slice_get}
use Rattle.cc_names.specs.declared.name.Name.{Name}
use Rattle.cc_names.specs.Names.{same_name}
use Rattle.cc_model.specs.Answers.{Step}
use Rattle.cc_model.specs.Derivations.{Needed, grounds, needed_for, with_needed}
use Rattle.cc_search.specs.Needed.{AreWanted}
use Rattle.cc_search.proofs.Turns.{drop-past, take-all}

-- One more is marked
mark-reads : (marks : List Bool) (k i : ℕ) → k < length marks → slice_index_or (slice_set marks k true) i false ≡ ((k == i) || slice_index_or marks i false)
mark-reads marks k i l = go (k == i) refl
  where
    go : (b : Bool) → (k == i) ≡ b → slice_index_or (slice_set marks k true) i false ≡ (b || slice_index_or marks i false)
    go true e = get_or-set_at marks k i true false (sym (eqb-true k i e)) l
    go false e = get_or-set_other marks k i true false (λ same. true≢false (sym (eq-eqb k i (sym same)) ∙ e))

pub wanted-found : (ss : List Step) (marks : List Bool) (x : Name) (k : ℕ) (names : List Name) → k < length marks →
    ((i : ℕ) (s : Step) → slice_get ss i ≡ Some s → same_name x s.0 ≡ (k == i)) → AreWanted ss marks names → AreWanted ss (slice_set marks k true) (x ∷ names)
wanted-found ss marks x k names l place wanted i s at = mark-reads marks k i l ∙ (λ j. sym (place i s at) j || wanted i s at j)

-- none is marked
none-marked : (n i : ℕ) → slice_index_or (replicate n false) i false ≡ false
none-marked zero i = refl
none-marked (suc n) zero = refl
none-marked (suc n) (suc i) = none-marked n i

pub wanted-none : (ss : List Step) (n : ℕ) (marks : List Bool) → marks ≡ replicate n false → AreWanted ss marks []
wanted-none ss n marks e i s at = ap (λ ms. slice_index_or ms i false) e ∙ none-marked n i

-- The steps from the last to the first

-- the steps that are left, before others
abbrev pub needed_onto : List Step → Needed → Needed
needed_onto [] n = n
needed_onto (s ∷ ss) n = with_needed s (needed_onto ss n)

onto-none : (ss : List Step) (xs : List Name) → needed_onto ss (record { steps = []; wanted = xs }) ≡ needed_for ss xs
onto-none [] xs = refl
onto-none (s ∷ ss) xs = ap (with_needed s) (onto-none ss xs)

onto-last : (ss : List Step) (s : Step) (n : Needed) → needed_onto (ss ++ s ∷ []) n ≡ needed_onto ss (with_needed s n)
onto-last [] s n = refl
onto-last (t ∷ ss) s n = ap (with_needed t) (onto-last ss s n)

-- WHAT IS LEFT from the last step to the first: the steps below a place
pub record IsNeeding (ss : List Step) (marks : List Bool) (x : Name) (path : List Step) (i : ℕ) : Type 0 where
  pub state : Needed
  pub left : needed_onto (take i ss) state ≡ needed_for ss (x ∷ [])
  pub told : reverse path ≡ state.steps
  pub wanted : AreWanted ss marks state.wanted

pub needing-starts : (ss : List Step) (marks : List Bool) (x : Name) (path : List Step) (i : ℕ) → path ≡ [] → i ≡ length ss → AreWanted ss marks (x ∷ []) → IsNeeding ss marks x path i
needing-starts ss marks x path i none all wanted = record {
  state = record { steps = []; wanted = x ∷ [] };
  left = ap (λ ts. needed_onto ts (record { steps = []; wanted = x ∷ [] })) (take-all ss i (omega (arith, all))) ∙ onto-none ss (x ∷ []);
  told = ap (λ (ts : List Step). reverse ts) none;
  wanted = wanted;
}

-- one step further
one-left : (ss : List Step) (i : ℕ) (s : Step) (n : Needed) → slice_get ss i ≡ Some s → i < length ss → needed_onto (take (i + 1) ss) n ≡ needed_onto (take i ss) (with_needed s n)
one-left ss i s n at l =
    ap (λ ts. needed_onto ts n) (take_more ss i s l ∙ ap (λ t. take i ss ++ t ∷ []) (get_or_from_slice_get ss i s s at)) ∙ onto-last (take i ss) s n

pub needing-not : (ss : List Step) (marks : List Bool) (x : Name) (path : List Step) (j i : ℕ) (s : Step) → j ≡ i + 1 → slice_get ss i ≡ Some s → i < length ss →
    slice_index_or marks i false ≡ false → IsNeeding ss marks x path j → IsNeeding ss marks x path i
needing-not ss marks x path j i s next at l not h = record {
  state = h.state;
  left = ap (needed_onto (take i ss)) (sym (ap (λ b. elim b [ true ↦ record { steps = s ∷ h.state.steps; wanted = grounds s.1 ++ h.state.wanted } | false ↦ h.state ])
      (sym (h.wanted i s at) ∙ not))) ∙ (sym (one-left ss i s h.state at l) ∙ (ap (λ k. needed_onto (take k ss) h.state) (sym next) ∙ h.left));
  told = h.told;
  wanted = h.wanted;
}

pub needing-one : (ss : List Step) (marks more : List Bool) (x : Name) (path longer : List Step) (j i : ℕ) (s : Step) → j ≡ i + 1 → slice_get ss i ≡ Some s → i < length ss →
    slice_index_or marks i false ≡ true → longer ≡ path ++ s ∷ [] → ((names : List Name) → AreWanted ss marks names → AreWanted ss more (grounds s.1 ++ names)) →
    IsNeeding ss marks x path j → IsNeeding ss more x longer i
needing-one ss marks more x path longer j i s next at l is pushed wanted h = record {
  state = record { steps = s ∷ h.state.steps; wanted = grounds s.1 ++ h.state.wanted };
  left = ap (needed_onto (take i ss)) (sym (ap (λ b. elim b [ true ↦ record { steps = s ∷ h.state.steps; wanted = grounds s.1 ++ h.state.wanted } | false ↦ h.state ])
      (sym (h.wanted i s at) ∙ is))) ∙ (sym (one-left ss i s h.state at l) ∙ (ap (λ k. needed_onto (take k ss) h.state) (sym next) ∙ h.left));
  told = ap (λ (ts : List Step). reverse ts) pushed ∙ (reverse-append path (s ∷ []) ∙ ap (λ ts. s ∷ ts) h.told);
  wanted = wanted h.state.wanted h.wanted;
}

-- marks that were lent as a slice, written back
pub written-back : (n : ℕ) (new old : List Bool) → length new ≡ n → length old ≡ n → take n (new ++ drop (length new) old) ≡ new
written-back n new old e f =
    ap (λ ms. take n (new ++ ms)) (drop-past old (length new) (omega (arith, e, f))) ∙ (ap (take n) (append-nil new) ∙ take-all new n (omega (arith, e)))

-- a step by its place
pub step-at : (ss : List Step) (i : ℕ) → i < length ss → (s : Step) × (slice_get ss i ≡ Some s)
step-at [] i l = absurd (omega (arith, l))
step-at (s ∷ ss) zero l = (s, refl)
step-at (s ∷ ss) (suc i) l = step-at ss i (omega (arith, l))
