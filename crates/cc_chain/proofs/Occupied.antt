-- HOW MANY SLOTS HOLD A VALUE: as many as a list is long that has exactly their keys, each once.
use Rattle.std.proofs.Common.{◌≡◌, ℕ, ◌+◌, ◌<◌, ◌≤◌, zero, suc, List, [], ◌∷◌, map, length, get_or, Option, Some, None, option_map, is_some, refl, sym, ◌∙◌, ap, subst, inl, inr, ⊎_elim, arith, count_by}
use Rattle.std.specs.Prelude.{◌==◌}
use Rattle.std.proofs.Math.ListN.{set}
use Rattle.std.proofs.lemmas.Bool.{cases_eq, eq-eqb}
use Rattle.std.proofs.lemmas.List.{get_or-set_other}
use Rattle.cc_lists.specs.Members.{Among}
use Rattle.cc_lists.proofs.Members.{Among-map}
use Rattle.cc_lists.proofs.Counting.{count_by-cons, count_by-map, count_by-some}
use Rattle.cc_lists.proofs.CountsOf.{count_by-agree}
use Rattle.cc_lists.proofs.Held.{is_some-map}
use Rattle.cc_chain.specs.Chains.{AllDiffer}

-- Lists of distinct elements

-- numbers that stand once each differ
pub few-differ : (keys : List ℕ) → ((k : ℕ) → count_by (λ j. j == k) keys ≤ 1) → AllDiffer keys
few-differ [] few = tt
few-differ (x ∷ xs) few = (
  λ m.
      let more : 0 < count_by (λ j. j == x) xs = count_by-some (λ j. j == x) x xs m (eq-eqb x x refl) in
      let here : count_by (λ j. j == x) (x ∷ xs) ≡ 1 + count_by (λ j. j == x) xs = rw (count_by-cons (λ j. j == x) x xs, eq-eqb x x refl) refl in
      let most : count_by (λ j. j == x) (x ∷ xs) ≤ 1 = few x in
      absurd (omega arith),
  few-differ xs (λ k. let most : count_by (λ j. j == k) (x ∷ xs) ≤ 1 = few k in omega (arith, count_by-cons (λ j. j == k) x xs)),
)

-- what differs in a part differs
pub parts-differ : {X Y : Type 0} (part : X → Y) (xs : List X) → AllDiffer (map part xs) → AllDiffer xs
parts-differ part [] d = tt
parts-differ part (x ∷ xs) d = (λ m. d.0 (Among-map part x xs m), parts-differ part xs d.1)

-- The slots

-- as many hold a value as hold a part of one
pub parts-counted : {X Y : Type 0} (part : X → Y) (slots : List (Option X)) → count_by is_some (map (option_map part) slots) ≡ count_by is_some slots
parts-counted part slots = count_by-map is_some (option_map part) slots ∙ count_by-agree (λ o. is_some (option_map part o)) is_some slots (λ o m. is_some-map part o)

module _ {X : Type 0} where
  -- where no key holds a value, there is none
  none-held : (slots : List (Option X)) → ((key : ℕ) (x : X) → ¬ (get_or slots key None ≡ Some x)) → count_by is_some slots ≡ 0
  none-held [] none = refl
  none-held (None ∷ slots) none = omega (arith, count_by-cons is_some None slots, none-held slots (λ key x e. none (suc key) x e))
  none-held (Some x ∷ slots) none = absurd (none zero x refl)

  -- a value taken out
  one-less : (slots : List (Option X)) (key : ℕ) (x : X) → get_or slots key None ≡ Some x → count_by is_some slots ≡ 1 + count_by is_some (set slots key None)
  one-less [] key x e = absurd (cc)
  one-less (s ∷ slots) zero x e = rw (count_by-cons is_some s slots, count_by-cons is_some None slots, e) refl
  one-less (s ∷ slots) (suc key) x e = omega (arith, count_by-cons is_some s slots, count_by-cons is_some s (set slots key None), one-less slots key x e)

  -- leaves its key empty
  emptied : (slots : List (Option X)) (key : ℕ) → get_or (set slots key None) key None ≡ None
  emptied [] key = refl
  emptied (s ∷ slots) zero = refl
  emptied (s ∷ slots) (suc key) = emptied slots key

  -- as many values as keys in a list that has exactly theirs, each once: the values are taken out one after another
  pub occupied-length : (slots : List (Option X)) (keys : List ℕ) → AllDiffer keys →
      ((key : ℕ) → Among key keys → (x : X) × (get_or slots key None ≡ Some x)) →
      ((key : ℕ) (x : X) → get_or slots key None ≡ Some x → Among key keys) → count_by is_some slots ≡ length keys
  occupied-length slots [] d held listed = none-held slots listed
  occupied-length slots (k ∷ ks) d held listed =
      let here = held k (inl refl) in
      let fewer : count_by is_some (set slots k None) ≡ length ks = occupied-length (set slots k None) ks d.1
      (λ key m.
      let other : ¬ (key ≡ k) = λ e. d.0 (subst (λ z. Among z ks) e m) in
      let h = held key (inr m) in (h.0, get_or-set_other slots k key None None other ∙ h.1))
      (λ key x e. ⊎_elim
      (λ same. let gone : None ≡ Some x = sym (emptied slots k) ∙ (ap (λ z. get_or (set slots k None) z None) (sym same) ∙ e) in absurd (cc))
      (λ other. ⊎_elim (λ s. absurd (other (sym s))) (λ m. m) (listed key x (sym (get_or-set_other slots k key None None other) ∙ e)))
      (cases_eq key k)) in
      omega (arith, one-less slots k here.0 here.1)
