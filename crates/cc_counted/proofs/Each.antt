-- THE REFERENCES IN SLOTS GIVEN UP one after another: what is left to give up leads where all of it does.
use Rattle.std.proofs.Common.{◌≡◌, ℕ, ◌+◌, ◌<◌, true, List, [], ◌∷◌, ◌++◌, length, drop, drop-cons, get_or, Option, Some, None, option_map, is_some, refl, sym, ◌∙◌, ap, subst, add-one, arith}
use Rattle.std.proofs.lemmas.List.Elements.{Contains-get_or}
use Rattle.cc_lists.specs.Members.{Among}
use Rattle.cc_lists.proofs.Members.{Among-contains}
use Rattle.cc_names.specs.Names.{native}
use Rattle.cc_model.specs.declared.item.Event.{Event}
use Rattle.cc_model.specs.Cascade.{give_up, give_up_each}
use Rattle.cc_laws_heap.proofs.Face.{IsBalanced-give_up_each}
use Rattle.cc_laws_heap.specs.Balance.{IsBalanced}
use Rattle.cc_counted.specs.declared.held.Held.{Held}
use Rattle.cc_counted.specs.declared.held.Held.TheVariants as held
use Rattle.cc_counted.specs.Counts.{number_at, the_number, is_live, native_held}
use Rattle.cc_counted.specs.Lists.{Placed, Lists, cell_at, without_count, keyed, numbers_in, draining_of, IsPlaced}
use Rattle.cc_counted.specs.Steps.{GivesUp}
use Rattle.cc_counted.proofs.Places.{number_at-found, the_number-cell}
use Rattle.cc_counted.proofs.Holding.{numbers-none}

-- a balance once references were given up
pub IsBalanced-given : (old new : Lists) (ks owned : List ℕ) → GivesUp old new ks → IsBalanced (ks ++ owned) (draining_of old []) → IsBalanced owned (draining_of new [])
IsBalanced-given old new ks owned g b = subst (IsBalanced owned) (sym (g.draining [])) (IsBalanced-give_up_each owned (draining_of old []) ks b)

-- what a key that is held stands for
pub live-cell : (cells : List (Option Placed)) (key : ℕ) → is_live (keyed cells) (Some (held.Native (record { 0 = key }))) ≡ true → (c : Placed) × (cell_at cells key ≡ Some c)
live-cell cells key live = go (number_at (keyed cells) key) refl live
  where
    go : (o : Option ℕ) → number_at (keyed cells) key ≡ o → is_some (option_map native o) ≡ true → (c : Placed) × (cell_at cells key ≡ Some c)
    go None e l = absurd (cc)
    go (Some k) e l = let f = number_at-found cells key k e in (f.0, f.1)

-- the slots from the i-th on are left to give up
pub record GivesUpRest (start now : Lists) (slots : List (Option Held)) (i : ℕ) : Type 0 where
  pub rest : (events : List Event) →
      give_up_each (draining_of now events) (numbers_in (keyed start.cells) (drop i slots)) ≡ give_up_each (draining_of start events) (numbers_in (keyed start.cells) slots)
  pub placed : IsPlaced now
  pub keys : keyed now.cells ≡ keyed start.cells
  pub order : now.order ≡ start.order
  pub walk : now.walk ≡ start.walk
  pub as_many : length now.cells ≡ length start.cells
  pub cells : (key : ℕ) → option_map without_count (cell_at now.cells key) ≡ option_map without_count (cell_at start.cells key)
  pub balanced : (owned : List ℕ) × IsBalanced (numbers_in (keyed start.cells) (drop i slots) ++ owned) (draining_of now [])

module _ (start : Lists) (slots : List (Option Held)) where
  left : ℕ → List ℕ
  left i = numbers_in (keyed start.cells) (drop i slots)

  module _ (now : Lists) (i : ℕ) (within : i < length slots) (r : GivesUpRest start now slots i) where
    dropped : (x : Option Held) → get_or slots i None ≡ x → drop i slots ≡ x ∷ drop (i + 1) slots
    dropped x e = rw (drop-cons slots i None, e, add-one) refl

    -- an empty slot is passed over, and so is one that holds a script object
    pub GivesUpRest-none : native_held (get_or slots i None) ≡ None → GivesUpRest start now slots (i + 1)
    GivesUpRest-none e =
        let same : numbers_in (keyed start.cells) (drop i slots) ≡ numbers_in (keyed start.cells) (drop (i + 1) slots) =
        ap (numbers_in (keyed start.cells)) (dropped (get_or slots i None) refl)
        ∙ ap (λ ks. ks ++ numbers_in (keyed start.cells) (drop (i + 1) slots)) (numbers-none (keyed start.cells) (get_or slots i None) e) in
        record {
          rest = λ es. ap (give_up_each (draining_of now es)) (sym same) ∙ r.rest es;
          placed = r.placed;
          keys = r.keys;
          order = r.order;
          walk = r.walk;
          as_many = r.as_many;
          cells = r.cells;
          balanced = (r.balanced.0, subst (λ ks. IsBalanced (ks ++ r.balanced.0) (draining_of now [])) same r.balanced.1);
        }

    module _ (live : (x : Option Held) → Among x slots → is_live (keyed start.cells) x ≡ true) (key : ℕ)
        (e : get_or slots i None ≡ Some (held.Native (record { 0 = key }))) where
      -- the number that is given up next
      next : ℕ
      next = the_number (keyed start.cells) key

      numbers-next : numbers_in (keyed start.cells) (drop i slots) ≡ the_number (keyed start.cells) key ∷ numbers_in (keyed start.cells) (drop (i + 1) slots)
      numbers-next = ap (numbers_in (keyed start.cells)) (dropped (Some (held.Native (record { 0 = key }))) e)

      -- it stands at the key
      cell-next : (c : Placed) × (cell_at now.cells key ≡ Some c)
      cell-next =
          let there : Among (get_or slots i None) slots = Among-contains (get_or slots i None) slots (Contains-get_or slots i None within) in
          live-cell now.cells key
          (subst (λ n. is_live n (Some (held.Native (record { 0 = key }))) ≡ true) (sym r.keys)
          (live (Some (held.Native (record { 0 = key }))) (subst (λ x. Among x slots) e there)))

      -- and its reference is in hand
      pub balanced-next : (owned : List ℕ) × (c : Placed) × (cell_at now.cells key ≡ Some c) × IsBalanced (c.number ∷ owned) (draining_of now [])
      balanced-next = grind (arith, cell-next, the_number-cell, numbers-next)

      pub GivesUpRest-some : (after : Lists) → GivesUp now after (the_number (keyed now.cells) key ∷ []) → GivesUpRest start after slots (i + 1)
      GivesUpRest-some after g =
          let same : the_number (keyed now.cells) key ≡ the_number (keyed start.cells) key = ap (λ n. the_number n key) r.keys in
          record {
            rest = λ es.
                ap (λ d. give_up_each d (numbers_in (keyed start.cells) (drop (i + 1) slots))) (g.draining es ∙ ap (give_up (draining_of now es)) same)
                ∙ (ap (give_up_each (draining_of now es)) (sym numbers-next) ∙ r.rest es);
            placed = g.placed;
            keys = g.keys ∙ r.keys;
            order = g.order ∙ r.order;
            walk = g.walk ∙ r.walk;
            as_many = g.as_many ∙ r.as_many;
            cells = λ k. g.cells k ∙ r.cells k;
            balanced = (
              r.balanced.0,
              IsBalanced-given now after (the_number (keyed now.cells) key ∷ []) (numbers_in (keyed start.cells) (drop (i + 1) slots) ++ r.balanced.0) g
                  (subst (λ k. IsBalanced (k ∷ numbers_in (keyed start.cells) (drop (i + 1) slots) ++ r.balanced.0) (draining_of now [])) (sym same)
                  (subst (λ ks. IsBalanced (ks ++ r.balanced.0) (draining_of now [])) numbers-next r.balanced.1)),
            );
          }
