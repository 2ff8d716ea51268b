-- THE NATIVES IN ORDER: the key behind a key is that of the native with the next greater number.
use Rattle.std.proofs.Common.{◌≡◌, ℕ, List, [], ◌∷◌, ◌++◌, map, Option, Some, None, option_map, option_and_then, is_some, IfSome, true, refl, sym, ◌∙◌, ap, subst, inr, arith, ◌==◌, nat_lt}
use Rattle.std.specs.List.{filter}
use Rattle.std.proofs.lemmas.Bool.{eqb-true, eq-eqb}
use Rattle.std.proofs.lemmas.List.{map-append}
use Rattle.cc_lists.specs.Members.{Among}
use Rattle.cc_lists.specs.Walks.{HasDistinctKeys, IsRising, first_of, first_key, next_key}
use Rattle.cc_lists.proofs.Members.{Among-right}
use Rattle.cc_lists.proofs.Filtering.{count_by-weaker}
use Rattle.cc_lists.proofs.Rising.{rising-distinct}
use Rattle.cc_lists.proofs.RisingWalks.{between-above}
use Rattle.cc_lists.proofs.Walks.{IsBetween, among-between, next_key-among, others-around, next-between}
use Rattle.cc_chain.specs.Chains.{behind}
use Rattle.cc_model.specs.Heap.{HeapNative}
use Rattle.cc_names.specs.declared.number.NKey.{NKey}
use Rattle.cc_counted.specs.Counts.{number_at, the_number, first_number, number_after}
use Rattle.cc_counted.specs.Lists.{Placed, Lists, cell_at, keyed, shown_at, counts_of, IsPlaced}
use Rattle.cc_counted.proofs.Places.{number_at-cell, the_number-cell, shown-number, natives-rising}

-- the first key of a list, and the key behind another
first_of-key : (keys : List ℕ) → first_of keys ≡ first_key (λ k. k) keys
first_of-key keys = search

behind-next_key : (keys : List ℕ) (key : ℕ) → first_of (behind key keys) ≡ next_key (λ k. k) keys key
behind-next_key [] key = refl
behind-next_key (k ∷ ks) key = grind (arith, first_of-key, behind-next_key ks key)

-- they stand in the list
pub first-among : (keys : List ℕ) (key : ℕ) → first_of keys ≡ Some key → Among key keys
first-among keys key e = grind arith

pub behind-among : (keys : List ℕ) (key j : ℕ) → first_of (behind key keys) ≡ Some j → Among j keys
behind-among keys key j e = grind (arith, next_key-among, behind-next_key)

module _ (l : Lists) (p : IsPlaced l) where
  abbrev number : ℕ → ℕ
  number key = the_number (keyed l.cells) key

  -- the number at a key of the order
  pub number-there : (key : ℕ) → (c : Placed) × (cell_at l.cells key ≡ Some c) → number_at (counts_of l) key ≡ Some (the_number (keyed l.cells) key)
  number-there key f = number_at-cell l.cells key f.0 f.1 ∙ ap Some (sym (the_number-cell l.cells key f.0 f.1))

  -- the first of some natives
  pub number-first : (keys : List ℕ) → ((key : ℕ) → Among key keys → (c : Placed) × (cell_at l.cells key ≡ Some c)) →
      option_and_then (number_at (counts_of l)) (first_of keys) ≡ first_number (map (shown_at l.cells) keys)
  number-first keys there = grind (arith, number-there, shown-number)

  -- no key stands twice in the order, since no number does
  keys-distinct : HasDistinctKeys (λ k. k) l.order
  keys-distinct k = omega (
    arith,
    count_by-weaker (λ j. j == k) (λ j. number j == number k) l.order (λ j e. eq-eqb (number j) (number k) (ap number (eqb-true j k e))),
    rising-distinct (the_number (keyed l.cells)) l.order p.rising (number k),
  )

  module _ (key : ℕ) (at : (c : Placed) × (cell_at l.cells key ≡ Some c)) where
    b : IsBetween ℕ key l.order
    b = among-between key l.order (p.ordered key at.0 at.1)

    key-behind : first_of (behind key l.order) ≡ first_of b.behind
    key-behind = behind-next_key l.order key
        ∙ (ap (λ ks. next_key (λ k. k) ks key) b.whole
        ∙ next-between (λ (k : ℕ). k) key b.behind b.before (others-around (λ (k : ℕ). k) b.before key b.behind (subst (HasDistinctKeys (λ k. k)) b.whole keys-distinct)).0)
        ∙ sym (first_of-key b.behind)

    natives-whole : (counts_of l).natives ≡ map (shown_at l.cells) b.before ++ shown_at l.cells key ∷ map (shown_at l.cells) b.behind
    natives-whole = ap (map (shown_at l.cells)) b.whole ∙ map-append (shown_at l.cells) b.before (key ∷ b.behind)

    natives-behind : filter (λ n. nat_lt (number key) n.number) (counts_of l).natives ≡ map (shown_at l.cells) b.behind
    natives-behind = (λ i. filter (λ n. nat_lt (sym (shown-number l.cells key) i) n.number) (natives-whole i))
        ∙ between-above (λ (n : HeapNative). n.number) (map (shown_at l.cells) b.before) (shown_at l.cells key) (map (shown_at l.cells) b.behind)
        (subst (λ ns. IsRising (map (λ (n : HeapNative). n.number) ns)) natives-whole (natives-rising l p))

    pub number-next : option_and_then (number_at (counts_of l)) (first_of (behind key l.order)) ≡ number_after (counts_of l) (the_number (counts_of l) key)
    number-next = ap (option_and_then (number_at (counts_of l))) key-behind
        ∙ (number-first b.behind (λ k m. p.in_order k (subst (Among k) (sym b.whole) (Among-right k b.before (key ∷ b.behind) (inr m))))
        ∙ ap first_number (sym natives-behind))

-- a key of the code is a number
pub and_then-key : {Y : Type 0} (f : ℕ → Option Y) (o : Option NKey) (k : Option ℕ) → option_map (λ (k : NKey). k.0) o ≡ k → option_and_then (λ (k : NKey). f k.0) o ≡ option_and_then f k
and_then-key {Y} f o k e = go o ∙ ap (option_and_then f) e
  where
    go : (a : Option NKey) → option_and_then (λ (k : NKey). f k.0) a ≡ option_and_then f (option_map (λ (k : NKey). k.0) a)
    go None = refl
    go (Some a) = refl

-- a key that is found is that of a native
pub live-key : (l : Lists) → IsPlaced l → (o : Option NKey) (k : Option ℕ) → option_map (λ (a : NKey). a.0) o ≡ k → ((j : ℕ) → k ≡ Some j → Among j l.order) →
    IfSome o (λ a. is_some (number_at (counts_of l) a.0) ≡ true)
live-key l p None k e there = tt
live-key l p (Some a) k e there = ap is_some (number-there l p a.0 (p.in_order a.0 (there a.0 (sym e))))
