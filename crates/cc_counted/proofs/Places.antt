-- Natives by key and by number: each number stands at one key, and is found there.
use Rattle.std.proofs.Common.{◌≡◌, ℕ, ◌≤◌, Bool, List, map, length, Option, Some, None, is_some, option_map, refl, sym, ◌∙◌, ap, subst, count_by, ◌==◌}
use Rattle.std.proofs.Math.ListN.{get_or-map}
use Rattle.std.proofs.lemmas.Bool.{eq-eqb}
use Rattle.std.proofs.lemmas.List.{length-map}
use Rattle.std.proofs.lemmas.Simd.{map-map}
use Rattle.cc_lists.specs.Members.{Among}
use Rattle.cc_lists.proofs.Members.{Among-map, Among-map_cases}
use Rattle.cc_lists.proofs.Counting.{count_by-map}
use Rattle.cc_lists.proofs.ListWrites.{only-member}
use Rattle.cc_chain.specs.Chains.{AllDiffer}
use Rattle.cc_chain.proofs.Occupied.{few-differ, occupied-length, parts-differ}
use Rattle.cc_model.specs.Heap.{HeapNative, native_at}
use Rattle.cc_model.specs.WellFormed.{IsRising}
use Rattle.cc_laws_heap.proofs.Face.{IsRising-distinct, IsRising-once, native_at-member}
use Rattle.cc_laws_heap.specs.Balance.{HasDistinctNumbers}
use Rattle.cc_counted.specs.Counts.{number_at, reflector_at, number_or_none, the_number, heap_of}
use Rattle.cc_counted.specs.Lists.{Placed, Lists, cell_at, reflector_placed, keyed, shown, shown_at, counts_of, IsPlaced}

-- the number of what stands at a key
abbrev pub cell_number : Option Placed → Option ℕ
cell_number o = option_map (λ c. c.number) o

-- the number at a key is that of the native there
pub number_at-cells : (cells : List (Option Placed)) (key : ℕ) → number_at (keyed cells) key ≡ cell_number (cell_at cells key)
number_at-cells cells key = get_or-map cell_number cells key None

-- and the reflector that of the native there
pub reflector_at-cells : (l : Lists) (key : ℕ) → reflector_at (counts_of l) key ≡ reflector_placed (cell_at l.cells key)
reflector_at-cells l key = get_or-map reflector_placed l.cells key None

-- where a native stands, its number does
pub number_at-cell : (cells : List (Option Placed)) (key : ℕ) (c : Placed) → cell_at cells key ≡ Some c → number_at (keyed cells) key ≡ Some c.number
number_at-cell cells key c e = number_at-cells cells key ∙ ap cell_number e

-- and the other way round
pub number_at-found : (cells : List (Option Placed)) (key k : ℕ) → number_at (keyed cells) key ≡ Some k → (c : Placed) × (cell_at cells key ≡ Some c) × (c.number ≡ k)
number_at-found cells key k e = go (cell_at cells key) refl
  where
    go : (o : Option Placed) → cell_at cells key ≡ o → (c : Placed) × (cell_at cells key ≡ Some c) × (c.number ≡ k)
    go None f = let bad : None ≡ Some k = sym (number_at-cells cells key ∙ ap cell_number f) ∙ e in absurd (cc)
    go (Some c) f = let same : Some c.number ≡ Some k = sym (number_at-cell cells key c f) ∙ e in (c, f, cc)

-- the number at the key of a native
pub the_number-cell : (cells : List (Option Placed)) (key : ℕ) (c : Placed) → cell_at cells key ≡ Some c → the_number (keyed cells) key ≡ c.number
the_number-cell cells key c e = ap number_or_none (number_at-cell cells key c e)

-- the number of what is shown at a key
pub shown-number : (cells : List (Option Placed)) (key : ℕ) → (shown_at cells key).number ≡ the_number (keyed cells) key
shown-number cells key = go (cell_at cells key) ∙ ap number_or_none (sym (number_at-cells cells key))
  where
    go : (o : Option Placed) → (shown (keyed cells) o).number ≡ number_or_none (cell_number o)
    go None = refl
    go (Some c) = refl

-- the numbers of the natives are those at the keys of the order
pub natives-numbers : (l : Lists) → map (λ n. n.number) (counts_of l).natives ≡ map (the_number (keyed l.cells)) l.order
natives-numbers l = search (map-map, shown-number)

pub length-natives : (l : Lists) → length (counts_of l).natives ≡ length l.order
length-natives l = length-map l.order (shown_at l.cells)

module _ (l : Lists) (p : IsPlaced l) where
  -- the natives are by rising number
  pub natives-rising : IsRising (map (λ n. n.number) (counts_of l).natives)
  natives-rising = subst IsRising (sym (natives-numbers l)) p.rising

  pub natives-distinct : HasDistinctNumbers (heap_of (counts_of l))
  natives-distinct = IsRising-distinct (heap_of (counts_of l)) natives-rising

  -- the order has each key once, so there are as many natives as keys at which one stands
  order-differs : AllDiffer l.order
  order-differs = parts-differ (the_number (keyed l.cells)) l.order (few-differ (map (the_number (keyed l.cells)) l.order) (IsRising-once (map (the_number (keyed l.cells)) l.order) p.rising))

  pub natives-counted : count_by is_some l.cells ≡ length (counts_of l).natives
  natives-counted = occupied-length l.cells l.order order-differs p.in_order p.ordered ∙ sym (length-natives l)

  -- no number stands at two keys
  pub one_key : (a b : ℕ) (c d : Placed) → cell_at l.cells a ≡ Some c → cell_at l.cells b ≡ Some d → c.number ≡ d.number → a ≡ b
  one_key a b c d e f same =
      only-member at_it l.order a b few (p.ordered a c e) (eq-eqb (the_number (keyed l.cells) a) d.number (the_number-cell l.cells a c e ∙ same))
      (p.ordered b d f) (eq-eqb (the_number (keyed l.cells) b) d.number (the_number-cell l.cells b d f))
    where
      at_it : ℕ → Bool
      at_it key = the_number (keyed l.cells) key == d.number

      few : count_by at_it l.order ≤ 1
      few = subst (λ n. n ≤ 1) (count_by-map (λ k. k == d.number) (the_number (keyed l.cells)) l.order)
          (IsRising-once (map (the_number (keyed l.cells)) l.order) p.rising d.number)

  -- the native at a key is found by its number
  pub native_at-cell : (key : ℕ) (c : Placed) → cell_at l.cells key ≡ Some c → native_at (heap_of (counts_of l)) c.number ≡ Some (shown (keyed l.cells) (Some c))
  native_at-cell key c e =
      native_at-member (heap_of (counts_of l)) natives-distinct (shown (keyed l.cells) (Some c))
      (subst (λ n. Among n (counts_of l).natives) (ap (shown (keyed l.cells)) e) (Among-map (shown_at l.cells) key l.order (p.ordered key c e)))

  -- each native stands at a key
  pub native-key : (n : HeapNative) → Among n (counts_of l).natives → (key : ℕ) × (c : Placed) × (cell_at l.cells key ≡ Some c) × (shown (keyed l.cells) (Some c) ≡ n)
  native-key n m =
      let f = Among-map_cases (shown_at l.cells) l.order n m in
      let g = p.in_order f.0 f.1 in
      (f.0, g.0, g.1, sym (ap (shown (keyed l.cells)) g.1) ∙ f.2)
