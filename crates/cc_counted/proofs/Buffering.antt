-- THE BUFFER READ by keys and by numbers.
use Rattle.std.proofs.Common.{◌≡◌, ℕ, List, [], ◌∷◌, drop, map, Option, Some, None, option_map, option_and_then, is_some, IfSome, MatchOption, Bool, true, false, refl, sym, ◌∙◌, ap, subst, inl, inr, ◌==◌, arith}
use Rattle.cc_lists.specs.Members.{Among}
use Rattle.cc_lists.specs.Walks.{first_of}
use Rattle.cc_names.specs.declared.number.NKey.{NKey}
use Rattle.cc_model.specs.Heap.{Buffered, buffered_as}
use Rattle.cc_purple.specs.Marks.{Marked, marked_as, holds_key, is_purple, first_key, key_after}
use Rattle.cc_counted.specs.Counts.{number_at, the_number}
use Rattle.cc_counted.specs.Suspects.{is_in_buffer, is_purple_in, front_number, number_behind}
use Rattle.cc_counted.specs.Lists.{Placed, Lists, cell_at, keyed, marked_number, counts_of, IsPlaced}
use Rattle.cc_counted.proofs.Marking.{mark-test}
use Rattle.cc_counted.proofs.Ordering.{number-there}

-- marks of natives that are there
abbrev pub AreThere : Lists → List Marked → Type 0
AreThere l ms = (m : Marked) → Among m ms → (b : Placed) × (cell_at l.cells m.key ≡ Some b)

-- the front
pub front-number : (l : Lists) → IsPlaced l → (ms : List Marked) → AreThere l ms →
    option_and_then (number_at (counts_of l)) (first_key ms) ≡ front_number (map (marked_number (keyed l.cells)) ms)
front-number l p [] there = refl
front-number l p (m ∷ ms) there = number-there l p m.key (there m (inl refl))

module _ (l : Lists) (p : IsPlaced l) (key : ℕ) (c : Placed) (at : cell_at l.cells key ≡ Some c) where
  shows : Marked → Buffered
  shows m = marked_number (keyed l.cells) m

  test : (ms : List Marked) → AreThere l ms → (m : Marked) → Among m ms → (m.key == key) ≡ (the_number (keyed l.cells) m.key == c.number)
  test ms there m n = mark-test l p key c at ms there m n

  pub in_buffer-number : (ms : List Marked) → AreThere l ms → holds_key ms key ≡ is_in_buffer (map (marked_number (keyed l.cells)) ms) c.number
  in_buffer-number [] there = refl
  in_buffer-number (m ∷ ms) there =
      ap (λ (b : Bool). elim b [ true ↦ true | false ↦ holds_key ms key ]) (test (m ∷ ms) there m (inl refl))
      ∙ go (the_number (keyed l.cells) m.key == c.number) (in_buffer-number ms (λ n w. there n (inr w)))
    where
      one : Bool → Bool → Bool
      one b rest = elim b [ true ↦ true | false ↦ rest ]

      go : (b : Bool) → holds_key ms key ≡ is_in_buffer (map (marked_number (keyed l.cells)) ms) c.number →
          one b (holds_key ms key) ≡ one b (is_in_buffer (map (marked_number (keyed l.cells)) ms) c.number)
      go b ih = ap (one b) ih

  pub purple-number : (ms : List Marked) → AreThere l ms → is_purple ms key ≡ is_purple_in (map (marked_number (keyed l.cells)) ms) c.number
  purple-number [] there = refl
  purple-number (m ∷ ms) there =
      ap (λ (b : Bool). elim b [ true ↦ m.purple | false ↦ is_purple ms key ]) (test (m ∷ ms) there m (inl refl))
      ∙ go (the_number (keyed l.cells) m.key == c.number) (purple-number ms (λ n w. there n (inr w)))
    where
      one : Bool → Bool → Bool
      one b rest = elim b [ true ↦ m.purple | false ↦ rest ]

      go : (b : Bool) → is_purple ms key ≡ is_purple_in (map (marked_number (keyed l.cells)) ms) c.number →
          one b (is_purple ms key) ≡ one b (is_purple_in (map (marked_number (keyed l.cells)) ms) c.number)
      go b ih = ap (one b) ih

  -- the number behind
  pub behind-number : (ms : List Marked) → AreThere l ms →
      option_and_then (number_at (counts_of l)) (key_after ms key) ≡ number_behind (map (marked_number (keyed l.cells)) ms) c.number
  behind-number [] there = refl
  behind-number (m ∷ ms) there =
      ap (λ (b : Bool). option_and_then (number_at (counts_of l)) (elim b [ true ↦ first_key ms | false ↦ key_after ms key ])) (test (m ∷ ms) there m (inl refl))
      ∙ go (the_number (keyed l.cells) m.key == c.number) (behind-number ms (λ n w. there n (inr w)))
    where
      by_key : Bool → Option ℕ
      by_key b = elim b [ true ↦ first_key ms | false ↦ key_after ms key ]

      by_number : Bool → Option ℕ
      by_number b = elim b [ true ↦ front_number (map (marked_number (keyed l.cells)) ms) | false ↦ number_behind (map (marked_number (keyed l.cells)) ms) c.number ]

      go : (b : Bool) → option_and_then (number_at (counts_of l)) (key_after ms key) ≡ number_behind (map (marked_number (keyed l.cells)) ms) c.number →
          option_and_then (number_at (counts_of l)) (by_key b) ≡ by_number b
      go true ih = front-number l p ms (λ n w. there n (inr w))
      go false ih = ih

-- a key that is found is one of the marks
first-there : (ms : List Marked) (j : ℕ) → first_key ms ≡ Some j → (m : Marked) × Among m ms × (m.key ≡ j)
first-there ms j e = grind arith

after-there : (key : ℕ) (ms : List Marked) (j : ℕ) → key_after ms key ≡ Some j → (m : Marked) × Among m ms × (m.key ≡ j)
after-there key [] j e = absurd (cc)
after-there key (m ∷ ms) j e = grind (arith, first-there, after-there key ms j)

live-mark : (l : Lists) → IsPlaced l → (o : Option NKey) (k : Option ℕ) → option_map (λ (a : NKey). a.0) o ≡ k → ((j : ℕ) → k ≡ Some j → (m : Marked) × Among m l.marks × (m.key ≡ j)) →
    IfSome o (λ a. is_some (number_at (counts_of l) a.0) ≡ true)
live-mark l p None k e there = tt
live-mark l p (Some a) k e there =
    let f = there a.0 (sym e) in
    ap is_some (number-there l p a.0 (subst (λ j. (b : Placed) × (cell_at l.cells j ≡ Some b)) f.2 (p.marked f.0 f.1)))

pub live-front : (l : Lists) → IsPlaced l → (o : Option NKey) → option_map (λ (a : NKey). a.0) o ≡ first_key l.marks → IfSome o (λ a. is_some (number_at (counts_of l) a.0) ≡ true)
live-front l p o e = live-mark l p o (first_key l.marks) e (first-there l.marks)

pub live-behind : (l : Lists) → IsPlaced l → (key : ℕ) (o : Option NKey) → option_map (λ (a : NKey). a.0) o ≡ key_after l.marks key → IfSome o (λ a. is_some (number_at (counts_of l) a.0) ≡ true)
live-behind l p key o e = live-mark l p o (key_after l.marks key) e (after-there key l.marks)

-- The front taken out.
module _ (l : Lists) (p : IsPlaced l) (m : Marked) (ms : List Marked) (front : l.marks ≡ m ∷ ms) where
  pub buffer-selected : (counts_of l).buffer ≡ buffered_as (the_number (counts_of l) m.key) m.purple ∷ (counts_of (record l { marks = ms })).buffer
  buffer-selected = ap (map (marked_number (keyed l.cells))) front

  pub live-selected : is_some (number_at (counts_of l) m.key) ≡ true
  live-selected = ap is_some (number-there l p m.key (p.marked m (subst (λ xs. Among m xs) (sym front) (inl refl))))

-- the front taken out, if there was one
pub placed-front : (old new : Lists) → IsPlaced old → new ≡ record old { marks = drop 1 old.marks } → IsPlaced new
placed-front old new p e = subst IsPlaced (sym e) (record {
  in_order = p.in_order;
  ordered = p.ordered;
  rising = p.rising;
  small = p.small;
  held = p.held;
  queued = p.queued;
  marked = λ m n. p.marked m (later old.marks m n);
  walking = p.walking;
})
  where
    later : (ms : List Marked) (m : Marked) → Among m (drop 1 ms) → Among m ms
    later [] m n = n
    later (x ∷ xs) m n = inr n

front-taken : (old new : Lists) (o : Option (NKey × Bool)) → option_map (λ (front : NKey × Bool). marked_as front.0.0 front.1) o ≡ first_of old.marks → new ≡ record old { marks = drop 1 old.marks } →
    MatchOption o ((old.marks ≡ []) × (counts_of new ≡ counts_of old)) (λ front. old ≡ record new { marks = marked_as front.0.0 front.1 ∷ new.marks })
front-taken old new o f e = grind arith

-- what is known once the front was taken out, by whether there was one
pub selected : (old new : Lists) → IsPlaced old → (o : Option (NKey × Bool)) →
    option_map (λ (front : NKey × Bool). marked_as front.0.0 front.1) o ≡ first_of old.marks → new ≡ record old { marks = drop 1 old.marks } →
    MatchOption o (((counts_of old).buffer ≡ []) × (counts_of new ≡ counts_of old))
    (λ front. ((counts_of old).buffer ≡ buffered_as (the_number (counts_of old) front.0.0) front.1 ∷ (counts_of new).buffer)
    × (counts_of new ≡ record (counts_of old) { buffer = (counts_of new).buffer }) × (is_some (number_at (counts_of old) front.0.0) ≡ true))
selected old new p o f e = go o (front-taken old new o f e)
  where
    go : (o : Option (NKey × Bool)) → MatchOption o ((old.marks ≡ []) × (counts_of new ≡ counts_of old)) (λ front. old ≡ record new { marks = marked_as front.0.0 front.1 ∷ new.marks }) →
        MatchOption o (((counts_of old).buffer ≡ []) × (counts_of new ≡ counts_of old))
        (λ front. ((counts_of old).buffer ≡ buffered_as (the_number (counts_of old) front.0.0) front.1 ∷ (counts_of new).buffer)
        × (counts_of new ≡ record (counts_of old) { buffer = (counts_of new).buffer }) × (is_some (number_at (counts_of old) front.0.0) ≡ true))
    go None h = (ap (map (marked_number (keyed old.cells))) h.0, h.1)
    go (Some front) t =
        let m : Marked = marked_as front.0.0 front.1 in
        let marks : old.marks ≡ m ∷ new.marks = ap (λ (l : Lists). l.marks) t in
        let same : record old { marks = new.marks } ≡ new = ap (λ (l : Lists). record l { marks = new.marks }) t in (
          buffer-selected old p m new.marks marks ∙ ap (λ (l : Lists). buffered_as (the_number (counts_of old) front.0.0) front.1 ∷ (counts_of l).buffer) same,
          ap (λ (l : Lists). counts_of l) (sym same) ∙ ap (λ (l : Lists). record (counts_of old) { buffer = (counts_of l).buffer }) same,
          live-selected old p m new.marks marks,
        )
