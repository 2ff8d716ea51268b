-- A WALK OVER THE BUFFER BY KEYS goes by its numbers.
use Rattle.std.proofs.Common.{◌≡◌, ℕ, ◌==◌, Bool, true, false, [], List, ◌∷◌, Option, Some, refl, sym, ◌∙◌, ap, subst, ⊎_elim}
use Rattle.std.specs.Prelude.{IsTrue}
use Rattle.std.specs.Option.{option_and_then}
use Rattle.std.proofs.lemmas.Bool.{eq-eqb}
use Rattle.cc_lists.specs.Members.{Among}
use Rattle.cc_lists.specs.Walks.{HasDistinctKeys, first_key, left_at, next_key}
use Rattle.cc_lists.proofs.Walks.{StandsAt, first-stands, left-first, left-next, next-stands, stands-at}
use Rattle.cc_names.specs.declared.number.NKey.{NKey}
use Rattle.cc_model.specs.Heap.{Buffered}
use Rattle.cc_laws_heap.proofs.Face.{is_some-found}
use Rattle.cc_counted.specs.Counts.{Counts, number_or_none, the_number}
use Rattle.cc_counted.specs.Counts as counts
use Rattle.cc_counted.specs.Suspects.{front_number, is_in_buffer, number_behind}
use Rattle.cc_heaps.specs.Keyed.{Keyed, IsInOrder, counts_of, number_at}
use Rattle.cc_heaps.specs.Changes.{IsNativeThere}

abbrev pub number_in : Buffered → ℕ
number_in b = b.number

abbrev pub number_of_native : Keyed → Option NKey → Option ℕ
number_of_native v at = option_and_then (λ (key : NKey). number_at v key.0) at

-- what is left where the walk stands at a key
abbrev pub waiting_from : Keyed → Option NKey → List Buffered
waiting_from v at = left_at number_in v.heap.buffer (number_of_native v at)

-- a walk at a key
pub record IsWaitingAt (v : Keyed) (at : Option NKey) (behind : List Buffered) : Type 0 where
  pub left : waiting_from v at ≡ behind
  pub stands : first_key number_in (waiting_from v at) ≡ number_of_native v at

-- whoever stands in the buffer is found there
found-in : (bs : List Buffered) (b : Buffered) → Among b bs → is_in_buffer bs b.number ≡ true
found-in [] b m = absurd m
found-in (c ∷ cs) b m = ⊎_elim
    (λ e. ap (λ t. elim t [ true ↦ true | false ↦ is_in_buffer cs b.number ]) (eq-eqb c.number b.number (ap number_in e)))
    (λ i. go (c.number == b.number) (found-in cs b i)) m
  where
    go : (t : Bool) → is_in_buffer cs b.number ≡ true → elim t [ true ↦ true | false ↦ is_in_buffer cs b.number ] ≡ true
    go true ih = refl
    go false ih = ih

module _ (v : Keyed) (o : IsInOrder [] v) where
  distinct : HasDistinctKeys number_in v.heap.buffer
  distinct = o.sound.well_formed.buffered_once

  -- in front all are left,
  pub waiting-first : (c : Counts) → c ≡ counts_of v → (at : Option NKey) → option_and_then (λ (key : NKey). counts.number_at c key.0) at ≡ front_number c.buffer →
      IsWaitingAt v at v.heap.buffer
  waiting-first c is at e =
      let front : number_of_native v at ≡ first_key number_in v.heap.buffer =
      subst (λ (d : Counts). option_and_then (λ (key : NKey). counts.number_at d key.0) at ≡ front_number d.buffer) is e in
      record {
        left = ap (left_at number_in v.heap.buffer) front ∙ left-first number_in v.heap.buffer;
        stands = subst (λ k. first_key number_in (left_at number_in v.heap.buffer k) ≡ k) (sym front) (first-stands number_in v.heap.buffer);
      }

  module _ (key : NKey) (there : IsNativeThere v (Some key)) (stands : first_key number_in (waiting_from v (Some key)) ≡ number_of_native v (Some key)) where
    number : (k : ℕ) × (number_at v key.0 ≡ Some k)
    number = is_some-found (number_at v key.0) there

    s : StandsAt number_in v.heap.buffer number.0
    s = stands-at number_in v.heap.buffer number.0 (subst (λ k. first_key number_in (left_at number_in v.heap.buffer k) ≡ k) number.1 stands)

    the_number-is : the_number (counts_of v) key.0 ≡ s.this.number
    the_number-is = ap number_or_none number.1 ∙ sym s.here

    -- at a key its native is in the buffer,
    pub waiting-here : (c : Counts) → c ≡ counts_of v → IsTrue (is_in_buffer c.buffer (the_number c key.0))
    waiting-here c is =
        subst (λ (d : Counts). is_in_buffer d.buffer (the_number d key.0) ≡ true) (sym is)
        (ap (is_in_buffer v.heap.buffer) the_number-is ∙ found-in v.heap.buffer s.this s.there)

    -- and one is left besides what is left at the next.
    pub waiting-next : (c : Counts) → c ≡ counts_of v → (next : Option NKey) →
        option_and_then (λ (k : NKey). counts.number_at c k.0) next ≡ number_behind c.buffer (the_number c key.0) →
        (b : Buffered) × (waiting_from v (Some key) ≡ b ∷ waiting_from v next) × (first_key number_in (waiting_from v next) ≡ number_of_native v next)
    waiting-next c is next e =
        let behind : number_of_native v next ≡ next_key number_in v.heap.buffer s.this.number =
        subst (λ (d : Counts). option_and_then (λ (k : NKey). counts.number_at d k.0) next ≡ number_behind d.buffer (the_number d key.0)) is e
        ∙ ap (number_behind v.heap.buffer) the_number-is in (
          s.this,
          ap (left_at number_in v.heap.buffer) (number.1 ∙ ap Some (sym s.here))
              ∙ (left-next number_in v.heap.buffer s.this distinct s.there ∙ ap (λ k. s.this ∷ left_at number_in v.heap.buffer k) (sym behind)),
          subst (λ k. first_key number_in (left_at number_in v.heap.buffer k) ≡ k) (sym behind) (next-stands number_in v.heap.buffer s.this distinct s.there),
        )

    -- one is left at least
    pub waiting-one : (b : Buffered) × (bs : List Buffered) × (waiting_from v (Some key) ≡ b ∷ bs)
    waiting-one = (s.this, s.behind, ap (left_at number_in v.heap.buffer) number.1 ∙ s.left)
