-- The walk over the buffer by keys.
use Rattle.std.proofs.Common.{◌≡◌, ℕ, ◌<◌, true, false, List, [], ◌∷◌, ◌++◌, length, Option, Some, None, IsSome, IfSome, option_map, option_and_then, sym, ◌∙◌, ap, subst, arith}
use Rattle.cc_lists.specs.Members.{with_all_last}
use Rattle.cc_names.specs.declared.number.NKey.{NKey}
use Rattle.cc_names.specs.declared.name.Name.{Name}
use Rattle.cc_names.specs.Names.{native, same_name}
use Rattle.cc_model.specs.Heap.{Heap}
use Rattle.cc_counted.specs.declared.held.Held.TheVariants as held
use Rattle.cc_counted.specs.Counts.{Counts}
use Rattle.cc_counted.specs.Counts as counts
use Rattle.cc_heaps.specs.Keyed.{Keyed, IsInOrder, counts_of, number_at, the_number}
use Rattle.cc_counted.specs.Suspects.{number_behind, is_in_buffer, is_purple_in}
use Rattle.cc_builder.specs.BuildSteps.{purple_name, the_name}
use Rattle.cc_builder.proofs.BuildReads.{number-there}
use Rattle.cc_builder.proofs.BufferWalks.{buffer_from, purple_names, names-next, from-shorter}
use Rattle.cc_builder.proofs.Begun.{with_all_last-append}

-- the number of the native where the walk stands
abbrev pub stands : Keyed → Option NKey → Option ℕ
stands v o = option_and_then (λ (k : NKey). number_at v k.0) o

-- what of the buffer is left from there on
abbrev pub left_from : Keyed → Option NKey → List Name
left_from v o = purple_names (buffer_from v.heap.buffer (stands v o))

abbrev pub AreLive : Keyed → Option NKey → Type 0
AreLive v o = IfSome o (λ (k : NKey). IsSome (number_at v k.0))

abbrev pub IsBuffered : Keyed → Option NKey → Type 0
IsBuffered v o = IfSome o (λ (k : NKey). is_in_buffer v.heap.buffer (the_number v k.0) ≡ true)

-- a native of the buffer where the walk stands
pub record IsAt (v : Keyed) (o : Option NKey) (key : NKey) : Type 0 where
  pub at : o ≡ Some key
  pub live : IsSome (number_at v key.0)
  pub there : is_in_buffer v.heap.buffer (the_number v key.0) ≡ true

pub is-at : (v : Keyed) (o : Option NKey) (key : NKey) → o ≡ Some key → AreLive v o → IsBuffered v o → IsAt v o key
is-at v o key e live there = record { at = e; live = subst (λ p. AreLive v p) e live; there = subst (λ p. IsBuffered v p) e there }

at-number : (v : Keyed) (o : Option NKey) (key : NKey) → IsAt v o key → stands v o ≡ Some (the_number v key.0)
at-number v o key i = ap (stands v) i.at ∙ number-there v key.0 i.live

-- the names that are left: its own, and those behind it
pub left-next : (v : Keyed) (o : Option NKey) (key : NKey) → IsInOrder [] v → IsAt v o key →
    left_from v o ≡ purple_name v.heap (the_number v key.0) ++ purple_names (buffer_from v.heap.buffer (number_behind v.heap.buffer (the_number v key.0)))
left-next v o key order i =
    ap (λ n. purple_names (buffer_from v.heap.buffer n)) (at-number v o key i)
    ∙ names-next v.heap (the_number v key.0) order.sound.well_formed.buffered_once i.there

-- what was read of the buffer
pub read-next : (v : Keyed) (c : Counts) (key : NKey) (r : Option NKey) → c ≡ counts_of v →
    option_and_then (λ (k : NKey). counts.number_at c k.0) r ≡ number_behind c.buffer (counts.the_number c key.0) →
    stands v r ≡ number_behind v.heap.buffer (the_number v key.0)
read-next v c key r same e =
    subst (λ (d : Counts). option_and_then (λ (k : NKey). counts.number_at d k.0) r ≡ number_behind d.buffer (counts.the_number d key.0)) same e

pub read-live : (v : Keyed) (c : Counts) (r : Option NKey) → c ≡ counts_of v → IfSome r (λ (k : NKey). IsSome (counts.number_at c k.0)) → AreLive v r
read-live v c r same live = subst (λ (d : Counts). IfSome r (λ (k : NKey). IsSome (counts.number_at d k.0))) same live

-- what was read is there
pub read-there : (v : Keyed) (r : Option NKey) (n : Option ℕ) → stands v r ≡ n → AreLive v r → ((k : ℕ) → n ≡ Some k → is_in_buffer v.heap.buffer k ≡ true) → IsBuffered v r
read-there v None n e live there = tt
read-there v (Some key) n e live there = there (the_number v key.0) (sym e ∙ number-there v key.0 live)

-- the name of a native that is there has its number
pub name-there : (v : Keyed) (key : NKey) → IsSome (number_at v key.0) → the_name v (held.Native key) ≡ native (the_number v key.0)
name-there v key live = ap (λ (n : Option ℕ). elim (option_map native n) [ None ↦ native 0 | Some x ↦ x ]) (number-there v key.0 live)

-- One turn of the walk

pub turn-names : (v : Keyed) (o r : Option NKey) (key : NKey) (xs ys all : List Name) → IsInOrder [] v → IsAt v o key →
    stands v r ≡ number_behind v.heap.buffer (the_number v key.0) →
    ys ≡ with_all_last same_name xs (purple_name v.heap (the_number v key.0)) →
    with_all_last same_name xs (left_from v o) ≡ all → with_all_last same_name ys (left_from v r) ≡ all
turn-names v o r key xs ys all order i next e so_far =
    let p = purple_name v.heap (the_number v key.0) in
    let rest = purple_names (buffer_from v.heap.buffer (number_behind v.heap.buffer (the_number v key.0))) in
    ap (λ n. with_all_last same_name ys (purple_names (buffer_from v.heap.buffer n))) next
    ∙ ap (λ zs. with_all_last same_name zs rest) e
    ∙ sym (with_all_last-append xs p rest)
    ∙ ap (with_all_last same_name xs) (sym (left-next v o key order i))
    ∙ so_far

pub turn-shorter : (v : Keyed) (o r : Option NKey) (key : NKey) → IsInOrder [] v → IsAt v o key →
    stands v r ≡ number_behind v.heap.buffer (the_number v key.0) →
    length (buffer_from v.heap.buffer (stands v r)) < length (buffer_from v.heap.buffer (stands v o))
turn-shorter v o r key order i next =
    let bs = v.heap.buffer in
    let k = the_number v key.0 in
    let shorter = from-shorter bs k order.sound.well_formed.buffered_once i.there in
    let a = ap (λ n. length (buffer_from bs n)) next in
    let b = ap (λ n. length (buffer_from bs n)) (at-number v o key i) in
    omega (arith, shorter, a, b)

-- the name of a purple one
pub purple-one : (h : Heap) (k : ℕ) → is_purple_in h.buffer k ≡ true → purple_name h k ≡ native k ∷ []
purple-one h k e = ap (λ b. elim b [ true ↦ native k ∷ [] | false ↦ [] ]) e

-- a purple native is among the names that are left
pub turn-purple : (v : Keyed) (o : Option NKey) (key : NKey) (xs all : List Name) → IsInOrder [] v → IsAt v o key →
    is_purple_in v.heap.buffer (the_number v key.0) ≡ true → with_all_last same_name xs (left_from v o) ≡ all →
    with_all_last same_name xs (native (the_number v key.0) ∷ purple_names (buffer_from v.heap.buffer (number_behind v.heap.buffer (the_number v key.0)))) ≡ all
turn-purple v o key xs all order i purple so_far =
    let k = the_number v key.0 in
    let rest = purple_names (buffer_from v.heap.buffer (number_behind v.heap.buffer k)) in
    ap (λ ys. with_all_last same_name xs (ys ++ rest)) (sym (purple-one v.heap k purple))
    ∙ ap (with_all_last same_name xs) (sym (left-next v o key order i))
    ∙ so_far
