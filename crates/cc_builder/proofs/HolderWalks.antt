-- THE WALK OVER THE NATIVES THAT HOLD A GRAY SCRIPT OBJECT, by keys.
use Rattle.std.proofs.Common.{◌≡◌, ◌≢◌, ℕ, ◌<◌, List, [], ◌∷◌, map, length, Option, Some, None, refl, sym, ◌∙◌, ap, subst}
use Rattle.std.specs.List.{filter}
use Rattle.cc_lists.specs.Members.{with_last, with_all_last}
use Rattle.cc_names.specs.declared.number.NKey.{NKey}
use Rattle.cc_names.specs.declared.name.Name.{Name}
use Rattle.cc_names.specs.Names.{native, same_name}
use Rattle.cc_model.specs.Heap.{HeapNative}
use Rattle.cc_model.specs.WellFormed.{IsRising}
use Rattle.cc_model.specs.Units.{holds_gray, holders_of}
use Rattle.cc_heaps.specs.Keyed.{Keyed, IsInOrder, number_at, the_number}
use Rattle.cc_heaps.specs.Changes.{IsNativeThere}
use Rattle.cc_heaps.specs.Holders.{native_numbers, holder_numbers, is_above, first_of, holder_after}
use Rattle.cc_builder.proofs.BuildReads.{number-there}
use Rattle.cc_builder.proofs.BuildWalks.{stands}
use Rattle.cc_lists.specs.Walks.{left_from}
use Rattle.cc_lists.proofs.Rising.{rising-part}
use Rattle.cc_lists.proofs.RisingWalks.{all-above, left_from-first, left_from-next, left_from-fewer}

-- Numbers of natives

-- they are those of their names
names-numbers : (ns : List HeapNative) → map native (native_numbers ns) ≡ map (λ n. native n.number) ns
names-numbers [] = refl
names-numbers (n ∷ ns) = ap (λ xs. native n.number ∷ xs) (names-numbers ns)

no-numbers : (ns : List HeapNative) → map (λ n. native n.number) ns ≡ [] → native_numbers ns ≡ []
no-numbers [] e = refl
no-numbers (n ∷ ns) e = absurd (cc)

-- The holders

holders-rising : (v : Keyed) → IsInOrder [] v → IsRising (holder_numbers v.heap)
holders-rising v order = rising-part (λ (n : HeapNative). n.number) (holds_gray v.heap) v.heap.natives order.sound.well_formed.rising

-- THOSE THAT ARE LEFT of the walk, from where it stands on
abbrev pub holders_from : Keyed → Option NKey → List Name
holders_from v o = map native (left_from (holder_numbers v.heap) (stands v o))

-- at the start that is all
pub holders-start : (v : Keyed) (o : Option NKey) → IsInOrder [] v → stands v o ≡ holder_after v.heap None → holders_from v o ≡ holders_of v.heap
holders-start v o order e =
    let ks = holder_numbers v.heap in
    ap (λ n. map native (left_from ks n)) e
    ∙ ap (map native) (left_from-first ks (holders-rising v order) None ∙ all-above ks)
    ∙ names-numbers (filter (holds_gray v.heap) v.heap.natives)

-- One turn of the walk

module _ (v : Keyed) (o : Option NKey) (key : NKey) (at : o ≡ Some key) (there : IsNativeThere v o) where
  standing : stands v o ≡ Some (the_number v key.0)
  standing = ap (stands v) at ∙ number-there v key.0 (subst (IsNativeThere v) at there)

  -- its next is that of its number
  next-of : (r : Option NKey) → stands v r ≡ holder_after v.heap (number_at v key.0) → stands v r ≡ holder_after v.heap (stands v o)
  next-of r next = next ∙ ap (λ p. holder_after v.heap (stands v p)) (sym at)

  -- the holder where it stands, and those from the next one on
  holders-next : (r : Option NKey) → IsInOrder [] v → stands v r ≡ holder_after v.heap (number_at v key.0) → holders_from v o ≡ native (the_number v key.0) ∷ holders_from v r
  holders-next r order next =
      ap (map native) (left_from-next (holder_numbers v.heap) (holders-rising v order) (stands v o) (stands v r) (the_number v key.0) standing (next-of r next))

  pub holders-turn : (r : Option NKey) (xs ys all : List Name) → IsInOrder [] v → stands v r ≡ holder_after v.heap (number_at v key.0) →
      ys ≡ with_last same_name xs (native (the_number v key.0)) →
      with_all_last same_name xs (holders_from v o) ≡ all → with_all_last same_name ys (holders_from v r) ≡ all
  holders-turn r xs ys all order next e so_far =
      ap (λ zs. with_all_last same_name zs (holders_from v r)) e
      ∙ ap (with_all_last same_name xs) (sym (holders-next r order next))
      ∙ so_far

  pub holders-shorter : (r : Option NKey) → IsInOrder [] v → stands v r ≡ holder_after v.heap (number_at v key.0) →
      length (left_from (holder_numbers v.heap) (stands v r)) < length (left_from (holder_numbers v.heap) (stands v o))
  holders-shorter r order next =
      left_from-fewer (holder_numbers v.heap) (holders-rising v order) (stands v o) (stands v r) (the_number v key.0) standing (next-of r next)

  -- there is one, where the walk stands at one
  pub some-holder : (after : Option ℕ) → stands v o ≡ holder_after v.heap after → holders_of v.heap ≢ []
  some-holder after found none =
      let no_numbers = no-numbers (filter (holds_gray v.heap) v.heap.natives) none in
      let nothing : holder_after v.heap after ≡ None = ap (λ ks. first_of (filter (is_above after) ks)) no_numbers in
      let something = standing in
      absurd (cc)
