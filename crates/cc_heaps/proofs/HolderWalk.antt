-- A WALK TO THE NEXT HOLDER: what is looked for is the first holder from a native on.
use Rattle.std.proofs.Common.{◌≡◌, ℕ, ◌<◌, Bool, true, false, List, length, Option, Some, None, IsSome, sym, ◌∙◌, ap, subst}
use Rattle.std.specs.List.{filter}
use Rattle.std.specs.Option.{option_and_then}
use Rattle.cc_lists.specs.Walks.{first_of, is_above, left_from}
use Rattle.cc_lists.proofs.RisingWalks.{LooksFrom, LooksFrom-start, LooksFrom-next, LooksFrom-found, left_from-fewer}
use Rattle.cc_names.specs.declared.number.NKey.{NKey}
use Rattle.cc_lists.proofs.Rising.{IsRising-filter}
use Rattle.cc_model.specs.Heap.{HeapNative, native_at}
use Rattle.cc_model.specs.WellFormed.{IsRising}
use Rattle.cc_counted.specs.Counts as counts
use Rattle.cc_heaps.specs.Keyed.{IsInOrder, number_at, the_number}
use Rattle.cc_heaps.specs.Named.{IsLive}
use Rattle.cc_heaps.specs.Holders.{holder_after}
use Rattle.cc_heaps.specs.GrayHeld.{is_referring, numbers_in, numbers_referring, refers_found}
use Rattle.cc_heaps.specs.Roots.{references_in}
use Rattle.cc_heaps.specs.Fields.{heap_of, keyed_of, IsLinked}
use Rattle.cc_heaps.specs.declared.heaps.Heaps.TheInside.{Inside}
use Rattle.cc_heaps.proofs.Listing.{rising-counted}
use Rattle.cc_heaps.proofs.Content.{number-some}
use Rattle.cc_heaps.proofs.GrayHolders.{holds, holds_found, holder_numbers-is}
use Rattle.cc_heaps.proofs.NextHolder.{any-gray, filter-within}
use Rattle.cc_heaps.proofs.ObjectsKept.{keys-counted}

-- the number of a native, where there is one
abbrev pub number_of_key : Inside → Option NKey → Option ℕ
number_of_key p at = option_and_then (λ (k : NKey). number_at (keyed_of p) k.0) at

-- whether a number is that of a holder
abbrev pub is_holding : Inside → ℕ → Bool
is_holding p k = holds p.scripts p.counted k

-- the numbers that are left of the walk
abbrev pub numbers_left : Inside → Option NKey → List ℕ
numbers_left p at = left_from (numbers_referring p.counted) (number_of_key p at)

-- the holder that is looked for is the first from a native on
pub record IsLooking (p : Inside) (after at : Option NKey) : Type 0 where
  pub looks : LooksFrom (is_holding p) (numbers_referring p.counted) (number_of_key p after) (number_of_key p at)
  pub there : IsLive p.counted.keys at

-- a holder refers to a script object
holding-refers : (p : Inside) (k : ℕ) → is_holding p k ≡ true → is_referring p.counted k ≡ true
holding-refers p k = go (native_at (counts.heap_of p.counted) k)
  where
    go : (o : Option HeapNative) → holds_found p.scripts p.counted o ≡ true → refers_found p.counted o ≡ true
    go None e = e
    go (Some n) e = any-gray p.scripts (references_in p.counted n) e

module _ (p : Inside) (owned : List ℕ) (o : IsInOrder owned (keyed_of p)) (after : Option NKey) where
  rising : IsRising (numbers_referring p.counted)
  rising = IsRising-filter (is_referring p.counted) (numbers_in p.counted) (rising-counted p owned o)

  -- it begins with the first native above
  pub IsLooking-start : (next : Option NKey) → number_of_key p next ≡ first_of (filter (is_above (number_of_key p after)) (numbers_referring p.counted)) →
      IsLive p.counted.keys next → IsLooking p after next
  IsLooking-start next e there = record {
    looks = LooksFrom-start (numbers_referring p.counted) rising (is_holding p) (number_of_key p after) (number_of_key p next) e;
    there = there;
  }

  module _ (at : Option NKey) (key : NKey) (is : at ≡ Some key) (looking : IsLooking p after at) where
    pub key-there : IsSome (number_at (keyed_of p) key.0)
    key-there = subst (IsLive p.counted.keys) is looking.there

    key-number : number_at (keyed_of p) key.0 ≡ Some (the_number (keyed_of p) key.0)
    key-number = number-some (number_at (keyed_of p) key.0) key-there

    key-looks : LooksFrom (is_holding p) (numbers_referring p.counted) (number_of_key p after) (number_at (keyed_of p) key.0)
    key-looks = subst (λ a. LooksFrom (is_holding p) (numbers_referring p.counted) (number_of_key p after) (number_of_key p a)) is looking.looks

    -- it goes on where one is no holder
    pub IsLooking-next : is_holding p (the_number (keyed_of p) key.0) ≡ false → (next : Option NKey) →
        number_of_key p next ≡ first_of (filter (is_above (number_at (keyed_of p) key.0)) (numbers_referring p.counted)) → IsLive p.counted.keys next → IsLooking p after next
    IsLooking-next w next e there = record {
      looks = LooksFrom-next (numbers_referring p.counted) rising (is_holding p) (number_of_key p after) (number_at (keyed_of p) key.0) (number_of_key p next) (the_number (keyed_of p) key.0) key-number key-looks w e;
      there = there;
    }

    -- with less left
    pub numbers_left-less : (next : Option NKey) → number_of_key p next ≡ first_of (filter (is_above (number_at (keyed_of p) key.0)) (numbers_referring p.counted)) →
        length (numbers_left p next) < length (numbers_left p at)
    numbers_left-less next e = subst (λ a. length (numbers_left p next) < length (numbers_left p a)) (sym is)
        (left_from-fewer (numbers_referring p.counted) rising (number_at (keyed_of p) key.0) (number_of_key p next) (the_number (keyed_of p) key.0) key-number e)

  module _ (l : IsLinked p) where
    after-is : first_of (filter (is_above (number_of_key p after)) (filter (is_holding p) (numbers_referring p.counted))) ≡ holder_after (heap_of p) (number_of_key p after)
    after-is = ap (λ ks. first_of (filter (is_above (number_of_key p after)) ks))
        (filter-within (is_holding p) (is_referring p.counted) (holding-refers p) (numbers_in p.counted) ∙ sym (holder_numbers-is p l (keys-counted owned p l o) o.sound.well_formed))

    -- it ends with the first that is one,
    pub holder-found : (at : Option NKey) (key : NKey) → at ≡ Some key → IsLooking p after at → is_holding p (the_number (keyed_of p) key.0) ≡ true →
        number_at (keyed_of p) key.0 ≡ holder_after (heap_of p) (number_of_key p after)
    holder-found at key is looking w =
        LooksFrom-found (is_holding p) (numbers_referring p.counted) (number_of_key p after) (number_at (keyed_of p) key.0) (the_number (keyed_of p) key.0) (key-number at key is looking) (key-looks at key is looking) w
        ∙ after-is

    -- or where none is left
    pub holder-none : (at : Option NKey) → at ≡ None → IsLooking p after at → None ≡ holder_after (heap_of p) (number_of_key p after)
    holder-none at is looking =
        sym (subst (λ a. LooksFrom (is_holding p) (numbers_referring p.counted) (number_of_key p after) (number_of_key p a)) is looking.looks) ∙ after-is
