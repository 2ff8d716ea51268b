-- How long lists are: what is left of one, beside what was taken out of it.
use Rattle.std.proofs.Common.{◌≡◌, ◌+◌, ◌≤◌, Bool, true, not, List, length, map, refl, sym, ⊎_elim, arith, count_by}
use Rattle.std.specs.List.{filter}
use Rattle.std.proofs.lemmas.List.{length-map}
use Rattle.std.proofs.lemmas.List.Filters.{length-filter_both}
use Rattle.std.proofs.lemmas.List.Sums.{length-filter, count_by-le-length}
use Rattle.cc_lists.specs.Members.{Among, has, IsEqualityTest}
use Rattle.cc_lists.specs.Counts.{keyed}
use Rattle.cc_lists.proofs.Members.{Among_or_not, has-there}
use Rattle.cc_lists.proofs.Counting.{count_by-all, count_by-some, count_by-below}
use Rattle.cc_lists.proofs.CountsOf.{count_by-none, false-left}

-- a part of a list is at most as long
pub length-filter_le : {X : Type 0} (p : X → Bool) (xs : List X) → length (filter p xs) ≤ length xs
length-filter_le p xs = omega (arith, length-filter p xs, count_by-le-length p xs)

-- so is what is made of each of a part
pub length-part_le : {X Y : Type 0} (f : X → Y) (p : X → Bool) (xs : List X) → length (map f (filter p xs)) ≤ length xs
length-part_le f p xs = omega (arith, length-map (filter p xs) f, length-filter_le p xs)

module _ {X : Type 0} (same : X → X → Bool) (exact : IsEqualityTest same) where
  -- each stands at most as often among those taken out as among those of them that were there
  taken-often : (xs ys : List X) → ((x : X) → count_by (λ y. same y x) xs ≤ 1) → ((x : X) → Among x xs → Among x ys) → (v : X) →
      count_by (keyed same (λ x. true) (λ x. x) v) xs ≤ count_by (keyed same (has same xs) (λ y. y) v) ys
  taken-often xs ys once there v = ⊎_elim
      (λ m.
      let some = count_by-some (keyed same (has same xs) (λ y. y) v) v ys (there v m) (rw (has-there same exact xs v m, (exact v v).1 refl) refl) in
      omega (arith, once v, some))
      (λ d.
      let none = count_by-none (keyed same (λ x. true) (λ x. x) v) xs
      (λ x m. false-left (same x v) (λ e. d (let s : x ≡ v = (exact x v).0 e in rw (sym s) m))) in
      omega (arith, none))
      (Among_or_not same exact xs v)

  -- WHAT IS TAKEN OUT ONCE EACH, AND WHAT IS LEFT, are no more than were there.
  pub taken-few : (xs ys : List X) → ((x : X) → count_by (λ y. same y x) xs ≤ 1) → ((x : X) → Among x xs → Among x ys) →
      length xs + length (filter (λ y. not (has same xs y)) ys) ≤ length ys
  taken-few xs ys once there = omega (
    arith,
    count_by-all xs,
    count_by-below same exact (λ x. true) (λ x. x) (has same xs) (λ y. y) xs ys (taken-often xs ys once there),
    length-filter (has same xs) ys,
    length-filter_both (has same xs) (λ y. not (has same xs y)) (λ y. refl) ys,
  )
