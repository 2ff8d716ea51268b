-- A SCAN LEAVES FEWER SCANS: what goes on a list leaves a list of what has no higher mark.
use Rattle.std.proofs.Common.{arith, ◌≡◌, suc, cond, ◌<◌, ◌≤◌, ◌&&◌, Bool, true, false, not, List, [], ◌∷◌, ◌++◌, length, refl, ap, length-append}
use Rattle.std.proofs.lemmas.Bool.{true≢false}
use Rattle.cc_lists.specs.Members.{has, without}
use Rattle.cc_lists.proofs.Members.{has-among}
use Rattle.cc_lists.proofs.Filtering.{length-filter-less}
use Rattle.cc_names.specs.declared.name.Name.{Name}
use Rattle.cc_names.specs.Names.{same_name}
use Rattle.cc_names.proofs.NameTests.{same_name-refl, same_name-exact}
use Rattle.cc_model.specs.Heap.{Heap}
use Rattle.cc_model.specs.Marking.{NewMarks, held_by_script, raised_black, raised_gray, each_raised, scanned, is_scanned, is_none_of, scans_left}

-- a list without a name is at most as long
without-no_longer : (y : Name) (xs : List Name) → length (without same_name y xs) ≤ length xs
without-no_longer y [] = omega arith
without-no_longer y (x ∷ xs) = go (without-no_longer y xs) (not (same_name x y))
  where
    go : length (without same_name y xs) ≤ length xs → (b : Bool) → length (cond b (x ∷ without same_name y xs) (without same_name y xs)) ≤ suc (length xs)
    go i true = omega (arith, i)
    go i false = omega (arith, i)

-- and shorter, where the name is there
without-shorter : (y : Name) (xs : List Name) → has same_name xs y ≡ true → length (without same_name y xs) < length xs
without-shorter y xs e = length-filter-less (λ z. not (same_name z y)) xs y (has-among same_name same_name-exact xs y e) (ap not (same_name-refl y))

-- an object raised to black leaves no more scans
raised_black-left : (m : NewMarks) (y : Name) → scans_left (raised_black m y) ≤ scans_left m
raised_black-left m y = go (has same_name m.unblack y) refl
  where
    go : (b : Bool) → has same_name m.unblack y ≡ b → scans_left (elim b [
      | true ↦ record {
        unmarked = without same_name y m.unmarked;
        unblack = without same_name y m.unblack;
        black_list = m.black_list ++ y ∷ [];
        gray_list = without same_name y m.gray_list;
      }
      | false ↦ m
    ]) ≤ scans_left m
    go true e = omega (
      arith,
      length-append m.black_list (y ∷ []),
      without-shorter y m.unblack e,
      without-no_longer y m.unmarked,
      without-no_longer y m.gray_list,
    )
    go false e = omega arith

-- nor does one raised to gray
raised_gray-left : (m : NewMarks) (y : Name) → scans_left (raised_gray m y) ≤ scans_left m
raised_gray-left m y = go (has same_name m.unmarked y) refl
  where
    go : (b : Bool) → has same_name m.unmarked y ≡ b → scans_left (elim b [
      | true ↦ record m { unmarked = without same_name y m.unmarked; gray_list = m.gray_list ++ y ∷ [] }
      | false ↦ m
    ]) ≤ scans_left m
    go true e = omega (arith, length-append m.gray_list (y ∷ []), without-shorter y m.unmarked e)
    go false e = omega arith

-- many raised leave no more, where one does
each_raised-left : (raise : NewMarks → Name → NewMarks) → ((m : NewMarks) (y : Name) → scans_left (raise m y) ≤ scans_left m) → (m : NewMarks) (ys : List Name) →
    scans_left (each_raised raise m ys) ≤ scans_left m
each_raised-left raise one m [] = omega arith
each_raised-left raise one m (y ∷ ys) = omega (arith, one m y, each_raised-left raise one (raise m y) ys)

-- A SCAN LEAVES FEWER.
pub scanned-less : (h : Heap) (m : NewMarks) → is_scanned m ≡ false → scans_left (scanned h m) < scans_left m
unfolding scanned
scanned-less h m e = go m.black_list m.gray_list refl refl e
  where
    go : (blacks grays : List Name) → m.black_list ≡ blacks → m.gray_list ≡ grays → (is_none_of blacks && is_none_of grays) ≡ false → scans_left (elim blacks [
      | x ∷ xs ↦ each_raised raised_black (record m { black_list = xs }) (held_by_script h x)
      | [] ↦ elim grays [
        | x ∷ xs ↦ each_raised raised_gray (record m { gray_list = xs }) (held_by_script h x)
        | [] ↦ m
      ]
    ]) < scans_left m
    go (x ∷ xs) grays b g t =
        let left : length m.black_list ≡ suc (length xs) = ap length b in
        omega (arith, left, each_raised-left raised_black raised_black-left (record m { black_list = xs }) (held_by_script h x))
    go [] (x ∷ xs) b g t =
        let left : length m.gray_list ≡ suc (length xs) = ap length g in
        omega (arith, left, each_raised-left raised_gray raised_gray-left (record m { gray_list = xs }) (held_by_script h x))
    go [] [] b g t = absurd (true≢false t)
