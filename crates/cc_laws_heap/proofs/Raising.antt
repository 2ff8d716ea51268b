-- NEW MARKS ONLY RISE: a scan and an exposure take names from those that are not marked and from those that are not black, and add none.
use Rattle.std.proofs.Common.{arith, ◌≡◌, Bool, true, false, not, List, [], ◌∷◌, ◌++◌, Option, Some, None, refl, sym, ◌∙◌}
use Rattle.std.specs.List.{filter}
use Rattle.std.specs.Option.{option_to_list}
use Rattle.std.proofs.lemmas.Bool.{true≢false, not-true}
use Rattle.cc_lists.specs.Members.{Among, has, without}
use Rattle.cc_lists.proofs.Members.{Among-filter, Among-filtered, Among-passes, has-there, has-among}
use Rattle.cc_lists.proofs.Least.{derive-root}
use Rattle.cc_lists.proofs.Closure.{derived-closure}
use Rattle.cc_lists.specs.Least.{closure}
use Rattle.cc_names.specs.declared.name.Name.{Name}
use Rattle.cc_names.specs.Names.{same_name}
use Rattle.cc_names.proofs.NameTests.{same_name-exact}
use Rattle.cc_model.specs.Heap.{Heap}
use Rattle.cc_model.specs.Exposure.{slots_of_scripts}
use Rattle.cc_model.specs.Marking.{NewMarks, without_all, held_by_script, raised_black, raised_gray, each_raised, scanned, edges_unblack, exposure_rules_by_mark, blackened_by_mark, exposed_marks}
use Rattle.cc_laws_heap.specs.UnderMarking.{IsWithin, IsUnderMarking}

-- Names left out

-- what is left out of a list is not in it, and the rest is
pub without_all-cases : (others names : List Name) (x : Name) → Among x (without_all others names) → Among x names × (¬ (Among x others))
without_all-cases others names x m = (
  Among-filtered (λ y. not (has same_name others y)) x names m,
  λ i. true≢false (sym (has-there same_name same_name-exact others x i) ∙ not-true (has same_name others x) (Among-passes (λ y. not (has same_name others y)) x names m)),
)

-- a name of a list that is not left out is in the rest
pub without_all-in : (others names : List Name) (x : Name) → Among x names → ¬ (Among x others) → Among x (without_all others names)
without_all-in others names x m d = grind (arith, Among-filter, Among-filtered, has-among, same_name-exact)

-- a name left out leaves the others
pub without-cases : (y : Name) (names : List Name) (x : Name) → Among x (without same_name y names) → Among x names × (same_name x y ≡ false)
without-cases y names x m = (Among-filtered (λ z. not (same_name z y)) x names m, not-true (same_name x y) (Among-passes (λ z. not (same_name z y)) x names m))

-- New marks that rise

-- the second marks come from the first by raising some: what is not marked then was not, and what is not black was not
pub record Raises (m n : NewMarks) : Type 0 where
  pub unmarked : (x : Name) → Among x n.unmarked → Among x m.unmarked
  pub unblack : (x : Name) → Among x n.unblack → Among x m.unblack
  pub within : IsWithin m → IsWithin n

-- marks as they are
pub Raises-refl : (m : NewMarks) → Raises m m
Raises-refl m = record { unmarked = λ x i. i; unblack = λ x i. i; within = λ w. w }

-- one rise after another
pub Raises-trans : (m n o : NewMarks) → Raises m n → Raises n o → Raises m o
Raises-trans m n o a b = record {
  unmarked = λ x i. a.unmarked x (b.unmarked x i);
  unblack = λ x i. a.unblack x (b.unblack x i);
  within = λ w. b.within (a.within w);
}

-- other lists of those to scan
Raises-lists : (m : NewMarks) (blacks grays : List Name) → Raises m (record m { black_list = blacks; gray_list = grays })
Raises-lists m blacks grays = record { unmarked = λ x i. i; unblack = λ x i. i; within = λ w. w }

-- an object raised to black
pub Raises-black : (m : NewMarks) (y : Name) → Raises m (raised_black m y)
Raises-black m y = go (has same_name m.unblack y)
  where
    go : (b : Bool) → Raises m (elim b [
      | true ↦ record {
        unmarked = without same_name y m.unmarked;
        unblack = without same_name y m.unblack;
        black_list = m.black_list ++ y ∷ [];
        gray_list = without same_name y m.gray_list;
      }
      | false ↦ m
    ])
    go true = record {
      unmarked = λ x i. (without-cases y m.unmarked x i).0;
      unblack = λ x i. (without-cases y m.unblack x i).0;
      within = λ w x i. let c = without-cases y m.unmarked x i in Among-filter (λ z. not (same_name z y)) x m.unblack (w x c.0) (rw c.1 refl);
    }
    go false = Raises-refl m

-- an object raised to gray
pub Raises-gray : (m : NewMarks) (y : Name) → Raises m (raised_gray m y)
Raises-gray m y = go (has same_name m.unmarked y)
  where
    go : (b : Bool) → Raises m (elim b [
      | true ↦ record m { unmarked = without same_name y m.unmarked; gray_list = m.gray_list ++ y ∷ [] }
      | false ↦ m
    ])
    go true = record {
      unmarked = λ x i. (without-cases y m.unmarked x i).0;
      unblack = λ x i. i;
      within = λ w x i. w x (without-cases y m.unmarked x i).0;
    }
    go false = Raises-refl m

-- many objects raised
pub Raises-each : (raise : NewMarks → Name → NewMarks) → ((m : NewMarks) (y : Name) → Raises m (raise m y)) → (m : NewMarks) (ys : List Name) →
    Raises m (each_raised raise m ys)
Raises-each raise one m [] = Raises-refl m
Raises-each raise one m (y ∷ ys) = Raises-trans m (raise m y) (each_raised raise (raise m y) ys) (one m y) (Raises-each raise one (raise m y) ys)

-- A SCAN RAISES.
pub Raises-scanned : (h : Heap) (m : NewMarks) → Raises m (scanned h m)
unfolding scanned
Raises-scanned h m = go m.black_list m.gray_list
  where
    listed : (blacks grays : List Name) → NewMarks
    listed blacks grays = record m { black_list = blacks; gray_list = grays }

    go : (blacks grays : List Name) → Raises m (elim blacks [
      | x ∷ xs ↦ each_raised raised_black (record m { black_list = xs }) (held_by_script h x)
      | [] ↦ elim grays [
        | x ∷ xs ↦ each_raised raised_gray (record m { gray_list = xs }) (held_by_script h x)
        | [] ↦ m
      ]
    ])
    go (x ∷ xs) grays = Raises-trans m (listed xs m.gray_list) (each_raised raised_black (listed xs m.gray_list) (held_by_script h x))
        (Raises-lists m xs m.gray_list) (Raises-each raised_black Raises-black (listed xs m.gray_list) (held_by_script h x))
    go [] (x ∷ xs) = Raises-trans m (listed m.black_list xs) (each_raised raised_gray (listed m.black_list xs) (held_by_script h x))
        (Raises-lists m m.black_list xs) (Raises-each raised_gray Raises-gray (listed m.black_list xs) (held_by_script h x))
    go [] [] = Raises-refl m

-- An exposure

-- names made black
Raises-blackened : (m : NewMarks) (names : List Name) → Raises m (blackened_by_mark m names)
Raises-blackened m names = record {
  unmarked = λ x i. (without_all-cases names m.unmarked x i).0;
  unblack = λ x i. (without_all-cases names m.unblack x i).0;
  within = λ w x i. let c = without_all-cases names m.unmarked x i in without_all-in names m.unblack x (w x c.0) c.1;
}

-- AN EXPOSURE RAISES.
pub Raises-exposed : (h : Heap) (x : Option Name) (m : NewMarks) → Raises m (exposed_marks h x m)
unfolding exposed_marks
Raises-exposed h None m = Raises-refl m
Raises-exposed h (Some x) m = Raises-blackened m (closure same_name (exposure_rules_by_mark h m x))

-- WHAT IS EXPOSED IS BLACK by the new marks.
pub exposed-not_unblack : (h : Heap) (x : Option Name) (m : NewMarks) (y : Name) → Among y (option_to_list x) → ¬ (Among y (exposed_marks h x m).unblack)
unfolding exposed_marks
exposed-not_unblack h None m y i = absurd i
exposed-not_unblack h (Some x) m y i = λ u.
    let c = without_all-cases (closure same_name (exposure_rules_by_mark h m x)) m.unblack y u in
    c.1 (derived-closure same_name same_name-exact (exposure_rules_by_mark h m x) y
    (derive-root (filter (λ z. has same_name m.unblack z) (x ∷ [])) (edges_unblack m (slots_of_scripts h)) [] y
    (Among-filter (λ z. has same_name m.unblack z) y (x ∷ []) i (has-there same_name same_name-exact m.unblack y c.0))))

-- Under marking

-- Heaps under marking are so while the marks rise.
pub IsUnderMarking-raised : (h : Heap) (m n : NewMarks) → Raises m n → IsUnderMarking h m → IsUnderMarking h n
IsUnderMarking-raised h m n r u = record {
  registers = λ x i b. u.registers x i (r.unblack x b);
  held = λ x i b. u.held x i (r.unmarked x b);
  within = r.within u.within;
  there = λ x b. u.there x (r.unblack x b);
}
