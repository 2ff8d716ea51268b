-- EACH OBJECT WAITS AT MOST ONCE on a list of those to scan: one that is raised was not there, since its mark was lower.
use Rattle.std.proofs.Common.{arith, ◌≡◌, ◌≤◌, Bool, true, false, not, List, [], ◌∷◌, ◌++◌, refl, sym, ◌∙◌, subst, ⊎_elim, inr, count_by}
use Rattle.std.proofs.lemmas.Bool.{true≢false}
use Rattle.cc_lists.specs.Members.{Among, has, without}
use Rattle.cc_lists.proofs.Members.{Among-append, has-among}
use Rattle.cc_lists.proofs.Counting.{count_by-cons}
use Rattle.cc_lists.proofs.Filtering.{count_by-filter-le}
use Rattle.cc_names.specs.declared.name.Name.{Name}
use Rattle.cc_names.specs.Names.{same_name}
use Rattle.cc_names.proofs.NameTests.{same_name-exact}
use Rattle.cc_model.specs.Heap.{Heap}
use Rattle.cc_model.specs.WellFormed.{script_names}
use Rattle.cc_model.specs.Marking.{NewMarks, held_by_script, raised_black, raised_gray, each_raised, scanned}
use Rattle.cc_laws_heap.specs.UnderMarking.{IsScannedSoFar}
use Rattle.cc_laws_heap.proofs.Raising.{without-cases}
use Rattle.cc_laws_marking.specs.Lists.{HasListsInOrder}
use Rattle.cc_laws_marking.proofs.InOrder.{AreInOrderOf-part, once-last}

-- the lists of those to scan have black objects and marked ones
record HaveTheirMarks (m : NewMarks) : Type 0 where
  black_list : (x : Name) → Among x m.black_list → ¬ (Among x m.unblack)
  gray_list : (x : Name) → Among x m.gray_list → ¬ (Among x m.unmarked)

-- a name that is left out of a list is not in it
without-gone : (y : Name) (xs : List Name) → ¬ (Among y (without same_name y xs))
without-gone y xs i = true≢false (sym ((same_name-exact y y).1 refl) ∙ (without-cases y xs y i).1)

module _ (h : Heap) where
  -- lists in order, and their marks
  record WaitInOrder (m : NewMarks) : Type 0 where
    lists : HasListsInOrder h m
    marks : HaveTheirMarks m

  -- an object raised to black
  WaitInOrder-black : (m : NewMarks) (y : Name) → WaitInOrder m → WaitInOrder (raised_black m y)
  WaitInOrder-black m y w = go (has same_name m.unblack y) refl
    where
      go : (b : Bool) → has same_name m.unblack y ≡ b → WaitInOrder (elim b [
        | true ↦ record {
          unmarked = without same_name y m.unmarked;
          unblack = without same_name y m.unblack;
          black_list = m.black_list ++ y ∷ [];
          gray_list = without same_name y m.gray_list;
        }
        | false ↦ m
      ])
      go true t = record {
        lists = record {
          unmarked = AreInOrderOf-part (script_names h) (λ z. not (same_name z y)) m.unmarked w.lists.unmarked;
          unblack = AreInOrderOf-part (script_names h) (λ z. not (same_name z y)) m.unblack w.lists.unblack;
          black_list = once-last m.black_list y (λ i. w.marks.black_list y i (has-among same_name same_name-exact m.unblack y t)) w.lists.black_list;
          gray_list = λ x. omega (arith, count_by-filter-le (same_name x) (λ z. not (same_name z y)) m.gray_list, w.lists.gray_list x);
        };
        marks = record {
          black_list = λ x i u. ⊎_elim
              (λ old. w.marks.black_list x old (without-cases y m.unblack x u).0)
              (λ new. ⊎_elim (λ e. without-gone y m.unblack (subst (λ z. Among z (without same_name y m.unblack)) (sym e) u)) (λ none. absurd none) new)
              (Among-append x m.black_list (y ∷ []) i);
          gray_list = λ x i u. w.marks.gray_list x (without-cases y m.gray_list x i).0 (without-cases y m.unmarked x u).0;
        };
      }
      go false t = w

  -- an object raised to gray
  WaitInOrder-gray : (m : NewMarks) (y : Name) → WaitInOrder m → WaitInOrder (raised_gray m y)
  WaitInOrder-gray m y w = go (has same_name m.unmarked y) refl
    where
      go : (b : Bool) → has same_name m.unmarked y ≡ b → WaitInOrder (elim b [
        | true ↦ record m { unmarked = without same_name y m.unmarked; gray_list = m.gray_list ++ y ∷ [] }
        | false ↦ m
      ])
      go true t = record {
        lists = record {
          unmarked = AreInOrderOf-part (script_names h) (λ z. not (same_name z y)) m.unmarked w.lists.unmarked;
          unblack = w.lists.unblack;
          black_list = w.lists.black_list;
          gray_list = once-last m.gray_list y (λ i. w.marks.gray_list y i (has-among same_name same_name-exact m.unmarked y t)) w.lists.gray_list;
        };
        marks = record {
          black_list = w.marks.black_list;
          gray_list = λ x i u. ⊎_elim
              (λ old. w.marks.gray_list x old (without-cases y m.unmarked x u).0)
              (λ new. ⊎_elim (λ e. without-gone y m.unmarked (subst (λ z. Among z (without same_name y m.unmarked)) (sym e) u)) (λ none. absurd none) new)
              (Among-append x m.gray_list (y ∷ []) i);
        };
      }
      go false t = w

  -- many objects raised
  WaitInOrder-each : (raise : NewMarks → Name → NewMarks) → ((m : NewMarks) (y : Name) → WaitInOrder m → WaitInOrder (raise m y)) → (m : NewMarks) (ys : List Name) →
      WaitInOrder m → WaitInOrder (each_raised raise m ys)
  WaitInOrder-each raise one m [] w = w
  WaitInOrder-each raise one m (y ∷ ys) w = WaitInOrder-each raise one (raise m y) ys (one m y w)

  -- a list without its first
  rest-once : (x : Name) (xs ys : List Name) → ys ≡ x ∷ xs → ((y : Name) → count_by (same_name y) ys ≤ 1) → (y : Name) → count_by (same_name y) xs ≤ 1
  rest-once x xs ys e once y =
      let all : count_by (same_name y) (x ∷ xs) ≤ 1 = subst (λ zs. count_by (same_name y) zs ≤ 1) e (once y) in
      omega (arith, all, count_by-cons (same_name y) x xs)

  -- A SCAN KEEPS THE LISTS IN ORDER.
  pub HasListsInOrder-scanned : (m : NewMarks) → IsScannedSoFar h m → HasListsInOrder h m → HasListsInOrder h (scanned h m)
  unfolding scanned
  HasListsInOrder-scanned m s l = go m.black_list m.gray_list refl refl
    where
      blackened : (x : Name) (xs : List Name) → m.black_list ≡ x ∷ xs → WaitInOrder (record m { black_list = xs })
      blackened x xs b = record {
        lists = record { unmarked = l.unmarked; unblack = l.unblack; black_list = rest-once x xs m.black_list b l.black_list; gray_list = l.gray_list };
        marks = record {
          black_list = λ y i. (s.black_list y (subst (Among y) (sym b) (inr i))).1;
          gray_list = λ y i. (s.gray_list y i).1;
        };
      }

      grayed : (x : Name) (xs : List Name) → m.gray_list ≡ x ∷ xs → WaitInOrder (record m { gray_list = xs })
      grayed x xs g = record {
        lists = record { unmarked = l.unmarked; unblack = l.unblack; black_list = l.black_list; gray_list = rest-once x xs m.gray_list g l.gray_list };
        marks = record {
          black_list = λ y i. (s.black_list y i).1;
          gray_list = λ y i. (s.gray_list y (subst (Among y) (sym g) (inr i))).1;
        };
      }

      go : (blacks grays : List Name) → m.black_list ≡ blacks → m.gray_list ≡ grays → HasListsInOrder h (elim blacks [
        | x ∷ xs ↦ each_raised raised_black (record m { black_list = xs }) (held_by_script h x)
        | [] ↦ elim grays [
          | x ∷ xs ↦ each_raised raised_gray (record m { gray_list = xs }) (held_by_script h x)
          | [] ↦ m
        ]
      ])
      go (x ∷ xs) grays b g = (WaitInOrder-each raised_black WaitInOrder-black (record m { black_list = xs }) (held_by_script h x) (blackened x xs b)).lists
      go [] (x ∷ xs) b g = (WaitInOrder-each raised_gray WaitInOrder-gray (record m { gray_list = xs }) (held_by_script h x) (grayed x xs g)).lists
      go [] [] b g = l
