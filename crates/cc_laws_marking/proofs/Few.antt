-- HOW LONG THE LISTS OF A MARKING ARE at most: what is black and what is not fit into the script objects, and so do the gray and what is
-- not marked into what is not black.
use Rattle.std.proofs.Common.{arith, ◌≡◌, ◌+◌, ◌≤◌, true, List, ◌++◌, length, length-append, refl, sym, subst, ⊎_elim, count_by}
use Rattle.std.proofs.lemmas.List.{length-map}
use Rattle.cc_lists.specs.Members.{Among, has}
use Rattle.cc_lists.specs.Counts.{keyed}
use Rattle.cc_lists.proofs.Members.{Among-append, Among_or_not}
use Rattle.cc_lists.proofs.Counting.{count_by-all, count_by-append, count_by-some, count_by-below}
use Rattle.cc_lists.proofs.CountsOf.{count_by-none, count_by-agree, false-left}
use Rattle.cc_lists.proofs.Filtering.{count_by-filter-le}
use Rattle.cc_names.specs.declared.name.Name.{Name}
use Rattle.cc_names.specs.Names.{same_name}
use Rattle.cc_names.proofs.NameTests.{same_name-exact}
use Rattle.cc_model.specs.Heap.{Heap, HeapScript}
use Rattle.cc_model.specs.WellFormed.{IsWellFormed, script_names}
use Rattle.cc_model.specs.Marking.{NewMarks, scans_left}
use Rattle.cc_laws_heap.specs.UnderMarking.{IsUnderMarking, IsScannedSoFar}
use Rattle.cc_laws_heap.proofs.NameLists.{same_name-sym}
use Rattle.cc_laws_marking.specs.Lists.{AreInOrderOf, HasListsInOrder}

-- each name stands at most once in a list
abbrev StandsOnce : List Name → Type 0
StandsOnce xs = (x : Name) → count_by (same_name x) xs ≤ 1

-- the names of a list that are a given one, counted by key
by-key : (v : Name) (xs : List Name) → count_by (keyed same_name (λ x. true) (λ x. x) v) xs ≡ count_by (same_name v) xs
by-key v xs = count_by-agree (keyed same_name (λ x. true) (λ x. x) v) (same_name v) xs (λ x i. same_name-sym x v)

-- a name that is not in a list is there no time
none-there : (xs : List Name) (v : Name) → ¬ (Among v xs) → count_by (same_name v) xs ≡ 0
none-there xs v d = count_by-none (same_name v) xs (λ x i. false-left (same_name v x) (λ e. d (subst (λ z. Among z xs) (sym ((same_name-exact v x).0 e)) i)))

-- NAMES THAT STAND ONCE are no more than those among which they are.
once-within : (xs names : List Name) → StandsOnce xs → ((x : Name) → Among x xs → Among x names) → length xs ≤ length names
once-within xs names once within = omega (
  arith,
  count_by-all xs,
  count_by-all names,
  count_by-below same_name same_name-exact (λ x. true) (λ x. x) (λ x. true) (λ x. x) xs names often,
)
  where
    often : (v : Name) → count_by (keyed same_name (λ x. true) (λ x. x) v) xs ≤ count_by (keyed same_name (λ x. true) (λ x. x) v) names
    often v = ⊎_elim
        (λ i. omega (arith, by-key v xs, by-key v names, once v, count_by-some (same_name v) v names (within v i) ((same_name-exact v v).1 refl)))
        (λ d. omega (arith, by-key v xs, none-there xs v d))
        (Among_or_not same_name same_name-exact xs v)

-- two lists that have no name in common have each name once where both have
once-both : (xs ys : List Name) → StandsOnce xs → StandsOnce ys → ((x : Name) → Among x xs → ¬ (Among x ys)) → StandsOnce (xs ++ ys)
once-both xs ys a b apart x = ⊎_elim
    (λ i. omega (arith, count_by-append (same_name x) xs ys, a x, none-there ys x (apart x i)))
    (λ d. omega (arith, count_by-append (same_name x) xs ys, b x, none-there xs x d))
    (Among_or_not same_name same_name-exact xs x)

-- TWO LISTS THAT HAVE NO NAME IN COMMON FIT TOGETHER into one that has their names.
fit-together : (xs ys names : List Name) → StandsOnce xs → StandsOnce ys → ((x : Name) → Among x xs → ¬ (Among x ys)) → ((x : Name) → Among x xs → Among x names) →
    ((x : Name) → Among x ys → Among x names) → length xs + length ys ≤ length names
fit-together xs ys names a b apart left right = omega (
  arith,
  length-append xs ys,
  once-within (xs ++ ys) names (once-both xs ys a b apart) (λ x i. ⊎_elim (left x) (right x) (Among-append x xs ys i)),
)

-- what is in the order of names that stand once stands once
in_order-once : (names xs : List Name) → StandsOnce names → AreInOrderOf names xs → StandsOnce xs
in_order-once names xs once e x = subst (λ ys. count_by (same_name x) ys ≤ 1) (sym e)
    (omega (arith, count_by-filter-le (same_name x) (has same_name xs) names, once x))

module _ (h : Heap) (m : NewMarks) (w : IsWellFormed h) (u : IsUnderMarking h m) (s : IsScannedSoFar h m) (l : HasListsInOrder h m) where
  -- THE BLACK LIST and what is not black fit into the script objects.
  pub few-black : length m.black_list + length m.unblack ≤ length h.scripts
  few-black = omega (
    arith,
    length-map h.scripts (λ (o : HeapScript). o.name),
    fit-together m.black_list m.unblack (script_names h) l.black_list (in_order-once (script_names h) m.unblack w.distinct l.unblack)
        (λ x i. (s.black_list x i).1) (λ x i. (s.black_list x i).0) u.there,
  )

  -- THE GRAY LIST and what is not marked fit into what is not black.
  pub few-gray : length m.gray_list + length m.unmarked ≤ length m.unblack
  few-gray = fit-together m.gray_list m.unmarked m.unblack l.gray_list (in_order-once (script_names h) m.unmarked w.distinct l.unmarked)
      (λ x i. (s.gray_list x i).1) (λ x i. (s.gray_list x i).0) u.within

  -- FEW SCANS ARE LEFT: two for each script object at most.
  pub few-scans : scans_left m ≤ length h.scripts + length h.scripts
  few-scans = omega (arith, few-black, few-gray)
