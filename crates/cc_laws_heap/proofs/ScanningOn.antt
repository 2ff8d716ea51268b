-- A SCAN GIVES THE MARK OF ITS OBJECT ON, and keeps what was scanned before.
use Rattle.std.proofs.Common.{◌≡◌, Bool, true, false, not, List, [], ◌∷◌, ◌++◌, Some, refl, sym, ◌∙◌, ap, subst, inl, inr, ◌⊎◌, ⊎_elim, option_map}
use Rattle.std.proofs.lemmas.Bool.{true≢false}
use Rattle.cc_lists.specs.Members.{Among, has, without}
use Rattle.cc_lists.proofs.Members.{Among-map_cases, Among-left, Among-right, Among-append, Among-filter, Among-flat_map_cases, has-among, has-there}
use Rattle.cc_names.specs.declared.name.Name.{Name}
use Rattle.cc_names.specs.Names.{same_name}
use Rattle.cc_names.proofs.NameTests.{same_name-exact}
use Rattle.cc_model.specs.Slots.{contents, from_to}
use Rattle.cc_model.specs.Checks.{slots_or_none}
use Rattle.cc_model.specs.Heap.{Heap, script_at}
use Rattle.cc_model.specs.View.{script_slot_edges}
use Rattle.cc_model.specs.Places.{script_places_of}
use Rattle.cc_model.specs.Exposure.{slots_of_scripts}
use Rattle.cc_model.specs.WellFormed.{IsWellFormed, script_names}
use Rattle.cc_model.specs.Marking.{NewMarks, held_by_script, raised_black, raised_gray, each_raised, scanned}
use Rattle.cc_laws_heap.specs.UnderMarking.{IsWithin, IsScannedSoFar}
use Rattle.cc_laws_heap.proofs.ScriptNames.{script_at-member}
use Rattle.cc_laws_heap.proofs.Raising.{Raises-black, Raises-gray, Raises-each, without-cases}

-- a name but for one other is left where that is left out
without-in : (y : Name) (xs : List Name) (x : Name) → Among x xs → ¬ (x ≡ y) → Among x (without same_name y xs)
without-in y xs x i d = Among-filter (λ z. not (same_name z y)) x xs i (go (same_name x y) refl)
  where
    go : (b : Bool) → same_name x y ≡ b → not b ≡ true
    go true e = absurd (d ((same_name-exact x y).0 e))
    go false e = refl

-- a name that is left is another than the one left out
without-other : (y : Name) (xs : List Name) (x : Name) → Among x (without same_name y xs) → ¬ (x ≡ y)
without-other y xs x i e = true≢false (sym ((same_name-exact x y).1 e) ∙ (without-cases y xs x i).1)

-- a name of a list that is not left is the one left out
left-is : (y : Name) (xs : List Name) (x : Name) → Among x xs → ¬ (Among x (without same_name y xs)) → x ≡ y
left-is y xs x i d = go (same_name x y) refl
  where
    go : (b : Bool) → same_name x y ≡ b → x ≡ y
    go true e = (same_name-exact x y).0 e
    go false e = absurd (d (without-in y xs x i (λ is. true≢false (sym ((same_name-exact x y).1 is) ∙ e))))

-- what an object holds that is there is what its edges lead to
held-by_edge : (h : Heap) → IsWellFormed h → (x y : Name) → Among (x, y) (slots_of_scripts h) → Among y (held_by_script h x)
held-by_edge h w x y e =
    let f = Among-flat_map_cases script_slot_edges h.scripts (x, y) e in
    let p = Among-map_cases (from_to f.0.name) (contents (script_places_of f.0)) (x, y) f.2 in
    let found : script_at h x ≡ Some f.0 = subst (λ z. script_at h z ≡ Some f.0) (ap (λ (q : Name × Name). q.0) p.2) (script_at-member h w f.0 f.1) in
    subst (λ o. Among y (contents (slots_or_none (option_map script_places_of o)))) (sym found)
    (subst (λ z. Among z (contents (script_places_of f.0))) (ap (λ (q : Name × Name). q.1) p.2) p.1)

module _ (h : Heap) (z : Name) where
  -- what was scanned has given its mark on, but for one object that is being scanned
  record IsScannedBut (m : NewMarks) : Type 0 where
    pub black_on : (x y : Name) → Among (x, y) (slots_of_scripts h) → ¬ (x ≡ z) → ¬ (Among x m.unblack) → ¬ (Among x m.black_list) → ¬ (Among y m.unblack)
    pub gray_on : (x y : Name) → Among (x, y) (slots_of_scripts h) → ¬ (x ≡ z) → Among x m.unblack → ¬ (Among x m.unmarked) → ¬ (Among x m.gray_list) → ¬ (Among y m.unmarked)
    pub black_list : (x : Name) → Among x m.black_list → Among x (script_names h) × (¬ (Among x m.unblack))
    pub gray_list : (x : Name) → Among x m.gray_list → Among x m.unblack × (¬ (Among x m.unmarked))
    pub within : IsWithin m
    pub there : (x : Name) → Among x m.unblack → Among x (script_names h)

  -- an object raised to black keeps that
  IsScannedBut-black : (m : NewMarks) (y : Name) → IsScannedBut m → IsScannedBut (raised_black m y)
  IsScannedBut-black m y s = go (has same_name m.unblack y) refl
    where
      go : (b : Bool) → has same_name m.unblack y ≡ b → IsScannedBut (elim b [
        | true ↦ record {
          unmarked = without same_name y m.unmarked;
          unblack = without same_name y m.unblack;
          black_list = m.black_list ++ y ∷ [];
          gray_list = without same_name y m.gray_list;
        }
        | false ↦ m
      ])
      go true t = record {
        black_on = λ x v e d a b i. s.black_on x v e d
            (λ j. b (Among-right x m.black_list (y ∷ []) (inl (sym (left-is y m.unblack x j a)))))
            (λ j. b (Among-left x m.black_list (y ∷ []) j))
            (without-cases y m.unblack v i).0;
        gray_on = λ x v e d a b c i.
            let other = without-other y m.unblack x a in
            s.gray_on x v e d (without-cases y m.unblack x a).0
            (λ j. b (without-in y m.unmarked x j other)) (λ j. c (without-in y m.gray_list x j other))
            (without-cases y m.unmarked v i).0;
        black_list = λ x i. ⊎_elim
            (λ old. let k = s.black_list x old in (k.0, λ j. k.1 (without-cases y m.unblack x j).0))
            (λ new. ⊎_elim
            (λ e. (subst (λ v. Among v (script_names h)) e (s.there y (has-among same_name same_name-exact m.unblack y t)), λ j. without-other y m.unblack x j (sym e)))
            (λ none. absurd none)
            new)
            (Among-append x m.black_list (y ∷ []) i);
        gray_list = λ x i.
            let k = s.gray_list x (without-cases y m.gray_list x i).0 in
            (without-in y m.unblack x k.0 (without-other y m.gray_list x i), λ j. k.1 (without-cases y m.unmarked x j).0);
        within = λ x i. without-in y m.unblack x (s.within x (without-cases y m.unmarked x i).0) (without-other y m.unmarked x i);
        there = λ x i. s.there x (without-cases y m.unblack x i).0;
      }
      go false t = s

  -- an object raised to gray keeps that
  IsScannedBut-gray : (m : NewMarks) (y : Name) → IsScannedBut m → IsScannedBut (raised_gray m y)
  IsScannedBut-gray m y s = go (has same_name m.unmarked y) refl
    where
      go : (b : Bool) → has same_name m.unmarked y ≡ b → IsScannedBut (elim b [
        | true ↦ record m { unmarked = without same_name y m.unmarked; gray_list = m.gray_list ++ y ∷ [] }
        | false ↦ m
      ])
      go true t = record {
        black_on = s.black_on;
        gray_on = λ x v e d a b c i. s.gray_on x v e d a
            (λ j. c (Among-right x m.gray_list (y ∷ []) (inl (sym (left-is y m.unmarked x j b)))))
            (λ j. c (Among-left x m.gray_list (y ∷ []) j))
            (without-cases y m.unmarked v i).0;
        black_list = s.black_list;
        gray_list = λ x i. ⊎_elim
            (λ old. let k = s.gray_list x old in (k.0, λ j. k.1 (without-cases y m.unmarked x j).0))
            (λ new. ⊎_elim
            (λ e. (subst (λ v. Among v m.unblack) e (s.within y (has-among same_name same_name-exact m.unmarked y t)), λ j. without-other y m.unmarked x j (sym e)))
            (λ none. absurd none)
            new)
            (Among-append x m.gray_list (y ∷ []) i);
        within = λ x i. s.within x (without-cases y m.unmarked x i).0;
        there = s.there;
      }
      go false t = s

  -- many raised keep that
  IsScannedBut-each : (raise : NewMarks → Name → NewMarks) → ((m : NewMarks) (y : Name) → IsScannedBut m → IsScannedBut (raise m y)) → (m : NewMarks) (ys : List Name) →
      IsScannedBut m → IsScannedBut (each_raised raise m ys)
  IsScannedBut-each raise one m [] s = s
  IsScannedBut-each raise one m (y ∷ ys) s = IsScannedBut-each raise one (raise m y) ys (one m y s)

-- what is raised to black is black
raised-not_unblack : (m : NewMarks) (y : Name) → ¬ (Among y (raised_black m y).unblack)
raised-not_unblack m y = go (has same_name m.unblack y) refl
  where
    chosen : Bool → NewMarks
    chosen b = elim b [
      | true ↦ record {
        unmarked = without same_name y m.unmarked;
        unblack = without same_name y m.unblack;
        black_list = m.black_list ++ y ∷ [];
        gray_list = without same_name y m.gray_list;
      }
      | false ↦ m
    ]

    go : (b : Bool) → has same_name m.unblack y ≡ b → ¬ (Among y (chosen b).unblack)
    go true t = λ i. without-other y m.unblack y i refl
    go false t = λ i. true≢false (sym (has-there same_name same_name-exact m.unblack y i) ∙ t)

-- what is raised to gray is marked
raised-not_unmarked : (m : NewMarks) (y : Name) → ¬ (Among y (raised_gray m y).unmarked)
raised-not_unmarked m y = go (has same_name m.unmarked y) refl
  where
    chosen : Bool → NewMarks
    chosen b = elim b [
      | true ↦ record m { unmarked = without same_name y m.unmarked; gray_list = m.gray_list ++ y ∷ [] }
      | false ↦ m
    ]

    go : (b : Bool) → has same_name m.unmarked y ≡ b → ¬ (Among y (chosen b).unmarked)
    go true t = λ i. without-other y m.unmarked y i refl
    go false t = λ i. true≢false (sym (has-there same_name same_name-exact m.unmarked y i) ∙ t)

-- each of many raised to black is black
each-not_unblack : (m : NewMarks) (ys : List Name) (y : Name) → Among y ys → ¬ (Among y (each_raised raised_black m ys).unblack)
each-not_unblack m [] y i = absurd i
each-not_unblack m (v ∷ ys) y i = λ b. ⊎_elim
    (λ e. raised-not_unblack m v (subst (λ w. Among w (raised_black m v).unblack) (sym e) ((Raises-each raised_black Raises-black (raised_black m v) ys).unblack y b)))
    (λ t. each-not_unblack (raised_black m v) ys y t b)
    i

-- each of many raised to gray is marked
each-not_unmarked : (m : NewMarks) (ys : List Name) (y : Name) → Among y ys → ¬ (Among y (each_raised raised_gray m ys).unmarked)
each-not_unmarked m [] y i = absurd i
each-not_unmarked m (v ∷ ys) y i = λ b. ⊎_elim
    (λ e. raised-not_unmarked m v (subst (λ w. Among w (raised_gray m v).unmarked) (sym e) ((Raises-each raised_gray Raises-gray (raised_gray m v) ys).unmarked y b)))
    (λ t. each-not_unmarked (raised_gray m v) ys y t b)
    i

-- one raised to gray leaves what is not black
gray-unblack : (m : NewMarks) (y x : Name) → Among x m.unblack → Among x (raised_gray m y).unblack
gray-unblack m y x i = go (has same_name m.unmarked y)
  where
    chosen : Bool → NewMarks
    chosen b = elim b [
      | true ↦ record m { unmarked = without same_name y m.unmarked; gray_list = m.gray_list ++ y ∷ [] }
      | false ↦ m
    ]

    go : (b : Bool) → Among x (chosen b).unblack
    go true = i
    go false = i

-- many raised to gray leave it
each_gray-unblack : (m : NewMarks) (ys : List Name) (x : Name) → Among x m.unblack → Among x (each_raised raised_gray m ys).unblack
each_gray-unblack m [] x i = i
each_gray-unblack m (y ∷ ys) x i = each_gray-unblack (raised_gray m y) ys x (gray-unblack m y x i)

-- names are the same, or not
same_or_not : (x y : Name) → (x ≡ y) ⊎ (¬ (x ≡ y))
same_or_not x y = go (same_name x y) refl
  where
    go : (b : Bool) → same_name x y ≡ b → (x ≡ y) ⊎ (¬ (x ≡ y))
    go true e = inl ((same_name-exact x y).0 e)
    go false e = inr (λ is. true≢false (sym ((same_name-exact x y).1 is) ∙ e))

-- A SCAN KEEPS WHAT WAS SCANNED, with the object that it scans.
pub IsScannedSoFar-scanned : (h : Heap) (m : NewMarks) → IsWellFormed h → IsWithin m → ((x : Name) → Among x m.unblack → Among x (script_names h)) →
    IsScannedSoFar h m → IsScannedSoFar h (scanned h m)
unfolding scanned
IsScannedSoFar-scanned h m w within there s = go m.black_list m.gray_list refl refl
  where
    blackened : (x : Name) (xs : List Name) → m.black_list ≡ x ∷ xs → IsScannedSoFar h (each_raised raised_black (record m { black_list = xs }) (held_by_script h x))
    blackened x xs b =
        let first : IsScannedBut h x (record m { black_list = xs }) = record {
          black_on = λ a y e d u i. s.black_on a y e u
              (λ j. ⊎_elim (λ is. d (sym is)) (λ t. i t) (subst (Among a) b j));
          gray_on = λ a y e d u i j. s.gray_on a y e u i j;
          black_list = λ a i. s.black_list a (subst (Among a) (sym b) (inr i));
          gray_list = s.gray_list;
          within = within;
          there = there;
        } in
        let k = IsScannedBut-each h x raised_black (IsScannedBut-black h x) (record m { black_list = xs }) (held_by_script h x) first in
        let r = Raises-each raised_black Raises-black (record m { black_list = xs }) (held_by_script h x) in
        record {
          black_on = λ a y e u i. ⊎_elim
              (λ is. each-not_unblack (record m { black_list = xs }) (held_by_script h x) y (held-by_edge h w x y (subst (λ v. Among (v, y) (slots_of_scripts h)) is e)))
              (λ d. k.black_on a y e d u i)
              (same_or_not a x);
          gray_on = λ a y e u i j. ⊎_elim
              (λ is. absurd ((s.black_list x (subst (Among x) (sym b) (inl refl))).1 (subst (λ v. Among v m.unblack) is (r.unblack a u))))
              (λ d. k.gray_on a y e d u i j)
              (same_or_not a x);
          black_list = k.black_list;
          gray_list = k.gray_list;
        }

    grayed : (x : Name) (xs : List Name) → m.gray_list ≡ x ∷ xs → IsScannedSoFar h (each_raised raised_gray (record m { gray_list = xs }) (held_by_script h x))
    grayed x xs g =
        let first : IsScannedBut h x (record m { gray_list = xs }) = record {
          black_on = λ a y e d u i. s.black_on a y e u i;
          gray_on = λ a y e d u i j. s.gray_on a y e u i
              (λ l. ⊎_elim (λ is. d (sym is)) (λ t. j t) (subst (Among a) g l));
          black_list = s.black_list;
          gray_list = λ a i. s.gray_list a (subst (Among a) (sym g) (inr i));
          within = within;
          there = there;
        } in
        let k = IsScannedBut-each h x raised_gray (IsScannedBut-gray h x) (record m { gray_list = xs }) (held_by_script h x) first in
        record {
          black_on = λ a y e u i. ⊎_elim
              (λ is. absurd (u (subst (λ v. Among v (each_raised raised_gray (record m { gray_list = xs }) (held_by_script h x)).unblack) (sym is)
              (each_gray-unblack (record m { gray_list = xs }) (held_by_script h x) x (s.gray_list x (subst (Among x) (sym g) (inl refl))).0))))
              (λ d. k.black_on a y e d u i)
              (same_or_not a x);
          gray_on = λ a y e u i j. ⊎_elim
              (λ is. each-not_unmarked (record m { gray_list = xs }) (held_by_script h x) y (held-by_edge h w x y (subst (λ v. Among (v, y) (slots_of_scripts h)) is e)))
              (λ d. k.gray_on a y e d u i j)
              (same_or_not a x);
          black_list = k.black_list;
          gray_list = k.gray_list;
        }

    go : (blacks grays : List Name) → m.black_list ≡ blacks → m.gray_list ≡ grays → IsScannedSoFar h (elim blacks [
      | x ∷ xs ↦ each_raised raised_black (record m { black_list = xs }) (held_by_script h x)
      | [] ↦ elim grays [
        | x ∷ xs ↦ each_raised raised_gray (record m { gray_list = xs }) (held_by_script h x)
        | [] ↦ m
      ]
    ])
    go (x ∷ xs) grays b g = blackened x xs b
    go [] (x ∷ xs) b g = grayed x xs g
    go [] [] b g = s
