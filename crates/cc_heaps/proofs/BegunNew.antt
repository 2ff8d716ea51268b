-- A MARKING BEGUN BY KEYS is that of the definitions: no object has a new mark, and then those of the roots get theirs, one after another.
use Rattle.std.proofs.Common.{◌≡◌, Bool, true, false, not, ◌&&◌, ◌||◌, cond, List, [], ◌∷◌, ◌++◌, append_assoc, refl, sym, ◌∙◌, ap, inl, inr}
use Rattle.std.proofs.lemmas.Bool.{true≢false}
use Rattle.std.proofs.lemmas.List.{append-nil}
use Rattle.std.proofs.lemmas.List.Elements.{filter-append}
use Rattle.cc_lists.specs.Members.{Among, has, with_last, with_all_last, without}
use Rattle.cc_lists.proofs.Filtering.{filter-agree, filter-each}
use Rattle.cc_lists.proofs.Members.{Among-filter, Among-passes, has-among, has-there}
use Rattle.cc_lists.proofs.CountsOf.{false-left}
use Rattle.cc_lists.proofs.Searching.{filter-filter}
use Rattle.cc_laws_heap.proofs.Face.{same_name-sym}
use Rattle.cc_names.specs.declared.name.Name.{Name}
use Rattle.cc_names.specs.Names.{same_name}
use Rattle.cc_names.proofs.NameTests.{same_name-exact}
use Rattle.cc_model.specs.Slots.{contents}
use Rattle.cc_model.specs.Heap.{Heap}
use Rattle.cc_model.specs.Colours.{scripts_held}
use Rattle.cc_model.specs.WellFormed.{script_names}
use Rattle.cc_model.specs.Marking.{NewMarks, begun_marks, each_raised, raised_black, raised_gray, registered, without_all}

-- whether a name of the list is left when others are taken out
has-without_all : (others names : List Name) (y : Name) → Among y names → has same_name (without_all others names) y ≡ not (has same_name others y)
has-without_all others names y m = go (has same_name others y) refl
  where
    go : (b : Bool) → has same_name others y ≡ b → has same_name (without_all others names) y ≡ not b
    go true e = false-left (has same_name (without_all others names) y)
        (λ t. true≢false (sym (sym (ap not e) ∙ Among-passes (λ x. not (has same_name others x)) y names (has-among same_name same_name-exact (without_all others names) y t))))
    go false e = has-there same_name same_name-exact (without_all others names) y (Among-filter (λ x. not (has same_name others x)) y names m (ap not e))

-- one more last is one more test
has-last : (xs : List Name) (y z : Name) → has same_name (xs ++ y ∷ []) z ≡ (has same_name xs z || same_name y z)
has-last [] y z = or-false (same_name y z)
  where
    or-false : (b : Bool) → (b || false) ≡ b
    or-false true = refl
    or-false false = refl
has-last (x ∷ xs) y z = go (same_name x z) (has-last xs y z)
  where
    go : (b : Bool) → has same_name (xs ++ y ∷ []) z ≡ (has same_name xs z || same_name y z) → (b || has same_name (xs ++ y ∷ []) z) ≡ ((b || has same_name xs z) || same_name y z)
    go true e = refl
    go false e = e

has-append : (xs ys : List Name) (z : Name) → has same_name (xs ++ ys) z ≡ (has same_name xs z || has same_name ys z)
has-append [] ys z = refl
has-append (x ∷ xs) ys z = go (same_name x z) (has-append xs ys z)
  where
    go : (b : Bool) → has same_name (xs ++ ys) z ≡ (has same_name xs z || has same_name ys z) → (b || has same_name (xs ++ ys) z) ≡ ((b || has same_name xs z) || has same_name ys z)
    go true e = refl
    go false e = e

-- so one is left out after the others
without-last : (others names : List Name) (y : Name) → without same_name y (without_all others names) ≡ without_all (others ++ y ∷ []) names
without-last others names y = filter-filter (λ z. not (same_name z y)) (λ z. not (has same_name others z)) names
    ∙ filter-agree (λ z. not (has same_name others z) && not (same_name z y)) (λ z. not (has same_name (others ++ y ∷ []) z)) names
    (λ z m. go (has same_name others z) (same_name z y) (same_name y z) (same_name-sym z y) ∙ sym (ap not (has-last others y z)))
  where
    go : (a b c : Bool) → b ≡ c → (not a && not b) ≡ not (a || c)
    go true b c e = refl
    go false b c e = ap not e

-- BLACK ONES

module _ (names : List Name) where
  -- what is black so far
  abbrev blacks_begun : List Name → NewMarks
  blacks_begun blacks = record { unmarked = without_all blacks names; unblack = without_all blacks names; black_list = blacks; gray_list = [] }

  black-one : (blacks : List Name) (y : Name) → Among y names → raised_black (blacks_begun blacks) y ≡ blacks_begun (with_last same_name blacks y)
  black-one blacks y m = ap chosen (has-without_all blacks names y m) ∙ go (has same_name blacks y)
    where
      chosen : Bool → NewMarks
      chosen b = elim b [
        | true ↦ record {
          unmarked = without same_name y (without_all blacks names);
          unblack = without same_name y (without_all blacks names);
          black_list = blacks ++ y ∷ [];
          gray_list = [];
        }
        | false ↦ blacks_begun blacks
      ]

      go : (b : Bool) → chosen (not b) ≡ blacks_begun (elim b [ true ↦ blacks | false ↦ blacks ++ y ∷ [] ])
      go true = refl
      go false = λ i. record {
        unmarked = without-last blacks names y i;
        unblack = without-last blacks names y i;
        black_list = blacks ++ y ∷ [];
        gray_list = [];
      }

  black-each : (blacks ys : List Name) → ((y : Name) → Among y ys → Among y names) → each_raised raised_black (blacks_begun blacks) ys ≡ blacks_begun (with_all_last same_name blacks ys)
  black-each blacks [] there = refl
  black-each blacks (y ∷ ys) there = ap (λ m. each_raised raised_black m ys) (black-one blacks y (there y (inl refl)))
      ∙ black-each (with_last same_name blacks y) ys (λ z m. there z (inr m))

  -- GRAY ONES, where these are black; those that are black are left out
  module _ (blacks : List Name) where
    abbrev grays_begun : List Name → NewMarks
    grays_begun grays = record { unmarked = without_all (blacks ++ grays) names; unblack = without_all blacks names; black_list = blacks; gray_list = grays }

    gray-one : (seen : List Name) (y : Name) → Among y names → raised_gray (grays_begun (without_all blacks seen)) y ≡ grays_begun (without_all blacks (with_last same_name seen y))
    gray-one seen y m = ap chosen (has-without_all (blacks ++ without_all blacks seen) names y m ∙ ap not (has-append blacks (without_all blacks seen) y))
        ∙ go (has same_name blacks y) refl (has same_name seen y) refl
      where
        old : List Name
        old = without_all blacks seen

        chosen : Bool → NewMarks
        chosen b = elim b [
          | true ↦ record (grays_begun old) { unmarked = without same_name y (without_all (blacks ++ old) names); gray_list = old ++ y ∷ [] }
          | false ↦ grays_begun old
        ]

        -- one of the black is left out again
        left : has same_name blacks y ≡ true → without_all blacks (seen ++ y ∷ []) ≡ old
        left e = filter-append (λ x. not (has same_name blacks x)) seen (y ∷ []) ∙ (ap (λ b. old ++ cond (not b) (y ∷ []) []) e ∙ append-nil old)

        -- another goes last
        last : has same_name blacks y ≡ false → without_all blacks (seen ++ y ∷ []) ≡ old ++ y ∷ []
        last e = filter-append (λ x. not (has same_name blacks x)) seen (y ∷ []) ∙ ap (λ b. old ++ cond (not b) (y ∷ []) []) e

        old-has : has same_name blacks y ≡ false → has same_name old y ≡ has same_name seen y
        old-has e = has-filtered e seen
          where
            has-filtered : has same_name blacks y ≡ false → (zs : List Name) → has same_name (without_all blacks zs) y ≡ has same_name zs y
            has-filtered e [] = refl
            has-filtered e (z ∷ zs) = at (has same_name blacks z) refl (same_name z y) refl (has-filtered e zs)
              where
                at : (b : Bool) → has same_name blacks z ≡ b → (s : Bool) → same_name z y ≡ s → has same_name (without_all blacks zs) y ≡ has same_name zs y →
                    has same_name (cond (not b) (z ∷ without_all blacks zs) (without_all blacks zs)) y ≡ (s || has same_name zs y)
                at true f true g ih =
                    let is : z ≡ y = (same_name-exact z y).0 g in
                    absurd (true≢false (sym f ∙ (ap (has same_name blacks) is ∙ e)))
                at true f false g ih = ih
                at false f s g ih = ap (λ t. t || has same_name (without_all blacks zs) y) g ∙ ap (λ t. s || t) ih

        go : (b : Bool) → has same_name blacks y ≡ b → (s : Bool) → has same_name seen y ≡ s →
            chosen (not (b || has same_name old y)) ≡ grays_begun (without_all blacks (elim s [ true ↦ seen | false ↦ seen ++ y ∷ [] ]))
        go true e true f = refl
        go true e false f = ap grays_begun (sym (left e))
        go false e true f = ap (λ t. chosen (not t)) (old-has e ∙ f)
        go false e false f = ap (λ t. chosen (not t)) (old-has e ∙ f)
            ∙ ((λ i. record {
              unmarked = (without-last (blacks ++ old) names y ∙ ap (λ xs. without_all xs names) (append_assoc blacks old (y ∷ []))) i;
              unblack = without_all blacks names;
              black_list = blacks;
              gray_list = old ++ y ∷ [];
            }) ∙ ap grays_begun (sym (last e)))

    gray-each : (seen ys : List Name) → ((y : Name) → Among y ys → Among y names) →
        each_raised raised_gray (grays_begun (without_all blacks seen)) ys ≡ grays_begun (without_all blacks (with_all_last same_name seen ys))
    gray-each seen [] there = refl
    gray-each seen (y ∷ ys) there = ap (λ m. each_raised raised_gray m ys) (gray-one seen y (there y (inl refl)))
        ∙ gray-each (with_last same_name seen y) ys (λ z m. there z (inr m))

-- A MARKING BEGUN, one root after another
pub begun-each : (h : Heap) → ((y : Name) → Among y (contents h.script_registers) → Among y (script_names h)) → ((y : Name) → Among y (scripts_held h) → Among y (script_names h)) →
    each_raised raised_gray (each_raised raised_black (record { unmarked = script_names h; unblack = script_names h; black_list = []; gray_list = [] }) (contents h.script_registers)) (scripts_held h)
    ≡ begun_marks h
unfolding begun_marks
begun-each h registers held =
    ap (λ m. each_raised raised_gray (each_raised raised_black m (contents h.script_registers)) (scripts_held h)) start
    ∙ (ap (λ m. each_raised raised_gray m (scripts_held h)) (black-each (script_names h) [] (contents h.script_registers) registers)
    ∙ (ap (λ m. each_raised raised_gray m (scripts_held h)) (λ i. record {
      unmarked = without_all (sym (append-nil (registered h)) i) (script_names h);
      unblack = without_all (registered h) (script_names h);
      black_list = registered h;
      gray_list = [];
    })
    ∙ gray-each (script_names h) (registered h) [] (scripts_held h) held))
  where
    all : without_all [] (script_names h) ≡ script_names h
    all = filter-each (λ x. not (has same_name [] x)) (script_names h) (λ x m. refl)

    start : record { unmarked = script_names h; unblack = script_names h; black_list = []; gray_list = [] } ≡ blacks_begun (script_names h) []
    start = λ i. record { unmarked = sym all i; unblack = sym all i; black_list = []; gray_list = [] }
