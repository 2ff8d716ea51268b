-- LISTS IN ORDER, AND EACH NAME ONCE: parts of a list stand as the list does, and a name that is not in a list may go last.
use Rattle.std.proofs.Common.{arith, ◌≡◌, ◌+◌, ◌≤◌, cond, Bool, true, false, ◌&&◌, List, [], ◌∷◌, ◌++◌, refl, sym, ◌∙◌, ap, subst, count_by}
use Rattle.std.specs.List.{filter}
use Rattle.std.specs.Cmp.{both_ways}
use Rattle.std.proofs.lemmas.Bool.{and_parts, and_from}
use Rattle.std.proofs.lemmas.List.{append-nil}
use Rattle.std.proofs.lemmas.List.Elements.{filter-append}
use Rattle.cc_lists.specs.Members.{Among, has}
use Rattle.cc_lists.proofs.Members.{Among-filter, Among-filtered, Among-passes, has-there, has-among}
use Rattle.cc_lists.proofs.Counting.{count_by-append, count_by-cons}
use Rattle.cc_lists.proofs.CountsOf.{count_by-none, false-left}
use Rattle.cc_lists.proofs.Filtering.{filter-each, filter-nothing, filter-agree}
use Rattle.cc_lists.proofs.Searching.{filter-filter}
use Rattle.cc_names.specs.declared.name.Name.{Name}
use Rattle.cc_names.specs.Names.{same_name}
use Rattle.cc_names.proofs.NameTests.{same_name-exact}
use Rattle.cc_laws_marking.specs.Lists.{AreInOrderOf}

-- In order

-- what stands in a part of a list stands in the list and passes the test
has-part : (p : Name → Bool) (xs : List Name) (x : Name) → (has same_name xs x && p x) ≡ has same_name (filter p xs) x
has-part p xs x = both_ways (has same_name xs x && p x) (has same_name (filter p xs) x)
    (λ e. let k = and_parts (has same_name xs x) (p x) e in
    has-there same_name same_name-exact (filter p xs) x (Among-filter p x xs (has-among same_name same_name-exact xs x k.0) k.1))
    (λ e. let i = has-among same_name same_name-exact (filter p xs) x e in
    and_from (has same_name xs x) (p x) (has-there same_name same_name-exact xs x (Among-filtered p x xs i)) (Among-passes p x xs i))

-- A PART OF WHAT IS IN ORDER IS IN ORDER.
pub AreInOrderOf-part : (names : List Name) (p : Name → Bool) (xs : List Name) → AreInOrderOf names xs → AreInOrderOf names (filter p xs)
AreInOrderOf-part names p xs e = ap (filter p) e ∙ (filter-filter p (has same_name xs) names
    ∙ filter-agree (λ x. has same_name xs x && p x) (has same_name (filter p xs)) names (λ x i. has-part p xs x))

-- a list is in its own order
pub AreInOrderOf-own : (names : List Name) → AreInOrderOf names names
AreInOrderOf-own names = sym (filter-each (has same_name names) names (λ x i. has-there same_name same_name-exact names x i))

-- WHAT IS IN ORDER STAYS SO where other names come last.
pub AreInOrderOf-more : (names more xs : List Name) → ((x : Name) → Among x more → ¬ (Among x xs)) → AreInOrderOf names xs → AreInOrderOf (names ++ more) xs
AreInOrderOf-more names more xs other e = e ∙ sym (filter-append (has same_name xs) names more
    ∙ (ap (λ ys. filter (has same_name xs) names ++ ys)
    (filter-nothing (has same_name xs) more (λ x i. false-left (has same_name xs x) (λ t. other x i (has-among same_name same_name-exact xs x t))))
    ∙ append-nil (filter (has same_name xs) names)))

-- Once

-- A NAME THAT IS NOT IN A LIST MAY GO LAST: each stands there once, as before.
pub once-last : (xs : List Name) (y : Name) → ¬ (Among y xs) → ((x : Name) → count_by (same_name x) xs ≤ 1) → (x : Name) → count_by (same_name x) (xs ++ y ∷ []) ≤ 1
once-last xs y absent once x = go (same_name x y) refl
  where
    whole : count_by (same_name x) (xs ++ y ∷ []) ≡ count_by (same_name x) xs + (cond (same_name x y) 1 0 + 0)
    whole = count_by-append (same_name x) xs (y ∷ []) ∙ ap (λ n. count_by (same_name x) xs + n) (count_by-cons (same_name x) y [])

    go : (b : Bool) → same_name x y ≡ b → count_by (same_name x) (xs ++ y ∷ []) ≤ 1
    go true e =
        let none : count_by (same_name x) xs ≡ 0 = count_by-none (same_name x) xs
        (λ z i. false-left (same_name x z) (λ t. absent (subst (λ w. Among w xs) (sym ((same_name-exact x z).0 t) ∙ (same_name-exact x y).0 e) i))) in
        let here : count_by (same_name x) (xs ++ y ∷ []) ≡ count_by (same_name x) xs + (cond true 1 0 + 0) =
        whole ∙ ap (λ b. count_by (same_name x) xs + (cond b 1 0 + 0)) e in
        omega (arith, here, none)
    go false e =
        let here : count_by (same_name x) (xs ++ y ∷ []) ≡ count_by (same_name x) xs + (cond false 1 0 + 0) =
        whole ∙ ap (λ b. count_by (same_name x) xs + (cond b 1 0 + 0)) e in
        omega (arith, here, once x)
