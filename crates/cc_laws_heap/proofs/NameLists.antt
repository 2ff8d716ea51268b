-- Lists of names: whether a name stands in them, and how often.
use Rattle.std.proofs.Common.{◌≡◌, ℕ, ◌≤◌, true, false, ◌&&◌, ◌||◌, List, [], ◌∷◌, ◌++◌, map, refl, sym, ◌∙◌, ap, subst, ⊎_elim, arith, count_by, ◌==◌}
use Rattle.std.specs.List.{filter, flat_map}
use Rattle.std.proofs.lemmas.Bool.{true≢false, cases_lt, not-true}
use Rattle.cc_lists.specs.Members.{Among, has}
use Rattle.cc_lists.proofs.Members.{has-there, has-among, Among-filtered, Among-passes}
use Rattle.cc_lists.proofs.Counting.{count_by-append, count_by-some, counted_is}
use Rattle.cc_names.specs.declared.name.Name.{Name}
use Rattle.cc_names.specs.declared.name.Name.TheVariants as name
use Rattle.cc_names.specs.Names.{native, same_name, natives_in}
use Rattle.cc_names.proofs.NameTests.{same_name-true, same_name-refl, same_name-exact}
use Rattle.cc_laws_heap.specs.Rounds.{is_not_among}

-- Names told apart

-- names that differ are told apart
pub same_name-other : (x y : Name) → ¬ (x ≡ y) → same_name x y ≡ false
same_name-other x y d = grind (arith, same_name-true)

-- an equality of names reads the same from both sides
pub same_name-sym : (x y : Name) → same_name x y ≡ same_name y x
same_name-sym x y = grind (arith, same_name-refl, same_name-true)

-- How often a name stands in a list

-- what stands in the list is counted
pub names-some : (x : Name) (xs : List Name) → Among x xs → 1 ≤ count_by (same_name x) xs
names-some x xs m = count_by-some (same_name x) x xs m (same_name-refl x)

-- what is counted stands in the list
names-among : (x : Name) (xs : List Name) → 1 ≤ count_by (same_name x) xs → Among x xs
names-among x xs some =
    let f = counted_is (same_name x) xs some in
    subst (λ y. Among y xs) (sym (same_name-true x f.0 f.2)) f.1

-- two lists without repetition that share no name have none together
pub names-once_append : (xs ys : List Name) → ((x : Name) → count_by (same_name x) xs ≤ 1) → ((x : Name) → count_by (same_name x) ys ≤ 1) →
    ((x : Name) → Among x xs → ¬ (Among x ys)) → (x : Name) → count_by (same_name x) (xs ++ ys) ≤ 1
names-once_append xs ys a b apart x = ⊎_elim
    (λ some. ⊎_elim
    (λ more. absurd (apart x (names-among x xs some) (names-among x ys more)))
    (λ none. omega (arith, count_by-append (same_name x) xs ys, a x))
    (cases_lt 0 (count_by (same_name x) ys)))
    (λ none. omega (arith, count_by-append (same_name x) xs ys, b x))
    (cases_lt 0 (count_by (same_name x) xs))

-- Names that stand in no list

-- a name that does not stand in the list passes
pub is_not_among-from : (xs : List Name) (x : Name) → ¬ (Among x xs) → is_not_among xs x ≡ true
is_not_among-from xs x d = grind (arith, has-among, same_name-exact)

-- a name that passes does not stand in the list
pub is_not_among-apart : (xs : List Name) (x : Name) → is_not_among xs x ≡ true → ¬ (Among x xs)
is_not_among-apart xs x e m = true≢false (sym (has-there same_name same_name-exact xs x m) ∙ not-true (has same_name xs x) e)

-- to stand in none of two lists is to stand neither in one nor in the other
pub is_not_among-append : (xs ys : List Name) (x : Name) → is_not_among (xs ++ ys) x ≡ (is_not_among xs x && is_not_among ys x)
is_not_among-append [] ys x = refl
is_not_among-append (z ∷ zs) ys x = grind (arith, is_not_among-append zs ys x)

-- what is left of a list stands in the list, and is none of those taken out
pub left-apart : (xs zs : List Name) (x : Name) → Among x (filter (is_not_among xs) zs) → Among x zs × (¬ (Among x xs))
left-apart xs zs x m = (Among-filtered (is_not_among xs) x zs m, is_not_among-apart xs x (Among-passes (is_not_among xs) x zs m))

-- The natives in a list of names

-- a number stands among those of the natives in a list where its native stands in the list
pub has-natives_in : (xs : List Name) (k : ℕ) → has (λ i j. i == j) (flat_map natives_in xs) k ≡ has same_name xs (native k)
has-natives_in [] k = refl
has-natives_in (name.Native i ∷ xs) k = ap (λ b. (i.0 == k) || b) (has-natives_in xs k)
has-natives_in (name.Script i ∷ xs) k = has-natives_in xs k
has-natives_in (name.Reflector i ∷ xs) k = has-natives_in xs k

-- the natives in a list of names of natives
pub natives_in-natives : (ks : List ℕ) → flat_map natives_in (map native ks) ≡ ks
natives_in-natives [] = refl
natives_in-natives (k ∷ ks) = ap (λ js. k ∷ js) (natives_in-natives ks)
