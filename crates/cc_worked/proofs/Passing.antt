-- What tests that pass say of the members of lists.
use Rattle.std.proofs.Common.{◌≡◌, Bool, true, false, List, [], ◌∷◌, refl, sym, ◌∙◌, subst, inl, inr, ⊎_elim}
use Rattle.std.specs.List.{list_all, list_any}
use Rattle.std.proofs.lemmas.Bool.{and_parts, or_cases, or_parts, false≢true, true≢false, cases_Bool}
use Rattle.cc_lists.specs.Members.{Among, has}
use Rattle.cc_lists.proofs.Members.{has-among, has-there}
use Rattle.cc_names.specs.declared.name.Name.{Name}
use Rattle.cc_names.specs.Names.{same_name}
use Rattle.cc_names.proofs.NameTests.{same_name-exact}
use Rattle.cc_worked.specs.SnapshotTests.{all_among}

-- What passes for all members of a list passes for each.
pub list_all-each : {X : Type 0} (p : X → Bool) (xs : List X) → list_all p xs ≡ true → (x : X) → Among x xs → p x ≡ true
list_all-each p [] h x m = absurd m
list_all-each p (y ∷ ys) h x m =
    let k = and_parts (p y) (list_all p ys) h in
    ⊎_elim (λ e. subst (λ z. p z ≡ true) e k.0) (λ t. list_all-each p ys k.1 x t) m

-- What passes for some member has a member for which it passes.
pub list_any-some : {X : Type 0} (p : X → Bool) (xs : List X) → list_any p xs ≡ true → (x : X) × Among x xs × (p x ≡ true)
list_any-some p [] h = absurd (false≢true h)
list_any-some p (y ∷ ys) h = ⊎_elim
    (λ e. (y, inl refl, e))
    (λ t. let k = list_any-some p ys t in (k.0, inr k.1, k.2))
    (or_cases (p y) (list_any p ys) h)

-- What passes for no member fails for each.
pub list_any-none : {X : Type 0} (p : X → Bool) (xs : List X) → list_any p xs ≡ false → (x : X) → Among x xs → p x ≡ false
list_any-none p [] h x m = absurd m
list_any-none p (y ∷ ys) h x m =
    let k = or_parts (p y) (list_any p ys) h in
    ⊎_elim (λ e. subst (λ z. p z ≡ false) e k.0) (λ t. list_any-none p ys k.1 x t) m

-- A list of names all of which are among others has each among them.
pub all_among-each : (xs ys : List Name) → all_among xs ys ≡ true → (x : Name) → Among x xs → Among x ys
all_among-each xs ys h x m = has-among same_name same_name-exact ys x (list_all-each (has same_name ys) xs h x m)

-- The test of membership says no where a name is not among others.
pub has-absent : (xs : List Name) (x : Name) → ¬ (Among x xs) → has same_name xs x ≡ false
has-absent xs x h = ⊎_elim (λ e. absurd (h (has-among same_name same_name-exact xs x e))) (λ e. e) (cases_Bool (has same_name xs x))

-- A name is not among others where the test of membership says no.
pub absent-has : (xs : List Name) (x : Name) → has same_name xs x ≡ false → ¬ (Among x xs)
absent-has xs x e m = true≢false (sym (has-there same_name same_name-exact xs x m) ∙ e)
