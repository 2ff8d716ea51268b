-- THE TABLES HAVE A PLACE for one name more that has ended.
use Rattle.std.proofs.Common.{◌≡◌, ℕ, Bool, true, false, ◌||◌, List, [], ◌∷◌, ◌++◌, Some, is_some, reverse, refl, ◌∙◌, ap}
use Rattle.std.specs.Prelude.{if◌then◌else◌}
use Rattle.std.proofs.lemmas.List.{reverse-append}
use Rattle.cc_lists.specs.Members.{has}
use Rattle.cc_names.specs.declared.name.Name.{Name}
use Rattle.cc_names.specs.Names.{same_name}
use Rattle.cc_pages.specs.declared.by_name.ByName.{ByName}
use Rattle.cc_pages.specs.ByName.{place_of}
use Rattle.cc_check.specs.EndedNames.{HavePlaces}

-- a name that has a place now has ended; each other one has, where it had
pub HavePlaces-more : (names : List Name) (t s : ByName) (x : Name) (place : ℕ) → HavePlaces names t →
    ((y : Name) → place_of s y ≡ (if same_name x y then Some place else place_of t y)) → HavePlaces (x ∷ names) s
HavePlaces-more names t s x place have put y = ap is_some (put y) ∙ go (same_name x y)
  where
    go : (b : Bool) → is_some (if b then Some place else place_of t y) ≡ (b || has same_name names y)
    go true = refl
    go false = have y

-- the name that ended last comes first
pub ended-last : {X : Type 0} (xs : List X) (x : X) → reverse (xs ++ x ∷ []) ≡ x ∷ reverse xs
ended-last xs x = reverse-append xs (x ∷ [])

-- places that are the same are those of the same names
pub HavePlaces-same : (names : List Name) (t s : ByName) → HavePlaces names t → ((y : Name) → place_of s y ≡ place_of t y) → HavePlaces names s
HavePlaces-same names t s have same y = ap is_some (same y) ∙ have y
