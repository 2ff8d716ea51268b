-- THE NAME BEHIND ANOTHER in a list of names.
use Rattle.std.proofs.Common.{◌≡◌, true, false, List, [], ◌∷◌, ◌++◌, map, inl, inr, refl}
use Rattle.cc_lists.specs.Members.{Among}
use Rattle.cc_lists.specs.Walks.{first_of}
use Rattle.cc_names.specs.declared.name.Name.{Name}
use Rattle.cc_names.specs.Names.{same_name}
use Rattle.cc_host.specs.Walks.{behind}

module _ {X : Type 0} (name : X → Name) (x : Name) where
  -- names that are not it are passed over,
  pub behind-past : (xs : List X) (ys : List Name) → ((z : X) → Among z xs → same_name (name z) x ≡ false) → behind x (map name xs ++ ys) ≡ behind x ys
  behind-past [] ys apart = refl
  behind-past (z ∷ zs) ys apart = rw (apart z (inl refl), behind) (behind-past zs ys (λ y m. apart y (inr m)))

-- and behind it stands the first of the rest.
pub behind-here : (x y : Name) (ys : List Name) → same_name y x ≡ true → behind x (y ∷ ys) ≡ first_of ys
behind-here x y ys e = rw (e, behind) refl
