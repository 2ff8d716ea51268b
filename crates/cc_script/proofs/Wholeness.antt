-- WHERE EACH SLOT HOLDS WHAT IS THERE, it does after each call but `remove`; and what is there stays there.
use Rattle.cc_lists.proofs.Held.{is_some-found}
use Rattle.std.proofs.Common.{◌≡◌, ℕ, true, List, [], ◌∷◌, ◌++◌, map, replicate, Some, None, is_some, sym, ap, subst, ⊎_elim, refl, arith}
use Rattle.cc_lists.specs.Members.{Among}
use Rattle.cc_lists.proofs.Members.{Among-append, Among-map_cases}
use Rattle.cc_names.specs.declared.kind.Colour.{Colour}
use Rattle.cc_names.specs.declared.kind.Colour.TheVariants.{White}
use Rattle.cc_script.specs.Objects.{Object, object_at, is_there, with_colour, places_of, whitened, raised_among, AreWhole}
use Rattle.cc_script.proofs.InOrder.{object_at-left, no-slots}
use Rattle.cc_script.proofs.PlacesOf.{place-cases}
use Rattle.cc_script.proofs.Raising.{is_there-kept}
use Rattle.cc_script.proofs.Walks.{risen, risen-key, risen-places}

-- what is there is found
pub there-object : (objects : List Object) (key : ℕ) → is_there objects key ≡ true → (o : Object) × (object_at objects key ≡ Some o)
there-object objects key live = is_some-found (object_at objects key) live

-- An object made

pub there-left : (objects others : List Object) (q : ℕ) → is_there objects q ≡ true → is_there (objects ++ others) q ≡ true
there-left objects others q live = let f = there-object objects q live in ap is_some (object_at-left objects others q f.0 f.1)

pub whole-made : (objects : List Object) (o : Object) (n : ℕ) → o.slots ≡ replicate n None → ((q : ℕ) → o.delegate ≡ Some q → is_there objects q ≡ true) → AreWhole objects → AreWhole (objects ++ o ∷ [])
whole-made objects o n empty delegate whole z q m s = ⊎_elim
    (λ t. there-left objects (o ∷ []) q (whole z q t s))
    (λ t. ⊎_elim
    (λ e. ⊎_elim
    (λ y. absurd (no-slots n q (subst (λ xs. Among (Some q) xs) empty y)))
    (λ y. there-left objects (o ∷ []) q (delegate q y))
    (place-cases o q (subst (λ (y : Object). Among (Some q) (places_of y)) (sym e) s)))
    (λ x. absurd x) t)
    (Among-append z objects (o ∷ []) m)

-- Colours changed

module _ (g : Object → Object) (keeps_key : (o : Object) → (g o).key ≡ o.key) (keeps_places : (o : Object) → places_of (g o) ≡ places_of o) (objects : List Object) where
  pub whole-mapped : AreWhole objects → AreWhole (map g objects)
  whole-mapped whole o q m s = grind (arith, Among-map_cases, is_there-kept)

pub there-whitened : (objects : List Object) (q : ℕ) → is_there (whitened objects) q ≡ is_there objects q
there-whitened objects q = is_there-kept (with_colour White) (λ o. refl) objects q

pub whole-whitened : (objects : List Object) → AreWhole objects → AreWhole (whitened objects)
whole-whitened objects = whole-mapped (with_colour White) (λ o. refl) (λ o. refl) objects

pub there-raised : (keys : List ℕ) (to : Colour) (objects : List Object) (q : ℕ) → is_there (raised_among keys to objects) q ≡ is_there objects q
there-raised keys to objects q = is_there-kept (risen keys to) (risen-key keys to) objects q

pub whole-raised : (keys : List ℕ) (to : Colour) (objects : List Object) → AreWhole objects → AreWhole (raised_among keys to objects)
whole-raised keys to objects = whole-mapped (risen keys to) (risen-key keys to) (risen-places keys to) objects
