-- Tests that say yes exactly where a fact holds, put together.
use Rattle.std.proofs.Common.{◌≡◌, ◌↔◌, ◌⊎◌, Bool, true, not, ◌&&◌, ◌||◌, List, [], ◌∷◌, Option, Some, None, is_none, refl, inl, inr, ⊎_elim}
use Rattle.std.specs.Prelude.{IsTrue}
use Rattle.std.specs.List.{list_all}
use Rattle.std.proofs.lemmas.Bool.{not-true, not_from_false, false_from_ne_true, iff_false, and_parts, and_from, or_cases, or_left, or_right, false≢true}
use Rattle.cc_lists.specs.Members.{Among, has}
use Rattle.cc_lists.proofs.Members.{has-among, has-there}
use Rattle.cc_names.specs.declared.name.Name.{Name}
use Rattle.cc_names.specs.Names.{same_name}
use Rattle.cc_names.proofs.NameTests.{same_name-exact}
use Rattle.cc_worked.proofs.Passing.{list_all-each}

-- Two tests decide two facts.
pub both-decided : {A B : Type 0} (a b : Bool) → (IsTrue a ↔ A) → (IsTrue b ↔ B) → IsTrue (a && b) ↔ (A × B)
both-decided a b f g = (
  (λ h. let k = and_parts a b h in (f.0 k.0, g.0 k.1)),
  (λ p. and_from a b (f.1 p.0) (g.1 p.1)),
)

-- Three tests decide three facts.
pub three-decided : {A B C : Type 0} (a b c : Bool) → (IsTrue a ↔ A) → (IsTrue b ↔ B) → (IsTrue c ↔ C) → IsTrue (a && (b && c)) ↔ (A × B × C)
three-decided a b c f g h = (
  (λ i. let k = and_parts a (b && c) i in let l = and_parts b c k.1 in (f.0 k.0, g.0 l.0, h.0 l.1)),
  (λ p. and_from a (b && c) (f.1 p.0) (and_from b c (g.1 p.1) (h.1 p.2))),
)

-- One of two tests decides one of two facts.
pub either-decided : {A B : Type 0} (a b : Bool) → (IsTrue a ↔ A) → (IsTrue b ↔ B) → IsTrue (a || b) ↔ (A ⊎ B)
either-decided a b f g = (
  (λ h. ⊎_elim (λ e. inl (f.0 e)) (λ e. inr (g.0 e)) (or_cases a b h)),
  (λ s. ⊎_elim (λ p. or_left a b (f.1 p)) (λ q. or_right a b (g.1 q)) s),
)

-- A test turned round decides that a fact does not hold.
pub not-decided : {A : Type 0} (a : Bool) → (IsTrue a ↔ A) → IsTrue (not a) ↔ (¬ A)
not-decided a f = (
  (λ h. iff_false f (not-true a h)),
  (λ n. not_from_false a (false_from_ne_true a (λ e. n (f.0 e)))),
)

-- A test decides that it says yes.
pub itself-decided : (a : Bool) → IsTrue a ↔ IsTrue a
itself-decided a = ((λ h. h), (λ h. h))

-- Membership is decided.
pub has-decided : (xs : List Name) (x : Name) → IsTrue (has same_name xs x) ↔ Among x xs
has-decided xs x = (has-among same_name same_name-exact xs x, has-there same_name same_name-exact xs x)

-- The test of nothing decides that there is nothing.
pub is_none-decided : {X : Type 0} (o : Option X) → IsTrue (is_none o) ↔ (o ≡ None)
is_none-decided None = ((λ e. refl), (λ e. refl))
is_none-decided (Some x) = ((λ e. absurd (false≢true e)), (λ e. let bad : Some x ≡ None = e in cc))

-- What passes for each member of a list passes for all.
pub each-list_all : {X : Type 0} (p : X → Bool) (xs : List X) → ((x : X) → Among x xs → p x ≡ true) → list_all p xs ≡ true
each-list_all p [] f = refl
each-list_all p (x ∷ xs) f = and_from (p x) (list_all p xs) (f x (inl refl)) (each-list_all p xs (λ y m. f y (inr m)))

-- A test of all members decides a fact about each.
pub all-decided : {X : Type 0} {P : X → Type 0} (p : X → Bool) (xs : List X) → ((x : X) → IsTrue (p x) ↔ P x) →
    IsTrue (list_all p xs) ↔ ((x : X) → Among x xs → P x)
all-decided p xs f = (
  (λ h x m. (f x).0 (list_all-each p xs h x m)),
  (λ g. each-list_all p xs (λ x m. (f x).1 (g x m))),
)
