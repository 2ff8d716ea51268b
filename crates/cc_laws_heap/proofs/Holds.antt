-- WHAT SLOTS HOLD: at a place, after a write, and where they are empty.
use Rattle.std.proofs.Common.{arith, ◌≡◌, ℕ, zero, suc, [], ◌∷◌, set, get_or, Option, Some, None, refl, ap, subst, inl, inr, ⊎_elim}
use Rattle.cc_lists.specs.Members.{Among}
use Rattle.cc_names.specs.declared.name.Name.{Name}
use Rattle.cc_model.specs.Slots.{Slots, contents}

-- it holds of the name that is there, where one is
abbrev pub OfSome : (Name → Type 0) → Option Name → Type 0
OfSome P None = Unit {0}
OfSome P (Some x) = P x

-- what holds of the name that is there
pub OfSome-from : (P : Name → Type 0) (o : Option Name) → ((x : Name) → o ≡ Some x → P x) → OfSome P o
OfSome-from P o h = grind arith

-- it holds of a name that is known to be there
OfSome-at : (P : Name → Type 0) (o : Option Name) (x : Name) → OfSome P o → o ≡ Some x → P x
OfSome-at P o x h e = subst (OfSome P) e h

-- what follows from it
pub OfSome-then : (P Q : Name → Type 0) → ((x : Name) → P x → Q x) → (o : Option Name) → OfSome P o → OfSome Q o
OfSome-then P Q f o h = grind arith

-- what holds of all that slots hold, holds of what stands at a place
pub contents-at : (P : Name → Type 0) (slots : Slots) (i : ℕ) → ((x : Name) → Among x (contents slots) → P x) → OfSome P (get_or slots i None)
contents-at P (Some x ∷ slots) zero h = h x (inl refl)
contents-at P (None ∷ slots) (suc i) h = contents-at P slots i h
contents-at P (Some x ∷ slots) (suc i) h = contents-at P slots i (λ y m. h y (inr m))
contents-at P _ _ h = tt

-- and of all that they hold after a write, where it holds of what was written
pub contents-set : (P : Name → Type 0) (slots : Slots) (i : ℕ) (o : Option Name) → ((x : Name) → Among x (contents slots) → P x) → OfSome P o →
    (x : Name) → Among x (contents (set slots i o)) → P x
contents-set P [] i o h k = h
contents-set P (s ∷ slots) zero o h k = grind arith
contents-set P (None ∷ slots) (suc i) o h k = contents-set P slots i o h k
contents-set P (Some y ∷ slots) (suc i) o h k = λ x m. ⊎_elim (λ e. h x (inl e)) (contents-set P slots i o (λ z n. h z (inr n)) k x) m

-- what stands at a place is among what slots hold
pub contents-get : (slots : Slots) (i : ℕ) (x : Name) → get_or slots i None ≡ Some x → Among x (contents slots)
contents-get slots i x e = OfSome-at (λ y. Among y (contents slots)) (get_or slots i None) x (contents-at (λ y. Among y (contents slots)) slots i (λ y m. m)) e

-- and what they hold stands at a place
pub contents-place : (slots : Slots) (x : Name) → Among x (contents slots) → (i : ℕ) × (get_or slots i None ≡ Some x)
contents-place [] x m = absurd m
contents-place (None ∷ slots) x m = let k = contents-place slots x m in (suc k.0, k.1)
contents-place (Some y ∷ slots) x m = ⊎_elim
    (λ e. (0, ap (λ z. Some z) e))
    (λ t. let k = contents-place slots x t in (suc k.0, k.1)) m
