-- THE PLACES OF AN OBJECT: its slots, and one for its delegate.
use Rattle.std.proofs.Common.{◌≡◌, ℕ, true, List, [], ◌∷◌, Option, Some, None, is_some, refl, sym, ◌∙◌, ap, subst, inl, inr, ◌⊎◌, ⊎_elim}
use Rattle.std.proofs.lemmas.Bool.{false≢true}
use Rattle.cc_lists.specs.Members.{Among}
use Rattle.cc_lists.proofs.Members.{Among-append, Among-left, Among-right}
use Rattle.cc_names.specs.Places.{script_places}
use Rattle.cc_script.specs.Objects.{Object, object_at, is_there, delegate_at, places_at, places_of, slots_at}

module _ (o : Object) (q : ℕ) where
  pub slot-place : Among (Some q) o.slots → Among (Some q) (places_of o)
  slot-place m = Among-left (Some q) o.slots (o.delegate ∷ []) m

  pub delegate-place : o.delegate ≡ Some q → Among (Some q) (places_of o)
  delegate-place e = Among-right (Some q) o.slots (o.delegate ∷ []) (inl e)

  -- what a place has is what a slot holds, or the delegate
  pub place-cases : Among (Some q) (places_of o) → Among (Some q) o.slots ⊎ (o.delegate ≡ Some q)
  place-cases m = ⊎_elim (λ t. inl t) (λ t. ⊎_elim (λ e. inr e) (λ x. absurd x) t) (Among-append (Some q) o.slots (o.delegate ∷ []) m)

-- an object with the same slots and the same delegate has the same places
pub places-same : (o p : Object) → o.slots ≡ p.slots → o.delegate ≡ p.delegate → places_of o ≡ places_of p
places-same o p slots delegate = λ i. script_places (slots i) (delegate i)

-- those that stand at a key
module _ (objects : List Object) (key : ℕ) (live : is_there objects key ≡ true) where
  pub places-read : places_at objects key ≡ script_places (slots_at objects key) (delegate_at objects key)
  places-read = go (object_at objects key) refl
    where
      go : (o : Option Object) → object_at objects key ≡ o → places_at objects key ≡ script_places (slots_at objects key) (delegate_at objects key)
      go None e = absurd (false≢true (ap is_some (sym e) ∙ live))
      go (Some o) e = rw (e) refl

  pub held-slot : (q : ℕ) → Among (Some q) (slots_at objects key) → Among (Some q) (places_at objects key)
  held-slot q m = subst (Among (Some q)) (sym places-read) (Among-left (Some q) (slots_at objects key) (delegate_at objects key ∷ []) m)

  pub held-delegate : (q : ℕ) → delegate_at objects key ≡ Some q → Among (Some q) (places_at objects key)
  held-delegate q e = subst (Among (Some q)) (sym places-read) (Among-right (Some q) (slots_at objects key) (delegate_at objects key ∷ []) (inl e))
