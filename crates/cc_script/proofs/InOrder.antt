-- THE COLOUR ORDER IS KEPT by each change of the objects.
use Rattle.std.proofs.Common.{◌≡◌, ◌≢◌, ℕ, zero, suc, Bool, true, false, not, List, [], ◌∷◌, ◌++◌, replicate, Option, Some, None, option_map, refl, sym, ◌∙◌, ap, subst, ⊎_elim, ◌⊎◌, inl, inr, ◌==◌, arith}
use Rattle.std.specs.List.{find}
use Rattle.std.proofs.Math.ListN.{set}
use Rattle.std.proofs.lemmas.Bool.{ne_eqb, true≢false, false≢true}
use Rattle.std.proofs.lemmas.Bool.Decides.{eqb_tells}
use Rattle.cc_lists.specs.Members.{Among}
use Rattle.cc_lists.proofs.Members.{Among-append, Among-filtered, Among-map_cases}
use Rattle.cc_lists.proofs.ListWrites.{Among-set_cases, changed_where-either}
use Rattle.cc_lists.proofs.Searching.{find-filter}
use Rattle.cc_names.specs.declared.kind.Colour.{Colour}
use Rattle.cc_names.specs.declared.kind.Colour.TheVariants.{White}
use Rattle.cc_script.specs.Objects.{Object, object_at, is_there, colour_at, change_object, with_slot, without_object, whitened, is_below, IsNotBelow, places_of}
use Rattle.cc_script.specs.ColourOrder.{HasColourOrder}
use Rattle.cc_script.proofs.PlacesOf.{slot-place, delegate-place, place-cases}
use Rattle.cc_script.proofs.Keys.{object_at-map, changed_at, changed_at-key, changed_at-same}

-- no objects
pub HasColourOrder-none : HasColourOrder []
HasColourOrder-none = record { held = λ o q m. absurd m }

-- all white
pub HasColourOrder-whitened : (objects : List Object) → HasColourOrder (whitened objects)
HasColourOrder-whitened objects = grind (arith, Among-map_cases, false≢true)

-- one more object, which holds nothing
pub no-slots : (n q : ℕ) → ¬ (Among (Some q) (replicate n None))
no-slots zero q m = m
no-slots (suc n) q m = ⊎_elim (λ (e : None ≡ Some q). let bad = e in absurd (cc)) (λ t. no-slots n q t) m

find-left : {X : Type 0} (p : X → Bool) (xs ys : List X) (x : X) → find p xs ≡ Some x → find p (xs ++ ys) ≡ Some x
find-left p [] ys x e = absurd (cc)
find-left {X} p (z ∷ zs) ys x e = grind (arith, find-left p zs ys x)

pub object_at-left : (objects others : List Object) (key : ℕ) (o : Object) → object_at objects key ≡ Some o → object_at (objects ++ others) key ≡ Some o
object_at-left objects others key o e = find-left (λ (z : Object). z.key == key) objects others o e

pub HasColourOrder-made : (objects : List Object) (o : Object) (n : ℕ) → o.slots ≡ replicate n None →
    ((q : ℕ) → o.delegate ≡ Some q → (d : Object) × (object_at objects q ≡ Some d) × (is_below d.colour o.colour ≡ false)) → HasColourOrder objects → HasColourOrder (objects ++ o ∷ [])
HasColourOrder-made objects o n empty delegate h = record {
  held = λ z q m above s. ⊎_elim
      (λ t. let f = h.held z q t above s in (f.0, object_at-left objects (o ∷ []) q f.0 f.1, f.2))
      (λ t. ⊎_elim
      (λ e. ⊎_elim
      (λ y. absurd (no-slots n q (subst (λ xs. Among (Some q) xs) empty y)))
      (λ y. let f = delegate q y in (f.0, object_at-left objects (o ∷ []) q f.0 f.1, subst (λ (p : Object). is_below f.0.colour p.colour ≡ false) e f.2))
      (place-cases o q (subst (λ (y : Object). Among (Some q) (places_of y)) (sym e) s)))
      (λ x. absurd x) t)
      (Among-append z objects (o ∷ []) m);
}

-- a slot written, with nothing or with an object whose colour isn't lower
module _ (objects : List Object) (h : HasColourOrder objects) (own : (o : Object) → Among o objects → object_at objects o.key ≡ Some o)
    (key i : ℕ) (x : Option ℕ)
    (live : (q : ℕ) → x ≡ Some q → is_there objects q ≡ true)
    (fits : (q : ℕ) → x ≡ Some q → IsNotBelow (colour_at objects q) (colour_at objects key)) where
  abbrev wrote : Object → Object
  wrote = changed_at key (with_slot i x)

  wrote-key : (o : Object) → (wrote o).key ≡ o.key
  wrote-key = changed_at-key key (with_slot i x) (λ o. refl)

  wrote-colour : (o : Object) → (wrote o).colour ≡ o.colour
  wrote-colour o = changed_where-either (λ z. z.colour ≡ o.colour) (λ z. z.key == key) (with_slot i x) o (λ e. refl) refl

  -- what a slot then holds is what was written, or was held
  wrote-slots : (o : Object) (q : ℕ) → Among (Some q) (wrote o).slots → ((o.key ≡ key) × (x ≡ Some q)) ⊎ Among (Some q) o.slots
  wrote-slots o q m = grind (arith, set, changed_at-same, Among-set_cases, eqb_tells)

  wrote-delegate : (o : Object) → (wrote o).delegate ≡ o.delegate
  wrote-delegate o = changed_where-either (λ z. z.delegate ≡ o.delegate) (λ z. z.key == key) (with_slot i x) o (λ e. refl) refl

  -- and so of its other places
  wrote-places : (o : Object) (q : ℕ) → Among (Some q) (places_of (wrote o)) → ((o.key ≡ key) × (x ≡ Some q)) ⊎ Among (Some q) (places_of o)
  wrote-places o q m = ⊎_elim
      (λ t. ⊎_elim (λ e. inl e) (λ r. inr (slot-place o q r)) (wrote-slots o q t))
      (λ d. inr (delegate-place o q (sym (wrote-delegate o) ∙ d)))
      (place-cases (wrote o) q m)

  found : (q : ℕ) (c : Colour) → (d : Object) × (object_at objects q ≡ Some d) × (is_below d.colour c ≡ false) →
      (d : Object) × (object_at (change_object objects key (with_slot i x)) q ≡ Some d) × (is_below d.colour c ≡ false)
  found q c f = (
    wrote f.0,
    object_at-map wrote wrote-key objects q ∙ ap (option_map wrote) f.1,
    ap (λ a. is_below a c) (wrote-colour f.0) ∙ f.2,
  )

  -- what is written isn't lower
  given : (o : Object) (q : ℕ) → Among o objects → o.key ≡ key → x ≡ Some q → (d : Object) × (object_at objects q ≡ Some d) × (is_below d.colour o.colour ≡ false)
  given o q m k e = go (object_at objects q) refl
    where
      at : colour_at objects key ≡ Some o.colour
      at = ap (option_map (λ (z : Object). z.colour)) (subst (λ j. object_at objects j ≡ Some o) k (own o m))

      go : (a : Option Object) → object_at objects q ≡ a → (d : Object) × (object_at objects q ≡ Some d) × (is_below d.colour o.colour ≡ false)
      go None f = let bad : is_there objects q ≡ false = rw f refl in absurd (false≢true (sym bad ∙ live q e))
      go (Some d) f = (
        d,
        f,
        subst (IsNotBelow (Some d.colour)) at (subst (λ c. IsNotBelow c (colour_at objects key)) (ap (option_map (λ (z : Object). z.colour)) f) (fits q e)),
      )

  pub HasColourOrder-written : HasColourOrder (change_object objects key (with_slot i x))
  HasColourOrder-written = record {
    held = λ o q m above s.
        let k = Among-map_cases wrote objects o m in
        let was : is_below White k.0.colour ≡ true = ap (is_below White) (sym (wrote-colour k.0) ∙ ap (λ (z : Object). z.colour) k.2) ∙ above in
        let r = ⊎_elim
        (λ t. given k.0 q k.1 t.0 t.1)
        (λ t. h.held k.0 q k.1 was t)
        (wrote-places k.0 q (subst (λ (z : Object). Among (Some q) (places_of z)) (sym k.2) s)) in
        let f = found q k.0.colour r in
        (f.0, f.1, ap (is_below f.0.colour) (sym (ap (λ (z : Object). z.colour) k.2) ∙ wrote-colour k.0) ∙ f.2);
  }

-- a white object taken out
pub HasColourOrder-without : (objects : List Object) (key : ℕ) → HasColourOrder objects → colour_at objects key ≡ Some White → HasColourOrder (without_object objects key)
HasColourOrder-without objects key h white = record {
  held = λ o q m above s.
      let f = h.held o q (Among-filtered (λ (z : Object). not (z.key == key)) o objects m) above s in
      let other : q ≢ key = λ e.
      let same : Some f.0.colour ≡ Some White = sym (ap (option_map (λ (z : Object). z.colour)) (subst (λ j. object_at objects j ≡ Some f.0) e f.1)) ∙ white in
      let is_white : f.0.colour ≡ White = cc in
      true≢false (sym above ∙ (ap (λ c. is_below c o.colour) (sym is_white) ∙ f.2)) in (
        f.0,
        find-filter (λ (z : Object). z.key == q) (λ (z : Object). not (z.key == key)) objects (λ z e. ap not (kept z q e other)) ∙ f.1,
        f.2,
      );
}
  where
    kept : (z : Object) (q : ℕ) → (z.key == q) ≡ true → q ≢ key → (z.key == key) ≡ false
    kept z q e other = ⊎_elim
        (λ t. absurd (true≢false (sym e ∙ ne_eqb z.key q (λ s. other (sym s ∙ t.1)))))
        (λ t. t.0) (eqb_tells z.key key)
