-- MARKING, one object after another: what waits has the colour, and only that may hold what is lower.
use Rattle.cc_script.proofs.Wholeness.{whole-mapped}
use Rattle.cc_lists.proofs.Held.{is_some-found}
use Rattle.std.proofs.Common.{◌≡◌, ℕ, ◌<◌, Bool, true, false, List, [], ◌∷◌, ◌++◌, Option, Some, None, option_map, is_some, refl, sym, ◌∙◌, ap, subst, inl, inr, ◌⊎◌, ⊎_elim, ◌==◌, if◌then◌else◌, arith}
use Rattle.std.proofs.lemmas.Bool.{true≢false, eqb-true}
use Rattle.cc_lists.specs.Members.{Among}
use Rattle.cc_lists.specs.Walks.{first_of}
use Rattle.cc_lists.proofs.Members.{Among-append, Among-left, Among-right, Among-map_cases}
use Rattle.cc_names.specs.declared.kind.Colour.{Colour}
use Rattle.cc_names.specs.declared.kind.Colour.TheVariants.{White}
use Rattle.cc_script.specs.Objects.{Object, AreWhole, object_at, is_there, colour_at, places_at, places_of, places_or_none, is_below, raised}
use Rattle.cc_script.specs.ColourOrder.{HasColourOrder}
use Rattle.cc_script.specs.Marking.{Marking, is_lower, raise_key, raise_each, to_do}
use Rattle.cc_script.specs.Underway.{IsOrderedBut, IsMarked, with_first_looked_into}
use Rattle.cc_script.proofs.Keys.{object_at-map, object_at-among, object_at-key, changed_at, changed_at-key, changed_at-same, coloured-there}
use Rattle.cc_script.proofs.Colours.{raised-key, raised-same, raised-below, raised-enough, raised-keeps, not_below-self}
use Rattle.cc_script.proofs.Raising.{raise_key-lower, raise_key-enough, raise_key-there, raise_each-spends, lower-some, raise_key-cases, one_raised-places}
use Rattle.cc_script.proofs.Popping.{popped-does}

-- an object after some were raised: not below what it was not below, and the same where it had the colour
pub record IsAfter (to : Colour) (d e : Object) : Type 0 where
  pub above : (c : Colour) → is_below d.colour c ≡ false → is_below e.colour c ≡ false
  pub same : is_below d.colour to ≡ false → e ≡ d

module _ (to : Colour) (key : ℕ) where
  abbrev one : Object → Object
  one = changed_at key (raised to)

  one-key : (o : Object) → (one o).key ≡ o.key
  one-key = changed_at-key key (raised to) (raised-key to)

  pub raise-at : (m : Marking) (q : ℕ) (d : Object) → object_at m.objects q ≡ Some d → (e : Object) × (object_at (raise_key to key m).objects q ≡ Some e) × IsAfter to d e
  raise-at m q d at = raise_key-cases to key m (λ z. (e : Object) × (object_at z.objects q ≡ Some e) × IsAfter to d e)
      (λ e. (one d, object_at-map one one-key m.objects q ∙ ap (option_map one) at, after (d.key == key))) (λ e. (d, at, after false))
    where
      after : (b : Bool) → IsAfter to d (if b then raised to d else d)
      after true = record { above = λ c h. raised-keeps to d c h; same = raised-same to d }
      after false = record { above = λ c h. h; same = λ h. refl }

  -- the one that was raised
  pub raise-here : (m : Marking) (d : Object) → object_at m.objects key ≡ Some d → (e : Object) × (object_at (raise_key to key m).objects key ≡ Some e) × (is_below e.colour to ≡ false)
  raise-here m d at = raise_key-cases to key m (λ z. (e : Object) × (object_at z.objects key ≡ Some e) × (is_below e.colour to ≡ false))
      (λ e. (raised to d, object_at-map one one-key m.objects key ∙ (ap (option_map one) at ∙ ap Some (changed_at-same key (raised to) d (object_at-key m.objects key d at))), raised-enough to d))
      (λ e. (d, at, ap (is_lower to) (sym at) ∙ e))

  -- what waits has the colour
  pub raise-coloured : (m : Marking) → ((k : ℕ) → Among k m.waiting → colour_at m.objects k ≡ Some to) → (k : ℕ) → Among k (raise_key to key m).waiting → colour_at (raise_key to key m).objects k ≡ Some to
  raise-coloured m h k = go (is_lower to (object_at m.objects key)) refl
    where
      old : (o : Option Object) → object_at m.objects k ≡ o → option_map (λ (z : Object). z.colour) o ≡ Some to → colour_at (raise_key to key m).objects k ≡ Some to
      old None e f = absurd (cc)
      old (Some d) e f =
          let colour : d.colour ≡ to = cc in
          let r = raise-at m k d e in
          ap (option_map (λ (z : Object). z.colour)) r.1 ∙ ap (λ (z : Object). Some z.colour) (r.2.same (ap (λ c. is_below c to) colour ∙ not_below-self to)) ∙ ap Some colour

      go : (b : Bool) → is_lower to (object_at m.objects key) ≡ b → Among k (raise_key to key m).waiting → colour_at (raise_key to key m).objects k ≡ Some to
      go false e n = old (object_at m.objects k) refl (h k (subst (λ (z : Marking). Among k z.waiting) (raise_key-enough to key m e) n))
      go true e n = ⊎_elim
          (λ was. old (object_at m.objects k) refl (h k was))
          (λ new. ⊎_elim
          (λ (same : key ≡ k).
          let f = lower-some to (object_at m.objects key) e in
          subst (λ z. colour_at (raise_key to key m).objects z ≡ Some to) same
          (ap (λ (z : Marking). colour_at z.objects key) (raise_key-lower to key m e)
          ∙ (ap (option_map (λ (z : Object). z.colour)) (object_at-map one one-key m.objects key ∙ (ap (option_map one) f.1 ∙ ap Some (changed_at-same key (raised to) f.0 (object_at-key m.objects key f.0 f.1))))
          ∙ ap (λ (z : Object). Some z.colour) (raised-below to f.0 f.2))))
          (λ x. absurd x) new)
          (Among-append k m.waiting (key ∷ []) (subst (λ (z : Marking). Among k z.waiting) (raise_key-lower to key m e) n))

  -- only what waits, and what was exempt, may hold what is lower
  pub raise-ordered : (X : ℕ → Type 0) (m : Marking) → IsOrderedBut (λ k. X k ⊎ Among k m.waiting) m.objects → IsOrderedBut (λ k. X k ⊎ Among k (raise_key to key m).waiting) (raise_key to key m).objects
  raise-ordered X m h = go (is_lower to (object_at m.objects key)) refl
    where
      go : (b : Bool) → is_lower to (object_at m.objects key) ≡ b → IsOrderedBut (λ k. X k ⊎ Among k (raise_key to key m).waiting) (raise_key to key m).objects
      go false e = subst (λ (z : Marking). IsOrderedBut (λ k. X k ⊎ Among k z.waiting) z.objects) (sym (raise_key-enough to key m e)) h
      go true e = λ o q n marked held.
          let found = Among-map_cases one m.objects o (subst (λ (z : Marking). Among o z.objects) (raise_key-lower to key m e) n) in
          each o q marked held found.0 found.1 (found.0.key == key) refl found.2
        where
          waits : (k : ℕ) → Among k (m.waiting ++ key ∷ []) → Among k (raise_key to key m).waiting
          waits k a = subst (λ (z : Marking). Among k z.waiting) (sym (raise_key-lower to key m e)) a

          each : (o : Object) (q : ℕ) → is_below White o.colour ≡ true → Among (Some q) (places_of o) → (x : Object) → Among x m.objects → (b : Bool) → (x.key == key) ≡ b → one x ≡ o →
              (X o.key ⊎ Among o.key (raise_key to key m).waiting) ⊎ ((d : Object) × (object_at (raise_key to key m).objects q ≡ Some d) × (is_below d.colour o.colour ≡ false))
          each o q marked held x a true same f =
              let at : o.key ≡ key = ap (λ (z : Object). z.key) (sym f) ∙ (one-key x ∙ eqb-true x.key key same) in
              inl (inr (waits o.key (Among-right o.key m.waiting (key ∷ []) (inl (sym at)))))
          each o q marked held x a false other f =
              let was : x ≡ o = sym (ap (λ b. if b then raised to x else x) other) ∙ f in
              ⊎_elim
              (λ s. inl (⊎_elim (λ t. inl t) (λ t. inr (waits o.key (Among-left o.key m.waiting (key ∷ []) t))) s))
              (λ t. let r = raise-at m q t.0 t.1 in inr (r.0, r.1, r.2.above o.colour t.2))
              (h o q (subst (λ z. Among z m.objects) was a) marked held)

module _ (to : Colour) where
  -- of many
  pub each-at : (xs : List (Option ℕ)) (m : Marking) (q : ℕ) (d : Object) → object_at m.objects q ≡ Some d → (e : Object) × (object_at (raise_each to xs m).objects q ≡ Some e) × IsAfter to d e
  each-at [] m q d at = (d, at, record { above = λ c h. h; same = λ h. refl })
  each-at (None ∷ xs) m q d at = each-at xs m q d at
  each-at (Some key ∷ xs) m q d at =
      let r = raise-at to key m q d at in
      let s = each-at xs (raise_key to key m) q r.0 r.1 in (
        s.0,
        s.1,
        record {
          above = λ c h. s.2.above c (r.2.above c h);
          same = λ h. s.2.same (subst (λ (z : Object). is_below z.colour to ≡ false) (sym (r.2.same h)) h) ∙ r.2.same h;
        },
      )

  pub each-here : (xs : List (Option ℕ)) (m : Marking) (q : ℕ) (d : Object) → Among (Some q) xs → object_at m.objects q ≡ Some d → (e : Object) × (object_at (raise_each to xs m).objects q ≡ Some e) × (is_below e.colour to ≡ false)
  each-here [] m q d n at = absurd n
  each-here (None ∷ xs) m q d n at = each-here xs m q d (⊎_elim (λ e. absurd (cc)) (λ t. t) n) at
  each-here (Some k ∷ xs) m q d n at = ⊎_elim
      (λ e. let same : k ≡ q = cc in first same)
      (λ t. let r = raise-at to k m q d at in each-here xs (raise_key to k m) q r.0 t r.1)
      n
    where
      first : k ≡ q → (e : Object) × (object_at (raise_each to xs (raise_key to k m)).objects q ≡ Some e) × (is_below e.colour to ≡ false)
      first same =
          let h = raise-here to k m d (subst (λ z. object_at m.objects z ≡ Some d) (sym same) at) in
          let s = each-at xs (raise_key to k m) k h.0 h.1 in
          subst (λ z. (e : Object) × (object_at (raise_each to xs (raise_key to k m)).objects z ≡ Some e) × (is_below e.colour to ≡ false)) same
          (s.0, s.1, s.2.above to h.2)

  pub each-coloured : (xs : List (Option ℕ)) (m : Marking) → ((k : ℕ) → Among k m.waiting → colour_at m.objects k ≡ Some to) → (k : ℕ) → Among k (raise_each to xs m).waiting → colour_at (raise_each to xs m).objects k ≡ Some to
  each-coloured [] m h = h
  each-coloured (None ∷ xs) m h = each-coloured xs m h
  each-coloured (Some key ∷ xs) m h = each-coloured xs (raise_key to key m) (raise-coloured to key m h)

  pub each-ordered : (X : ℕ → Type 0) (xs : List (Option ℕ)) (m : Marking) → IsOrderedBut (λ k. X k ⊎ Among k m.waiting) m.objects → IsOrderedBut (λ k. X k ⊎ Among k (raise_each to xs m).waiting) (raise_each to xs m).objects
  each-ordered X [] m h = h
  each-ordered X (None ∷ xs) m h = each-ordered X xs m h
  each-ordered X (Some key ∷ xs) m h = each-ordered X xs (raise_key to key m) (raise-ordered to key X m h)

-- The walk

-- one object started
pub started-marked : (to : Colour) (key : ℕ) (m : Marking) → IsMarked to m → IsMarked to (raise_key to key m)
started-marked to key m h = record {
  coloured = raise-coloured to key m h.coloured;
  ordered = λ o q n marked held. ⊎_elim (λ s. inl (⊎_elim (λ x. absurd x) (λ t. t) s)) (λ t. inr t)
      (raise-ordered to key (λ k. ⊥) m (λ o q n marked held. ⊎_elim (λ s. inl (inr s)) (λ t. inr t) (h.ordered o q n marked held)) o q n marked held);
}

-- the first one looked into
module _ (to : Colour) (m : Marking) (key : ℕ) (rest : List ℕ) (front : m.waiting ≡ key ∷ rest) where
  abbrev pub after : Marking
  after = raise_each to (places_at m.objects key) (record { objects = m.objects; waiting = rest })

  pub looked-marked : ((o : Object) → Among o after.objects → object_at after.objects o.key ≡ Some o) →
      ((o : Object) (q : ℕ) → Among o m.objects → Among (Some q) (places_of o) → (d : Object) × (object_at m.objects q ≡ Some d)) →
      ((k : ℕ) (d : Object) → object_at m.objects k ≡ Some d → Among d m.objects) → IsMarked to m → IsMarked to after
  looked-marked own there among h = record {
    coloured = each-coloured to (places_at m.objects key) (record { objects = m.objects; waiting = rest }) (λ k n. h.coloured k (subst (Among k) (sym front) (inr n)));
    ordered = λ o q n marked held. ⊎_elim
        (λ s. ⊎_elim (λ same. inr (mine o q n held same (object_at m.objects key) refl (h.coloured key (subst (Among key) (sym front) (inl refl))))) (λ t. inl t) s)
        (λ t. inr t)
        (each-ordered to (λ k. key ≡ k) (places_at m.objects key) (record { objects = m.objects; waiting = rest })
        (λ o q n marked held. ⊎_elim (λ s. inl (subst (Among o.key) front s)) (λ t. inr t) (h.ordered o q n marked held)) o q n marked held);
  }
    where
      mine : (o : Object) (q : ℕ) → Among o after.objects → Among (Some q) (places_of o) → key ≡ o.key → (x : Option Object) → object_at m.objects key ≡ x → option_map (λ (z : Object). z.colour) x ≡ Some to →
          (d : Object) × (object_at after.objects q ≡ Some d) × (is_below d.colour o.colour ≡ false)
      mine o q n held same None at c = absurd (cc)
      mine o q n held same (Some x) at c =
          let colour : x.colour ≡ to = cc in
          let s = each-at to (places_at m.objects key) (record { objects = m.objects; waiting = rest }) key x at in
          let kept : s.0 ≡ x = s.2.same (ap (λ z. is_below z to) colour ∙ not_below-self to) in
          let found : Some o ≡ Some s.0 = sym (own o n) ∙ (ap (object_at after.objects) (sym same) ∙ s.1) in
          let this : o ≡ x = (let e : o ≡ s.0 = cc in e) ∙ kept in
          let inside : Among (Some q) (places_of x) = subst (λ (z : Object). Among (Some q) (places_of z)) this held in
          let d = there x q (among key x at) inside in
          let e = each-here to (places_at m.objects key) (record { objects = m.objects; waiting = rest }) q d.0 (subst (Among (Some q)) (sym (ap places_or_none at)) inside) d.1 in
          (e.0, e.1, subst (λ z. is_below e.0.colour z ≡ false) (sym (ap (λ (z : Object). z.colour) this ∙ colour)) e.2)

-- at the end, and before the first
pub marked-ordered : (to : Colour) (m : Marking) → m.waiting ≡ [] → IsMarked to m → HasColourOrder m.objects
marked-ordered to m none h = record { held = λ o q n marked held. ⊎_elim (λ s. absurd (subst (Among o.key) none s)) (λ t. t) (h.ordered o q n marked held) }

pub ordered-marked : (to : Colour) (m : Marking) → m.waiting ≡ [] → HasColourOrder m.objects → IsMarked to m
ordered-marked to m none h = record { coloured = λ k n. absurd (subst (Among k) none n); ordered = λ o q n marked held. inr (h.held o q n marked held) }

-- What is there

pub there-some : (objects : List Object) (q : ℕ) → is_there objects q ≡ true → (d : Object) × (object_at objects q ≡ Some d)
there-some objects q h = is_some-found (object_at objects q) h

pub places-there : (objects : List Object) (k q : ℕ) → AreWhole objects → Among (Some q) (places_at objects k) → is_there objects q ≡ true
places-there objects k q whole n = go (object_at objects k) refl n
  where
    go : (o : Option Object) → object_at objects k ≡ o → Among (Some q) (places_or_none o) → is_there objects q ≡ true
    go None e m = absurd m
    go (Some o) e m = whole o q (object_at-among objects k o e) m

-- which is the first
pub first-looked : (to : Colour) (m : Marking) (key : ℕ) (rest : List ℕ) → m.waiting ≡ key ∷ rest →
    with_first_looked_into to m ≡ raise_each to (places_at m.objects key) (record { objects = m.objects; waiting = rest })
first-looked to m key rest front = ap (λ (ks : List ℕ). elim ks [ [] ↦ m | k ∷ ks ↦ raise_each to (places_at m.objects k) (record { objects = m.objects; waiting = ks }) ]) front

-- What is there stays, and slots hold what is there

module _ (to : Colour) where
  pub whole-raised : (key : ℕ) (m : Marking) → AreWhole m.objects → AreWhole (raise_key to key m).objects
  whole-raised key m h = raise_key-cases to key m (λ z. AreWhole z.objects) (λ e. whole-mapped (one to key) (one-key to key) (one_raised-places to key) m.objects h) (λ e. h)

  pub whole-each : (xs : List (Option ℕ)) (m : Marking) → AreWhole m.objects → AreWhole (raise_each to xs m).objects
  whole-each [] m h = h
  whole-each (None ∷ xs) m h = whole-each xs m h
  whole-each (Some key ∷ xs) m h = whole-each xs (raise_key to key m) (whole-raised key m h)

  there-each : (xs : List (Option ℕ)) (m : Marking) (q : ℕ) → is_there (raise_each to xs m).objects q ≡ is_there m.objects q
  there-each [] m q = refl
  there-each (None ∷ xs) m q = there-each xs m q
  there-each (Some key ∷ xs) m q = there-each xs (raise_key to key m) q ∙ raise_key-there to key m q

  abbrev looked_by : Marking → List ℕ → Marking
  looked_by m ks = elim ks [ [] ↦ m | k ∷ ks ↦ raise_each to (places_at m.objects k) (record { objects = m.objects; waiting = ks }) ]

  pub whole-looked : (m : Marking) → AreWhole m.objects → AreWhole (with_first_looked_into to m).objects
  whole-looked m h = grind (arith, whole-each)

  pub there-looked : (m : Marking) (q : ℕ) → is_there (with_first_looked_into to m).objects q ≡ is_there m.objects q
  there-looked m q = grind (arith, there-each)

  -- less is to be done then, and nothing is done where none waits
  pub looked-spends : (m : Marking) → is_some (first_of m.waiting) ≡ true → to_do to (with_first_looked_into to m) < to_do to m
  looked-spends m = grind (arith, true≢false, popped-does, raise_each-spends)

  pub looked-none : (m : Marking) → m.waiting ≡ [] → with_first_looked_into to m ≡ m
  looked-none m none = ap (looked_by m) none

-- whether one waited or not
pub first-marked : (to : Colour) (m : Marking) → AreWhole m.objects →
    ((o : Object) → Among o (with_first_looked_into to m).objects → object_at (with_first_looked_into to m).objects o.key ≡ Some o) → IsMarked to m → IsMarked to (with_first_looked_into to m)
first-marked to m whole own h = go m.waiting refl
  where
    go : (ks : List ℕ) → m.waiting ≡ ks → IsMarked to (with_first_looked_into to m)
    go [] e = subst (IsMarked to) (sym (looked-none to m e)) h
    go (key ∷ rest) e =
        let same = first-looked to m key rest e in
        subst (IsMarked to) (sym same)
        (looked-marked to m key rest e (subst (λ (z : Marking). (o : Object) → Among o z.objects → object_at z.objects o.key ≡ Some o) same own)
        (λ o q n held. there-some m.objects q (whole o q n held)) (λ k d at. object_at-among m.objects k d at) h)

-- what waits is there, where it has a colour
pub marked-there : (to : Colour) (m : Marking) → IsMarked to m → (k : ℕ) → Among k m.waiting → is_there m.objects k ≡ true
marked-there to m h k n = coloured-there m.objects k to (h.coloured k n)
