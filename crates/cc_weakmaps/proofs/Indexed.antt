-- THE INDEX, as entries are put in it and taken out, one at a time.
use Rattle.std.proofs.Common.{◌≡◌, ℕ, ◌+◌, ◌<◌, ◌≤◌, ◌==◌, suc, Bool, true, false, ◌||◌, cond, List, length, get_or, Option, Some, None, refl, sym, ◌∙◌, ap, subst, arith, ⊎_elim, option_map, if◌then◌else◌, add-one}
use Rattle.std.specs.Prelude.{slice_get}
use Rattle.std.proofs.Math.ListN.{set}
use Rattle.std.proofs.lemmas.Bool.{eqb-true, eq-eqb, false≢true}
use Rattle.std.proofs.lemmas.Bool.Decides.{eqb_tells}
use Rattle.std.proofs.lemmas.List.{get_or-set_same, get_or-set_other}
use Rattle.std.proofs.lemmas.Option.{slice_get-get_or}
use Rattle.std.proofs.lemmas.List.Elements.{Contains-get_or}
use Rattle.cc_lists.proofs.Members.{Among-contains}
use Rattle.cc_weakmaps.specs.Entries.{KeyedEntry}
use Rattle.cc_weakmaps.specs.Index.{has_object, is_it, kept_with, last_kept, last_of, place_below, place_of_it, AreKnown, IsBelow, IsIndexed, IsKnown}
use Rattle.cc_weakmaps.specs.declared.links.Links.{Links}
use Rattle.cc_weakmaps.proofs.Kept.{known-last}
use Rattle.cc_weakmaps.proofs.Below.{below-step, below-alike, below-some, or-true, or-false}

-- map, key and delegate of an entry of the index are known
pub indexed-known : (es : List KeyedEntry) (links : List Links) (kept : List (Option ℕ)) → IsIndexed es links kept (length es) → AreKnown es kept
indexed-known es links kept h e m = record {
  the_map = known e.the_map (ap (λ b. (b || e.key == e.the_map) || is_it e.the_map e.delegate) (eq-eqb e.the_map e.the_map refl));
  key = known e.key (ap (λ b. (e.the_map == e.key || b) || is_it e.key e.delegate) (eq-eqb e.key e.key refl) ∙ ap (λ b. b || is_it e.key e.delegate) (or-true (e.the_map == e.key)));
  delegate = go e.delegate refl;
}
  where
    known : (k : ℕ) → has_object k e ≡ true → k < length kept
    known k has = let at = below-some es k e m has in known-last kept k at.0 (h.last k ∙ at.1)

    go : (o : Option ℕ) → e.delegate ≡ o → IsBelow (length kept) o
    go None is = tt
    go (Some d) is = known d (ap (λ o. (e.the_map == d || e.key == d) || is_it d o) is ∙ (ap (λ b. (e.the_map == d || e.key == d) || b) (eq-eqb d d refl) ∙ or-true (e.the_map == d || e.key == d)))

-- entries with the same members
abbrev pub AreAlike : KeyedEntry → KeyedEntry → Type 0
AreAlike f e = (f.the_map ≡ e.the_map) × (f.key ≡ e.key) × (f.delegate ≡ e.delegate)

-- the same index of other entries, whose members below are the same
pub indexed-alike : (es fs : List KeyedEntry) (links others : List Links) (kept left : List (Option ℕ)) (n : ℕ) → n ≤ length es → n ≤ length fs →
    ((j : ℕ) (d : KeyedEntry) → j < n → AreAlike (get_or fs j d) (get_or es j d)) →
    ((j : ℕ) (d : Links) → j < n → get_or others j d ≡ get_or links j d) →
    ((k : ℕ) → last_kept left k ≡ last_kept kept k) → IsIndexed es links kept n → IsIndexed fs others left n
indexed-alike es fs links others kept left n el fl same linked last h = record {
  last = λ k. last k ∙ (h.last k ∙ sym (alike k n (omega arith)));
  by_map = λ i e d l.
      ap (λ x. x.by_map) (linked i d l)
      ∙ (h.by_map i e d l ∙ (ap (λ k. place_below es k i) (sym (same i e l).0) ∙ sym (alike (get_or fs i e).the_map i (omega (arith, l)))));
  by_key = λ i e d l.
      ap (λ x. x.by_key) (linked i d l)
      ∙ (h.by_key i e d l ∙ (ap (λ k. place_below es k i) (sym (same i e l).1) ∙ sym (alike (get_or fs i e).key i (omega (arith, l)))));
  by_delegate = λ i e d l.
      ap (λ x. x.by_delegate) (linked i d l)
      ∙ (h.by_delegate i e d l ∙ (ap (λ o. place_of_it es o i) (sym (same i e l).2) ∙ sym (alike-it (get_or fs i e).delegate i (omega (arith, l)))));
}
  where
    has : (k : ℕ) (f e : KeyedEntry) → AreAlike f e → has_object k f ≡ has_object k e
    has k f e a = λ i. ((a.0 i == k) || (a.1 i == k)) || is_it k (a.2 i)

    test : (k j : ℕ) (d : KeyedEntry) → j < n → option_map (has_object k) (slice_get fs j) ≡ option_map (has_object k) (slice_get es j)
    test k j d l =
        ap (option_map (has_object k)) (slice_get-get_or fs j d (omega (arith, l, fl)))
        ∙ (ap Some (has k (get_or fs j d) (get_or es j d) (same j d l))
        ∙ sym (ap (option_map (has_object k)) (slice_get-get_or es j d (omega (arith, l, el)))))

    default : KeyedEntry
    default = record { the_map = 0; key = 0; delegate = None; value = 0 }

    alike : (k m : ℕ) → m ≤ n → place_below fs k m ≡ place_below es k m
    alike k m l = below-alike es fs k m (λ j below. test k j default (omega (arith, below, l)))

    alike-it : (o : Option ℕ) (m : ℕ) → m ≤ n → place_of_it fs o m ≡ place_of_it es o m
    alike-it None m l = refl
    alike-it (Some k) m l = alike k m l

-- One that may be there

with-it : (o place : Option ℕ) (k : ℕ) (old : Option ℕ) → is_it k o ≡ true → kept_with o place k old ≡ place
with-it None place k old e = absurd (false≢true e)
with-it (Some d) place k old e = ap (λ b. if b then place else old) e

with-other : (o place : Option ℕ) (k : ℕ) (old : Option ℕ) → is_it k o ≡ false → kept_with o place k old ≡ old
with-other None place k old e = refl
with-other (Some d) place k old e = ap (λ b. if b then place else old) e

pub it-place : (es : List KeyedEntry) (o : Option ℕ) (k i : ℕ) → is_it k o ≡ true → place_of_it es o i ≡ place_below es k i
it-place es None k i e = absurd (false≢true e)
it-place es (Some d) k i e = ap (λ z. place_below es z i) (eqb-true d k e)

-- the members of an entry with other places
abbrev pub ArePut : List (Option ℕ) → List (Option ℕ) → KeyedEntry → Option ℕ → Option ℕ → Option ℕ → Type 0
ArePut kept left y of_map of_key of_delegate =
    (j : ℕ) → last_kept left j ≡ kept_with y.delegate of_delegate j (if y.key == j then of_key else (if y.the_map == j then of_map else last_kept kept j))

pub puts-all : (kept first second left : List (Option ℕ)) (y : KeyedEntry) (of_map of_key of_delegate : Option ℕ) →
    ((j : ℕ) → last_kept first j ≡ (if y.the_map == j then of_map else last_kept kept j)) →
    ((j : ℕ) → last_kept second j ≡ (if y.key == j then of_key else last_kept first j)) →
    ((j : ℕ) → last_kept left j ≡ kept_with y.delegate of_delegate j (last_kept second j)) → ArePut kept left y of_map of_key of_delegate
puts-all kept first second left y of_map of_key of_delegate one two three j =
    three j ∙ ap (kept_with y.delegate of_delegate j) (two j ∙ ap (λ o. if y.key == j then of_key else o) (one j))

module _ (es : List KeyedEntry) (links : List Links) (kept left : List (Option ℕ)) (i : ℕ) (e : KeyedEntry) (within : i < length es) where
  abbrev it : KeyedEntry
  it = get_or es i e

  abbrev either : ℕ → Bool
  either k = it.the_map == k || it.key == k

  -- the entry at a place is taken out
  pub indexed-before : (d : Links) → IsIndexed es links kept (suc i) → ArePut kept left it (get_or links i d).by_map (get_or links i d).by_key (get_or links i d).by_delegate →
      IsIndexed es links left i
  indexed-before d h put = record {
    last = λ k. put k ∙ go k (is_it k it.delegate) refl (it.key == k) refl (it.the_map == k) refl;
    by_map = λ j f x l. h.by_map j f x (omega (arith, l));
    by_key = λ j f x l. h.by_key j f x (omega (arith, l));
    by_delegate = λ j f x l. h.by_delegate j f x (omega (arith, l));
  }
    where
      go : (k : ℕ) (t : Bool) → is_it k it.delegate ≡ t → (b : Bool) → (it.key == k) ≡ b → (c : Bool) → (it.the_map == k) ≡ c →
          kept_with it.delegate (get_or links i d).by_delegate k (if b then (get_or links i d).by_key else (if c then (get_or links i d).by_map else last_kept kept k)) ≡ place_below es k i
      go k true is b f c g = with-it it.delegate (get_or links i d).by_delegate k _ is ∙ (h.by_delegate i e d (omega arith) ∙ it-place es it.delegate k i is)
      go k false not true same c g = with-other it.delegate (get_or links i d).by_delegate k _ not ∙ (h.by_key i e d (omega arith) ∙ ap (λ z. place_below es z i) (eqb-true _ _ same))
      go k false not false other true same = with-other it.delegate (get_or links i d).by_delegate k _ not ∙ (h.by_map i e d (omega arith) ∙ ap (λ z. place_below es z i) (eqb-true _ _ same))
      go k false not false other false apart =
          with-other it.delegate (get_or links i d).by_delegate k _ not
          ∙ (h.last k ∙ (below-step es k i e within
          ∙ (ap (λ b. cond ((b || it.key == k) || is_it k it.delegate) (Some i) (place_below es k i)) apart
          ∙ (ap (λ b. cond (b || is_it k it.delegate) (Some i) (place_below es k i)) other
          ∙ ap (λ b. cond b (Some i) (place_below es k i)) not))))

  -- it is put in
  pub indexed-after : (link : Links) → i < length links → link.by_map ≡ last_kept kept it.the_map → link.by_key ≡ last_kept kept it.key → link.by_delegate ≡ last_of kept it.delegate →
      IsIndexed es links kept i → ArePut kept left it (Some i) (Some i) (Some i) → IsIndexed es (set links i link) left (suc i)
  indexed-after link room of_map of_key of_delegate h put = record {
    last = λ k. put k ∙ (go k (is_it k it.delegate) refl (it.key == k) refl (it.the_map == k) refl ∙ sym (below-step es k i e within));
    by_map = λ j f x l. ⊎_elim
        (λ t. let same : j ≡ i = t.1 in subst (λ z. (get_or (set links i link) z x).by_map ≡ place_below es (get_or es z f).the_map z) (sym same)
        (ap (λ y. y.by_map) (get_or-set_same links i link x room) ∙ (of_map ∙ (h.last _ ∙ ap (λ y. place_below es y.the_map i) (here f)))))
        (λ t. let apart : ¬ (j ≡ i) = t.1 in ap (λ y. y.by_map) (get_or-set_other links i j link x t.1) ∙ h.by_map j f x (omega (arith, l, apart)))
        (eqb_tells j i);
    by_key = λ j f x l. ⊎_elim
        (λ t. let same : j ≡ i = t.1 in subst (λ z. (get_or (set links i link) z x).by_key ≡ place_below es (get_or es z f).key z) (sym same)
        (ap (λ y. y.by_key) (get_or-set_same links i link x room) ∙ (of_key ∙ (h.last _ ∙ ap (λ y. place_below es y.key i) (here f)))))
        (λ t. let apart : ¬ (j ≡ i) = t.1 in ap (λ y. y.by_key) (get_or-set_other links i j link x t.1) ∙ h.by_key j f x (omega (arith, l, apart)))
        (eqb_tells j i);
    by_delegate = λ j f x l. ⊎_elim
        (λ t. let same : j ≡ i = t.1 in subst (λ z. (get_or (set links i link) z x).by_delegate ≡ place_of_it es (get_or es z f).delegate z) (sym same)
        (ap (λ y. y.by_delegate) (get_or-set_same links i link x room) ∙ (of_delegate ∙ (last-it it.delegate ∙ ap (λ y. place_of_it es y.delegate i) (here f)))))
        (λ t. let apart : ¬ (j ≡ i) = t.1 in ap (λ y. y.by_delegate) (get_or-set_other links i j link x t.1) ∙ h.by_delegate j f x (omega (arith, l, apart)))
        (eqb_tells j i);
  }
    where
      here : (f : KeyedEntry) → get_or es i e ≡ get_or es i f
      here f = one _ _ (sym (slice_get-get_or es i e within) ∙ slice_get-get_or es i f within)
        where
          one : (x y : KeyedEntry) → Some x ≡ Some y → x ≡ y
          one x y q = cc

      last-it : (o : Option ℕ) → last_of kept o ≡ place_of_it es o i
      last-it None = refl
      last-it (Some k) = h.last k

      -- map and key
      two : (k : ℕ) (b : Bool) → (it.key == k) ≡ b → (c : Bool) → (it.the_map == k) ≡ c →
          (if b then Some i else (if c then Some i else last_kept kept k)) ≡ cond (either k) (Some i) (place_below es k i)
      two k b f true same = both b ∙ ap (λ c. cond (c || it.key == k) (Some i) (place_below es k i)) (sym same)
        where
          both : (b : Bool) → (if b then Some i else Some i) ≡ Some i
          both true = refl
          both false = refl
      two k true same false other = ap (λ c. cond c (Some i) (place_below es k i)) (sym same) ∙ ap (λ c. cond (c || it.key == k) (Some i) (place_below es k i)) (sym other)
      two k false apart false other = h.last k ∙ (ap (λ c. cond c (Some i) (place_below es k i)) (sym apart) ∙ ap (λ c. cond (c || it.key == k) (Some i) (place_below es k i)) (sym other))

      go : (k : ℕ) (t : Bool) → is_it k it.delegate ≡ t → (b : Bool) → (it.key == k) ≡ b → (c : Bool) → (it.the_map == k) ≡ c →
          kept_with it.delegate (Some i) k (if b then Some i else (if c then Some i else last_kept kept k)) ≡ cond (has_object k it) (Some i) (place_below es k i)
      go k true is b f c g =
          with-it it.delegate (Some i) k _ is
          ∙ sym (ap (λ t. cond (either k || t) (Some i) (place_below es k i)) is ∙ ap (λ t. cond t (Some i) (place_below es k i)) (or-true (either k)))
      go k false not b f c g =
          with-other it.delegate (Some i) k _ not
          ∙ (two k b f c g
          ∙ sym (ap (λ t. cond (either k || t) (Some i) (place_below es k i)) not ∙ ap (λ t. cond t (Some i) (place_below es k i)) (or-false (either k))))

-- The steps of the code

-- the members of the entry at a place are known
pub known-at : (es : List KeyedEntry) (kept : List (Option ℕ)) (i : ℕ) (x : KeyedEntry) (e : KeyedEntry) → AreKnown es kept → i < length es → x ≡ get_or es i e → IsKnown (length kept) x
known-at es kept i x e h within at =
    subst (IsKnown (length kept)) (sym at) (h (get_or es i e) (Among-contains (get_or es i e) es (Contains-get_or es i e within)))

-- and those of another where one is
pub known-more : (n m : ℕ) (e : KeyedEntry) → n ≤ m → IsKnown n e → IsKnown m e
known-more n m e l h = record { the_map = omega (arith, l, h.the_map); key = omega (arith, l, h.key); delegate = go e.delegate h.delegate }
  where
    go : (o : Option ℕ) → IsBelow n o → IsBelow m o
    go None b = tt
    go (Some d) b = omega (arith, l, b)

pub known-kept : (es : List KeyedEntry) (kept left : List (Option ℕ)) → length left ≡ length kept → AreKnown es kept → AreKnown es left
known-kept es kept left same h e m = subst (λ n. IsKnown n e) (sym same) (h e m)

-- with as many places as another list
pub below-same : (n m : ℕ) (o : Option ℕ) → m ≡ n → IsBelow n o → IsBelow m o
below-same n m o e h = subst (λ z. IsBelow z o) (sym e) h

module _ (es : List KeyedEntry) (links : List Links) (kept first second left : List (Option ℕ)) (i : ℕ) (x e : KeyedEntry) (within : i < length es) (at : x ≡ get_or es i e) where
  pub put-in : (link : Links) → i < length links → link.by_map ≡ last_kept kept x.the_map → link.by_key ≡ last_kept kept x.key → link.by_delegate ≡ last_of kept x.delegate →
      ((j : ℕ) → last_kept first j ≡ (if x.the_map == j then Some i else last_kept kept j)) →
      ((j : ℕ) → last_kept second j ≡ (if x.key == j then Some i else last_kept first j)) →
      ((j : ℕ) → last_kept left j ≡ kept_with x.delegate (Some i) j (last_kept second j)) →
      IsIndexed es links kept i → IsIndexed es (set links i link) left (i + 1)
  put-in link room of_map of_key of_delegate one two three h = subst (IsIndexed es (set links i link) left) (sym (add-one i))
      (indexed-after es links kept left i e within link room (of_map ∙ ap (λ y. last_kept kept y.the_map) at) (of_key ∙ ap (λ y. last_kept kept y.key) at) (of_delegate ∙ ap (λ y. last_of kept y.delegate) at) h
      (subst (λ y. ArePut kept left y (Some i) (Some i) (Some i)) at (puts-all kept first second left x (Some i) (Some i) (Some i) one two three)))

  pub take-out : (d : Links) →
      ((j : ℕ) → last_kept first j ≡ (if x.the_map == j then (get_or links i d).by_map else last_kept kept j)) →
      ((j : ℕ) → last_kept second j ≡ (if x.key == j then (get_or links i d).by_key else last_kept first j)) →
      ((j : ℕ) → last_kept left j ≡ kept_with x.delegate (get_or links i d).by_delegate j (last_kept second j)) →
      IsIndexed es links kept (i + 1) → IsIndexed es links left i
  take-out d one two three h =
      let before = get_or links i d in
      indexed-before es links kept left i e within d (subst (IsIndexed es links kept) (add-one i) h)
      (subst (λ y. ArePut kept left y before.by_map before.by_key before.by_delegate) at (puts-all kept first second left x before.by_map before.by_key before.by_delegate one two three))
