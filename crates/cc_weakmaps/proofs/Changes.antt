-- ENTRIES AND THEIR INDEX, as entries are read, added, replaced and taken out.
use Rattle.std.proofs.Common.{◌≡◌, ℕ, ◌+◌, ◌<◌, ◌≤◌, ◌==◌, zero, suc, Bool, true, false, ◌||◌, List, [], ◌∷◌, ◌++◌, length, get_or, take, Option, Some, None, refl, sym, ◌∙◌, ap, subst, arith, inl, inr, ⊎_elim}
use Rattle.std.specs.Prelude.{remove, IfNone, IsTrue}
use Rattle.std.specs.List.{items_where_true}
use Rattle.std.proofs.Math.ListN.{set}
use Rattle.std.proofs.lemmas.Bool.Decides.{eqb_tells}
use Rattle.std.proofs.lemmas.List.{length_push, length-set, length-take, get_or_append_left, get_or-take, get_or-set_same, get_or-set_other, get_or_default}
use Rattle.cc_lists.specs.Members.{Among}
use Rattle.cc_lists.proofs.Members.{Among-append}
use Rattle.cc_names.specs.declared.number.SKey.{SKey}
use Rattle.cc_weakmaps.specs.Entries.{KeyedEntry, HasOneEach, entry, has_value_in}
use Rattle.cc_weakmaps.specs.Index.{is_it, last_kept, place_below, AreKnown, HasIndex, IsIndexed, IsKept, IsKnown, IsPlaceOf}
use Rattle.cc_weakmaps.specs.Living.{AreLiving}
use Rattle.cc_weakmaps.specs.Places.{StandsAt}
use Rattle.cc_weakmaps.specs.declared.links.Links.{Links}
use Rattle.cc_weakmaps.proofs.Below.{place-has, place-within}
use Rattle.cc_weakmaps.proofs.Indexed.{AreAlike, indexed-alike, indexed-known, it-place, known-more}
use Rattle.cc_weakmaps.proofs.OneEach.{HasOneEach-set, same-map}
use Rattle.cc_weakmaps.proofs.Stands.{absent-set, stands-entry, stands-set, stands-within}

pub if_none-always : {X : Type 0} (o : Option X) (P : Type 0) → P → IfNone o P
if_none-always None P h = h
if_none-always (Some x) P h = tt

-- The chains, as they are read

module _ (es : List KeyedEntry) (links : List Links) (kept : List (Option ℕ)) (h : IsIndexed es links kept (length es)) (object place : ℕ) (there : IsPlaceOf es object place) (e : KeyedEntry) (d : Links) where
  pub next-by_map : (get_or es place e).the_map ≡ object → (get_or links place d).by_map ≡ place_below es object place
  next-by_map same = h.by_map place e d (place-within es object place there) ∙ ap (λ k. place_below es k place) same

  pub next-by_key : (get_or es place e).key ≡ object → (get_or links place d).by_key ≡ place_below es object place
  next-by_key same = h.by_key place e d (place-within es object place there) ∙ ap (λ k. place_below es k place) same

  pub next-by_delegate : ((get_or es place e).the_map == object) ≡ false → ((get_or es place e).key == object) ≡ false → (get_or links place d).by_delegate ≡ place_below es object place
  next-by_delegate map key =
      let x = get_or es place e in
      let it : is_it object x.delegate ≡ true =
      sym (ap (λ b. (b || x.key == object) || is_it object x.delegate) map ∙ ap (λ b. b || is_it object x.delegate) key) ∙ place-has es object place e there in
      h.by_delegate place e d (place-within es object place there) ∙ it-place es x.delegate object place it

-- An entry is written again

-- what is read at a place, whatever stands past the end
pub read-same : (es : List KeyedEntry) (place : ℕ) (d x : KeyedEntry) → place < length es → x ≡ get_or es place x → get_or es place d ≡ x
read-same es place d x within at = get_or_default es place d x within ∙ sym at

-- what stands at a place
pub stands-at : (es : List KeyedEntry) (place : ℕ) (x : KeyedEntry) → place < length es → (j : ℕ) (d : KeyedEntry) → AreAlike x (get_or es place d) → AreAlike (get_or (set es place x) j d) (get_or es j d)
stands-at es place x within j d alike = ⊎_elim
    (λ t. let same : j ≡ place = t.1 in
    subst (λ z. AreAlike (get_or (set es place x) z d) (get_or es z d)) (sym same) (subst (λ y. AreAlike y (get_or es place d)) (sym (get_or-set_same es place x d within)) alike))
    (λ t. let same : get_or (set es place x) j d ≡ get_or es j d = get_or-set_other es place j x d t.1 in
    (ap (λ y. y.the_map) same, ap (λ y. y.key) same, ap (λ y. y.delegate) same))
    (eqb_tells j place)

-- the index stays, where its delegate does
pub index-set : (es : List KeyedEntry) (links : List Links) (kept : List (Option ℕ)) (m k place : ℕ) (x : Option ℕ) (v : ℕ) → StandsAt es m k place →
    ((d : KeyedEntry) → (get_or es place d).delegate ≡ x) → HasIndex es links kept → HasIndex (set es place (entry m k x v)) links kept
index-set es links kept m k place x v s same h =
    let fs = set es place (entry m k x v) in
    record {
      as_many = h.as_many ∙ sym (length-set es place (entry m k x v));
      indexed = subst (IsIndexed fs links kept) (sym (length-set es place (entry m k x v)))
          (indexed-alike es fs links links kept kept (length es) (omega arith) (omega (arith, length-set es place (entry m k x v)))
          (λ j d l.
          let both = same-map m k (get_or es place d) (stands-entry es m k place d s) in
          stands-at es place (entry m k x v) (stands-within es m k place s) j d (sym both.0, sym both.1, sym (same d)))
          (λ j d l. refl) (λ j. refl) h.indexed);
    }

pub kept-set : {before after : Bool} (es : List KeyedEntry) (links : List Links) (kept : List (Option ℕ)) (m k place : ℕ) (x : Option ℕ) (v : ℕ) → StandsAt es m k place →
    (IsTrue after → IsTrue before × ((d : KeyedEntry) → (get_or es place d).delegate ≡ x)) → IsKept es links kept before → IsKept (set es place (entry m k x v)) links kept after
kept-set es links kept m k place x v s tells h = record {
  at_most_one = subst HasOneEach (stands-set es m k place x v s) (HasOneEach-set es m k x v h.at_most_one);
  few = omega (arith, length-set es place (entry m k x v), h.few);
  index = λ is. let f = tells is in index-set es links kept m k place x v s f.1 (h.index f.0);
}

-- An entry is added

module _ (es : List KeyedEntry) (links : List Links) (kept left : List (Option ℕ)) (x : KeyedEntry) (link : Links) (h : HasIndex es links kept) where
  pub added-known : IsKnown (length left) x → length kept ≤ length left → AreKnown (es ++ x ∷ []) left
  added-known known room e m = ⊎_elim
      (λ old. known-more (length kept) (length left) e room (indexed-known es links kept h.indexed e old))
      (λ new. ⊎_elim (λ same. subst (IsKnown (length left)) same known) (λ f. absurd f) new)
      (Among-append e es (x ∷ []) m)

  pub added-indexed : ((k : ℕ) → last_kept left k ≡ last_kept kept k) → IsIndexed (es ++ x ∷ []) (links ++ link ∷ []) left (length es)
  added-indexed same = indexed-alike es (es ++ x ∷ []) links (links ++ link ∷ []) kept left (length es) (omega arith) (omega (arith, length_push es x))
      (λ j d l. let at = get_or_append_left es (x ∷ []) d j l in (ap (λ y. y.the_map) at, ap (λ y. y.key) at, ap (λ y. y.delegate) at))
      (λ j d l. get_or_append_left links (link ∷ []) d j (omega (arith, l, h.as_many))) same h.indexed

  pub added-index : (others : List Links) (put : List (Option ℕ)) → length others ≡ length (links ++ link ∷ []) →
      IsIndexed (es ++ x ∷ []) others put (length es + 1) → HasIndex (es ++ x ∷ []) others put
  added-index others put count indexed = record {
    as_many = omega (arith, count, length_push es x, length_push links link, h.as_many);
    indexed = subst (IsIndexed (es ++ x ∷ []) others put) (sym (length_push es x)) indexed;
  }

pub added-kept : {before after : Bool} (es : List KeyedEntry) (links others : List Links) (kept put : List (Option ℕ)) (x : KeyedEntry) → IsKept es links kept before → length es < 4294967296 →
    has_value_in es x.the_map x.key ≡ false → (IsTrue after → HasIndex (es ++ x ∷ []) others put) → IsKept (es ++ x ∷ []) others put after
added-kept es links others kept put x h few absent index = record {
  at_most_one = subst HasOneEach (absent-set es x.the_map x.key x.delegate x.value absent) (HasOneEach-set es x.the_map x.key x.delegate x.value h.at_most_one);
  few = omega (arith, length_push es x, few);
  index = index;
}

-- Entries are taken out

module _ (es fs : List KeyedEntry) (links : List Links) (left : List (Option ℕ)) where
  pub fewer-known : ((e : KeyedEntry) → Among e fs → Among e es) → AreKnown es left → AreKnown fs left
  fewer-known part h e m = h e (part e m)

  -- the front is as it was
  pub fewer-indexed : (n : ℕ) → n ≤ length es → n ≤ length fs → ((j : ℕ) (d : KeyedEntry) → j < n → get_or fs j d ≡ get_or es j d) → IsIndexed es links left n → IsIndexed fs links left n
  fewer-indexed n el fl same h = indexed-alike es fs links links left left n el fl
      (λ j d l. (ap (λ x. x.the_map) (same j d l), ap (λ x. x.key) (same j d l), ap (λ x. x.delegate) (same j d l))) (λ j d l. refl) (λ k. refl) h

-- with as many links as there are entries left
pub fewer-index : (fs : List KeyedEntry) (links : List Links) (kept : List (Option ℕ)) → length fs ≤ length links → IsIndexed fs links kept (length fs) → HasIndex fs (take (length fs) links) kept
fewer-index fs links kept room h = record {
  as_many = length_take (length fs) links room;
  indexed = indexed-alike fs fs links (take (length fs) links) kept kept (length fs) (omega arith) (omega arith) (λ j d l. (refl, refl, refl))
      (λ j d l. get_or-take (length fs) links j d l) (λ k. refl) h;
}
  where
    length_take : {X : Type 0} (n : ℕ) (xs : List X) → n ≤ length xs → length (take n xs) ≡ n
    length_take zero xs l = refl
    length_take (suc n) [] l = absurd (omega (arith, l))
    length_take (suc n) (x ∷ xs) l = ap suc (length_take n xs (omega (arith, l)))

-- one of them
pub remove-part : {X : Type 0} (xs : List X) (i : ℕ) (x : X) → Among x (remove xs i) → Among x xs
remove-part [] zero x m = m
remove-part [] (suc i) x m = m
remove-part (y ∷ ys) zero x m = inr m
remove-part (y ∷ ys) (suc i) x m = ⊎_elim (λ same. inl same) (λ r. inr (remove-part ys i x r)) m

pub remove-front : {X : Type 0} (xs : List X) (i j : ℕ) (d : X) → j < i → get_or (remove xs i) j d ≡ get_or xs j d
remove-front xs zero j d l = absurd (omega (arith, l))
remove-front [] (suc i) j d l = refl
remove-front (x ∷ xs) (suc i) zero d l = refl
remove-front (x ∷ xs) (suc i) (suc j) d l = remove-front xs i j d (omega (arith, l))

-- a list that begins as another does
pub front-within : {X : Type 0} (n : ℕ) (xs ys : List X) → n ≤ length xs → take n ys ≡ take n xs → n ≤ length ys
front-within n xs ys l same = omega (arith, l, length-take n ys, length-take n xs, ap length same)

pub front-same : {X : Type 0} (n : ℕ) (xs ys : List X) → take n ys ≡ take n xs → (j : ℕ) (d : X) → j < n → get_or ys j d ≡ get_or xs j d
front-same n xs ys same j d l = sym (get_or-take n ys j d l) ∙ (ap (λ zs. get_or zs j d) same ∙ get_or-take n xs j d l)

-- those that do not stay
pub where_true-part : {X : Type 0} (bs : List Bool) (xs : List X) (x : X) → Among x (items_where_true bs xs) → Among x xs
where_true-part [] xs x m = absurd m
where_true-part (b ∷ bs) [] x m = absurd m
where_true-part (true ∷ bs) (y ∷ ys) x m = ⊎_elim (λ same. inl same) (λ r. inr (where_true-part bs ys x r)) m
where_true-part (false ∷ bs) (y ∷ ys) x m = inr (where_true-part bs ys x m)

where_true-fewer : {X : Type 0} (bs : List Bool) (xs : List X) → length (items_where_true bs xs) ≤ length xs
where_true-fewer [] xs = omega arith
where_true-fewer (b ∷ bs) [] = omega arith
where_true-fewer (true ∷ bs) (y ∷ ys) = omega (arith, where_true-fewer bs ys)
where_true-fewer (false ∷ bs) (y ∷ ys) = omega (arith, where_true-fewer bs ys)

module _ (answers : SKey → Bool → Type 0) (es fs : List KeyedEntry) (h : AreLiving answers es fs) where
  pub living-part : (e : KeyedEntry) → Among e fs → Among e es
  living-part e m = where_true-part h.filtered.0 es e (subst (Among e) h.filtered.4 m)

  pub living-fewer : length fs ≤ length es
  living-fewer = omega (arith, ap length h.filtered.4, where_true-fewer h.filtered.0 es)
