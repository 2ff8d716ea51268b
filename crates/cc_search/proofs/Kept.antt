-- WHAT IS KEPT OF THE STEPS: an object is found exactly where its place is kept, also after one more is found, and after the
-- last is forgotten.
use Rattle.std.specs.Prelude.{slice_get, if◌then◌else◌}
use Rattle.std.proofs.Common.{◌≡◌, ℕ, zero, suc, ◌==◌, ◌<◌, Bool, true, false, cond, List, [], ◌∷◌, ◌++◌, length, Option, Some, None, is_some, refl, sym, ◌∙◌, ap, subst, inl, inr, ◌⊎◌, ⊎_elim, arith, length-append}
use Rattle.std.proofs.lemmas.Bool.{true≢false, eqb-true, eq-eqb}
use Rattle.std.proofs.lemmas.List.{take-append-drop, take-append-le, drop-append-le}
use Rattle.cc_lists.specs.Members.{has}
use Rattle.cc_lists.proofs.CountsOf.{false-left}
use Rattle.cc_lists.proofs.Members.{Among-map, Among-map_cases, has-among, has-there}
use Rattle.cc_lists.proofs.Places.{among-place, place-among}
use Rattle.cc_names.specs.declared.name.Name.{Name}
use Rattle.cc_names.specs.Names.{same_name}
use Rattle.cc_names.proofs.NameTests.{same_name-true, same_name-exact}
use Rattle.cc_model.specs.declared.item.Reason.{Reason}
use Rattle.cc_model.specs.Answers.{Step}
use Rattle.cc_model.specs.Derivations.{Walk, is_found, named, steps_of, with_step}
use Rattle.cc_pages.specs.declared.by_name.ByName.{ByName}
use Rattle.cc_pages.specs.ByName.{place_of}
use Rattle.cc_search.specs.Found.{IsKept, is_place, walk_by}

pub walk_by-steps : (n : ℕ) (ss : List Step) → steps_of (walk_by n ss) ≡ ss
walk_by-steps n ss = take-append-drop n ss

-- two tests that follow from each other are the same
pub same-tests : (a b : Bool) → (a ≡ true → b ≡ true) → (b ≡ true → a ≡ true) → a ≡ b
same-tests a b f g = grind arith

-- Places in a list of which one more goes last

pub get-within : {X : Type 0} (xs : List X) (i : ℕ) (x : X) → slice_get xs i ≡ Some x → i < length xs
get-within [] i x e = absurd (cc)
get-within (y ∷ xs) zero x e = omega arith
get-within (y ∷ xs) (suc i) x e = let l = get-within xs i x e in omega arith

get-front : {X : Type 0} (xs : List X) (y : X) (i : ℕ) (x : X) → slice_get xs i ≡ Some x → slice_get (xs ++ y ∷ []) i ≡ Some x
get-front [] y i x e = absurd (cc)
get-front (z ∷ xs) y zero x e = e
get-front (z ∷ xs) y (suc i) x e = get-front xs y i x e

get-last : {X : Type 0} (xs : List X) (y : X) → slice_get (xs ++ y ∷ []) (length xs) ≡ Some y
get-last [] y = refl
get-last (z ∷ xs) y = get-last xs y

get-cases : {X : Type 0} (xs : List X) (y : X) (i : ℕ) (x : X) → slice_get (xs ++ y ∷ []) i ≡ Some x → (slice_get xs i ≡ Some x) ⊎ ((i ≡ length xs) × (y ≡ x))
get-cases [] y zero x e = inr (refl, cc)
get-cases [] y (suc i) x e = absurd (cc)
get-cases (z ∷ xs) y zero x e = inl e
get-cases (z ∷ xs) y (suc i) x e = ⊎_elim (λ a. inl a) (λ b. inr (ap suc b.0, b.1)) (get-cases xs y i x e)

-- what has no place
pub none-kept : (table : ByName) (x : Name) → is_some (place_of table x) ≡ false → place_of table x ≡ None
none-kept table x e = go (place_of table x) e
  where
    go : (o : Option ℕ) → is_some o ≡ false → o ≡ None
    go None k = refl
    go (Some i) k = absurd (true≢false k)

-- AN OBJECT IS FOUND where its place is kept
step-found : (ss : List Step) (i : ℕ) (x : Name) (r : Reason) → slice_get ss i ≡ Some (x, r) → has same_name (named ss) x ≡ true
step-found ss i x r e = has-there same_name same_name-exact (named ss) x (Among-map (λ (s : Step). s.0) (x, r) ss (place-among (x, r) ss i e))

found-step : (ss : List Step) (x : Name) → has same_name (named ss) x ≡ true → (i : ℕ) × (s : Step) × (slice_get ss i ≡ Some s) × (s.0 ≡ x)
found-step ss x e =
    let m = Among-map_cases (λ (s : Step). s.0) ss x (has-among same_name same_name-exact (named ss) x e) in
    let p = among-place m.0 ss m.1 in
    (p.0, m.0, p.1, m.2)

place-found : (n : ℕ) (ss : List Step) (table : ByName) → IsKept n ss table → (x : Name) → is_some (place_of table x) ≡ has same_name (named ss) x
place-found n ss table kept x = same-tests (is_some (place_of table x)) (has same_name (named ss) x)
    (λ t. go (place_of table x) refl t)
    (λ t.
    let f = found-step ss x t in
    ap is_some (subst (λ y. place_of table y ≡ Some f.0) f.3 (kept.there f.0 f.1 f.2)))
  where
    go : (o : Option ℕ) → place_of table x ≡ o → is_some o ≡ true → has same_name (named ss) x ≡ true
    go None e t = absurd (true≢false (sym t))
    go (Some i) e t = let f = kept.found x i e in step-found ss i x f.0 f.1

pub kept-found : (n : ℕ) (ss : List Step) (table : ByName) (w : Walk) → IsKept n ss table → walk_by n ss ≡ w → (x : Name) → is_some (place_of table x) ≡ is_found w x
kept-found n ss table w kept e x =
    place-found n ss table kept x ∙ (ap (λ ts. has same_name (named ts) x) (sym (walk_by-steps n ss)) ∙ ap (λ v. is_found v x) e)

-- THE PLACE OF AN OBJECT is that of the one step with it
place-of : (n : ℕ) (ss : List Step) (table : ByName) → IsKept n ss table → (x : Name) (o : Option ℕ) → place_of table x ≡ o →
    (i : ℕ) (s : Step) → slice_get ss i ≡ Some s → same_name x s.0 ≡ is_place o i
place-of n ss table kept x None e i s at = false-left (same_name x s.0)
    (λ t. let there : place_of table x ≡ Some i = subst (λ y. place_of table y ≡ Some i) (sym (same_name-true x s.0 t)) (kept.there i s at) in absurd (cc))
place-of n ss table kept x (Some k) e i s at = same-tests (same_name x s.0) (k == i)
    (λ t.
    let there : place_of table x ≡ Some i = subst (λ y. place_of table y ≡ Some i) (sym (same_name-true x s.0 t)) (kept.there i s at) in
    let same : k ≡ i = cc in
    eq-eqb k i same)
    (λ t.
    let f = kept.found x k e in
    let same : k ≡ i = eqb-true k i t in
    let here : slice_get ss i ≡ Some (x, f.0) = subst (λ j. slice_get ss j ≡ Some (x, f.0)) same f.1 in
    let one : s ≡ (x, f.0) = cc in
    (same_name-exact x s.0).1 (sym (ap (λ (q : Step). q.0) one)))

pub kept-place : (n : ℕ) (ss : List Step) (table : ByName) (w : Walk) → IsKept n ss table → walk_by n ss ≡ w → (x : Name) (o : Option ℕ) → place_of table x ≡ o →
    (i : ℕ) (s : Step) → slice_get (steps_of w) i ≡ Some s → same_name x s.0 ≡ is_place o i
kept-place n ss table w kept e x o place i s at =
    place-of n ss table kept x o place i s (subst (λ ts. slice_get ts i ≡ Some s) (sym (ap steps_of e) ∙ walk_by-steps n ss) at)

pub kept-within : (n : ℕ) (ss : List Step) (table : ByName) (w : Walk) → IsKept n ss table → walk_by n ss ≡ w → (x : Name) (i : ℕ) → place_of table x ≡ Some i →
    i < length (steps_of w)
kept-within n ss table w kept e x i place =
    let f = kept.found x i place in
    subst (λ ts. i < length ts) (sym (walk_by-steps n ss) ∙ ap steps_of e) (get-within ss i (x, f.0) f.1)

-- ONE MORE IS FOUND

-- the table after an object got a place
abbrev pub IsPut : ByName → ByName → Name → Option ℕ → Type 0
IsPut old new x o = (y : Name) → place_of new y ≡ (if same_name x y then o else place_of old y)

put-same : (old new : ByName) (x y : Name) (o : Option ℕ) → IsPut old new x o → same_name x y ≡ true → place_of new y ≡ o
put-same old new x y o put e = put y ∙ ap (λ b. cond b o (place_of old y)) e

put-other : (old new : ByName) (x y : Name) (o : Option ℕ) → IsPut old new x o → same_name x y ≡ false → place_of new y ≡ place_of old y
put-other old new x y o put e = put y ∙ ap (λ b. cond b o (place_of old y)) e

pub kept-added : (n : ℕ) (ss : List Step) (old new : ByName) (x : Name) (r : Reason) → IsKept n ss old → place_of old x ≡ None → IsPut old new x (Some (length ss)) →
    IsKept n (ss ++ (x, r) ∷ []) new
kept-added n ss old new x r kept none put = record {
  walked = omega (arith, kept.walked, length-append ss ((x, r) ∷ []));
  there = λ i s at. ⊎_elim
      (λ front.
      let other : same_name x s.0 ≡ false = false-left (same_name x s.0) (λ t.
      let there : place_of old x ≡ Some i = subst (λ y. place_of old y ≡ Some i) (sym (same_name-true x s.0 t)) (kept.there i s front) in
      absurd (cc)) in
      put-other old new x s.0 (Some (length ss)) put other ∙ kept.there i s front)
      (λ last.
      put-same old new x s.0 (Some (length ss)) put ((same_name-exact x s.0).1 (ap (λ (q : Step). q.0) last.1)) ∙ ap Some (sym last.0))
      (get-cases ss (x, r) i s at);
  found = λ y i e. found y i e (same_name x y) refl;
}
  where
    found : (y : Name) (i : ℕ) → place_of new y ≡ Some i → (b : Bool) → same_name x y ≡ b → (q : Reason) × (slice_get (ss ++ (x, r) ∷ []) i ≡ Some (y, q))
    found y i e true t =
        let place : Some (length ss) ≡ Some i = sym (put-same old new x y (Some (length ss)) put t) ∙ e in
        let here : length ss ≡ i = cc in
        let name = same_name-true x y t in
        (r, subst (λ j. slice_get (ss ++ (x, r) ∷ []) j ≡ Some (y, r)) here (get-last ss (x, r) ∙ ap (λ z. Some (z, r)) name))
    found y i e false t =
        let f = kept.found y i (sym (put-other old new x y (Some (length ss)) put t) ∙ e) in
        (f.0, get-front ss (x, r) i (y, f.0) f.1)

-- what is new goes last
pub kept-walk : (n : ℕ) (ss : List Step) (table : ByName) (w : Walk) (x : Name) (r : Reason) → IsKept n ss table → walk_by n ss ≡ w → place_of table x ≡ None →
    walk_by n (ss ++ (x, r) ∷ []) ≡ with_step w x r
kept-walk n ss table w x r kept e none =
    (λ i. record { walked = take-append-le n ss ((x, r) ∷ []) kept.walked i; waiting = drop-append-le n ss ((x, r) ∷ []) kept.walked i })
    ∙ (ap (λ (v : Walk). record v { waiting = v.waiting ++ (x, r) ∷ [] }) e
    ∙ ap (λ b. elim b [ true ↦ w | false ↦ record w { waiting = w.waiting ++ (x, r) ∷ [] } ]) (ap is_some (sym none) ∙ kept-found n ss table w kept e x))

-- what is not found has no place
pub kept-absent : (n : ℕ) (ss : List Step) (table : ByName) (w : Walk) (x : Name) → IsKept n ss table → walk_by n ss ≡ w → is_found w x ≡ false → place_of table x ≡ None
kept-absent n ss table w x kept e new = none-kept table x (kept-found n ss table w kept e x ∙ new)

-- the same places are kept
pub kept-alike : (n : ℕ) (ss : List Step) (old new : ByName) → ((y : Name) → place_of new y ≡ place_of old y) → IsKept n ss old → IsKept n ss new
kept-alike n ss old new same kept = record {
  walked = kept.walked;
  there = λ i s at. same s.0 ∙ kept.there i s at;
  found = λ x i e. kept.found x i (sym (same x) ∙ e);
}

-- THE LAST IS FORGOTTEN
pub kept-popped : (ss rest : List Step) (old new : ByName) (s : Step) → ss ≡ rest ++ s ∷ [] → IsKept 0 ss old → IsPut old new s.0 None → IsKept 0 rest new
kept-popped ss rest old new s popped kept put = record {
  walked = omega arith;
  there = λ i t at.
      let other : same_name s.0 t.0 ≡ false = false-left (same_name s.0 t.0) (λ e.
      let here : place_of old t.0 ≡ Some i = there i t at in
      let last : place_of old t.0 ≡ Some (length rest) = subst (λ y. place_of old y ≡ Some (length rest)) (same_name-true s.0 t.0 e) at_last in
      let same : i ≡ length rest = cc in
      absurd (omega (arith, get-within rest i t at))) in
      put-other old new s.0 t.0 None put other ∙ there i t at;
  found = λ y i e. found y i e (same_name s.0 y) refl;
}
  where
    whole : (i : ℕ) → slice_get ss i ≡ slice_get (rest ++ s ∷ []) i
    whole i = ap (λ ts. slice_get ts i) popped

    there : (i : ℕ) (t : Step) → slice_get rest i ≡ Some t → place_of old t.0 ≡ Some i
    there i t at = kept.there i t (whole i ∙ get-front rest s i t at)

    at_last : place_of old s.0 ≡ Some (length rest)
    at_last = kept.there (length rest) s (whole (length rest) ∙ get-last rest s)

    found : (y : Name) (i : ℕ) → place_of new y ≡ Some i → (b : Bool) → same_name s.0 y ≡ b → (q : Reason) × (slice_get rest i ≡ Some (y, q))
    found y i e true t = let none : None ≡ Some i = sym (put-same old new s.0 y None put t) ∙ e in absurd (cc)
    found y i e false t =
        let f = kept.found y i (sym (put-other old new s.0 y None put t) ∙ e) in (
          f.0,
          ⊎_elim (λ a. a) (λ b.
              absurd (true≢false (sym ((same_name-exact s.0 y).1 (ap (λ (q : Step). q.0) b.1)) ∙ t)))
              (get-cases rest s i (y, f.0) (sym (whole i) ∙ f.1)),
        )
