-- Chains: the places of the elements that pass a test stay right.
use Rattle.std.proofs.Common.{◌≡◌, ◌≢◌, ℕ, ◌+◌, ◌-◌, ◌<◌, ◌≤◌, suc, Bool, true, false, cond, List, [], ◌∷◌, ◌++◌, length, map, get_or, drop, refl, sym, ◌∙◌, ap, subst, arith, Some, None, length-drop, option_map, inl, inr}
use Rattle.std.specs.Prelude.{Option, IfSome, position, nat_lt, slice_get}
use Rattle.std.proofs.Math.ListN.{set}
use Rattle.std.proofs.lemmas.Bool.{cases_Bool, true≢false, lt-ltb, le-ltb, ltb-true, ltb-false}
use Rattle.std.proofs.lemmas.List.{drop-append-le, get_or-drop, get_or-map, length-map, length-set, length_push, map-set, set-get_or}
use Rattle.std.proofs.lemmas.Option.{slice_get-get_or, slice_get_within, same_Some}
use Rattle.cc_lists.specs.Members.{Among}
use Rattle.cc_lists.proofs.Members.{Among-map}
use Rattle.cc_graph.specs.declared.chain.Chain.{Chain}
use Rattle.cc_graph.specs.Shown.{place_by}
use Rattle.cc_graph.specs.Kept.{IsChain, IsLast, chained, no_chain, with_link}
use Rattle.cc_graph.proofs.Lists.{each-set, each-added, among-at}

-- The first that passes

-- a place one further on, in a list one longer
next-place : (n l : ℕ) → cond (nat_lt (1 + n) (suc l)) (Some (1 + n)) None ≡ option_map suc (cond (nat_lt n l) (Some n) None)
next-place n l = grind (arith, ltb-true, lt-ltb, ltb-false, le-ltb, cases_Bool)

-- by the first element
pub position-cons : {X : Type 0} (p : X → Bool) (x : X) (xs : List X) → position p (x ∷ xs) ≡ cond (p x) (Some 0) (option_map suc (position p xs))
position-cons p x xs = grind (arith, lt-ltb, next-place)

-- a place, or where there is none that of one that stands last, if it passes
abbrev pub or_place : Option ℕ → Bool → ℕ → Option ℕ
or_place (Some k) passes n = Some k
or_place None passes n = cond passes (Some n) None

pub position-pushed : {X : Type 0} (p : X → Bool) (xs : List X) (y : X) → position p (xs ++ y ∷ []) ≡ or_place (position p xs) (p y) (length xs)
position-pushed p [] y = grind (arith, position-cons)
position-pushed p (x ∷ xs) y = grind (arith, position-cons, position-pushed p xs y)

-- where there is none, no element passes
pub position-passed : {X : Type 0} (p : X → Bool) (xs : List X) (k : ℕ) (d : X) → position p xs ≡ None → k < length xs → p (get_or xs k d) ≡ false
position-passed p [] k d e l = absurd (omega (arith, l))
position-passed {X} p (x ∷ xs) k d e l = grind (arith, position-cons, position-passed p xs)

-- where there is one, its element passes
pub position-passes : {X : Type 0} (p : X → Bool) (xs : List X) (k : ℕ) (d : X) → position p xs ≡ Some k → (k < length xs) × (p (get_or xs k d) ≡ true)
position-passes p [] k d e = absurd (cc)
position-passes {X} p (x ∷ xs) k d e = grind (arith, position-cons, position-passes p xs)

-- Places

-- one more element
pub place-pushed : {X : Type 0} (p : X → Bool) (xs : List X) (x : X) (start : ℕ) → start ≤ length xs →
    place_by p (xs ++ x ∷ []) start ≡ or_place (place_by p xs start) (p x) (length xs)
place-pushed p xs x start l = grind (arith, drop-append-le, position-pushed, length-drop)

-- past all there is none
pub place-past : {X : Type 0} (p : X → Bool) (xs : List X) → place_by p xs (length xs) ≡ None
place-past p [] = refl
place-past p (x ∷ xs) = grind (arith, place-past p xs)

-- where there is none from a place on, no element from there on passes
pub place-passed : {X : Type 0} (p : X → Bool) (xs : List X) (start j : ℕ) (d : X) → place_by p xs start ≡ None → start ≤ j → j < length xs → p (get_or xs j d) ≡ false
place-passed p xs start j d none from inside = go (position p (drop start xs)) refl none
  where
    rest : get_or (drop start xs) (j - start) d ≡ get_or xs j d
    rest = get_or-drop start xs (j - start) d ∙ (let at : start + (j - start) ≡ j = omega (arith, from) in ap (λ k. get_or xs k d) at)

    go : (o : Option ℕ) → position p (drop start xs) ≡ o → option_map (λ k. start + k) o ≡ None → p (get_or xs j d) ≡ false
    go (Some k) q h = absurd (cc)
    go None q h = ap p (sym rest) ∙ position-passed p (drop start xs) (j - start) d q (omega (arith, length-drop start xs, from, inside))

-- nor is there one of none
nowhere : {X : Type 0} (p : X → Bool) (start j : ℕ) → Some j ≡ place_by p [] start → ⊥
nowhere p start j e = grind (arith)

-- where there is one, its element passes
pub place-found : {X : Type 0} (p : X → Bool) (xs : List X) (start j : ℕ) (d : X) → start ≤ length xs → place_by p xs start ≡ Some j →
    (start ≤ j) × (j < length xs) × (p (get_or xs j d) ≡ true)
place-found p xs start j d l found = grind (arith, position-passes, get_or-drop, length-drop)

-- the same, as readers see it
pub place-within : {X : Type 0} (p : X → Bool) (xs : List X) (start : ℕ) (o : Option ℕ) → start ≤ length xs → o ≡ place_by p xs start → IfSome o (λ j. j < length xs)
place-within p xs start None l e = tt
place-within p [] start (Some j) l e = absurd (nowhere p start j e)
place-within p (x ∷ xs) start (Some j) l e = (place-found p (x ∷ xs) start j x l (sym e)).1

pub place-passes : {X : Type 0} (p : X → Bool) (xs : List X) (start : ℕ) (o : Option ℕ) → start ≤ length xs → o ≡ place_by p xs start →
    IfSome o (λ j. option_map p (slice_get xs j) ≡ Some true)
place-passes p xs start None l e = tt
place-passes p [] start (Some j) l e = absurd (nowhere p start j e)
place-passes p (x ∷ xs) start (Some j) l e =
    let found = place-found p (x ∷ xs) start j x l (sym e) in ap (option_map p) (slice_get-get_or (x ∷ xs) j x found.1) ∙ ap Some found.2

pub place-behind : {X : Type 0} (p : X → Bool) (xs : List X) (j : ℕ) (o : Option ℕ) → j + 1 ≤ length xs → o ≡ place_by p xs (j + 1) → IfSome o (λ k. j < k)
place-behind p xs j o l e = grind (arith, place-found)

-- an element that passes is one of those that there are
pub passes-within : {X : Type 0} (p : X → Bool) (xs : List X) (j : ℕ) → option_map p (slice_get xs j) ≡ Some true → j < length xs
passes-within p xs j e = grind (arith, slice_get_within)

-- where no element passes there is none
pub place-none : {X : Type 0} (p : X → Bool) (xs : List X) → ((x : X) → Among x xs → p x ≡ false) → place_by p xs 0 ≡ None
place-none p xs others = ap (option_map (λ k. 0 + k)) (go xs others)
  where
    go : (ys : List _) → ((x : _) → Among x ys → p x ≡ false) → position p ys ≡ None
    go [] h = refl
    go (y ∷ ys) h =
        position-cons p y ys
        ∙ (ap (λ b. cond b (Some 0) (option_map suc (position p ys))) (h y (inl refl))
        ∙ ap (option_map suc) (go ys (λ x m. h x (inr m))))

-- The last

-- it is one of those that there are,
pub last-within : {X : Type 0} (p : X → Bool) (xs : List X) (o : Option ℕ) → IsLast p xs o → IfSome o (λ l. l < length xs)
last-within p xs o h = grind (arith, passes-within)

-- and passes
pub last-passes : {X : Type 0} (p : X → Bool) (xs : List X) (l : ℕ) (d : X) → IsLast p xs (Some l) → p (get_or xs l d) ≡ true
last-passes p xs l d h =
    let inside : l < length xs = last-within p xs (Some l) h in
    let read : option_map p (Some (get_or xs l d)) ≡ Some true = ap (option_map p) (sym (slice_get-get_or xs l d inside)) ∙ h.0 in
    cc

-- one that passes and behind which none does is the last
pub last-only : {X : Type 0} (p : X → Bool) (xs : List X) (j : ℕ) (d : X) (o : Option ℕ) → IsLast p xs o → j < length xs → p (get_or xs j d) ≡ true →
    place_by p xs (j + 1) ≡ None → o ≡ Some j
last-only p xs j d None h inside passes none = absurd (true≢false (sym passes ∙ place-passed p xs 0 j d h (omega arith) inside))
last-only p xs j d (Some l) h inside passes none =
    let there : l < length xs = last-within p xs (Some l) h in
    let before : ¬ (l < j) = λ less. true≢false (sym passes ∙ place-passed p xs (l + 1) j d h.1 (omega (arith, less)) inside) in
    let behind : ¬ (j < l) = λ more. true≢false (sym (last-passes p xs l d h) ∙ place-passed p xs (j + 1) l d none (omega (arith, more)) there) in
    let at : l ≡ j = omega (arith, before, behind) in
    ap Some at

-- One more element

slice-front : {X : Type 0} (xs : List X) (y : X) (k : ℕ) → k < length xs → slice_get (xs ++ y ∷ []) k ≡ slice_get xs k
slice-front (x ∷ xs) y (suc k) l = slice-front xs y k (omega (arith, l))
slice-front xs y k l = grind (arith)

slice-last : {X : Type 0} (xs : List X) (y : X) → slice_get (xs ++ y ∷ []) (length xs) ≡ Some y
slice-last [] y = refl
slice-last (x ∷ xs) y = slice-last xs y

-- that does not pass changes nothing;
place-other : {X : Type 0} (p : X → Bool) (xs : List X) (x : X) (start : ℕ) → start ≤ length xs → p x ≡ false → place_by p (xs ++ x ∷ []) start ≡ place_by p xs start
place-other p xs x start l other = grind (arith, place-pushed)

last-other : {X : Type 0} (p : X → Bool) (xs : List X) (x : X) (o : Option ℕ) → IsLast p xs o → p x ≡ false → IsLast p (xs ++ x ∷ []) o
last-other p xs x None h other = place-other p xs x 0 (omega arith) other ∙ h
last-other p xs x (Some l) h other =
    let inside : l < length xs = last-within p xs (Some l) h in
    (ap (option_map p) (slice-front xs x l inside) ∙ h.0, place-other p xs x (l + 1) (omega (arith, inside)) other ∙ h.1)

-- that passes is the next where there was none, and the last
place-new : {X : Type 0} (p : X → Bool) (xs : List X) (x : X) (start : ℕ) → start ≤ length xs → p x ≡ true →
    place_by p (xs ++ x ∷ []) start ≡ or_place (place_by p xs start) true (length xs)
place-new p xs x start l passes = place-pushed p xs x start l ∙ ap (λ b. or_place (place_by p xs start) b (length xs)) passes

last-new : {X : Type 0} (p : X → Bool) (xs : List X) (x : X) → p x ≡ true → IsLast p (xs ++ x ∷ []) (Some (length xs))
last-new p xs x passes = (
  ap (option_map p) (slice-last xs x) ∙ ap Some passes,
  subst (λ n. place_by p (xs ++ x ∷ []) n ≡ None) (length_push xs x) (place-past p (xs ++ x ∷ [])),
)

-- One element is linked to the next

module _ {I : Type 0} (set_next : I → ℕ → I) where
  with_link-at : (is : List I) (l n : ℕ) (d : I) → l < length is → with_link set_next is (Some l) n ≡ set is l (set_next (get_or is l d) n)
  with_link-at is l n d inside = ap (λ o. elim o [ None ↦ is | Some r ↦ set is l (set_next r n) ]) (slice_get-get_or is l d inside)

  pub length-with_link : (is : List I) (o : Option ℕ) (n : ℕ) → length (with_link set_next is o n) ≡ length is
  length-with_link is o n = grind (arith, length-set)

  -- which makes no difference to what is shown
  pub shown-with_link : {X : Type 0} (shown : I → X) → ((r : I) (n : ℕ) → shown (set_next r n) ≡ shown r) → (is : List I) (o : Option ℕ) (n : ℕ) →
      map shown (with_link set_next is o n) ≡ map shown is
  shown-with_link shown same is None n = refl
  shown-with_link shown same is (Some l) n = go (slice_get is l) refl
    where
      go : (r : Option I) → slice_get is l ≡ r → map shown (elim r [ None ↦ is | Some s ↦ set is l (set_next s n) ]) ≡ map shown is
      go None e = refl
      go (Some s) e =
          let inside : l < length is = slice_get_within is l s e in
          let here : s ≡ get_or is l s = same_Some _ _ (sym e ∙ slice_get-get_or is l s inside) in
          map-set shown is l (set_next s n)
          ∙ (ap (set (map shown is) l) (same s n ∙ (ap shown here ∙ sym (get_or-map shown is l s (shown s) inside)))
          ∙ set-get_or (map shown is) l (shown s))

-- Chains

module _ {X I : Type 0} (shown : I → X) (p : X → Bool) (next : I → Option ℕ) where
  -- what an element's link is, where it passes
  abbrev IsLinked : List X → ℕ → I → Type 0
  IsLinked xs j r = p (shown r) ≡ true → next r ≡ place_by p xs (j + 1)

  -- where no element passes there is no chain,
  pub chain-none : (is : List I) → ((x : X) → Among x (map shown is) → p x ≡ false) → IsChain shown p next (map shown is) is no_chain
  chain-none is others = record {
    first = sym (place-none p (map shown is) others);
    last = place-none p (map shown is) others;
    links = λ j d l passes. absurd (true≢false (sym passes ∙ others (shown (get_or is j d)) (Among-map shown (get_or is j d) is (among-at is j d l))));
  }

  -- and one that does not pass changes none
  pub chain-other : (xs : List X) (is : List I) (c : Chain) (x : X) → IsChain shown p next xs is c → length is ≤ length xs → p x ≡ false → IsChain shown p next (xs ++ x ∷ []) is c
  chain-other xs is c x h few other = record {
    first = h.first ∙ sym (place-other p xs x 0 (omega arith) other);
    last = last-other p xs x c.last h.last other;
    links = λ j d l passes. h.links j d l passes ∙ sym (place-other p xs x (j + 1) (omega (arith, l, few)) other);
  }

  -- an element comes that was shown already
  pub chain-pushed : (xs : List X) (is : List I) (c : Chain) (y : I) → IsChain shown p next xs is c → length xs ≡ length is + 1 → next y ≡ None →
      IsChain shown p next xs (is ++ y ∷ []) c
  chain-pushed xs is c y h longer none = record {
    first = h.first;
    last = h.last;
    links = each-added (IsLinked xs) is y h.links (λ passes. none ∙ sym (subst (λ n. place_by p xs n ≡ None) longer (place-past p xs)));
  }

  module _ (set_next : I → ℕ → I) (same : (r : I) (n : ℕ) → shown (set_next r n) ≡ shown r) where
    -- an element is linked to the next one of another chain
    pub chain-linked : (xs : List X) (is : List I) (c : Chain) (o : Option ℕ) (n : ℕ) → IsChain shown p next xs is c →
        ((l : ℕ) (r : I) → o ≡ Some l → slice_get is l ≡ Some r → p (shown r) ≡ true → next (set_next r n) ≡ next r) →
        IsChain shown p next xs (with_link set_next is o n) c
    chain-linked xs is c None n h kept = h
    chain-linked xs is c (Some l) n h kept = go (slice_get is l) refl
      where
        go : (r : Option I) → slice_get is l ≡ r → IsChain shown p next xs (elim r [ None ↦ is | Some s ↦ set is l (set_next s n) ]) c
        go None e = h
        go (Some s) e =
            let inside : l < length is = slice_get_within is l s e in
            let here : s ≡ get_or is l s = same_Some _ _ (sym e ∙ slice_get-get_or is l s inside) in
            record {
              first = h.first;
              last = h.last;
              links = each-set (IsLinked xs) is l (set_next s n) inside
                  (λ passes.
                  let passed : p (shown s) ≡ true = ap p (sym (same s n)) ∙ passes in
                  kept l s refl e passed ∙ (ap next here ∙ h.links l s inside (ap (λ r. p (shown r)) (sym here) ∙ passed)))
                  (λ j d m apart. h.links j d m);
            }

    -- the last one is linked to a new one, which passes
    pub chain-new : (is : List I) (c : Chain) (x : X) (n : ℕ) → IsChain shown p next (map shown is) is c → p x ≡ true → n ≡ length is →
        ((r : I) (n : ℕ) → next (set_next r n) ≡ Some n) → IsChain shown p next (map shown is ++ x ∷ []) (with_link set_next is c.last n) (chained c n)
    chain-new is c x n h passes count new = record {
      first = begins c.first (place_by p (map shown is) 0) h.first ∙ sym (place-new p (map shown is) x 0 (omega arith) passes);
      last = subst (λ m. IsLast p (map shown is ++ x ∷ []) (Some m)) (sym shown_count) (last-new p (map shown is) x passes);
      links = linked c.last h.last;
    }
      where
        shown_count : n ≡ length (map shown is)
        shown_count = omega (arith, count, length-map is shown)

        begins : (o q : Option ℕ) → o ≡ q → elim o [ Some i ↦ Some i | None ↦ Some n ] ≡ or_place q true (length (map shown is))
        begins o None f = ap (λ z. elim z [ Some i ↦ Some i | None ↦ Some n ]) f ∙ ap Some shown_count
        begins o (Some k) f = ap (λ z. elim z [ Some i ↦ Some i | None ↦ Some n ]) f

        at : (j : ℕ) (d : I) → j < length is → get_or (map shown is) j (shown d) ≡ shown (get_or is j d)
        at j d l = get_or-map shown is j d (shown d) l

        -- one that is not the last keeps its next
        stays : (o : Option ℕ) → IsLast p (map shown is) o → (j : ℕ) (d : I) → j < length is → o ≢ Some j → IsLinked (map shown is ++ x ∷ []) j (get_or is j d)
        stays o last j d l apart passed =
            h.links j d l passed
            ∙ (go (place_by p (map shown is) (j + 1)) refl
            ∙ sym (place-new p (map shown is) x (j + 1) (omega (arith, l, length-map is shown)) passes))
          where
            go : (q : Option ℕ) → place_by p (map shown is) (j + 1) ≡ q → q ≡ or_place q true (length (map shown is))
            go None e = absurd (apart (last-only p (map shown is) j (shown d) o last (omega (arith, l, length-map is shown)) (ap p (at j d l) ∙ passed) e))
            go (Some k) e = refl

        linked : (o : Option ℕ) → IsLast p (map shown is) o → (j : ℕ) (d : I) → j < length (with_link set_next is o n) →
            IsLinked (map shown is ++ x ∷ []) j (get_or (with_link set_next is o n) j d)
        linked None last j d l = stays None last j d l (λ e. absurd (cc))
        linked (Some l) last j d m =
            let there : l < length (map shown is) = last-within p (map shown is) (Some l) last in
            let inside : l < length is = omega (arith, there, length-map is shown) in
            subst (λ ys. IsLinked (map shown is ++ x ∷ []) j (get_or ys j d)) (sym (with_link-at set_next is l n d inside))
            (each-set (IsLinked (map shown is ++ x ∷ [])) is l (set_next (get_or is l d) n) inside
            (λ passed.
            new (get_or is l d) n
            ∙ (ap Some shown_count
            ∙ (ap (λ q. or_place q true (length (map shown is))) (sym last.1)
            ∙ sym (place-new p (map shown is) x (l + 1) (omega (arith, there)) passes))))
            (λ k e less other. stays (Some l) last k e less (λ s. other (sym (same_Some _ _ s)))) j d
            (omega (arith, m, length-with_link set_next is (Some l) n, length-set is l (set_next (get_or is l d) n))))
