-- A VALUE THAT IS PUT, or taken away, is that of its number alone.
use Rattle.std.specs.Prelude.{Vec}
use Rattle.std.proofs.Common.{◌≡◌, ◌≢◌, ℕ, ◌/◌, ◌%◌, ◌<◌, ◌≤◌, ◌==◌, List, [], ◌∷◌, length, get_or, set, slice_get, zero, suc, Option, None, option_and_then, if◌then◌else◌, refl, sym, ◌∙◌, ap, subst, ⊎_elim, arith}
use Rattle.std.proofs.lemmas.Bool.{cases_lt, eq-eqb, ne_eqb}
use Rattle.std.proofs.lemmas.Bool.Decides.{eqb_tells}
use Rattle.cc_pages.specs.Values.{HasEmpty, in_group, in_groups, in_page}
use Rattle.cc_pages.proofs.Places.{read-at, read-written, read-other, read-added}

-- In a page

-- past its end no place has a value,
pub page-past : (os : List (Option ℕ)) (i : ℕ) → length os ≤ i → get_or os i None ≡ None
page-past [] i past = refl
page-past (o ∷ os) zero past = absurd (omega (arith, past))
page-past (o ∷ os) (suc i) past = page-past os i (omega (arith, past))

-- so a page that is filled up with none has the values that it had,
pub page-filled : (os ns : List (Option ℕ)) (n : ℕ) → length os ≤ n → length ns ≡ n → ((k : ℕ) (d : Option ℕ) → k < length os → get_or ns k d ≡ get_or os k d) →
    ((k : ℕ) (d : Option ℕ) → length os ≤ k → k < n → get_or ns k d ≡ None) → (i : ℕ) → get_or ns i None ≡ get_or os i None
page-filled os ns n more count same none i = ⊎_elim
    (λ l. same i None l)
    (λ past. ⊎_elim
    (λ l. none i None past l ∙ sym (page-past os i past))
    (λ end. page-past ns i (omega (arith, count, end)) ∙ sym (page-past os i past))
    (cases_lt i n))
    (cases_lt i (length os))

pub chosen : {A : Type 0} (place : ℕ) (x y : A) → (if place == place then x else y) ≡ x
chosen place x y = rw (eq-eqb place place refl) refl

pub passed : {A : Type 0} (place i : ℕ) (x y : A) → i ≢ place → (if place == i then x else y) ≡ y
passed place i x y other = rw (ne_eqb place i (λ e. other (sym e))) refl

-- In a group

module _ {Z : Type 0} (ps : List (Vec (Option ℕ) Z)) (k place : ℕ) (o : Option ℕ) (d y : Vec (Option ℕ) Z) (inside : k < length ps) (here : d ≡ get_or ps k d)
    (put : (i : ℕ) → in_page y i ≡ (if place == i then o else in_page d i)) where
  pub group-here : in_group (set ps k y) k place ≡ o
  group-here = read-written (λ (p : Vec (Option ℕ) Z). in_page p place) ps k y inside ∙ (put place ∙ chosen place o (in_page d place))

  pub group-others : (j i : ℕ) → (j ≡ k → i ≡ place → ⊥) → in_group (set ps k y) j i ≡ in_group ps j i
  group-others j i other = ⊎_elim
      (λ t. subst (λ l. in_group (set ps k y) l i ≡ in_group ps l i) (sym t.1)
      (read-written (λ (p : Vec (Option ℕ) Z). in_page p i) ps k y inside
      ∙ (put i ∙ (passed place i o (in_page d i) (λ e. other t.1 e) ∙ sym (read-at (λ (p : Vec (Option ℕ) Z). in_page p i) ps k d inside here)))))
      (λ f. read-other (λ (p : Vec (Option ℕ) Z). in_page p i) ps k j y f.1)
      (eqb_tells j k)

-- a page that stays as it was in place of itself
pub group-kept : {Z : Type 0} (ps : List (Vec (Option ℕ) Z)) (k : ℕ) (d y : Vec (Option ℕ) Z) → k < length ps → d ≡ get_or ps k d → ((i : ℕ) → in_page y i ≡ in_page d i) →
    (j i : ℕ) → in_group (set ps k y) j i ≡ in_group ps j i
group-kept {Z = Z} ps k d y inside here same j i = ⊎_elim
    (λ t. subst (λ l. in_group (set ps k y) l i ≡ in_group ps l i) (sym t.1)
    (read-written (λ (p : Vec (Option ℕ) Z). in_page p i) ps k y inside ∙ (same i ∙ sym (read-at (λ (p : Vec (Option ℕ) Z). in_page p i) ps k d inside here))))
    (λ f. read-other (λ (p : Vec (Option ℕ) Z). in_page p i) ps k j y f.1)
    (eqb_tells j k)

-- empty pages have no value
pub group-added : {Z : Type 0} (ps qs : List (Vec (Option ℕ) Z)) → HasEmpty ps qs → (k i : ℕ) → in_group qs k i ≡ in_group ps k i
group-added {Z = Z} ps qs added k i = read-added (λ (p : Vec (Option ℕ) Z). in_page p i) (λ p e. ap (λ (os : List (Option ℕ)). get_or os i None) e) ps qs added k

-- In all groups

-- a number is its group, its page and its place
same-number : (n m : ℕ) → n / 128 / 64 ≡ m / 128 / 64 → n / 128 % 64 ≡ m / 128 % 64 → n % 128 ≡ m % 128 → n ≡ m
same-number n m a b c = let page : n / 128 ≡ m / 128 = omega arith in omega arith

module _ {X Y : Type 0} (gs : List (Vec (Vec (Option ℕ) X) Y)) (m : ℕ) (d y : Vec (Vec (Option ℕ) X) Y) (inside : m / 128 / 64 < length gs)
    (here : d ≡ get_or gs (m / 128 / 64) d) where
  pub groups-here : (o : Option ℕ) → in_group y.items (m / 128 % 64) (m % 128) ≡ o → in_groups (set gs (m / 128 / 64) y) m ≡ o
  groups-here o put = read-written (λ (g : Vec (Vec (Option ℕ) X) Y). in_group g.items (m / 128 % 64) (m % 128)) gs (m / 128 / 64) y inside ∙ put

  -- numbers of other groups, and numbers of this one as far as their values stay
  pub groups-at : (n : ℕ) → (n / 128 / 64 ≡ m / 128 / 64 → in_group y.items (n / 128 % 64) (n % 128) ≡ in_group d.items (n / 128 % 64) (n % 128)) →
      in_groups (set gs (m / 128 / 64) y) n ≡ in_groups gs n
  groups-at n same = ⊎_elim
      (λ t. ap (λ k. option_and_then part (slice_get (set gs (m / 128 / 64) y) k)) t.1
      ∙ (read-written part gs (m / 128 / 64) y inside
      ∙ (same t.1
      ∙ (sym (read-at part gs (m / 128 / 64) d inside here) ∙ ap (λ k. option_and_then part (slice_get gs k)) (sym t.1)))))
      (λ f. read-other part gs (m / 128 / 64) (n / 128 / 64) y f.1)
      (eqb_tells (n / 128 / 64) (m / 128 / 64))
    where
      part : Vec (Vec (Option ℕ) X) Y → Option ℕ
      part g = in_group g.items (n / 128 % 64) (n % 128)

  pub groups-others : ((k i : ℕ) → (k ≡ m / 128 % 64 → i ≡ m % 128 → ⊥) → in_group y.items k i ≡ in_group d.items k i) →
      (n : ℕ) → n ≢ m → in_groups (set gs (m / 128 / 64) y) n ≡ in_groups gs n
  groups-others same n other = groups-at n (λ e. same (n / 128 % 64) (n % 128) (λ a b. other (same-number n m e a b)))

  pub groups-kept : ((k i : ℕ) → in_group y.items k i ≡ in_group d.items k i) → (n : ℕ) → in_groups (set gs (m / 128 / 64) y) n ≡ in_groups gs n
  groups-kept same n = groups-at n (λ e. same (n / 128 % 64) (n % 128))

-- empty groups have no value
pub groups-added : {X Y : Type 0} (gs hs : List (Vec (Vec (Option ℕ) X) Y)) → HasEmpty gs hs → (n : ℕ) → in_groups hs n ≡ in_groups gs n
groups-added {X = X} {Y = Y} gs hs added n =
    read-added (λ (g : Vec (Vec (Option ℕ) X) Y). in_group g.items (n / 128 % 64) (n % 128)) (λ g e. ap (λ (ps : List (Vec (Option ℕ) X)). in_group ps (n / 128 % 64) (n % 128)) e) gs hs added (n / 128 / 64)

pub groups-none : {X Y : Type 0} (gs : List (Vec (Vec (Option ℕ) X) Y)) (n : ℕ) → gs ≡ [] → in_groups gs n ≡ None
groups-none {X = X} {Y = Y} gs n none = ap (λ (hs : List (Vec (Vec (Option ℕ) X) Y)). in_groups hs n) none
