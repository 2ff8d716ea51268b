-- OPTIONAL VALUES, and lists of them: what they hold, and what is done to each of a list agrees where it agrees on that.
use Rattle.cc_lists.proofs.Counting.{count_by-append, count_by-cons}
use Rattle.cc_lists.proofs.CountsOf.{count_by-none, false-left}
use Rattle.std.proofs.lemmas.Bool.{true≢false}
use Rattle.std.proofs.Common.{◌≡◌, Bool, true, false, List, ◌∷◌, [], map, Option, Some, None, option_map, is_some, refl, ◌∙◌, ap, subst, ⊎_elim, ℕ, zero, suc, ◌≤◌, ◌++◌, replicate, count_by, sym, arith}
use Rattle.std.specs.List.{find}
use Rattle.std.specs.Option.{option_and_then, option_to_list}
use Rattle.std.proofs.Math.Path.{fun_ext}
use Rattle.cc_lists.specs.Members.{Among}
use Rattle.cc_lists.proofs.ListWrites.{map-agree}
use Rattle.cc_lists.proofs.Searching.{find-map, find-some}

-- One value

-- what is held is the value
pub held-is : {X : Type 0} (o : Option X) (x : X) → Among x (option_to_list o) → o ≡ Some x
held-is None x m = absurd m
held-is (Some y) x m = ⊎_elim (λ e. ap Some e) (λ n. absurd n) m

-- what is so of one is so of each member of the list of it alone
pub of-one : {X : Type 0} (P : X → Type 0) (x : X) → P x → (y : X) → Among y (x ∷ []) → P y
of-one P x p y m = ⊎_elim (λ e. subst P e p) (λ n. absurd n) m

pub is_some-found : {X : Type 0} (o : Option X) → is_some o ≡ true → (x : X) × (o ≡ Some x)
is_some-found None e = absurd (true≢false (sym e))
is_some-found (Some x) e = (x, refl)

pub is_some-none : {X : Type 0} (o : Option X) → is_some o ≡ false → o ≡ None
is_some-none None e = refl
is_some-none (Some x) e = absurd (true≢false e)

pub is_some-map : {X Y : Type 0} (f : X → Y) (o : Option X) → is_some (option_map f o) ≡ is_some o
is_some-map f None = refl
is_some-map f (Some x) = refl

pub mapped-again : {X Y Z : Type 0} (f : X → Y) (g : Y → Z) (h : X → Z) → ((x : X) → g (f x) ≡ h x) → (o : Option X) → option_map g (option_map f o) ≡ option_map h o
mapped-again f g h same None = refl
mapped-again f g h same (Some x) = ap Some (same x)

-- what is something in the end was something first
pub option_and_then-found : {X Y : Type 0} (f : X → Option Y) (o : Option X) (y : Y) → option_and_then f o ≡ Some y → (x : X) × (o ≡ Some x) × (f x ≡ Some y)
option_and_then-found f None y e = absurd (cc)
option_and_then-found f (Some x) y e = (x, refl, e)

-- a function of what a test chooses
pub through-test : {X Y : Type 0} (f : X → Y) (b : Bool) (x y : X) → f (elim b [ true ↦ x | false ↦ y ]) ≡ elim b [ true ↦ f x | false ↦ f y ]
through-test f true x y = refl
through-test f false x y = refl

-- what is so of both is so of what a test chooses
pub of-test : {X : Type 0} (P : X → Type 0) (b : Bool) (x y : X) → P x → P y → P (elim b [ true ↦ x | false ↦ y ])
of-test P true x y p q = p
of-test P false x y p q = q

-- Lists

-- two functions of optional values give the same list
pub map-held : {X Y : Type 0} (f g : Option X → Y) (xs : List (Option X)) → f None ≡ g None → ((x : X) → Among (Some x) xs → f (Some x) ≡ g (Some x)) →
    map f xs ≡ map g xs
map-held {X} f g xs none some = map-agree f g xs at
  where
    at : (o : Option X) → Among o xs → f o ≡ g o
    at None m = none
    at (Some x) m = some x m

-- where none is found, none passes
none-counted : {X : Type 0} (p : X → Bool) (xs : List X) → find p xs ≡ None → count_by p xs ≡ 0
none-counted p xs none = count_by-none p xs (λ x m. false-left (p x) (λ e. let f = find-some p xs x m e in let bad : None ≡ Some f.0 = sym none ∙ f.1 in absurd (cc)))

-- what is read of the first that passes is the same in a list under other names
pub find-renamed : {X Y Z : Type 0} (f : X → Y) (p : Y → Bool) (q : X → Bool) (g : Y → Z) (h : X → Z) → ((x : X) → p (f x) ≡ q x) → ((x : X) → g (f x) ≡ h x) →
    (xs : List X) → option_map g (find p (map f xs)) ≡ option_map h (find q xs)
find-renamed f p q g h passes reads xs = ap (option_map g) (find-map p f xs ∙ ap (λ t. option_map f (find t xs)) (fun_ext passes)) ∙ mapped-again f g h reads (find q xs)

-- one more at the end: at most one passes still, where none passed before if it does
pub once-push : {X : Type 0} (p : X → Bool) (xs : List X) (y : X) → count_by p xs ≤ 1 → (p y ≡ true → find p xs ≡ None) → count_by p (xs ++ y ∷ []) ≤ 1
once-push p xs y once none = go (p y) refl
  where
    go : (b : Bool) → p y ≡ b → count_by p (xs ++ y ∷ []) ≤ 1
    go true e = rw (count_by-append p xs (y ∷ []), count_by-cons p y [], e) (omega (arith, none-counted p xs (none e)))
    go false e = rw (count_by-append p xs (y ∷ []), count_by-cons p y [], e) (omega (arith, once))

pub map-replicate : {X Y : Type 0} (f : X → Y) (n : ℕ) (x : X) → map f (replicate n x) ≡ replicate n (f x)
map-replicate f zero x = refl
map-replicate f (suc n) x = ap (λ ys. f x ∷ ys) (map-replicate f n x)
