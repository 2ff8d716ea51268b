-- What stands at places: where a name was taken out, where one moved, and where there is none from some place on.
use Rattle.std.specs.Prelude.{not}
use Rattle.std.proofs.Common.{◌≡◌, ℕ, zero, suc, ◌+◌, ◌<◌, ◌≤◌, true, false, [], ◌∷◌, ◌++◌, length, set, take, Option, Some, None, refl, sym, ◌∙◌, ap, inl, inr, ⊎_elim, arith, option_to_list}
use Rattle.cc_names.specs.declared.name.Name.{Name}
use Rattle.cc_names.specs.Names.{same_name}
use Rattle.cc_names.proofs.NameTests.{same_name-exact, same_name-true}
use Rattle.cc_lists.specs.Members.{Among, without}
use Rattle.cc_lists.proofs.CountsOf.{false-left}
use Rattle.cc_lists.proofs.Filtering.{filter-each}
use Rattle.cc_model.specs.Slots.{Slots, contents}
use Rattle.cc_listed.specs.Found.{slot_at}

-- What stands at a place is among the contents, and what is among them stands at a place

pub stands-among : (xs : Slots) (i : ℕ) (x : Name) → slot_at xs i ≡ Some x → Among x (contents xs)
stands-among [] i x e = absurd (cc)
stands-among (None ∷ xs) zero x e = absurd (cc)
stands-among (Some y ∷ xs) zero x e = let same : y ≡ x = cc in inl same
stands-among (None ∷ xs) (suc i) x e = stands-among xs i x e
stands-among (Some y ∷ xs) (suc i) x e = inr (stands-among xs i x e)

pub among-stands : (xs : Slots) (x : Name) → Among x (contents xs) → (i : ℕ) × (slot_at xs i ≡ Some x)
among-stands [] x m = absurd m
among-stands (None ∷ xs) x m = let k = among-stands xs x m in (suc k.0, k.1)
among-stands (Some y ∷ xs) x m = ⊎_elim (λ e. (zero, ap Some e)) (λ t. let k = among-stands xs x t in (suc k.0, k.1)) m

-- it stands within the list
pub stands-within : (xs : Slots) (i : ℕ) (x : Name) → slot_at xs i ≡ Some x → i < length xs
stands-within [] i x e = absurd (cc)
stands-within (y ∷ xs) zero x e = omega arith
stands-within (y ∷ xs) (suc i) x e = omega (arith, stands-within xs i x e)

-- no more stands there than there are places
pub contents-few : (xs : Slots) → length (contents xs) ≤ length xs
contents-few [] = omega arith
contents-few (None ∷ xs) = omega (arith, contents-few xs)
contents-few (Some x ∷ xs) = omega (arith, contents-few xs)

-- A place was emptied: the name that stood there, and nowhere else, is gone

pub contents-emptied : (xs : Slots) (i : ℕ) (x : Name) → slot_at xs i ≡ Some x → ((k : ℕ) → slot_at xs k ≡ Some x → k ≡ i) →
    contents (set xs i None) ≡ without same_name x (contents xs)
contents-emptied [] i x e once = absurd (cc)
contents-emptied (None ∷ xs) zero x e once = absurd (cc)
contents-emptied (Some y ∷ xs) zero x e once =
    let same : y ≡ x = cc in
    let on : same_name y x ≡ true = (same_name-exact y x).1 same in
    rw on (sym (filter-each (λ z. not (same_name z x)) (contents xs) (λ z m.
    let k = among-stands xs z m in
    ap not (false-left (same_name z x) (λ t.
    let there : suc k.0 ≡ 0 = once (suc k.0) (k.1 ∙ ap Some (same_name-true z x t)) in
    absurd (omega arith))))))
contents-emptied (None ∷ xs) (suc i) x e once = contents-emptied xs i x e (λ k s. let next : suc k ≡ suc i = once (suc k) s in omega arith)
contents-emptied (Some y ∷ xs) (suc i) x e once =
    let off : same_name y x ≡ false = false-left (same_name y x) (λ t. let first : 0 ≡ suc i = once 0 (ap Some (same_name-true y x t)) in absurd (omega arith)) in
    rw off (ap (λ ys. y ∷ ys) (contents-emptied xs i x e (λ k s. let next : suc k ≡ suc i = once (suc k) s in omega arith)))

pub length-emptied : (xs : Slots) (i : ℕ) (x : Name) → slot_at xs i ≡ Some x → length (contents (set xs i None)) + 1 ≡ length (contents xs)
length-emptied [] i x e = absurd (cc)
length-emptied (None ∷ xs) zero x e = absurd (cc)
length-emptied (Some y ∷ xs) zero x e = omega arith
length-emptied (None ∷ xs) (suc i) x e = length-emptied xs i x e
length-emptied (Some y ∷ xs) (suc i) x e = omega (arith, length-emptied xs i x e)

-- A name moved to a place from which on there was none before it: the contents stay

contents-first : (xs : Slots) (i : ℕ) (x : Name) → slot_at xs i ≡ Some x → ((k : ℕ) → k < i → slot_at xs k ≡ None) → x ∷ contents (set xs i None) ≡ contents xs
contents-first [] i x e none = absurd (cc)
contents-first (None ∷ xs) zero x e none = absurd (cc)
contents-first (Some y ∷ xs) zero x e none = let same : x ≡ y = cc in ap (λ z. z ∷ contents xs) same
contents-first (None ∷ xs) (suc i) x e none = contents-first xs i x e (λ k l. none (suc k) (omega arith))
contents-first (Some y ∷ xs) (suc i) x e none = let empty : Some y ≡ None = none 0 (omega arith) in absurd (cc)

pub contents-moved : (xs : Slots) (from to : ℕ) (x : Name) → slot_at xs from ≡ Some x → to ≤ from → ((k : ℕ) → to ≤ k → k < from → slot_at xs k ≡ None) →
    contents (set (set xs from None) to (Some x)) ≡ contents xs
contents-moved [] from to x e order none = absurd (cc)
contents-moved (None ∷ xs) zero zero x e order none = absurd (cc)
contents-moved (Some y ∷ xs) zero zero x e order none = let same : x ≡ y = cc in ap (λ z. z ∷ contents xs) same
contents-moved (None ∷ xs) (suc from) zero x e order none = contents-first xs from x e (λ k l. none (suc k) (omega arith) (omega arith))
contents-moved (Some y ∷ xs) (suc from) zero x e order none = let empty : Some y ≡ None = none 0 (omega arith) (omega arith) in absurd (cc)
contents-moved (y ∷ xs) zero (suc to) x e order none = absurd (omega arith)
contents-moved (y ∷ xs) (suc from) (suc to) x e order none =
    ap (λ ys. option_to_list y ++ ys) (contents-moved xs from to x e (omega arith) (λ k m l. none (suc k) (omega arith) (omega arith)))

-- Where there is none from some place on, the places before it have all the contents

pub contents-front : (n : ℕ) (xs : Slots) → ((k : ℕ) → n ≤ k → k < length xs → slot_at xs k ≡ None) → contents (take n xs) ≡ contents xs
contents-front zero [] none = refl
contents-front zero (None ∷ xs) none = contents-front zero xs (λ k m l. none (suc k) (omega arith) (omega arith))
contents-front zero (Some y ∷ xs) none = let empty : Some y ≡ None = none 0 (omega arith) (omega arith) in absurd (cc)
contents-front (suc n) [] none = refl
contents-front (suc n) (y ∷ xs) none = ap (λ ys. option_to_list y ++ ys) (contents-front n xs (λ k m l. none (suc k) (omega arith) (omega arith)))

pub slot-front : (n : ℕ) (xs : Slots) → ((k : ℕ) → n ≤ k → k < length xs → slot_at xs k ≡ None) → (k : ℕ) → slot_at (take n xs) k ≡ slot_at xs k
slot-front zero [] none k = refl
slot-front zero (y ∷ xs) none zero = sym (none 0 (omega arith) (omega arith))
slot-front zero (y ∷ xs) none (suc k) = slot-front zero xs (λ j m l. none (suc j) (omega arith) (omega arith)) k
slot-front (suc n) [] none k = refl
slot-front (suc n) (y ∷ xs) none zero = refl
slot-front (suc n) (y ∷ xs) none (suc k) = slot-front n xs (λ j m l. none (suc j) (omega arith) (omega arith)) k

-- Slots that were written

pub slot-set_same : (xs : Slots) (i : ℕ) (o : Option Name) → i < length xs → slot_at (set xs i o) i ≡ o
slot-set_same [] i o l = absurd (omega arith)
slot-set_same (y ∷ xs) zero o l = refl
slot-set_same (y ∷ xs) (suc i) o l = slot-set_same xs i o (omega arith)

pub slot-set_other : (xs : Slots) (i : ℕ) (o : Option Name) (k : ℕ) → (k ≡ i → ⊥) → slot_at (set xs i o) k ≡ slot_at xs k
slot-set_other [] i o k other = refl
slot-set_other (y ∷ xs) zero o zero other = absurd (other refl)
slot-set_other (y ∷ xs) zero o (suc k) other = refl
slot-set_other (y ∷ xs) (suc i) o zero other = refl
slot-set_other (y ∷ xs) (suc i) o (suc k) other = slot-set_other xs i o k (λ e. other (ap suc e))
