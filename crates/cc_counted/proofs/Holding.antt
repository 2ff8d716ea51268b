-- WHAT SLOTS HOLD, by keys and by names.
use Rattle.std.proofs.Common.{◌≡◌, ℕ, true, false, List, [], ◌∷◌, ◌++◌, Option, Some, None, option_map, is_some, refl, sym, ◌∙◌, ap, inl, inr, arith}
use Rattle.std.specs.List.{flat_map}
use Rattle.cc_lists.specs.Members.{Among}
use Rattle.cc_names.specs.declared.number.NKey.{NKey}
use Rattle.cc_names.specs.Names.{native, natives_in}
use Rattle.cc_model.specs.Slots.{Slots, contents}
use Rattle.cc_model.specs.Heap.{Heap, silently}
use Rattle.cc_model.specs.Cascade.{let_go}
use Rattle.cc_counted.specs.declared.held.Held.{Held}
use Rattle.cc_counted.specs.declared.held.Held.TheVariants as held
use Rattle.cc_counted.specs.Counts.{Counts, number_at, number_or_none, name_of, is_live, numbers_held, native_held}
use Rattle.cc_counted.specs.Lists.{names_in, numbers_in}

-- the natives in what slots hold by names are those that they hold by keys
pub natives_of_slots-shown : (c : Counts) (slots : List (Option Held)) → ((x : Option Held) → Among x slots → is_live c x ≡ true) →
    flat_map natives_in (contents (names_in c slots)) ≡ numbers_in c slots
natives_of_slots-shown c [] live = refl
natives_of_slots-shown c (None ∷ slots) live = natives_of_slots-shown c slots (λ x m. live x (inr m))
natives_of_slots-shown c (Some (held.Script key) ∷ slots) live = natives_of_slots-shown c slots (λ x m. live x (inr m))
natives_of_slots-shown c (Some (held.Native key) ∷ slots) live = go (natives_of_slots-shown c slots (λ x m. live x (inr m))) (number_at c key.0) refl
  where
    first : Option ℕ → Slots
    first o = option_map native o ∷ names_in c slots

    go : flat_map natives_in (contents (names_in c slots)) ≡ numbers_in c slots → (o : Option ℕ) → number_at c key.0 ≡ o →
        flat_map natives_in (contents (first o)) ≡ number_or_none o ∷ numbers_in c slots
    go ih None e = let here : is_some (option_map native (number_at c key.0)) ≡ true = live (Some (held.Native key)) (inl refl) in let bad : false ≡ true = sym (ap (λ n. is_some (option_map native n)) e) ∙ here in cc
    go ih (Some k) e = ap (λ ks. k ∷ ks) ih

-- what a slot holds is the same where the number at its key is
pub held-same : (c d : Counts) (x : Option Held) → ((k : ℕ) → x ≡ Some (held.Native (record { 0 = k })) → number_at d k ≡ number_at c k) →
    (name_of d x ≡ name_of c x) × (is_live d x ≡ is_live c x) × (numbers_held d x ≡ numbers_held c x)
held-same c d x h = grind arith

-- so what slots hold is the same
pub names-same : (c d : Counts) (slots : List (Option Held)) → ((x : Option Held) → Among x slots → name_of d x ≡ name_of c x) → names_in d slots ≡ names_in c slots
names-same c d [] h = refl
names-same c d (x ∷ xs) h = ap (λ y. y ∷ names_in d xs) (h x (inl refl)) ∙ ap (λ ys. name_of c x ∷ ys) (names-same c d xs (λ y m. h y (inr m)))

pub numbers-same : (c d : Counts) (slots : List (Option Held)) → ((x : Option Held) → Among x slots → numbers_held d x ≡ numbers_held c x) → numbers_in d slots ≡ numbers_in c slots
numbers-same c d [] h = refl
numbers-same c d (x ∷ xs) h = ap (λ y. y ++ numbers_in d xs) (h x (inl refl)) ∙ ap (λ ys. numbers_held c x ++ ys) (numbers-same c d xs (λ y m. h y (inr m)))

-- where a native is held, that is all that is held
pub held-native : (x : Option Held) (key : NKey) → native_held x ≡ Some key → x ≡ Some (held.Native key)
held-native x key e = grind arith

-- where none is, nothing is counted
pub numbers-none : (c : Counts) (x : Option Held) → native_held x ≡ None → numbers_held c x ≡ []
numbers-none c x e = grind arith

-- and to give it up does nothing
pub let_go-none : (c : Counts) (x : Option Held) (h : Heap) → native_held x ≡ None → let_go h (name_of c x) ≡ silently h
let_go-none c x h e = grind arith
