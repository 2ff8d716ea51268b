-- Rising runs of numbers, and where an abandonment stands among events.
use Rattle.std.proofs.Common.{◌≡◌, ℕ, ◌+◌, ◌≤◌, true, false, not, List, [], ◌∷◌, ◌++◌, map, refl, ap, inl, inr, arith}
use Rattle.std.proofs.lemmas.Bool.{and_parts, and_from, lt-ltb}
use Rattle.cc_lists.specs.Members.{Among}
use Rattle.cc_names.specs.declared.name.Name.{Name}
use Rattle.cc_model.specs.declared.item.Event.{Event}
use Rattle.cc_model.specs.declared.item.Event.TheVariants.{Unlinked, Freed, Abandoned}
use Rattle.cc_model.specs.WellFormed.{IsRising}
use Rattle.cc_model.specs.Lawful.{unlinked_numbers, break_between, runs, is_abandonment, has_none, ends_with_one, begins_with_at_most_one}
use Rattle.cc_laws_heap.specs.Ending.{NamesNative}

-- Runs

-- numbers that rise are one run, or none
pub runs-rising : (ks : List ℕ) → IsRising ks → runs ks ≤ 1
runs-rising (i ∷ j ∷ js) r =
    let none : break_between i j ≡ 0 = ap (λ b. elim b [ true ↦ 0 | false ↦ 1 ]) (lt-ltb i j r.0) in
    omega (arith, none, runs-rising (j ∷ js) r.1)
runs-rising _ r = omega arith

-- between two numbers there is at most one break
break-few : (i j : ℕ) → break_between i j ≤ 1
break-few i j = grind arith

-- two lists have no more runs together than each
pub runs-append : (is js : List ℕ) → runs (is ++ js) ≤ runs is + runs js
runs-append (i ∷ []) (j ∷ js) = omega (arith, break-few i j)
runs-append (i ∷ k ∷ ks) js = omega (arith, runs-append (k ∷ ks) js)
runs-append _ _ = omega arith

-- Abandonment

-- two lists without an abandonment have none
pub has_none-append : (es fs : List Event) → has_none es ≡ true → has_none fs ≡ true → has_none (es ++ fs) ≡ true
has_none-append [] fs a b = b
has_none-append (e ∷ es) fs a b =
    let p = and_parts (not (is_abandonment e)) (has_none es) a in
    and_from (not (is_abandonment e)) (has_none (es ++ fs)) p.0 (has_none-append es fs p.1 b)

-- events that name natives have none
pub has_none-natives : (es : List Event) → ((e : Event) → Among e es → NamesNative e) → has_none es ≡ true
has_none-natives [] n = refl
has_none-natives (Freed x ∷ es) n = has_none-natives es (λ e m. n e (inr m))
has_none-natives (Unlinked x ∷ es) n = has_none-natives es (λ e m. n e (inr m))
has_none-natives (Abandoned ∷ es) n = absurd (n Abandoned (inl refl))

-- free lines have none
pub has_none-freed : (xs : List Name) → has_none (map Freed xs) ≡ true
has_none-freed [] = refl
has_none-freed (x ∷ xs) = has_none-freed xs

-- events without an abandonment, and then one, end with it
pub ends_with_one-append : (es : List Event) → has_none es ≡ true → ends_with_one (es ++ Abandoned ∷ []) ≡ true
ends_with_one-append [] n = refl
ends_with_one-append (e ∷ []) n = and_from (not (is_abandonment e)) true (and_parts (not (is_abandonment e)) true n).0 refl
ends_with_one-append (e ∷ f ∷ es) n =
    let p = and_parts (not (is_abandonment e)) (has_none (f ∷ es)) n in
    and_from (not (is_abandonment e)) (ends_with_one (f ∷ (es ++ Abandoned ∷ []))) p.0 (ends_with_one-append (f ∷ es) p.1)

-- events without an abandonment begin with at most one
pub begins-none : (es : List Event) → has_none es ≡ true → begins_with_at_most_one es ≡ true
begins-none es n = grind arith

-- free lines unlink nothing
pub unlinked-freed : (xs : List Name) → unlinked_numbers (map Freed xs) ≡ []
unlinked-freed [] = refl
unlinked-freed (x ∷ xs) = unlinked-freed xs
