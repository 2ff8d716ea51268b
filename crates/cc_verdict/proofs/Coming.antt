-- EVENTS THAT ARE IN PLACE TOGETHER may come one after the other.
use Rattle.std.proofs.Common.{◌≡◌, ℕ, ◌+◌, ◌≤◌, Bool, true, false, not, ◌&&◌, ◌||◌, List, [], ◌∷◌, Some, refl, ap, subst, arith}
use Rattle.std.proofs.lemmas.Bool.{and_parts, and_from, or_left, false≢true, true≢false, le-leb}
use Rattle.cc_names.specs.Names.{is_native, number_of}
use Rattle.cc_model.specs.declared.item.Event.{Event}
use Rattle.cc_model.specs.declared.item.Event.TheVariants.{Unlinked, Freed, Abandoned}
use Rattle.cc_model.specs.Lawful.{MayBe, EachMayBe, is_abandonment, is_gc, runs_allowed, runs_units, unlinked_numbers, has_none, ends_with_one, begins_with_at_most_one}
use Rattle.cc_verdict.specs.Hearing.{Told, Hearing, MayCome, may_go_on, runs_with, with_told}
use Rattle.cc_verdict.proofs.Comes.{EachMayCome, runs_on, told_all, unlink-runs}
use Rattle.cc_verdict.proofs.Stays.{units-no_gc}

-- how many runs there are with events that come
abbrev runs_then : Told → List Event → ℕ
runs_then t es = t.runs + runs_on t.last (unlinked_numbers es)

abbrev pub HasFewRuns : Hearing → List Event → Type 0
HasFewRuns h es = runs_then h.told es ≤ runs_allowed h.command

-- the first event may come, and the others make few runs
one-comes : (h : Hearing) (e : Event) (es : List Event) → may_go_on h.command h.told ≡ true → is_abandonment e ≡ false →
    MayBe h.graph h.told.names h.command e → HasFewRuns h (e ∷ es) → MayCome h e × HasFewRuns (with_told h e) es
one-comes h (Freed x) es go plain m few = (record { kind = and_from _ _ m.2 go; garbage = (m.0, m.1) }, few)
one-comes h (Unlinked x) es go plain m few =
    let native : is_native x ≡ true = (and_parts (is_native x) (runs_units h.command || is_gc h.command) m.2).0 in
    let after : runs_with h.told x + runs_on (Some (number_of x)) (unlinked_numbers es) ≤ runs_allowed h.command =
    subst (λ n. n ≤ runs_allowed h.command) (unlink-runs h.told x es native) few in
    let with_it : runs_with h.told x ≤ runs_allowed h.command = omega arith in
    (record { kind = and_from _ _ m.2 (and_from _ _ go (le-leb _ _ with_it)); garbage = (m.0, m.1) }, after)
one-comes h Abandoned es go plain m few = absurd (true≢false plain)

-- events without an abandonment may come
pub coming-whole : (h : Hearing) (es : List Event) → may_go_on h.command h.told ≡ true → has_none es ≡ true →
    EachMayBe h.graph h.told.names h.command es → HasFewRuns h es → EachMayCome h es
coming-whole h [] go none m few = tt
coming-whole h (Freed x ∷ es) go none m few =
    let one = one-comes h (Freed x) es go refl m.0 few in
    (one.0, coming-whole (with_told h (Freed x)) es go none m.1 one.1)
coming-whole h (Unlinked x ∷ es) go none m few =
    let one = one-comes h (Unlinked x) es go refl m.0 few in
    (one.0, coming-whole (with_told h (Unlinked x)) es go none m.1 one.1)
coming-whole h (Abandoned ∷ es) go none m few = absurd (false≢true none)

-- Events that end with an abandonment, where units run

abandon-from : (gc units any abandoned : Bool) → gc ≡ false → units ≡ true → abandoned ≡ false → elim gc [ true ↦ not any | false ↦ units && not abandoned ] ≡ true
abandon-from gc units any abandoned g u a = rw (g, u, a) refl

goes-on : (gc abandoned : Bool) → abandoned ≡ false → (gc || not abandoned) ≡ true
goes-on true abandoned a = refl
goes-on false abandoned a = ap not a

pub coming-ending : (h : Hearing) (es : List Event) → runs_units h.command ≡ true → h.told.abandoned ≡ false → ends_with_one es ≡ true →
    EachMayBe h.graph h.told.names h.command es → HasFewRuns h es → EachMayCome h es × ((told_all h.told es).abandoned ≡ true)
coming-ending h [] u a ends m few = absurd (false≢true ends)
coming-ending h (Abandoned ∷ []) u a ends m few = (
  (record { kind = abandon-from (is_gc h.command) (runs_units h.command) h.told.any h.told.abandoned (units-no_gc h.command u) u a; garbage = tt }, tt),
  refl,
)
coming-ending h (Freed x ∷ []) u a ends m few = absurd (false≢true ends)
coming-ending h (Unlinked x ∷ []) u a ends m few = absurd (false≢true ends)
coming-ending h (Freed x ∷ f ∷ es) u a ends m few =
    let one = one-comes h (Freed x) (f ∷ es) (goes-on (is_gc h.command) h.told.abandoned a) refl m.0 few in
    let rest = coming-ending (with_told h (Freed x)) (f ∷ es) u a ends m.1 one.1 in
    ((one.0, rest.0), rest.1)
coming-ending h (Unlinked x ∷ f ∷ es) u a ends m few =
    let one = one-comes h (Unlinked x) (f ∷ es) (goes-on (is_gc h.command) h.told.abandoned a) refl m.0 few in
    let rest = coming-ending (with_told h (Unlinked x)) (f ∷ es) u a ends m.1 one.1 in
    ((one.0, rest.0), rest.1)
coming-ending h (Abandoned ∷ f ∷ es) u a ends m few = absurd (false≢true ends)

-- Events of which the first alone may be an abandonment, under `gc`

gc-from : (gc any other : Bool) → gc ≡ true → any ≡ false → elim gc [ true ↦ not any | false ↦ other ] ≡ true
gc-from gc any other g a = rw (g, a) refl

pub coming-first : (h : Hearing) (es : List Event) → is_gc h.command ≡ true → h.told.any ≡ false → begins_with_at_most_one es ≡ true →
    EachMayBe h.graph h.told.names h.command es → HasFewRuns h es → EachMayCome h es
coming-first h [] g any first m few = tt
coming-first h (Abandoned ∷ es) g any first m few = (
  record { kind = gc-from (is_gc h.command) h.told.any (runs_units h.command && not h.told.abandoned) g any; garbage = tt },
  coming-whole (with_told h Abandoned) es (or_left (is_gc h.command) false g) first m.1 few,
)
coming-first h (Freed x ∷ es) g any first m few = coming-whole h (Freed x ∷ es) (or_left (is_gc h.command) (not h.told.abandoned) g) first m few
coming-first h (Unlinked x ∷ es) g any first m few = coming-whole h (Unlinked x ∷ es) (or_left (is_gc h.command) (not h.told.abandoned) g) first m few
