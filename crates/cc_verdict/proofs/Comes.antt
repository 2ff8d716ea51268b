-- EVENTS THAT MAY COME ONE AFTER THE OTHER, and what was told when they have come.
use Rattle.std.proofs.Common.{◌≡◌, ℕ, ◌+◌, true, false, List, [], ◌∷◌, Option, Some, None, refl, sym, ◌∙◌, arith}
use Rattle.std.proofs.lemmas.Bool.{false≢true, true≢false}
use Rattle.cc_names.specs.declared.name.Name.{Name}
use Rattle.cc_names.specs.declared.name.Name.TheVariants.{Native, Script, Reflector}
use Rattle.cc_names.specs.Names.{is_native, natives_in, number_of}
use Rattle.cc_model.specs.declared.item.Event.{Event}
use Rattle.cc_model.specs.declared.item.Event.TheVariants.{Unlinked, Freed, Abandoned}
use Rattle.cc_model.specs.Listed.{after_events, ended_after}
use Rattle.cc_model.specs.Lawful.{runs, unlinked_numbers, has_none}
use Rattle.cc_verdict.specs.Hearing.{Told, Hearing, MayCome, runs_begun, runs_with, told_after, with_told}

-- each may come after those before it
abbrev pub EachMayCome : Hearing → List Event → Type 0
EachMayCome h [] = Unit {0}
EachMayCome h (e ∷ es) = MayCome h e × EachMayCome (with_told h e) es

abbrev pub told_all : Told → List Event → Told
told_all t [] = t
told_all t (e ∷ es) = told_all (told_after t e) es

abbrev pub with_all : Hearing → List Event → Hearing
with_all h es = record h { told = told_all h.told es }

-- The names, those that have ended, and whether there was an event and an abandonment

pub told-names : (t : Told) (es : List Event) → (told_all t es).names ≡ after_events t.names es
told-names t [] = refl
told-names t (Freed x ∷ es) = told-names (told_after t (Freed x)) es
told-names t (Unlinked x ∷ es) = told-names (told_after t (Unlinked x)) es
told-names t (Abandoned ∷ es) = told-names (told_after t Abandoned) es

pub told-ended : (t : Told) (es : List Event) → (told_all t es).ended ≡ ended_after t.ended es
told-ended t [] = refl
told-ended t (Freed x ∷ es) = told-ended (told_after t (Freed x)) es
told-ended t (Unlinked x ∷ es) = told-ended (told_after t (Unlinked x)) es
told-ended t (Abandoned ∷ es) = told-ended (told_after t Abandoned) es

-- an event stays told
event-told : (t : Told) (es : List Event) → t.any ≡ true → (told_all t es).any ≡ true
event-told t [] is = is
event-told t (Freed x ∷ es) is = event-told (told_after t (Freed x)) es refl
event-told t (Unlinked x ∷ es) is = event-told (told_after t (Unlinked x)) es refl
event-told t (Abandoned ∷ es) is = event-told (told_after t Abandoned) es refl

-- any event is told
pub after-any : (t : Told) (e : Event) → (told_after t e).any ≡ true
after-any t (Freed x) = refl
after-any t (Unlinked x) = refl
after-any t Abandoned = refl

-- where no event is told, there is none
pub none-told : (t : Told) (es : List Event) → (told_all t es).any ≡ false → es ≡ []
none-told t [] none = refl
none-told t (e ∷ es) none = absurd (true≢false (sym (event-told (told_after t e) es (after-any t e)) ∙ none))

-- an abandonment stays told
pub abandonment-told : (t : Told) (es : List Event) → t.abandoned ≡ true → (told_all t es).abandoned ≡ true
abandonment-told t [] is = is
abandonment-told t (Freed x ∷ es) is = abandonment-told (told_after t (Freed x)) es is
abandonment-told t (Unlinked x ∷ es) is = abandonment-told (told_after t (Unlinked x)) es is
abandonment-told t (Abandoned ∷ es) is = abandonment-told (told_after t Abandoned) es refl

-- where no abandonment is told, there is none
pub unabandoned : (t : Told) (es : List Event) → (told_all t es).abandoned ≡ false → has_none es ≡ true
unabandoned t [] none = refl
unabandoned t (Freed x ∷ es) none = unabandoned (told_after t (Freed x)) es none
unabandoned t (Unlinked x ∷ es) none = unabandoned (told_after t (Unlinked x)) es none
unabandoned t (Abandoned ∷ es) none = absurd (true≢false (sym (abandonment-told (told_after t Abandoned) es refl) ∙ none))

-- events without an abandonment tell of none
pub stays-unabandoned : (t : Told) (es : List Event) → has_none es ≡ true → (told_all t es).abandoned ≡ t.abandoned
stays-unabandoned t [] none = refl
stays-unabandoned t (Freed x ∷ es) none = stays-unabandoned (told_after t (Freed x)) es none
stays-unabandoned t (Unlinked x ∷ es) none = stays-unabandoned (told_after t (Unlinked x)) es none
stays-unabandoned t (Abandoned ∷ es) none = absurd (false≢true none)

-- Runs

-- how many runs begin with numbers, behind the last before them
abbrev pub runs_on : Option ℕ → List ℕ → ℕ
runs_on last [] = 0
runs_on last (k ∷ ks) = runs_begun last k + runs_on (Some k) ks

runs-first : (i : ℕ) (js : List ℕ) → runs (i ∷ js) ≡ 1 + runs_on (Some i) js
runs-first i [] = refl
runs-first i (j ∷ js) = omega (arith, runs-first j js)

pub runs-from_none : (ks : List ℕ) → runs ks ≡ runs_on None ks
runs-from_none [] = refl
runs-from_none (k ∷ ks) = runs-first k ks

-- a native's number is that of its name
native-number : (x : Name) → is_native x ≡ true → natives_in x ≡ number_of x ∷ []
native-number (Native k) is = refl
native-number (Script k) is = absurd (false≢true is)
native-number (Reflector k) is = absurd (false≢true is)

-- the runs of an unlinking and of what comes after it
pub unlink-runs : (t : Told) (x : Name) (es : List Event) → is_native x ≡ true →
    t.runs + runs_on t.last (unlinked_numbers (Unlinked x ∷ es)) ≡ runs_with t x + runs_on (Some (number_of x)) (unlinked_numbers es)
unlink-runs t x es is = rw (native-number x is) (omega arith)
