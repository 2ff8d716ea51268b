-- When each of several events may be: nothing that is freed is named again, and each might be at the start.
use Rattle.std.proofs.Common.{◌≡◌, ◌==◌, ℕ, ◌+◌, ◌≤◌, List, [], ◌∷◌, ◌++◌, length, refl, sym, ◌∙◌, ap, subst, inl, inr, ◌⊎◌, ⊎_elim, arith}
use Rattle.std.proofs.lemmas.List.{length-append}
use Rattle.std.proofs.lemmas.Grind.{flat_map-append}
use Rattle.cc_lists.specs.Members.{Among}
use Rattle.cc_lists.proofs.Members.{Among-left, Among-right, Among-append, Among-filter, Among-flat_map}
use Rattle.cc_lists.proofs.Counting.{count_by-append}
use Rattle.cc_names.specs.declared.name.Name.{Name}
use Rattle.cc_names.specs.Names.{native, natives_in}
use Rattle.cc_model.specs.declared.command.Command.{Command}
use Rattle.cc_model.specs.declared.item.Event.{Event}
use Rattle.cc_model.specs.declared.item.Event.TheVariants.{Unlinked, Freed, Abandoned}
use Rattle.cc_model.specs.Graph.{Graph}
use Rattle.cc_model.specs.Counts.{times}
use Rattle.cc_model.specs.Listed.{after_event, after_events}
use Rattle.cc_model.specs.Lawful.{MayBe, EachMayBe, unlinked_in, unlinked_numbers}
use Rattle.cc_laws_heap.specs.Ending.{freed_in, freed_numbers, NamesNative}
use Rattle.cc_laws_heap.proofs.NameLists.{same_name-other}
use Rattle.cc_laws_heap.proofs.References.{times-some}

-- One list of events after another

-- what is listed after two lists of events
pub after_events-append : (es fs : List Event) (names : List Name) → after_events names (es ++ fs) ≡ after_events (after_events names es) fs
after_events-append [] fs names = refl
after_events-append (e ∷ es) fs names = after_events-append es fs (after_event names e)

-- Events that may be, and then others, may be.
pub each-append : (g : Graph) (c : Command) (es fs : List Event) (names : List Name) → EachMayBe g names c es →
    EachMayBe g (after_events names es) c fs → EachMayBe g names c (es ++ fs)
each-append g c [] fs names a b = b
each-append g c (e ∷ es) fs names a b = (a.0, each-append g c es fs (after_event names e) a.1 b)

-- Nothing that is freed is named again

-- an event names it
abbrev pub Names : Event → Name → Type 0
Names (Freed y) x = y ≡ x
Names (Unlinked y) x = y ≡ x
Names Abandoned x = ⊥

-- no event names what this one frees
abbrev pub NotAgain : Event → List Event → Type 0
NotAgain (Freed x) es = (e : Event) → Among e es → ¬ (Names e x)
NotAgain _ es = Unit {0}

-- what an event frees is named by no later one
abbrev pub FreeLast : List Event → Type 0
FreeLast [] = Unit {0}
FreeLast (e ∷ es) = NotAgain e es × FreeLast es

-- what an event may name that is not what was freed, it may name afterwards
stays : (g : Graph) (names : List Name) (c : Command) (e f : Event) (es : List Event) → NotAgain e es → Among f es → MayBe g names c f → MayBe g (after_event names e) c f
stays g names c e f es last i m = grind (arith, Among-filter, same_name-other)

-- EVENTS THAT MIGHT ALL BE AT THE START each may be at their turn, where nothing that is freed is named again.
pub each-from : (g : Graph) (c : Command) (es : List Event) (names : List Name) → ((e : Event) → Among e es → MayBe g names c e) → FreeLast es → EachMayBe g names c es
each-from g c [] names may last = tt
each-from g c (e ∷ es) names may last = (
  may e (inl refl),
  each-from g c es (after_event names e) (λ f i. stays g names c e f es last.0 i (may f (inr i))) last.1,
)

-- neither list names again what was freed
NotAgain-append : (e : Event) (es fs : List Event) → NotAgain e es → NotAgain e fs → NotAgain e (es ++ fs)
NotAgain-append (Freed x) es fs a b = λ f i named. ⊎_elim (λ l. a f l named) (λ r. b f r named) (Among-append f es fs i)
NotAgain-append _ es fs a b = tt

-- what is freed in two lists is not named again, where neither in each nor in the second
pub FreeLast-append : (es fs : List Event) → FreeLast es → FreeLast fs → ((e : Event) → Among e es → NotAgain e fs) → FreeLast (es ++ fs)
FreeLast-append [] fs a b apart = b
FreeLast-append (e ∷ es) fs a b apart =
    (NotAgain-append e es fs a.0 (apart e (inl refl)), FreeLast-append es fs a.1 b (λ f i. apart f (inr i)))

-- Events that name natives

-- an event names a native where it frees or unlinks its number
named-number : (e : Event) (k : ℕ) → Names e (native k) → Among k (freed_in e) ⊎ Among k (unlinked_in e)
named-number e k s = grind arith

-- what one of several events names is among their numbers
named-numbers : (e : Event) (es : List Event) (k : ℕ) → Among e es → Names e (native k) → Among k (freed_numbers es) ⊎ Among k (unlinked_numbers es)
named-numbers e es k m named = ⊎_elim
    (λ f. inl (Among-flat_map freed_in e k es m f))
    (λ u. inr (Among-flat_map unlinked_in e k es m u))
    (named-number e k named)

-- how often a number is freed in two lists of events
times-append : (k : ℕ) (es fs : List Event) → times k (freed_numbers (es ++ fs)) ≡ times k (freed_numbers es) + times k (freed_numbers fs)
times-append k es fs = ap (times k) (flat_map-append freed_in es fs) ∙ count_by-append (λ j. j == k) (freed_numbers es) (freed_numbers fs)

-- natives freed at most once, and not among those unlinked later, are not named again
not-again : (e : Event) (es : List Event) → NamesNative e → ((k : ℕ) → Among k (freed_in e) → times k (freed_numbers es) ≡ 0) →
    ((k : ℕ) → Among k (freed_in e) → ¬ (Among k (unlinked_numbers es))) → NotAgain e es
not-again (Freed x) es n freed unlinked = λ f i named.
    let here : Among n.0 (natives_in x) = subst (λ z. Among n.0 (natives_in z)) (sym n.1) (inl refl) in
    ⊎_elim
    (λ a. let some : 1 ≤ times n.0 (freed_numbers es) = times-some n.0 (freed_numbers es) a in
    let none : times n.0 (freed_numbers es) ≡ 0 = freed n.0 here in absurd (omega arith))
    (λ u. unlinked n.0 here u)
    (named-numbers f es n.0 i (subst (Names f) n.1 named))
not-again _ es n freed unlinked = tt

-- NATIVES EACH FREED ONCE, and none of those unlinked, are not named again.
pub FreeLast-natives : (es : List Event) → ((e : Event) → Among e es → NamesNative e) → ((k : ℕ) → times k (freed_numbers es) ≤ 1) →
    ((k : ℕ) → Among k (unlinked_numbers es) → times k (freed_numbers es) ≡ 0) → FreeLast es
FreeLast-natives [] alone once apart = tt
FreeLast-natives (e ∷ es) alone once apart = (
  not-again e es (alone e (inl refl))
      (λ k m. let some : 1 ≤ times k (freed_in e) = times-some k (freed_in e) m in omega (arith, once k, split k))
      (λ k m u. let some : 1 ≤ times k (freed_in e) = times-some k (freed_in e) m in
      absurd (omega (arith, split k, apart k (Among-right k (unlinked_in e) (unlinked_numbers es) u)))),
  FreeLast-natives es (λ f i. alone f (inr i)) (λ k. omega (arith, once k, split k))
      (λ k u. omega (arith, split k, apart k (Among-right k (unlinked_in e) (unlinked_numbers es) u))),
)
  where
    split : (k : ℕ) → times k (freed_numbers (e ∷ es)) ≡ times k (freed_in e) + times k (freed_numbers es)
    split k = count_by-append (λ j. j == k) (freed_in e) (freed_numbers es)

-- what comes after a list is nothing, where the list stays as it is
append-none : {X : Type 0} (xs ys : List X) → xs ++ ys ≡ xs → ys ≡ []
append-none xs [] e = refl
append-none {X} xs (y ∷ ys) e = absurd (omega (arith, length-append xs (y ∷ ys), ap length e))

-- Unlink lines with free lines of others, and then free lines: nothing that is freed is named again.
pub FreeLast-end : (es fs : List Event) (ks : List ℕ) → ((e : Event) → Among e (es ++ fs) → NamesNative e) →
    ((k : ℕ) → times k (freed_numbers (es ++ fs)) ≤ 1) → unlinked_numbers (es ++ fs) ≡ ks → unlinked_numbers es ≡ ks →
    ((k : ℕ) → Among k ks → times k (freed_numbers es) ≡ 0) → FreeLast (es ++ fs)
FreeLast-end es fs ks alone once all first apart = FreeLast-append es fs
    (FreeLast-natives es (λ e m. alone e (Among-left e es fs m)) (λ k. omega (arith, once k, times-append k es fs))
    (λ k m. apart k (subst (Among k) first m)))
    (FreeLast-natives fs (λ e m. alone e (Among-right e es fs m)) (λ k. omega (arith, once k, times-append k es fs))
    (λ k m. absurd (none k m)))
    (λ e m. not-again e fs (alone e (Among-left e es fs m))
    (λ k i. let some : 1 ≤ times k (freed_numbers es) = times-some k (freed_numbers es) (Among-flat_map freed_in e k es m i) in
    omega (arith, once k, times-append k es fs))
    (λ k i u. none k u))
  where
    nothing : unlinked_numbers fs ≡ []
    nothing = append-none (unlinked_numbers es) (unlinked_numbers fs) (sym (flat_map-append unlinked_in es fs) ∙ (all ∙ sym first))

    none : (k : ℕ) → ¬ (Among k (unlinked_numbers fs))
    none k m = subst (Among k) nothing m
