-- WHAT HAS ENDED IS NOT REACHED, and stays so: what is given is in the heaps as it is in the graph, and was not unlinked.
use Rattle.std.specs.Prelude.{IsTrue}
use Rattle.std.specs.List.{list_all}
use Rattle.std.proofs.Common.{◌≡◌, ℕ, ◌≤◌, Bool, true, false, not, ◌||◌, List, [], ◌∷◌, ◌++◌, Option, Some, None, option_map, refl, sym, ◌∙◌, ap, subst}
use Rattle.std.proofs.lemmas.Bool.{true≢false}
use Rattle.cc_lists.specs.Members.{Among}
use Rattle.cc_lists.proofs.Members.{has-there}
use Rattle.cc_names.specs.Allowance.{Allowance}
use Rattle.cc_names.specs.declared.name.Name.{Name}
use Rattle.cc_names.specs.Names.{native, same_name}
use Rattle.cc_names.proofs.NameTests.{same_name-exact}
use Rattle.cc_model.specs.Heap.{HeapNative, native_at}
use Rattle.cc_model.specs.Given.{Given, is_usable_native, is_usable}
use Rattle.cc_model.specs.StandsFor.{Shape, shape_at, shape_of_held_native}
use Rattle.cc_model.specs.Reached.{Reached}
use Rattle.cc_model.specs.Asks.{Ask, long, bad, taken}
use Rattle.cc_model.specs.Answers.{Answer}
use Rattle.cc_model.specs.Lawful.{State, start, next}
use Rattle.cc_model.specs.Collecting.{Machine, empty_machine}
use Rattle.cc_model.specs.Run.{turns, machine_after, plain_run}
use Rattle.cc_laws_heap.proofs.Given.{Reached-given}
use Rattle.cc_laws_heap.proofs.Natives.{native_at-there, native_at-number}
use Rattle.cc_laws_run.specs.Running.{IsRunning, ask_in_range, state_after}
use Rattle.cc_laws_run.proofs.EndedAfter.{ended-stays}
use Rattle.cc_laws_run.proofs.FollowedBack.{state_after-append}
use Rattle.cc_laws_run.proofs.WholeRuns.{run-runs}

-- what has ended before an ask has so after it
next-stays : (s : State) (ask : Ask) (a : Answer) (x : Name) → Among x s.ended → Among x (next s ask a).ended
next-stays s long a x m = m
next-stays s bad a x m = m
next-stays s (taken c) a x m = ended-stays a.events s.ended x m

-- beside a machine that runs no native that has ended is reached
running-unreached : (m : Machine) (s : State) → IsRunning m s → (k : ℕ) → Among (native k) s.ended → ¬ (Reached s.graph (native k))
running-unreached m s r k e d = of (native_at m.heap k) refl
  where
    led : Given m.heap s.graph (native k)
    led = Reached-given m.heap s.graph (native k) d

    there : (shape : Shape) × (shape_at m.heap (native k) ≡ Some shape)
    there = let i = r.stands.given (native k) led in (i.shape, i.there)

    -- it is not usable
    spoiled : (n : HeapNative) → native_at m.heap k ≡ Some n → n.unlinked ≡ true
    spoiled n e0 = go n.unlinked refl
      where
        in_range : 1 ≤ k
        in_range = subst (λ j. 1 ≤ j) (native_at-number m.heap k n e0) (r.sound.well_formed.native_numbers n (native_at-there m.heap k n e0)).0

        usable : n.unlinked ≡ false → is_usable m.heap (native k) ≡ true
        usable u = ap (λ (o : Option HeapNative). is_usable_native o || false) e0 ∙ ap (λ b. not b || false) u

        go : (b : Bool) → n.unlinked ≡ b → b ≡ true
        go true u = refl
        go false u = absurd (true≢false (sym (has-there same_name same_name-exact s.ended (native k) e) ∙ r.ended k in_range (r.ended_made k e) ∙ ap not (usable u)))

    of : (o : Option HeapNative) → native_at m.heap k ≡ o → ⊥
    of None e0 = absurd (gone (sym there.1 ∙ ap (option_map shape_of_held_native) e0))
      where
        gone : Some there.0 ≡ None → ⊥
        gone q = cc
    of (Some n) e0 = r.stands.spent n (native_at-there m.heap k n e0) (spoiled n e0)
        (subst (λ j. Given m.heap s.graph (native j)) (sym (native_at-number m.heap k n e0)) led)

-- what has ended has so after later asks
after-stays : (s : State) (asks : List Ask) (answers : List Answer) (x : Name) → Among x s.ended → Among x (state_after s asks answers).ended
after-stays s [] answers x m = m
after-stays s (ask ∷ asks) [] x m = m
after-stays s (ask ∷ asks) (a ∷ answers) x m = after-stays (next s ask a) asks answers x (next-stays s ask a x m)

-- WHAT HAS ENDED IS NOT REACHED after the asks of a run, nor after later ones.
pub run-unreached : (limits : Allowance) (memory : List Bool) (asks later : List Ask) → IsTrue (list_all ask_in_range (asks ++ later)) → (k : ℕ) →
    Among (native k) (state_after (start limits) asks (plain_run limits memory asks)).ended →
    ¬ (Reached (state_after (start limits) (asks ++ later) (plain_run limits memory (asks ++ later))).graph (native k))
run-unreached limits memory asks later range k e =
    let m = machine_after (empty_machine limits memory) asks in
    let s = state_after (start limits) asks (plain_run limits memory asks) in
    running-unreached (machine_after (empty_machine limits memory) (asks ++ later))
    (state_after (start limits) (asks ++ later) (plain_run limits memory (asks ++ later)))
    (run-runs limits memory (asks ++ later) range) k
    (subst (λ (t : State). Among (native k) t.ended) (sym (state_after-append (empty_machine limits memory) (start limits) asks later))
    (after-stays s later (turns m later) (native k) e))
