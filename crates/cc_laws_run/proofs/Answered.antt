-- EACH ASK THAT MOVES NO COLLECTION IS ANSWERED LAWFULLY.
use Rattle.std.proofs.Common.{◌≡◌, ℕ, ◌+◌, ◌≤◌, true, not, List, [], ◌∷◌, map, Some, None, refl, sym, ◌∙◌, ap, subst, inl, inr, ⊎_elim, arith, false}
use Rattle.std.specs.Prelude.{IsTrue, nat_le}
use Rattle.std.proofs.lemmas.Bool.{true≢false, and_parts, le-leb}
use Rattle.cc_lists.specs.Members.{Among, without}
use Rattle.cc_lists.proofs.Members.{Among-map, Among-filter, Among-append}
use Rattle.cc_names.specs.declared.name.Name.{Name}
use Rattle.cc_names.specs.Names.{native, same_name, number_of}
use Rattle.cc_model.specs.declared.command.Command.{Command}
use Rattle.cc_model.specs.declared.item.Event.{Event}
use Rattle.cc_model.specs.declared.item.Refusal.{Refusal}
use Rattle.cc_model.specs.declared.item.Refusal.TheVariants.{NoMemory}
use Rattle.cc_model.specs.declared.item.Reply.{Reply}
use Rattle.cc_model.specs.declared.item.Reply.TheVariants.{Refused, Done}
use Rattle.cc_model.specs.Mutating.{Saying, silence, version, path, census, says, does, class_of, is_deed, is_mutator}
use Rattle.cc_model.specs.Asks.{taken}
use Rattle.cc_model.specs.Ranges.{in_range}
use Rattle.cc_model.specs.Checks.{refusal_of, reply_if_taken, refused_or}
use Rattle.cc_model.specs.Graph as graph
use Rattle.cc_model.specs.Graph.{Graph, step}
use Rattle.cc_model.specs.Reached.{Reached}
use Rattle.cc_model.specs.Heap.{objects_of}
use Rattle.cc_model.specs.Effects.{effects, takes_memory}
use Rattle.cc_model.specs.WellFormed.{native_names, script_names}
use Rattle.cc_model.specs.Counts.{times}
use Rattle.cc_model.specs.Lawful.{State, Explains, AnswersCommand, EachMayBe, is_refused, is_abandoning, is_abandonment, has_none, begins_with_at_most_one, has_abandonment_in_place, runs, runs_allowed, unlinked_numbers, AnswersClass, deed_may_want_memory, class_may_want_memory}
use Rattle.cc_model.specs.Collecting.{Machine}
use Rattle.cc_model.specs.Run.{Turn, turn_of, mutate, said, say}
use Rattle.cc_model.proofs.NoDeeds.{no_deed-replies}
use Rattle.cc_laws_heap.proofs.Freed.{freed_event}
use Rattle.cc_laws_heap.proofs.EndingEvents.{TellsOf-freed}
use Rattle.cc_laws_heap.proofs.NameLists.{same_name-other}
use Rattle.cc_laws_heap.proofs.References.{times-some, times-cons_same, times-cons}
use Rattle.cc_laws_heap.proofs.RepliesAlike.{refusal_of-alike, reply_if_taken-alike, objects-stand}
use Rattle.cc_laws_heap.proofs.Wanting.{takes-may_want}
use Rattle.cc_laws_heap.proofs.Taken.{IsTaken-from}
use Rattle.cc_laws_heap.proofs.CommandsStand.{freed-unreached}
use Rattle.cc_laws_heap.proofs.WalksAlike.{why-alike}
use Rattle.cc_laws_run.specs.Running.{IsRunning, moves_no_collection, moves_none}
use Rattle.cc_laws_run.proofs.Listing.{AreListed, native-listed, length-census_order}
use Rattle.cc_laws_run.proofs.NamesAfter.{NamesAfter, made_natives, made_scripts, effects-names}
use Rattle.cc_laws_run.proofs.ListedAfter.{AreListed-heap, has-listed_reflector, made-not_freed}
use Rattle.cc_laws_run.proofs.CommandCases.{mutate-cases, taken-not_refused, reply_with-deed, graph_after-taken, granted-cases}

-- the heaps refuse what the graph refuses
pub refusals-agree : (m : Machine) (s : State) (c : Command) → IsRunning m s → refusal_of (graph.objects_of s.graph) c ≡ refusal_of (objects_of m.heap) c
refusals-agree m s c r = sym (refusal_of-alike (objects_of m.heap) (graph.objects_of s.graph) (objects-stand m.heap s.graph r.stands) c)

-- the names of the heaps are listed
pub running-listed : (m : Machine) (s : State) → IsRunning m s → AreListed s.listed (native_names m.heap) (script_names m.heap)
running-listed m s r = AreListed-heap m.heap s.listed r.sound.well_formed r.listed

-- Events

-- free lines tell no abandonment
pub has_none-freed : (ks : List ℕ) → has_none (map freed_event ks) ≡ true
has_none-freed [] = refl
has_none-freed (k ∷ ks) = has_none-freed ks

-- where none is told, none stands behind the first event
none-first : (events : List Event) → has_none events ≡ true → begins_with_at_most_one events ≡ true
none-first [] e = refl
none-first (x ∷ events) e = (and_parts (not (is_abandonment x)) (has_none events) e).1

-- where no collection moves, an abandonment is out of place
pub abandonment-none : (c : Command) (reply : Reply) (events : List Event) → IsTrue (moves_no_collection (taken c)) → has_none events ≡ true →
    IsTrue (has_abandonment_in_place c reply events)
abandonment-none c reply events t e = grind (arith, none-first)

-- nothing unlinked makes no run
pub rising-none : (c : Command) (events : List Event) → unlinked_numbers events ≡ [] → IsTrue (nat_le (runs (unlinked_numbers events)) (runs_allowed c))
rising-none c events e = subst (λ ks. IsTrue (nat_le (runs ks) (runs_allowed c))) (sym e) (le-leb 0 (runs_allowed c) (omega arith))

-- distinct natives that were listed and that nothing reaches may be freed one after another
pub each-freed : (g : Graph) (c : Command) (ks : List ℕ) (names : List Name) → ((k : ℕ) → times k ks ≤ 1) → ((k : ℕ) → Among k ks → Among (native k) names) →
    ((k : ℕ) → Among k ks → ¬ (Reached g (native k))) → EachMayBe g names c (map freed_event ks)
each-freed g c [] names once there unreached = tt
each-freed g c (k ∷ ks) names once there unreached = (
  (there k (inl refl), unreached k (inl refl), refl),
  each-freed g c ks (without same_name (native k) names)
      (λ j. omega (arith, once j, times-cons j k ks))
      (λ j m. Among-filter (λ y. not (same_name y (native k))) (native j) names (there j (inr m))
      (ap not (same_name-other (native j) (native k) (λ e. later j m (ap number_of e)))))
      (λ j m. unreached j (inr m)),
)
  where
    later : (j : ℕ) → Among j ks → j ≡ k → ⊥
    later j m e =
        let first : times j (k ∷ ks) ≡ 1 + times j ks = subst (λ i. times j (i ∷ ks) ≡ 1 + times j ks) e (times-cons_same j ks) in
        absurd (omega (arith, once j, first, times-some j ks m))

-- Refusals

-- a command that the graph refuses
refused-answers : (s : State) (c : Command) (refusal : Refusal) → class_of c ≡ does → refusal_of (graph.objects_of s.graph) c ≡ Some refusal →
    IsTrue (moves_no_collection (taken c)) → AnswersCommand s c (Refused refusal) []
refused-answers s c refusal d e t = record {
  replies = inl (ap (λ o. refused_or o (reply_if_taken (graph.objects_of s.graph) c)) (sym e) ∙ sym (reply_with-deed s.ended s.graph c d));
  quiet = λ q. refl;
  each = tt;
  rising = rising-none c [] refl;
  abandonment = abandonment-none c (Refused refusal) [] t refl;
}

-- what takes memory may want it
deed-may_want : (m : Machine) (s : State) (c : Command) → IsRunning m s → takes_memory m.heap c ≡ true → IsTrue (deed_may_want_memory s c)
deed-may_want m s c r = takes-may_want m.heap s c r.stands (λ d n k e none. has-listed_reflector m.heap s.listed (native_names m.heap) k (running-listed m s r) ∙ none)

-- a deed moves no collection
deed-moves : (c : Command) → class_of c ≡ does → IsTrue (moves_no_collection (taken c))
deed-moves c e = ap moves_none e

-- a command that wants memory
unmet-answers : (m : Machine) (s : State) (c : Command) → IsRunning m s → refusal_of (objects_of m.heap) c ≡ None → takes_memory m.heap c ≡ true →
    class_of c ≡ does → AnswersCommand s c (Refused NoMemory) []
unmet-answers m s c r e f d = record {
  replies = inr (record { refused = refl; command_may = ap (class_may_want_memory s c) d ∙ deed-may_want m s c r f; no_other = refusals-agree m s c r ∙ e });
  quiet = λ q. refl;
  each = tt;
  rising = rising-none c [] refl;
  abandonment = abandonment-none c (Refused NoMemory) [] (deed-moves c d) refl;
}

-- Commands done

-- a command that is done
done-answers : (m : Machine) (s : State) (c : Command) → IsRunning m s → IsTrue (in_range c) → refusal_of (objects_of m.heap) c ≡ None → class_of c ≡ does →
    IsTrue (moves_no_collection (taken c)) → AnswersCommand s c (reply_if_taken (objects_of m.heap) c) (effects m.heap c).events
done-answers m s c r i e d t = record {
  replies = inl (reply_if_taken-alike (objects_of m.heap) (graph.objects_of s.graph) (objects-stand m.heap s.graph r.stands) c
      ∙ (sym (ap (λ o. refused_or o (reply_if_taken (graph.objects_of s.graph) c)) (refusals-agree m s c r ∙ e)) ∙ sym (reply_with-deed s.ended s.graph c d)));
  quiet = λ q. absurd (true≢false (sym (and_parts (is_refused reply) (not (is_abandoning c reply)) q).0 ∙ taken-not_refused (objects_of m.heap) c));
  each = subst (λ g. EachMayBe g s.listed c (effects m.heap c).events) (sym (graph_after-taken s.ended s.graph (objects_of m.heap) c d))
      (subst (λ es. EachMayBe (step s.graph c) s.listed c es) (sym n.told) (each-freed (step s.graph c) c ks s.listed n.once there unreached));
  rising = rising-none c (effects m.heap c).events (ap unlinked_numbers n.told ∙ (TellsOf-freed ks).unlinked_told);
  abandonment = abandonment-none c reply (effects m.heap c).events t (ap has_none n.told ∙ has_none-freed ks);
}
  where
    reply : Reply
    reply = reply_if_taken (objects_of m.heap) c

    names : (ks : List ℕ) × NamesAfter m.heap (effects m.heap c) ks (made_natives m.heap c) (made_scripts m.heap c)
    names = effects-names m.heap c r.sound i (IsTaken-from (objects_of m.heap) c e)

    ks : List ℕ
    ks = names.0

    n : NamesAfter m.heap (effects m.heap c) ks (made_natives m.heap c) (made_scripts m.heap c)
    n = names.1

    there : (k : ℕ) → Among k ks → Among (native k) s.listed
    there k j = native-listed s.listed (native_names m.heap) (script_names m.heap) (running-listed m s r) (native k)
        (⊎_elim (λ l. l) (λ l. absurd (made-not_freed m.heap s.graph c ks r.sound r.well_made r.stands i e n.told k j l))
        (Among-append (native k) (native_names m.heap) (made_natives m.heap c) (n.were_there k j)))

    unreached : (k : ℕ) → Among k ks → ¬ (Reached (step s.graph c) (native k))
    unreached k j = freed-unreached m.heap s.graph c (native k) r.sound r.well_made r.stands i e
        (subst (λ es. Among (freed_event k) es) (sym n.told) (Among-map freed_event k ks j))

-- A command of the mutator is answered lawfully.
pub mutate-answers : (m : Machine) (s : State) (c : Command) → IsRunning m s → IsTrue (in_range c) → class_of c ≡ does →
    AnswersClass s c (mutate m c).answer does
mutate-answers m s c r i d = mutate-cases m c (λ (u : Turn). AnswersClass s c u.answer does)
    (λ refusal e. (refl, refl, refused-answers s c refusal d (refusals-agree m s c r ∙ e) (deed-moves c d)))
    (λ e f. (refl, refl, unmet-answers m s c r e f d))
    (λ e memory. (refl, refl, done-answers m s c r i e d (deed-moves c d)))

-- What is said

-- what is no deed and moves no collection is done, where it is answered as a deed is
pub said-done : (s : State) (c : Command) → is_deed (class_of c) ≡ false → is_mutator (class_of c) ≡ false → IsTrue (moves_no_collection (taken c)) → AnswersCommand s c Done []
said-done s c none plain t = record {
  replies = inl (sym (no_deed-replies c none plain s.ended s.graph));
  quiet = λ q. refl;
  each = tt;
  rising = rising-none c [] refl;
  abandonment = abandonment-none c Done [] t refl;
}

-- a way is told as the graph tells it
path-answers : (m : Machine) (s : State) (x : Name) → IsRunning m s → Explains s.graph x (say m (path x)).answer
path-answers m s x r = granted-cases m true (λ n. turn_of n (said m.heap (path x))) (λ (u : Turn). Explains s.graph x u.answer)
    (λ e. inr refl)
    (λ memory. inl (why-alike m.heap s.graph r.sound.well_formed r.well_made r.stands x))

-- WHAT IS SAID is answered lawfully.
pub say-answers : (m : Machine) (s : State) (c : Command) (q : Saying) → IsRunning m s → class_of c ≡ says q → AnswersClass s c (say m q).answer (says q)
say-answers m s c silence r e = refl
say-answers m s c version r e = (refl, refl, said-done s c (ap is_deed e) (ap is_mutator e) (ap moves_none e))
say-answers m s c (path x) r e = path-answers m s x r
say-answers m s c census r e = grind (arith, length-census_order)
