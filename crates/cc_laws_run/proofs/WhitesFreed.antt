-- WHAT WAS WHITE WHEN A MARKING BEGAN IS FREED BY ITS END, whatever asks come between, but for what `wrap` answered.
use Rattle.std.specs.Prelude.{IsTrue, option_to_list}
use Rattle.std.proofs.Common.{◌≡◌, ℕ, zero, suc, ◌≤◌, Bool, true, false, ◌⊎◌, List, [], ◌∷◌, Option, Some, None, option_map, refl, sym, ◌∙◌, ap, subst, inl, inr, ⊎_elim, arith}
use Rattle.std.specs.List.{list_all}
use Rattle.std.proofs.lemmas.Bool.{true≢false, and_parts}
use Rattle.cc_lists.specs.Members.{Among}
use Rattle.cc_lists.proofs.Members.{Among-left, Among-right, Among_or_not}
use Rattle.cc_names.specs.declared.name.Name.{Name}
use Rattle.cc_names.specs.declared.register.Reg.TheVariants.{N, S, W}
use Rattle.cc_names.specs.Names.{same_name}
use Rattle.cc_names.proofs.NameTests.{same_name-exact}
use Rattle.cc_model.specs.declared.command.Command.{Command}
use Rattle.cc_model.specs.declared.command.Command.TheVariants.{Collect, Mark, Wrap, Drop, Get}
use Rattle.cc_model.specs.declared.item.Event.{Event}
use Rattle.cc_model.specs.declared.item.Event.TheVariants.{Freed}
use Rattle.cc_model.specs.declared.item.Refusal.{Refusal}
use Rattle.cc_model.specs.declared.item.Refusal.TheVariants.{NoMemory}
use Rattle.cc_model.specs.declared.item.Reply.TheVariants.{Refused}
use Rattle.cc_model.specs.Answers.{Answer, replying}
use Rattle.cc_model.specs.Mutating.{Class, so_many, whole, says, does, forgets, reads_weak, runs, collects_scripts, class_of, is_deed}
use Rattle.cc_model.specs.Asks.{Ask, long, bad, taken}
use Rattle.cc_model.specs.Ranges.{in_range}
use Rattle.cc_model.specs.Checks.{Objects, named_or_nothing, reflector_of, reply_if_taken}
use Rattle.cc_model.specs.Deeds.{Deed, deed_of}
use Rattle.cc_model.specs.Heap.{Heap, objects_of}
use Rattle.cc_model.specs.Effects.{effects}
use Rattle.cc_model.specs.Marking.{NewMarks, without_all, begun_marks, is_scanned, scanned, marking_after, ended_marks}
use Rattle.cc_model.specs.End.{went_on, at_end}
use Rattle.cc_model.specs.Lawful.{State, next}
use Rattle.cc_model.specs.Collecting.{Machine, UnitsDone, later_answers, slice_cycles, collect_cycles, no_units, starting_anew, finish_running, finish_marking, one_marked, units_marked, slice, collect, mark}
use Rattle.cc_model.specs.Run.{Turn, noted, mutate, say, forget_suspects, read_weak, after_gc, do_class, do_ask, turns, machine_after}
use Rattle.cc_laws_heap.specs.Sound.{IsSound}
use Rattle.cc_laws_heap.proofs.Taken.{IsTaken-from}
use Rattle.cc_laws_heap.proofs.MarkingBegun.{IsUnderMarking-begun, IsScannedSoFar-begun}
use Rattle.cc_laws_heap.proofs.Raising.{without_all-cases, without_all-in}
use Rattle.cc_laws_marking.specs.Unmarkable.{IsUnmarkable, not_marked, wrapped_by}
use Rattle.cc_laws_marking.proofs.Beside.{forgotten-keeps, hold_native-keeps}
use Rattle.cc_laws_marking.proofs.CommandsUnmarkable.{effects-unmarkable_left, unmarkable-alike}
use Rattle.cc_laws_marking.proofs.Unmarkable.{IsUnmarkable-begun, IsUnmarkable-scanned, unmarkable-freed}
use Rattle.cc_laws_marking.proofs.Wrapped.{wrapped-nowhere}
use Rattle.cc_laws_run.specs.Running.{IsRunning, IsMarking, IsMarkingNow, ask_in_range}
use Rattle.cc_laws_run.specs.Whites.{white_at_begin, named_in, wrapped_in, wrapped_over, events_over, drops_marking, keeps_marking}
use Rattle.cc_laws_run.proofs.CommandCases.{mutate-cases, say-leaves}
use Rattle.cc_laws_run.proofs.Finishing.{EndsSo, scanned-on, finish_marking-some}
use Rattle.cc_laws_run.proofs.MarkedUnits.{marked_by, marked_from}
use Rattle.cc_laws_run.proofs.BesideUnits.{finish-beside, units_marked-keep}
use Rattle.cc_laws_run.proofs.MarkLawful.{finish_running-none}
use Rattle.cc_laws_run.proofs.UnitLawful.{RunsOn}
use Rattle.cc_laws_run.proofs.UnitsLawful.{finish-lawful, finish-drops}
use Rattle.cc_laws_run.proofs.PlainLawful.{any-runs}

-- all of them are told freed
abbrev AreFreed : List Name → List Event → Type 0
AreFreed them es = (x : Name) → Among x them → Among (Freed x) es

-- Units of a marking that will not mark them

-- the marking goes on as it should, and will not mark them
record GoesOn (them : List Name) (d : UnitsDone) : Type 0 where
  sound : IsSound [] d.machine.heap
  marks : NewMarks
  goes_on : d.machine.marking ≡ Some marks
  on : IsMarking d.machine.heap marks d.machine.snapshot
  unmarkable : IsUnmarkable d.machine.heap marks them

-- it has ended, and they are freed
record HasEnded (them : List Name) (d : UnitsDone) : Type 0 where
  over : d.progress ≡ at_end
  freed : AreFreed them d.events

-- either
abbrev Whites : List Name → UnitsDone → Type 0
Whites them d = GoesOn them d ⊎ HasEnded them d

-- one unit
one_marked-whites : (them : List Name) (d : UnitsDone) → d.progress ≡ went_on → Whites them d → Whites them (one_marked d.machine d.events)
one_marked-whites them d e w = ⊎_elim
    (λ g. subst (λ (o : Option NewMarks). Whites them (marked_from d.machine d.events o)) (sym g.goes_on) (by_scanned g (is_scanned g.marks)))
    (λ o. absurd (other o.over)) w
  where
    h : Heap
    h = d.machine.heap

    other : d.progress ≡ at_end → ⊥
    other f = cc

    by_scanned : (g : GoesOn them d) → (b : Bool) → Whites them (marked_by d.machine d.events g.marks b)
    by_scanned g true = inr (record {
      over = refl;
      freed = λ x i. Among-right (Freed x) d.events (ended_marks h g.marks).events (unmarkable-freed h g.marks them g.on.under g.unmarkable g.sound x i);
    })
    by_scanned g false = inl (record {
      sound = g.sound;
      marks = scanned h g.marks;
      goes_on = refl;
      on = scanned-on h d.machine.snapshot g.sound g.marks g.on;
      unmarkable = IsUnmarkable-scanned h g.marks them g.on.under g.unmarkable g.on.so_far;
    })

-- more of them
units_marked-whites : (them : List Name) (n : ℕ) (d : UnitsDone) → Whites them d → Whites them (units_marked n d)
units_marked-whites them n d w = units_marked-keep (Whites them) (one_marked-whites them) n d w

-- THE FIRST ONE leaves what the least sets do not mark.
begun-whites : (d : UnitsDone) → IsSound [] d.machine.heap → d.machine.marking ≡ None → d.machine.snapshot ≡ None →
    Whites (not_marked d.machine.heap) (one_marked d.machine d.events)
begun-whites d s none alone =
    let h : Heap = d.machine.heap in
    subst (λ (o : Option NewMarks). Whites (not_marked h) (marked_from d.machine d.events o)) (sym none) (inl (record {
      sound = s;
      marks = begun_marks h;
      goes_on = refl;
      on = record { under = IsUnderMarking-begun h; so_far = IsScannedSoFar-begun h s; alone = alone };
      unmarkable = IsUnmarkable-begun h s;
    }))

-- A machine that will free them

record WillFree (them : List Name) (m : Machine) : Type 0 where
  marks : NewMarks
  goes_on : m.marking ≡ Some marks
  unmarkable : IsUnmarkable m.heap marks them

-- what units came to
came : (them : List Name) (d : UnitsDone) → Whites them d → WillFree them d.machine ⊎ AreFreed them d.events
came them d w = ⊎_elim
    (λ g. inl (record { marks = g.marks; goes_on = g.goes_on; unmarkable = g.unmarkable }))
    (λ o. inr o.freed) w

-- a marking begins under `mark`
mark-begins : (n : ℕ) (m : Machine) (s : State) → IsRunning m s → m.marking ≡ None → 1 ≤ n →
    WillFree (white_at_begin m) (mark n m).machine ⊎ AreFreed (white_at_begin m) (mark n m).events
unfolding mark
mark-begins zero m s r none few = absurd (omega (arith, few))
mark-begins (suc n) m s r none few =
    let d : UnitsDone = starting_anew (finish_running m) in
    let b : UnitsDone = one_marked d.machine d.events in
    let runs : RunsOn s.graph s.listed m.heap m.snapshot = record { sound = r.sound; colours = r.colours; fresh = r.fresh; stands = r.stands; listed = r.listed } in
    came (not_marked d.machine.heap) (units_marked n b) (units_marked-whites (not_marked d.machine.heap) n b
    (begun-whites d (finish-lawful s.graph r.well_made Collect refl s.listed m runs).still.sound ((finish-beside m).marking ∙ none)
    (finish-drops s.graph r.well_made Collect refl s.listed m runs)))

module _ (them : List Name) (m : Machine) (s : State) (r : IsRunning m s) (w : WillFree them m) where
  -- the marking goes on as it should
  on : IsMarking m.heap w.marks m.snapshot
  on = subst (λ (o : Option NewMarks). IsMarkingNow m.heap o m.snapshot) w.goes_on r.marking

  -- UNITS OF IT
  mark-whites : (n : ℕ) → WillFree them (mark n m).machine ⊎ AreFreed them (mark n m).events
  unfolding mark
  mark-whites n = subst (λ (d : UnitsDone). let e = units_marked n (starting_anew d) in WillFree them e.machine ⊎ AreFreed them e.events)
      (sym (finish_running-none m on.alone))
      (came them (units_marked n (no_units m)) (units_marked-whites them n (no_units m)
      (inl (record { sound = r.sound; marks = w.marks; goes_on = w.goes_on; on = on; unmarkable = w.unmarkable }))))

  -- marks that go on so
  record Manner (marks : NewMarks) : Type 0 where
    going : IsMarking m.heap marks m.snapshot
    unmarkable : IsUnmarkable m.heap marks them

  -- WHERE IT IS FINISHED they are freed.
  finished-whites : AreFreed them (finish_marking m).events
  finished-whites =
      let end : EndsSo m Manner (finish_marking m) = finish_marking-some m Manner
      (λ marks p. record {
        going = scanned-on m.heap m.snapshot r.sound marks p.going;
        unmarkable = IsUnmarkable-scanned m.heap marks them p.going.under p.unmarkable p.going.so_far;
      })
      w.marks w.goes_on (record { going = on; unmarkable = w.unmarkable }) in
      subst (λ (d : UnitsDone). AreFreed them d.events) (sym end.is_end)
      (λ x i. unmarkable-freed m.heap end.marks them end.manner.going.under end.manner.unmarkable r.sound x i)

  -- so it is with a slice
  slice-whites : (n : ℕ) → AreFreed them (slice n m).events
  unfolding slice
  slice-whites n x i =
      let b : UnitsDone = finish_marking m in
      Among-left (Freed x) b.events (slice_cycles n b.machine).events (finished-whites x i)

  -- and with a whole collection
  collect-whites : AreFreed them (collect m).events
  unfolding collect
  collect-whites x i =
      let b : UnitsDone = finish_marking m in
      Among-left (Freed x) b.events (collect_cycles b.machine).events (finished-whites x i)

-- Asks

-- where no command wraps, none is answered
wrapped-none : (c : Command) (a : Answer) → is_deed (class_of c) ≡ false → wrapped_in (taken c) a ≡ []
wrapped-none (Wrap d n) a e = absurd (true≢false e)
wrapped-none _ a e = refl

-- nor where one is refused
wrapped-refused : (c : Command) (refusal : Refusal) → wrapped_in (taken c) (replying [] (Refused refusal)) ≡ []
wrapped-refused (Wrap d n) refusal = refl
wrapped-refused _ refusal = refl

-- the name in the reply of what may be nothing
named-list : (x : Option Name) → named_in (Some (named_or_nothing x)) ≡ option_to_list x
named-list None = refl
named-list (Some x) = refl

-- WHAT IS WRAPPED IS ANSWERED.
wrapped-answered : (o : Objects) (c : Command) (es : List Event) → wrapped_in (taken c) (replying es (reply_if_taken o c)) ≡ wrapped_by (deed_of o c)
unfolding reply_if_taken deed_of
wrapped-answered o (Wrap d s) es = named-list (reflector_of (o.register (N s)))
wrapped-answered o (Drop (N d)) es = refl
wrapped-answered o (Drop (S d)) es = refl
wrapped-answered o (Drop (W w)) es = refl
wrapped-answered o (Get (N d) s i) es = refl
wrapped-answered o (Get (S d) s i) es = refl
wrapped-answered o (Get (W w) s i) es = refl
wrapped-answered o _ es = refl

-- what a turn leaves: the marking goes on and will free them but for what was answered, or it has ended
abbrev Leaves : List Name → Ask → Turn → Type 0
Leaves them ask t = WillFree (without_all (wrapped_in ask t.answer) them) t.machine ⊎ AreFreed them t.answer.events

-- where nothing was answered it will free all of them
still : (them : List Name) (m : Machine) (none : List Name) → none ≡ [] → WillFree them m → WillFree (without_all none them) m
still them m none e w = subst (λ l. WillFree (without_all l them) m) (sym e) (record {
  marks = w.marks;
  goes_on = w.goes_on;
  unmarkable = unmarkable-alike m.heap w.marks them (without_all [] them) (λ x i. without_all-in [] them x i (λ none. absurd none))
      (λ x i. (without_all-cases [] them x i).0) w.unmarkable;
})

-- what keeps a marking does not drop it
not_dropped : (b : Bool) → IsTrue (elim b [ true ↦ false | false ↦ true ]) → b ≡ false
not_dropped true keeps = absurd (true≢false (sym keeps))
not_dropped false keeps = refl

module _ (them : List Name) (m : Machine) (s : State) (r : IsRunning m s) (w : WillFree them m) where
  -- a deed
  mutate-whites : (c : Command) → IsTrue (in_range c) → Leaves them (taken c) (mutate m c)
  mutate-whites c i = mutate-cases m c (Leaves them (taken c))
      (λ refusal e. inl (still them m (wrapped_in (taken c) (replying [] (Refused refusal))) (wrapped-refused c refusal) w))
      (λ e takes. inl (still them (record m { memory = later_answers m.memory }) (wrapped_in (taken c) (replying [] (Refused NoMemory))) (wrapped-refused c NoMemory)
      (record { marks = w.marks; goes_on = w.goes_on; unmarkable = w.unmarkable })))
      (λ e memory.
      let d : Deed = deed_of (objects_of m.heap) c in
      let u = on them m s r w in
      inl (record {
        marks = marking_after m.heap d w.marks;
        goes_on = ap (option_map (marking_after m.heap d)) w.goes_on;
        unmarkable = subst (λ l. IsUnmarkable (effects m.heap c).heap (marking_after m.heap d w.marks) (without_all l them))
            (sym (wrapped-answered (objects_of m.heap) c (effects m.heap c).events))
            (effects-unmarkable_left m.heap w.marks them c r.sound u.under w.unmarkable i (IsTaken-from (objects_of m.heap) c e)
            (λ x k l. wrapped-nowhere m.heap s.graph c r.sound r.stands i (IsTaken-from (objects_of m.heap) c e) x k (w.unmarkable.held x l)
            (u.under.there x (u.under.within x (w.unmarkable.unmarked x l)))));
      }))

  -- a command of each class, but for one that drops the marking
  class-whites : (c : Command) → IsTrue (in_range c) → (k : Class) → class_of c ≡ k → drops_marking k ≡ false → Leaves them (taken c) (do_class m c k)
  class-whites c i (says q) e keeps = inl (still them (say m q).machine (wrapped_in (taken c) (say m q).answer) (wrapped-none c (say m q).answer (ap is_deed e))
      (say-leaves m q (WillFree them) (λ memory. record { marks = w.marks; goes_on = w.goes_on; unmarkable = w.unmarkable })))
  class-whites c i does e keeps = mutate-whites c i
  class-whites c i forgets e keeps =
      let t : Turn = forget_suspects m in
      inl (still them t.machine (wrapped_in (taken c) t.answer) (wrapped-none c t.answer (ap is_deed e))
      (record { marks = w.marks; goes_on = w.goes_on; unmarkable = (forgotten-keeps m.heap).unmarkable w.marks them w.unmarkable }))
  class-whites c i (reads_weak d v) e keeps =
      let t : Turn = read_weak m d v in
      inl (still them t.machine (wrapped_in (taken c) t.answer) (wrapped-none c t.answer (ap is_deed e))
      (record { marks = w.marks; goes_on = w.goes_on; unmarkable = (hold_native-keeps m.heap d (noted m v)).unmarkable w.marks them w.unmarkable }))
  class-whites c i (runs (so_many n)) e keeps = inr (slice-whites them m s r w n)
  class-whites c i (runs whole) e keeps = inr (collect-whites them m s r w)
  class-whites c i (collects_scripts whole) e keeps = absurd (true≢false keeps)
  class-whites c i (collects_scripts (so_many n)) e keeps =
      let t : Turn = after_gc (mark n m) in
      ⊎_elim
      (λ on. inl (still them t.machine (wrapped_in (taken c) t.answer) (wrapped-none c t.answer (ap is_deed e)) on))
      (λ freed. inr freed) (mark-whites them m s r w n)

  -- AN ASK
  ask-whites : (ask : Ask) → IsTrue (ask_in_range ask) → IsTrue (keeps_marking ask) → Leaves them ask (do_ask m ask)
  unfolding do_ask
  ask-whites long i keeps = inl (still them m [] refl w)
  ask-whites bad i keeps = inl (still them m [] refl w)
  ask-whites (taken c) i keeps = class-whites c i (class_of c) refl (not_dropped (drops_marking (class_of c)) keeps)

-- what is not wrapped is left
wrapped_or_left : (shown them : List Name) (x : Name) → Among x them → Among x shown ⊎ Among x (without_all shown them)
wrapped_or_left shown them x i = ⊎_elim (λ a. inl a) (λ d. inr (without_all-in shown them x i d)) (Among_or_not same_name same_name-exact shown x)

-- ASKS IN A ROW
asks-whites : (them : List Name) (m : Machine) (s : State) (asks : List Ask) → IsRunning m s → IsTrue (list_all ask_in_range asks) → IsTrue (list_all keeps_marking asks) →
    WillFree them m → (machine_after m asks).marking ≡ None → (x : Name) → Among x them →
    Among (Freed x) (events_over (turns m asks)) ⊎ Among x (wrapped_over asks (turns m asks))
asks-whites them m s [] r i k w e x j = absurd (going w e)
  where
    going : (w : WillFree them m) → m.marking ≡ None → ⊥
    going w e = let f : Some w.marks ≡ None = sym w.goes_on ∙ e in cc
asks-whites them m s (ask ∷ asks) r i k w e x j =
    let t : Turn = do_ask m ask in
    let in_range = and_parts (ask_in_range ask) (list_all ask_in_range asks) i in
    let keeps = and_parts (keeps_marking ask) (list_all keeps_marking asks) k in
    let shown : List Name = wrapped_in ask t.answer in
    let later : List Answer = turns t.machine asks in
    ⊎_elim
    (λ will. ⊎_elim
    (λ a. inr (Among-left x shown (wrapped_over asks later) a))
    (λ l. ⊎_elim (λ f. inl (Among-right (Freed x) t.answer.events (events_over later) f)) (λ g. inr (Among-right x shown (wrapped_over asks later) g))
    (asks-whites (without_all shown them) t.machine (next s ask t.answer) asks (any-runs m s ask r in_range.0) in_range.1 keeps.1 will e x l))
    (wrapped_or_left shown them x j))
    (λ freed. inl (Among-left (Freed x) t.answer.events (events_over later) (freed x j)))
    (ask-whites them m s r w ask in_range.0 keeps.0)

-- THE LAW
pub run-whites : (m : Machine) (s : State) (n : ℕ) (asks : List Ask) (x : Name) → IsRunning m s → m.marking ≡ None → 1 ≤ n →
    IsTrue (list_all ask_in_range asks) → IsTrue (list_all keeps_marking asks) → Among x (white_at_begin m) →
    (machine_after m (taken (Mark n) ∷ asks)).marking ≡ None →
    Among (Freed x) (events_over (turns m (taken (Mark n) ∷ asks))) ⊎ Among x (wrapped_over (taken (Mark n) ∷ asks) (turns m (taken (Mark n) ∷ asks)))
unfolding do_ask
run-whites m s n asks x r none few i k j e =
    let first : Ask = taken (Mark n) in
    let d : UnitsDone = mark n m in
    let t : Turn = after_gc d in
    let later : List Answer = turns t.machine asks in
    ⊎_elim
    (λ will. ⊎_elim (λ f. inl (Among-right (Freed x) d.events (events_over later) f)) (λ g. inr g)
    (asks-whites (white_at_begin m) t.machine (next s first t.answer) asks (any-runs m s first r refl) i k will e x j))
    (λ freed. inl (Among-left (Freed x) d.events (events_over later) (freed x j)))
    (mark-begins n m s r none few)
