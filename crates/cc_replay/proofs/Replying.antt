-- THE ANSWER TO AN ASK, by what the plain run does.
use Rattle.std.specs.Prelude.{IsTrue}
use Rattle.std.proofs.Common.{◌≡◌, ◌≢◌, ℕ, Bool, true, false, List, [], ◌∷◌, ◌++◌, map, length, Option, Some, None, option_map, Ok, refl, sym, ◌∙◌, ap, subst, arith}
use Rattle.std.proofs.lemmas.Bool.{true≢false}
use Rattle.cc_names.specs.declared.name.Name.{Name}
use Rattle.cc_model.specs.declared.command.Command.{Command}
use Rattle.cc_model.specs.declared.command.Command.TheVariants as command
use Rattle.cc_model.specs.declared.item.Item.TheVariants.{Event as of_event, Listed, Reply as of_reply}
use Rattle.cc_model.specs.declared.item.Refusal.{Refusal}
use Rattle.cc_model.specs.declared.item.Refusal.TheVariants.{NoMemory}
use Rattle.cc_model.specs.declared.item.Reply.{Reply}
use Rattle.cc_model.specs.declared.item.Reply.TheVariants.{Refused, Census, Done}
use Rattle.cc_model.specs.Telling.{Telling, Tells, TellsEvents}
use Rattle.cc_model.specs.Answers.{items_of, item_of_step}
use Rattle.cc_model.specs.Derivations.{leads_in, path_to, is_led_to, done_or_nothing}
use Rattle.cc_model.specs.Ranges.{in_range}
use Rattle.cc_model.specs.Mutating.{is_applied, Class, Saying, path, census, says, does, forgets, reads_weak, class_of, takes_memory_to_say}
use Rattle.cc_model.specs.Asks.{taken}
use Rattle.cc_model.specs.Slots.{Slots}
use Rattle.cc_model.specs.Checks.{named_or_nothing, refusal_of, reply_if_taken}
use Rattle.cc_model.specs.Deeds.{deed_of}
use Rattle.cc_model.specs.Heap.{Heap, Outcome, objects_of}
use Rattle.cc_model.specs.Skipping.{forgotten}
use Rattle.cc_model.specs.Effects.{done_in, effects, hold_native, takes_memory}
use Rattle.cc_model.specs.Marking.{NewMarks, marking_after}
use Rattle.cc_model.specs.Lawful.{is_without_memory}
use Rattle.cc_model.specs.Run.{Turn, answering, with_effects, weak_after, after_units, after_gc, forget_suspects, beside_deed, if_granted, unless_refused, mutate, census_names, do_ask, turn_of, said, do_class}
use Rattle.cc_model.specs.Collecting.{Machine, UnitsDone, slice, collect, gc, mark, reply_to_units}
use Rattle.cc_model.specs.End.{Progress}
use Rattle.cc_model.proofs.Replies.{is_without_memory-true}
use Rattle.cc_model.proofs.Tellings.{Tells-trans}
use Rattle.cc_heaps.specs.Keyed.{Keyed}
use Rattle.cc_heaps.specs.NewMarks.{marks_of}
use Rattle.cc_heaps.proofs.ExposedMarks.{nothing-in}
use Rattle.cc_weakrefs.specs.declared.noted.Noted.{Noted}
use Rattle.cc_weakrefs.specs.Noting.{names_noted, usable_noted}
use Rattle.cc_mutator.specs.Applied.{IsCarriedOut, deed_by, deed_in, reply_in}
use Rattle.cc_mutator.proofs.Following.{mutator-cases}
use Rattle.cc_mutator.proofs.WeakRead.{reads-free, reads-taken}
use Rattle.cc_replay.specs.Answered.{IsAnswered}
use Rattle.cc_replay.specs.Beside.{machine_beside}
use Rattle.cc_replay.proofs.BesideWeak.{collect-weak, done_beside, gc-weak, mark-weak, slice-weak, with_weak}
use Rattle.cc_collector.specs.declared.collector.Ended.{Ended}
use Rattle.cc_collector.specs.Kept.{Kept}
use Rattle.cc_collector.specs.Collected.{LedTo, IsSliced, IsCollected, IsMarkedOn, IsSwept, progress_of}
use Rattle.cc_laws_run.specs.Memory.{SameMachine, with_memory}

-- A command that a line asks is one of the mutator, where it is none of these
pub others-applied : (c : Command) → IsTrue (in_range c) → c ≢ command.Nothing → c ≢ command.Version2 → c ≢ command.Forget → ((x : Name) → c ≢ command.Why x) → c ≢ command.Census → ((u : ℕ) → c ≢ command.Slice u) → c ≢ command.Collect → c ≢ command.Gc → ((u : ℕ) → c ≢ command.Mark u) → IsTrue (is_applied c)
others-applied c range no_line no_version no_forget no_why no_census no_slice no_collect no_gc no_mark = grind arith

-- the plain run does what the class of a command does
class-done : (m : Machine) (c : Command) (k : Class) → class_of c ≡ k → do_ask m (taken c) ≡ do_class m c k
unfolding do_ask
class-done m c k e = ap (do_class m c) e

-- a command of the mutator that reads no weak register does its deed
deed-mutates : (m : Machine) (c : Command) → class_of c ≡ does → do_ask m (taken c) ≡ mutate m c
deed-mutates m c e = class-done m c does e

mutate-by : (m : Machine) (c : Command) (o : Option Refusal) → refusal_of (objects_of m.heap) c ≡ o → mutate m c ≡ unless_refused m c o
unfolding mutate
mutate-by m c o e = ap (unless_refused m c) e

-- what a command of the mutator makes of a machine with these heaps
abbrev mutating : Machine → Command → Machine → Turn
mutating m c n = with_effects (beside_deed n (deed_of (objects_of m.heap) c)) (reply_if_taken (objects_of m.heap) c) (effects m.heap c)

-- where memory is there
granted : (m : Machine) (takes : Bool) (done : Machine → Turn) → if_granted (with_memory m []) takes done ≡ done (with_memory m [])
granted m true done = refl
granted m false done = refl

-- where it is not
denied : (m : Machine) (takes : Bool) (done : Machine → Turn) → takes ≡ true →
    if_granted (with_memory m (false ∷ [])) takes done ≡ answering (with_memory m []) [] (Refused NoMemory)
denied m true done e = refl
denied m false done e = absurd (cc)

-- what the deed of a command does, and a weak register read
deed-done : (h : Heap) (names : Slots) (c : Command) → class_of c ≡ does → done_in h (deed_by h names c) ≡ effects h c
unfolding effects
deed-done h names c e = ap (λ k. done_in h (deed_in h names c k)) e

read-done : (h : Heap) (names : Slots) (c : Command) (d w : ℕ) → class_of c ≡ reads_weak d w → done_in h (deed_by h names c) ≡ hold_native h d (usable_noted h names w)
unfolding done_in
read-done h names c d w e = ap (λ k. done_in h (deed_in h names c k)) e

-- a weak register read leaves the new marks
pub reads-unmarked : (h : Heap) (names : Slots) (c : Command) (d w : ℕ) → class_of c ≡ reads_weak d w → (old new : Option NewMarks) →
    new ≡ option_map (marking_after h (deed_by h names c)) old → new ≡ old
reads-unmarked h names c d w is old new e =
    e ∙ (ap (λ k. option_map (marking_after h (deed_in h names c k)) old) is ∙ sym (nothing-in h old))

module _ (old new : Machine) (before after : Telling) where
  -- by the turn
  by_turn : (c : Command) (memory : List Bool) (t : Turn) → do_ask (with_memory old memory) (taken c) ≡ t → SameMachine t.machine new →
      Tells before after (items_of t.answer) → IsAnswered old new (taken c) before after
  by_turn c memory t e same told = record {
    answer = t.answer;
    done = record {
      memory = memory;
      answer = ap (λ (s : Turn). s.answer) e;
      after = subst (λ (s : Turn). SameMachine s.machine new) (sym e) same;
    };
    told = told;
  }

  -- a deed carried out, with the new marks after it
  answered-done : (c : Command) → new.snapshot ≡ old.snapshot → (mid : Telling) (r : Reply) → class_of c ≡ does → refusal_of (objects_of old.heap) c ≡ None →
      new.marking ≡ option_map (marking_after old.heap (deed_of (objects_of old.heap) c)) old.marking →
      IsCarriedOut c old.heap new.heap old.weak new.weak r before mid → Tells mid after (of_reply r ∷ []) → IsAnswered old new (taken c) before after
  answered-done c same_snapshot mid r is none marks d t =
      let m = with_memory old [] in
      let deed = deed_of (objects_of old.heap) c in
      let does_it = deed-done old.heap old.weak c is in
      by_turn c [] (with_effects (beside_deed m deed) (reply_if_taken (objects_of old.heap) c) (effects old.heap c))
      (deed-mutates m c is ∙ (mutate-by m c None none ∙ granted old (takes_memory old.heap c) (mutating old c)))
      (record {
        heap = sym (d.heap ∙ ap (λ (o : Outcome). o.heap) does_it);
        weak = sym (d.weak_registers ∙ ap (λ k. weak_after old.weak (deed_in old.heap old.weak c k)) is);
        marking = sym marks;
        snapshot = sym same_snapshot;
      })
      (subst (λ (x : Reply). Tells before after (map of_event (effects old.heap c).events ++ of_reply x ∷ [])) (d.reply_is ∙ ap (reply_in old.heap old.weak c) is)
      (Tells-trans before mid after (map of_event (effects old.heap c).events) (of_reply r ∷ []) (subst (λ (o : Outcome). TellsEvents before mid o.events) does_it d.told) t))

  module _ (c : Command) (same_marking : new.marking ≡ old.marking) (same_snapshot : new.snapshot ≡ old.snapshot) where
    -- a weak register read
    answered-read : (mid : Telling) (r : Reply) (d w : ℕ) → class_of c ≡ reads_weak d w →
        IsCarriedOut c old.heap new.heap old.weak new.weak r before mid → Tells mid after (of_reply r ∷ []) → IsAnswered old new (taken c) before after
    answered-read mid r d w is done t =
        let m = with_memory old [] in
        let x = usable_noted old.heap old.weak w in
        let reads_it = read-done old.heap old.weak c d w is in
        by_turn c [] (with_effects m (named_or_nothing x) (hold_native old.heap d x))
        (class-done m c (reads_weak d w) is)
        (record {
          heap = sym (done.heap ∙ ap (λ (o : Outcome). o.heap) reads_it);
          weak = sym (done.weak_registers ∙ ap (λ k. weak_after old.weak (deed_in old.heap old.weak c k)) is);
          marking = sym same_marking;
          snapshot = sym same_snapshot;
        })
        (subst (λ (y : Reply). Tells before after (map of_event (hold_native old.heap d x).events ++ of_reply y ∷ [])) (done.reply_is ∙ ap (reply_in old.heap old.weak c) is)
        (Tells-trans before mid after (map of_event (hold_native old.heap d x).events) (of_reply r ∷ []) (subst (λ (o : Outcome). TellsEvents before mid o.events) reads_it done.told) t))

    -- nothing changed
    same-machine : (memory : List Bool) → new.heap ≡ old.heap → new.weak ≡ old.weak → SameMachine (with_memory old memory) new
    same-machine memory same noted = record { heap = sym same; weak = sym noted; marking = sym same_marking; snapshot = sym same_snapshot }

    -- refused memory
    answered-denied : class_of c ≡ does → refusal_of (objects_of old.heap) c ≡ None → takes_memory old.heap c ≡ true → new.heap ≡ old.heap → new.weak ≡ old.weak →
        Tells before after (of_reply (Refused NoMemory) ∷ []) → IsAnswered old new (taken c) before after
    answered-denied is none takes same noted t =
        by_turn c (false ∷ []) (answering (with_memory old []) [] (Refused NoMemory))
        (deed-mutates (with_memory old (false ∷ [])) c is ∙ (mutate-by (with_memory old (false ∷ [])) c None none ∙ denied old (takes_memory old.heap c) (mutating old c) takes))
        (same-machine [] same noted)
        t

    -- refused by the checks
    answered-refused : class_of c ≡ does → (r : Refusal) → refusal_of (objects_of old.heap) c ≡ Some r → new.heap ≡ old.heap → new.weak ≡ old.weak →
        Tells before after (of_reply (Refused r) ∷ []) → IsAnswered old new (taken c) before after
    answered-refused is r e same noted t =
        by_turn c [] (answering (with_memory old []) [] (Refused r))
        (deed-mutates (with_memory old []) c is ∙ mutate-by (with_memory old []) c (Some r) e)
        (same-machine [] same noted)
        t

  -- suspects that can be skipped lose their mark
  pub answered-forget : new.heap ≡ forgotten old.heap → new.weak ≡ old.weak → new.marking ≡ old.marking → new.snapshot ≡ old.snapshot →
      Tells before after (of_reply Done ∷ []) → IsAnswered old new (taken command.Forget) before after
  answered-forget heap noted same_marking same_snapshot t = by_turn command.Forget [] (forget_suspects (with_memory old []))
      (class-done (with_memory old []) command.Forget forgets refl)
      (record { heap = sym heap; weak = sym noted; marking = sym same_marking; snapshot = sym same_snapshot }) t

  -- what units came to, answered by a reply
  answered-units : (c : Command) (memory : List Bool) (d : UnitsDone) (p : Progress) (reply : Reply) (mid : Telling) → LedTo d old new p before mid →
      do_ask (with_memory old memory) (taken c) ≡ answering d.machine d.events reply → Tells mid after (of_reply reply ∷ []) → IsAnswered old new (taken c) before after
  answered-units c memory d p reply mid led e t = by_turn c memory (answering d.machine d.events reply) e led.same
      (Tells-trans before mid after (map of_event d.events) (of_reply reply ∷ []) led.told t)

-- UNITS, WHATEVER WEAK REGISTERS NOTE
module _ (weak : Slots) where
  -- what units came to, beside weak registers
  led-beside : (d : UnitsDone) (old new : Machine) (p : Progress) (before after : Telling) → LedTo d old new p before after →
      LedTo (done_beside weak d) (with_weak weak old) (with_weak weak new) p before after
  led-beside d old new p before after l = record {
    same = record { heap = l.same.heap; weak = refl; marking = l.same.marking; snapshot = l.same.snapshot };
    came_to = l.came_to;
    told = l.told;
    spares = l.spares;
    unreached = l.unreached;
  }

  module _ (old new : Machine) (before after : Telling) where
    -- a slice
    pub answered-slice : (units : ℕ) (p : Progress) (steps steps_now : ℕ) (reply : Reply) (mid : Telling) → IsSliced units old new p steps steps_now before mid →
        reply_to_units p ≡ reply → Tells mid after (of_reply reply ∷ []) → IsAnswered (with_weak weak old) (with_weak weak new) (taken (command.Slice units)) before after
    unfolding do_ask
    answered-slice units p steps steps_now reply mid s replies t =
        let d = slice units (with_memory old s.memory) in
        let same = slice-weak weak units (with_memory old s.memory) in
        answered-units (with_weak weak old) (with_weak weak new) before after (command.Slice units) s.memory (done_beside weak d) p reply mid (led-beside d old new p before mid s.led)
        (ap after_units same ∙ ap (answering (with_weak weak d.machine) d.events) (ap reply_to_units s.led.came_to ∙ replies)) t

    -- a collection
    pub answered-collect : (p : Progress) (reply : Reply) (mid : Telling) → IsCollected old new p before mid →
        reply_to_units p ≡ reply → Tells mid after (of_reply reply ∷ []) → IsAnswered (with_weak weak old) (with_weak weak new) (taken command.Collect) before after
    unfolding do_ask
    answered-collect p reply mid s replies t =
        let d = collect (with_memory old s.memory) in
        let same = collect-weak weak (with_memory old s.memory) in
        answered-units (with_weak weak old) (with_weak weak new) before after command.Collect s.memory (done_beside weak d) p reply mid (led-beside d old new p before mid s.led)
        (ap after_units same ∙ ap (answering (with_weak weak d.machine) d.events) (ap reply_to_units s.led.came_to ∙ replies)) t

    -- units of a marking
    pub answered-mark : (units : ℕ) (ended : Ended) (steps steps_now : ℕ) (mid : Telling) → IsMarkedOn units old new ended steps steps_now before mid →
        Tells mid after (of_reply Done ∷ []) → IsAnswered (with_weak weak old) (with_weak weak new) (taken (command.Mark units)) before after
    unfolding do_ask
    answered-mark units ended steps steps_now mid s t =
        let d = mark units (with_memory old s.memory) in
        answered-units (with_weak weak old) (with_weak weak new) before after (command.Mark units) s.memory (done_beside weak d) (progress_of (Ok ended)) Done mid
        (led-beside d old new (progress_of (Ok ended)) before mid s.led) (ap after_gc (mark-weak weak units (with_memory old s.memory))) t

    -- `gc`
    pub answered-gc : (mid : Telling) → IsSwept old new before mid → Tells mid after (of_reply Done ∷ []) → IsAnswered (with_weak weak old) (with_weak weak new) (taken command.Gc) before after
    unfolding do_ask
    answered-gc mid s t =
        let d = gc (with_memory old s.memory) in
        answered-units (with_weak weak old) (with_weak weak new) before after command.Gc s.memory (done_beside weak d) d.progress Done mid (led-beside d old new d.progress before mid s.led)
        (ap after_gc (gc-weak weak (with_memory old s.memory))) t

-- what stays is the same machine
same-still : (m : Machine) (memory : List Bool) → SameMachine (with_memory m memory) m
same-still m memory = record { heap = refl; weak = refl; marking = refl; snapshot = refl }

-- WHAT IS SAID, where there is memory
pub answered-said : (m : Machine) (c : Command) (q : Saying) (before after : Telling) → class_of c ≡ says q → Tells before after (items_of (said m.heap q)) →
    IsAnswered m m (taken c) before after
answered-said m c q before after is t = by_turn m m before after c [] (turn_of (with_memory m []) (said m.heap q))
    (class-done (with_memory m []) c (says q) is ∙ granted m (takes_memory_to_say q) (λ n. turn_of n (said m.heap q))) (same-still m []) t

-- `why`, where there is none
pub answered-no_memory : (m : Machine) (x : Name) (before after : Telling) → Tells before after (of_reply (Refused NoMemory) ∷ []) →
    IsAnswered m m (taken (command.Why x)) before after
answered-no_memory m x before after t = by_turn m m before after (command.Why x) (false ∷ []) (answering (with_memory m []) [] (Refused NoMemory))
    (class-done (with_memory m (false ∷ [])) (command.Why x) (says (path x)) refl) (same-still m []) t

-- `why`, where there is memory
pub answered-why : (m : Machine) (x : Name) (before mid after : Telling) → Tells before mid (map item_of_step (path_to (leads_in m.heap) x)) →
    Tells mid after (of_reply (done_or_nothing (is_led_to (leads_in m.heap) x)) ∷ []) → IsAnswered m m (taken (command.Why x)) before after
answered-why m x before mid after steps t = answered-said m (command.Why x) (path x) before after refl
    (Tells-trans before mid after (map item_of_step (path_to (leads_in m.heap) x)) (of_reply (done_or_nothing (is_led_to (leads_in m.heap) x)) ∷ []) steps t)

-- the census
pub answered-census : (m : Machine) (before mid after : Telling) → Tells before mid (map Listed (census_names m.heap)) →
    Tells mid after (of_reply (Census (length (census_names m.heap))) ∷ []) → IsAnswered m m (taken command.Census) before after
answered-census m before mid after listed t = answered-said m command.Census census before after refl
    (Tells-trans before mid after (map Listed (census_names m.heap)) (of_reply (Census (length (census_names m.heap))) ∷ []) listed t)

-- A COMMAND OF THE MUTATOR, by what applying it gives, and its reply
pub answered-applied : (c : Command) → IsTrue (is_applied c) → (old new : Keyed) (kept : Kept) (weak noted : List (Option Noted)) (before mid after : Telling) (r : Reply) →
    ((cause : Refusal) → refusal_of (objects_of old.heap) c ≡ Some cause → (r ≡ Refused cause) × (new ≡ old) × (noted ≡ weak) × (mid ≡ before)) →
    (refusal_of (objects_of old.heap) c ≡ None → r ≢ Refused NoMemory → IsCarriedOut c old.heap new.heap (names_noted weak) (names_noted noted) r before mid) →
    (r ≡ Refused NoMemory → (refusal_of (objects_of old.heap) c ≡ None) × (takes_memory old.heap c ≡ true) × (new ≡ old) × (noted ≡ weak) × (mid ≡ before)) →
    (refusal_of (objects_of old.heap) c ≡ None → r ≢ Refused NoMemory → marks_of new ≡ option_map (marking_after old.heap (deed_by old.heap (names_noted weak) c)) (marks_of old)) →
    Tells mid after (of_reply r ∷ []) → IsAnswered (machine_beside old kept weak) (machine_beside new kept noted) (taken c) before after
answered-applied c applied old new kept weak noted before mid after r refused done memory marks t =
    mutator-cases (λ k. class_of c ≡ k → IsAnswered m n (taken c) before after) (class_of c) applied by_deed by_reading refl
  where
    m : Machine
    m = machine_beside old kept weak

    n : Machine
    n = machine_beside new kept noted

    -- nothing was told before the reply
    after_reply : (s : Reply) → r ≡ s → mid ≡ before → Tells before after (of_reply s ∷ [])
    after_reply s e silent = subst (λ (x : Telling). Tells x after (of_reply s ∷ [])) silent (subst (λ (x : Reply). Tells mid after (of_reply x ∷ [])) e t)

    -- memory was not wanted in vain
    with-memory : is_without_memory r ≡ false → r ≢ Refused NoMemory
    with-memory e is = let both : false ≡ true = sym e ∙ ap is_without_memory is in absurd (cc)

    by_deed : class_of c ≡ does → IsAnswered m n (taken c) before after
    by_deed is = by_checks (refusal_of (objects_of old.heap) c) refl
      where
        by_memory : refusal_of (objects_of old.heap) c ≡ None → (b : Bool) → is_without_memory r ≡ b → IsAnswered m n (taken c) before after
        by_memory none true e =
            let lacks : r ≡ Refused NoMemory = is_without_memory-true r e in
            let f = memory lacks in
            answered-denied m n before after c (ap marks_of f.2) refl is f.0 f.1 (ap (λ (v : Keyed). v.heap) f.2) (ap names_noted f.3) (after_reply (Refused NoMemory) lacks f.4)
        by_memory none false e = answered-done m n before after c refl mid r is none
            (marks none (with-memory e) ∙ ap (λ k. option_map (marking_after old.heap (deed_in old.heap (names_noted weak) c k)) (marks_of old)) is)
            (done none (with-memory e)) t

        by_checks : (o : Option Refusal) → refusal_of (objects_of old.heap) c ≡ o → IsAnswered m n (taken c) before after
        by_checks (Some cause) e =
            let k = refused cause e in
            answered-refused m n before after c (ap marks_of k.1) refl is cause e (ap (λ (v : Keyed). v.heap) k.1) (ap names_noted k.2) (after_reply (Refused cause) k.0 k.3)
        by_checks None e = by_memory e (is_without_memory r) refl

    by_reading : (d w : ℕ) → class_of c ≡ reads_weak d w → IsAnswered m n (taken c) before after
    by_reading d w is = go (is_without_memory r) refl
      where
        go : (b : Bool) → is_without_memory r ≡ b → IsAnswered m n (taken c) before after
        go true e = absurd (true≢false (sym (memory (is_without_memory-true r e)).1 ∙ reads-free old.heap c d w is))
        go false e =
            let none = reads-taken (objects_of old.heap) c d w is in
            answered-read m n before after c (reads-unmarked old.heap (names_noted weak) c d w is (marks_of old) (marks_of new) (marks none (with-memory e))) refl mid r d w is
            (done none (with-memory e)) t
