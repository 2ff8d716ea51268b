use Rattle.std.proofs.Common.{◌≡◌, ◌≢◌, List, Option, Result, Ok, Err, sym, ap, subst, ◌∙◌, arith}
use Rattle.cc_model.specs.declared.dialect.Dialect.{Dialect}
use Rattle.cc_model.specs.Telling.{Telling}
use Rattle.cc_reader.specs.declared.read_stop.ReadStop.{ReadStop}
use Rattle.cc_reader.specs.declared.read_stop.ReadStop.TheVariants as stop
use Rattle.cc_heaps.specs.Keyed.{Keyed}
use Rattle.cc_collector.specs.Kept.{Kept}
use Rattle.cc_weakrefs.specs.declared.noted.Noted.{Noted}
use Rattle.cc_replay.specs.Beside.{machine_beside}
use Rattle.cc_replay.specs.declared.answering.Next.{Next}
use Rattle.cc_replay.specs.declared.answering.Next.TheVariants.{End}
use Rattle.cc_replay.specs.declared.status.Status.{Status}
use Rattle.cc_replay.specs.declared.status.Status.TheVariants as status
use Rattle.cc_replay.specs.Answering.{EndsBy}
use Rattle.cc_replay.proofs.Answers.{Answers-none, Answers-still, Answers-more, Answers-first}
use Rattle.cc_replay.proofs.answering.answer_all.Goals as goal

-- where nothing moves, the machine does not
still_machine : {x y : Dialect} {v w : Keyed} {m n : List (Option Noted)} {b d : Kept} {t u : Telling} → (y ≡ x) × (w ≡ v) × (n ≡ m) × (d ≡ b) × (u ≡ t) →
    (y ≡ x) × (machine_beside w d n ≡ machine_beside v b m) × (u ≡ t)
still_machine {x} {y} {v} {w} {m} {n} {b} {d} same = (
  same.0,
  ap (λ (k : Keyed). machine_beside k d n) same.1 ∙ (ap (machine_beside v d) same.2 ∙ ap (λ c. machine_beside v c m) same.3),
  same.4,
)

pub lines-init : goal.lines-init
lines-init g c = search (Answers-none)

-- what holds of each way to end
by_ending : (came : Result Next ReadStop) (how : Status) (P : Status → Type 0) → EndsBy came how → (came ≡ Ok End → P status.Done) → (came ≡ Err stop.Fault → P status.ReadFault) →
    (came ≡ Err stop.Limit → P status.Limit) → P how
by_ending came how P h done fault limit = grind arith

-- nothing is told where a run ends
pub returns-in-Some-clause-sink : goal.returns-in-Some-clause-sink
returns-in-Some-clause-sink g c = grind (arith, by_ending)

pub returns-in-Some-clause-whole : goal.returns-in-Some-clause-whole
returns-in-Some-clause-whole g c = grind (arith, by_ending)

pub returns-in-Some-clause-written : goal.returns-in-Some-clause-written
returns-in-Some-clause-written g c = grind (arith, by_ending)

pub returns-in-Some-clause-calm : goal.returns-in-Some-clause-calm
returns-in-Some-clause-calm g c = grind (arith, by_ending)

pub returns-in-Some-clause-read : goal.returns-in-Some-clause-read
returns-in-Some-clause-read g c = grind (arith, c.answer_next.ensures.rose)

pub returns-in-Some-clause-limit : goal.returns-in-Some-clause-limit
returns-in-Some-clause-limit g c = c.answer_next.ensures.limit ∙ c.lines.invariant.limit

pub returns-in-Some-clause-reads : goal.returns-in-Some-clause-reads
returns-in-Some-clause-reads g c = λ start h. c.answer_next.ensures.reads start (c.lines.invariant.reads start h)

pub returns-in-Some-clause-source : goal.returns-in-Some-clause-source
returns-in-Some-clause-source g c = c.answer_next.ensures.same ∙ c.lines.invariant.source

-- it does not end by a write
never : (came : Result Next ReadStop) (how : Status) → EndsBy came how → how ≢ status.WriteFault
never came how h e = subst (λ (s : Status). EndsBy came s) e h

pub returns-in-Some-clause-first : goal.returns-in-Some-clause-first
returns-in-Some-clause-first g c = λ e. absurd (never c.answer_next.result c.in-Some.status c.in-Some.ensures.ending e)

pub returns-in-Some-clause-broken : goal.returns-in-Some-clause-broken
returns-in-Some-clause-broken g c = λ e. absurd (never c.answer_next.result c.in-Some.status c.in-Some.ensures.ending e)

pub returns-in-Some-clause-unwritten : goal.returns-in-Some-clause-unwritten
returns-in-Some-clause-unwritten g c = λ e. absurd (never c.answer_next.result c.in-Some.status c.in-Some.ensures.ending e)

pub returns-in-Some-clause-once : goal.returns-in-Some-clause-once
returns-in-Some-clause-once g c = λ e. absurd (never c.answer_next.result c.in-Some.status c.in-Some.ensures.ending e)

pub returns-in-Some-clause-others : goal.returns-in-Some-clause-others
returns-in-Some-clause-others g c = grind arith

pub returns-in-Some-clause-done : goal.returns-in-Some-clause-done
returns-in-Some-clause-done g c = grind (arith, Answers-still, still_machine, c.answer_next.ensures.whole, c.answer_next.ensures.quiet)

pub returns-in-Some-clause-fault : goal.returns-in-Some-clause-fault
returns-in-Some-clause-fault g c = grind (arith, Answers-still, still_machine, c.answer_next.ensures.fault)

pub returns-in-Some-clause-over : goal.returns-in-Some-clause-over
returns-in-Some-clause-over g c = grind (arith, Answers-still, still_machine, c.answer_next.ensures.over)

pub lines-preserved : goal.lines-preserved
lines-preserved g c =
    let was = c.ended_by.ensures.going c.in_default.is in
    let l = c.answer_next.ensures.answered was in
    let calm = rw was at c.answer_next.ensures.calm in
    record {
      lines = Answers-more c.lines.invariant.lines l;
      runs = c.answer_next.ensures.runs;
      keys = c.answer_next.ensures.keys;
      going = c.answer_next.ensures.going_on was;
      limit = c.answer_next.ensures.limit ∙ c.lines.invariant.limit;
      reads = λ start h. c.answer_next.ensures.reads start (c.lines.invariant.reads start h);
      whole = sym c.is_broken.ensures ∙ c.if-is_broken.false;
      calm = calm ∙ c.lines.invariant.calm;
      written = (l.2.answered.told.whole (sym c.is_broken.ensures ∙ c.if-is_broken.false)).faults ∙ c.lines.invariant.written;
      source = c.answer_next.ensures.same ∙ c.lines.invariant.source;
      sink = l.2.answered.told.sink ∙ c.lines.invariant.sink;
    }

pub returns-then-is_broken-clause-first : goal.returns-then-is_broken-clause-first
returns-then-is_broken-clause-first g c = search (Answers-first, Answers-more, c.ended_by.ensures.going, c.answer_next.ensures.answered)

pub returns-then-is_broken-clause-calm : goal.returns-then-is_broken-clause-calm
returns-then-is_broken-clause-calm g c = grind (arith, c.ended_by.ensures.going)

pub returns-then-is_broken-clause-sink : goal.returns-then-is_broken-clause-sink
returns-then-is_broken-clause-sink g c = grind (arith, c.answer_next.ensures.answered, c.ended_by.ensures.going)

pub returns-then-is_broken-clause-once : goal.returns-then-is_broken-clause-once
returns-then-is_broken-clause-once g c = grind (arith, c.answer_next.ensures.answered, c.ended_by.ensures.going)
