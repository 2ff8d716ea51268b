use Rattle.std.proofs.Common.{◌≡◌, ℕ, Bool, List, [], ◌∷◌, Option, Some, None, sym, ap, subst, IsSome, MatchOption}
use Rattle.cc_names.specs.declared.number.NKey.{NKey}
use Rattle.cc_counted.specs.Counts.{Counts}
use Rattle.cc_counted.specs.Counts as counts
use Rattle.cc_heaps.specs.declared.heaps.Heaps.TheInside.{Inside}
use Rattle.cc_heaps.specs.Keyed.{Keyed, the_number, number_at, IsInOrder, changed_to}
use Rattle.cc_heaps.specs.Fields.{keyed_of, IsLinked}
use Rattle.cc_heaps.proofs.Linked.{with_counted}
use Rattle.cc_heaps.proofs.Ordered.{IsInOrder-tail}
use Rattle.cc_heaps.proofs.FewCounts.{few-owned}
use Rattle.cc_heaps.proofs.KeysKept.{KeepsKeys-front}
use Rattle.cc_heaps.proofs.StandingStill.{front-goes_on}
use Rattle.cc_heaps.proofs.heaps.Heaps.select_next.Goals as goal
use Rattle.cc_model.specs.Heap.{buffered_as}

-- a key and its mark
abbrev Front : Type 0
Front = NKey × Bool

-- the front of the buffer, where there is one
abbrev TakesFront : Counts → Counts → Option Front → Type 0
TakesFront c d o = MatchOption o ((c.buffer ≡ []) × (d ≡ c))
    (λ front. (c.buffer ≡ buffered_as (counts.the_number c front.0.0) front.1 ∷ d.buffer) × (d ≡ record c { buffer = d.buffer }) × IsSome (counts.number_at c front.0.0))

module _ (p : Inside) (d : Counts) where
  abbrev before : Keyed
  before = keyed_of p

  abbrev after : Keyed
  after = keyed_of (with_counted p d)

  taken-front : (o : Option Front) → TakesFront p.counted d o → MatchOption o ((p.counted.buffer ≡ []) × (after ≡ before))
      (λ front. (p.counted.buffer ≡ buffered_as (the_number before front.0.0) front.1 ∷ d.buffer)
      × (after ≡ changed_to before (record before.heap { buffer = d.buffer })) × IsSome (number_at before front.0.0))
  taken-front None t = (t.0, ap (λ e. keyed_of (with_counted p e)) t.1)
  taken-front (Some front) t = (t.0, ap (λ e. keyed_of (with_counted p e)) t.1, t.2)

  linked-front : IsLinked p → (o : Option Front) → TakesFront p.counted d o → IsLinked (with_counted p d)
  linked-front l None t = subst (λ e. IsLinked (with_counted p e)) (sym t.1) l
  linked-front l (Some front) t = subst (λ e. IsLinked (with_counted p e)) (sym t.1) (record {
    native_registers = l.native_registers;
    script_registers = l.script_registers;
    registers = l.registers;
    held = l.held;
    one_key = l.one_key;
    one_name = l.one_name;
    reflectors = l.reflectors;
    script_names = l.script_names;
    room = l.room;
  })

  ordered-front : (owned : List ℕ) → IsInOrder owned before → (o : Option Front) → TakesFront p.counted d o → IsInOrder owned after
  ordered-front owned f None t = subst (λ e. IsInOrder owned (keyed_of (with_counted p e))) (sym t.1) f
  ordered-front owned f (Some front) t = subst (λ e. IsInOrder owned (keyed_of (with_counted p e))) (sym t.1)
      (IsInOrder-tail owned before (buffered_as (counts.the_number p.counted front.0.0) front.1) d.buffer t.0 f)

pub invariant_of-self : goal.invariant_of-self
invariant_of-self c = linked-front c.self.inside c.select_next.new.self c.self.invariant c.select_next.result c.select_next.ensures.front

pub returns-clause-front : goal.returns-clause-front
returns-clause-front c = rw (← c.self.view_is) (taken-front c.self.inside c.select_next.new.self c.select_next.result c.select_next.ensures.front)

pub returns-clause-stands : goal.returns-clause-stands
returns-clause-stands c = (front-goes_on c.args.self.now _ c.select_next.result (returns-clause-front c)).stands

pub returns-clause-kept : goal.returns-clause-kept
returns-clause-kept c = record {
  keys = KeepsKeys-front c.args.self.now _ c.select_next.result (returns-clause-front c);
  order = λ owned. (rw (← c.self.view_is) (λ o. ordered-front c.self.inside c.select_next.new.self owned o c.select_next.result c.select_next.ensures.front));
  counts = few-owned _;
  colours = (front-goes_on c.args.self.now _ c.select_next.result (returns-clause-front c)).colours;
  fresh = tt;
  suspected = tt;
  marks = tt;
}
