-- A COLLECTION TELLS FEW ITEMS, as the law of what collections tell says of the plain run.
use Rattle.std.proofs.Common.{◌≡◌, ℕ, ◌+◌, ◌≤◌, Bool, List, [], ◌++◌, length, Option, None, Ok, sym, ◌∙◌, subst, arith}
use Rattle.std.proofs.lemmas.List.{length-append}
use Rattle.cc_model.specs.declared.item.Event.{Event}
use Rattle.cc_model.specs.Heap.{Heap}
use Rattle.cc_model.specs.End.{Progress, at_end}
use Rattle.cc_model.specs.Marking.{NewMarks}
use Rattle.cc_model.specs.Collecting.{Machine, UnitsDone, slice, collect, gc, mark}
use Rattle.cc_model.specs.Telling.{Telling, TellsEvents}
use Rattle.cc_model.proofs.Tellings.{TellsEvents-trans}
use Rattle.cc_laws_heap.specs.Sound.{IsSound}
use Rattle.cc_laws_run.specs.Memory.{with_memory}
use Rattle.cc_laws_run.specs.Running.{IsMarkingNow}
use Rattle.cc_laws_run.proofs.Face.{gc-unmarked}
use Rattle.cc_laws_told.specs.Told as law
use Rattle.cc_laws_told.specs.Told.{objects}
use Rattle.cc_laws_told.proofs.Face.{collect-drops, collect-tells, collect_alone-tells, gc-tells, gc_alone-tells, gc-drops, mark-tells, slice-tells}
use Rattle.cc_collector.specs.Collected.{LedTo, IsSliced, IsCollected, IsMarkedOn, IsSwept, progress_of}
use Rattle.cc_collector.specs.declared.collector.Ended.{Ended}
use Rattle.cc_collector.specs.Settled.{IsCollectedAfterGc, IsSettled}
use Rattle.cc_host.specs.Calls.{TellsFew}
use Rattle.cc_host.specs.Hosted.{Hosted}

-- from some heaps to others few items were told, no object came, and the heaps are sound
pub record AreFew (besides : ℕ) (h k : Heap) (before after : Telling) : Type 0 where
  events : List Event
  told : TellsEvents before after events
  few : length events + objects k ≤ objects h + besides
  natives : length k.natives ≤ length h.natives
  scripts : length k.scripts ≤ length h.scripts
  pub sound : IsSound [] k

-- one after another,
AreFew-then : (a b : ℕ) (h k l : Heap) (t t₁ t₂ : Telling) → AreFew a h k t t₁ → AreFew b k l t₁ t₂ → AreFew (a + b) h l t t₂
AreFew-then a b h k l t t₁ t₂ p q = record {
  events = p.events ++ q.events;
  told = TellsEvents-trans t t₁ t₂ p.events q.events p.told q.told;
  few = omega (arith, length-append p.events q.events, p.few, q.few);
  natives = omega (arith, p.natives, q.natives);
  scripts = omega (arith, p.scripts, q.scripts);
  sound = q.sound;
}

-- or within a wider bound
AreFew-more : (a b : ℕ) (h k : Heap) (t t₁ : Telling) → a ≤ b → AreFew a h k t t₁ → AreFew b h k t t₁
AreFew-more a b h k t t₁ more p = record {
  events = p.events;
  told = p.told;
  few = omega (arith, more, p.few);
  natives = p.natives;
  scripts = p.scripts;
  sound = p.sound;
}

-- a host has told few then
pub few-told : (besides : ℕ) (old new : Hosted) (t t₁ : Telling) → AreFew besides old.heaps.heap new.heaps.heap t t₁ → TellsFew besides old new t t₁
unfolding TellsFew
few-told besides old new t t₁ f = (f.events, f.told, record { told = f.few; natives = f.natives; scripts = f.scripts })

-- units that led from one machine to another
led-few : (besides : ℕ) (d : UnitsDone) (m n : Machine) (memory : List Bool) (p : Progress) (t t₁ : Telling) → LedTo d m n p t t₁ → law.TellsFew besides (with_memory m memory) d →
    AreFew besides m.heap n.heap t t₁
led-few besides d m n memory p t t₁ l f = record {
  events = d.events;
  told = l.told;
  few = subst (λ (h : Heap). length d.events + objects h ≤ objects m.heap + besides) l.same.heap f.told;
  natives = subst (λ (h : Heap). length h.natives ≤ length m.heap.natives) l.same.heap f.natives;
  scripts = subst (λ (h : Heap). length h.scripts ≤ length m.heap.scripts) l.same.heap f.scripts;
  sound = subst (IsSound []) l.same.heap f.sound;
}

module _ (m n : Machine) (t t₁ : Telling) (sound : IsSound [] m.heap) (marking : IsMarkingNow m.heap m.marking m.snapshot) where
  -- A SLICE
  pub sliced-few : (units : ℕ) (p : Progress) (steps steps_now : ℕ) → IsSliced units m n p steps steps_now t t₁ → AreFew (length m.heap.natives + 1) m.heap n.heap t t₁
  sliced-few units p steps steps_now s =
      led-few (length m.heap.natives + 1) (slice units (with_memory m s.memory)) m n s.memory p t t₁ s.led (slice-tells units (with_memory m s.memory) sound marking)

  -- A COLLECTION, before which a running one was ended,
  pub collected-few : (p : Progress) → IsCollected m n p t t₁ → AreFew (length m.heap.natives + (length m.heap.natives + 1)) m.heap n.heap t t₁
  collected-few p s =
      led-few (length m.heap.natives + (length m.heap.natives + 1)) (collect (with_memory m s.memory)) m n s.memory p t t₁ s.led (collect-tells (with_memory m s.memory) sound marking)

  -- or before which none ran
  collected_alone-few : (p : Progress) → m.snapshot ≡ None → IsCollected m n p t t₁ → AreFew (length m.heap.natives + 1) m.heap n.heap t t₁
  collected_alone-few p none s =
      led-few (length m.heap.natives + 1) (collect (with_memory m s.memory)) m n s.memory p t t₁ s.led (collect_alone-tells (with_memory m s.memory) sound marking none)

  -- UNITS OF A MARKING, before which a running collection was ended
  pub marked-few : (units : ℕ) (ended : Ended) (steps steps_now : ℕ) → IsMarkedOn units m n ended steps steps_now t t₁ → AreFew (length m.heap.natives + 1) m.heap n.heap t t₁
  marked-few units ended steps steps_now s =
      led-few (length m.heap.natives + 1) (mark units (with_memory m s.memory)) m n s.memory (progress_of (Ok ended)) t t₁ s.led
      (mark-tells units (with_memory m s.memory) sound marking)

module _ (m n : Machine) (t t₁ : Telling) (sound : IsSound [] m.heap) where
  -- `gc`
  pub swept-few : IsSwept m n t t₁ → AreFew (length m.heap.natives + 1) m.heap n.heap t t₁
  swept-few s =
      let d : UnitsDone = gc (with_memory m s.memory) in
      led-few (length m.heap.natives + 1) d m n s.memory d.progress t t₁ s.led (gc-tells (with_memory m s.memory) sound)

  -- where no collection runs
  swept_alone-few : m.snapshot ≡ None → IsSwept m n t t₁ → AreFew 0 m.heap n.heap t t₁
  swept_alone-few none s =
      let d : UnitsDone = gc (with_memory m s.memory) in
      led-few 0 d m n s.memory d.progress t t₁ s.led (gc_alone-tells (with_memory m s.memory) sound none)

-- none runs after `gc`, and no marking goes on,
swept-drops : (m n : Machine) (t t₁ : Telling) → IsSwept m n t t₁ → n.snapshot ≡ None
swept-drops m n t t₁ s = sym s.led.same.snapshot ∙ gc-drops (with_memory m s.memory)

swept-marking : (m n : Machine) (t t₁ : Telling) → IsSwept m n t t₁ → IsMarkingNow n.heap n.marking n.snapshot
swept-marking m n t t₁ s = subst (λ (o : Option NewMarks). IsMarkingNow n.heap o n.snapshot) (sym (sym s.led.same.marking ∙ gc-unmarked (with_memory m s.memory))) tt

-- nor after a collection
collected-drops : (m n : Machine) (p : Progress) (t t₁ : Telling) → IsCollected m n p t t₁ → n.snapshot ≡ None
collected-drops m n p t t₁ s = sym s.led.same.snapshot ∙ collect-drops (with_memory m s.memory)

module _ (m : Machine) (t : Telling) (sound : IsSound [] m.heap) where
  abbrev most : ℕ
  most = length m.heap.natives + 1

  -- SETTLING that was refused: `gc`, and a collection
  pub unsettled-few : (n : Machine) (t₁ : Telling) (p : Progress) → IsCollectedAfterGc m n p t t₁ → AreFew (most + most) m.heap n.heap t t₁
  unsettled-few n t₁ p s =
      let swept : AreFew most m.heap s.first.heap t s.told_first = swept-few m s.first t s.told_first sound s.swept in
      let none : s.first.snapshot ≡ None = swept-drops m s.first t s.told_first s.swept in
      AreFew-then most most m.heap s.first.heap n.heap t s.told_first t₁ swept
      (AreFew-more (length s.first.heap.natives + 1) most s.first.heap n.heap s.told_first t₁ (omega (arith, swept.natives))
      (collected_alone-few s.first n s.told_first t₁ swept.sound (swept-marking m s.first t s.told_first s.swept) p none s.collected))

  -- SETTLING, with `gc` after it
  pub settled-few : (n : Machine) (t₁ : Telling) → IsSettled m n t t₁ → AreFew (most + most) m.heap n.heap t t₁
  settled-few n t₁ s =
      let k = s.collected in
      let before : AreFew (most + most) m.heap s.second.heap t s.told_second = unsettled-few s.second s.told_second at_end k in
      let none : s.second.snapshot ≡ None = collected-drops k.first s.second at_end k.told_first s.told_second k.collected in
      AreFew-more (most + most + 0) (most + most) m.heap n.heap t t₁ (omega arith)
      (AreFew-then (most + most) 0 m.heap s.second.heap n.heap t s.told_second t₁ before (swept_alone-few s.second n s.told_second t₁ before.sound none s.swept))
