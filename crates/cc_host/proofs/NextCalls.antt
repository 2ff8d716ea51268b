-- A COLLECTION LEAVES OUT OF REACH what is, and what was unlinked, and what it unlinks; and the next `gc` frees it. What has ended has ended for
-- good.
use Rattle.std.specs.Prelude.{IsTrue}
use Rattle.std.proofs.Common.{◌≡◌, ◌≤◌, ◌||◌, not, true, false, ℕ, Bool, List, [], ◌∷◌, ◌++◌, Option, refl, sym, ◌∙◌, ap, subst, inl, arith, ⊎_elim}
use Rattle.std.proofs.lemmas.Bool.{false≢true, true≢false}
use Rattle.cc_lists.specs.Members.{Among}
use Rattle.cc_lists.proofs.Members.{Among-append, has-there}
use Rattle.cc_names.specs.declared.name.Name.{Name}
use Rattle.cc_names.specs.Names.{native, same_name}
use Rattle.cc_names.proofs.NameTests.{same_name-exact}
use Rattle.cc_model.specs.declared.item.Event.{Event}
use Rattle.cc_model.specs.declared.item.Event.TheVariants.{Abandoned, Freed, Unlinked}
use Rattle.cc_model.specs.Collecting.{Machine, finish_running, without_marking, slice, collect, gc, mark}
use Rattle.cc_model.specs.End.{Progress, at_end, refused}
use Rattle.cc_model.specs.Graph.{Graph}
use Rattle.cc_model.specs.Colours.{HasColourInvariant}
use Rattle.cc_model.specs.Ended.{EndedAgrees}
use Rattle.cc_model.specs.Given.{is_usable_native}
use Rattle.cc_model.specs.Heap.{Heap, HeapNative, native_at}
use Rattle.cc_model.specs.Lawful.{State, next}
use Rattle.cc_model.specs.Listed.{census_order, ended_after}
use Rattle.cc_model.specs.Ranges.{in_range}
use Rattle.cc_model.specs.Run.{census_names, do_ask}
use Rattle.cc_model.specs.View.{view}
use Rattle.cc_model.specs.Asks.{taken}
use Rattle.cc_model.specs.declared.command.Command.{Command}
use Rattle.cc_model.specs.declared.command.Command.TheVariants.{Collect, Gc, Mark, Slice}
use Rattle.cc_model.proofs.Tellings.{TellsEvents-trans}
use Rattle.cc_model.specs.Marking.{NewMarks}
use Rattle.cc_model.specs.Mutating.{so_many, whole}
use Rattle.cc_model.specs.StandsFor.{IsEmptied, StandsFor}
use Rattle.cc_model.specs.Telling.{Telling}
use Rattle.cc_model.specs.WellMade.{IsWellMade}
use Rattle.cc_gc.specs.Sparing.{KeepsWhatIsReached}
use Rattle.cc_laws_heap.specs.Sound.{IsSound}
use Rattle.cc_laws_run.specs.Memory.{SameMachine, with_memory}
use Rattle.cc_laws_run.specs.Running.{IsFreshNow, IsMarkingNow, IsRunning}
use Rattle.cc_laws_run.proofs.EndedAfter.{ended-stays}
use Rattle.cc_laws_run.proofs.Face.{gc-unmarked}
use Rattle.cc_laws_run.proofs.PlainLawful.{any-runs}
use Rattle.cc_laws_run.proofs.SpentAsks.{collected-spent}
use Rattle.cc_laws_run.proofs.SpentMarks.{SpendsAt, finish_running-spends, mark-spends, run_units-spend}
use Rattle.cc_laws_heap.proofs.Face.{IsWellFormed-distinct, collect_scripts-sound, native_at-member}
use Rattle.cc_heaps.specs.Keeping.{KeepsHeaps}
use Rattle.cc_heaps.specs.Keyed.{Keyed}
use Rattle.cc_heaps.specs.Standing.{StillStands}
use Rattle.cc_collector.specs.Collected.{IsCollected, IsMarkedOn, IsSliced, IsSwept, TellsWhatLeaves}
use Rattle.cc_collector.specs.Kept.{Kept}
use Rattle.cc_collector.specs.Settled.{IsCollectedAfterGc, IsSettled, IsUnsettled}
use Rattle.cc_collector.specs.declared.collector.Ended.{Ended}
use Rattle.cc_host.specs.Calls.{Collects}
use Rattle.cc_host.specs.Hosted.{Hosted, machine}
use Rattle.cc_host.specs.Missing.{IsOfAGraph, IsUsedWell, LeavesOutOfReach}
use Rattle.cc_host.specs.Next.{BringsNoneBack, FreesTheUnlinked, HasEndedIn, HaveTheUnlinked, TellsEnded, UnlinkedIsOutOfReach}
use Rattle.cc_host.proofs.Keeping.{hosted}
use Rattle.cc_host.proofs.NextUnits.{IsAtRest, IsNamed, IsNumbered, IsStable, IsUnlinked, collect-rests, gc-rests, mark-rests, named-stable, numbered-stable, slice-rests, unlinked-stable}
use Rattle.cc_host.proofs.NextReach.{all-emptied, gc-frees, out-spent, out_of_reach}

-- Changes that bring no native back

-- what has ended has ended for good,
pub still_ended : (h k : Heap) → BringsNoneBack h k → (j : ℕ) → HasEndedIn h j → HasEndedIn k j
still_ended h k b j e = record {
  made = omega (arith, b.made, e.made);
  unlinked = λ n i is. ⊎_elim
      (λ m. sym m.3 ∙ e.unlinked m.0 m.1 (m.2 ∙ is))
      (λ new. absurd (let f = new.0 in omega (arith, f, is, e.made)))
      (b.natives n i);
}

-- and no other is unlinked.
pub still_have : (h k : Heap) (ds : List Name) → BringsNoneBack h k → HaveTheUnlinked h ds → HaveTheUnlinked k ds
still_have h k ds b have n i u = ⊎_elim
    (λ m. subst (λ j. Among (native j) ds) m.2 (have m.0 m.1 (m.3 ∙ u)))
    (λ new. absurd (true≢false (sym u ∙ new.1)))
    (b.natives n i)

-- What the plain run leaves

-- so it is with all natives that are such, in this manner
module _ (P R : HeapNative → Type 0) (stable : IsStable P R) (least : ℕ) where
  abbrev Rests : Heap → Type 0
  Rests = IsAtRest P R least

  module _ (m n : Machine) (t t₁ : Telling) (marking : IsMarkingNow m.heap m.marking m.snapshot) where
    pub sliced-rests : (units : ℕ) (p : Progress) (steps steps_now : ℕ) → IsSliced units m n p steps steps_now t t₁ → IsAtRest P R least m.heap → IsAtRest P R least n.heap
    sliced-rests units p steps steps_now s r = subst Rests s.led.same.heap (slice-rests P R stable least units (with_memory m s.memory) marking r)

    pub collected-rests : (p : Progress) → IsCollected m n p t t₁ → IsAtRest P R least m.heap → IsAtRest P R least n.heap
    collected-rests p s r = subst Rests s.led.same.heap (collect-rests P R stable least (with_memory m s.memory) marking r)

    pub marked-rests : (units : ℕ) (ended : Ended) (steps steps_now : ℕ) → IsMarkedOn units m n ended steps steps_now t t₁ → IsAtRest P R least m.heap → IsAtRest P R least n.heap
    marked-rests units ended steps steps_now s r = subst Rests s.led.same.heap (mark-rests P R stable least units (with_memory m s.memory) marking r)

  pub swept-rests : (m n : Machine) (t t₁ : Telling) → IsSwept m n t t₁ → IsAtRest P R least m.heap → IsAtRest P R least n.heap
  swept-rests m n t t₁ s r = subst Rests s.led.same.heap (gc-rests P R stable least (with_memory m s.memory) r)

-- no marking goes on after `gc`
swept-unmarked : (m n : Machine) (t t₁ : Telling) → IsSwept m n t t₁ → IsMarkingNow n.heap n.marking n.snapshot
swept-unmarked m n t t₁ s = subst (λ (o : Option NewMarks). IsMarkingNow n.heap o n.snapshot) (sym (sym s.led.same.marking ∙ gc-unmarked (with_memory m s.memory))) tt

module _ (P R : HeapNative → Type 0) (stable : IsStable P R) (least : ℕ) where
  -- `gc`, and then a collection
  after_gc-rests : (m n : Machine) (p : Progress) (t t₁ : Telling) → IsCollectedAfterGc m n p t t₁ → IsAtRest P R least m.heap → IsAtRest P R least n.heap
  after_gc-rests m n p t t₁ s r = collected-rests P R stable least s.first n s.told_first t₁ (swept-unmarked m s.first t s.told_first s.swept) p s.collected
      (swept-rests P R stable least m s.first t s.told_first s.swept r)

  pub unsettled-rests : (m n : Machine) (t t₁ : Telling) → IsUnsettled m n t t₁ → IsAtRest P R least m.heap → IsAtRest P R least n.heap
  unsettled-rests m n t t₁ s r = after_gc-rests m n refused t t₁ s r

  pub settled-rests : (m n : Machine) (t t₁ : Telling) → IsSettled m n t t₁ → IsAtRest P R least m.heap → IsAtRest P R least n.heap
  settled-rests m n t t₁ s r = swept-rests P R stable least s.second n s.told_second t₁ s.swept (after_gc-rests m s.second at_end t s.told_second s.collected r)

-- and names that are spent stay so
module _ (ds : List Name) where
  abbrev Spends : Heap → Type 0
  Spends = SpendsAt ds

  module _ (m n : Machine) (t t₁ : Telling) (marking : IsMarkingNow m.heap m.marking m.snapshot) where
    pub sliced-spends : (units : ℕ) (p : Progress) (steps steps_now : ℕ) → IsSliced units m n p steps steps_now t t₁ → SpendsAt ds m.heap → SpendsAt ds n.heap
    sliced-spends units p steps steps_now s r = subst Spends s.led.same.heap (run_units-spend ds (with_memory m s.memory) (so_many units) marking r)

    pub collected-spends : (p : Progress) → IsCollected m n p t t₁ → SpendsAt ds m.heap → SpendsAt ds n.heap
    collected-spends p s r = subst Spends s.led.same.heap (run_units-spend ds (with_memory m s.memory) whole marking r)

    pub marked-spends : (units : ℕ) (ended : Ended) (steps steps_now : ℕ) → IsMarkedOn units m n ended steps steps_now t t₁ → SpendsAt ds m.heap → SpendsAt ds n.heap
    marked-spends units ended steps steps_now s r = subst Spends s.led.same.heap (mark-spends ds (with_memory m s.memory) units marking r)

  gc-spends : (m : Machine) → SpendsAt ds m.heap → SpendsAt ds (gc m).machine.heap
  unfolding gc
  gc-spends m r =
      let f : SpendsAt ds (finish_running (without_marking m)).machine.heap = finish_running-spends ds (without_marking m) (record { sound = r.sound; spent = r.spent }) in
      let h : Heap = (finish_running (without_marking m)).machine.heap in
      record { sound = collect_scripts-sound h f.sound; spent = collected-spent h ds f.sound f.spent }

  pub swept-spends : (m n : Machine) (t t₁ : Telling) → IsSwept m n t t₁ → SpendsAt ds m.heap → SpendsAt ds n.heap
  swept-spends m n t t₁ s r = subst Spends s.led.same.heap (gc-spends (with_memory m s.memory) (record { sound = r.sound; spent = r.spent }))

  after_gc-spends : (m n : Machine) (p : Progress) (t t₁ : Telling) → IsCollectedAfterGc m n p t t₁ → SpendsAt ds m.heap → SpendsAt ds n.heap
  after_gc-spends m n p t t₁ s r = collected-spends s.first n s.told_first t₁ (swept-unmarked m s.first t s.told_first s.swept) p s.collected
      (swept-spends m s.first t s.told_first s.swept r)

  pub unsettled-spends : (m n : Machine) (t t₁ : Telling) → IsUnsettled m n t t₁ → SpendsAt ds m.heap → SpendsAt ds n.heap
  unsettled-spends m n t t₁ s r = after_gc-spends m n refused t t₁ s r

  pub settled-spends : (m n : Machine) (t t₁ : Telling) → IsSettled m n t t₁ → SpendsAt ds m.heap → SpendsAt ds n.heap
  settled-spends m n t t₁ s r = swept-spends s.second n s.told_second t₁ s.swept (after_gc-spends m s.second at_end t s.told_second s.collected r)

-- A collection

-- what natives are in the first heaps they are in the second
abbrev pub KeepsRest : (h k : Heap) → Type 1
KeepsRest h k = (P R : HeapNative → Type 0) → IsStable P R → (least : ℕ) → IsAtRest P R least h → IsAtRest P R least k

abbrev pub KeepsSpent : Heap → Heap → Type 0
KeepsSpent h k = (ds : List Name) → SpendsAt ds h → SpendsAt ds k

module _ (h k : Heap) (sound : IsSound [] h) (rests : KeepsRest h k) where
  -- a native that has ended has ended for good
  rests-ended : (j : ℕ) → HasEndedIn h j → HasEndedIn k j
  rests-ended j e =
      let r : IsAtRest (IsNumbered j) IsUnlinked j k = rests (IsNumbered j) IsUnlinked (numbered-stable j) j (record { sound = sound; each = e.unlinked; made = e.made }) in
      record { made = r.made; unlinked = r.each }

  -- what is out of reach stays so
  rests-out : KeepsSpent h k → LeavesOutOfReach h k
  rests-out spends ds d =
      let s : SpendsAt ds k = spends ds (record { sound = sound; spent = out-spent h ds d sound.well_formed }) in
      let r : IsAtRest (IsNamed ds) IsEmptied 0 k = rests (IsNamed ds) IsEmptied (named-stable ds) 0 (record { sound = sound; each = d.emptied; made = omega arith }) in
      record {
        unregistered = s.spent.unregistered;
        holder = s.spent.holder;
        joint = s.spent.joint;
        emptied = r.each;
        reflectors = d.reflectors;
        natives_made = s.spent.natives_made;
        scripts_made = s.spent.scripts_made;
      }

  -- and so is what was unlinked
  rests-unlinked : (g : Graph) → IsWellMade g → StandsFor k g → UnlinkedIsOutOfReach h → UnlinkedIsOutOfReach k
  rests-unlinked g well stands o =
      let r : IsAtRest IsUnlinked IsEmptied 0 k = rests IsUnlinked IsEmptied unlinked-stable 0 (record { sound = sound; each = all-emptied h o; made = omega arith }) in
      out_of_reach k g r.sound well stands r.each

-- What is told

-- who is told unlinked is among those that have ended
unlinked-listed : (es : List Event) (ended : List Name) (k : ℕ) → Among (Unlinked (native k)) es → Among (native k) (ended_after ended es)
unlinked-listed [] ended k m = absurd m
unlinked-listed (Freed y ∷ es) ended k m = ⊎_elim (λ e. absurd (cc)) (λ r. unlinked-listed es (y ∷ ended) k r) m
unlinked-listed (Abandoned ∷ es) ended k m = ⊎_elim (λ e. absurd (cc)) (λ r. unlinked-listed es ended k r) m
unlinked-listed (Unlinked y ∷ es) ended k m = ⊎_elim
    (λ e. ended-stays es (y ∷ ended) (native k) (inl (same e)))
    (λ r. unlinked-listed es (y ∷ ended) k r) m
  where
    same : Unlinked y ≡ Unlinked (native k) → y ≡ native k
    same e = cc

module _ (m : Machine) (s : State) (r : IsRunning m s) where
  -- who is told unlinked by an ask has ended then
  told-ended : (c : Command) → IsTrue (in_range c) → (k : ℕ) → Among (Unlinked (native k)) (do_ask m (taken c)).answer.events → HasEndedIn (do_ask m (taken c)).machine.heap k
  told-ended c range k told =
      let es : List Event = (do_ask m (taken c)).answer.events in
      let still : IsRunning (do_ask m (taken c)).machine (next s (taken c) (do_ask m (taken c)).answer) = any-runs m s (taken c) r range in
      let listed : Among (native k) (ended_after s.ended es) = unlinked-listed es s.ended k told in
      let h : Heap = (do_ask m (taken c)).machine.heap in
      record {
        made = still.ended_made k listed;
        unlinked = λ n i is. by_test n
            (ap (λ (o : Option HeapNative). is_usable_native o || false) (sym (ap (native_at h) is) ∙ native_at-member h (IsWellFormed-distinct h still.sound.well_formed) n i))
            (sym (still.ended k (omega (arith, (still.sound.well_formed.native_numbers n i).0, is)) (still.ended_made k listed))
            ∙ has-there same_name same_name-exact (ended_after s.ended es) (native k) listed);
      }
    where
      by_test : (n : HeapNative) → {b : Bool} → b ≡ (not n.unlinked || false) → not b ≡ true → n.unlinked ≡ true
      by_test n {b} e f = go n.unlinked (ap not (sym e) ∙ f)
        where
          go : (u : Bool) → not (not u || false) ≡ true → u ≡ true
          go true g = refl
          go false g = absurd (false≢true g)

  slice-ended : (units k : ℕ) → Among (Unlinked (native k)) (slice units m).events → HasEndedIn (slice units m).machine.heap k
  unfolding do_ask
  slice-ended units = told-ended (Slice units) refl

  collect-ended : (k : ℕ) → Among (Unlinked (native k)) (collect m).events → HasEndedIn (collect m).machine.heap k
  unfolding do_ask
  collect-ended = told-ended Collect refl

  gc-ended : (k : ℕ) → Among (Unlinked (native k)) (gc m).events → HasEndedIn (gc m).machine.heap k
  unfolding do_ask
  gc-ended = told-ended Gc refl

  mark-ended : (units k : ℕ) → Among (Unlinked (native k)) (mark units m).events → HasEndedIn (mark units m).machine.heap k
  unfolding do_ask
  mark-ended units = told-ended (Mark units) refl

-- a machine runs on beside the same graph, whatever memory answers then
running-same : (m n : Machine) (memory : List Bool) (s : State) → SameMachine m n → IsRunning m s → IsRunning (with_memory n memory) s
running-same m n memory s e r = record {
  sound = subst (IsSound []) e.heap r.sound;
  colours = subst (λ h. HasColourInvariant (view h)) e.heap r.colours;
  fresh = subst (λ o. IsFreshNow n.heap o) e.snapshot (subst (λ h. IsFreshNow h m.snapshot) e.heap r.fresh);
  well_made = r.well_made;
  marking = subst (λ o. IsMarkingNow n.heap n.marking o) e.snapshot (subst (λ o. IsMarkingNow n.heap o m.snapshot) e.marking (subst (λ h. IsMarkingNow h m.marking m.snapshot) e.heap r.marking));
  stands = subst (λ h. StandsFor h s.graph) e.heap r.stands;
  listed = subst (λ h. census_names h ≡ census_order s.listed) e.heap r.listed;
  weak = sym e.weak ∙ r.weak;
  ended = subst (λ h. EndedAgrees h s.ended) e.heap r.ended;
  ended_made = subst (λ h. (k : ℕ) → Among (native k) s.ended → k ≤ h.natives_made) e.heap r.ended_made;
}

-- one telling after another
ended-then : (h k : Heap) (t t₁ t₂ : Telling) → ((j : ℕ) → HasEndedIn h j → HasEndedIn k j) → TellsEnded h t t₁ → TellsEnded k t₁ t₂ → TellsEnded k t t₂
unfolding TellsEnded
ended-then h k t t₁ t₂ stays a b = (
  a.0 ++ b.0,
  TellsEvents-trans t t₁ t₂ a.0 b.0 a.1 b.1,
  λ j m. ⊎_elim (λ l. stays j (a.2 j l)) (λ l. b.2 j l) (Among-append (Unlinked (native j)) a.0 b.0 m),
)

module _ (m n : Machine) (s : State) (t t₁ : Telling) where
  pub sliced-ended : (units : ℕ) (p : Progress) (steps steps_now : ℕ) → (d : IsSliced units m n p steps steps_now t t₁) → IsRunning (with_memory m d.memory) s → TellsEnded n.heap t t₁
  unfolding TellsEnded
  sliced-ended units p steps steps_now d r = (
    (slice units (with_memory m d.memory)).events,
    d.led.told,
    λ k i. subst (λ h. HasEndedIn h k) d.led.same.heap (slice-ended (with_memory m d.memory) s r units k i),
  )

  pub collected-ended : (p : Progress) (d : IsCollected m n p t t₁) → IsRunning (with_memory m d.memory) s → TellsEnded n.heap t t₁
  unfolding TellsEnded
  collected-ended p d r = (
    (collect (with_memory m d.memory)).events,
    d.led.told,
    λ k i. subst (λ h. HasEndedIn h k) d.led.same.heap (collect-ended (with_memory m d.memory) s r k i),
  )

  pub marked-ended : (units : ℕ) (ended : Ended) (steps steps_now : ℕ) → (d : IsMarkedOn units m n ended steps steps_now t t₁) → IsRunning (with_memory m d.memory) s → TellsEnded n.heap t t₁
  unfolding TellsEnded
  marked-ended units ended steps steps_now d r = (
    (mark units (with_memory m d.memory)).events,
    d.led.told,
    λ k i. subst (λ h. HasEndedIn h k) d.led.same.heap (mark-ended (with_memory m d.memory) s r units k i),
  )

  pub swept-ended : (d : IsSwept m n t t₁) → IsRunning (with_memory m d.memory) s → TellsEnded n.heap t t₁
  unfolding TellsEnded
  swept-ended d r = (
    (gc (with_memory m d.memory)).events,
    d.led.told,
    λ k i. subst (λ h. HasEndedIn h k) d.led.same.heap (gc-ended (with_memory m d.memory) s r k i),
  )

-- `gc`, and then a collection
module _ (m n : Machine) (s : State) (p : Progress) (t t₁ : Telling) (d : IsCollectedAfterGc m n p t t₁) (r : IsRunning (with_memory m d.swept.memory) s) where
  abbrev swept_m : Machine
  swept_m = with_memory m d.swept.memory

  first-state : State
  first-state = next s (taken Gc) (do_ask swept_m (taken Gc)).answer

  first-runs : (memory : List Bool) → IsRunning (with_memory d.first memory) first-state
  unfolding do_ask first-state
  first-runs memory = running-same (gc swept_m).machine d.first memory first-state d.swept.led.same (any-runs swept_m s (taken Gc) r refl)

  abbrev collected_m : Machine
  collected_m = with_memory d.first d.collected.memory

  second-state : State
  second-state = next first-state (taken Collect) (do_ask collected_m (taken Collect)).answer

  second-runs : (memory : List Bool) → IsRunning (with_memory n memory) second-state
  unfolding do_ask second-state
  second-runs memory = running-same (collect collected_m).machine n memory second-state d.collected.led.same (any-runs collected_m first-state (taken Collect) (first-runs d.collected.memory) refl)

  after_gc-ended : TellsEnded n.heap t t₁
  after_gc-ended = ended-then d.first.heap n.heap t d.told_first t₁
      (rests-ended d.first.heap n.heap (first-runs []).sound
      (λ P R stable least q. collected-rests P R stable least d.first n d.told_first t₁ (swept-unmarked m d.first t d.told_first d.swept) p d.collected q))
      (swept-ended m d.first s t d.told_first d.swept r)
      (collected-ended d.first n first-state d.told_first t₁ p d.collected (first-runs d.collected.memory))

pub settled-ended : (m n : Machine) (s : State) (t t₁ : Telling) (d : IsSettled m n t t₁) → IsRunning (with_memory m d.collected.swept.memory) s → TellsEnded n.heap t t₁
settled-ended m n s t t₁ d r =
    let k = d.collected in
    let runs = second-runs m d.second s at_end t d.told_second k r in
    ended-then d.second.heap n.heap t d.told_second t₁
    (rests-ended d.second.heap n.heap (runs []).sound (λ P R stable least q. swept-rests P R stable least d.second n d.told_second t₁ d.swept q))
    (after_gc-ended m d.second s at_end t d.told_second k r)
    (swept-ended d.second n (second-state m d.second s at_end t d.told_second k r) d.told_second t₁ d.swept (runs d.swept.memory))

pub unsettled-ended : (m n : Machine) (s : State) (t t₁ : Telling) (d : IsUnsettled m n t t₁) → IsRunning (with_memory m d.swept.memory) s → TellsEnded n.heap t t₁
unsettled-ended m n s t t₁ d r = after_gc-ended m n s refused t t₁ d r

-- What a call of a host comes to

-- a host stays used well
stays-used : (h k : Hosted) → IsSound [] h.heaps.heap → StillStands h.heaps.heap k.heaps.heap → KeepsRest h.heaps.heap k.heaps.heap → IsUsedWell h → IsUsedWell k
stays-used h k sound stands rests u =
    let g = u.graph in
    let s = stands g.0 g.1 g.2 in
    record { graph = (g.0, g.1, s); unlinked = rests-unlinked h.heaps.heap k.heaps.heap sound rests g.0 g.1 s u.unlinked }

-- WHAT A COLLECTION COMES TO.
pub collects-so : (v w : Keyed) (c d : Kept) (m : ℕ) (t t₁ : Telling) → IsSound [] v.heap → StillStands v.heap w.heap → KeepsWhatIsReached v.heap w.heap → TellsWhatLeaves v.heap w.heap t t₁ →
    KeepsHeaps [] [] v w → KeepsRest v.heap w.heap → KeepsSpent v.heap w.heap → (IsOfAGraph (hosted v c m) → TellsEnded w.heap t t₁) → Collects (hosted v c m) (hosted w d m) t t₁
collects-so v w c d m t t₁ sound stands keeps tells kept rests spends ends = record {
  stands = stands;
  keeps = keeps;
  tells = tells;
  used = stays-used (hosted v c m) (hosted w d m) sound stands rests;
  unlinked = record { out_of_reach = rests-out v.heap w.heap sound rests spends; ended = rests-ended v.heap w.heap sound rests };
  ends = ends;
  keys = kept.keys;
  mark = refl;
}

-- `gc` FREES WHAT WAS UNLINKED.
pub gc-frees_unlinked : (h k : Hosted) (t t₁ : Telling) → IsSound [] h.heaps.heap → StillStands h.heaps.heap k.heaps.heap → IsSwept (machine h) (machine k) t t₁ → IsUsedWell h →
    FreesTheUnlinked h.heaps.heap k.heaps.heap
gc-frees_unlinked h k t t₁ sound stands s u =
    let m : Machine = with_memory (machine h) s.memory in
    let after : IsUsedWell k = stays-used h k sound stands (λ P R stable least r. swept-rests P R stable least (machine h) (machine k) t t₁ s r) u in
    subst (FreesTheUnlinked h.heaps.heap) s.led.same.heap
    (gc-frees m u.unlinked sound (subst UnlinkedIsOutOfReach (sym s.led.same.heap) after.unlinked))
