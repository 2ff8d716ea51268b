-- WHAT IS GONE STAYS GONE, by what a host's change leaves, and by what a collection does.
use Rattle.std.proofs.Common.{◌≡◌, ◌≢◌, ℕ, ◌+◌, ◌≤◌, List, [], ◌++◌, Option, Some, None, Ok, refl, sym, ◌∙◌, subst, ⊎_elim, arith}
use Rattle.cc_lists.specs.Members.{Among}
use Rattle.cc_names.specs.declared.name.Name.{Name}
use Rattle.cc_names.specs.Names.{native, object}
use Rattle.cc_model.specs.Heap.{Heap}
use Rattle.cc_model.specs.End.{Progress, at_end}
use Rattle.cc_model.specs.Marking.{NewMarks}
use Rattle.cc_model.specs.Collecting.{Machine, UnitsDone, slice, collect, gc, mark}
use Rattle.cc_model.specs.Telling.{Telling, TellsEvents}
use Rattle.cc_model.specs.WellFormed.{names_there}
use Rattle.cc_model.specs.declared.item.Event.{Event}
use Rattle.cc_model.proofs.Tellings.{TellsEvents-trans}
use Rattle.cc_laws_heap.specs.Sound.{IsSound}
use Rattle.cc_laws_run.specs.Memory.{with_memory}
use Rattle.cc_laws_run.specs.Running.{IsMarkingNow}
use Rattle.cc_laws_run.proofs.Face.{gc-unmarked}
use Rattle.cc_laws_told.specs.Lasting.{KeepsEnded}
use Rattle.cc_laws_told.proofs.Face.{IsLasting, LastsSince, collect-lasts, gc-lasts, lasting-then, mark-lasts, slice-lasts}
use Rattle.cc_heaps.specs.Keyed.{Keyed}
use Rattle.cc_heaps.specs.Keeping.{KeepsAll, KeepsHeaps}
use Rattle.cc_heaps.specs.Leaving.{NoneCame}
use Rattle.cc_collector.specs.Collected.{IsCollected, IsMarkedOn, IsSliced, IsSwept, LedTo, progress_of}
use Rattle.cc_collector.specs.declared.collector.Ended.{Ended}
use Rattle.cc_collector.specs.Kept.{Kept}
use Rattle.cc_collector.specs.Settled.{IsCollectedAfterGc, IsSettled}
use Rattle.cc_host.specs.Changes.{OneCame}
use Rattle.cc_host.specs.Hosted.{Hosted, IsKept}
use Rattle.cc_host.specs.Lasting.{Lasts, TellsFreedOnce, WasGiven}
use Rattle.cc_host.proofs.Keeping.{hosted}
use Rattle.cc_host.proofs.LastingObjects.{lasts-from}

-- A host's change

module _ (v w : Keyed) (b : Kept) (m : ℕ) (h : Hosted) (is : hosted v b m ≡ h) (k : IsKept (hosted v b m)) (kept : KeepsAll v w) (ended : KeepsEnded v.heap w.heap) where
  lasts-by : (but : Option Name) → ((x : Name) → WasGiven v.heap x → Some x ≢ but → Among x (names_there w.heap) → Among x (names_there v.heap)) →
      Lasts but h (hosted w b m)
  lasts-by but came = subst (λ (u : Hosted). Lasts but u (hosted w b m)) is
      (lasts-from (hosted v b m) (hosted w b m) but k.runs.order (kept.order [] k.runs.order) kept.keys refl ended came)

  -- nothing comes
  pub none-lasts : NoneCame v.heap w.heap → Lasts None h (hosted w b m)
  none-lasts came = lasts-by None (λ x given other m. came x m)

  -- or nothing but this name,
  pub one-lasts : (made but : Option Name) → made ≡ but → OneCame made v.heap w.heap → Lasts but h (hosted w b m)
  one-lasts made but is came = lasts-by but (λ x given other m. ⊎_elim (λ old. old) (λ e. absurd (other (e ∙ is))) (came x m))

  -- or one that was not given before
  new-lasts : (made : Option Name) → ((x : Name) → Some x ≡ made → ¬ (WasGiven v.heap x)) → OneCame made v.heap w.heap → Lasts None h (hosted w b m)
  new-lasts made new came = lasts-by None (λ x given other m. ⊎_elim (λ old. old) (λ e. absurd (new x e given)) (came x m))

  pub native-lasts : (made : Option Name) → made ≡ Some (native (v.heap.natives_made + 1)) → OneCame made v.heap w.heap → Lasts None h (hosted w b m)
  native-lasts made is came = new-lasts made (λ x e given.
      let same : x ≡ native (v.heap.natives_made + 1) = let both = e ∙ is in cc in
      let few : v.heap.natives_made + 1 ≤ v.heap.natives_made = subst (WasGiven v.heap) same given in
      omega (arith, few)) came

  pub object-lasts : (made : Option Name) → made ≡ Some (object (v.heap.scripts_made + 1)) → OneCame made v.heap w.heap → Lasts None h (hosted w b m)
  object-lasts made is came = new-lasts made (λ x e given.
      let same : x ≡ object (v.heap.scripts_made + 1) = let both = e ∙ is in cc in
      let few : v.heap.scripts_made + 1 ≤ v.heap.scripts_made = subst (WasGiven v.heap) same given in
      omega (arith, few)) came

-- A collection

-- what was told, and what it leaves
pub record AreLasting (h k : Heap) (before after : Telling) : Type 0 where
  pub events : List Event
  pub told : TellsEvents before after events
  pub lasts : IsLasting h events k

module _ (v w : Keyed) (a b : Kept) (m : ℕ) (t t₁ : Telling) (h : Hosted) (is : hosted v a m ≡ h) (l : AreLasting v.heap w.heap t t₁) where
  pub collected-lasts : IsKept (hosted v a m) → KeepsHeaps [] [] v w → Lasts None h (hosted w b m)
  collected-lasts k kept = subst (λ (u : Hosted). Lasts None u (hosted w b m)) is
      (lasts-from (hosted v a m) (hosted w b m) None k.runs.order (kept.order [] k.runs.order) kept.keys refl l.lasts.ended (λ x given other i. l.lasts.came x i))

  pub collected-once : TellsFreedOnce h (hosted w b m) t t₁
  collected-once = subst (λ (u : Hosted). TellsFreedOnce u (hosted w b m) t t₁) is (record { events = l.events; told = l.told; frees = l.lasts.frees })

-- one after another
lasting-both : (h k l : Heap) (t t₁ t₂ : Telling) → AreLasting h k t t₁ → AreLasting k l t₁ t₂ → AreLasting h l t t₂
lasting-both h k l t t₁ t₂ p q = record {
  events = p.events ++ q.events;
  told = TellsEvents-trans t t₁ t₂ p.events q.events p.told q.told;
  lasts = lasting-then h k l p.events q.events p.lasts q.lasts;
}

-- units that led from one machine to another
led-lasting : (d : UnitsDone) (m n : Machine) (p : Progress) (t t₁ : Telling) → LedTo d m n p t t₁ → LastsSince m.heap d → AreLasting m.heap n.heap t t₁
led-lasting d m n p t t₁ l f = record { events = d.events; told = l.told; lasts = subst (IsLasting m.heap d.events) l.same.heap f }

module _ (m n : Machine) (t t₁ : Telling) (sound : IsSound [] m.heap) (marking : IsMarkingNow m.heap m.marking m.snapshot) where
  -- A SLICE
  pub sliced-lasting : (units : ℕ) (p : Progress) (steps steps_now : ℕ) → IsSliced units m n p steps steps_now t t₁ → AreLasting m.heap n.heap t t₁
  sliced-lasting units p steps steps_now s = led-lasting (slice units (with_memory m s.memory)) m n p t t₁ s.led (slice-lasts units (with_memory m s.memory) sound marking)

  -- A COLLECTION
  pub collected-lasting : (p : Progress) → IsCollected m n p t t₁ → AreLasting m.heap n.heap t t₁
  collected-lasting p s = led-lasting (collect (with_memory m s.memory)) m n p t t₁ s.led (collect-lasts (with_memory m s.memory) sound marking)

  -- UNITS OF A MARKING
  pub marked-lasting : (units : ℕ) (ended : Ended) (steps steps_now : ℕ) → IsMarkedOn units m n ended steps steps_now t t₁ → AreLasting m.heap n.heap t t₁
  marked-lasting units ended steps steps_now s =
      led-lasting (mark units (with_memory m s.memory)) m n (progress_of (Ok ended)) t t₁ s.led (mark-lasts units (with_memory m s.memory) sound marking)

-- `gc`
pub swept-lasting : (m n : Machine) (t t₁ : Telling) → IsSound [] m.heap → IsSwept m n t t₁ → AreLasting m.heap n.heap t t₁
swept-lasting m n t t₁ sound s =
    let d : UnitsDone = gc (with_memory m s.memory) in
    led-lasting d m n d.progress t t₁ s.led (gc-lasts (with_memory m s.memory) sound)

-- no marking goes on after it
swept-marking : (m n : Machine) (t t₁ : Telling) → IsSwept m n t t₁ → IsMarkingNow n.heap n.marking n.snapshot
swept-marking m n t t₁ s = subst (λ (o : Option NewMarks). IsMarkingNow n.heap o n.snapshot) (sym (sym s.led.same.marking ∙ gc-unmarked (with_memory m s.memory))) tt

module _ (m : Machine) (t : Telling) (sound : IsSound [] m.heap) where
  -- SETTLING that was refused: `gc`, and a collection
  pub unsettled-lasting : (n : Machine) (t₁ : Telling) (p : Progress) → IsCollectedAfterGc m n p t t₁ → AreLasting m.heap n.heap t t₁
  unsettled-lasting n t₁ p s =
      let swept : AreLasting m.heap s.first.heap t s.told_first = swept-lasting m s.first t s.told_first sound s.swept in
      lasting-both m.heap s.first.heap n.heap t s.told_first t₁ swept
      (collected-lasting s.first n s.told_first t₁ swept.lasts.sound (swept-marking m s.first t s.told_first s.swept) p s.collected)

  -- SETTLING, with `gc` after it
  pub settled-lasting : (n : Machine) (t₁ : Telling) → IsSettled m n t t₁ → AreLasting m.heap n.heap t t₁
  settled-lasting n t₁ s =
      let before : AreLasting m.heap s.second.heap t s.told_second = unsettled-lasting s.second s.told_second at_end s.collected in
      lasting-both m.heap s.second.heap n.heap t s.told_second t₁ before (swept-lasting s.second n s.told_second t₁ before.lasts.sound s.swept)
