-- WHAT COLLECTIONS LEAVE FOR GOOD: how many were made, natives that have ended, and what they free, which is freed once.
use Rattle.std.proofs.Common.{arith, ◌≡◌, ℕ, Bool, List, [], ◌∷◌, ◌++◌, Option, Some, None, refl, sym, subst, inl, inr, ⊎_elim}
use Rattle.cc_names.specs.declared.name.Name.{Name}
use Rattle.cc_model.specs.declared.item.Event.{Event}
use Rattle.cc_model.specs.declared.item.Event.TheVariants.{Abandoned}
use Rattle.cc_model.specs.Heap.{Heap, Buffered, Outcome}
use Rattle.cc_model.specs.Marking.{ended_marks}
use Rattle.cc_model.specs.Snapshot.{Snapshot, white_natives}
use Rattle.cc_model.specs.Units.{first_untraversed}
use Rattle.cc_model.specs.Sweep.{collect_scripts}
use Rattle.cc_model.specs.End.{went_on, UnitDone, abandoned, granted, node_or_end, take_away, unit}
use Rattle.cc_model.specs.Collecting.{Machine, UnitsDone, next_answer, no_units, one_unit, units_done, enough_units, finish_running, finish_marking, slice_cycles, slice, starting_anew, collect_cycles, collect, without_marking, gc, one_marked, mark}
use Rattle.cc_laws_heap.specs.Sound.{IsSound}
use Rattle.cc_laws_heap.proofs.Kept.{IsBuffer, IsBuffer-own, with_buffer}
use Rattle.cc_laws_heap.proofs.BufferStands.{IsSound-buffer}
use Rattle.cc_laws_heap.proofs.Natives.{IsWellFormed-distinct}
use Rattle.cc_laws_heap.proofs.TakingAway.{take_away-sound, take_away-takes}
use Rattle.cc_laws_heap.proofs.UnlinkedKept.{take_away-unlinked}
use Rattle.cc_laws_snapshot.proofs.GivingBack.{given_back, give_back-buffer, given_back-buffer}
use Rattle.cc_laws_snapshot.proofs.WhiteNatives.{white_natives-there}
use Rattle.cc_laws_run.specs.Running.{IsMarkingNow}
use Rattle.cc_laws_run.proofs.UnitLawful.{unit-cases}
use Rattle.cc_laws_run.proofs.HoldingUnits.{units_done-keep, finish-cases, unless_stopped-cases}
use Rattle.cc_laws_run.proofs.Finishing.{finish-by}
use Rattle.cc_laws_run.proofs.MarkedUnits.{units_marked-keep}
use Rattle.cc_laws_run.proofs.MarkingOn.{IsMarkingOn, one_marked-going}
use Rattle.cc_laws_run.proofs.MarkLawful.{finished-marking}
use Rattle.cc_laws_run.proofs.Swept.{IsSwept, collect_scripts-swept, ended_marks-swept}
use Rattle.cc_laws_told.specs.Lasting.{FreesOnce, KeepsEnded, all_freed}
use Rattle.cc_laws_told.proofs.FreedOnce.{NoneCame, frees-none, frees-then, swept-came, swept-once, taken-came, taken-once}
use Rattle.cc_laws_told.proofs.Lasting.{ended-by, ended-same, ended-stays, ended-then, Stays-natives}
use Rattle.cc_laws_told.proofs.UnitsTell.{finish-drops}

-- what was done from these heaps to those, and what was told meanwhile
pub record IsLasting (h : Heap) (es : List Event) (k : Heap) : Type 0 where
  pub ended : KeepsEnded h k
  pub frees : FreesOnce h k es
  pub came : NoneCame h k
  pub sound : IsSound [] k

lasting-none : (h : Heap) → IsSound [] h → IsLasting h [] h
lasting-none h s = record { ended = ended-same h; frees = frees-none h h [] refl; came = λ x m. m; sound = s }

pub lasting-then : (h k l : Heap) (es fs : List Event) → IsLasting h es k → IsLasting k fs l → IsLasting h (es ++ fs) l
lasting-then h k l es fs f g = record {
  ended = ended-then h k l f.ended g.ended;
  frees = frees-then h k l es fs f.came g.came f.frees g.frees;
  came = λ x m. f.came x (g.came x m);
  sound = g.sound;
}

-- heaps with another buffer have the same objects
lasting-buffer : (h : Heap) (bs : List Buffered) (es : List Event) → IsSound [] h → IsBuffer h bs → all_freed es ≡ [] → IsLasting h es (with_buffer h bs)
lasting-buffer h bs es s b none = record {
  ended = ended-stays h (with_buffer h bs) (IsWellFormed-distinct h s.well_formed) (Stays-natives h (with_buffer h bs) refl refl refl);
  frees = frees-none h (with_buffer h bs) es none;
  came = λ x m. m;
  sound = IsSound-buffer h bs s b;
}

-- WHAT FREES OBJECTS THAT NO ROOT REACHES
lasting-swept : (h : Heap) (o : Outcome) → IsSound [] h → IsSwept h o → IsLasting h o.events o.heap
lasting-swept h o s w = record {
  ended = ended-by h o.heap (IsWellFormed-distinct h s.well_formed) (λ n i. inr (inl (w.unlinked n i))) (omega (arith, w.frees.natives_made)) (omega (arith, w.frees.scripts_made));
  frees = swept-once h w.names o w.frees;
  came = swept-came h w.names o w.frees;
  sound = w.sound;
}

-- THE END OF A COLLECTION
lasting-end : (h : Heap) (s : Snapshot) → IsSound [] h → IsLasting h (take_away (white_natives h s) h).events (take_away (white_natives h s) h).heap
lasting-end h s sound =
    let there = (white_natives-there h s sound).there in
    let o = take_away (white_natives h s) h in
    let t = take_away-takes h (white_natives h s) sound there in
    record {
      ended = ended-by h o.heap (IsWellFormed-distinct h sound.well_formed)
          (λ n i. ⊎_elim (λ l. inl l.1) (λ w. inr (inl w.1)) (take_away-unlinked h (white_natives h s) sound there n i))
          (omega (arith, t.1.natives_made)) (omega (arith, t.1.scripts_made));
      frees = taken-once h (white_natives h s) t.0 o t.1 sound.well_formed;
      came = taken-came h (white_natives h s) t.0 o t.1 sound.well_formed;
      sound = take_away-sound h (white_natives h s) sound there;
    }

-- One unit

-- what a unit comes to
abbrev UnitLasts : Heap → UnitDone → Type 0
UnitLasts h u = IsLasting h u.events u.heap

abandoned-lasts : (h : Heap) (s : Option Snapshot) → IsSound [] h → UnitLasts h (abandoned h s)
abandoned-lasts h None sound = lasting-buffer h h.buffer (Abandoned ∷ []) sound (IsBuffer-own h sound.well_formed) refl
abandoned-lasts h (Some s) sound = subst (λ k. IsLasting h (Abandoned ∷ []) k) (sym (give_back-buffer s.candidates h h.buffer))
    (lasting-buffer h (given_back s.candidates h h.buffer) (Abandoned ∷ []) sound (given_back-buffer h s.candidates h.buffer (IsBuffer-own h sound.well_formed)) refl)

node_or_end-lasts : (h : Heap) (s : Snapshot) (o : Option Name) → IsSound [] h → UnitLasts h (node_or_end h s o)
node_or_end-lasts h s None sound = lasting-end h s sound
node_or_end-lasts h s (Some x) sound = lasting-none h sound

granted-lasts : (h : Heap) (s : Option Snapshot) → IsSound [] h → UnitLasts h (granted h s)
granted-lasts h None sound = lasting-buffer h [] [] sound (record { there = λ b i. absurd i; once = λ k. omega arith }) refl
granted-lasts h (Some s) sound = node_or_end-lasts h s (first_untraversed s.nodes) sound

unit-lasts : (h : Heap) (s : Option Snapshot) (memory : Bool) → IsSound [] h → UnitLasts h (unit h s memory)
unit-lasts h s memory sound = unit-cases h s memory (UnitLasts h) (abandoned-lasts h s sound) (granted-lasts h s sound)

-- Units in a row

-- since these heaps
abbrev pub LastsSince : Heap → UnitsDone → Type 0
LastsSince h d = IsLasting h d.events d.machine.heap

one_unit-lasts : (h : Heap) (d : UnitsDone) → d.progress ≡ went_on → LastsSince h d → LastsSince h (one_unit d.machine d.events)
one_unit-lasts h d e f =
    let k : Heap = d.machine.heap in
    let u : UnitDone = unit k d.machine.snapshot (next_answer d.machine.memory) in
    lasting-then h k u.heap d.events u.events f (unit-lasts k d.machine.snapshot (next_answer d.machine.memory) f.sound)

units_done-lasts : (h : Heap) (n : ℕ) (d : UnitsDone) → LastsSince h d → LastsSince h (units_done n d)
units_done-lasts h n d f = units_done-keep (LastsSince h) (one_unit-lasts h) n d f

no_units-lasts : (m : Machine) → IsSound [] m.heap → LastsSince m.heap (no_units m)
no_units-lasts m s = lasting-none m.heap s

finish-lasts : (m : Machine) → IsSound [] m.heap → LastsSince m.heap (finish_running m)
finish-lasts m s = finish-cases m (LastsSince m.heap) (units_done-lasts m.heap (enough_units m) (no_units m) (no_units-lasts m s)) (λ e. no_units-lasts m s)

slice_cycles-lasts : (n : ℕ) (m : Machine) → IsSound [] m.heap → LastsSince m.heap (slice_cycles n m)
unfolding slice_cycles
slice_cycles-lasts n m s = units_done-lasts m.heap n (no_units m) (no_units-lasts m s)

collect_cycles-lasts : (m : Machine) → IsSound [] m.heap → LastsSince m.heap (collect_cycles m)
unfolding collect_cycles
collect_cycles-lasts m s =
    let d : UnitsDone = finish_running m in
    let f : LastsSince m.heap d = finish-lasts m s in
    unless_stopped-cases d (LastsSince m.heap) (λ e. f) (λ e. units_done-lasts m.heap (enough_units d.machine) (starting_anew d) f)

-- Behind the end of a marking

finishing-lasts : (m : Machine) → IsSound [] m.heap → IsMarkingNow m.heap m.marking m.snapshot → LastsSince m.heap (finish_marking m)
finishing-lasts m s t = finish-by m (LastsSince m.heap) s t (λ e. lasting-none m.heap s)
    (λ marks on over. lasting-swept m.heap (ended_marks m.heap marks) s (ended_marks-swept m.heap marks s on.under))

-- A SLICE
pub slice-lasts : (n : ℕ) (m : Machine) → IsSound [] m.heap → IsMarkingNow m.heap m.marking m.snapshot → LastsSince m.heap (slice n m)
unfolding slice
slice-lasts n m s t =
    let b : UnitsDone = finish_marking m in
    let f : LastsSince m.heap b = finishing-lasts m s t in
    let d : UnitsDone = slice_cycles n b.machine in
    lasting-then m.heap b.machine.heap d.machine.heap b.events d.events f (slice_cycles-lasts n b.machine f.sound)

-- A WHOLE COLLECTION
pub collect-lasts : (m : Machine) → IsSound [] m.heap → IsMarkingNow m.heap m.marking m.snapshot → LastsSince m.heap (collect m)
unfolding collect
collect-lasts m s t =
    let b : UnitsDone = finish_marking m in
    let f : LastsSince m.heap b = finishing-lasts m s t in
    let d : UnitsDone = collect_cycles b.machine in
    lasting-then m.heap b.machine.heap d.machine.heap b.events d.events f (collect_cycles-lasts b.machine f.sound)

-- GC
pub gc-lasts : (m : Machine) → IsSound [] m.heap → LastsSince m.heap (gc m)
unfolding gc
gc-lasts m s =
    let d : UnitsDone = finish_running (without_marking m) in
    let f : LastsSince m.heap d = finish-lasts (without_marking m) s in
    let o : Outcome = collect_scripts d.machine.heap in
    lasting-then m.heap d.machine.heap o.heap d.events o.events f (lasting-swept d.machine.heap o f.sound (collect_scripts-swept d.machine.heap f.sound))

-- units of a marking after others, where no collection runs
record MarksLast (h : Heap) (d : UnitsDone) : Type 0 where
  lasts : LastsSince h d
  marking : IsMarkingOn d
  alone : d.machine.snapshot ≡ None

one_marked-lasts : (h : Heap) (d : UnitsDone) → MarksLast h d → MarksLast h (one_marked d.machine d.events)
one_marked-lasts h d t = one_marked-going d.machine d.events (MarksLast h) t.lasts.sound t.marking t.alone
    (λ marks on. record { lasts = t.lasts; marking = on; alone = t.alone })
    (λ marks on.
    let k : Heap = d.machine.heap in
    let o : Outcome = ended_marks k marks in
    record {
      lasts = lasting-then h k o.heap d.events o.events t.lasts (lasting-swept k o t.lasts.sound (ended_marks-swept k marks t.lasts.sound on.under));
      marking = tt;
      alone = t.alone;
    })

-- MARK
pub mark-lasts : (n : ℕ) (m : Machine) → IsSound [] m.heap → IsMarkingNow m.heap m.marking m.snapshot → LastsSince m.heap (mark n m)
unfolding mark
mark-lasts n m s t =
    let d : UnitsDone = starting_anew (finish_running m) in
    (units_marked-keep (MarksLast m.heap) (one_marked-lasts m.heap) n d (record { lasts = finish-lasts m s; marking = finished-marking m t; alone = finish-drops m })).lasts
