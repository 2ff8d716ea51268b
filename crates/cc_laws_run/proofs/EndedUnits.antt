-- WHICH NATIVES HAVE ENDED after units of a collection, and after a script collection: they end those that they tell unlinked or freed, and no
-- others.
use Rattle.std.proofs.Common.{◌≡◌, ℕ, Bool, true, false, not, ◌||◌, List, [], ◌∷◌, map, Option, Some, None, refl, sym, ◌∙◌, ap, subst, inl, inr, ◌⊎◌, ⊎_elim, ◌==◌, arith}
use Rattle.std.specs.List.{filter}
use Rattle.std.proofs.lemmas.Bool.{false≢true, true≢false, cases_Bool}
use Rattle.std.proofs.lemmas.List.{append-nil}
use Rattle.cc_lists.specs.Members.{Among, has}
use Rattle.cc_lists.proofs.Members.{Among-map, Among-map_cases, Among-filter, Among-passes, Among_or_not, has-among, has-there}
use Rattle.cc_lists.proofs.Numbers.{number-exact}
use Rattle.cc_names.specs.declared.name.Name.{Name}
use Rattle.cc_names.specs.Names.{native, number_of}
use Rattle.cc_model.specs.declared.command.Command.TheVariants.{Collect, Gc}
use Rattle.cc_model.specs.declared.item.Event.{Event}
use Rattle.cc_model.specs.declared.item.Event.TheVariants.{Abandoned}
use Rattle.cc_model.specs.Mutating.{Running}
use Rattle.cc_model.specs.Graph.{Graph}
use Rattle.cc_model.specs.WellMade.{IsWellMade}
use Rattle.cc_model.specs.Heap.{Heap, Outcome, HeapNative, native_at}
use Rattle.cc_model.specs.Marking.{ended_marks}
use Rattle.cc_model.specs.Given.{is_usable_native, is_usable}
use Rattle.cc_model.specs.WellFormed.{IsWellFormed, native_names, names_there}
use Rattle.cc_model.specs.Snapshot.{Snapshot, white_natives}
use Rattle.cc_model.specs.Units.{first_untraversed}
use Rattle.cc_model.specs.Sweep.{collect_scripts}
use Rattle.cc_model.specs.End.{take_away, heap_given_back, node_or_end, granted, unit}
use Rattle.cc_model.specs.Listed.{after_events, ended_after}
use Rattle.cc_model.specs.Lawful.{unlinked_numbers}
use Rattle.cc_model.specs.Collecting.{Machine, UnitsDone, finish_marking, finish_running, without_marking, gc, mark}
use Rattle.cc_model.specs.Run.{run_units}
use Rattle.cc_laws_heap.specs.Sound.{IsSound}
use Rattle.cc_laws_heap.specs.Ending.{freed_numbers, AreThere, TakesAway}
use Rattle.cc_laws_heap.specs.Rounds.{is_not_among}
use Rattle.cc_laws_heap.proofs.Making.{native_names-made}
use Rattle.cc_laws_heap.proofs.Natives.{IsWellFormed-distinct, native_at-there, native_at-number, native_at-named, native_at-member, named-member}
use Rattle.cc_laws_heap.proofs.References.{native-there}
use Rattle.cc_laws_heap.proofs.TakingAway.{take_away-takes}
use Rattle.cc_laws_heap.proofs.UnlinkedKept.{take_away-unlinked}
use Rattle.cc_laws_snapshot.proofs.GivingBack.{give_back-buffer}
use Rattle.cc_laws_snapshot.proofs.WhiteNatives.{white_natives-there}
use Rattle.cc_laws_run.proofs.FreedListed.{freed_names, freed_names-natives}
use Rattle.cc_laws_run.specs.Running.{IsMarkingNow}
use Rattle.cc_laws_run.proofs.EndedAfter.{IsTold, EndsWhatItTells, EndedIn, ended-after, ended_after-append, ends-freed}
use Rattle.cc_laws_run.proofs.UnitLawful.{RunsOn, unit-cases, unit-lawful}
use Rattle.cc_laws_run.proofs.Swept.{IsSwept, outcome_of, collect_scripts-swept, ended_marks-swept, finishing-swept}
use Rattle.cc_laws_run.proofs.SweptLawful.{swept-freed, swept-unlinks_none}
use Rattle.cc_laws_run.proofs.UnitsLawful.{finished-runs}
use Rattle.cc_laws_run.proofs.MarkLawful.{EndsKeep, mark-on}
use Rattle.cc_laws_run.proofs.HoldingUnits.{Manner, EachKeeps, HoldsOn, finish-holds, run_units-holds}

-- Where nothing is told

-- heaps with the same natives, of which nothing is told, end nothing
ends-nothing : (h k : Heap) (es : List Event) → k.natives ≡ h.natives → k.natives_made ≡ h.natives_made → ((j : ℕ) → ¬ (IsTold es j)) → EndsWhatItTells h k es
ends-nothing h k es natives made none = record {
  more = omega (arith, made);
  gone = λ j t. absurd (none j t);
  told = λ j few u e. absurd (true≢false (sym u ∙ (sym (same j) ∙ e)));
  stays = λ j few u. same j ∙ u;
  made = λ j new few e. absurd (omega (arith, new, few, made));
  within = λ j t. absurd (none j t);
}
  where
    same : (j : ℕ) → is_usable k (native j) ≡ is_usable h (native j)
    same j = ap (λ (ns : List HeapNative). is_usable (record h { natives = ns }) (native j)) natives

-- The end

-- a native that is found and was unlinked is not usable, and one that was not is
found-usable : (h : Heap) (j : ℕ) (n : HeapNative) (b : Bool) → native_at h j ≡ Some n → n.unlinked ≡ b → is_usable h (native j) ≡ not b
found-usable h j n b e u = ap (λ o. is_usable_native o || false) e ∙ (ap (λ c. not c || false) u ∙ plain (not b))
  where
    plain : (c : Bool) → (c || false) ≡ c
    plain true = refl
    plain false = refl

-- where none is found, none is usable
none-usable : (h : Heap) (j : ℕ) → native_at h j ≡ None → is_usable h (native j) ≡ false
none-usable h j e = ap (λ o. is_usable_native o || false) e

module _ (h : Heap) (ks : List ℕ) (s : IsSound [] h) (are : AreThere ks h) (v : IsWellFormed (take_away ks h).heap) where
  abbrev k : Heap
  k = (take_away ks h).heap

  abbrev told : List Event
  told = (take_away ks h).events

  abbrev freed : List ℕ
  freed = (take_away-takes h ks s are.there).0

  t : TakesAway h ks freed (take_away ks h)
  t = (take_away-takes h ks s are.there).1

  -- who is told freed is among these numbers
  freed-numbered : (j : ℕ) → Among (native j) (freed_names told) → Among j freed
  freed-numbered j m =
      let f = Among-map_cases native (freed_numbers told) (native j) (subst (Among (native j)) (freed_names-natives told t.natives_alone) m) in
      subst (Among j) t.told (subst (λ i. Among i (freed_numbers told)) (ap number_of f.2) f.1)

  numbered-freed : (j : ℕ) → Among j freed → Among (native j) (freed_names told)
  numbered-freed j m = subst (Among (native j)) (sym (freed_names-natives told t.natives_alone)) (Among-map native j (freed_numbers told) (subst (Among j) (sym t.told) m))

  -- the numbers that are left
  abbrev left_of : Heap → List ℕ
  left_of g = map (λ (n : HeapNative). n.number) g.natives

  -- a native that is found is not freed
  found-not_freed : (j : ℕ) (n : HeapNative) → native_at k j ≡ Some n → ¬ (Among j freed)
  found-not_freed j n e m =
      let there : Among j (left_of k) = subst (λ i. Among i (left_of k)) (native_at-number k j n e) (Among-map (λ (n : HeapNative). n.number) n k.natives (native_at-there k j n e)) in
      let passes : not (has ◌==◌ freed j) ≡ true = Among-passes (λ i. not (has ◌==◌ freed i)) j (left_of h) (subst (Among j) t.natives there) in
      false≢true (sym (ap not (has-there ◌==◌ number-exact freed j m)) ∙ passes)

  -- who was there and is not freed is found
  left-found : (j : ℕ) → Among (native j) (native_names h) → ¬ (Among j freed) → (n : HeapNative) × (native_at k j ≡ Some n)
  left-found j m d =
      let n = named-member h j m in
      let was : Among j (left_of h) = subst (λ i. Among i (left_of h)) n.2 (Among-map (λ (n : HeapNative). n.number) n.0 h.natives n.1) in
      let is : Among j (left_of k) = subst (Among j) (sym t.natives) (Among-filter (λ i. not (has ◌==◌ freed i)) j (left_of h) was
      (⊎_elim (λ e. absurd (d (has-among ◌==◌ number-exact freed j e))) (λ e. ap not e) (cases_Bool (has ◌==◌ freed j)))) in
      let f = Among-map_cases (λ (n : HeapNative). n.number) k.natives j is in
      (f.0, ap (native_at k) (sym f.2) ∙ native_at-member k (IsWellFormed-distinct k v) f.0 f.1)

  -- what is found was taken and is unlinked, or was there so
  found-cases : (j : ℕ) (n : HeapNative) → native_at k j ≡ Some n → (Among j ks × (n.unlinked ≡ true)) ⊎ ((¬ (Among j ks)) × (is_usable h (native j) ≡ not n.unlinked))
  found-cases j n e = ⊎_elim
      (λ l. inl (subst (λ i. Among i ks) number l.0, l.1))
      (λ o. inr (
        (λ m. o.0 (subst (λ i. Among i ks) (sym number) m)),
        found-usable h j o.1.0 n.unlinked (ap (native_at h) (sym (o.1.2 ∙ number)) ∙ native_at-member h (IsWellFormed-distinct h s.well_formed) o.1.0 o.1.1) o.1.3,
      ))
      (take_away-unlinked h ks s are.there n (native_at-there k j n e))
    where
      number : n.number ≡ j
      number = native_at-number k j n e

  unlinked-is : unlinked_numbers told ≡ ks
  unlinked-is = t.unlinked

  -- THE END ENDS WHAT IT TELLS.
  pub ends-taken : EndsWhatItTells h (take_away ks h).heap (take_away ks h).events
  ends-taken = record {
    more = omega (arith, t.natives_made);
    gone = λ j is. gone j is (native_at k j) refl;
    told = λ j few u e. told_of j u e;
    stays = λ j few u. stays j u (native_at k j) refl;
    made = λ j new few e. absurd (omega (arith, new, few, t.natives_made));
    within = λ j is. ⊎_elim
        (λ f. omega (arith, native_names-made h 0 s.well_formed j (t.were_there j (freed-numbered j f)), t.natives_made))
        (λ u. omega (arith, native_names-made h 0 s.well_formed j (are.there j (subst (Among j) unlinked-is u)), t.natives_made))
        is;
  }
    where
      gone : (j : ℕ) → IsTold told j → (o : Option HeapNative) → native_at k j ≡ o → is_usable k (native j) ≡ false
      gone j is None e = none-usable k j e
      gone j is (Some n) e = ⊎_elim
          (λ f. absurd (found-not_freed j n e (freed-numbered j f)))
          (λ u. ⊎_elim
          (λ l. found-usable k j n true e l.1)
          (λ o. absurd (o.0 (subst (Among j) unlinked-is u)))
          (found-cases j n e))
          is

      stays : (j : ℕ) → is_usable h (native j) ≡ false → (o : Option HeapNative) → native_at k j ≡ o → is_usable k (native j) ≡ false
      stays j u None e = none-usable k j e
      stays j u (Some n) e = ⊎_elim
          (λ l. found-usable k j n true e l.1)
          (λ o. found-usable k j n n.unlinked e refl ∙ (sym o.1 ∙ u))
          (found-cases j n e)

      there : (j : ℕ) → is_usable h (native j) ≡ true → Among (native j) (native_names h)
      there j u = go (native_at h j) refl
        where
          go : (o : Option HeapNative) → native_at h j ≡ o → Among (native j) (native_names h)
          go None e = absurd (false≢true (sym (none-usable h j e) ∙ u))
          go (Some n) e = native_at-named h j n e

      told_of : (j : ℕ) → is_usable h (native j) ≡ true → is_usable k (native j) ≡ false → IsTold told j
      told_of j u e = ⊎_elim
          (λ f. inl (numbered-freed j f))
          (λ d.
          let n = left-found j (there j u) d in
          ⊎_elim
          (λ l. inr (subst (Among j) (sym unlinked-is) l.0))
          (λ o. absurd (true≢false (sym u ∙ (o.1 ∙ (sym (found-usable k j n.0 n.0.unlinked n.1 refl) ∙ e)))))
          (found-cases j n.0 n.1))
          (Among_or_not ◌==◌ number-exact freed j)

-- What frees objects that no root reaches

-- IT ENDS WHAT IT TELLS: a script collection, the end of a marking, and the finishing of one.
pub swept-ends : (h : Heap) (o : Outcome) → IsSound [] h → IsSwept h o → EndsWhatItTells h o.heap o.events
swept-ends h o s w = ends-freed h o.heap o.events [] s.well_formed w.sound.well_formed (λ p i. inl (w.unlinked p i))
    (omega (arith, w.frees.natives_made))
    (w.frees.natives ∙ (ap (λ ys. filter (is_not_among ys) (native_names h)) (sym freed_are) ∙ ap (filter (is_not_among (freed_names o.events))) (sym (append-nil (native_names h)))))
    (λ j new few. absurd (omega (arith, new, few, w.frees.natives_made)))
    (swept-unlinks_none h o w)
    (λ j m. omega (arith, native_names-made h 0 s.well_formed j (natives_are j (w.frees.were_there (native j) (subst (Among (native j)) freed_are m))), w.frees.natives_made))
  where
    freed_are : freed_names o.events ≡ w.names
    freed_are = swept-freed h o w

    natives_are : (j : ℕ) → Among (native j) (names_there h) → Among (native j) (native_names h)
    natives_are j m = native-there h j s.well_formed m

-- Units

-- a begin, a node and an abandonment tell nothing
none-told : (j : ℕ) → ¬ (IsTold [] j)
none-told j t = ⊎_elim (λ f. f) (λ u. u) t

abandonment-told : (j : ℕ) → ¬ (IsTold (Abandoned ∷ []) j)
abandonment-told j t = ⊎_elim (λ f. f) (λ u. u) t

module _ (g : Graph) (well : IsWellMade g) where
  -- A UNIT ENDS WHAT IT TELLS.
  unit-ends : (names : List Name) (h : Heap) (o : Option Snapshot) (answer : Bool) → RunsOn g names h o → IsWellFormed (unit h o answer).heap →
      EndsWhatItTells h (unit h o answer).heap (unit h o answer).events
  unit-ends names h o answer r = unit-cases h o answer (λ u. IsWellFormed u.heap → EndsWhatItTells h u.heap u.events)
      (λ w. ends-nothing h (heap_given_back h o) (Abandoned ∷ []) (back-natives o) (back-made o) abandonment-told)
      (granted-ends o r)
    where
      back-natives : (o : Option Snapshot) → (heap_given_back h o).natives ≡ h.natives
      back-natives None = refl
      back-natives (Some s) = ap (λ (k : Heap). k.natives) (give_back-buffer s.candidates h h.buffer)

      back-made : (o : Option Snapshot) → (heap_given_back h o).natives_made ≡ h.natives_made
      back-made None = refl
      back-made (Some s) = ap (λ (k : Heap). k.natives_made) (give_back-buffer s.candidates h h.buffer)

      granted-ends : (o : Option Snapshot) → RunsOn g names h o → IsWellFormed (granted h o).heap → EndsWhatItTells h (granted h o).heap (granted h o).events
      granted-ends None r w = ends-nothing h (granted h None).heap [] refl refl none-told
      granted-ends (Some s) r w = go (first_untraversed s.nodes) w
        where
          go : (x : Option Name) → IsWellFormed (node_or_end h s x).heap → EndsWhatItTells h (node_or_end h s x).heap (node_or_end h s x).events
          go None w = ends-taken h (white_natives h s) r.sound (white_natives-there h s r.sound) w
          go (Some x) w = ends-nothing h h [] refl refl none-told

  module _ (ended : List Name) where
    -- the ended names after what was told agree with the heaps
    abbrev EndedSoFar : Manner
    EndedSoFar h o es p = EndedIn h (ended_after ended es)

    one-ends : EachKeeps g EndedSoFar
    one-ends names h o answer es r a = subst (EndedIn (unit h o answer).heap) (sym (ended_after-append es (unit h o answer).events ended))
        (ended-after h (unit h o answer).heap (ended_after ended es) (unit h o answer).events
        (unit-ends names h o answer r (unit-lawful g well Collect refl names h o answer r).still.sound.well_formed) a)

    -- the ended names after the finishing of a marking
    finished-end : (m : Machine) (names : List Name) → RunsOn g names m.heap m.snapshot → IsMarkingNow m.heap m.marking m.snapshot → EndedIn m.heap ended →
        EndedIn (finish_marking m).machine.heap (ended_after ended (finish_marking m).events)
    finished-end m names r t a = ended-after m.heap (finish_marking m).machine.heap ended (finish_marking m).events
        (swept-ends m.heap (outcome_of (finish_marking m)) r.sound (finishing-swept m r.sound r.colours t)) a

    -- UNITS END WHAT THEY TELL.
    pub units-end : (u : Running) (m : Machine) (names : List Name) → RunsOn g names m.heap m.snapshot → IsMarkingNow m.heap m.marking m.snapshot → EndedIn m.heap ended →
        EndedIn (run_units m u).machine.heap (ended_after ended (run_units m u).events)
    units-end u m names r t a = (run_units-holds g well EndedSoFar one-ends (λ h o es p e. e) u m (record {
      names = after_events names (finish_marking m).events;
      runs = finished-runs g well Collect refl names m r t;
      holds = finished-end m names r t a;
    })).holds

    -- SO DOES `gc`.
    pub gc-end : (m : Machine) (names : List Name) → RunsOn g names m.heap m.snapshot → EndedIn m.heap ended → EndedIn (gc m).machine.heap (ended_after ended (gc m).events)
    unfolding gc
    gc-end m names r a =
        let d : UnitsDone = finish_running (without_marking m) in
        let f : HoldsOn g EndedSoFar d = finish-holds g well EndedSoFar one-ends (without_marking m) (record { names = names; runs = r; holds = a }) in
        let o : Outcome = collect_scripts d.machine.heap in
        subst (EndedIn o.heap) (sym (ended_after-append d.events o.events ended))
        (ended-after d.machine.heap o.heap (ended_after ended d.events) o.events (swept-ends d.machine.heap o f.runs.sound (collect_scripts-swept d.machine.heap f.runs.sound)) f.holds)

    -- the end of a marking keeps the ended names
    ends-keep : EndsKeep (λ h es. EndedIn h (ended_after ended es))
    ends-keep h marks es s u a = subst (EndedIn (ended_marks h marks).heap) (sym (ended_after-append es (ended_marks h marks).events ended))
        (ended-after h (ended_marks h marks).heap (ended_after ended es) (ended_marks h marks).events
        (swept-ends h (ended_marks h marks) s (ended_marks-swept h marks s u)) a)

    -- AND SO DOES `mark`.
    pub mark-end : (n : ℕ) (m : Machine) (names : List Name) → RunsOn g names m.heap m.snapshot → IsMarkingNow m.heap m.marking m.snapshot → EndedIn m.heap ended →
        EndedIn (mark n m).machine.heap (ended_after ended (mark n m).events)
    mark-end n m names r t a = (mark-on g well Gc refl names (λ h es. EndedIn h (ended_after ended es)) ends-keep m r t
        (finish-holds g well EndedSoFar one-ends m (record { names = names; runs = r; holds = a })).holds n).holds
