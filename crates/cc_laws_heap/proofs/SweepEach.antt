-- SWEEPING IN TURN: each object is told and taken out with what its native's cascade frees, and the heaps stay steady.
use Rattle.std.proofs.Common.{◌≡◌, ℕ, ◌+◌, ◌≤◌, cond, true, not, ◌&&◌, ◌||◌, Bool, List, [], ◌∷◌, ◌++◌, map, refl, sym, ◌∙◌, ap, subst, inl, inr, arith, count_by}
use Rattle.std.specs.List.{filter}
use Rattle.std.proofs.Math.Path.{fun_ext}
use Rattle.std.proofs.lemmas.Bool.{false≢true}
use Rattle.cc_lists.specs.Members.{Among, has}
use Rattle.cc_lists.proofs.Members.{Among-map, Among-map_cases, Among-filter, Among-filtered}
use Rattle.cc_lists.proofs.Counting.{count_by-cons}
use Rattle.cc_lists.proofs.Filtering.{count_by-filter-le}
use Rattle.cc_names.specs.declared.name.Name.{Name}
use Rattle.cc_names.specs.declared.name.Name.TheVariants as name
use Rattle.cc_names.specs.Names.{native, same_name, is_script}
use Rattle.cc_names.proofs.NameTests.{same_name-refl}
use Rattle.cc_model.specs.declared.item.Event.TheVariants.{Freed}
use Rattle.cc_model.specs.Heap.{Heap, HeapScript, Outcome, after, outcome_of}
use Rattle.cc_model.specs.Cascade.{cascade}
use Rattle.cc_model.specs.Sweep.{without_script, sweep_one, sweep_each}
use Rattle.cc_model.specs.WellFormed.{script_names}
use Rattle.cc_model.proofs.Rounds.{scripts-sweep_one}
use Rattle.cc_lists.proofs.Searching.{filter-true, filter-filter}
use Rattle.cc_laws_heap.proofs.NameLists.{same_name-other, same_name-sym, names-some}
use Rattle.cc_laws_heap.proofs.TakenOut.{TakesOut, TakesOut-then, TakesOut-script, TakesOut-cascade}
use Rattle.cc_laws_heap.specs.Balance.{IsSteady}
use Rattle.cc_laws_heap.specs.Stages.{stage, Done, HoldNoNatives, Sweeping}
use Rattle.cc_laws_heap.specs.Stages.Done.{followed, besides}
use Rattle.cc_laws_heap.specs.Stages.Sweeping.{swept_object, swept_reflector}
use Rattle.cc_laws_heap.proofs.Drain.{cascade-steady}
use Rattle.cc_laws_heap.proofs.Giving.{cascade-done}
use Rattle.cc_laws_heap.proofs.CascadeTakesOut.{cascade-frees_steady}
use Rattle.cc_laws_heap.proofs.SweepBalance.{IsSteady-without_object, IsSteady-without_reflector}

-- What script objects are left

-- Script objects swept are taken out, and no others.
pub scripts-sweep_each : (xs : List Name) (o : Outcome) →
    (sweep_each xs o).heap.scripts ≡ filter (λ p. not (has same_name xs p.name)) o.heap.scripts
scripts-sweep_each [] o = sym (filter-true (λ (p : HeapScript). not (has same_name [] p.name)) o.heap.scripts (λ p. refl))
scripts-sweep_each (x ∷ xs) o =
    scripts-sweep_each xs (after o.events (sweep_one o.heap x))
    ∙ (ap (filter (λ p. not (has same_name xs p.name))) (scripts-sweep_one o.heap x)
    ∙ (filter-filter (λ p. not (has same_name xs p.name)) (λ p. not (same_name p.name x)) o.heap.scripts
    ∙ ap (λ t. filter t o.heap.scripts) (fun_ext (λ p. neither (same_name p.name x) (has same_name xs p.name) ∙ ap (λ b. not (b || has same_name xs p.name)) (same_name-sym p.name x)))))
  where
    neither : (b c : Bool) → (not b && not c) ≡ not (b || c)
    neither b c = grind arith

-- Objects to be swept

-- the heaps are steady, script objects have distinct names, none of them a native's, and hold no natives, and those to be swept are distinct
-- and there
pub record IsToSweep (owned : List ℕ) (dead : List Name) (h : Heap) : Type 0 where
  pub steady : IsSteady owned h
  pub named : (o : HeapScript) → Among o h.scripts → is_script o.name ≡ true
  pub bare : HoldNoNatives h
  pub distinct : (x : Name) → count_by (λ (o : HeapScript). same_name o.name x) h.scripts ≤ 1
  pub there : (x : Name) → Among x dead → Among x (script_names h)
  pub once : (x : Name) → count_by (same_name x) dead ≤ 1

-- a name of a script object is that of no native
IsToSweep-named : (owned : List ℕ) (dead : List Name) (h : Heap) → IsToSweep owned dead h → (x : Name) → Among x (script_names h) → is_script x ≡ true
IsToSweep-named owned dead h t x m = let f = Among-map_cases (λ (o : HeapScript). o.name) h.scripts x m in subst (λ y. is_script y ≡ true) f.2 (t.named f.0 f.1)

-- what was done, where no native waits and none is in hand
abbrev pub DoneBy : Heap → Outcome → Type 0
DoneBy h o = Done Sweeping (stage [] [] h) o.events (stage [] [] o.heap)

-- One object swept is told and taken out, with what its native's cascade frees, and the heaps stay steady.
TakesOut-sweep_one : (owned : List ℕ) (x : Name) (xs : List Name) (h : Heap) → IsToSweep owned (x ∷ xs) h →
    (ys : List Name) × TakesOut h ys (sweep_one h x) × IsSteady owned (sweep_one h x).heap × DoneBy h (sweep_one h x)
TakesOut-sweep_one owned (name.Native k) xs h t = absurd (false≢true (IsToSweep-named owned (name.Native k ∷ xs) h t (name.Native k) (t.there (name.Native k) (inl refl))))
TakesOut-sweep_one owned (name.Script k) xs h t =
    let x : Name = name.Script k in (
      x ∷ [],
      TakesOut-script h x refl (t.there x (inl refl)),
      IsSteady-without_object owned h k.0 t.steady,
      besides (stage [] [] h) (Freed x ∷ []) (stage [] [] (without_script h x)) (swept_object h k.0 t.bare),
    )
TakesOut-sweep_one owned (name.Reflector k) xs h t =
    let x : Name = name.Reflector k in
    let g : Heap = without_script h x in
    let c : Outcome = cascade g k.0 in
    let there : Among x (script_names h) = t.there x (inl refl) in
    let steady : IsSteady (k.0 ∷ owned) g = IsSteady-without_reflector owned h k.0 t.steady (t.distinct x) there in
    let f = cascade-frees_steady owned g k.0 steady in
    let named : (p : HeapScript) → Among p g.scripts → is_script p.name ≡ true =
    λ p m. t.named p (Among-filtered (λ (o : HeapScript). not (same_name o.name x)) p h.scripts m) in
    let first : Outcome = outcome_of g (Freed x ∷ []) in (
      (x ∷ []) ++ map native f.0,
      TakesOut-then h (x ∷ []) (map native f.0) first c (TakesOut-script h x refl there) (TakesOut-cascade g f.0 c named f.1),
      cascade-steady owned g k.0 steady,
      followed (stage [] [] h) (stage (k.0 ∷ []) [] g) (stage [] [] c.heap) (Freed x ∷ []) c.events
          (besides (stage [] [] h) (Freed x ∷ []) (stage (k.0 ∷ []) [] g) (swept_reflector h k.0 t.bare)) (cascade-done Sweeping [] owned g k.0 steady),
    )

-- then the others are to be swept
IsToSweep-rest : (owned : List ℕ) (x : Name) (xs : List Name) (h : Heap) → IsToSweep owned (x ∷ xs) h → IsSteady owned (sweep_one h x).heap → IsToSweep owned xs (sweep_one h x).heap
IsToSweep-rest owned x xs h t steady = record {
  steady = steady;
  named = λ o m. t.named o (before o m);
  bare = λ o i m. t.bare o i (before o m);
  distinct = λ y. subst (λ os. count_by (λ (o : HeapScript). same_name o.name y) os ≤ 1) (sym (scripts-sweep_one h x))
      (omega (arith, t.distinct y, count_by-filter-le (λ (o : HeapScript). same_name o.name y) others h.scripts));
  there = λ y m. subst (λ os. Among y (map (λ (o : HeapScript). o.name) os)) (sym (scripts-sweep_one h x)) (stays y m);
  once = λ y. omega (arith, t.once y, count_by-cons (same_name y) x xs);
}
  where
    others : HeapScript → Bool
    others o = not (same_name o.name x)

    before : (o : HeapScript) → Among o (sweep_one h x).heap.scripts → Among o h.scripts
    before o m = Among-filtered others o h.scripts (subst (Among o) (scripts-sweep_one h x) m)

    -- those that are still to be swept are not the first
    other : (y : Name) → Among y xs → ¬ (y ≡ x)
    other y m e =
        let some = names-some y xs m in
        let first : count_by (same_name y) (x ∷ xs) ≡ 1 + count_by (same_name y) xs =
        count_by-cons (same_name y) x xs ∙ ap (λ b. cond b 1 0 + count_by (same_name y) xs) (subst (λ z. same_name y z ≡ true) e (same_name-refl y)) in
        absurd (omega (arith, t.once y, some))

    stays : (y : Name) → Among y xs → Among y (map (λ (o : HeapScript). o.name) (filter others h.scripts))
    stays y m =
        let f = Among-map_cases (λ (o : HeapScript). o.name) h.scripts y (t.there y (inr m)) in
        subst (λ z. Among z (map (λ (o : HeapScript). o.name) (filter others h.scripts))) f.2
        (Among-map (λ (o : HeapScript). o.name) f.0 (filter others h.scripts)
        (Among-filter others f.0 h.scripts f.1 (ap not (same_name-other f.0.name x (λ e. other y m (sym f.2 ∙ e))))))

-- OBJECTS SWEPT IN TURN are told and taken out, with what is freed meanwhile, and the heaps stay steady.
pub TakesOut-sweep_each : (owned : List ℕ) (dead : List Name) (h : Heap) (xs : List Name) (o : Outcome) → TakesOut h xs o → DoneBy h o → IsToSweep owned dead o.heap →
    (ys : List Name) × TakesOut h ys (sweep_each dead o) × IsSteady owned (sweep_each dead o).heap × DoneBy h (sweep_each dead o)
TakesOut-sweep_each owned [] h xs o f d t = (xs, f, t.steady, d)
TakesOut-sweep_each owned (x ∷ dead) h xs o f d t =
    let one = TakesOut-sweep_one owned x dead o.heap t in
    let p : Outcome = sweep_one o.heap x in
    TakesOut-sweep_each owned dead h (xs ++ one.0) (after o.events p) (TakesOut-then h xs one.0 o p f one.1)
    (followed (stage [] [] h) (stage [] [] o.heap) (stage [] [] p.heap) o.events p.events d one.3) (IsToSweep-rest owned x dead o.heap t one.2)
