-- WHAT UNITS KEEP, one after the other, and each of them.
use Rattle.std.proofs.Common.{◌≡◌, ℕ, ◌+◌, Bool, true, false, ◌&&◌, not, List, [], ◌∷◌, length, map, Option, Some, None, refl, sym, ap, ◌∙◌, subst, arith, ◌==◌}
use Rattle.cc_lists.specs.Members.{Among, has}
use Rattle.cc_lists.proofs.Members.{Among-map, Among-map_cases, Among-filtered}
use Rattle.cc_names.specs.declared.name.Name.{Name}
use Rattle.cc_names.specs.Names.{native}
use Rattle.cc_model.specs.declared.item.Event.TheVariants.{Abandoned}
use Rattle.cc_model.specs.Telling.{Telling, TellsEvents}
use Rattle.cc_model.specs.Heap.{Heap, HeapNative, HeapScript}
use Rattle.cc_model.specs.WellFormed.{native_names, script_names}
use Rattle.cc_model.specs.View.{view}
use Rattle.cc_model.specs.Suspected.{IsSuspected}
use Rattle.cc_model.specs.Snapshot.{Snapshot, white_natives}
use Rattle.cc_model.specs.Units.{begun, with_empty_buffer, first_untraversed}
use Rattle.cc_model.specs.End.{went_on, at_end, refused, unit, may_be_refused, take_away, give_back, granted, abandoned, node_or_end, going_on, unit_came}
use Rattle.cc_model.proofs.Tellings.{Tells-nil}
use Rattle.cc_laws_heap.specs.Apart.{AreApart}
use Rattle.cc_laws_heap.specs.Ending.{TakesAway}
use Rattle.cc_laws_heap.proofs.Face.{take_away-takes}
use Rattle.cc_laws_snapshot.proofs.Face.{give_back-buffer, white_natives-apart, white_natives-there}
use Rattle.cc_laws_run.specs.Running.{IsFreshNow}
use Rattle.cc_laws_run.proofs.Face.{traversed-none}
use Rattle.cc_graph.specs.Shown.{Shown}
use Rattle.cc_heaps.specs.Keyed.{Keyed, changed_to, left_with}
use Rattle.cc_heaps.specs.NewMarks.{marks_of}
use Rattle.cc_heaps.specs.Standing.{StillStands}
use Rattle.cc_heaps.proofs.KeysKept.{KeepsKeys-same, KeepsKeys-changed, KeepsKeys-left}
use Rattle.cc_heaps.proofs.Kept.{kept-alone}
use Rattle.cc_builder.specs.Building.{Built, IsNodeUnit, snapshot_of}
use Rattle.cc_unlink.specs.Whites.{whites_of, AreWhiteIn}
use Rattle.cc_collector.specs.Kept.{Kept, RunsAlone, RunsIn, GoesOn, running_snapshot}
use Rattle.cc_collector.specs.Units.{Keeps, HasDoneUnit}

-- Units one after the other

-- nothing done
pub Keeps-nothing : (v : Keyed) (c : Option Built) → RunsAlone v c → Keeps v c v c
Keeps-nothing v c r = search (kept-alone, KeepsKeys-same)

-- one after the other
pub Keeps-then : (v : Keyed) (c : Option Built) (w : Keyed) (d : Option Built) (u : Keyed) (e : Option Built) → Keeps v c w d → Keeps w d u e → Keeps v c u e
Keeps-then v c w d u e a b = record {
  runs = b.runs;
  stands = λ g well stands. b.stands g well (a.stands g well stands);
  suspected = λ s. b.suspected (a.suspected s);
  natives_left = λ x m. a.natives_left x (b.natives_left x m);
  scripts_left = λ x m. a.scripts_left x (b.scripts_left x m);
  kept = record {
    keys = record {
      natives = λ key k at m. b.kept.keys.natives key k (a.kept.keys.natives key k at (b.natives_left (native k) m)) m;
      scripts = λ key x at m. b.kept.keys.scripts key x (a.kept.keys.scripts key x at (b.scripts_left x m)) m;
    };
    order = λ owned o. b.kept.order owned (a.kept.order owned o);
    counts = b.kept.counts;
    colours = λ colours. b.kept.colours (a.kept.colours colours);
    fresh = tt;
    suspected = tt;
    marks = tt;
  };
}

-- the snapshot of the running collection is fresh
pub RunsAlone-fresh : (v : Keyed) (c : Option Built) → RunsAlone v c → IsFreshNow v.heap (running_snapshot c)
RunsAlone-fresh v c r = grind arith

pub RunsIn-fresh : (v : Keyed) (k : Kept) → RunsIn v k → IsFreshNow v.heap (running_snapshot k.running)
RunsIn-fresh v k r = grind arith

-- Each unit

unit-granted : (h : Heap) (s : Option Snapshot) → unit h s true ≡ granted h s
unfolding unit
unit-granted h s = grind arith

unit-refused : (h : Heap) (s : Option Snapshot) → may_be_refused h s ≡ true → unit h s false ≡ abandoned h s
unfolding unit
unit-refused h s e = ap (λ (b : Bool). elim (b && true) [ true ↦ abandoned h s | false ↦ granted h s ]) e

-- the same natives and script objects
same-natives : (v w : Keyed) (h : Heap) → w ≡ changed_to v h → native_names h ≡ native_names v.heap → (x : Name) → Among x (native_names w.heap) → Among x (native_names v.heap)
same-natives v w h e same x m = subst (Among x) (ap (λ (k : Keyed). native_names k.heap) e ∙ same) m

same-scripts : (v w : Keyed) (h : Heap) → w ≡ changed_to v h → script_names h ≡ script_names v.heap → (x : Name) → Among x (script_names w.heap) → Among x (script_names v.heap)
same-scripts v w h e same x m = subst (Among x) (ap (λ (k : Keyed). script_names k.heap) e ∙ same) m

-- A BEGIN
pub begin-done : (v w : Keyed) (b : Built) (t : Telling) → RunsAlone v None → w ≡ changed_to v (with_empty_buffer v.heap) → snapshot_of b ≡ begun v.heap → RunsAlone w (Some b) →
    StillStands v.heap w.heap → (IsSuspected (view v.heap) [] → IsSuspected (view w.heap) (snapshot_of b).candidates) → HasDoneUnit v None w (Some b) went_on t t
begin-done v w b t r e s runs stands suspected = record {
  events = [];
  unit = record {
    memory = true;
    is = unit-granted v.heap None ∙ (ap (λ (h : Heap). going_on h (begun v.heap)) (sym (ap (λ (k : Keyed). k.heap) e)) ∙ ap (going_on w.heap) (sym s));
    weak = refl;
    marking = ap (λ (k : Keyed). marks_of k) e;
  };
  told = Tells-nil t;
  keeps = record {
    runs = runs;
    stands = stands;
    suspected = suspected;
    natives_left = same-natives v w (with_empty_buffer v.heap) e refl;
    scripts_left = same-scripts v w (with_empty_buffer v.heap) e refl;
    kept = kept-alone v w r.order runs.order (KeepsKeys-changed v w (with_empty_buffer v.heap) e) (λ colours. runs.colours);
  };
  fewer = λ _.
      let made : w.heap.natives_made ≡ v.heap.natives_made = ap (λ (k : Keyed). k.heap.natives_made) e in
      let scripts : length w.heap.scripts ≡ length v.heap.scripts = ap (λ (k : Keyed). length k.heap.scripts) e in
      omega (arith, made, scripts);
  over = λ f. absurd (f refl);
}

-- a begin that is refused
pub begin-refused : (v : Keyed) (t t₁ : Telling) → RunsAlone v None → may_be_refused v.heap None ≡ true → TellsEvents t t₁ (Abandoned ∷ []) → HasDoneUnit v None v None refused t t₁
begin-refused v t t₁ r asks told = record {
  events = Abandoned ∷ [];
  unit = record { memory = false; is = unit-refused v.heap None asks; weak = refl; marking = refl };
  told = told;
  keeps = Keeps-nothing v None r;
  fewer = λ e. cc;
  over = λ f. refl;
}

-- ONE NODE
pub node-done : (v : Keyed) (b d : Built) (t : Telling) → RunsAlone v (Some b) → IsNodeUnit v.heap (snapshot_of b) (snapshot_of d) → GoesOn v d → (snapshot_of d).candidates ≡ (snapshot_of b).candidates →
    d.next ≡ b.next + 1 → HasDoneUnit v (Some b) v (Some d) went_on t t
node-done v b d t r u goes candidates next = record {
  events = [];
  unit = record {
    memory = true;
    is = unit-granted v.heap (Some (snapshot_of b))
        ∙ (ap (node_or_end v.heap (snapshot_of b)) u.first_one ∙ ap (going_on v.heap) (sym u.after));
    weak = refl;
    marking = refl;
  };
  told = Tells-nil t;
  keeps = record {
    runs = runs;
    stands = λ g well stands. stands;
    suspected = λ s. subst (λ (ks : List ℕ). IsSuspected (view v.heap) ks) (sym candidates) s;
    natives_left = λ x m. m;
    scripts_left = λ x m. m;
    kept = kept-alone v v r.order r.order (KeepsKeys-same v) (λ colours. colours);
  };
  fewer = λ _. omega (arith, next, goes.built.behind, goes.built.few);
  over = λ f. absurd (f refl);
}
  where
    runs : RunsAlone v (Some d)
    runs = record { order = r.order; colours = r.colours; goes_on = goes; unmarked = r.unmarked }

-- A NODE THAT IS REFUSED
pub node-refused : (v w : Keyed) (b : Built) (ks : List ℕ) (t t₁ : Telling) → RunsAlone v (Some b) → may_be_refused v.heap (Some (snapshot_of b)) ≡ true →
    ks ≡ (snapshot_of b).candidates → w ≡ changed_to v (give_back ks v.heap) → RunsAlone w None → StillStands v.heap w.heap →
    (IsSuspected (view v.heap) ks → IsSuspected (view w.heap) []) → TellsEvents t t₁ (Abandoned ∷ []) → HasDoneUnit v (Some b) w None refused t t₁
node-refused v w b ks t t₁ r asks candidates e runs stands suspected told = record {
  events = Abandoned ∷ [];
  unit = record {
    memory = false;
    is = unit-refused v.heap (Some (snapshot_of b)) asks
        ∙ ap (λ (h : Heap). unit_came h None (Abandoned ∷ []) refused) (ap (λ (js : List ℕ). give_back js v.heap) (sym candidates) ∙ sym (ap (λ (k : Keyed). k.heap) e));
    weak = refl;
    marking = ap (λ (k : Keyed). marks_of k) e;
  };
  told = told;
  keeps = record {
    runs = runs;
    stands = stands;
    suspected = λ s. suspected (subst (λ (js : List ℕ). IsSuspected (view v.heap) js) (sym candidates) s);
    natives_left = same-natives v w (give_back ks v.heap) e (ap native_names (give_back-buffer ks v.heap v.heap.buffer));
    scripts_left = same-scripts v w (give_back ks v.heap) e (ap script_names (give_back-buffer ks v.heap v.heap.buffer));
    kept = kept-alone v w r.order runs.order (KeepsKeys-changed v w (give_back ks v.heap) e) (λ colours. runs.colours);
  };
  fewer = λ f. cc;
  over = λ f. refl;
}

-- THE END: the white natives of the graph are those of the snapshot, which is traversed
module _ (v : Keyed) (b : Built) (g : Shown) (r : RunsAlone v (Some b)) (traversed : first_untraversed (snapshot_of b).nodes ≡ None)
    (whites : whites_of g v.heap ≡ white_natives v.heap (snapshot_of b)) where
  -- they are white in a fresh snapshot,
  pub are-white : AreWhiteIn g v.heap (snapshot_of b)
  are-white = record { fresh = r.goes_on.fresh; traversed = traversed-none (snapshot_of b).nodes traversed; natives = whites }

  -- so they are apart
  pub are-apart : AreApart v.heap (whites_of g v.heap)
  are-apart = subst (AreApart v.heap) (sym whites) (white_natives-apart v.heap (snapshot_of b) r.order.sound r.goes_on.fresh are-white.traversed)

  pub end-done : (w : Keyed) (t t₁ : Telling) → w ≡ left_with v (take_away (whites_of g v.heap) v.heap).heap → RunsAlone w None → StillStands v.heap w.heap →
      (IsSuspected (view v.heap) (snapshot_of b).candidates → IsSuspected (view w.heap) []) → TellsEvents t t₁ (take_away (whites_of g v.heap) v.heap).events →
      HasDoneUnit v (Some b) w None at_end t t₁
  end-done w t t₁ e runs stands suspected told = record {
    events = (take_away (whites_of g v.heap) v.heap).events;
    unit = record {
      memory = true;
      is = unit-granted v.heap (Some (snapshot_of b))
          ∙ (ap (node_or_end v.heap (snapshot_of b)) traversed
          ∙ (ap (λ (ks : List ℕ). unit_came (take_away ks v.heap).heap None (take_away ks v.heap).events at_end) (sym whites)
          ∙ ap (λ (h : Heap). unit_came h None (take_away (whites_of g v.heap) v.heap).events at_end) (sym heap)));
      weak = refl;
      marking = ap (λ (k : Keyed). marks_of k) e;
    };
    told = told;
    keeps = record {
      runs = runs;
      stands = stands;
      suspected = suspected;
      natives_left = natives_left;
      scripts_left = λ x m. subst (λ (os : List HeapScript). Among x (map (λ o. o.name) os)) (ap (λ (h : Heap). h.scripts) heap ∙ takes.scripts) m;
      kept = kept-alone v w r.order runs.order (KeepsKeys-left v w (take_away (whites_of g v.heap) v.heap).heap e) (λ colours. runs.colours);
    };
    fewer = λ f. cc;
    over = λ f. refl;
  }
    where
      heap : w.heap ≡ (take_away (whites_of g v.heap) v.heap).heap
      heap = ap (λ (k : Keyed). k.heap) e

      there : (k : ℕ) → Among k (whites_of g v.heap) → Among (native k) (native_names v.heap)
      there k m = (white_natives-there v.heap (snapshot_of b) r.order.sound).there k (subst (Among k) whites m)

      freed : List ℕ
      freed = (take_away-takes v.heap (whites_of g v.heap) r.order.sound there).0

      takes : TakesAway v.heap (whites_of g v.heap) freed (take_away (whites_of g v.heap) v.heap)
      takes = (take_away-takes v.heap (whites_of g v.heap) r.order.sound there).1

      natives_left : (x : Name) → Among x (native_names w.heap) → Among x (native_names v.heap)
      natives_left x m =
          let n = Among-map_cases (λ (n : HeapNative). native n.number) w.heap.natives x m in
          let number : Among n.0.number (map (λ (n : HeapNative). n.number) v.heap.natives) =
          Among-filtered (λ k. not (has ◌==◌ freed k)) n.0.number (map (λ (n : HeapNative). n.number) v.heap.natives)
          (subst (Among n.0.number) (ap (λ (h : Heap). map (λ (n : HeapNative). n.number) h.natives) heap ∙ takes.natives)
          (Among-map (λ (n : HeapNative). n.number) n.0 w.heap.natives n.1)) in
          let o = Among-map_cases (λ (n : HeapNative). n.number) v.heap.natives n.0.number number in
          subst (λ y. Among y (native_names v.heap)) (ap native o.2 ∙ n.2) (Among-map (λ (n : HeapNative). native n.number) o.0 v.heap.natives o.1)
