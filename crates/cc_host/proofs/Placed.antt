-- ROOTS AT PLACES: a register behind the numbered roots written, once its bank has it.
use Rattle.std.proofs.Common.{◌≡◌, ◌≢◌, ℕ, ◌+◌, ◌<◌, ◌≤◌, [], length, get_or, set, Option, Some, None, IsSome, option_map, refl, sym, ◌∙◌, ap, subst, inl, inr, ⊎_elim, arith, option_to_list}
use Rattle.std.proofs.lemmas.List.{get_or-set_other, get_or-set_same, set_past}
use Rattle.cc_lists.proofs.Held.{is_some-found}
use Rattle.cc_lists.specs.Members.{Among}
use Rattle.cc_names.specs.Sizes.{most_roots}
use Rattle.cc_names.specs.declared.name.Name.{Name}
use Rattle.cc_names.specs.declared.number.NKey.{NKey}
use Rattle.cc_names.specs.declared.register.Reg.TheVariants.{N, S}
use Rattle.cc_names.specs.Names.{native}
use Rattle.cc_model.specs.Banks.{of_natives, of_scripts}
use Rattle.cc_model.specs.Slots.{Slots}
use Rattle.cc_model.specs.Graph as graph
use Rattle.cc_model.specs.Graph.{Graph}
use Rattle.cc_model.specs.WellMade.{IsWellMade}
use Rattle.cc_model.specs.Heap.{Heap, Outcome, lengthen, register}
use Rattle.cc_model.specs.StandsFor.{StandsFor}
use Rattle.cc_model.specs.Effects.{hold_native, hold_script}
use Rattle.cc_model.specs.Marking.{exposed_marks}
use Rattle.cc_model.specs.Telling.{Telling, TellsEvents}
use Rattle.cc_model.specs.View.{View, ReachedIn}
use Rattle.cc_model.specs.WellFormed.{IsWellFormed, names_there, native_names}
use Rattle.cc_model.proofs.Tellings.{Tells-nil}
use Rattle.cc_laws_heap.proofs.Face.{lengthen-sound, view-lengthen}
use Rattle.cc_laws_heap.proofs.NativesKeepScripts.{hold_native-scripts}
use Rattle.cc_heaps.specs.Keyed.{IsInOrder, Keyed, changed_to, left_with, number_at}
use Rattle.cc_heaps.specs.Changes.{native_name}
use Rattle.cc_heaps.specs.Keeping.{KeepsAll}
use Rattle.cc_heaps.specs.Leaving.{NoneCame, TellsWhatIsFreed}
use Rattle.cc_heaps.specs.Marks.{KeepsMarks}
use Rattle.cc_heaps.specs.NewMarks.{marks_of}
use Rattle.cc_heaps.specs.Standing.{IsReached, IsReachedOrReflects, MayBeHeld, StandsAfter}
use Rattle.cc_heaps.proofs.Calls.{number-named}
use Rattle.cc_heaps.proofs.Kept.{KeepsAll-same}
use Rattle.cc_heaps.proofs.Lengthened.{has-place, reflects-longer}
use Rattle.cc_heaps.proofs.Reserved.{marks-unchanged}
use Rattle.cc_host.specs.Changes.{IsChange, IsReady}
use Rattle.cc_host.specs.Hosted.{spare}
use Rattle.cc_host.specs.Marked.{KeepsMarking}
use Rattle.cc_host.specs.Missing.{KeepsDoomed, KeepsDoomedBut}
use Rattle.cc_host.specs.Writing.{WritesNative, WritesScript}
use Rattle.cc_host.proofs.Coming.{hold_native-none_came}
use Rattle.cc_host.proofs.Composing.{KeepsAll-then, stands-then, tells-after}
use Rattle.cc_host.proofs.Exposed.{exposed-rest}
use Rattle.cc_host.proofs.KeptDoomed.{doomed-then, hold_native-doomed, hold_native-doomed_but, hold_script-doomed, still_doomed}
use Rattle.cc_host.proofs.Lengthened.{doomed-longer, doomed_but-longer, leads-after_longer, leads-longer, lengthen-emptied, lengthen-enough, lengthened-place, reached-longer, stands-lengthen}
use Rattle.cc_host.proofs.Marked.{LeadsBut, marking-kept, marking-led, marking-then}
use Rattle.cc_host.proofs.MarkedCalls.{held-marking}
use Rattle.cc_host.proofs.MarkedSteps.{leads-hold_script}
use Rattle.cc_host.proofs.Referring.{reached-held}
use Rattle.cc_host.proofs.ScriptSteps.{StaysBeside, beside-none_came, beside-spared, hold_script-beside}
use Rattle.cc_host.proofs.Spare.{hold_native-registers, root-held}

-- a bank may be as long
pub place-few : (r : ℕ) → r < most_roots → r + 1 ≤ most_roots
place-few r l = omega (arith, l)

-- Natives

-- A register of natives written: each other one holds what it held.
module _ (v w : Keyed) (r : ℕ) (x : Option Name) (is : w ≡ left_with v (hold_native v.heap r x).heap) where
  other-natives : (q : ℕ) → q ≢ r → register w.heap (N q) ≡ register v.heap (N q)
  other-natives q apart =
      ap (λ (u : Keyed). get_or u.heap.native_registers q None) is
      ∙ (ap (λ (rs : Slots). get_or rs q None) (hold_native-registers v.heap r x) ∙ get_or-set_other v.heap.native_registers r q x None apart)

  pub held-writes : WritesNative r v.heap w.heap
  held-writes = record {
    natives = other-natives;
    scripts = λ q. ap (λ (u : Keyed). get_or u.heap.script_registers q None) is ∙ ap (λ (rs : Slots). get_or rs q None) (hold_native-scripts v.heap r x).registers;
  }

  pub held-spared : spare < r → register v.heap (N spare) ≡ None → register w.heap (N spare) ≡ None
  held-spared behind none = other-natives spare (λ e. omega (arith, behind, e)) ∙ none

  pub held-none_came : NoneCame v.heap w.heap
  held-none_came y m = hold_native-none_came v.heap r x y (subst (λ (u : Keyed). Among y (names_there u.heap)) is m)

-- THE REGISTER IS THERE: the bank was lengthened where it had to be, and nothing was told
pub record HasPlace (r : ℕ) (v mid : Keyed) (before after : Telling) : Type 0 where
  pub heap : mid.heap ≡ lengthen v.heap of_natives (r + 1)
  pub kept : KeepsAll v mid
  pub marks : KeepsMarks v mid
  pub told : TellsEvents before after []

-- what may be held before may be held then
held-longer : (h : Heap) (n : ℕ) (x : Option Name) → MayBeHeld h x → MayBeHeld (lengthen h of_natives n) x
held-longer h n None m = tt
held-longer h n (Some x) m = ⊎_elim
    (λ a. inl (subst (λ (u : View). ReachedIn u x) (sym (view-lengthen h of_natives n)) a))
    (λ a. inr a)
    m

module _ {before after : Telling} (v mid : Keyed) (r : ℕ) (key : NKey) (has : HasPlace r v mid before after) (ready : IsReady v) (live : IsSome (number_at v key.0)) where
  -- the native is at its key, under its name
  number-stays : number_at mid key.0 ≡ number_at v key.0
  number-stays =
      let f = is_some-found (number_at v key.0) live in
      has.kept.keys.natives key.0 f.0 f.1 (subst (λ (h : Heap). Among (native f.0) (native_names h)) (sym has.heap) (number-named v [] key.0 f.0 ready.order f.1)) ∙ sym f.1

  pub place-name : native_name mid (Some key) ≡ native_name v (Some key)
  place-name = ap (option_map native) number-stays

  pub place-live : IsSome (number_at mid key.0)
  place-live = subst IsSome (sym number-stays) live

  pub place-room : r < length mid.heap.native_registers
  place-room = subst (λ (h : Heap). r < length h.native_registers) (sym has.heap) (has-place v.heap.native_registers r)

  pub place-order : IsInOrder [] mid
  place-order = has.kept.order [] ready.order

  -- each register holds what it held
  same-natives : (q : ℕ) → register mid.heap (N q) ≡ register v.heap (N q)
  same-natives q = ap (λ (h : Heap). get_or h.native_registers q None) has.heap ∙ lengthened-place v.heap.native_registers (r + 1) q

  same-scripts : (q : ℕ) → register mid.heap (S q) ≡ register v.heap (S q)
  same-scripts q = ap (λ (h : Heap). get_or h.script_registers q None) has.heap

  -- the same objects are there
  names-after : names_there mid.heap ≡ names_there v.heap
  names-after = ap names_there has.heap

  -- THEN IT HOLDS THE NATIVE.
  module _ (w : Keyed) (is : w ≡ left_with mid (hold_native mid.heap r (native_name mid (Some key))).heap) where
    abbrev x : Option Name
    x = native_name v (Some key)

    renamed : w ≡ left_with mid (hold_native mid.heap r x).heap
    renamed = subst (λ y. w ≡ left_with mid (hold_native mid.heap r y).heap) place-name is

    its-heap : w.heap ≡ (hold_native (lengthen v.heap of_natives (r + 1)) r x).heap
    its-heap = ap (λ (u : Keyed). u.heap) renamed ∙ ap (λ (h : Heap). (hold_native h r x).heap) has.heap

    pub placed-held : register w.heap (N r) ≡ x
    placed-held = root-held mid w r x place-room renamed

    pub placed-writes : WritesNative r v.heap w.heap
    placed-writes = let t = held-writes mid w r x renamed in record {
      natives = λ q apart. t.natives q apart ∙ same-natives q;
      scripts = λ q. t.scripts q ∙ same-scripts q;
    }

    after-none_came : NoneCame mid.heap w.heap
    after-none_came = held-none_came mid w r x renamed

    pub placed-none_came : NoneCame v.heap w.heap
    placed-none_came y m = subst (Among y) names-after (after-none_came y m)

    pub placed-doomed_but : KeepsDoomedBut x v.heap w.heap
    placed-doomed_but = doomed_but-longer v.heap w.heap of_natives (r + 1) x
        (subst (KeepsDoomedBut x (lengthen v.heap of_natives (r + 1))) (sym its-heap) (hold_native-doomed_but (lengthen v.heap of_natives (r + 1)) r x))

    placed-doomed : IsReached v.heap x → KeepsDoomed v.heap w.heap
    placed-doomed p =
        let h : Heap = lengthen v.heap of_natives (r + 1) in
        doomed-then v.heap h w.heap (doomed-longer v.heap of_natives (r + 1))
        (subst (KeepsDoomed h) (sym its-heap) (hold_native-doomed h r x (reached-longer v.heap (r + 1) x p)))

    pub placed-stands : r < most_roots → (MayBeHeld mid.heap (native_name mid (Some key)) → StandsAfter mid.heap w.heap (λ g. graph.set_register g (N r) (native_name mid (Some key)))) →
        MayBeHeld v.heap x → StandsAfter v.heap w.heap (λ g. graph.root_at g (N r) x)
    placed-stands few stands may =
        let h : Heap = lengthen v.heap of_natives (r + 1) in
        stands-then v.heap mid.heap w.heap (λ g. graph.lengthen g of_natives (r + 1)) (λ g. graph.set_register g (N r) x)
        (subst (λ (k : Heap). StandsAfter v.heap k (λ g. graph.lengthen g of_natives (r + 1))) (sym has.heap)
        (stands-lengthen v.heap of_natives (r + 1) (place-few r few) ready.order.sound.well_formed))
        (subst (λ y. StandsAfter mid.heap w.heap (λ g. graph.set_register g (N r) y)) place-name
        (stands (subst (MayBeHeld mid.heap) (sym place-name) (subst (λ (k : Heap). MayBeHeld k x) (sym has.heap) (held-longer v.heap (r + 1) x may)))))

    pub placed-change : spare < r → r < most_roots → KeepsAll mid w →
        (MayBeHeld mid.heap (native_name mid (Some key)) → StandsAfter mid.heap w.heap (λ g. graph.set_register g (N r) (native_name mid (Some key)))) →
        IsChange (IsReached v.heap x) (λ g. graph.root_at g (N r) x) v w
    placed-change behind few kept stands = record {
      kept = KeepsAll-then v mid w ready.order after-none_came has.kept kept;
      spared = held-spared mid w r x renamed behind (same-natives spare ∙ ready.spared);
      stands = λ p. placed-stands few stands (reached-held v.heap x p);
      doomed = placed-doomed;
    }

    pub placed-marking : KeepsMarks mid w → KeepsMarking v w
    placed-marking marks = marking-then v mid w
        (marking-kept v mid [] (subst (LeadsBut [] v.heap) (sym has.heap) (leads-longer v.heap (r + 1))) has.marks (λ well y i. absurd i))
        (held-marking mid w r x renamed marks)

    pub placed-tells : (late : Telling) → TellsWhatIsFreed mid.heap w.heap after late → TellsWhatIsFreed v.heap w.heap before late
    placed-tells late tells = tells-after v.heap mid.heap w.heap before after late has.told
        (λ y m. subst (Among y) (sym names-after) m)
        (λ j m. subst (Among (native j)) names-after m)
        tells

-- as it is where the bank has it already,
pub place-there : (r : ℕ) (v : Keyed) (before after : Telling) → r < length v.heap.native_registers → after ≡ before → (mid : Keyed) → mid ≡ v → HasPlace r v mid before after
place-there r v before after room told mid is = record {
  heap = ap (λ (u : Keyed). u.heap) is ∙ sym (lengthen-enough v.heap (r + 1) (omega (arith, room)));
  kept = KeepsAll-same v mid is;
  marks = marks-unchanged v mid is;
  told = subst (λ t. TellsEvents before t []) (sym told) (Tells-nil before);
}

-- and where it is lengthened
pub place-made : (r : ℕ) (v mid : Keyed) (before after : Telling) → length v.heap.native_registers ≤ r → mid.heap ≡ (hold_native (lengthen v.heap of_natives (r + 1)) r None).heap →
    KeepsAll v mid → KeepsMarks v mid → TellsEvents before after (hold_native (lengthen v.heap of_natives (r + 1)) r None).events → HasPlace r v mid before after
place-made r v mid before after beyond heap kept marks told =
    let e = lengthen-emptied v.heap r beyond in
    record {
      heap = heap ∙ ap (λ (o : Outcome). o.heap) e;
      kept = kept;
      marks = marks;
      told = subst (λ (o : Outcome). TellsEvents before after o.events) e told;
    }

-- nothing is written where nothing changes
pub WritesScript-same : (r : ℕ) (v w : Keyed) → w ≡ v → WritesScript r v.heap w.heap
WritesScript-same r v w same = subst (λ (u : Keyed). WritesScript r v.heap u.heap) (sym same) (record { natives = λ q. refl; scripts = λ q apart. refl })

-- A register emptied. Where the bank has none at that place nothing is done, and the graph stays as it is.
pub emptied-change : (v w : Keyed) (r : ℕ) → IsReady v → spare < r → w ≡ left_with v (hold_native v.heap r None).heap → KeepsAll v w →
    (Unit {0} → StandsAfter v.heap w.heap (λ g. graph.set_register g (N r) None)) → IsChange (Unit {0}) (λ g. graph.set_register g (N r) None) v w
emptied-change v w r ready behind is kept stands = record {
  kept = kept;
  spared = held-spared v w r None is behind ready.spared;
  stands = stands;
  doomed = λ p. subst (KeepsDoomed v.heap) (sym (ap (λ (u : Keyed). u.heap) is)) (hold_native-doomed v.heap r None tt);
}

pub beyond-change : (v : Keyed) (r : ℕ) → IsReady v → length v.heap.native_registers ≤ r → IsChange (Unit {0}) (λ g. graph.set_register g (N r) None) v v
beyond-change v r ready beyond = record {
  kept = KeepsAll-same v v refl;
  spared = ready.spared;
  stands = λ p g m s.
      let same : set g.native_registers r None ≡ g.native_registers = set_past g.native_registers r None (subst (λ (rs : Slots). length rs ≤ r) s.native_registers beyond) in
      subst (λ (k : Graph). IsWellMade k × StandsFor v.heap k) (ap (λ (rs : Slots). record g { native_registers = rs }) (sym same)) (m, s);
  doomed = λ p. still_doomed v.heap;
}

-- Script objects

pub beyond_scripts-change : (v : Keyed) (r : ℕ) → IsReady v → length v.heap.script_registers ≤ r → IsChange (Unit {0}) (λ g. graph.set_register g (S r) None) v v
beyond_scripts-change v r ready beyond = record {
  kept = KeepsAll-same v v refl;
  spared = ready.spared;
  stands = λ p g m s.
      let same : set g.script_registers r None ≡ g.script_registers = set_past g.script_registers r None (subst (λ (rs : Slots). length rs ≤ r) s.script_registers beyond) in
      subst (λ (k : Graph). IsWellMade k × StandsFor v.heap k) (ap (λ (rs : Slots). record g { script_registers = rs }) (sym same)) (m, s);
  doomed = λ p. still_doomed v.heap;
}

-- A script register written: each other register holds what it held
module _ (h : Heap) (r : ℕ) (x : Option Name) where
  held_script-registers : (hold_script h r x).script_registers ≡ set h.script_registers r x
  held_script-registers = ap (λ (k : Heap). set k.script_registers r x) (exposed-rest h x)

  held_script-natives : (hold_script h r x).native_registers ≡ h.native_registers
  held_script-natives = ap (λ (k : Heap). k.native_registers) (exposed-rest h x)

  pub held_script-writes : WritesScript r h (hold_script h r x)
  held_script-writes = record {
    natives = λ q. ap (λ (rs : Slots). get_or rs q None) held_script-natives;
    scripts = λ q apart. ap (λ (rs : Slots). get_or rs q None) held_script-registers ∙ get_or-set_other h.script_registers r q x None apart;
  }

  pub held_script-holds : r < length h.script_registers → register (hold_script h r x) (S r) ≡ x
  held_script-holds room = ap (λ (rs : Slots). get_or rs r None) held_script-registers ∙ get_or-set_same h.script_registers r x None room

-- once the bank is lengthened
module _ (v w : Keyed) (r : ℕ) (x : Option Name) (few : r < most_roots) (ready : IsReady v) (is : w.heap ≡ hold_script (lengthen v.heap of_scripts (r + 1)) r x) where
  abbrev longer : Heap
  longer = lengthen v.heap of_scripts (r + 1)

  formed : IsWellFormed longer
  formed = (lengthen-sound [] v.heap of_scripts (r + 1) (place-few r few) ready.order.sound).well_formed

  beside : StaysBeside v.heap w.heap
  beside = subst (StaysBeside v.heap) (sym is) (let b = hold_script-beside longer formed r x in record { registers = b.registers; names = b.names })

  pub placed_script-change : KeepsAll v w → (IsReachedOrReflects v.heap x → StandsAfter v.heap w.heap (λ g. graph.root_at g (S r) x)) →
      IsChange (IsReachedOrReflects v.heap x) (λ g. graph.root_at g (S r) x) v w
  placed_script-change kept stands = record {
    kept = kept;
    spared = beside-spared v w beside ready.spared;
    stands = stands;
    doomed = λ p. doomed-then v.heap longer w.heap (doomed-longer v.heap of_scripts (r + 1))
        (subst (KeepsDoomed longer) (sym is) (hold_script-doomed longer r x
        (reflects-longer v (changed_to v longer) w of_scripts (r + 1) (place-few r few) refl x p)));
  }

  pub placed_script-none_came : NoneCame v.heap w.heap
  placed_script-none_came = beside-none_came v w beside

  pub placed_script-holds : register w.heap (S r) ≡ x
  placed_script-holds = ap (λ (h : Heap). register h (S r)) is ∙ held_script-holds longer r x (has-place v.heap.script_registers r)

  pub placed_script-writes : WritesScript r v.heap w.heap
  placed_script-writes = subst (WritesScript r v.heap) (sym is) (let t = held_script-writes longer r x in record {
    natives = t.natives;
    scripts = λ q apart. t.scripts q apart ∙ lengthened-place v.heap.script_registers (r + 1) q;
  })

  pub placed_script-marking : KeepsAll v w → marks_of w ≡ option_map (exposed_marks v.heap x) (marks_of v) → KeepsMarking v w
  placed_script-marking kept marks = marking-led v w x (λ listed. marks) kept.marks (option_to_list x)
      (subst (LeadsBut (option_to_list x) v.heap) (sym is)
      (leads-after_longer (option_to_list x) v.heap (hold_script longer r x) (r + 1) (leads-hold_script longer r x formed)))
      (λ well y i. inl i)
