-- ROUND A CHANGE a native is held, and let go again.
use Rattle.std.proofs.Common.{◌≡◌, [], get_or, set, Option, Some, None, refl, sym, ◌∙◌, ap, subst, ⊎_elim, arith, set-set}
use Rattle.std.proofs.lemmas.List.{get_or-set_same, set-get_or}
use Rattle.cc_lists.specs.Members.{Among}
use Rattle.cc_lists.proofs.Members.{Among-left, Among-right, Among-append, Among-map, Among-map_cases}
use Rattle.cc_names.specs.declared.name.Name.{Name}
use Rattle.cc_names.specs.declared.number.NKey.{NKey}
use Rattle.cc_names.specs.declared.register.Reg.TheVariants.{N}
use Rattle.cc_names.specs.Names.{native}
use Rattle.cc_model.specs.Slots.{Slots}
use Rattle.cc_model.specs.Telling.{Telling, TellsEvents}
use Rattle.cc_model.specs.Graph as graph
use Rattle.cc_model.specs.Graph.{Graph}
use Rattle.cc_model.specs.Given.{Given}
use Rattle.cc_model.specs.Heap.{Heap, HeapNative, HeapScript, register, set_register}
use Rattle.cc_model.specs.Cascade.{let_go, take_up}
use Rattle.cc_model.specs.Effects.{hold_native}
use Rattle.cc_model.specs.WellFormed.{native_names, script_names, names_there}
use Rattle.cc_laws_heap.proofs.Face.{Follows, Follows-left, HoldsTheSame-take_up, Leaves, Leaves-let_go, Leaves-take_up}
use Rattle.cc_heaps.specs.Keyed.{Keyed, IsInOrder, left_with}
use Rattle.cc_heaps.specs.Changes.{native_name}
use Rattle.cc_heaps.specs.Keeping.{KeepsAll}
use Rattle.cc_heaps.specs.Leaving.{NoneCame, TellsWhatIsFreed}
use Rattle.cc_heaps.specs.Standing.{IsReached, StandsAfter}
use Rattle.cc_heaps.proofs.Kept.{KeepsAll-same}
use Rattle.cc_heaps.proofs.Leaving.{tells-then}
use Rattle.cc_heaps.proofs.StandingAfter.{StandsAfter-from}
use Rattle.cc_host.specs.Hosted.{spare}
use Rattle.cc_host.specs.Holding.{IsHeld, IsLetGo}
use Rattle.cc_host.specs.Missing.{KeepsDoomed}
use Rattle.cc_host.specs.Changes.{IsReady, IsChange, IsTried}
use Rattle.cc_host.proofs.KeptDoomed.{doomed-then, hold_native-doomed}
use Rattle.cc_host.proofs.Composing.{KeepsAll-then, KeepsAll-with, KeepsKeys-later, tells-after}
use Rattle.cc_host.proofs.Spare.{LeavesRegisters, hold_native-registers, stands-around}

-- What is left was there.
pub left-none_came : (h k : Heap) → Leaves h k → NoneCame h k
left-none_came h k l x i = ⊎_elim
    (λ m.
    let f = Among-map_cases (λ (n : HeapNative). native n.number) k.natives x m in
    let p = l.objects.natives f.0 f.1 in
    Among-left x (native_names h) (script_names h)
    (subst (λ y. Among y (native_names h)) (ap native p.2 ∙ f.2) (Among-map (λ (n : HeapNative). native n.number) p.0 h.natives p.1)))
    (λ m.
    let f = Among-map_cases (λ (o : HeapScript). o.name) k.scripts x m in
    let p = l.objects.scripts f.0 f.1 in
    Among-right x (native_names h) (script_names h)
    (subst (λ y. Among y (script_names h)) (p.2 ∙ f.2) (Among-map (λ (o : HeapScript). o.name) p.0 h.scripts p.1)))
    (Among-append x (native_names k) (script_names k) i)

-- THE REGISTER IS EMPTY again
module _ (v w : Keyed) (is : w ≡ left_with v (hold_native v.heap spare None).heap) where
  -- what it held is given up, and nothing else
  pub emptied-is : w.heap ≡ (let_go (set_register v.heap (N spare) None) (register v.heap (N spare))).heap
  unfolding hold_native
  emptied-is = ap (λ (u : Keyed). u.heap) is

  pub let_go-from : IsInOrder [] v → KeepsAll v w → StandsAfter v.heap w.heap (λ g. graph.set_register g (N spare) None) → IsLetGo v w
  let_go-from order kept stands = record {
    change = record {
      kept = kept;
      spared = ap (λ (u : Keyed). get_or u.heap.native_registers spare None) is
          ∙ (ap (λ (rs : Slots). get_or rs spare None) (hold_native-registers v.heap spare None)
          ∙ get_or-set_same v.heap.native_registers spare None None (omega (arith, order.sound.well_formed.registers.0.enough)));
      stands = λ p. stands;
      doomed = λ p. subst (KeepsDoomed v.heap) (sym (ap (λ (u : Keyed). u.heap) is)) (hold_native-doomed v.heap spare None tt);
    };
    given_up = is;
    none_came = λ x m. left-none_came (set_register v.heap (N spare) None) (let_go (set_register v.heap (N spare) None) (register v.heap (N spare))).heap
        (Leaves-let_go (set_register v.heap (N spare) None) (register v.heap (N spare))) x (subst (λ h. Among x (names_there h)) emptied-is m);
  }

-- HELD, CHANGED AND LET GO
module _ {key : NKey} (a b c d : Keyed) (ready : IsReady a) (h : IsHeld key a b) (t : KeepsAll b c) (l : IsLetGo c d) where
  late : IsInOrder [] d
  late = l.change.kept.order [] (t.order [] (h.kept.order [] ready.order))

  pub around-kept : KeepsAll a d
  around-kept = KeepsAll-then a c d ready.order l.none_came (KeepsAll-with a b c (KeepsKeys-later a b c h.keys h.scripts t.keys) h.kept t) l.change.kept

  pub around-change : (premise : Type 0) (change : Graph → Graph) → LeavesRegisters change → (premise → IsReached a.heap (native_name a (Some key))) →
      (premise → StandsAfter b.heap c.heap change) → (premise → KeepsDoomed b.heap c.heap) → IsChange premise change a d
  around-change premise change leaves reached stands doomed = record {
    kept = around-kept;
    spared = l.change.spared;
    stands = λ p. stands-around a.heap b.heap c.heap d.heap spare (native_name a (Some key)) change ready.spared leaves (h.stands (reached p)) (stands p) (l.change.stands tt);
    doomed = λ p. doomed-then a.heap b.heap d.heap (h.doomed (reached p)) (doomed-then b.heap c.heap d.heap (doomed p) (l.change.doomed tt));
  }

  -- where nothing came between, nothing came
  pub around-none_came : NoneCame b.heap c.heap → NoneCame a.heap d.heap
  around-none_came came x m = subst (Among x) h.names (came x (l.none_came x m))

  -- what is told of it
  pub around-tells : (s t u v : Telling) → TellsEvents s t [] → NoneCame b.heap c.heap → TellsWhatIsFreed b.heap c.heap t u → TellsWhatIsFreed c.heap d.heap u v →
      TellsWhatIsFreed a.heap d.heap s v
  around-tells s t u v told came o p = tells-after a.heap b.heap d.heap s t v told (λ x m. subst (Among x) (sym h.names) m) (λ j m. subst (Among (native j)) h.names m)
      (tells-then b.heap c.heap d.heap late.sound.well_formed l.none_came came t u v o p)

-- WITH NOTHING BETWEEN the heaps go on standing for the same graphs, whether what was held is reached or not
module _ {key : NKey} (a b c : Keyed) (ready : IsReady a) (h : IsHeld key a b) (l : IsLetGo b c) where
  abbrev content : Option Name
  content = native_name a (Some key)

  abbrev emptied : Heap
  emptied = set_register b.heap (N spare) None

  raised : emptied ≡ take_up a.heap content
  raised =
      let rs = (take_up a.heap content).native_registers in
      ap (λ k. set_register k (N spare) None) h.heap
      ∙ ap (λ (ss : Slots). record (take_up a.heap content) { native_registers = ss })
      (set-set rs spare content None
      ∙ (ap (set rs spare) (sym (ap (λ (ss : Slots). get_or ss spare None) (HoldsTheSame-take_up a.heap content).beside.native_registers ∙ ready.spared)) ∙ set-get_or rs spare None))

  pub nothing-change : IsTried (IsReached a.heap content) a c
  nothing-change =
      let kept = around-kept a b b c ready h (KeepsAll-same b b refl) l in
      record {
        kept = kept;
        spared = l.change.spared;
        stands = λ g₀ m₀ s₀. (StandsAfter-from a.heap c.heap (λ g. g) ready.order.sound.well_formed (kept.order [] ready.order).sound.well_formed (λ g m s. m)
            (λ g m s f. subst (λ k. Follows (Given a.heap g) k g) (sym (emptied-is b c l.given_up))
            (Follows-left (Given a.heap g) emptied (let_go emptied (register b.heap (N spare))).heap g (Leaves-let_go emptied (register b.heap (N spare)))
            (subst (λ k. Follows (Given a.heap g) k g) (sym raised) (Follows-left (Given a.heap g) a.heap (take_up a.heap content) g (Leaves-take_up a.heap content) f)))) g₀ m₀ s₀).1;
        doomed = λ p. doomed-then a.heap b.heap c.heap (h.doomed p) (l.change.doomed tt);
      }
