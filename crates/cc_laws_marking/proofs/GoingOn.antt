-- A MARKING FROM ITS BEGIN ON, whatever comes between: the heaps stay sound and standing for the graph, the marks as they should be, and
-- what was not marked at the begin can't be marked, but for what was answered.
use Rattle.std.specs.Prelude.{IsTrue}
use Rattle.std.proofs.Common.{◌≡◌, List, [], ◌++◌, None, inl, inr, ◌⊎◌, ⊎_elim}
use Rattle.cc_lists.specs.Members.{Among}
use Rattle.cc_lists.proofs.Members.{Among-left, Among-right, Among-append, Among_or_not}
use Rattle.cc_names.specs.declared.name.Name.{Name}
use Rattle.cc_names.specs.Names.{same_name}
use Rattle.cc_names.proofs.NameTests.{same_name-exact}
use Rattle.cc_model.specs.declared.command.Command.{Command}
use Rattle.cc_model.specs.declared.item.Event.TheVariants.{Freed}
use Rattle.cc_model.specs.Deeds.{deed_of}
use Rattle.cc_model.specs.Ranges.{in_range}
use Rattle.cc_model.specs.Checks.{refusal_of}
use Rattle.cc_model.specs.Graph.{Graph, step}
use Rattle.cc_model.specs.WellMade.{IsWellMade}
use Rattle.cc_model.specs.Reached.{Reached}
use Rattle.cc_model.specs.Heap.{Heap, objects_of}
use Rattle.cc_model.specs.Effects.{effects}
use Rattle.cc_model.specs.WellFormed.{script_names}
use Rattle.cc_model.specs.Colours.{IsMarked}
use Rattle.cc_model.specs.Marking.{NewMarks, without_all, begun_marks, scanned, marking_after, ended_marks}
use Rattle.cc_model.specs.StandsFor.{StandsFor}
use Rattle.cc_laws_heap.specs.Sound.{IsSound}
use Rattle.cc_laws_heap.specs.UnderMarking.{IsUnderMarking, IsScannedSoFar}
use Rattle.cc_laws_heap.proofs.Taken.{IsTaken, IsTaken-from}
use Rattle.cc_laws_heap.proofs.CommandsSound.{effects-sound}
use Rattle.cc_laws_heap.proofs.CommandsStand.{command-stands}
use Rattle.cc_laws_heap.proofs.GraphCommands.{step-well}
use Rattle.cc_laws_heap.proofs.BroughtBack.{come_back-given, come_back-there, hold-sound, hold-well, hold-stands}
use Rattle.cc_laws_heap.proofs.Raising.{without_all-cases, without_all-in, Raises-scanned, IsUnderMarking-raised}
use Rattle.cc_laws_heap.proofs.MarkingBegun.{IsUnderMarking-begun, IsScannedSoFar-begun}
use Rattle.cc_laws_heap.proofs.ScanningOn.{IsScannedSoFar-scanned}
use Rattle.cc_laws_heap.proofs.CommandsMarking.{effects-marking}
use Rattle.cc_laws_heap.proofs.EdgesBut.{effects-scanned}
use Rattle.cc_laws_heap.proofs.MarkingEnded.{ended-unreached}
use Rattle.cc_laws_snapshot.proofs.Unmarking.{forgotten-sound, forgotten-stands}
use Rattle.cc_laws_marking.specs.Lists.{HasListsInOrder}
use Rattle.cc_laws_marking.specs.Unmarkable.{IsUnmarkable, not_marked, wrapped_by}
use Rattle.cc_laws_marking.specs.Between.{GoesOn, begins, scans, does, reads_weak, forgets}
use Rattle.cc_laws_marking.proofs.Waiting.{HasListsInOrder-scanned}
use Rattle.cc_laws_marking.proofs.CommandsOrder.{HasListsInOrder-begun, HasListsInOrder-command}
use Rattle.cc_laws_marking.proofs.Unmarkable.{not_marked-cases, IsUnmarkable-begun, IsUnmarkable-scanned, unmarkable-freed}
use Rattle.cc_laws_marking.proofs.CommandsUnmarkable.{unmarkable-alike, effects-unmarkable_left}
use Rattle.cc_laws_marking.proofs.Wrapped.{wrapped-nowhere}
use Rattle.cc_laws_marking.proofs.Beside.{hold_native-keeps, forgotten-keeps}

-- where a marking has come to: all is as it should be, and these can't be marked
pub record IsOn (them : List Name) (k : Heap) (f : Graph) (m : NewMarks) : Type 0 where
  pub sound : IsSound [] k
  pub made : IsWellMade f
  pub stands : StandsFor k f
  pub under : IsUnderMarking k m
  pub so_far : IsScannedSoFar k m
  pub lists : HasListsInOrder k m
  pub unmarkable : IsUnmarkable k m them

-- A COMMAND that is not refused leaves a marking as it should be.
pub IsOn-command : (them answered : List Name) (k : Heap) (f : Graph) (m : NewMarks) (c : Command) → IsOn (without_all answered them) k f m → IsTrue (in_range c) →
    refusal_of (objects_of k) c ≡ None →
    IsOn (without_all (answered ++ wrapped_by (deed_of (objects_of k) c)) them) (effects k c).heap (step f c) (marking_after k (deed_of (objects_of k) c) m)
IsOn-command them answered k f m c o r e =
    let shown : List Name = wrapped_by (deed_of (objects_of k) c) in
    let left : List Name = without_all answered them in
    let t : IsTaken (objects_of k) c = IsTaken-from (objects_of k) c e in
    record {
      sound = effects-sound k c o.sound r t;
      made = step-well f o.made c r;
      stands = command-stands k f c o.sound o.made o.stands r e;
      under = effects-marking k m c o.sound o.under r t;
      so_far = effects-scanned k m c o.sound o.under o.so_far r t;
      lists = HasListsInOrder-command k m c o.sound o.under o.lists r t;
      unmarkable = unmarkable-alike (effects k c).heap (marking_after k (deed_of (objects_of k) c) m) (without_all shown left) (without_all (answered ++ shown) them)
          (λ x i.
          let a = without_all-cases shown left x i in
          let b = without_all-cases answered them x a.0 in
          without_all-in (answered ++ shown) them x b.0 (λ j. ⊎_elim b.1 a.1 (Among-append x answered shown j)))
          (λ x i.
          let a = without_all-cases (answered ++ shown) them x i in
          without_all-in shown left x (without_all-in answered them x a.0 (λ j. a.1 (Among-left x answered shown j))) (λ j. a.1 (Among-right x answered shown j)))
          (effects-unmarkable_left k m left c o.sound o.under o.unmarkable r t
          (λ x j i. wrapped-nowhere k f c o.sound o.stands r t x j (o.unmarkable.held x i) (o.under.there x (o.under.within x (o.unmarkable.unmarked x i)))));
    }

module _ (h : Heap) (g : Graph) (s : IsSound [] h) (made : IsWellMade g) (t : StandsFor h g) where
  -- A MARKING GOES ON AS IT SHOULD.
  pub goes-on : (answered : List Name) (k : Heap) (f : Graph) (m : NewMarks) → GoesOn h g answered k f m → IsOn (without_all answered (not_marked h)) k f m
  goes-on _ _ _ _ begins = record {
    sound = s;
    made = made;
    stands = t;
    under = IsUnderMarking-begun h;
    so_far = IsScannedSoFar-begun h s;
    lists = HasListsInOrder-begun h;
    unmarkable = unmarkable-alike h (begun_marks h) (not_marked h) (without_all [] (not_marked h))
        (λ x i. without_all-in [] (not_marked h) x i (λ none. absurd none)) (λ x i. (without_all-cases [] (not_marked h) x i).0)
        (IsUnmarkable-begun h s);
  }
  goes-on _ _ _ _ (scans answered k f m before) =
      let o = goes-on answered k f m before in
      record {
        sound = o.sound;
        made = o.made;
        stands = o.stands;
        under = IsUnderMarking-raised k m (scanned k m) (Raises-scanned k m) o.under;
        so_far = IsScannedSoFar-scanned k m o.sound.well_formed o.under.within o.under.there o.so_far;
        lists = HasListsInOrder-scanned k m o.so_far o.lists;
        unmarkable = IsUnmarkable-scanned k m (without_all answered (not_marked h)) o.under o.unmarkable o.so_far;
      }
  goes-on _ _ _ _ (does answered k f m c before r e) = IsOn-command (not_marked h) answered k f m c (goes-on answered k f m before) r e
  goes-on _ _ _ _ (reads_weak answered k f m d x before place back) =
      let o = goes-on answered k f m before in
      let keeps = hold_native-keeps k d x in
      record {
        sound = hold-sound k d x o.sound place (come_back-there k x back);
        made = hold-well k f d x o.sound o.made o.stands place (come_back-given k f x back);
        stands = hold-stands k f d x o.sound o.made o.stands place (come_back-given k f x back);
        under = keeps.under m o.under;
        so_far = keeps.so_far m o.so_far;
        lists = keeps.lists m o.lists;
        unmarkable = keeps.unmarkable m (without_all answered (not_marked h)) o.unmarkable;
      }
  goes-on _ _ _ _ (forgets answered k f m before) =
      let o = goes-on answered k f m before in
      let keeps = forgotten-keeps k in
      record {
        sound = forgotten-sound k o.sound;
        made = o.made;
        stands = forgotten-stands k f o.stands;
        under = keeps.under m o.under;
        so_far = keeps.so_far m o.so_far;
        lists = keeps.lists m o.lists;
        unmarkable = keeps.unmarkable m (without_all answered (not_marked h)) o.unmarkable;
      }

  -- WHAT WAS WHITE AT THE BEGIN IS FREED AT THE END, OR WAS ANSWERED.
  pub white-freed : (answered : List Name) (k : Heap) (f : Graph) (m : NewMarks) → GoesOn h g answered k f m → (x : Name) → Among x (script_names h) →
      ¬ (IsMarked h x) → Among (Freed x) (ended_marks k m).events ⊎ Among x answered
  white-freed answered k f m on x there white =
      let o = goes-on answered k f m on in
      ⊎_elim
      (λ i. inr i)
      (λ d. inl (unmarkable-freed k m (without_all answered (not_marked h)) o.under o.unmarkable o.sound x
      (without_all-in answered (not_marked h) x ((not_marked-cases h x).1 (there, white)) d)))
      (Among_or_not same_name same_name-exact answered x)

  -- WHAT IS REACHED AT THE END IS NOT FREED.
  pub reached-spared : (answered : List Name) (k : Heap) (f : Graph) (m : NewMarks) → GoesOn h g answered k f m → (x : Name) → Reached f x →
      ¬ (Among (Freed x) (ended_marks k m).events)
  reached-spared answered k f m on x reached i =
      let o = goes-on answered k f m on in
      ended-unreached k m o.sound o.under f o.made o.stands x i reached
