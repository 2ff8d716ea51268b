-- WHAT WAS THERE FOR A CALL IS THERE STILL, where keys are kept, and natives that stay are usable as they were.
use Rattle.std.proofs.Common.{◌≡◌, ℕ, ◌==◌, ◌&&◌, ◌||◌, [], Bool, true, false, not, Option, Some, None, option_map, refl, sym, ◌∙◌, ap, subst}
use Rattle.std.proofs.lemmas.Bool.{false≢true}
use Rattle.cc_lists.specs.Members.{Among}
use Rattle.cc_names.specs.declared.name.Name.{Name}
use Rattle.cc_names.specs.declared.name.Name.TheVariants as name
use Rattle.cc_names.specs.declared.number.NativeNo.{NativeNo}
use Rattle.cc_names.specs.Names.{native}
use Rattle.cc_names.proofs.NameTests.{same_name-refl}
use Rattle.cc_model.specs.Heap.{HeapNative, native_at}
use Rattle.cc_model.specs.Given.{is_usable, is_usable_native}
use Rattle.cc_model.specs.WellFormed.{names_there}
use Rattle.cc_laws_heap.proofs.Face.{native-there}
use Rattle.cc_counted.specs.Counts.{number_or_none, unlinked_at, unlinked_of}
use Rattle.cc_script.specs.Objects.{name_at}
use Rattle.cc_heaps.specs.Keyed.{Keyed, IsInOrder, counts_of, number_at}
use Rattle.cc_heaps.specs.Changes.{KeepsKeys}
use Rattle.cc_heaps.specs.Keeping.{KeepsAll}
use Rattle.cc_heaps.specs.Leaving.{NoneCame}
use Rattle.cc_collector.specs.Kept.{Kept}
use Rattle.cc_host.specs.declared.object.Object.{Object}
use Rattle.cc_host.specs.declared.stop.Stop.TheVariants.{Foreign, Gone, Kind}
use Rattle.cc_host.specs.Hosted.{Hosted, IsKept, is_found, is_name, is_usable_at}
use Rattle.cc_host.specs.Stops.{first, is_nothing, where_so}
use Rattle.cc_host.specs.Lasting.{KeepsUsable, StaysUsable}
use Rattle.cc_host.proofs.Keeping.{hosted}
use Rattle.cc_host.proofs.LastingObjects.{named-is, script-there}
use Rattle.cc_host.proofs.Referring.{found-held, found-there, unlinked-of}

-- a usable native is found at its key
usable-found : (w : Keyed) (key : ℕ) (number : NativeNo) → number_at w key ≡ Some number.0 → is_usable w.heap (native number.0) ≡ true → is_usable_at w key number ≡ true
usable-found w key number at u = go (native_at w.heap number.0) refl u
  where
    both : (o : Option ℕ) (a b : Bool) → o ≡ Some number.0 → a ≡ b → (not b || false) ≡ true → (is_name (name.Native number) (option_map native o) && not a) ≡ true
    both o a true e f g = absurd (false≢true g)
    both o a false e f g = ap (λ z. is_name (name.Native number) (option_map native z) && not a) e ∙ (ap (λ c. c && not a) (same_name-refl (name.Native number)) ∙ ap not f)

    go : (o : Option HeapNative) → native_at w.heap number.0 ≡ o → (is_usable_native o || false) ≡ true → is_usable_at w key number ≡ true
    go None e f = absurd (false≢true f)
    go (Some n) e f =
        let flag : unlinked_of (counts_of w) key ≡ n.unlinked =
        unlinked-of w key ∙ (ap (λ o. unlinked_at (native_at w.heap (number_or_none o))) at ∙ ap unlinked_at e) in
        both (number_at w key) (unlinked_of (counts_of w) key) n.unlinked at flag f

-- no stop comes where what is found is found still
none-stays : (z a b f g : Bool) → a ≡ b → (f ≡ true → g ≡ true) →
    first (where_so z Kind) (first (where_so (not a) Foreign) (where_so (not f) Gone)) ≡ None →
    first (where_so z Kind) (first (where_so (not b) Foreign) (where_so (not g) Gone)) ≡ None
none-stays true a b f g s t e = absurd (cc)
none-stays false false b f g s t e = absurd (cc)
none-stays false true b false g s t e = absurd (cc)
none-stays false true b true g s t e =
    ap (λ c. first (where_so (not c) Foreign) (where_so (not g) Gone)) (sym s) ∙ ap (λ c. where_so (not c) Gone) (t refl)

-- FROM ONE HOST TO ANOTHER
module _ (old new : Hosted) (before : IsInOrder [] old.heaps) (after : IsInOrder [] new.heaps) (keep : KeepsKeys old.heaps new.heaps) (mark : new.mark ≡ old.mark)
    (usable : KeepsUsable old.heaps.heap new.heaps.heap) where
  -- what was found is found
  found-still : (x : Object) → Among x.name (names_there new.heaps.heap) → is_found old x ≡ true → is_found new x ≡ true
  found-still x there found = go x.name there found
    where
      script : (y : Name) → ((k : ℕ) → ¬ (native k ≡ y)) → Among y (names_there new.heaps.heap) → is_name y (name_at old.heaps.scripts x.key) ≡ true →
          is_name y (name_at new.heaps.scripts x.key) ≡ true
      script y none there e =
          let at : name_at old.heaps.scripts x.key ≡ Some y = named-is y (name_at old.heaps.scripts x.key) e in
          ap (is_name y) (keep.scripts x.key y at (script-there new.heaps.heap y none there)) ∙ same_name-refl y

      go : (y : Name) → Among y (names_there new.heaps.heap) → is_found old (record x { name = y }) ≡ true → is_found new (record x { name = y }) ≡ true
      go (name.Native k) there e =
          let t = found-there old.heaps x.key k e in
          let here = native-there new.heaps.heap k.0 after.sound.well_formed there in
          usable-found new.heaps x.key k (keep.natives x.key k.0 t.0 here)
          (usable.usable k.0 (found-held old.heaps [] before x.key k.0 t.0 t.1) here)
      go (name.Script k) there e = script (name.Script k) (λ j e. let apart : native j ≡ name.Script k = e in cc) there e
      go (name.Reflector k) there e = script (name.Reflector k) (λ j e. let apart : native j ≡ name.Reflector k = e in cc) there e

  stays-from : StaysUsable old new
  stays-from = record {
    stays = λ x e there. none-stays (is_nothing x) (x.mark == old.mark) (x.mark == new.mark) (is_found old x) (is_found new x) (ap (λ m. x.mark == m) (sym mark))
        (found-still x there) e;
  }

-- A HOST'S CHANGE
pub change-usable : (v w : Keyed) (b : Kept) (m : ℕ) (h : Hosted) (is : hosted v b m ≡ h) (k : IsKept (hosted v b m)) (kept : KeepsAll v w) → KeepsUsable v.heap w.heap → StaysUsable h (hosted w b m)
change-usable v w b m h is k kept usable = subst (λ (u : Hosted). StaysUsable u (hosted w b m)) is
    (stays-from (hosted v b m) (hosted w b m) k.runs.order (kept.order [] k.runs.order) kept.keys refl usable)

-- one after another, where nothing comes by the second
pub usable-both : (a b c : Hosted) → NoneCame b.heaps.heap c.heaps.heap → StaysUsable a b → StaysUsable b c → StaysUsable a c
usable-both a b c came f g = record { stays = λ x e there. g.stays x (f.stays x e (came x.name there)) there }
