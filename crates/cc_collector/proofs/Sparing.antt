-- WHAT IS DONE IN PARTS SPARES WHAT IS REACHED, where each part does.
use Rattle.std.proofs.Common.{List, [], ◌++◌, Option, refl, sym, subst, ⊎_elim}
use Rattle.cc_lists.specs.Members.{Among}
use Rattle.cc_lists.proofs.Members.{Among-map_cases, Among-left, Among-right}
use Rattle.cc_names.specs.declared.name.Name.{Name}
use Rattle.cc_names.specs.Names.{native}
use Rattle.cc_model.specs.declared.item.Event.{Event}
use Rattle.cc_model.specs.Heap.{Heap, HeapNative}
use Rattle.cc_model.specs.WellFormed.{IsWellFormed, native_names, script_names, names_there}
use Rattle.cc_laws_heap.proofs.Face.{native-there, reached-in, script_names-named}
use Rattle.cc_laws_snapshot.proofs.Face.{script-place}
use Rattle.cc_heaps.specs.Keyed.{Keyed, IsInOrder}
use Rattle.cc_heaps.specs.Changes.{KeepsKeys}
use Rattle.cc_heaps.specs.Keeping.{KeepsHeaps}
use Rattle.cc_heaps.proofs.KeysKept.{KeepsKeys-same}
use Rattle.cc_heaps.proofs.Kept.{kept-alone}
use Rattle.cc_gc.specs.Sparing.{SparesWhatIsReached}
use Rattle.cc_gc.proofs.RoundsLeft.{KeepsKeys-then}
use Rattle.cc_gc.proofs.Sparing.{keeps-same, keeps-then, spares-nothing, spares-then}
use Rattle.cc_builder.specs.Building.{Built}
use Rattle.cc_collector.specs.Collected.{SparesInEachGraph}
use Rattle.cc_collector.specs.Units.{HasSpared}

-- What events free or unlink that spare what registers reach is reached in no graph that the heaps stand for.
pub spares-graphs : (h k : Heap) (es : List Event) → IsWellFormed h → SparesWhatIsReached h k es → SparesInEachGraph h es
spares-graphs h k es w s g x well stands m d =
    let r = reached-in h g w well stands x d in
    ⊎_elim (λ f. (s.freed x f).before r) (λ u. (s.unlinked x u).before r) m

-- One part after the other

-- keys are kept, for nothing comes back
pub keys-then : (u v w : Keyed) (es : List Event) → IsWellFormed v.heap → IsWellFormed w.heap → SparesWhatIsReached v.heap w.heap es → KeepsKeys u v → KeepsKeys v w →
    KeepsKeys u w
keys-then u v w es well well_now s a b = KeepsKeys-then u v w a b natives scripts
  where
    before : (x : Name) → Among x (names_there w.heap) → Among x (names_there v.heap)
    before x m = ((s.left x).0 m).0

    natives : (x : Name) → Among x (native_names w.heap) → Among x (native_names v.heap)
    natives x m =
        let f = Among-map_cases (λ (n : HeapNative). native n.number) w.heap.natives x m in
        subst (λ y. Among y (native_names v.heap)) f.2
        (native-there v.heap f.0.number well (before (native f.0.number) (subst (λ y. Among y (names_there w.heap)) (sym f.2) (Among-left x (native_names w.heap) (script_names w.heap) m))))

    scripts : (x : Name) → Among x (script_names w.heap) → Among x (script_names v.heap)
    scripts x m = script-place v.heap x (script_names-named w.heap well_now x m) (before x (Among-right x (native_names w.heap) (script_names w.heap) m))

-- and so is all else
pub kept-then : (u v w : Keyed) (es : List Event) → IsWellFormed v.heap → IsWellFormed w.heap → SparesWhatIsReached v.heap w.heap es → KeepsHeaps [] [] u v →
    KeepsHeaps [] [] v w → KeepsHeaps [] [] u w
kept-then u v w es well well_now s a b = record {
  keys = keys-then u v w es well well_now s a.keys b.keys;
  order = λ owned o. b.order owned (a.order owned o);
  counts = b.counts;
  colours = λ colours. b.colours (a.colours colours);
  fresh = tt;
  suspected = tt;
  marks = tt;
}

-- NOTHING DONE
pub spared-nothing : (v : Keyed) (c : Option Built) → IsInOrder [] v → HasSpared v c v c []
spared-nothing v c o = record {
  keeps = keeps-same v.heap o.sound.well_formed;
  spares = spares-nothing v.heap v.heap refl;
  stands = λ g well stands. stands;
  suspected = λ s. s;
  kept = kept-alone v v o o (KeepsKeys-same v) (λ colours. colours);
}

-- ONE PART AFTER THE OTHER
pub spared-then : (v : Keyed) (c : Option Built) (w : Keyed) (d : Option Built) (u : Keyed) (e : Option Built) (es fs : List Event) → IsWellFormed w.heap →
    IsWellFormed u.heap → HasSpared v c w d es → HasSpared w d u e fs → HasSpared v c u e (es ++ fs)
spared-then v c w d u e es fs well well_now a b = record {
  keeps = keeps-then v.heap w.heap u.heap a.keeps b.keeps;
  spares = spares-then v.heap w.heap u.heap es fs a.keeps b.keeps a.spares b.spares;
  stands = λ g g_well stands. b.stands g g_well (a.stands g g_well stands);
  suspected = λ s. b.suspected (a.suspected s);
  kept = kept-then v w u fs well well_now b.spares a.kept b.kept;
}
