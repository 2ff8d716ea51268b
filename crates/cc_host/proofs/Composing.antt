-- STEPS IN A ROW: what each keeps they keep together, and they tell what leaves.
use Rattle.std.proofs.Common.{◌≡◌, ℕ, [], map, get_or, None, ◌∙◌, ap, subst, sym, ⊎_elim}
use Rattle.cc_lists.specs.Members.{Among}
use Rattle.cc_lists.proofs.Members.{Among-left, Among-right, Among-append, Among-map_cases}
use Rattle.cc_names.specs.declared.name.Name.{Name}
use Rattle.cc_names.specs.Names.{native}
use Rattle.cc_model.specs.Telling.{Telling, TellsEvents}
use Rattle.cc_model.specs.Graph.{Graph}
use Rattle.cc_model.specs.Heap.{Heap, HeapNative}
use Rattle.cc_model.specs.WellFormed.{IsWellFormed, native_names, script_names, names_there}
use Rattle.cc_model.proofs.Tellings.{TellsEvents-trans}
use Rattle.cc_laws_heap.proofs.Face.{native-no_script, native-there}
use Rattle.cc_script.specs.Objects.{name_at}
use Rattle.cc_heaps.specs.Keyed.{Keyed, IsInOrder}
use Rattle.cc_heaps.specs.Changes.{KeepsKeys}
use Rattle.cc_heaps.specs.Keeping.{KeepsAll}
use Rattle.cc_heaps.specs.Leaving.{NoneCame, NothingLeft, TellsWhatIsFreed, freed}
use Rattle.cc_heaps.specs.Standing.{StandsAfter}
use Rattle.cc_heaps.proofs.MarksKept.{marks-then}
use Rattle.cc_host.specs.Changes.{IsReady, IsChange, IsTried}
use Rattle.cc_host.proofs.KeptDoomed.{doomed-then}

-- Keys

-- the same natives and script objects stand at the keys before
pub KeepsKeys-later : (a b c : Keyed) → b.keys ≡ a.keys → b.scripts ≡ a.scripts → KeepsKeys b c → KeepsKeys a c
KeepsKeys-later a b c keys scripts t = record {
  natives = λ key k at there. t.natives key k (ap (λ ks. get_or ks key None) keys ∙ at) there;
  scripts = λ key x at there. t.scripts key x (ap (λ os. name_at os key) scripts ∙ at) there;
}

-- what is a script object afterwards was one before, where nothing came
script-there : (h k : Heap) → IsWellFormed k → NoneCame h k → (x : Name) → Among x (script_names k) → Among x (script_names h)
script-there h k w came x m = ⊎_elim
    (λ l. let f = Among-map_cases (λ (n : HeapNative). native n.number) h.natives x l in
    absurd (native-no_script k f.0.number w (subst (λ y. Among y (script_names k)) (sym f.2) m)))
    (λ r. r)
    (Among-append x (native_names h) (script_names h) (came x (Among-right x (native_names k) (script_names k) m)))

-- where nothing comes back between
pub KeepsKeys-then : (a b c : Keyed) → IsWellFormed b.heap → IsWellFormed c.heap → NoneCame b.heap c.heap → KeepsKeys a b → KeepsKeys b c → KeepsKeys a c
KeepsKeys-then a b c between late came s t = record {
  natives = λ key k at there. t.natives key k (s.natives key k at
      (native-there b.heap k between (came (native k) (Among-left (native k) (native_names c.heap) (script_names c.heap) there)))) there;
  scripts = λ key x at there. t.scripts key x (s.scripts key x at (script-there b.heap c.heap late came x there)) there;
}

-- All parts

-- where keys are kept
pub KeepsAll-with : (a b c : Keyed) → KeepsKeys a c → KeepsAll a b → KeepsAll b c → KeepsAll a c
KeepsAll-with a b c keys s t = record {
  keys = keys;
  order = λ owned o. t.order owned (s.order owned o);
  counts = t.counts;
  colours = λ k. t.colours (s.colours k);
  fresh = λ x k. t.fresh x (s.fresh x k);
  suspected = λ x k. t.suspected x (s.suspected x k);
  marks = marks-then s.marks t.marks;
}

pub KeepsAll-then : (a b c : Keyed) → IsInOrder [] a → NoneCame b.heap c.heap → KeepsAll a b → KeepsAll b c → KeepsAll a c
KeepsAll-then a b c o came s t =
    let p = s.order [] o in
    let q = t.order [] p in
    KeepsAll-with a b c (KeepsKeys-then a b c p.sound.well_formed q.sound.well_formed came s.keys t.keys) s t

-- The graph

pub stands-then : (a b c : Heap) (f k : Graph → Graph) → StandsAfter a b f → StandsAfter b c k → StandsAfter a c (λ g. k (f g))
stands-then a b c f k s t g m p = let n = s g m p in t (f g) n.0 n.1

-- A change after one that leaves the graph as it is
pub change-after : {p q r : Type 0} {change : Graph → Graph} (a b c : Keyed) → IsReady a → IsTried r a b → NoneCame b.heap c.heap → (q → r) → (q → p) → IsChange p change b c →
    IsChange q change a c
change-after a b c ready s came e f t = record {
  kept = KeepsAll-then a b c ready.order came s.kept t.kept;
  spared = t.spared;
  stands = λ d g m n. t.stands (f d) g m (s.stands g m n);
  doomed = λ d. doomed-then a.heap b.heap c.heap (s.doomed (e d)) (t.doomed (f d));
}

-- What leaves

-- nothing left before, no native came, and nothing was told
pub tells-after : (h g k : Heap) (a b c : Telling) → TellsEvents a b [] → NothingLeft h g → ((j : ℕ) → Among (native j) (names_there g) → Among (native j) (names_there h)) →
    TellsWhatIsFreed g k b c → TellsWhatIsFreed h k a c
tells-after h g k a b c told stays back o = record {
  numbers = o.numbers;
  told = TellsEvents-trans a b c [] (map freed o.numbers) told o.told;
  left = record {
    once = o.left.once;
    each = λ j i. let l = o.left.each j i in record { before = back j l.before; gone = l.gone; unreached = l.unreached };
    rest = λ x i. o.left.rest x (stays x i);
  };
}
