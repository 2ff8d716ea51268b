-- WHAT A CHANGE KEEPS, put together: where nothing changed, and of fewer words from more.
use Rattle.std.proofs.Common.{◌≡◌, ℕ, ◌+◌, List, [], ◌∷◌, None, get_or, refl, sym, ◌∙◌, ap, subst, inl, arith}
use Rattle.cc_lists.proofs.Members.{Among-map_cases}
use Rattle.cc_names.specs.Names.{native, natives_in}
use Rattle.cc_model.specs.Heap.{Heap, HeapNative}
use Rattle.cc_model.specs.Counts.{refs_to, times}
use Rattle.cc_model.specs.WellFormed.{native_names, script_names}
use Rattle.cc_laws_heap.specs.Sound.{IsSound}
use Rattle.cc_laws_heap.proofs.Face.{times-cons_same}
use Rattle.cc_script.specs.Objects.{name_at}
use Rattle.cc_heaps.specs.Keyed.{Keyed, IsInOrder}
use Rattle.cc_heaps.specs.Changes.{KeepsKeys}
use Rattle.cc_heaps.specs.Standing.{KeepsColours}
use Rattle.cc_heaps.specs.Keeping.{KeepsAll, KeepsHeaps, KeepsAllIf, KeepsAllIfBlack, KeepsAllIfReached}
use Rattle.cc_heaps.proofs.FewCounts.{few-owned}
use Rattle.cc_heaps.proofs.KeysKept.{KeepsKeys-same}
use Rattle.cc_heaps.proofs.MarksKept.{marks-same}

-- Where nothing is owned, nothing else is.
pub nothing-owned : (owned : List ℕ) (h : Heap) → IsSound [] h → IsSound owned h → owned ≡ []
nothing-owned [] h s t = refl
nothing-owned (k ∷ ks) h s t =
    let f = Among-map_cases (λ (n : HeapNative). native n.number) h.natives (native k) (t.owned_there k (inl refl)) in
    let named : native f.0.number ≡ native k = f.2 in
    let both : f.0.number ∷ [] ≡ k ∷ [] = ap natives_in named in
    let number : f.0.number ≡ k = cc in
    let none : f.0.count ≡ refs_to h k + times k [] = subst (λ j. f.0.count ≡ refs_to h j + times j []) number (s.counts f.0 f.1) in
    let some : f.0.count ≡ refs_to h k + times k (k ∷ ks) = subst (λ j. f.0.count ≡ refs_to h j + times j (k ∷ ks)) number (t.counts f.0 f.1) in
    absurd (omega (arith, none, some, times-cons_same k ks))

-- So heaps that stay in order with nothing owned do so whatever is owned.
pub order-alone : (v w : Keyed) → IsInOrder [] v → IsInOrder [] w → (owned : List ℕ) → IsInOrder owned v → IsInOrder owned w
order-alone v w before after owned o = subst (λ ks. IsInOrder ks w) (sym (nothing-owned owned v.heap before.sound o.sound)) after

pub kept-alone : (v w : Keyed) → IsInOrder [] v → IsInOrder [] w → KeepsKeys v w → KeepsColours v.heap w.heap → KeepsHeaps [] [] v w
kept-alone v w before after keys colours = record {
  keys = keys;
  order = order-alone v w before after;
  counts = few-owned w;
  colours = colours;
  fresh = tt;
  suspected = tt;
  marks = tt;
}

-- Nothing changed.
pub KeepsAll-same : (v w : Keyed) → w ≡ v → KeepsAll v w
KeepsAll-same v w same = subst (KeepsAll v) (sym same) (record {
  keys = KeepsKeys-same v;
  order = λ owned o. o;
  counts = few-owned v;
  colours = λ k. k;
  fresh = λ s k. k;
  suspected = λ candidates k. k;
  marks = marks-same v v refl refl;
})

-- What is kept in any case is kept where something holds.
pub KeepsAll-if_black : (black : Type 0) (v w : Keyed) → KeepsAll v w → KeepsAllIfBlack black v w
KeepsAll-if_black black v w k = record {
  keys = k.keys;
  order = k.order;
  counts = k.counts;
  colours = k.colours;
  fresh = λ b. k.fresh;
  suspected = k.suspected;
  marks = k.marks;
}

pub KeepsAll-if_reached : (reached : Type 0) (v w : Keyed) → KeepsAll v w → KeepsAllIfReached reached v w
KeepsAll-if_reached reached v w k = record {
  keys = k.keys;
  order = k.order;
  counts = k.counts;
  colours = k.colours;
  fresh = k.fresh;
  suspected = λ r. k.suspected;
  marks = k.marks;
}

-- The same natives and the same script objects stand at the keys.
pub KeepsKeys-held : (v w : Keyed) → w.keys ≡ v.keys → w.scripts ≡ v.scripts → KeepsKeys v w
KeepsKeys-held v w keys scripts = record {
  natives = λ key k at there. ap (λ ks. get_or ks key None) keys ∙ at;
  scripts = λ key x at there. ap (λ os. name_at os key) scripts ∙ at;
}

-- They stand there after a change that keeps keys, and no others are there.
pub KeepsKeys-on : (v mid w : Keyed) → KeepsKeys v mid → w.keys ≡ mid.keys → w.scripts ≡ mid.scripts →
    native_names w.heap ≡ native_names mid.heap → script_names w.heap ≡ script_names mid.heap → KeepsKeys v w
KeepsKeys-on v mid w k keys scripts natives objects = record {
  natives = λ key n at there. ap (λ ks. get_or ks key None) keys ∙ k.natives key n at (rw (← natives) there);
  scripts = λ key x at there. ap (λ os. name_at os key) scripts ∙ k.scripts key x at (rw (← objects) there);
}

-- What is kept where something holds is kept, where it does.
pub KeepsAll-black : {black : Type 0} {v w : Keyed} → KeepsAllIfBlack black v w → black → KeepsAll v w
KeepsAll-black k b = record {
  keys = k.keys;
  order = k.order;
  counts = k.counts;
  colours = k.colours;
  fresh = k.fresh b;
  suspected = k.suspected;
  marks = k.marks;
}

pub KeepsAll-reached : {reached : Type 0} {v w : Keyed} → KeepsAllIfReached reached v w → reached → KeepsAll v w
KeepsAll-reached k r = record {
  keys = k.keys;
  order = k.order;
  counts = k.counts;
  colours = k.colours;
  fresh = k.fresh;
  suspected = k.suspected r;
  marks = k.marks;
}

pub KeepsAll-both : {black reached : Type 0} {v w : Keyed} → KeepsAllIf black reached v w → black → reached → KeepsAll v w
KeepsAll-both k b r = record {
  keys = k.keys;
  order = k.order;
  counts = k.counts;
  colours = k.colours;
  fresh = k.fresh b;
  suspected = k.suspected r;
  marks = k.marks;
}
