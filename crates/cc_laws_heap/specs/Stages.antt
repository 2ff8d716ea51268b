-- WHAT IS DONE TO THE HEAPS, change by change, each with what is known where it is done. Between two changes some references are in hand, and
-- some natives wait to be freed.
use Rattle.std.specs.Prelude.{◌≡◌, ℕ, ◌<◌, ◌≤◌, List, [], ◌∷◌, ◌++◌, length, Option, Some, None, slice_index_or}
use Rattle.cc_lists.specs.Members.{Among}
use Rattle.cc_names.specs.declared.name.Name.{Name}
use Rattle.cc_names.specs.Names.{native, object, reflector}
use Rattle.cc_model.specs.declared.item.Event.{Event}
use Rattle.cc_model.specs.declared.item.Event.TheVariants.{Freed, Unlinked}
use Rattle.cc_model.specs.Slots.{contents}
use Rattle.cc_model.specs.Heap.{Heap, HeapNative, HeapScript, native_at, set_slot, set_unlinked, suspect, forget}
use Rattle.cc_model.specs.Places.{script_places_of}
use Rattle.cc_model.specs.Cascade.{add_ref, lower, removed, natives_of_slots}
use Rattle.cc_model.specs.Sweep.{without_script}
use Rattle.cc_model.specs.WellFormed.{native_names}
use Rattle.cc_model.specs.Counts.{refs_to, times}
use Rattle.cc_laws_heap.specs.Sound.{numbers_of}
use Rattle.cc_laws_heap.specs.Balance.{HasDistinctNumbers}

-- the references in hand, the natives that wait, and the heaps
pub record Stage : Type 0 where
  pub hand : List ℕ
  pub queue : List ℕ
  pub heap : Heap

abbrev pub stage : List ℕ → List ℕ → Heap → Stage
stage hand queue h = record { hand = hand; queue = queue; heap = h }

-- HOW ONE STAGE COMES FROM ANOTHER, and what is told meanwhile: by what a cascade does, and by what is done besides
pub data Done (Besides : Stage → List Event → Stage → Type 0) : Stage → List Event → Stage → Type 0 where
  -- nothing, and one thing after another
  nothing : (s : Stage) → Done Besides s [] s
  followed : (s t u : Stage) (xs ys : List Event) → Done Besides s xs t → Done Besides t ys u → Done Besides s (xs ++ ys) u
  -- a reference in hand is given up, and others are left
  suspected : (hand queue : List ℕ) (h : Heap) (k : ℕ) (n : HeapNative) → native_at h k ≡ Some n → 2 ≤ n.count →
      Done Besides (stage (k ∷ hand) queue h) [] (stage hand queue (suspect (lower h k) k))
  -- the last one is given up, and the native waits
  waits : (hand queue : List ℕ) (h : Heap) (k : ℕ) (n : HeapNative) → native_at h k ≡ Some n → n.count ≡ 1 →
      Done Besides (stage (k ∷ hand) queue h) [] (stage hand (queue ++ k ∷ []) (forget (lower h k) k))
  -- the first that waits, to which nothing refers, is told and taken out: what its slots held is in hand
  freed : (hand ks : List ℕ) (h : Heap) (k : ℕ) (n : HeapNative) → native_at h k ≡ Some n → HasDistinctNumbers h → refs_to h k ≡ 0 →
      Done Besides (stage hand (k ∷ ks) h) (Freed (native k) ∷ []) (stage (natives_of_slots (Some n) ++ hand) ks (removed h k))
  -- something else
  besides : (s : Stage) (es : List Event) (t : Stage) → Besides s es t → Done Besides s es t

-- WHAT THE END OF A COLLECTION DOES besides, where these natives are unlinked
pub data Ending (ks : List ℕ) : Stage → List Event → Stage → Type 0 where
  -- it does not matter in which order references are in hand
  reordered : (early late : List ℕ) (h : Heap) → ((k : ℕ) → times k late ≡ times k early) → Ending ks (stage early [] h) [] (stage late [] h)
  -- a reference is taken in hand
  raised : (hand : List ℕ) (h : Heap) (k : ℕ) → Among (native k) (native_names h) → Ending ks (stage hand [] h) [] (stage (k ∷ hand) [] (add_ref h k))
  -- one of them is told as unlinked, a slot of it is emptied, and it is unlinked for good, with its preservation ended
  told : (hand : List ℕ) (h : Heap) (k : ℕ) → Among k ks → Ending ks (stage hand [] h) (Unlinked (native k) ∷ []) (stage hand [] h)
  emptied : (hand : List ℕ) (h : Heap) (k i : ℕ) (n : HeapNative) (x : Option Name) → Among k ks → HasDistinctNumbers h → native_at h k ≡ Some n →
      i < length n.slots → slice_index_or n.slots i None ≡ x →
      Ending ks (stage hand [] h) [] (stage (numbers_of x ++ hand) [] (set_slot h (Some (native k)) i None))
  unlinked : (hand : List ℕ) (h : Heap) (k : ℕ) → Among k ks → Ending ks (stage hand [] h) [] (stage hand [] (set_unlinked h k))

-- no script object has a native in a slot or as its delegate
abbrev pub HoldNoNatives : Heap → Type 0
HoldNoNatives h = (o : HeapScript) (i : ℕ) → Among o h.scripts → ¬ (Among (native i) (contents (script_places_of o)))

-- WHAT A SWEEP DOES besides
pub data Sweeping : Stage → List Event → Stage → Type 0 where
  -- a plain script object, a weak map or a proxy is told and taken out
  swept_object : (h : Heap) (k : ℕ) → HoldNoNatives h → Sweeping (stage [] [] h) (Freed (object k) ∷ []) (stage [] [] (without_script h (object k)))
  -- a reflector is told and taken out: its reference to its native is in hand
  swept_reflector : (h : Heap) (k : ℕ) → HoldNoNatives h →
      Sweeping (stage [] [] h) (Freed (reflector k) ∷ []) (stage (k ∷ []) [] (without_script h (reflector k)))

-- NOTHING besides
abbrev pub NothingBesides : Stage → List Event → Stage → Type 0
NothingBesides s es t = ⊥
