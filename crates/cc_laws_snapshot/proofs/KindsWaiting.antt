-- WHAT IS OVERWRITTEN, GIVEN UP OR FREED keeps every unreached native suspected, where who waits counts as purple.
use Rattle.std.proofs.Common.{◌≡◌, ℕ, ◌≤◌, List, [], ◌∷◌, ◌++◌, map, set, Option, Some, None, refl, sym, ◌∙◌, ap, subst, inl, inr, ◌⊎◌, ⊎_elim, slice_index_or}
use Rattle.std.proofs.lemmas.List.{append-nil}
use Rattle.cc_lists.specs.Members.{Among}
use Rattle.cc_lists.proofs.Members.{Among-map, Among-map_cases, Among-left, Among-right, Among-append, Among-flat_map}
use Rattle.cc_names.specs.declared.name.Name.{Name}
use Rattle.cc_names.specs.declared.register.Reg.{Reg}
use Rattle.cc_names.specs.declared.register.Reg.TheVariants.{N, S, W}
use Rattle.cc_names.specs.Names.{native, natives_in, number_of}
use Rattle.cc_model.specs.Slots.{contents}
use Rattle.cc_model.specs.Heap.{Heap, HeapNative, native_at, register, set_register, change_native, with_native_slot}
use Rattle.cc_model.specs.View.{view, View, ReachedIn}
use Rattle.cc_model.specs.Cascade.{Draining, lowered, queued, give_up, removed, natives_of_slots, without_native}
use Rattle.cc_model.specs.WellFormed.{IsWellFormed}
use Rattle.cc_model.specs.Fresh.{IsLiving}
use Rattle.cc_model.specs.Suspected.{IsSuspected}
use Rattle.cc_laws_heap.proofs.Natives.{native_names-change, native_at-member, IsWellFormed-distinct}
use Rattle.cc_laws_heap.proofs.GiveUp.{give_up-cases}
use Rattle.cc_laws_snapshot.specs.Kinds.{counting}
use Rattle.cc_laws_heap.specs.Sound.{numbers_of}
use Rattle.cc_laws_snapshot.proofs.KindsFresh.{with_buffer}
use Rattle.cc_laws_snapshot.specs.Losing.{PurpleOrGone, IsLoyal}
use Rattle.cc_laws_snapshot.specs.KindsSuspected.{IsSuspectedIn, IsSuspectedCounting}
use Rattle.cc_laws_snapshot.proofs.NamesAndEdges.{living-same, living-number}
use Rattle.cc_laws_snapshot.proofs.CascadeLoses.{none-loses, suspected-loses, waits-loses, removed-loses}
use Rattle.cc_laws_snapshot.proofs.Handing.{edge-to, edge-from_slot, edge-from_reflector}
use Rattle.cc_laws_snapshot.proofs.SlotsWritten.{contents-written_kept, numbers_of-there, slot_written-kept}
use Rattle.cc_laws_snapshot.proofs.KindsLoyal.{HasScriptNames, HasScriptNames-well_formed, buffers-suspected, alive-suspected}
use Rattle.cc_laws_heap.specs.Stages.{Stage, stage}
use Rattle.cc_laws_snapshot.proofs.LosesTo.{IsLost, LosesTo}

-- a native is purple in the buffer, or waits, or is gone
abbrev IsMarked : List ℕ → Heap → ℕ → Type 0
IsMarked js g i = PurpleOrGone (counting js (view g)) i

-- who is purple counts so
stays-marked : (js : List ℕ) (g : Heap) (i : ℕ) → Among (native i) (view g).purple → IsMarked js g i
stays-marked js g i m = inl (Among-left (native i) (view g).purple (map native js) m)

-- who waits counts as purple
waits-marked : (js : List ℕ) (g : Heap) (i : ℕ) → Among i js → IsMarked js g i
waits-marked js g i m = inl (Among-right (native i) (view g).purple (map native js) (Among-map native i js m))

-- a change after which natives wait: who loses a reference waits, who was purple is so, or waits, or is gone
waiting-suspected : (h g : Heap) (candidates js : List ℕ) (early early_purple : List Name) → IsWellFormed h → HasScriptNames g →
    ((x : Name) (i : ℕ) → Among (x, native i) (view h).edges → Among (x, native i) (view g).edges ⊎ Among i js) →
    ((i : ℕ) → Among (native i) (view h).registers → Among (native i) (view g).registers ⊎ Among i js) →
    ((i : ℕ) → Among (native i) early_purple → IsMarked js g i) →
    ((x : Name) → Among x (view g).buffer → Among x early ⊎ Among x (counting js (view g)).purple) →
    ((x : Name) → IsLiving (view g) x → IsLiving (view h) x) →
    IsSuspected (with_buffer early early_purple (view h)) candidates → IsSuspectedCounting js g candidates
waiting-suspected h g candidates js early early_purple w named edge held marked entered living =
    buffers-suspected h g candidates early early_purple (counting js (view g)).buffer (counting js (view g)).purple w named loyal
  where
    loyal : IsLoyal (with_buffer early early_purple (view h)) (counting js (view g))
    loyal = record {
      edge = λ x i m. ⊎_elim (λ e. inl e) (λ q. inr (inl (waits-marked js g i q))) (edge x i m);
      register = λ i m. ⊎_elim (λ e. inl e) (λ q. inr (inl (waits-marked js g i q))) (held i m);
      purple = λ i m. inl (marked i m);
      buffer = λ x m. ⊎_elim
          (λ b. ⊎_elim (λ o. inl o) (λ p. inr (inl p)) (entered x b))
          (λ q. inr (inl (Among-right x (view g).purple (map native js) q)))
          (Among-append x (view g).buffer (map native js) m);
      living = λ x l. inl (living x l);
    }

-- Who waits

-- Natives stay suspected while others wait, where who waits no more is reached.
pub reached_wait-suspected : (h : Heap) (candidates ks js : List ℕ) → IsWellFormed h → ((k : ℕ) → Among k ks → Among k js ⊎ ReachedIn (view h) (native k)) →
    IsSuspectedCounting ks h candidates → IsSuspectedCounting js h candidates
reached_wait-suspected h candidates ks js w more =
    buffers-suspected h h candidates (counting ks (view h)).buffer (counting ks (view h)).purple (counting js (view h)).buffer (counting js (view h)).purple
    w (HasScriptNames-well_formed h w) loyal
  where
    loyal : IsLoyal (counting ks (view h)) (counting js (view h))
    loyal = record {
      edge = λ x i m. inl m;
      register = λ i m. inl m;
      purple = λ i m. ⊎_elim
          (λ p. inl (stays-marked js h i p))
          (λ q. let f = Among-map_cases native ks (native i) q in
          let j : Among i ks = subst (λ k. Among k ks) (ap number_of f.2) f.1 in
          ⊎_elim (λ k. inl (waits-marked js h i k)) (λ r. inr r) (more i j))
          (Among-append (native i) (view h).purple (map native ks) m);
      buffer = λ x m. ⊎_elim
          (λ b. inl (Among-left x (view h).buffer (map native ks) b))
          (λ q. inr (inl (Among-right x (view h).purple (map native js) q)))
          (Among-append x (view h).buffer (map native js) m);
      living = λ x l. inl l;
    }

-- where nothing waits, the buffer alone counts
counting-none : (v : View) → counting [] v ≡ v
counting-none v = λ i. record v { buffer = append-nil v.buffer i; purple = append-nil v.purple i }

-- Where nothing waits, natives are suspected as they were.
pub none_waits-suspected : (h : Heap) (candidates : List ℕ) → IsSuspectedCounting [] h candidates → IsSuspectedIn h candidates
none_waits-suspected h candidates s = subst (λ v. IsSuspected v candidates) (counting-none (view h)) s

-- Some may wait where none did.
pub some_wait-suspected : (h : Heap) (candidates ks : List ℕ) → IsWellFormed h → IsSuspectedIn h candidates → IsSuspectedCounting ks h candidates
some_wait-suspected h candidates ks w s = reached_wait-suspected h candidates [] ks w (λ k m. absurd m)
    (subst (λ v. IsSuspected v candidates) (sym (counting-none (view h))) s)

-- What is overwritten

-- A register is written: what it held waits.
pub register_written-suspected : (h : Heap) (candidates : List ℕ) (r : Reg) (x : Option Name) → IsWellFormed h →
    IsSuspectedIn h candidates → IsSuspectedCounting (numbers_of (register h r)) (set_register h r x) candidates
register_written-suspected h candidates (N d) x w =
    waiting-suspected h (set_register h (N d) x) candidates (numbers_of (register h (N d))) (view h).buffer (view h).purple w (HasScriptNames-well_formed h w)
    (λ y i m. inl m)
    (λ i m. ⊎_elim
    (λ l. ⊎_elim
    (λ k. inl (Among-left (native i) (contents (set h.native_registers d x)) (contents h.script_registers) k))
    (λ o. inr (numbers_of-there (register h (N d)) i o))
    (contents-written_kept h.native_registers d x (native i) l))
    (λ l. inl (Among-right (native i) (contents (set h.native_registers d x)) (contents h.script_registers) l))
    (Among-append (native i) (contents h.native_registers) (contents h.script_registers) m))
    (λ i m. stays-marked (numbers_of (register h (N d))) (set_register h (N d) x) i m)
    (λ y m. inl m) (λ y l. l)
register_written-suspected h candidates (S d) x w =
    waiting-suspected h (set_register h (S d) x) candidates (numbers_of (register h (S d))) (view h).buffer (view h).purple w (HasScriptNames-well_formed h w)
    (λ y i m. inl m)
    (λ i m. ⊎_elim
    (λ l. inl (Among-left (native i) (contents h.native_registers) (contents (set h.script_registers d x)) l))
    (λ l. ⊎_elim
    (λ k. inl (Among-right (native i) (contents h.native_registers) (contents (set h.script_registers d x)) k))
    (λ o. inr (numbers_of-there (register h (S d)) i o))
    (contents-written_kept h.script_registers d x (native i) l))
    (Among-append (native i) (contents h.native_registers) (contents h.script_registers) m))
    (λ i m. stays-marked (numbers_of (register h (S d))) (set_register h (S d) x) i m)
    (λ y m. inl m) (λ y l. l)
register_written-suspected h candidates (W d) x w =
    waiting-suspected h h candidates (numbers_of (register h (W d))) (view h).buffer (view h).purple w (HasScriptNames-well_formed h w)
    (λ y i m. inl m) (λ i m. inl m)
    (λ i m. stays-marked (numbers_of (register h (W d))) h i m)
    (λ y m. inl m) (λ y l. l)

-- A slot of a native is written while others wait: so does what it held.
pub slot_written_waiting-suspected : (h : Heap) (candidates : List ℕ) (n : HeapNative) (k i : ℕ) (x : Option Name) (others : List ℕ) → IsWellFormed h → native_at h k ≡ Some n →
    IsSuspectedCounting others h candidates → IsSuspectedCounting (numbers_of (slice_index_or n.slots i None) ++ others) (change_native h k (with_native_slot i x)) candidates
slot_written_waiting-suspected h candidates n k i x others w found =
    waiting-suspected h g candidates js (counting others (view h)).buffer (counting others (view h)).purple w (HasScriptNames-well_formed h w)
    edge (λ j m. inl m) marked (λ y m. inl (Among-left y (view h).buffer (map native others) m))
    (living-same h g (native_names-change h k (with_native_slot i x) (λ o. refl)))
  where
    g : Heap
    g = change_native h k (with_native_slot i x)

    old : Option Name
    old = slice_index_or n.slots i None

    js : List ℕ
    js = numbers_of old ++ others

    edge : (y : Name) (j : ℕ) → Among (y, native j) (view h).edges → Among (y, native j) (view g).edges ⊎ Among j js
    edge y j m = ⊎_elim
        (λ a. ⊎_elim
        (λ s. inl (subst (λ z. Among (z, native j) (view g).edges) (ap native s.2 ∙ a.2) (edge-from_slot g s.0 (native j) s.1 s.3)))
        (λ o. inr (Among-left j (numbers_of old) others (numbers_of-there old j o)))
        (slot_written-kept h k i n x (IsWellFormed-distinct h w) found a.0 (native j) a.1 a.3))
        (λ a. inl (subst (λ z. Among (z, native j) (view g).edges) a.0 (edge-from_reflector g j a.1)))
        (edge-to h y j w m)

    -- who counted as purple does
    marked : (j : ℕ) → Among (native j) (counting others (view h)).purple → IsMarked js g j
    marked j m = ⊎_elim
        (λ p. stays-marked js g j p)
        (λ q. let f = Among-map_cases native others (native j) q in
        waits-marked js g j (Among-right j (numbers_of old) others (subst (λ l. Among l others) (ap number_of f.2) f.1)))
        (Among-append (native j) (view h).purple (map native others) m)

-- A slot of a native is written, and nothing else waits: what it held waits.
pub slot_written-suspected : (h : Heap) (candidates : List ℕ) (n : HeapNative) (k i : ℕ) (x : Option Name) → IsWellFormed h → native_at h k ≡ Some n →
    IsSuspectedIn h candidates → IsSuspectedCounting (numbers_of (slice_index_or n.slots i None)) (change_native h k (with_native_slot i x)) candidates
slot_written-suspected h candidates n k i x w found s =
    subst (λ (ks : List ℕ). IsSuspectedCounting ks (change_native h k (with_native_slot i x)) candidates) (append-nil (numbers_of (slice_index_or n.slots i None)))
    (slot_written_waiting-suspected h candidates n k i x [] w found (some_wait-suspected h candidates [] w s))

-- From stage to stage

-- WHAT ONLY LOSES KEEPS EVERY UNREACHED NATIVE SUSPECTED, where who waits or is in hand counts as purple.
stages-suspected : (s t : Stage) (candidates : List ℕ) → IsWellFormed s.heap → HasScriptNames t.heap → LosesTo s t →
    IsSuspectedCounting (s.hand ++ s.queue) s.heap candidates → IsSuspectedCounting (t.hand ++ t.queue) t.heap candidates
stages-suspected s t candidates w named l = alive-suspected s.heap t.heap candidates before.buffer before.purple later.buffer later.purple w named (record {
  edge = λ x i m. ⊎_elim (λ e. inl e) (λ p. inr (inl (counted i p))) (l.edge x i m);
  register = λ i m. ⊎_elim (λ e. inl e) (λ p. inr (inl (counted i p))) (l.register i m);
  purple = λ i m. inl (counted i (l.lost i (lost i m)));
  buffer = entered;
  living = λ x a. inl (l.living x a);
})
  where
    before : View
    before = counting (s.hand ++ s.queue) (view s.heap)

    later : View
    later = counting (t.hand ++ t.queue) (view t.heap)

    -- who lost a reference counts as purple, or is gone
    counted : (i : ℕ) → IsLost t i → PurpleOrGone later i
    counted i p = ⊎_elim
        (⊎_elim (stays-marked (t.hand ++ t.queue) t.heap i) (λ g. inr g))
        (λ q. waits-marked (t.hand ++ t.queue) t.heap i (⊎_elim (λ a. Among-right i t.hand t.queue a) (λ a. Among-left i t.hand t.queue a) q)) p

    -- who counted as purple had lost one
    lost : (i : ℕ) → Among (native i) before.purple → IsLost s i
    lost i m = ⊎_elim (λ p. inl (inl p))
        (λ q.
        let f = Among-map_cases native (s.hand ++ s.queue) (native i) q in
        ⊎_elim (λ a. inr (inr a)) (λ a. inr (inl a)) (Among-append i s.hand s.queue (subst (λ j. Among j (s.hand ++ s.queue)) (ap number_of f.2) f.1)))
        (Among-append (native i) (view s.heap).purple (map native (s.hand ++ s.queue)) m)

    -- who lives and enters the buffer is purple
    entered : (x : Name) → IsLiving later x → Among x later.buffer → Among x before.buffer ⊎ (Among x later.purple ⊎ ReachedIn later x)
    entered x a m = ⊎_elim
        (λ b.
        let f = living-number t.heap x a in
        subst (λ z. Among z before.buffer ⊎ (Among z later.purple ⊎ ReachedIn later z)) f.1
        (⊎_elim
        (λ o. inl (Among-left (native f.0) (view s.heap).buffer (map native (s.hand ++ s.queue)) o))
        (λ p. inr (inl (⊎_elim (λ q. q) (λ gone. absurd (gone (subst (IsLiving later) (sym f.1) a))) (counted f.0 p))))
        (l.buffer f.0 (subst (λ z. Among z (view t.heap).buffer) (sym f.1) b))))
        (λ q. inr (inl (Among-right x (view t.heap).purple (map native (t.hand ++ t.queue)) q)))
        (Among-append x (view t.heap).buffer (map native (t.hand ++ t.queue)) m)

-- A reference is given up that is counted, while others wait.
pub given_up-suspected : (d : Draining) (candidates : List ℕ) (k : ℕ) (others : List ℕ) → IsWellFormed d.heap →
    ((n : HeapNative) → native_at d.heap k ≡ Some n → 1 ≤ n.count) →
    IsSuspectedCounting (k ∷ others ++ d.queue) d.heap candidates → IsSuspectedCounting (others ++ (give_up d k).queue) (give_up d k).heap candidates
given_up-suspected d candidates k others w some s = give_up-cases (λ e. IsSuspectedCounting (others ++ e.queue) e.heap candidates) d k some
    (λ e. stages-suspected here (stage others d.queue d.heap) candidates w named (none-loses others d.queue d.heap k e) s)
    (stages-suspected here (stage others (d.queue ++ k ∷ []) (queued d k).heap) candidates w named (waits-loses others d.queue d.heap k) s)
    (stages-suspected here (stage others d.queue (lowered d k).heap) candidates w named (suspected-loses others d.queue d.heap k) s)
  where
    here : Stage
    here = stage (k ∷ others) d.queue d.heap

    named : HasScriptNames d.heap
    named = HasScriptNames-well_formed d.heap w

-- A native leaves: what it held waits.
removed-suspected : (d : Draining) (candidates : List ℕ) (k : ℕ) (js : List ℕ) → IsWellFormed d.heap →
    ((n : HeapNative) → Among n d.heap.natives → n.number ≡ k → (j : ℕ) → Among (native j) (contents n.slots) → Among j js) →
    IsSuspectedCounting (k ∷ d.queue) d.heap candidates → IsSuspectedCounting (js ++ d.queue) (without_native d k).heap candidates
removed-suspected d candidates k js w holds = stages-suspected (stage [] (k ∷ d.queue) d.heap) (stage js d.queue (removed d.heap k)) candidates
    w (HasScriptNames-well_formed d.heap w) (removed-loses [] js js d.queue d.heap k holds (λ j i. i) (λ j i. absurd i))

-- The front of the queue leaves whose slots are empty.
pub front_leaves-suspected : (d : Draining) (candidates : List ℕ) (k : ℕ) → IsWellFormed d.heap →
    ((n : HeapNative) → Among n d.heap.natives → n.number ≡ k → contents n.slots ≡ []) →
    IsSuspectedCounting (k ∷ d.queue) d.heap candidates → IsSuspectedCounting d.queue (without_native d k).heap candidates
front_leaves-suspected d candidates k w empty = removed-suspected d candidates k [] w (λ n m e j i. subst (Among (native j)) (empty n m e) i)

-- And with whatever it holds, which waits then.
pub full_front_leaves-suspected : (d : Draining) (candidates : List ℕ) (k : ℕ) → IsWellFormed d.heap →
    IsSuspectedCounting (k ∷ d.queue) d.heap candidates →
    IsSuspectedCounting (natives_of_slots (native_at d.heap k) ++ d.queue) (without_native d k).heap candidates
full_front_leaves-suspected d candidates k w = removed-suspected d candidates k (natives_of_slots (native_at d.heap k)) w
    (λ n m e j i.
    let found : native_at d.heap k ≡ Some n = subst (λ l. native_at d.heap l ≡ Some n) e (native_at-member d.heap (IsWellFormed-distinct d.heap w) n m) in
    subst (λ o. Among j (natives_of_slots o)) (sym found) (Among-flat_map natives_in (native j) j (contents n.slots) i (inl refl)))
