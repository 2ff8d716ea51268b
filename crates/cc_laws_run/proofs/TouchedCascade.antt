-- A CASCADE LEAVES NAMES ALONE that are apart: it begins with a native that is none of them, and what such a native held is none either.
use Rattle.std.proofs.Common.{◌≡◌, ℕ, zero, suc, ◌+◌, ◌-◌, ◌==◌, Bool, true, false, not, List, [], ◌∷◌, length, Option, Some, None, refl, sym, ap, subst, inl, inr, ⊎_elim, arith}
use Rattle.std.specs.List.{filter}
use Rattle.std.proofs.lemmas.Bool.{ne_eqb}
use Rattle.cc_lists.specs.Members.{Among}
use Rattle.cc_lists.proofs.Members.{Among-append, Among-filter, Among-filtered, Among-flat_map_cases}
use Rattle.cc_names.specs.declared.name.Name.{Name}
use Rattle.cc_names.specs.declared.name.Name.TheVariants as name
use Rattle.cc_names.specs.Names.{native, natives_in}
use Rattle.cc_model.specs.Slots.{contents}
use Rattle.cc_model.specs.Heap.{Heap, HeapNative, native_at, change_native, with_mark, touch, forget}
use Rattle.cc_model.specs.Cascade.{Draining, add_ref, lower, fallen, given_up, give_up, give_up_each, removed, natives_of_slots, told_free, free_front, at_rest, drained, cascade, take_up, let_go}
use Rattle.cc_laws_heap.proofs.Natives.{native_at-there, native_at-number, uncounted-change}
use Rattle.cc_laws_heap.proofs.Leaving.{IsOf-alike}
use Rattle.cc_laws_heap.proofs.HoldsTheSame.{raise_native}
use Rattle.cc_laws_heap.proofs.Folding.{drain-keeps}
use Rattle.cc_laws_snapshot.proofs.BufferMarks.{marked-buffer, forget-buffer}
use Rattle.cc_laws_snapshot.proofs.Handing.{edge-from_slot}
use Rattle.cc_laws_snapshot.proofs.ReachedStays.{native-edge}
use Rattle.cc_laws_run.proofs.TouchedViews.{Spares-buffer, Spares-natives}
use Rattle.cc_laws_run.proofs.TouchedParts.{IsUntouched, Spares-count}
use Rattle.cc_laws_run.proofs.TouchedSteps.{Leaves, leaves-on, leaves-still}

-- a name in which a native's number stands is that native
native-in : (y : Name) (i : ℕ) → Among i (natives_in y) → y ≡ native i
native-in y i m = grind arith

module _ (ds : List Name) (g : Heap) where
  -- a native that is no member marked in the buffer
  leaves-marked : (h : Heap) (m : Bool) (k : ℕ) → ¬ (Among (native k) ds) → Leaves ds g h →
      Leaves ds g (record h { buffer = with_mark m k h.buffer })
  leaves-marked h m k out d = leaves-still ds g h (record h { buffer = with_mark m k h.buffer }) (omega arith) (omega arith) refl
      (Spares-buffer ds h (with_mark m k h.buffer)
      (λ x i j. ⊎_elim (λ e. absurd (out (subst (λ z. Among z ds) (sym e) i))) (λ t. t) (marked-buffer h m k x j))) d

  -- a native touched that is no member
  pub leaves-touch : (h : Heap) (k : ℕ) → ¬ (Among (native k) ds) → Leaves ds g h → Leaves ds g (touch h k)
  leaves-touch h k = leaves-marked h false k

  -- a count changed
  leaves-count : (h : Heap) (k : ℕ) (f : ℕ → ℕ) → Leaves ds g h → Leaves ds g (change_native h k (λ n. record n { count = f n.count }))
  leaves-count h k f = leaves-on ds g h (change_native h k (λ n. record n { count = f n.count })) (omega arith) (omega arith)
      (λ n there m. IsOf-alike h (change_native h k (λ n. record n { count = f n.count }))
      (uncounted-change h k (λ n. record n { count = f n.count }) (λ n. refl)) n there)
      (Spares-count ds h k f)

  -- one reference more to a native that is no member
  pub leaves-add_ref : (h : Heap) (k : ℕ) → ¬ (Among (native k) ds) → Leaves ds g h → Leaves ds g (add_ref h k)
  leaves-add_ref h k out d = leaves-touch (change_native h k raise_native) k out (leaves-count h k (λ c. c + 1) d)

  -- a reference taken to what a place is to hold, which is no member
  pub leaves-take_up : (h : Heap) (x : Option Name) → IsUntouched ds x → Leaves ds g h → Leaves ds g (take_up h x)
  leaves-take_up h (Some (name.Native k)) none d = leaves-add_ref h k.0 (none (native k.0) (inl refl)) d
  leaves-take_up h _ none d = d

  -- a count that falls
  leaves-lower : (h : Heap) (k : ℕ) → Leaves ds g h → Leaves ds g (lower h k)
  leaves-lower h k = leaves-count h k (λ c. c - 1)

  -- a native that leaves the buffer
  leaves-forget : (h : Heap) (k : ℕ) → Leaves ds g h → Leaves ds g (forget h k)
  leaves-forget h k = leaves-still ds g h (forget h k) (omega arith) (omega arith) refl
      (Spares-buffer ds h (filter (λ b. not (b.number == k)) h.buffer) (λ x m j. (forget-buffer h k x j).3))

  -- a native that is no member taken out
  leaves-removed : (h : Heap) (k : ℕ) → ¬ (Among (native k) ds) → Leaves ds g h → Leaves ds g (removed h k)
  leaves-removed h k out = leaves-on ds g h (removed h k) (omega arith) (omega arith)
      (λ n there m. (n, Among-filtered (λ n. not (n.number == k)) n h.natives there, refl)) (Spares-natives ds h (removed h k).natives
      (λ n there m.
      let other : n.number ≡ k → ⊥ = λ e. out (subst (λ j. Among (native j) ds) e m) in
      (n, Among-filter (λ n. not (n.number == k)) n h.natives there (ap not (ne_eqb n.number k other)), refl, λ y i e. e))
      (λ n x y there i e. native-edge h n x y (Among-filtered (λ n. not (n.number == k)) n h.natives there) e))

  -- none of these natives is a member
  abbrev AreUntouched : List ℕ → Type 0
  AreUntouched ks = (k : ℕ) → Among k ks → ¬ (Among (native k) ds)

  -- while natives are deleted: members are left alone, and none waits
  record Drains (d : Draining) : Type 0 where
    left : Leaves ds g d.heap
    queue : AreUntouched d.queue

  -- one reference given up
  Drains-give_up : (d : Draining) (k : ℕ) → ¬ (Among (native k) ds) → Drains d → Drains (give_up d k)
  Drains-give_up d k out p = go (native_at d.heap k)
    where
      by_count : (c : ℕ) → Drains (fallen d k c)
      by_count zero = p
      by_count (suc zero) = record {
        left = leaves-forget (lower d.heap k) k (leaves-lower d.heap k p.left);
        queue = λ j m. ⊎_elim (λ l. p.queue j l)
            (λ r. ⊎_elim (λ e. subst (λ i. ¬ (Among (native i) ds)) e out) (λ b. absurd b) r)
            (Among-append j d.queue (k ∷ []) m);
      }
      by_count (suc (suc c)) = record { left = leaves-marked (lower d.heap k) true k out (leaves-lower d.heap k p.left); queue = p.queue }

      go : (o : Option HeapNative) → Drains (given_up d k o)
      go None = p
      go (Some n) = by_count n.count

  -- several given up
  Drains-give_up_each : (d : Draining) (ks : List ℕ) → AreUntouched ks → Drains d → Drains (give_up_each d ks)
  Drains-give_up_each d [] out p = p
  Drains-give_up_each d (k ∷ ks) out p =
      Drains-give_up_each (give_up d k) ks (λ j m. out j (inr m)) (Drains-give_up d k (out k (inl refl)) p)

  -- what a native that is no member has in its slots is none
  slots-untouched : (h : Heap) (k : ℕ) → ¬ (Among (native k) ds) → Leaves ds g h → AreUntouched (natives_of_slots (native_at h k))
  slots-untouched h k out d = go (native_at h k) refl
    where
      go : (o : Option HeapNative) → native_at h k ≡ o → AreUntouched (natives_of_slots o)
      go None e j m i = m
      go (Some n) e j m i =
          let f = Among-flat_map_cases natives_in (contents n.slots) j m in
          let held = subst (λ y. Among y (contents n.slots)) (native-in f.0 j f.2) f.1 in
          out (subst (λ c. Among (native c) ds) (native_at-number h k n e)
          (d.apart.holder (native n.number) (native j) (edge-from_slot h n (native j) (native_at-there h k n e) held) i))

  -- the front of the queue freed
  Drains-free_front : (d : Draining) (k : ℕ) (ks : List ℕ) → d.queue ≡ k ∷ ks → Drains d → Drains (free_front d k ks)
  Drains-free_front d k ks e p = record { left = leaves-removed emptied.heap k out each.left; queue = each.queue }
    where
      out : ¬ (Among (native k) ds)
      out = p.queue k (subst (λ q. Among k q) (sym e) (inl refl))

      emptied : Draining
      emptied = give_up_each (told_free d k ks) (natives_of_slots (native_at d.heap k))

      each : Drains emptied
      each = Drains-give_up_each (told_free d k ks) (natives_of_slots (native_at d.heap k)) (slots-untouched d.heap k out p.left)
          (record { left = p.left; queue = λ j m. p.queue j (subst (λ q. Among j q) (sym e) (inr m)) })

  -- A CASCADE LEAVES MEMBERS ALONE, where it begins with a native that is none.
  pub leaves-cascade : (h : Heap) (k : ℕ) → ¬ (Among (native k) ds) → Leaves ds g h → Leaves ds g (cascade h k).heap
  unfolding drained
  leaves-cascade h k out d = (drain-keeps Drains Drains-free_front (length h.natives) (give_up (at_rest h) k)
      (Drains-give_up (at_rest h) k out (record { left = d; queue = λ j m. absurd m }))).left

  -- what a place held, which is no member, is given up
  pub leaves-let_go : (h : Heap) (x : Option Name) → IsUntouched ds x → Leaves ds g h → Leaves ds g (let_go h x).heap
  leaves-let_go h (Some (name.Native k)) none d = leaves-cascade h k.0 (none (native k.0) (inl refl)) d
  leaves-let_go h _ none d = d
