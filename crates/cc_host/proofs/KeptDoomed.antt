-- WHAT A CHANGE LEAVES DOOMED, OUT OF REACH AND LOST: it holds, writes and touches only what is reached, and so nothing of that.
use Rattle.std.proofs.Common.{◌≡◌, ◌≤◌, ◌<◌, ◌+◌, ℕ, List, [], Option, Some, None, map, option_map, refl, sym, ◌∙◌, ap, subst, inl, inr, arith, ⊎_elim, slice_index_or}
use Rattle.cc_lists.specs.Members.{Among}
use Rattle.cc_names.specs.declared.name.Name.{Name}
use Rattle.cc_names.specs.declared.name.Name.TheVariants as name
use Rattle.cc_names.specs.Names.{native, object}
use Rattle.cc_names.specs.declared.kind.Kind.TheVariants.{Plain, Map}
use Rattle.cc_model.specs.declared.command.Command.{Command}
use Rattle.cc_model.specs.declared.command.Command.TheVariants.{Native, Script, WeakMap}
use Rattle.cc_model.specs.Cascade.{take_up}
use Rattle.cc_model.specs.Checks.{native_of, slots_or_none}
use Rattle.cc_model.specs.Deeds.{Deed, deed_of, entry_written, proxy_made, reflector_held}
use Rattle.cc_model.specs.Effects.{done_in, effects, hold_native, hold_script, make_native, make_object, make_proxy, set_entry, touched, wrapped}
use Rattle.cc_model.specs.End.{slots_now}
use Rattle.cc_model.specs.Exposure.{exposed}
use Rattle.cc_model.specs.Heap.{Heap, HeapNative, HeapScript, native_at, objects_of, preserve, set_slot, slots_in}
use Rattle.cc_model.specs.View.{view}
use Rattle.cc_model.specs.WellFormed.{IsWellFormed}
use Rattle.cc_laws_heap.proofs.Making.{native_names-made}
use Rattle.cc_laws_heap.proofs.UnlinkedKept.{KeepUnlinked, KeepUnlinked-exposed, KeepUnlinked-let_go, KeepUnlinked-preserve, KeepUnlinked-slot, KeepUnlinked-take_up, KeepUnlinked-then, KeepUnlinked-touched, WasThereOrMade, done_in-unlinked, hold-unlinked}
use Rattle.cc_laws_snapshot.proofs.Face.{named-there, reached-there, script-place}
use Rattle.cc_laws_snapshot.proofs.NamesAndEdges.{named-of_living}
use Rattle.cc_laws_run.specs.Doomed.{KeepsReflectors}
use Rattle.cc_laws_run.proofs.Face.{IsApart, IsUntouched, Leaves, behind-untouched, doomed-effects, doomed-spared, leaves-exposed, leaves-hold_native, leaves-hold_script, leaves-let_go, leaves-make_proxy, leaves-preserve, leaves-refl, leaves-set_entry, leaves-slot, leaves-take_up, leaves-touched, leaves-wrapped, next_object-undoomed, one-untouched, reached-untouched, slot_of-untouched}
use Rattle.cc_laws_run.proofs.TouchedCommands.{command-leaves}
use Rattle.cc_heaps.specs.Changes.{moved_in, slot_held, stored_in, taken_from, written_in}
use Rattle.cc_heaps.specs.Standing.{IsReached, IsReachedOrReflects}
use Rattle.cc_host.specs.Missing.{IsNoneOf, KeepsDoomed, KeepsDoomedBut}
use Rattle.cc_host.specs.Later.{AreLost, IsHeldUp, along, given, held}
use Rattle.cc_host.specs.Next.{AreOutOfReach, BringsNoneBack}
use Rattle.cc_host.proofs.NextUnits.{emptied-alike}

-- Natives stay what they are

pub none_back-refl : (h : Heap) → BringsNoneBack h h
none_back-refl h = record { made = omega arith; natives = λ n i. inl (n, i, refl, refl) }

pub none_back-then : (h k l : Heap) → BringsNoneBack h k → BringsNoneBack k l → BringsNoneBack h l
none_back-then h k l a b = record {
  made = omega (arith, a.made, b.made);
  natives = λ n i. ⊎_elim
      (λ m. ⊎_elim
      (λ j. inl (j.0, j.1, j.2 ∙ m.2, j.3 ∙ m.3))
      (λ new. inr (subst (λ q. h.natives_made < q) m.2 new.0, sym m.3 ∙ new.1))
      (a.natives m.0 m.1))
      (λ new. inr (let f = new.0 in omega (arith, a.made, f), new.1))
      (b.natives n i);
}

-- What is doomed

-- nothing changed
pub still_doomed : (h : Heap) → KeepsDoomed h h
unfolding KeepsDoomed
still_doomed h = (λ s ds keeps d. d, λ ds d. d, λ ds keeps d. d, none_back-refl h)

-- one change after the other
pub doomed-then : (h k l : Heap) → KeepsDoomed h k → KeepsDoomed k l → KeepsDoomed h l
unfolding KeepsDoomed
doomed-then h k l a b = (
  λ s ds keeps d. b.0 s ds keeps (a.0 s ds keeps d),
  λ ds d. b.1 ds (a.1 ds d),
  λ ds keeps d. b.2 ds keeps (a.2 ds keeps d),
  none_back-then h k l a.3 b.3,
)

-- names that are out of reach are apart
out-apart : (ds : List Name) (h : Heap) → AreOutOfReach h ds → IsApart ds h
out-apart ds h d = record { unregistered = d.unregistered; holder = d.holder; joint = d.joint }

-- each native was there, unlinked or not as it is, or was made and not unlinked
abbrev WereThere : Heap → Heap → Type 0
WereThere h k = (n : HeapNative) → Among n k.natives → WasThereOrMade h n

-- Where names are left alone that are out of reach, they stay out of reach.
out-left : (ds : List Name) (h k : Heap) → Leaves ds h k → AreOutOfReach h ds → AreOutOfReach k ds
out-left ds h k l d = record {
  emptied = λ n there m.
      let p = l.members n there m in
      emptied-alike p.0 n p.2 (d.emptied p.0 p.1 (subst (λ j. Among (native j) ds) (sym (ap (λ (u : HeapNative). u.number) p.2)) m));
  reflectors = d.reflectors;
  natives_made = λ j m. omega (arith, l.natives_made, d.natives_made j m);
  scripts_made = λ j m. omega (arith, l.scripts_made, d.scripts_made j m);
  unregistered = l.apart.unregistered;
  holder = l.apart.holder;
  joint = l.apart.joint;
}

-- no number of them is the next
next_native-out : (ds : List Name) (h : Heap) → AreOutOfReach h ds → ¬ (Among (native (h.natives_made + 1)) ds)
next_native-out ds h d m = omega (arith, d.natives_made (h.natives_made + 1) m)

next_object-out : (ds : List Name) (h : Heap) → AreOutOfReach h ds → ¬ (Among (object (h.scripts_made + 1)) ds)
next_object-out ds h d m = omega (arith, d.scripts_made (h.scripts_made + 1) m)

-- names that are lost are apart
lost-apart : (ds : List Name) (h : Heap) → AreLost (view h) ds → IsApart ds h
lost-apart ds h d = record { unregistered = d.unregistered; holder = d.holder; joint = d.joint }

-- Where they are left alone they stay lost.
module _ (ds : List Name) (h k : Heap) (l : Leaves ds h k) (d : AreLost (view h) ds) where
  held-left : (x : Name) → IsHeldUp (view h).edges (view h).joints x → Among x ds → IsHeldUp (view k).edges (view k).joints x
  held-left _ (held j x script e) m = held j x script (l.spares.within (native j) x (d.holder (native j) x e m) m e)
  held-left _ (given e i) m = given e (l.spares.kept e m i)
  held-left _ (along x y e u) m = let n = d.holder x y e m in along x y (l.spares.within x y n m e) (held-left x u n)

  lost-left : AreLost (view k) ds
  lost-left = record {
    natives = λ j m. l.spares.natives j m (d.natives j m);
    scripts = λ x m script. l.spares.scripts x m (d.scripts x m script);
    unregistered = l.apart.unregistered;
    unmarked = λ x m b. d.unmarked x m (l.spares.black x m b);
    holder = l.apart.holder;
    joint = l.apart.joint;
    held_up = λ x m script. held-left x (d.held_up x m script) m;
  }

-- no number of them is the next
next_native-lost : (ds : List Name) (h : Heap) → IsWellFormed h → AreLost (view h) ds → ¬ (Among (native (h.natives_made + 1)) ds)
next_native-lost ds h w d m =
    let made : h.natives_made + 1 ≤ h.natives_made = native_names-made h 0 w (h.natives_made + 1)
    (named-of_living h (native (h.natives_made + 1)) (d.natives (h.natives_made + 1) m)) in
    omega (arith, made)

next_object-lost : (ds : List Name) (h : Heap) → IsWellFormed h → AreLost (view h) ds → ¬ (Among (object (h.scripts_made + 1)) ds)
next_object-lost ds h w d m =
    let made = (w.object_numbers (h.scripts_made + 1) (named-there h (object (h.scripts_made + 1)) (d.scripts (object (h.scripts_made + 1)) m refl))).1 in
    omega (arith, made)

-- no native comes back, since numbers that are made rise
none_back : (h k : Heap) → h.natives_made ≤ k.natives_made → WereThere h k → BringsNoneBack h k
none_back h k more were = record {
  made = more;
  natives = λ n i. ⊎_elim (λ m. inl m) (λ new. inr (let f = new.0 in omega (arith, f), new.1)) (were n i);
}

-- none of no names is touched
one-none : (x : Option Name) → IsUntouched [] x
one-none x = λ y m i. i

-- no names are apart
none-apart : (h : Heap) → IsApart [] h
none-apart h = record { unregistered = λ x m. absurd m; holder = λ x y e m. absurd m; joint = λ e i m. absurd m }

-- a change that leaves names alone that are apart, and unlinks none
doomed-by : (h k : Heap) → WereThere h k → ((ds : List Name) → KeepsReflectors ds → IsApart ds h → Leaves ds h k) → KeepsDoomed h k
unfolding KeepsDoomed
doomed-by h k were f = (
  λ s ds keeps d. doomed-spared s ds (view h) (view k) (f ds keeps (record { unregistered = d.unregistered; holder = d.holder; joint = d.joint })).spares d,
  λ ds d. out-left ds h k (f ds d.reflectors (out-apart ds h d)) d,
  λ ds keeps d. lost-left ds h k (f ds keeps (lost-apart ds h d)) d,
  none_back h k (f [] (λ j m. m) (none-apart h)).natives_made were,
)

-- where each native is there that was, unlinked or not as it was
still_there : (h k : Heap) → KeepUnlinked h k → WereThere h k
still_there h k u n i = inl (u n i)

-- What is none of them is untouched.
none-untouched : (ds : List Name) (x : Option Name) → IsNoneOf ds x → IsUntouched ds x
unfolding IsNoneOf
none-untouched ds None n = λ y m i. m
none-untouched ds (Some x) n = one-untouched ds x n

module _ (ds : List Name) (h : Heap) (a : IsApart ds h) where
  -- what is reached is none of them
  out : (x : Option Name) → IsReached h x → IsUntouched ds x
  out None r = λ y m i. m
  out (Some x) r = one-untouched ds x (reached-untouched ds h a x r)

  -- nor is the reflector of a native that is reached
  reflects-out : KeepsReflectors ds → (x : Option Name) → IsReachedOrReflects h x → IsUntouched ds x
  reflects-out keeps None r = λ y m i. m
  reflects-out keeps (Some (name.Native k)) r = one-untouched ds (name.Native k) (reached-untouched ds h a (name.Native k) r)
  reflects-out keeps (Some (name.Script k)) r = one-untouched ds (name.Script k) (reached-untouched ds h a (name.Script k) r)
  reflects-out keeps (Some (name.Reflector k)) r = one-untouched ds (name.Reflector k) (⊎_elim
      (λ l. reached-untouched ds h a (name.Reflector k) l)
      (λ l i. reached-untouched ds h a (native k.0) l (keeps k.0 i))
      r)

  -- nor is the native behind what is reached
  behind-out : IsWellFormed h → (x : Option Name) → IsReached h x → IsUntouched ds (native_of x)
  behind-out w None r = λ y m i. m
  behind-out w (Some (name.Native k)) r = λ y m i. m
  behind-out w (Some (name.Script k)) r = λ y m i. m
  behind-out w (Some (name.Reflector k)) r = behind-untouched ds h a (Some (name.Reflector k)) (out (Some (name.Reflector k)) r)
      (λ y m. ⊎_elim
      (λ e. subst (λ z. Among z (map (λ (o : HeapScript). o.name) h.scripts)) e
      (script-place h (name.Reflector k) refl (reached-there h w (name.Reflector k) r)))
      (λ b. absurd b) m)

  -- nor is the native behind it
  reflects-behind-out : IsWellFormed h → KeepsReflectors ds → (x : Option Name) → IsReachedOrReflects h x → IsUntouched ds (native_of x)
  reflects-behind-out w keeps None r = λ y m i. m
  reflects-behind-out w keeps (Some (name.Native k)) r = λ y m i. m
  reflects-behind-out w keeps (Some (name.Script k)) r = λ y m i. m
  reflects-behind-out w keeps (Some (name.Reflector k)) r = ⊎_elim
      (λ l. behind-out w (Some (name.Reflector k)) l)
      (λ l. one-untouched ds (native k.0) (reached-untouched ds h a (native k.0) l))
      r

-- Natives

slots-same : (h : Heap) (k : ℕ) → slots_or_none (slots_in h (native k)) ≡ slots_now (native_at h k)
slots-same h k = go (native_at h k)
  where
    go : (o : Option HeapNative) → slots_or_none (option_map (λ (n : HeapNative). n.slots) o) ≡ slots_now o
    go None = refl
    go (Some n) = refl

-- what a slot of a native holds that is none of them is none either
held-out : (ds : List Name) (h : Heap) → IsApart ds h → (k i : ℕ) → IsUntouched ds (Some (native k)) → IsUntouched ds (slot_held h k i)
held-out ds h a k i none = subst (λ ss. IsUntouched ds (slice_index_or ss i None)) (slots-same h k) (slot_of-untouched ds h a (Some (native k)) i none)

-- a slot written, and what it held given up
leaves-written : (ds : List Name) (g h : Heap) (k i : ℕ) (x : Option Name) → IsUntouched ds (Some (native k)) → IsUntouched ds x → Leaves ds g h →
    Leaves ds g (written_in h k i x).heap
leaves-written ds g h k i x own none l = leaves-let_go ds g (set_slot h (Some (native k)) i x) (slot_held h k i) (held-out ds h l.apart k i own)
    (leaves-slot ds g h (Some (native k)) i x own none l)

-- it unlinks none
written-unlinked : (h : Heap) (k i : ℕ) (x : Option Name) → KeepUnlinked h (written_in h k i x).heap
written-unlinked h k i x =
    let o : Heap = set_slot h (Some (native k)) i x in
    KeepUnlinked-then h o (written_in h k i x).heap (KeepUnlinked-slot h (Some (native k)) i x) (KeepUnlinked-let_go o (slot_held h k i))

-- nor does a deed, but that it may make a native
done-unlinked : (h : Heap) (d : Deed) → WereThere h (done_in h d).heap
done-unlinked h d n i = done_in-unlinked h d n i

module _ (h : Heap) where
  -- what a native register comes to hold
  pub hold_native-doomed : (r : ℕ) (x : Option Name) → IsReached h x → KeepsDoomed h (hold_native h r x).heap
  hold_native-doomed r x p = doomed-by h (hold_native h r x).heap (still_there h (hold_native h r x).heap (hold-unlinked h r x)) (λ ds keeps a. leaves-hold_native ds h h r x (out ds h a x p) (leaves-refl ds h a))

  -- A native register leaves doomed, whatever it comes to hold, all names of which it comes to hold none.
  pub hold_native-doomed_but : (r : ℕ) (x : Option Name) → KeepsDoomedBut x h (hold_native h r x).heap
  unfolding KeepsDoomedBut
  hold_native-doomed_but r x = (
    λ s ds keeps none d.
        let a : IsApart ds h = record { unregistered = d.unregistered; holder = d.holder; joint = d.joint } in
        doomed-spared s ds (view h) (view (hold_native h r x).heap) (leaves-hold_native ds h h r x (none-untouched ds x none) (leaves-refl ds h a)).spares d,
    λ ds none d. out-left ds h (hold_native h r x).heap (leaves-hold_native ds h h r x (none-untouched ds x none) (leaves-refl ds h (out-apart ds h d))) d,
    λ ds keeps none d. lost-left ds h (hold_native h r x).heap (leaves-hold_native ds h h r x (none-untouched ds x none) (leaves-refl ds h (lost-apart ds h d))) d,
    none_back h (hold_native h r x).heap
        (leaves-hold_native [] h h r x (one-none x) (leaves-refl [] h (none-apart h))).natives_made
        (still_there h (hold_native h r x).heap (hold-unlinked h r x)),
  )

  -- what is stored in a slot of a native
  pub stored-doomed : (k i : ℕ) (x : Option Name) → IsReached h (Some (native k)) → IsReachedOrReflects h x → KeepsDoomed h (stored_in h k i x).heap
  stored-doomed k i x p q = doomed-by h (stored_in h k i x).heap
      (still_there h (stored_in h k i x).heap
      (KeepUnlinked-then h (take_up h x) (stored_in h k i x).heap (KeepUnlinked-take_up h x) (written-unlinked (take_up h x) k i x)))
      (λ ds keeps a.
      leaves-written ds h (take_up h x) k i x (out ds h a (Some (native k)) p) (reflects-out ds h a keeps x q) (leaves-take_up ds h h x (reflects-out ds h a keeps x q) (leaves-refl ds h a)))

  -- what is moved from one slot to another
  pub moved-doomed : (k i m j : ℕ) → IsReached h (Some (native k)) → IsReached h (Some (native m)) → KeepsDoomed h (moved_in h k i m j).heap
  moved-doomed k i m j p q = doomed-by h (moved_in h k i m j).heap
      (let x = slot_held h m j in
      still_there h (moved_in h k i m j).heap
      (KeepUnlinked-then h (taken_from h m j) (moved_in h k i m j).heap
      (KeepUnlinked-then h (touched h x) (taken_from h m j) (KeepUnlinked-touched h x) (KeepUnlinked-slot (touched h x) (Some (native m)) j None))
      (written-unlinked (taken_from h m j) k i x)))
      (λ ds keeps a.
      let from = out ds h a (Some (native m)) q in
      let held = held-out ds h a m j from in
      leaves-written ds h (taken_from h m j) k i (slot_held h m j) (out ds h a (Some (native k)) p) held
      (leaves-slot ds h (touched h (slot_held h m j)) (Some (native m)) j None from (λ y n i. n)
      (leaves-touched ds h h (slot_held h m j) held (leaves-refl ds h a))))

  -- a native wrapped
  pub wrapped-doomed : (x : Option Name) → IsReached h x → KeepsDoomed h (wrapped h x)
  unfolding done_in
  wrapped-doomed x p = doomed-by h (wrapped h x) (done-unlinked h (reflector_held 0 x)) (λ ds keeps a. leaves-wrapped ds h h x keeps (out ds h a x p) (leaves-refl ds h a))

  -- Script objects

  -- what is exposed
  pub exposed-doomed : (x : Option Name) → IsReachedOrReflects h x → KeepsDoomed h (exposed h x)
  exposed-doomed x p = doomed-by h (exposed h x) (still_there h (exposed h x) (KeepUnlinked-exposed h x)) (λ ds keeps a. leaves-exposed ds h h x (reflects-out ds h a keeps x p) (leaves-refl ds h a))

  -- what a script register comes to hold
  pub hold_script-doomed : (r : ℕ) (x : Option Name) → IsReachedOrReflects h x → KeepsDoomed h (hold_script h r x)
  hold_script-doomed r x p = doomed-by h (hold_script h r x) (still_there h (hold_script h r x) (KeepUnlinked-exposed h x)) (λ ds keeps a. leaves-hold_script ds h h r x (reflects-out ds h a keeps x p) (leaves-refl ds h a))

  -- what is stored in a slot of an object
  pub slot-doomed : (x : Option Name) (i : ℕ) (y : Option Name) → IsReached h x → IsReachedOrReflects h y → KeepsDoomed h (set_slot h x i y)
  slot-doomed x i y p q = doomed-by h (set_slot h x i y) (still_there h (set_slot h x i y) (KeepUnlinked-slot h x i y)) (λ ds keeps a. leaves-slot ds h h x i y (out ds h a x p) (reflects-out ds h a keeps y q) (leaves-refl ds h a))

  module _ (w : IsWellFormed h) where
    -- a reflector preserved
    pub preserve-doomed : (x : Option Name) → IsReachedOrReflects h x → KeepsDoomed h (preserve h x)
    preserve-doomed x p = doomed-by h (preserve h x) (still_there h (preserve h x) (KeepUnlinked-preserve h x)) (λ ds keeps a. leaves-preserve ds h h x (reflects-out ds h a keeps x p) (reflects-behind-out ds h a w keeps x p) (leaves-refl ds h a))

    -- an entry set or taken out
    pub set_entry-doomed : (m k v : Option Name) → IsReached h m → IsReachedOrReflects h k → IsReachedOrReflects h v → KeepsDoomed h (set_entry h m k v)
    unfolding done_in
    set_entry-doomed m k v n p q = doomed-by h (set_entry h m k v) (done-unlinked h (entry_written m k v)) (λ ds keeps a.
        leaves-set_entry ds h h m k v (out ds h a m n) (reflects-out ds h a keeps k p) (reflects-behind-out ds h a w keeps k p) (reflects-out ds h a keeps v q) (leaves-refl ds h a))

    -- what a command makes
    command-doomed : (c : Command) → KeepsDoomed h (effects h c).heap
    unfolding KeepsDoomed effects
    command-doomed c = (
      λ s ds keeps d. doomed-effects s ds h c w keeps d,
      λ ds d. out-left ds h (effects h c).heap
          (command-leaves ds h c w d.reflectors (next_native-out ds h d) (next_object-out ds h d) (out-apart ds h d)) d,
      λ ds keeps d. lost-left ds h (effects h c).heap
          (command-leaves ds h c w keeps (next_native-lost ds h w d) (next_object-lost ds h w d) (lost-apart ds h d)) d,
      none_back h (effects h c).heap
          (command-leaves [] h c w (λ j m. m) (λ m. m) (λ m. m) (none-apart h)).natives_made
          (done-unlinked h (deed_of (objects_of h) c)),
    )

    -- a native made, a plain object, a weak map
    pub make_native-doomed : (r n : ℕ) → KeepsDoomed h (make_native h r n).heap
    unfolding effects done_in deed_of
    make_native-doomed r n = command-doomed (Native r n)

    pub make_plain-doomed : (r n : ℕ) → KeepsDoomed h (make_object h r Plain n None)
    unfolding effects done_in deed_of
    make_plain-doomed r n = command-doomed (Script r n)

    pub make_map-doomed : (r : ℕ) → KeepsDoomed h (make_object h r Map 0 None)
    unfolding effects done_in deed_of
    make_map-doomed r = command-doomed (WeakMap r)

    -- a proxy made
    proxy-leaves : (r : ℕ) (x : Option Name) → IsReachedOrReflects h x → (ds : List Name) → KeepsReflectors ds → ¬ (Among (object (h.scripts_made + 1)) ds) →
        IsApart ds h → Leaves ds h (make_proxy h r x)
    proxy-leaves r x p ds keeps next a =
        leaves-make_proxy ds h h r x next (reflects-out ds h a keeps x p) (reflects-behind-out ds h a w keeps x p) (leaves-refl ds h a)

    pub make_proxy-doomed : (r : ℕ) (x : Option Name) → IsReachedOrReflects h x → KeepsDoomed h (make_proxy h r x)
    unfolding KeepsDoomed done_in
    make_proxy-doomed r x p = (
      λ s ds keeps d. doomed-spared s ds (view h) (view (make_proxy h r x))
          (proxy-leaves r x p ds keeps (next_object-undoomed s ds h w d) (record { unregistered = d.unregistered; holder = d.holder; joint = d.joint })).spares d,
      λ ds d. out-left ds h (make_proxy h r x)
          (proxy-leaves r x p ds d.reflectors (next_object-out ds h d) (out-apart ds h d)) d,
      λ ds keeps d. lost-left ds h (make_proxy h r x) (proxy-leaves r x p ds keeps (next_object-lost ds h w d) (lost-apart ds h d)) d,
      none_back h (make_proxy h r x) (proxy-leaves r x p [] (λ j m. m) (λ m. m) (none-apart h)).natives_made (done-unlinked h (proxy_made r x)),
    )
