-- HOW NATIVES ARE HANDED OVER: a reference is taken or a native made, then a register or a slot is written.
use Rattle.std.proofs.Common.{◌≡◌, ℕ, ◌+◌, ◌<◌, false, [], ◌∷◌, map, length, get_or, Option, Some, None, refl, sym, ◌∙◌, ap, subst, inl, inr, ◌⊎◌, ⊎_elim}
use Rattle.std.specs.List.{filter}
use Rattle.std.specs.Option.{option_to_list}
use Rattle.std.proofs.lemmas.Bool.Decides.{eqb_tells}
use Rattle.std.proofs.lemmas.List.{map_push}
use Rattle.cc_lists.specs.Members.{Among}
use Rattle.cc_lists.proofs.Members.{Among-map, Among-map_cases, Among-left, Among-append}
use Rattle.cc_lists.proofs.Least.{derive-along}
use Rattle.cc_names.specs.declared.name.Name.{Name}
use Rattle.cc_names.specs.declared.name.Name.TheVariants as name
use Rattle.cc_names.specs.declared.register.Reg.TheVariants.{N}
use Rattle.cc_names.specs.Names.{native, reflector}
use Rattle.cc_model.specs.Slots.{contents}
use Rattle.cc_model.specs.Entries.{rules_of}
use Rattle.cc_model.specs.Heap.{Heap, HeapNative, native_at, register, set_register, change_native, with_native_slot, with_mark, touch, native_to_make}
use Rattle.cc_model.specs.View.{view, buffered, ReachedIn}
use Rattle.cc_model.specs.Cascade.{add_ref, take_up}
use Rattle.cc_model.specs.Effects.{with_native}
use Rattle.cc_model.specs.WellFormed.{native_names, script_names}
use Rattle.cc_laws_heap.specs.Freeing.{uncounted}
use Rattle.cc_laws_heap.proofs.Natives.{native_names-change, native_at-number}
use Rattle.cc_laws_heap.specs.Balance.{HasDistinctNumbers}
use Rattle.cc_laws_heap.proofs.HoldsTheSame.{HoldsTheSame-add_ref}
use Rattle.cc_laws_heap.specs.Sound.{numbers_of}
use Rattle.cc_laws_snapshot.proofs.BufferMarks.{IsPurple, marked-keeps_purple, marked-buffer}
use Rattle.cc_laws_snapshot.proofs.SlotsWritten.{contents-written_there, contents-written_kept, numbers_of-there, slot_written-there, slot_written-kept}
use Rattle.cc_laws_snapshot.proofs.Handing.{register-reached, Hands, edge-from_slot}

-- A reference taken, or a native made

-- natives hold what they held, maybe but for x, and maybe there is one more; x alone may have lost its mark, or entered the buffer
pub record TakesUp (h g : Heap) (x : Option Name) : Type 0 where
  pub slots : (n : HeapNative) (i : ℕ) → Among n h.natives → Among (native i) (contents n.slots) →
      ((m : HeapNative) × Among m g.natives × (m.number ≡ n.number) × Among (native i) (contents m.slots)) ⊎ Among (native i) (option_to_list x)
  pub reflectors : (i : ℕ) → Among (reflector i) (script_names h) → Among (reflector i) (script_names g)
  pub registers : g.native_registers ≡ h.native_registers
  pub purple : (i : ℕ) → IsPurple h i → IsPurple g i ⊎ Among (native i) (option_to_list x)
  pub buffer : (i : ℕ) → Among (native i) (view g).buffer → Among (native i) (view h).buffer ⊎ Among (native i) (option_to_list x)

-- nothing taken
pub TakesUp-nothing : (h : Heap) (x : Option Name) → TakesUp h h x
TakesUp-nothing h x = record {
  slots = λ n i m c. inl (n, m, refl, c);
  reflectors = λ i m. m;
  registers = refl;
  purple = λ i p. inl p;
  buffer = λ i m. inl m;
}

-- who is purple stays so where a native is touched, or is that native
touched-purple : (h : Heap) (k i : ℕ) → IsPurple h i → IsPurple (record h { buffer = with_mark false k h.buffer }) i ⊎ Among (native i) (native k ∷ [])
touched-purple h k i p = ⊎_elim (λ t. inr (inl (ap native (sym t.1)))) (λ t. inl (marked-keeps_purple h false k i t.1 p)) (eqb_tells i k)

-- who stands in the buffer then was there, or is that native
touched-buffer : (h : Heap) (k i : ℕ) → Among (native i) (view (record h { buffer = with_mark false k h.buffer })).buffer →
    Among (native i) (view h).buffer ⊎ Among (native i) (native k ∷ [])
touched-buffer h k i m = ⊎_elim (λ e. inr (inl e)) (λ o. inl o) (marked-buffer h false k (native i) m)

-- a native touched
pub TakesUp-touch : (h : Heap) (k : ℕ) → TakesUp h (touch h k) (Some (native k))
TakesUp-touch h k = record {
  slots = λ n i m c. inl (n, m, refl, c);
  reflectors = λ i m. m;
  registers = refl;
  purple = touched-purple h k;
  buffer = touched-buffer h k;
}

-- one reference more
pub TakesUp-add_ref : (h : Heap) (k : ℕ) → TakesUp h (add_ref h k) (Some (native k))
TakesUp-add_ref h k = record {
  slots = λ n i m c.
      let f = Among-map_cases uncounted (add_ref h k).natives (uncounted n)
      (subst (λ us. Among (uncounted n) us) (sym (HoldsTheSame-add_ref h k).natives) (Among-map uncounted n h.natives m)) in
      inl (f.0, f.1, ap (λ (u : HeapNative). u.number) f.2, subst (λ s. Among (native i) (contents s)) (sym (ap (λ (u : HeapNative). u.slots) f.2)) c);
  reflectors = λ i m. m;
  registers = refl;
  purple = touched-purple h k;
  buffer = touched-buffer h k;
}

-- a reference to what a place is to hold
pub TakesUp-take_up : (h : Heap) (x : Option Name) → TakesUp h (take_up h x) x
TakesUp-take_up h (Some (name.Native k)) = TakesUp-add_ref h k.0
TakesUp-take_up h x = TakesUp-nothing h x

-- a native made
pub TakesUp-with_native : (h : Heap) (n : ℕ) → TakesUp h (with_native h n) (Some (native (h.natives_made + 1)))
TakesUp-with_native h n = record {
  slots = λ m j i c. inl (m, Among-left m h.natives (native_to_make h n ∷ []) i, refl, c);
  reflectors = λ i m. m;
  registers = refl;
  purple = touched-purple h (h.natives_made + 1);
  buffer = touched-buffer h (h.natives_made + 1);
}

-- who is there once it was made was there, or is it
pub made-living : (h : Heap) (n i : ℕ) → Among (native i) (native_names (with_native h n)) →
    Among (native i) (native_names h) ⊎ Among (native i) (native (h.natives_made + 1) ∷ [])
made-living h n i m = Among-append (native i) (native_names h) (native (h.natives_made + 1) ∷ [])
    (subst (λ xs. Among (native i) xs) (map_push (λ (o : HeapNative). native o.number) h.natives (native_to_make h n)) m)

-- A native register written

-- a native that the register is to hold is reached once it was written; what the register held is to be given up
pub Hands-register : (h g : Heap) (d : ℕ) (x : Option Name) → d < length g.native_registers → TakesUp h g x →
    ((i : ℕ) → Among (native i) (native_names g) → Among (native i) (native_names h) ⊎ Among (native i) (option_to_list x)) →
    Hands (numbers_of (register g (N d))) h (set_register g (N d) x)
Hands-register h g d x room t living = record {
  slots = λ n i m c. ⊎_elim (λ k. inl k) (λ o. inr (inr (held i o))) (t.slots n i m c);
  reflectors = t.reflectors;
  registers = λ i m. ⊎_elim (λ a. inl a) (λ a. inr (numbers_of-there (register g (N d)) i a))
      (contents-written_kept g.native_registers d x (native i) (subst (λ s. Among (native i) (contents s)) (sym t.registers) m));
  purple = λ i p. ⊎_elim (λ q. inl q) (λ m. inr (held i m)) (t.purple i p);
  buffer = λ i m. ⊎_elim (λ q. inl q) (λ m. inr (held i m)) (t.buffer i m);
  living = λ i m. ⊎_elim (λ q. inl q) (λ m. inr (held i m)) (living i m);
}
  where
    held : (i : ℕ) → Among (native i) (option_to_list x) → ReachedIn (view (set_register g (N d) x)) (native i)
    held i m = register-reached (set_register g (N d) x) (native i) (contents-written_there g.native_registers d x (native i) room m)

-- A slot of a native written

-- a native that the slot of a reached one is to hold is reached once it was written; what the slot held is to be given up
pub Hands-slot : (h g : Heap) (number i : ℕ) (holder : HeapNative) (x : Option Name) → HasDistinctNumbers g → TakesUp h g x →
    native_at g number ≡ Some holder → i < length holder.slots → ReachedIn (view (change_native g number (with_native_slot i x))) (native number) →
    ((j : ℕ) → Among (native j) (native_names g) → Among (native j) (native_names h)) →
    Hands (numbers_of (get_or holder.slots i None)) h (change_native g number (with_native_slot i x))
Hands-slot h g number i holder x distinct t found room reached living = record {
  slots = λ n j m c.
      ⊎_elim
      (λ k. ⊎_elim
      (λ s. inl (s.0, s.1, s.2 ∙ k.2, s.3))
      (λ o. inr (inl (numbers_of-there (get_or holder.slots i None) j o)))
      (slot_written-kept g number i holder x distinct found k.0 (native j) k.1 k.3))
      (λ o. inr (inr (held j o)))
      (t.slots n j m c);
  reflectors = t.reflectors;
  registers = λ j m. inl (subst (λ s. Among (native j) (contents s)) (sym t.registers) m);
  purple = λ j p. ⊎_elim (λ q. inl q) (λ m. inr (held j m)) (t.purple j p);
  buffer = λ j m. ⊎_elim (λ q. inl q) (λ m. inr (held j m)) (t.buffer j m);
  living = λ j m. inl (living j (subst (λ xs. Among (native j) xs) (native_names-change g number (with_native_slot i x) (λ n. refl)) m));
}
  where
    -- the heaps once it was written
    after : Heap
    after = change_native g number (with_native_slot i x)

    held : (j : ℕ) → Among (native j) (option_to_list x) → ReachedIn (view after) (native j)
    held j m = derive-along (view after).registers (view after).edges (rules_of (view after).joints) (native number) (native j)
        (subst (λ k. Among (native k, native j) (view after).edges) (native_at-number g number holder found)
        (edge-from_slot after (with_native_slot i x holder) (native j) (slot_written-there g number i holder x found)
        (contents-written_there holder.slots i x (native j) room m)))
        reached

-- Natives alone stay

-- natives but for flags and counts, script names, native registers and the buffer stay; script objects may be made
pub record Still (h g : Heap) : Type 0 where
  pub natives : (n : HeapNative) → Among n h.natives → (m : HeapNative) × Among m g.natives × (m.number ≡ n.number) × (m.slots ≡ n.slots)
  pub names : native_names g ≡ native_names h
  pub reflectors : (i : ℕ) → Among (reflector i) (script_names h) → Among (reflector i) (script_names g)
  pub registers : g.native_registers ≡ h.native_registers
  pub buffer : g.buffer ≡ h.buffer

-- then nothing is handed over
pub Hands-still : (h g : Heap) → Still h g → Hands [] h g
Hands-still h g t = record {
  slots = λ n i m c. let k = t.natives n m in inl (k.0, k.1, k.2, subst (λ s. Among (native i) (contents s)) (sym k.3) c);
  reflectors = t.reflectors;
  registers = λ i m. inl (subst (λ s. Among (native i) (contents s)) (sym t.registers) m);
  purple = λ i p. inl (subst (λ bs. Among (native i) (map buffered (filter (λ b. b.purple) bs))) (sym t.buffer) p);
  buffer = λ i m. inl (subst (λ bs. Among (native i) (map buffered bs)) t.buffer m);
  living = λ i m. inl (subst (λ xs. Among (native i) xs) t.names m);
}
