-- NATIVES THAT HAVE ENDED STAY SO, by what a change leaves of each: it was there, unlinked or not as it is, or it was made, or it is
-- unlinked now.
use Rattle.std.proofs.Common.{arith, ◌≡◌, ℕ, ◌+◌, ◌≤◌, Bool, true, false, not, ◌||◌, Option, Some, None, refl, sym, ◌∙◌, ap, subst, inl, inr, ◌⊎◌, ⊎_elim}
use Rattle.cc_lists.specs.Members.{Among}
use Rattle.cc_names.specs.declared.name.Name.{Name}
use Rattle.cc_names.specs.declared.name.Name.TheVariants as name
use Rattle.cc_names.specs.declared.register.Reg.{Reg}
use Rattle.cc_names.specs.declared.register.Reg.TheVariants.{N, S, W}
use Rattle.cc_names.specs.Names.{native}
use Rattle.cc_model.specs.Banks.{Bank, of_natives, of_scripts, of_weak}
use Rattle.cc_model.specs.Heap.{Heap, HeapNative, lengthen, native_at, preserve, set_register, set_slot}
use Rattle.cc_model.specs.Given.{is_usable_native, is_usable}
use Rattle.cc_model.specs.Cascade.{add_ref, take_up, let_go}
use Rattle.cc_model.specs.Exposure.{exposed}
use Rattle.cc_model.specs.Effects.{touched, hold_native, make_native, put_in_register, with_native}
use Rattle.cc_laws_heap.specs.Balance.{HasDistinctNumbers}
use Rattle.cc_laws_heap.proofs.Natives.{native_at-there, native_at-number, native_at-member}
use Rattle.cc_laws_heap.proofs.Changing.{Leaves}
use Rattle.cc_laws_heap.proofs.Unseen.{Leaves-add_ref, Leaves-take_up, Leaves-let_go, Leaves-exposed, Leaves-touched}
use Rattle.cc_laws_heap.proofs.UnlinkedKept.{KeepUnlinked, KeepUnlinked-refl, KeepUnlinked-then, KeepUnlinked-slot, KeepUnlinked-preserve, WasThere, WasThereOrMade}
use Rattle.cc_laws_heap.proofs.NewObjects.{last-cases}
use Rattle.cc_laws_told.specs.Lasting.{KeepsEnded}

-- Natives by their numbers

-- a native that is found is usable where it was not unlinked
found-usable : (h : Heap) (j : ℕ) (n : HeapNative) (b : Bool) → native_at h j ≡ Some n → n.unlinked ≡ b → is_usable h (native j) ≡ not b
found-usable h j n b e u = ap (λ o. is_usable_native o || false) e ∙ (ap (λ c. not c || false) u ∙ plain (not b))
  where
    plain : (c : Bool) → (c || false) ≡ c
    plain true = refl
    plain false = refl

-- where none is found, none is usable
none-usable : (h : Heap) (j : ℕ) → native_at h j ≡ None → is_usable h (native j) ≡ false
none-usable h j e = ap (λ o. is_usable_native o || false) e

-- WHAT A CHANGE LEAVES of natives: each is unlinked, or was there, unlinked or not as it is, or was made
pub ended-by : (h k : Heap) → HasDistinctNumbers h → ((n : HeapNative) → Among n k.natives → (n.unlinked ≡ true) ⊎ WasThereOrMade h n) →
    h.natives_made ≤ k.natives_made → h.scripts_made ≤ k.scripts_made → KeepsEnded h k
ended-by h k d left natives scripts = record { natives_made = natives; scripts_made = scripts; ended = λ j few u. go j few u (native_at k j) refl }
  where
    go : (j : ℕ) → j ≤ h.natives_made → is_usable h (native j) ≡ false → (o : Option HeapNative) → native_at k j ≡ o → is_usable k (native j) ≡ false
    go j few u None e = none-usable k j e
    go j few u (Some n) e =
        let number : n.number ≡ j = native_at-number k j n e in
        ⊎_elim
        (λ unlinked. found-usable k j n true e unlinked)
        (λ kept. ⊎_elim
        (λ (w : WasThere h n).
        let was : native_at h j ≡ Some w.0 = ap (native_at h) (sym (w.2 ∙ number)) ∙ native_at-member h d w.0 w.1 in
        found-usable k j n n.unlinked e refl ∙ (ap not (sym w.3) ∙ (sym (found-usable h j w.0 w.0.unlinked was refl) ∙ u)))
        (λ made. absurd (omega (arith, few, made.0, number)))
        kept)
        (left n (native_at-there k j n e))

-- Changes in a row

pub ended-same : (h : Heap) → KeepsEnded h h
ended-same h = record { natives_made = omega arith; scripts_made = omega arith; ended = λ j few u. u }

pub ended-then : (a b c : Heap) → KeepsEnded a b → KeepsEnded b c → KeepsEnded a c
ended-then a b c f g = record {
  natives_made = omega (arith, f.natives_made, g.natives_made);
  scripts_made = omega (arith, f.scripts_made, g.scripts_made);
  ended = λ j few u. g.ended j (omega (arith, few, f.natives_made)) (f.ended j few u);
}

-- of heaps that are another's
pub ended-as : (a b c : Heap) → c ≡ b → KeepsEnded a b → KeepsEnded a c
ended-as a b c is e = subst (KeepsEnded a) (sym is) e

-- WHERE NOTHING IS MADE OR UNLINKED each native was there, unlinked or not as it is
pub record Stays (h k : Heap) : Type 0 where
  pub natives : KeepUnlinked h k
  pub natives_made : k.natives_made ≡ h.natives_made
  pub scripts_made : k.scripts_made ≡ h.scripts_made

pub ended-stays : (h k : Heap) → HasDistinctNumbers h → Stays h k → KeepsEnded h k
ended-stays h k d s = ended-by h k d (λ n i. inr (inl (s.natives n i))) (omega (arith, s.natives_made)) (omega (arith, s.scripts_made))

pub Stays-refl : (h : Heap) → Stays h h
Stays-refl h = record { natives = KeepUnlinked-refl h; natives_made = refl; scripts_made = refl }

pub Stays-then : (a b c : Heap) → Stays a b → Stays b c → Stays a c
Stays-then a b c f g = record {
  natives = KeepUnlinked-then a b c f.natives g.natives;
  natives_made = g.natives_made ∙ f.natives_made;
  scripts_made = g.scripts_made ∙ f.scripts_made;
}

-- where natives are as they were
pub Stays-natives : (h k : Heap) → k.natives ≡ h.natives → k.natives_made ≡ h.natives_made → k.scripts_made ≡ h.scripts_made → Stays h k
Stays-natives h k same natives scripts = record { natives = λ n i. KeepUnlinked-refl h n (subst (Among n) same i); natives_made = natives; scripts_made = scripts }

Stays-left : (h k : Heap) → Leaves h k → Stays h k
Stays-left h k l = record {
  natives = λ n i. let m = l.objects.natives n i in (m.0, m.1, m.2, m.4);
  natives_made = l.beside.natives_made;
  scripts_made = l.beside.scripts_made;
}

module _ (h : Heap) where
  pub Stays-add_ref : (k : ℕ) → Stays h (add_ref h k)
  Stays-add_ref k = Stays-left h (add_ref h k) (Leaves-add_ref h k)

  pub Stays-take_up : (x : Option Name) → Stays h (take_up h x)
  Stays-take_up x = Stays-left h (take_up h x) (Leaves-take_up h x)

  pub Stays-let_go : (x : Option Name) → Stays h (let_go h x).heap
  Stays-let_go x = Stays-left h (let_go h x).heap (Leaves-let_go h x)

  pub Stays-exposed : (x : Option Name) → Stays h (exposed h x)
  Stays-exposed x = Stays-left h (exposed h x) (Leaves-exposed h x)

  pub Stays-touched : (x : Option Name) → Stays h (touched h x)
  Stays-touched x = Stays-left h (touched h x) (Leaves-touched h x)

  pub Stays-register : (r : Reg) (x : Option Name) → Stays h (set_register h r x)
  Stays-register (N d) x = Stays-natives h (set_register h (N d) x) refl refl refl
  Stays-register (S d) x = Stays-natives h (set_register h (S d) x) refl refl refl
  Stays-register (W d) x = Stays-natives h (set_register h (W d) x) refl refl refl

  pub Stays-lengthen : (b : Bank) (n : ℕ) → Stays h (lengthen h b n)
  Stays-lengthen of_natives n = Stays-natives h (lengthen h of_natives n) refl refl refl
  Stays-lengthen of_scripts n = Stays-natives h (lengthen h of_scripts n) refl refl refl
  Stays-lengthen of_weak n = Stays-natives h (lengthen h of_weak n) refl refl refl

  pub Stays-slot : (x : Option Name) (i : ℕ) (y : Option Name) → Stays h (set_slot h x i y)
  Stays-slot x i y = record { natives = KeepUnlinked-slot h x i y; natives_made = natives x; scripts_made = scripts x }
    where
      natives : (x : Option Name) → (set_slot h x i y).natives_made ≡ h.natives_made
      natives None = refl
      natives (Some (name.Native k)) = refl
      natives (Some (name.Script k)) = refl
      natives (Some (name.Reflector k)) = refl

      scripts : (x : Option Name) → (set_slot h x i y).scripts_made ≡ h.scripts_made
      scripts None = refl
      scripts (Some (name.Native k)) = refl
      scripts (Some (name.Script k)) = refl
      scripts (Some (name.Reflector k)) = refl

  pub Stays-preserve : (x : Option Name) → Stays h (preserve h x)
  Stays-preserve x = record { natives = KeepUnlinked-preserve h x; natives_made = natives x; scripts_made = scripts x }
    where
      natives : (x : Option Name) → (preserve h x).natives_made ≡ h.natives_made
      natives None = refl
      natives (Some (name.Native k)) = refl
      natives (Some (name.Script k)) = refl
      natives (Some (name.Reflector k)) = refl

      scripts : (x : Option Name) → (preserve h x).scripts_made ≡ h.scripts_made
      scripts None = refl
      scripts (Some (name.Native k)) = refl
      scripts (Some (name.Script k)) = refl
      scripts (Some (name.Reflector k)) = refl

  -- a native register holds something else
  put-stays : (d : ℕ) (x : Option Name) → Stays h (put_in_register h d x).heap
  put-stays d x =
      let k : Heap = set_register h (N d) x in
      let l : Stays k (put_in_register h d x).heap = Stays-left k (put_in_register h d x).heap (Leaves-let_go k _) in
      Stays-then h k (put_in_register h d x).heap (Stays-register (N d) x) l

pub Stays-hold : (h : Heap) (d : ℕ) (x : Option Name) → Stays h (hold_native h d x).heap
unfolding hold_native
Stays-hold h d x = Stays-then h (take_up h x) (put_in_register (take_up h x) d x).heap (Stays-take_up h x) (put-stays (take_up h x) d x)

-- A NATIVE MADE was not there, and its number is above those made
pub ended-make : (h : Heap) (d n : ℕ) → HasDistinctNumbers h → KeepsEnded h (make_native h d n).heap
unfolding make_native
ended-make h d n distinct =
    let k : Heap = with_native h n in
    let s = put-stays k d (Some (native (h.natives_made + 1))) in
    ended-by h (make_native h d n).heap distinct (λ m i.
    let w : WasThere k m = s.natives m i in
    inr (⊎_elim
    (λ old. inl (w.0, old, w.2, w.3))
    (λ new. inr (sym w.2 ∙ ap (λ (u : HeapNative). u.number) (sym new), sym w.3 ∙ ap (λ (u : HeapNative). u.unlinked) (sym new)))
    (last-cases h.natives _ w.0 w.1)))
    (omega (arith, s.natives_made))
    (omega (arith, s.scripts_made))
