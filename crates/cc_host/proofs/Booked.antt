-- WHAT THE BOOKS SAY OF ROOTS stays so: what is in use holds something, and what is not holds nothing.
use Rattle.std.proofs.Common.{◌≡◌, ℕ, ◌+◌, ◌<◌, Bool, true, false, List, length, map, Option, Some, None, is_some, refl, sym, ◌∙◌, ap, subst, ⊎_elim, arith, slice_index_or, slice_set}
use Rattle.std.specs.Prelude.{IsSome}
use Rattle.std.proofs.lemmas.Bool.{cases_eq, cases_lt, false≢true}
use Rattle.std.proofs.lemmas.List.{get_or_past, get_or-set_other, get_or-set_same, length-map, map-set}
use Rattle.cc_names.specs.declared.name.Name.{Name}
use Rattle.cc_names.specs.declared.register.Reg.{Reg}
use Rattle.cc_names.specs.Names.{is_native}
use Rattle.cc_model.specs.Heap.{Heap, register}
use Rattle.cc_host.specs.Hosted.{Hosted}
use Rattle.cc_host.specs.Places.{IsFree, KeepsOtherPlaces, KeepsPlaces, TakesPlace, held_at, native_place, places, script_place}
use Rattle.cc_host.specs.declared.book.Place.{Place}
use Rattle.cc_host.specs.Booking.{serial_of}
use Rattle.cc_host.specs.Hosts.{Books, Enters, Given, IsBooked, serial_at}

-- One place of the books is written

abbrev pub books : Given → List Place → ℕ → Books
books given ps last = record { given = given; roots = map serial_of ps; last = last }

pub enters-written : (given : Given) (ps : List Place) (last later index : ℕ) (p : Place) → index < length ps →
    Enters (books given ps last) (books given (slice_set ps index p) later) index (serial_of p)
enters-written given ps last later index p there = record {
  entered = ap (λ (os : List (Option ℕ)). slice_index_or os index None) (map-set serial_of ps index p)
      ∙ get_or-set_same (map serial_of ps) index (serial_of p) None (omega (arith, there, length-map ps serial_of));
  others = λ other not. ap (λ (os : List (Option ℕ)). slice_index_or os other None) (map-set serial_of ps index p)
      ∙ get_or-set_other (map serial_of ps) index other (serial_of p) None not;
  given = refl;
}

-- where a root is in use there is a place
pub in-use-there : (ps : List Place) (index : ℕ) → true ≡ is_some (slice_index_or (map serial_of ps) index None) → index < length ps
in-use-there ps index used = ⊎_elim
    (λ l. l)
    (λ past. absurd (false≢true (sym (used ∙ ap is_some (get_or_past (map serial_of ps) index None (omega (arith, past, length-map ps serial_of)))))))
    (cases_lt index (length ps))

-- What a place holds

-- by what its registers hold
abbrev in_either : Option Name → Option Name → Option Name
in_either n s = elim n [ Some x ↦ Some x | None ↦ s ]

held-same : (h k : Heap) (p : ℕ) → register k (native_place p) ≡ register h (native_place p) → register k (script_place p) ≡ register h (script_place p) → held_at k p ≡ held_at h p
held-same h k p n s = ap (λ o. in_either o (register k (script_place p))) n ∙ ap (λ o. in_either (register h (native_place p)) o) s

abbrev register_by : ℕ → Bool → Reg
register_by p b = elim b [ true ↦ native_place p | false ↦ script_place p ]

-- a place that took an object holds it, where it was free
pub held-taken : (h k : Heap) (p : ℕ) (x : Name) → IsFree h p → TakesPlace p x h k → held_at k p ≡ Some x
held-taken h k p x free takes = go (is_native x) refl
  where
    holds : (b : Bool) → is_native x ≡ b → register k (register_by p b) ≡ Some x
    holds b e = subst (λ c. register k (register_by p c) ≡ Some x) e takes.holds

    go : (b : Bool) → is_native x ≡ b → held_at k p ≡ Some x
    go true e = ap (λ o. in_either o (register k (script_place p))) (holds true e)
    go false e = ap (λ o. in_either o (register k (script_place p))) (takes.native e ∙ free.native) ∙ holds false e

-- THE PLACES OF ROOTS STAY as they are.
pub booked-kept : (h k : Hosted) (b : Books) → KeepsPlaces h.heaps.heap k.heaps.heap → IsBooked h b → IsBooked k b
booked-kept h k b keeps r = record {
  held = λ index serial used.
      let was = r.held index serial used in
      (was.0, subst IsSome (sym (held-same h.heaps.heap k.heaps.heap index (keeps.natives index) (keeps.scripts index))) was.1);
  free = λ index there none.
      let was = r.free index there none in
      record { native = keeps.natives index ∙ was.native; script = keeps.scripts index ∙ was.script };
  serials = r.serials;
}

-- ONE ROOT IS IN USE from then on, and its place takes an object.
pub booked-entered : (h k : Hosted) (b c : Books) (index serial : ℕ) (x : Name) → index < places → IsBooked h b → serial_at b index ≡ None → Enters b c index (Some serial) →
    serial ≡ b.last + 1 → c.last ≡ serial → TakesPlace index x h.heaps.heap k.heaps.heap → IsBooked k c
booked-entered h k b c index serial x there r none e next last takes = record {
  held = λ i s used. ⊎_elim
      (λ same. (omega (arith, there, same), subst (λ n. IsSome (held_at k.heaps.heap n)) (sym same) (subst IsSome (sym (held-taken h.heaps.heap k.heaps.heap index x (r.free index there none) takes)) refl)))
      (λ other.
      let was = r.held i s (sym (e.others i other) ∙ used) in
      (was.0, subst IsSome (sym (held-same h.heaps.heap k.heaps.heap i (takes.others.natives i other) (takes.others.scripts i other))) was.1))
      (cases_eq i index);
  free = λ i below unused. ⊎_elim
      (λ same. absurd (false≢true (ap is_some (sym unused ∙ ap (serial_at c) same ∙ e.entered))))
      (λ other.
      let was = r.free i below (sym (e.others i other) ∙ unused) in
      record { native = takes.others.natives i other ∙ was.native; script = takes.others.scripts i other ∙ was.script })
      (cases_eq i index);
  serials = λ i s used. ⊎_elim
      (λ same. omega (arith, last, last_of i s used same))
      (λ other. omega (arith, last, next, r.serials i s (sym (e.others i other) ∙ used)))
      (cases_eq i index);
}
  where
    last_of : (i s : ℕ) → serial_at c i ≡ Some s → i ≡ index → s ≡ serial
    last_of i s used same = grind arith

-- ONE ROOT IS IN USE NO LONGER, and its place is empty.
pub booked-left : (h k : Hosted) (b c : Books) (index : ℕ) → IsBooked h b → Enters b c index None → c.last ≡ b.last → IsFree k.heaps.heap index →
    KeepsOtherPlaces index h.heaps.heap k.heaps.heap → IsBooked k c
booked-left h k b c index r e last empty others = record {
  held = λ i s used. ⊎_elim
      (λ same. absurd (false≢true (ap is_some (sym (ap (serial_at c) same ∙ e.entered) ∙ used))))
      (λ other.
      let was = r.held i s (sym (e.others i other) ∙ used) in
      (was.0, subst IsSome (sym (held-same h.heaps.heap k.heaps.heap i (others.natives i other) (others.scripts i other))) was.1))
      (cases_eq i index);
  free = λ i below unused. ⊎_elim
      (λ same. subst (IsFree k.heaps.heap) (sym same) empty)
      (λ other.
      let was = r.free i below (sym (e.others i other) ∙ unused) in
      record { native = others.natives i other ∙ was.native; script = others.scripts i other ∙ was.script })
      (cases_eq i index);
  serials = λ i s used. ⊎_elim
      (λ same. absurd (false≢true (ap is_some (sym (ap (serial_at c) same ∙ e.entered) ∙ used))))
      (λ other. omega (arith, last, r.serials i s (sym (e.others i other) ∙ used)))
      (cases_eq i index);
}
