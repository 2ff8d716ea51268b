-- WHAT WEAK REGISTERS NOTE: writes, and what is found by the key.
use Rattle.std.proofs.Common.{◌≡◌, ℕ, zero, suc, ◌≤◌, Bool, true, false, not, ◌&&◌, List, [], ◌∷◌, Option, Some, None, option_and_then, refl, sym, ◌∙◌, ap, subst, ⊎_elim, inl, inr, arith, slice_index_or}
use Rattle.std.specs.Prelude.{replicate, slice_set}
use Rattle.cc_lists.proofs.Searching.{find-map}
use Rattle.cc_laws_heap.proofs.Face.{named-found, native_at-named}
use Rattle.cc_heaps.proofs.Calls.{number-named}
use Rattle.std.proofs.lemmas.Bool.{cases_Bool, eqb-true, false≢true}
use Rattle.std.proofs.lemmas.List.{map-set}
use Rattle.std.proofs.Math.ListN.{get_or-map}
use Rattle.cc_lists.specs.Members.{Among}
use Rattle.cc_lists.proofs.Held.{map-replicate}
use Rattle.cc_lists.proofs.ListWrites.{Among-set_cases}
use Rattle.cc_names.specs.declared.number.NKey.{NKey}
use Rattle.cc_names.specs.Names.{native}
use Rattle.cc_model.specs.Slots.{empty_slots}
use Rattle.cc_model.specs.Heap.{HeapNative, native_at}
use Rattle.cc_counted.specs.Counts.{heap_of, unlinked_at, unlinked_of}
use Rattle.cc_heaps.specs.Keyed.{Keyed, IsInOrder, counts_of, number_at}
use Rattle.cc_heaps.specs.Changes.{KeepsKeys, native_name}
use Rattle.cc_weakrefs.specs.declared.noted.Noted.{Noted}
use Rattle.cc_weakrefs.specs.Noting.{HoldKeys, HoldsKey, NoneComesBack, if_usable, is_found, is_number, key_resolved, name_noted, names_noted, number_noted, usable_noted}

-- Writes

-- A write of a register writes the names so.
pub names-set : (weak : List (Option Noted)) (w : ℕ) (n : Option Noted) → names_noted (slice_set weak w n) ≡ slice_set (names_noted weak) w (name_noted n)
names-set weak w n = map-set name_noted weak w n

-- Registers that note nothing note no names.
pub names-empty : (k : ℕ) → names_noted (replicate k None) ≡ empty_slots k
names-empty k = map-replicate name_noted k None

-- The name that a register notes is that of what it notes.
pub name-at : (weak : List (Option Noted)) (w : ℕ) → slice_index_or (names_noted weak) w None ≡ name_noted (slice_index_or weak w None)
name-at weak w = get_or-map name_noted weak w None

-- Registers that note nothing hold the keys of all that they note.
pub hold-empty : (k : ℕ) (v : Keyed) → HoldKeys (replicate k None) v
hold-empty k v n m = absurd (none k m)
  where
    none : (k : ℕ) → ¬ (Among (Some n) (replicate k None))
    none zero m = m
    none (suc k) m = ⊎_elim (λ (e : None ≡ Some n). absurd (cc)) (none k) m

-- Registers hold the keys of what they note after a write too, where what is written holds its key.
pub hold-set : (weak : List (Option Noted)) (w : ℕ) (x : Option Noted) (v : Keyed) → HoldKeys weak v → ((n : Noted) → x ≡ Some n → HoldsKey v n) → HoldKeys (slice_set weak w x) v
hold-set weak w x v h is n m = ⊎_elim (is n) (h n) (Among-set_cases weak w x (Some n) m)

-- What a register notes is among what the registers note.
pub noted-at : (weak : List (Option Noted)) (w : ℕ) (n : Noted) → slice_index_or weak w None ≡ Some n → Among (Some n) weak
noted-at [] w n e = absurd (cc)
noted-at (x ∷ weak) zero n e = inl e
noted-at (x ∷ weak) (suc w) n e = inr (noted-at weak w n e)

-- What has its key has it by any name for it.
pub one-held : (v : Keyed) (m : Noted) → HoldsKey v m → (n : Noted) → Some m ≡ Some n → HoldsKey v n
one-held v m h n e = let same : m ≡ n = cc in subst (HoldsKey v) same h

-- Changes of the heaps

-- REGISTERS GO ON HOLDING KEYS over a change that keeps keys and brings no native back.
pub hold-on : (weak : List (Option Noted)) (old new : Keyed) → KeepsKeys old new → NoneComesBack old.heap new.heap → old.heap.natives_made ≤ new.heap.natives_made →
    HoldKeys weak old → HoldKeys weak new
hold-on weak old new keeps back more h n m =
    let o : HoldsKey old n = h n m in
    record {
      made = (o.made.0, omega (arith, o.made.1, more));
      key = λ there. keeps.natives n.key.0 (number_noted n) (o.key (back (number_noted n) o.made.1 there)) there;
    }

-- What is found by the key

-- The counted heap shows whether a native was unlinked as the heaps do.
unlinked-keyed : (v : Keyed) (k : ℕ) → unlinked_at (native_at (heap_of (counts_of v)) k) ≡ unlinked_at (native_at v.heap k)
unlinked-keyed v k = grind (arith, find-map)

-- What stands at its key no more is not found.
module _ (v : Keyed) (n : Noted) where
  other-lost : ¬ (number_at v n.key.0 ≡ Some (number_noted n)) → is_found v n ≡ false
  other-lost other = ⊎_elim (λ t. absurd (other (is (number_at v n.key.0) t))) (λ f. ap (λ b. b && not (unlinked_of (counts_of v) n.key.0)) f)
      (cases_Bool (is_number (number_noted n) (number_at v n.key.0)))
    where
      is : (x : Option ℕ) → is_number (number_noted n) x ≡ true → x ≡ Some (number_noted n)
      is None t = absurd (false≢true t)
      is (Some j) t = ap Some (eqb-true j (number_noted n) t)

  -- What stands at its key is found, unless it was unlinked.
  own-found : number_at v n.key.0 ≡ Some (number_noted n) → is_found v n ≡ not (unlinked_at (native_at v.heap (number_noted n)))
  own-found e = grind (arith, unlinked-keyed)

-- WHAT IS FOUND by its key is what is noted by name, where that is in the heaps and was not unlinked.
pub found-usable : (v : Keyed) (owned : List ℕ) (x : Option Noted) → IsInOrder owned v → ((n : Noted) → x ≡ Some n → HoldsKey v n) →
    native_name v (key_resolved v x) ≡ option_and_then (if_usable v.heap) (name_noted x)
found-usable v owned None o h = refl
found-usable v owned (Some n) o h = by_native (native_at v.heap k) refl
  where
    k : ℕ
    k = number_noted n

    by_native : (m : Option HeapNative) → native_at v.heap k ≡ m → native_name v (key_resolved v (Some n)) ≡ if_usable v.heap (native k)
    by_native None e =
        let lost : is_found v n ≡ false = other-lost v n (λ t. let f = named-found v.heap k (number-named v owned n.key.0 k o t) in let g = sym e ∙ f.1 in absurd (cc)) in
        grind (arith, lost, e)
    by_native (Some m) e =
        let own : number_at v n.key.0 ≡ Some k = (h n refl).key (native_at-named v.heap k m e) in
        let found : is_found v n ≡ not m.unlinked = own-found v n own ∙ ap (λ x. not (unlinked_at x)) e in
        by_flag m.unlinked refl found own
      where
        by_flag : (b : Bool) → m.unlinked ≡ b → is_found v n ≡ not m.unlinked → number_at v n.key.0 ≡ Some k → native_name v (key_resolved v (Some n)) ≡ if_usable v.heap (native k)
        by_flag b u found own = grind (arith, u, found, own, e)

-- WHAT A REGISTER RESOLVES TO is what it notes by name, where that is in the heaps and was not unlinked.
pub resolved-usable : (v : Keyed) (owned : List ℕ) (weak : List (Option Noted)) (w : ℕ) (result : Option NKey) → result ≡ key_resolved v (slice_index_or weak w None) →
    IsInOrder owned v → HoldKeys weak v → native_name v result ≡ usable_noted v.heap (names_noted weak) w
resolved-usable v owned weak w result e o h =
    ap (native_name v) e
    ∙ (found-usable v owned (slice_index_or weak w None) o (λ n is. h n (noted-at weak w n is))
    ∙ sym (ap (option_and_then (if_usable v.heap)) (name-at weak w)))
