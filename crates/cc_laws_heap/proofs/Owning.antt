-- REFERENCES TAKEN AND GIVEN UP: what is owned outside the heaps' lists meanwhile.
use Rattle.std.proofs.Common.{◌≡◌, ◌≢◌, ℕ, ◌+◌, ◌≤◌, true, false, List, ◌∷◌, ◌++◌, Option, Some, refl, sym, ap, subst, inl, ⊎_elim, arith, count_by, ◌==◌}
use Rattle.std.specs.Option.{option_to_list}
use Rattle.std.proofs.lemmas.Bool.Decides.{eqb_tells}
use Rattle.cc_lists.specs.Members.{Among}
use Rattle.cc_names.specs.declared.name.Name.{Name}
use Rattle.cc_names.specs.declared.name.Name.TheVariants as name
use Rattle.cc_names.specs.Names.{native, same_name}
use Rattle.cc_model.specs.Heap.{Heap, HeapNative, with_mark}
use Rattle.cc_model.specs.Cascade.{add_ref, take_up, let_go}
use Rattle.cc_model.specs.WellFormed.{IsWellFormed, native_names, names_there}
use Rattle.cc_model.specs.Counts.{refs_to, times}
use Rattle.cc_laws_heap.specs.Sound.{IsSound, numbers_of}
use Rattle.cc_laws_heap.proofs.Natives.{native_at-change_same, native_at-change_other, named-found}
use Rattle.cc_laws_heap.proofs.References.{times-append, times-cons_same, times-cons_other, times-natives_in, refs_to-alike, native-there}
use Rattle.cc_laws_heap.proofs.Counted.{IsSound-counted, IsSound-from_counted}
use Rattle.cc_laws_heap.specs.Balance.{IsCounted, count_of, count_at}
use Rattle.cc_laws_heap.proofs.Cascades.{cascade-sound}
use Rattle.cc_lists.proofs.ListWrites.{changed_where, changed_where-either, each-map}
use Rattle.cc_laws_heap.proofs.Kept.{ChangesNatives, ChangesNatives-where, IsWellFormed-native, IsBuffer, IsWellFormed-natives}
use Rattle.cc_laws_heap.proofs.Making.{with_mark-cases, places-with_mark}
use Rattle.cc_laws_heap.proofs.HoldsTheSame.{raise_native, HoldsTheSame-add_ref}

-- what a register or a slot is to hold stands in a list
abbrev pub IsIn : List Name → Option Name → Type 0
IsIn names x = (y : Name) → Among y (option_to_list x) → Among y names

-- a native is owned once more where what is held in front is that native
pub times-numbers_of : (k : ℕ) (x : Option Name) (owned : List ℕ) →
    times k (numbers_of x ++ owned) ≡ count_by (same_name (native k)) (option_to_list x) + times k owned
times-numbers_of k x owned = rw (times-append k (numbers_of x) owned, times-natives_in k (option_to_list x)) refl

-- A reference taken

-- native k with one reference more
abbrev raised : ℕ → HeapNative → HeapNative
raised k n = changed_where (λ m. m.number == k) raise_native n

-- a native touched stands in the buffer, once
pub IsBuffer-touch : (h : Heap) (k : ℕ) → IsWellFormed h → Among (native k) (native_names h) → IsBuffer h (with_mark false k h.buffer)
IsBuffer-touch h k w m = record {
  there = λ b i. ⊎_elim (λ e. subst (λ j. Among (native j) (native_names h)) (sym e) m) (λ t. w.buffered b t) (with_mark-cases false k h.buffer b i);
  once = places-with_mark false k h.buffer w.buffered_once;
}

-- a count that rises changes no slot and no flag
ChangesNatives-raised : (h : Heap) (k : ℕ) → IsWellFormed h → ChangesNatives h (raised k)
ChangesNatives-raised h k w = ChangesNatives-where h w (λ n. n.number == k) raise_native (λ n. refl) (λ n m e. IsWellFormed-native h w n m)

-- the native whose count rose is owned once more
pub IsCounted-add_ref : (owned : List ℕ) (h : Heap) (k : ℕ) → Among (native k) (native_names h) → IsCounted owned h → IsCounted (k ∷ owned) (add_ref h k)
IsCounted-add_ref owned h k there c j = ⊎_elim same other (eqb_tells j k)
  where
    alike : (i : ℕ) → refs_to (add_ref h k) i ≡ refs_to h i
    alike i = let a = HoldsTheSame-add_ref h k in refs_to-alike h (add_ref h k) a.beside a.natives i

    one_more : count_at (add_ref h k) k ≡ count_at h k + 1
    one_more = grind (arith, named-found, native_at-change_same)

    same : ((j == k) ≡ true) × (j ≡ k) → count_at (add_ref h k) j ≡ refs_to (add_ref h k) j + times j (k ∷ owned)
    same t = subst (λ i. count_at (add_ref h k) i ≡ refs_to (add_ref h k) i + times i (k ∷ owned)) (sym t.1)
        (omega (arith, c k, one_more, alike k, times-cons_same k owned))

    other : ((j == k) ≡ false) × (j ≢ k) → count_at (add_ref h k) j ≡ refs_to (add_ref h k) j + times j (k ∷ owned)
    other t =
        let after : count_at (add_ref h k) j ≡ count_at h j = ap count_of (native_at-change_other h k raise_native (λ n. refl) j t.1) in
        omega (arith, c j, after, alike j, times-cons_other j k owned (λ e. t.1 (sym e)))

-- A reference to a native that is there is taken: it is owned.
pub add_ref-sound : (owned : List ℕ) (h : Heap) (k : ℕ) → Among (native k) (native_names h) → IsSound owned h → IsSound (k ∷ owned) (add_ref h k)
add_ref-sound owned h k there s = IsSound-from_counted (k ∷ owned) (add_ref h k)
    (IsWellFormed-natives h (raised k) (with_mark false k h.buffer) s.well_formed
    (ChangesNatives-raised h k s.well_formed) (IsBuffer-touch h k s.well_formed there))
    (IsCounted-add_ref owned h k there (IsSound-counted owned h s))
    (each-map (λ n. 1 ≤ n.count) (raised k) h.natives (λ n m. changed_where-either (λ o. 1 ≤ o.count) (λ m. m.number == k) raise_native n
    (λ e. omega (arith, s.none_zero n m)) (s.none_zero n m)))

-- A reference to what a register or a slot is to hold is taken.
pub take_up-sound : (owned : List ℕ) (h : Heap) (x : Option Name) → IsIn (names_there h) x → IsSound owned h →
    IsSound (numbers_of x ++ owned) (take_up h x)
take_up-sound owned h (Some (name.Native k)) there s = add_ref-sound owned h k.0 (native-there h k.0 s.well_formed (there (native k.0) (inl refl))) s
take_up-sound owned h _ there s = s

-- What a register or a slot held is given up: it is owned no more.
pub let_go-sound : (owned : List ℕ) (h : Heap) (x : Option Name) → IsSound (numbers_of x ++ owned) h → IsSound owned (let_go h x).heap
let_go-sound owned h (Some (name.Native k)) s = cascade-sound owned h k.0 s
let_go-sound owned h _ s = s
