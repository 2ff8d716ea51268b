-- THE WALKS OVER ROOTS: over registers, over the references of a native, and over natives by rising number.
use Rattle.std.proofs.Common.{◌≡◌, ℕ, suc, ◌<◌, true, List, [], ◌∷◌, ◌++◌, drop, length, nat_lt, Option, Some, None, IfSome, IsSome, refl, sym, ◌∙◌, ap, subst, inl, arith}
use Rattle.std.specs.List.{filter}
use Rattle.std.specs.Option.{option_and_then}
use Rattle.cc_lists.specs.Members.{Among}
use Rattle.cc_lists.proofs.Members.{Among-filtered}
use Rattle.cc_lists.proofs.Searching.{filter-true}
use Rattle.cc_lists.specs.Walks.{is_above}
use Rattle.cc_lists.proofs.RisingWalks.{above-first}
use Rattle.cc_names.specs.declared.number.NKey.{NKey}
use Rattle.cc_model.specs.Heap.{HeapNative}
use Rattle.cc_counted.specs.Counts.{Counts, number_at, the_number, number_or_none, references_of, first_number, number_after}
use Rattle.cc_counted.specs.Owning.{HasKeys}
use Rattle.cc_heaps.specs.Roots.{keys_in, references_in, keys_held, natives_behind, keys_from, HaveFewSlots, IsPlace}
use Rattle.cc_heaps.proofs.References.{references-found}

-- Natives by rising number

-- the natives above a number, of all where there is none
abbrev natives_above : Counts → Option ℕ → List HeapNative
natives_above c o = filter (λ n. is_above o n.number) c.natives

-- a key that is that of a number
abbrev pub IsNext : Counts → Option NKey → Option ℕ → Type 0
IsNext c at k = option_and_then (λ (key : NKey). number_at c key.0) at ≡ k

abbrev pub IsLiveKey : Counts → Option NKey → Type 0
IsLiveKey c at = IfSome at (λ (key : NKey). IsSome (number_at c key.0))

-- how many natives are left from a key on
abbrev pub natives_left : Counts → Option NKey → ℕ
natives_left c None = 0
natives_left c (Some key) = suc (length (natives_behind c key.0))

-- The walk comes to the natives above a number, of which it stands at the first.
record Comes (c : Counts) (at : Option NKey) (ns : List HeapNative) : Type 0 where
  keys : keys_from c at 0 ≡ keys_held c ns
  left : natives_left c at ≡ length ns

comes : (c : Counts) → HasKeys c → (o : Option ℕ) (at : Option NKey) → IsNext c at (first_number (natives_above c o)) → IsLiveKey c at → Comes c at (natives_above c o)
comes c k o at = go at (natives_above c o) refl
  where
    go : (at : Option NKey) (ns : List HeapNative) → natives_above c o ≡ ns → IsNext c at (first_number ns) → IsLiveKey c at → Comes c at ns
    go None [] e first there = record { keys = refl; left = refl }
    go None (n ∷ ns) e first there = absurd (cc)
    go (Some key) [] e first there = absurd (cc)
    go (Some key) (n ∷ ns) e first there =
        let named : the_number c key.0 ≡ n.number = ap number_or_none first in
        let member : Among n c.natives = Among-filtered (λ (m : HeapNative). is_above o m.number) n c.natives (subst (Among n) (sym e) (inl refl)) in
        let references : references_of c key.0 ≡ references_in c n = references-found c k key.0 n member first in
        let behind : natives_behind c key.0 ≡ ns =
        ap (λ j. filter (λ (m : HeapNative). nat_lt j m.number) c.natives) named ∙ above-first (λ (m : HeapNative). m.number) c.natives k.rising o n ns e in
        record { keys = λ i. keys_in (references i) ++ keys_held c (behind i); left = ap (λ ms. suc (length ms)) behind }

-- all natives are above none
natives_above-none : (c : Counts) → natives_above c None ≡ c.natives
natives_above-none c = filter-true (λ (n : HeapNative). true) c.natives (λ n. refl)

-- The walk begins at the first native.
pub begins : (c : Counts) → HasKeys c → (at : Option NKey) → IsNext c at (first_number c.natives) → IsLiveKey c at → keys_from c at 0 ≡ keys_held c c.natives
begins c k at first there =
    (comes c k None at (first ∙ ap first_number (sym (natives_above-none c))) there).keys ∙ ap (keys_held c) (natives_above-none c)

-- the next native comes behind one that is there: with it fewer are left
pub record GoesOn (c : Counts) (key : NKey) (at : Option NKey) : Type 0 where
  pub keys : keys_from c at 0 ≡ keys_held c (natives_behind c key.0)
  pub fewer : natives_left c at < natives_left c (Some key)

pub goes_on : (c : Counts) → HasKeys c → (key : NKey) (at : Option NKey) → IsNext c at (number_after c (the_number c key.0)) → IsLiveKey c at → GoesOn c key at
goes_on c k key at next there =
    let f = comes c k (Some (the_number c key.0)) at next there in
    record { keys = f.keys; fewer = omega (arith, f.left) }

-- the front of the references of a native is a place, as long as it is there
pub IsPlace-front : (c : Counts) → HasKeys c → HaveFewSlots c.natives → (at : Option NKey) → IsLiveKey c at → IsPlace c at 0
IsPlace-front c k few at there = grind arith

-- where no reference holds a key any more, those that are left stand behind the native
pub keys_from-behind : (c : Counts) (key : NKey) (i : ℕ) → keys_in (drop i (references_of c key.0)) ≡ [] → keys_from c (Some key) i ≡ keys_held c (natives_behind c key.0)
keys_from-behind c key i e = ap (λ ks. ks ++ keys_held c (natives_behind c key.0)) e
