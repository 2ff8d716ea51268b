-- WHAT A NATIVE REFERS TO, by its key and by its number alike: its slots, and its reflector, where that is preserved.
use Rattle.cc_laws_heap.proofs.Face.{IsRising-distinct, is_some-found, named-member, native_at-member}
use Rattle.std.proofs.Common.{◌≡◌, ℕ, zero, suc, ◌+◌, ◌≤◌, ◌==◌, Bool, true, false, List, [], ◌∷◌, ◌++◌, length, get_or, length-append, Option, Some, None, IsSome, refl, sym, ◌∙◌, ap, arith}
use Rattle.std.proofs.lemmas.Bool.{eq-eqb, eqb-true}
use Rattle.cc_lists.specs.Members.{Among}
use Rattle.cc_lists.proofs.Filtering.{find-among}
use Rattle.cc_names.specs.Sizes.{most_slots}
use Rattle.cc_model.specs.Heap.{HeapNative, native_at}
use Rattle.cc_counted.specs.Counts.{Counts, number_at, number_or_none, the_number, reflector_at, heap_of, slots_at, slots_of, preserved_at, preserved_of, preserved_reflector, references_of}
use Rattle.cc_counted.specs.Owning.{HasKeys}
use Rattle.cc_heaps.specs.Roots.{reflector_by, references_in, HaveFewSlots}

-- a number that stands at one key alone has the reflector of that key
pub reflector_by-key : (os rs : List (Option ℕ)) (key k : ℕ) → get_or os key None ≡ Some k → ((p : ℕ) → get_or os p None ≡ Some k → p ≡ key) →
    reflector_by os rs k ≡ get_or rs key None
reflector_by-key [] rs key k e one = absurd (cc)
reflector_by-key (o ∷ os) [] key k e one = refl
reflector_by-key (None ∷ os) (r ∷ rs) zero k e one = absurd (cc)
reflector_by-key (None ∷ os) (r ∷ rs) (suc key) k e one = reflector_by-key os rs key k e (λ p f. omega (arith, one (suc p) f))
reflector_by-key (Some j ∷ os) (r ∷ rs) zero k e one = grind (arith, eq-eqb)
reflector_by-key (Some j ∷ os) (r ∷ rs) (suc key) k e one = go (reflector_by-key os rs key k e (λ p g. omega (arith, one (suc p) g))) (j == k) refl
  where
    go : reflector_by os rs k ≡ get_or rs key None → (b : Bool) → (j == k) ≡ b → elim b as (λ _. Option ℕ) [ true ↦ r | false ↦ reflector_by os rs k ] ≡ get_or rs key None
    go ih true f = absurd (omega (arith, one 0 (ap (λ i. Some i) (eqb-true j k f))))
    go ih false f = ih

-- THE REFERENCES OF A NATIVE AT A KEY are those of its number.
pub references-found : (c : Counts) → HasKeys c → (key : ℕ) (n : HeapNative) → Among n c.natives → number_at c key ≡ Some n.number → references_of c key ≡ references_in c n
references-found c k key n m e = λ i. slots_at (found i) ++ preserved_reflector (preserved_at (found i)) (reflector i) ∷ []
  where
    found : native_at (heap_of c) (the_number c key) ≡ Some n
    found = ap (λ o. native_at (heap_of c) (number_or_none o)) e ∙ native_at-member (heap_of c) (IsRising-distinct (heap_of c) k.rising) n m

    reflector : reflector_at c key ≡ reflector_by c.keys c.reflectors n.number
    reflector = sym (reflector_by-key c.keys c.reflectors key n.number e (λ p f. k.one_key p key n.number f e))

-- at a key that is that of a native there is one
pub native-found : (c : Counts) → HasKeys c → (key : ℕ) → IsSome (number_at c key) → (n : HeapNative) × Among n c.natives × (number_at c key ≡ Some n.number)
native-found c k key live =
    let j = is_some-found (number_at c key) live in
    let f = named-member (heap_of c) j.0 (k.there key j.0 j.1) in
    (f.0, f.1, j.1 ∙ ap (λ i. Some i) (sym f.2))

-- there is one more than slots
pub length-references : (c : Counts) (key : ℕ) → length (references_of c key) ≡ length (slots_of c key) + 1
length-references c key = length-append (slots_of c key) (preserved_reflector (preserved_of c key) (reflector_at c key) ∷ [])

-- and slots are few
pub few-slots : (c : Counts) → HaveFewSlots c.natives → (key : ℕ) → length (slots_of c key) ≤ most_slots
few-slots c few key = grind (arith, find-among)
