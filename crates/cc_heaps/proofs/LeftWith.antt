-- KEYS OF HEAPS IN WHICH SOME NATIVES ARE NO MORE, or none: the number at a key, and what is left where some leave and then others.
use Rattle.std.proofs.Common.{arith, ◌≡◌, ℕ, zero, suc, List, [], ◌∷◌, map, get_or, true, Option, Some, None, refl, ◌∙◌, ap, inl, is_some, sym, if◌then◌else◌}
use Rattle.std.proofs.Math.ListN.{get_or-map}
use Rattle.std.proofs.lemmas.Simd.{map-map}
use Rattle.std.proofs.Math.Path.{fun_ext}
use Rattle.cc_lists.specs.Members.{Among}
use Rattle.cc_names.specs.Names.{native}
use Rattle.cc_model.specs.Heap.{Heap, HeapNative, native_at}
use Rattle.cc_model.specs.WellFormed.{native_names}
use Rattle.cc_laws_heap.proofs.Face.{named-found, native_at-named}
use Rattle.cc_names.specs.declared.kind.Walked.{Walked}
use Rattle.cc_names.specs.declared.kind.Walked.TheVariants.{Out}
use Rattle.cc_counted.specs.Counts.{key_left, state_left, walks_left}
use Rattle.cc_heaps.specs.Keyed.{Keyed, IsInOrder, number_at, the_number, left_with}
use Rattle.cc_heaps.proofs.Calls.{number-named}
use Rattle.cc_heaps.proofs.Content.{number-some}

pub key_left-there : (h : Heap) (k : ℕ) → Among (native k) (native_names h) → key_left h (Some k) ≡ Some k
key_left-there h k m = let f = named-found h k m in rw f.1 refl

-- the number at a key is that of before, where its native is left
pub number_at-left : (v : Keyed) (h : Heap) (key : ℕ) → number_at (left_with v h) key ≡ key_left h (number_at v key)
number_at-left v h key = get_or-map (key_left h) v.keys key None

-- where the natives of all keys are there, all keys are left
pub keys-there : (h : Heap) (keys : List (Option ℕ)) → ((key k : ℕ) → get_or keys key None ≡ Some k → Among (native k) (native_names h)) → map (key_left h) keys ≡ keys
keys-there h [] there = refl
keys-there h (None ∷ keys) there = ap (λ ks. None ∷ ks) (keys-there h keys (λ key k e. there (suc key) k e))
keys-there h (Some j ∷ keys) there = rw (key_left-there h j (there zero j refl)) (ap (λ ks. Some j ∷ ks) (keys-there h keys (λ key k e. there (suc key) k e)))

-- and stand in a walk as they did
pub walks-there : (h : Heap) (keys : List (Option ℕ)) (walks : List Walked) → ((key k : ℕ) → get_or keys key None ≡ Some k → Among (native k) (native_names h)) →
    walks_left h keys walks ≡ walks
walks-there h [] walks there = refl
walks-there h (k ∷ ks) [] there = refl
walks-there h (None ∷ ks) (w ∷ ws) there = ap (λ xs. w ∷ xs) (walks-there h ks ws (λ key k e. there (suc key) k e))
walks-there h (Some j ∷ ks) (w ∷ ws) there =
    let f = named-found h j (there zero j refl) in
    rw f.1 (ap (λ xs. w ∷ xs) (walks-there h ks ws (λ key k e. there (suc key) k e)))

-- where none has left, keys are as they were
pub left_with-same : (owned : List ℕ) (v : Keyed) → IsInOrder owned v → left_with v v.heap ≡ v
left_with-same owned v o = λ i. record v { keys = keys-there v.heap v.keys there i; walks = walks-there v.heap v.keys v.walks there i }
  where
    there : (key k : ℕ) → get_or v.keys key None ≡ Some k → Among (native k) (native_names v.heap)
    there key k e = number-named v owned key k o e

-- a native that is owned after some left stays at its key
pub number-stays : (owned : List ℕ) (v : Keyed) (h : Heap) (key : ℕ) → is_some (number_at v key) ≡ true → IsInOrder (the_number v key ∷ owned) (left_with v h) →
    number_at (left_with v h) key ≡ Some (the_number v key)
number-stays owned v h key live o =
    number_at-left v h key
    ∙ (ap (key_left h) (number-some (number_at v key) live) ∙ key_left-there h (the_number v key) (o.sound.owned_there (the_number v key) (inl refl)))

key_left-gone : (h : Heap) (k : ℕ) → ¬ (Among (native k) (native_names h)) → key_left h (Some k) ≡ None
key_left-gone h k gone = grind (arith, native_at-named)

-- some natives leave, and then others: those that are there at the end were there between
module _ (h g : Heap) (before : (k : ℕ) → Among (native k) (native_names g) → Among (native k) (native_names h)) where
  pub key_left-then : (o : Option ℕ) → key_left g (key_left h o) ≡ key_left g o
  key_left-then None = refl
  key_left-then (Some k) = step (native_at h k) refl
    where
      step : (o : Option HeapNative) → native_at h k ≡ o → key_left g (if is_some o then Some k else None) ≡ key_left g (Some k)
      step (Some n) e = refl
      step None e = sym (key_left-gone g k (λ m. let f = named-found h k (before k m) in absurd (cc)))

  pub keys-then : (keys : List (Option ℕ)) → map (key_left g) (map (key_left h) keys) ≡ map (key_left g) keys
  keys-then keys = map-map (key_left g) (key_left h) keys ∙ ap (λ f. map f keys) (fun_ext key_left-then)

  state_left-then : (o : Option ℕ) (state : Walked) → state_left g (key_left h o) (state_left h o state) ≡ state_left g o state
  state_left-then None state = refl
  state_left-then (Some k) state = step (native_at h k) refl
    where
      step : (o : Option HeapNative) → native_at h k ≡ o →
          state_left g (if is_some o then Some k else None) (if is_some o then state else Out) ≡ state_left g (Some k) state
      step (Some n) e = refl
      step None e = sym (go (native_at g k) refl)
        where
          go : (o : Option HeapNative) → native_at g k ≡ o → (if is_some (native_at g k) then state else Out) ≡ Out
          go None f = rw f refl
          go (Some n) f = let m = named-found h k (before k (native_at-named g k n f)) in absurd (cc)

  pub walks-then : (keys : List (Option ℕ)) (walks : List Walked) → walks_left g (map (key_left h) keys) (walks_left h keys walks) ≡ walks_left g keys walks
  walks-then [] walks = refl
  walks-then (k ∷ ks) [] = refl
  walks-then (k ∷ ks) (w ∷ ws) = λ i. state_left-then k w i ∷ walks-then ks ws i

pub left_with-then : (v : Keyed) (h g : Heap) → ((k : ℕ) → Among (native k) (native_names g) → Among (native k) (native_names h)) →
    left_with (left_with v h) g ≡ left_with v g
left_with-then v h g before = λ i. record v { heap = g; keys = keys-then h g before v.keys i; walks = walks-then h g before v.keys v.walks i }
