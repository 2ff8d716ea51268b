-- Members of a list by number, and of one that is another's image.
use Rattle.std.proofs.Common.{◌≡◌, ℕ, zero, suc, ◌+◌, ◌-◌, ◌<◌, ◌≤◌, List, map, length, get_or, set, Some, None, ◌⊎◌, refl, sym, ap, ◌∙◌, ⊎_elim, arith}
use Rattle.std.specs.Prelude.{slice_get, option_map}
use Rattle.std.proofs.lemmas.Option.{slice_get-map, slice_get_read, slice_get_past}
use Rattle.std.proofs.lemmas.List.{map-set}
use Rattle.cc_model.specs.Graph.{numbered}
use Rattle.cc_object_graph.specs.Numbered.{with_member}

pub numbered-suc : {X : Type 0} (xs : List X) (k p : ℕ) → k ≡ p + 1 → numbered xs k ≡ slice_get xs p
numbered-suc xs k p e = let f : k ≡ suc p = omega arith in ap (numbered xs) f

pub numbered_none : {X : Type 0} (xs : List X) (k : ℕ) → (k ≡ 0) ⊎ (length xs < k) → numbered xs k ≡ None
numbered_none xs zero h = refl
numbered_none xs (suc k) h = let past : length xs ≤ k = ⊎_elim (λ (e : suc k ≡ 0). omega arith) (λ (l : length xs < suc k). omega arith) h in slice_get_past xs k past

pub numbered-map : {X Y : Type 0} (f : X → Y) (xs : List X) (k : ℕ) → numbered (map f xs) k ≡ option_map f (numbered xs k)
numbered-map f xs zero = refl
numbered-map f xs (suc k) = slice_get-map f xs k

-- the member at a place
pub numbered_read : {X : Type 0} (xs : List X) (k p : ℕ) (x : X) → k ≡ p + 1 → p < length xs → x ≡ get_or xs p x → numbered xs k ≡ Some x
numbered_read xs k p x e h r = numbered-suc xs k p e ∙ slice_get_read xs (length xs) p x refl h r

pub numbered-map_read : {X Y : Type 0} (f : X → Y) (xs : List X) (k p : ℕ) (x : X) →
    k ≡ p + 1 → p < length xs → x ≡ get_or xs p x → numbered (map f xs) k ≡ Some (f x)
numbered-map_read f xs k p x e h r = numbered-map f xs k ∙ ap (option_map f) (numbered_read xs k p x e h r)

pub numbered-map_none : {X Y : Type 0} (f : X → Y) (xs : List X) (k : ℕ) → (k ≡ 0) ⊎ (length xs < k) → numbered (map f xs) k ≡ None
numbered-map_none f xs k h = numbered-map f xs k ∙ ap (option_map f) (numbered_none xs k h)

-- a member changed in the list is changed in its image
pub map_changed : {X Y : Type 0} (f : X → Y) (g : Y → Y) (xs : List X) (k p : ℕ) (x y : X) →
    k ≡ p + 1 → p < length xs → x ≡ get_or xs p x → f y ≡ g (f x) →
    map f (set xs p y) ≡ with_member (map f xs) k (option_map g (numbered (map f xs) k))
map_changed f g xs k p x y e h r w =
    let q : k - 1 ≡ p = omega arith in
    map-set f xs p y ∙ ap (set (map f xs) p) w ∙ ap (λ i. set (map f xs) i (g (f x))) (sym q)
    ∙ sym (ap (λ o. with_member (map f xs) k (option_map g o)) (numbered-map_read f xs k p x e h r))
