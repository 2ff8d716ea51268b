-- What is noted of an object's places.
use Rattle.std.proofs.Common.{◌≡◌, ◌≢◌, ℕ, zero, suc, ◌≤◌, Bool, true, false, List, [], ◌∷◌, ◌++◌, length, get_or, Option, Some, None, flat_map, refl, arith}
use Rattle.std.proofs.lemmas.List.{length-append}
use Rattle.cc_names.specs.declared.name.Name.{Name}
use Rattle.cc_model.specs.Units.{is_noted}
use Rattle.cc_model.specs.Heap.{Heap}
use Rattle.cc_model.specs.Slots.{Slots}
use Rattle.cc_builder.specs.BuildSteps.{noted_content}

-- two lists of which one has something have something
pub left-some : {X : Type 0} (xs ys : List X) → xs ≢ [] → xs ++ ys ≢ []
left-some [] ys some e = some refl
left-some (x ∷ xs) ys some e = cc

pub right-some : {X : Type 0} (xs ys : List X) → ys ≢ [] → xs ++ ys ≢ []
right-some [] ys some e = some e
right-some (x ∷ xs) ys some e = cc

-- where something is noted of one place, there is something to note
pub contents-some : (h : Heap) (places : Slots) (i : ℕ) → noted_content h (get_or places i None) ≢ [] → flat_map (noted_content h) places ≢ []
contents-some h [] i some = some
contents-some h (x ∷ places) zero some = left-some (noted_content h x) (flat_map (noted_content h) places) some
contents-some h (x ∷ places) (suc i) some = right-some (noted_content h x) (flat_map (noted_content h) places) (contents-some h places i some)

-- of one place one name is noted at most, so of all places no more names than there are places
noted-once : (h : Heap) (x : Option Name) → length (noted_content h x) ≤ 1
noted-once h None = omega arith
noted-once h (Some x) = go (is_noted h x) refl
  where
    go : (b : Bool) → is_noted h x ≡ b → length (noted_content h (Some x)) ≤ 1
    go true e = rw e (omega arith)
    go false e = rw e (omega arith)

pub contents-few : (h : Heap) (places : Slots) → length (flat_map (noted_content h) places) ≤ length places
contents-few h [] = omega arith
contents-few h (x ∷ places) =
    omega (arith, length-append (noted_content h x) (flat_map (noted_content h) places), noted-once h x, contents-few h places)
