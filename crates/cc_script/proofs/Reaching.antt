-- WHAT IS REACHED OVER SLOTS: edges are slots, and where every slot holds what is there, all that is reached is there.
use Rattle.std.proofs.Common.{◌≡◌, ℕ, List, [], ◌∷◌, Option, Some, None, refl, sym, ap, subst, inl, inr, ⊎_elim, arith}
use Rattle.std.specs.List.{flat_map}
use Rattle.std.specs.Option.{option_to_list}
use Rattle.cc_lists.specs.Members.{Among}
use Rattle.cc_lists.proofs.Members.{Among-map, Among-map_cases, Among-flat_map, Among-flat_map_cases}
use Rattle.cc_lists.proofs.Least.{derived-within, derive-root, derive-along}
use Rattle.cc_script.specs.Objects.{Object, places_of}
use Rattle.cc_script.specs.Walking.{slot_edges, edges, IsReachedOverSlots}

-- what slots hold
pub held-among : {X : Type 0} (slots : List (Option X)) (x : X) → Among x (flat_map option_to_list slots) → Among (Some x) slots
held-among [] x m = m
held-among (None ∷ slots) x m = inr (held-among slots x m)
held-among (Some y ∷ slots) x m = ⊎_elim (λ e. inl (ap (λ z. Some z) e)) (λ t. inr (held-among slots x t)) m

pub among-held : {X : Type 0} (slots : List (Option X)) (x : X) → Among (Some x) slots → Among x (flat_map option_to_list slots)
among-held slots x m = Among-flat_map option_to_list (Some x) x slots m (inl refl)

-- an edge is a slot
pub slot-edge : (objects : List Object) (o : Object) (q : ℕ) → Among o objects → Among (Some q) (places_of o) → Among (o.key, q) (edges objects)
slot-edge objects o q m s = Among-flat_map slot_edges o (o.key, q) objects m (Among-map (λ (r : ℕ). (o.key, r)) q (flat_map option_to_list (places_of o)) (among-held (places_of o) q s))

pub edge-slot : (objects : List Object) (x y : ℕ) → Among (x, y) (edges objects) → (o : Object) × Among o objects × (o.key ≡ x) × Among (Some y) (places_of o)
edge-slot objects x y m = grind (arith, Among-flat_map_cases, Among-map_cases, held-among)

-- the start is reached, and what the slots of a reached object hold
pub reached-root : (objects : List Object) (root : ℕ) → IsReachedOverSlots objects (root ∷ []) root
reached-root objects root = derive-root (root ∷ []) (edges objects) [] root (inl refl)

pub reached-slot : (objects : List Object) (root : ℕ) (o : Object) (q : ℕ) → Among o objects → Among (Some q) (places_of o) →
    IsReachedOverSlots objects (root ∷ []) o.key → IsReachedOverSlots objects (root ∷ []) q
reached-slot objects root o q m s r = derive-along (root ∷ []) (edges objects) [] o.key q (slot-edge objects o q m s) r

-- induction over what is reached
pub reached-within : (objects : List Object) (root : ℕ) (P : ℕ → Type 0) → P root →
    ((o : Object) (q : ℕ) → Among o objects → Among (Some q) (places_of o) → P o.key → P q) →
    (k : ℕ) → IsReachedOverSlots objects (root ∷ []) k → P k
reached-within objects root P first step = derived-within (root ∷ []) (edges objects) [] P
    (λ x m. ⊎_elim (λ e. subst P e first) (λ n. absurd n) m)
    (λ x y m h. let k = edge-slot objects x y m in step k.0 y k.1 k.3 (subst P (sym k.2) h))
    (λ ps v m. absurd m)
