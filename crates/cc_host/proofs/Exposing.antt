-- WHAT IS HELD STAYS THERE where natives stand at the same keys, and script objects keep their names.
use Rattle.std.proofs.Common.{◌≡◌, ℕ, get_or, Option, Some, None, option_map, refl, sym, ◌∙◌, ap, subst, IsSome}
use Rattle.cc_names.specs.declared.name.Name.{Name}
use Rattle.cc_names.specs.Names.{native}
use Rattle.cc_model.specs.Heap.{Heap, native_at}
use Rattle.cc_model.specs.End.{slots_now}
use Rattle.cc_counted.specs.declared.held.Held.{Held}
use Rattle.cc_counted.specs.declared.held.Held.TheVariants as held
use Rattle.cc_script.specs.Objects.{name_at}
use Rattle.cc_heaps.specs.Keyed.{Keyed}
use Rattle.cc_heaps.specs.Changes.{IsThere, held_name}
use Rattle.cc_heaps.proofs.ObjectsKept.{there-named, named-there}
use Rattle.cc_host.specs.Exposing.{Exposes}
use Rattle.cc_host.specs.Changes.{IsReady, IsTried, StaysThere}
use Rattle.cc_host.proofs.Exposed.{Exposes-same, exposed-change}

-- the same natives at the same keys, and script objects that keep their names
stays-from : (v w : Keyed) → w.keys ≡ v.keys → ((key : ℕ) (x : Name) → name_at v.scripts key ≡ Some x → name_at w.scripts key ≡ Some x) → StaysThere v w
stays-from v w keys names = record { there = there; same = same }
  where
    there : (x : Option Held) → IsThere v x → IsThere w x
    there None t = tt
    there (Some (held.Native key)) t = subst (λ ks. IsSome (get_or ks key.0 None)) (sym keys) t
    there (Some (held.Script key)) t = let n = there-named v.scripts key.0 t in named-there w.scripts key.0 n.0 (names key.0 n.0 n.1)

    same : (x : Option Held) → IsThere v x → held_name w x ≡ held_name v x
    same None t = refl
    same (Some (held.Native key)) t = ap (λ ks. option_map native (get_or ks key.0 None)) keys
    same (Some (held.Script key)) t = let n = there-named v.scripts key.0 t in names key.0 n.0 n.1 ∙ sym n.1

-- the same natives and the same script objects at the same keys
pub stays-same : (v w : Keyed) → w.keys ≡ v.keys → w.scripts ≡ v.scripts → StaysThere v w
stays-same v w keys scripts = stays-from v w keys (λ key x e. ap (λ os. name_at os key) scripts ∙ e)

-- nothing is exposed
pub same-change : {p : Type 0} (v : Keyed) → IsReady v → IsTried p v v
same-change v ready = exposed-change v v (Exposes-same v) ready

-- SOMETHING IS EXPOSED
module _ {p : Type 0} (v w : Keyed) (e : Exposes p v w) where
  pub exposed-stays : StaysThere v w
  exposed-stays = stays-from v w e.keys (λ key x at. (e.same key (named-there v.scripts key x at)).name ∙ at)

  pub exposed-slots : (k : ℕ) → slots_now (native_at w.heap k) ≡ slots_now (native_at v.heap k)
  exposed-slots k = ap (λ (h : Heap). slots_now (native_at h k)) e.rest
