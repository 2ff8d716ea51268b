-- THE WHITE NATIVES UNROOTED ONE AFTER ANOTHER: those that are left are rooted.
use Rattle.std.proofs.Common.{◌≡◌, ℕ, ◌<◌, List, ◌∷◌, length, Option, Some, None, refl, sym, ◌∙◌, ap, subst}
use Rattle.cc_model.specs.Telling.{Telling, TellsEvents}
use Rattle.cc_model.specs.Cascade.{cascade}
use Rattle.cc_model.specs.End.{unroot_each}
use Rattle.cc_laws_heap.proofs.Face.{Leave-frees, cascade-frees, cascade-sound}
use Rattle.cc_graph.specs.Shown.{Shown}
use Rattle.cc_heaps.specs.Keyed.{Keyed, IsInOrder, the_number, left_with}
use Rattle.cc_unlink.specs.Whites.{whites_of, whites_above}
use Rattle.cc_unlink.specs.Passes.{IsAt, number_in}
use Rattle.cc_unlink.specs.declared.ends.White.{White}
use Rattle.cc_heaps.specs.Holders.{first_of}
use Rattle.cc_unlink.proofs.Passing.{at-number, whites_from, whites_from-start, whites_from-next, IsPassing, IsPassing-start, IsPassing-next, fewer}

-- between two steps: those that are left are rooted
pub record IsUnrooting (g : Shown) (first v : Keyed) (next : Option White) (before now : Telling) : Type 0 where
  pub order : IsInOrder (whites_from g v next) v
  pub pass : IsPassing unroot_each g first v next before now

-- at the begin
pub IsUnrooting-start : (g : Shown) (v : Keyed) (next : Option White) (now : Telling) → IsInOrder (whites_of g v.heap) v →
    number_in next ≡ first_of (whites_above g v.heap None) → IsAt v next → IsUnrooting g v v next now now
IsUnrooting-start g v next now order e live =
    let all : whites_from g v next ≡ whites_of g v.heap = whites_from-start g v order.sound.well_formed.rising next e in
    record { order = subst (λ ks. IsInOrder ks v) (sym all) order; pass = IsPassing-start unroot_each g v next now order all live }

module _ {g : Shown} {first v : Keyed} {w : White} {before now : Telling} (i : IsUnrooting g first v (Some w) before now) (next : Option White)
    (e : number_in next ≡ first_of (whites_above g v.heap (Some w.number.0))) where
  -- those that are left
  rest_is : whites_from g v (Some w) ≡ w.number.0 ∷ whites_from g v next
  rest_is = whites_from-next g v i.order.sound.well_formed.rising next w e

  same : the_number v w.key.0 ≡ w.number.0
  same = at-number v w i.pass.live

  -- the next one is owned
  first_owned : IsInOrder (w.number.0 ∷ whites_from g v next) v
  first_owned = subst (λ ks. IsInOrder ks v) rest_is i.order

  pub IsUnrooting-owned : IsInOrder (the_number v w.key.0 ∷ whites_from g v next) v
  IsUnrooting-owned = subst (λ j. IsInOrder (j ∷ whites_from g v next) v) (sym same) first_owned

  -- A STEP: the next one after it was found, and the native is unrooted.
  pub IsUnrooting-next : IsAt v next → {late : Keyed} {later : Telling} → late ≡ left_with v (cascade v.heap (the_number v w.key.0)).heap →
      TellsEvents now later (cascade v.heap (the_number v w.key.0)).events →
      ((owned : List ℕ) → IsInOrder (the_number v w.key.0 ∷ owned) v → IsInOrder owned late) →
      IsUnrooting g first late next before later × (length (whites_from g late next) < length (whites_from g v (Some w)))
  IsUnrooting-next live {late} {later} is tell order =
      let k = w.number.0 in
      let o = cascade v.heap k in
      let ks = whites_from g v next in
      let sound = first_owned.sound in
      let f = cascade-frees ks v.heap k sound in
      let changed : late ≡ left_with v o.heap = is ∙ ap (λ j. left_with v (cascade v.heap j).heap) same in
      let told : TellsEvents now later o.events = subst (λ j. TellsEvents now later (cascade v.heap j).events) same tell in
      let passed = IsPassing-next cascade (λ j js p. refl) i.pass next rest_is live f.0 (Leave-frees v.heap f.0 o f.1) (cascade-sound ks v.heap k sound).owned_there later told in
      subst (λ z. IsUnrooting g first z next before later × (length (whites_from g z next) < length (whites_from g v (Some w)))) (sym changed) (
        record { order = subst (λ js. IsInOrder js (left_with v o.heap)) (sym passed.1) (subst (λ z. IsInOrder ks z) changed (order ks IsUnrooting-owned)); pass = passed.0 },
        fewer rest_is passed.1,
      )
