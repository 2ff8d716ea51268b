-- WHAT A CALL OF A HOST COMES TO where it changes the heaps alone: it is quiet, and what comes is what they let come.
use Rattle.std.proofs.Common.{◌≡◌, ℕ, List, IfOk, OnErr, Result, refl, subst}
use Rattle.cc_model.specs.declared.item.Item.{Item}
use Rattle.cc_heaps.specs.Leaving.{NothingLeft}
use Rattle.cc_host.specs.Calls.{Comes, NoneComes}
use Rattle.cc_host.specs.Hosted.{Hosted}
use Rattle.cc_host.specs.Places.{KeepsPlaces}
use Rattle.cc_host.specs.declared.object.Object.{Object}
use Rattle.cc_host.specs.declared.stop.Stop.{Stop}
use Rattle.cc_host.specs.Hosts.{Quiet, State}

module _ (v s : State) (k : Hosted) (is : v ≡ s) where
  -- nothing leaves, and places stay; what was told stays also where room was taken
  pub quietly-told : (items : List Item) (room : ℕ) → items ≡ v.told → NothingLeft v.host.heaps.heap k.heaps.heap → KeepsPlaces v.host.heaps.heap k.heaps.heap → Quiet s (record v { host = k; told = items; room = room })
  quietly-told items room same left places = subst (λ t. Quiet t (record v { host = k; told = items; room = room })) is (record { left = left; told = same; books = refl; steps = refl; places = places })

  pub quietly : NothingLeft v.host.heaps.heap k.heaps.heap → KeepsPlaces v.host.heaps.heap k.heaps.heap → Quiet s (record v { host = k })
  quietly left places = quietly-told v.told v.room refl left places

  -- what comes
  pub none-comes : NoneComes v.host k → NoneComes s.host k
  none-comes none = subst (λ (t : State). NoneComes t.host k) is none

  pub one-comes : (r : Result Object Stop) → IfOk r (λ x. Comes x.name v.host k) → IfOk r (λ x. Comes x.name s.host k)
  one-comes r came = subst (λ (t : State). IfOk r (λ x. Comes x.name t.host k)) is came

  pub none-comes-refused : (r : Result Object Stop) → OnErr r (NoneComes v.host k) → OnErr r (NoneComes s.host k)
  none-comes-refused r none = subst (λ (t : State). OnErr r (NoneComes t.host k)) is none
