-- WHAT IS FREED ONCE BY A HOST'S COLLECTION is freed once in all that was told, since a queue leaves none out.
use Rattle.std.proofs.Common.{◌≡◌, List, false, subst}
use Rattle.cc_model.specs.declared.item.Item.{Item}
use Rattle.cc_model.specs.Telling.{Tells}
use Rattle.cc_host.specs.Hosted.{Hosted}
use Rattle.cc_host.specs.Lasting.{TellsFreedOnce}
use Rattle.cc_host.specs.Queues.{Queued, telling_of, told_all}
use Rattle.cc_host.proofs.Room.{told-whole}

-- room may have been taken before the call: what waited is the same
module _ (o q p : Queued) (waited : q.items ≡ o.items) (before : q.broken ≡ false) (after : p.broken ≡ false) where
  all : (is : List Item) → Tells (telling_of q) (telling_of p) is → Tells (told_all o.items) (told_all p.items) is
  all is t = subst (λ items. Tells (told_all items) (told_all p.items) is) waited (told-whole q p is before after t)

  pub once-whole : (h k : Hosted) → TellsFreedOnce h k (telling_of q) (telling_of p) → TellsFreedOnce h k (told_all o.items) (told_all p.items)
  once-whole h k t = record { events = t.events; told = all _ t.told; frees = t.frees }
