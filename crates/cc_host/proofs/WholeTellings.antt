-- WHAT IS PROMISED OF WHAT A CALL TELLS is promised of all that waits, since a host's queue leaves none out.
use Rattle.std.proofs.Common.{◌≡◌, ℕ, List, false, subst, ⊎_elim, inl, inr}
use Rattle.cc_names.specs.declared.name.Name.{Name}
use Rattle.cc_model.specs.declared.item.Item.{Item}
use Rattle.cc_model.specs.End.{Progress, went_on, at_end, refused}
use Rattle.cc_model.specs.Collecting.{Machine, UnitsDone}
use Rattle.cc_model.specs.Heap.{Heap}
use Rattle.cc_model.specs.Telling.{Tells}
use Rattle.cc_collector.specs.declared.collector.Ended.{Ended}
use Rattle.cc_collector.specs.Collected.{IsCollected, IsMarkedOn, IsSliced, IsSwept, LedTo}
use Rattle.cc_host.specs.Calls.{Collects, TellsFreed}
use Rattle.cc_host.specs.Hosted.{Hosted}
use Rattle.cc_host.specs.Missing.{Takes, TakesBySlice, TellsAbandoned, TellsUnlinked}
use Rattle.cc_host.specs.Next.{TellsEnded}
use Rattle.cc_host.specs.Queues.{Queued, telling_of, told_all}
use Rattle.cc_host.proofs.Room.{told-whole}

-- room may have been taken before the call: what waited is the same
module _ (o q p : Queued) (waited : q.items ≡ o.items) (before : q.broken ≡ false) (after : p.broken ≡ false) where
  all : (is : List Item) → Tells (telling_of q) (telling_of p) is → Tells (told_all o.items) (told_all p.items) is
  all is t = subst (λ items. Tells (told_all items) (told_all p.items) is) waited (told-whole q p is before after t)

  -- what is freed
  pub freed-whole : (h k : Hosted) → TellsFreed h k (telling_of q) (telling_of p) → TellsFreed h k (told_all o.items) (told_all p.items)
  freed-whole h k t = record { numbers = t.numbers; told = all _ t.told; left = t.left }

  -- what has ended
  ended-whole : (k : Heap) → TellsEnded k (telling_of q) (telling_of p) → TellsEnded k (told_all o.items) (told_all p.items)
  unfolding TellsEnded
  ended-whole k t = (t.0, all _ t.1, t.2)

  -- what a collection tells
  pub collects-whole : (h k : Hosted) → Collects h k (telling_of q) (telling_of p) → Collects h k (told_all o.items) (told_all p.items)
  collects-whole h k c = record {
    stands = c.stands;
    keeps = c.keeps;
    tells = record { events = c.tells.events; told = all _ c.tells.told; unreached = c.tells.unreached };
    used = c.used;
    unlinked = c.unlinked;
    ends = λ g. ended-whole k.heaps.heap (c.ends g);
    keys = c.keys;
    mark = c.mark;
  }

  led-whole : (d : UnitsDone) (m n : Machine) (came_to : Progress) → LedTo d m n came_to (telling_of q) (telling_of p) → LedTo d m n came_to (told_all o.items) (told_all p.items)
  led-whole d m n came_to l = record { same = l.same; came_to = l.came_to; told = all _ l.told; spares = l.spares; unreached = l.unreached }

  pub sliced-whole : (units : ℕ) (m n : Machine) (came_to : Progress) (i j : ℕ) → IsSliced units m n came_to i j (telling_of q) (telling_of p) →
      IsSliced units m n came_to i j (told_all o.items) (told_all p.items)
  sliced-whole units m n came_to i j s = record { memory = s.memory; led = led-whole _ m n came_to s.led; counted = s.counted }

  pub collected-whole : (m n : Machine) (came_to : Progress) → IsCollected m n came_to (telling_of q) (telling_of p) → IsCollected m n came_to (told_all o.items) (told_all p.items)
  collected-whole m n came_to s = record { memory = s.memory; led = led-whole _ m n came_to s.led }

  pub swept-whole : (m n : Machine) → IsSwept m n (telling_of q) (telling_of p) → IsSwept m n (told_all o.items) (told_all p.items)
  swept-whole m n s = record { memory = s.memory; led = led-whole _ m n _ s.led }

  pub marked-whole : (units : ℕ) (m n : Machine) (ended : Ended) (i j : ℕ) → IsMarkedOn units m n ended i j (telling_of q) (telling_of p) →
      IsMarkedOn units m n ended i j (told_all o.items) (told_all p.items)
  marked-whole units m n ended i j s = record { memory = s.memory; led = led-whole _ m n _ s.led; counted = s.counted }

  -- what it takes
  pub unlinked-whole : (ds : List Name) → TellsUnlinked ds (telling_of q) (telling_of p) → TellsUnlinked ds (told_all o.items) (told_all p.items)
  unfolding TellsUnlinked
  unlinked-whole ds t = (t.0, all _ t.1, t.2)

  abandoned-whole : TellsAbandoned (telling_of q) (telling_of p) → TellsAbandoned (told_all o.items) (told_all p.items)
  unfolding TellsAbandoned
  abandoned-whole t = (t.0, all _ t.1)

  pub takes-whole : (ds : List Name) → Takes ds (telling_of q) (telling_of p) → Takes ds (told_all o.items) (told_all p.items)
  unfolding Takes
  takes-whole ds t = ⊎_elim (λ u. inl (unlinked-whole ds u)) (λ a. inr (abandoned-whole a)) t

  pub slice_takes-whole : (ds : List Name) (k : Hosted) (came_to : Progress) → TakesBySlice ds k came_to (telling_of q) (telling_of p) →
      TakesBySlice ds k came_to (told_all o.items) (told_all p.items)
  unfolding TakesBySlice
  slice_takes-whole ds k went_on t = t
  slice_takes-whole ds k at_end t = unlinked-whole ds t
  slice_takes-whole ds k refused t = abandoned-whole t
