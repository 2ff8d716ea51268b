-- WHAT SETTLING TELLS is told to all that waits: between its collections nothing was left out either.
use Rattle.std.proofs.Common.{◌≡◌, Bool, true, false, List, ◌++◌, map, Some, refl, sym, ap, ◌∙◌, subst, arith}
use Rattle.std.proofs.lemmas.Bool.{false≢true}
use Rattle.cc_model.specs.declared.item.Item.{Item}
use Rattle.cc_model.specs.declared.item.Item.TheVariants.{Event as of_event}
use Rattle.cc_model.specs.End.{Progress, at_end, refused}
use Rattle.cc_model.specs.Collecting.{Machine, UnitsDone, collect, gc}
use Rattle.cc_model.specs.Telling.{Telling, Tells, items_after}
use Rattle.cc_laws_run.specs.Memory.{with_memory}
use Rattle.cc_collector.specs.Collected.{LedTo}
use Rattle.cc_collector.specs.Settled.{IsCollectedAfterGc, IsSettled, IsUnsettled}
use Rattle.cc_host.specs.Queues.{Queued, telling_of, told_all}

-- A RECEIVER KEEPS EVERY ITEM, and these were told
record HasAll (t : Telling) (xs : List Item) : Type 0 where
  whole : t.broken ≡ false
  items : t.items ≡ Some xs

-- one that is whole afterwards was whole before
whole-before : (t u : Telling) (is : List Item) → u.broken ≡ false → Tells t u is → t.broken ≡ false
whole-before t u is whole s = go t.broken refl
  where
    go : (b : Bool) → t.broken ≡ b → t.broken ≡ false
    go false e = e
    go true e = sym (ap (λ (v : Telling). v.broken) (s.stays e)) ∙ whole

has-all : (t u : Telling) (xs is : List Item) → HasAll t xs → u.broken ≡ false → Tells t u is → HasAll u (xs ++ is)
has-all t u xs is a whole s = record { whole = whole; items = (s.whole whole).kept ∙ ap (items_after is) a.items }

-- a receiver that keeps every item is told more
told-more : (xs is : List Item) → Tells (told_all xs) (told_all (xs ++ is)) is
told-more xs is = record {
  sink = refl;
  stays = λ b. absurd (false≢true b);
  whole = λ b. record { grown = tt; faults = refl; summed = refl; kept = refl };
  broke = λ b c. absurd (false≢true c);
}

led-more : (d : UnitsDone) (m n : Machine) (came_to : Progress) (t u : Telling) (xs : List Item) → LedTo d m n came_to t u →
    LedTo d m n came_to (told_all xs) (told_all (xs ++ map of_event d.events))
led-more d m n came_to t u xs l = record { same = l.same; came_to = l.came_to; told = told-more xs _; spares = l.spares; unreached = l.unreached }

-- the items of what is known
some-items : (xs ys : List Item) → Some xs ≡ Some ys → xs ≡ ys
some-items xs ys e = grind arith

-- `gc` and a collection
gc_events : (m : Machine) → List Bool → List Item
gc_events m memory = map of_event (gc (with_memory m memory)).events

collect_events : (m : Machine) → List Bool → List Item
collect_events m memory = map of_event (collect (with_memory m memory)).events

-- all that it told
all-of : (m n : Machine) (p : Progress) (t u : Telling) → IsCollectedAfterGc m n p t u → List Item → List Item
all-of m n p t u s xs = (xs ++ gc_events m s.swept.memory) ++ collect_events s.first s.collected.memory

after_gc-more : (m n : Machine) (p : Progress) (t u : Telling) (xs : List Item) (s : IsCollectedAfterGc m n p t u) →
    IsCollectedAfterGc m n p (told_all xs) (told_all (all-of m n p t u s xs))
unfolding gc_events collect_events all-of
after_gc-more m n p t u xs s = record {
  first = s.first;
  told_first = told_all (xs ++ gc_events m s.swept.memory);
  swept = record { memory = s.swept.memory; led = led-more _ m s.first _ t s.told_first xs s.swept.led };
  collected = record { memory = s.collected.memory; led = led-more _ s.first n p s.told_first u (xs ++ gc_events m s.swept.memory) s.collected.led };
}

after_gc-all : (m n : Machine) (p : Progress) (t u : Telling) (xs : List Item) (s : IsCollectedAfterGc m n p t u) → HasAll t xs → u.broken ≡ false →
    HasAll u (all-of m n p t u s xs)
unfolding gc_events collect_events all-of
after_gc-all m n p t u xs s a whole =
    let w = whole-before s.told_first u _ whole s.collected.led.told in
    has-all s.told_first u _ _ (has-all t s.told_first xs _ a w s.swept.led.told) whole s.collected.led.told

module _ (o q p : Queued) (waited : q.items ≡ o.items) (before : q.broken ≡ false) (after : p.broken ≡ false) where
  all-before : HasAll (telling_of q) o.items
  all-before = record { whole = before; items = ap (λ (l : List Item). Some l) waited }

  -- SETTLING that was refused memory
  pub unsettled-whole : (m n : Machine) → IsUnsettled m n (telling_of q) (telling_of p) → IsUnsettled m n (told_all o.items) (told_all p.items)
  unsettled-whole m n s =
      let a = after_gc-all m n refused (telling_of q) (telling_of p) o.items s all-before after in
      subst (λ ys. IsUnsettled m n (told_all o.items) (told_all ys)) (sym (some-items p.items _ a.items))
      (after_gc-more m n refused (telling_of q) (telling_of p) o.items s)

  -- SETTLING
  pub settled-whole : (m n : Machine) → IsSettled m n (telling_of q) (telling_of p) → IsSettled m n (told_all o.items) (told_all p.items)
  unfolding gc_events
  settled-whole m n s =
      let w = whole-before s.told_second (telling_of p) _ after s.swept.led.told in
      let second = all-of m s.second at_end (telling_of q) s.told_second s.collected o.items in
      let a = after_gc-all m s.second at_end (telling_of q) s.told_second o.items s.collected all-before w in
      let b = has-all s.told_second (telling_of p) second _ a after s.swept.led.told in
      record {
        second = s.second;
        told_second = told_all second;
        collected = after_gc-more m s.second at_end (telling_of q) s.told_second o.items s.collected;
        swept = record {
          memory = s.swept.memory;
          led = subst (λ ys. LedTo (gc (with_memory s.second s.swept.memory)) s.second n (gc (with_memory s.second s.swept.memory)).progress (told_all second) (told_all ys))
              (sym (some-items p.items _ b.items)) (led-more _ s.second n _ s.told_second (telling_of p) second s.swept.led);
        };
      }
