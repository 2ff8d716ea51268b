-- References taken and given up, and the cascade of deletions.
use Rattle.std.specs.Prelude.{ℕ, zero, suc, ◌+◌, ◌-◌, not, ◌==◌, List, [], ◌∷◌, ◌++◌, length, filter, flat_map, Option, Some, None}
use Rattle.cc_names.specs.declared.name.Name.{Name}
use Rattle.cc_names.specs.declared.name.Name.TheVariants as name
use Rattle.cc_names.specs.Names.{native, natives_in}
use Rattle.cc_model.specs.declared.item.Event.{Event}
use Rattle.cc_model.specs.declared.item.Event.TheVariants.{Freed}
use Rattle.cc_model.specs.Slots.{contents}
use Rattle.cc_model.specs.Heap.{Heap, HeapNative, Outcome, outcome_of, silently, native_at, change_native, suspect, touch, forget}

-- one more reference to native k, which then stands in the buffer without the purple mark
abbrev pub add_ref : Heap → ℕ → Heap
add_ref h k = touch (change_native h k (λ n. record n { count = n.count + 1 })) k

abbrev pub lower : Heap → ℕ → Heap
lower h k = change_native h k (λ n. record n { count = n.count - 1 })

-- the heaps while natives are deleted, the numbers of those that wait, and what was told
pub record Draining : Type 0 where
  pub heap : Heap
  pub queue : List ℕ
  pub events : List Event

abbrev pub draining_at : Heap → List ℕ → List Event → Draining
draining_at h queue events = record { heap = h; queue = queue; events = events }

-- the count of native k falls to a number other than zero: it is suspected
abbrev pub lowered : Draining → ℕ → Draining
lowered d k = record d { heap = suspect (lower d.heap k) k }

-- it falls to zero: the native leaves the buffer and goes to the end of the queue
abbrev pub queued : Draining → ℕ → Draining
queued d k = record d { heap = forget (lower d.heap k) k; queue = d.queue ++ k ∷ [] }

-- by the count before: a count of zero has nothing to give up
abbrev pub fallen : Draining → ℕ → ℕ → Draining
fallen d k zero = d
fallen d k (suc zero) = queued d k
fallen d k (suc (suc c)) = lowered d k

abbrev pub given_up : Draining → ℕ → Option HeapNative → Draining
given_up d k None = d
given_up d k (Some n) = fallen d k n.count

-- one reference to native k given up
abbrev pub give_up : Draining → ℕ → Draining
give_up d k = given_up d k (native_at d.heap k)

abbrev pub give_up_each : Draining → List ℕ → Draining
give_up_each d [] = d
give_up_each d (k ∷ ks) = give_up_each (give_up d k) ks

-- native k is no more
abbrev pub removed : Heap → ℕ → Heap
removed h k = record h { natives = filter (λ n. not (n.number == k)) h.natives }

-- what a native that dies gives up: of its places only slots hold natives, and these alone are counted
abbrev pub natives_of_slots : Option HeapNative → List ℕ
natives_of_slots None = []
natives_of_slots (Some n) = flat_map natives_in (contents n.slots)

-- native k is told and leaves the queue, whose later numbers are ks
abbrev pub told_free : Draining → ℕ → List ℕ → Draining
told_free d k ks = record d { queue = ks; events = d.events ++ Freed (native k) ∷ [] }

abbrev pub without_native : Draining → ℕ → Draining
without_native d k = record d { heap = removed d.heap k }

-- the front of the queue is told, its slots are given up in rising order, and it leaves the heap
abbrev pub free_front : Draining → ℕ → List ℕ → Draining
free_front d k ks = without_native (give_up_each (told_free d k ks) (natives_of_slots (native_at d.heap k))) k

-- until the queue is empty, in at most so many steps
unfoldable pub drain : ℕ → Draining → Draining
drain zero d = d
drain (suc n) d = elim d.queue [ [] ↦ d | k ∷ ks ↦ drain n (free_front d k ks) ]

abbrev pub at_rest : Heap → Draining
at_rest h = draining_at h [] []

-- one reference to native k given up, and the queue drained: as many steps as natives suffice
unfoldable pub drained : Heap → ℕ → Draining
drained h k = drain (length h.natives) (give_up (at_rest h) k)

-- THE CASCADE: what giving up one reference to native k does
abbrev pub cascade : Heap → ℕ → Outcome
cascade h k = outcome_of (drained h k).heap (drained h k).events

-- a reference to what a register or slot is to hold: natives alone are counted
abbrev pub take_up : Heap → Option Name → Heap
take_up h (Some (name.Native k)) = add_ref h k.0
take_up h (Some (name.Script k)) = h
take_up h (Some (name.Reflector k)) = h
take_up h None = h

-- and what it held given up
abbrev pub let_go : Heap → Option Name → Outcome
let_go h (Some (name.Native k)) = cascade h k.0
let_go h (Some (name.Script k)) = silently h
let_go h (Some (name.Reflector k)) = silently h
let_go h None = silently h
