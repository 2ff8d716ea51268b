-- WHAT IS DONE TO THE HEAPS TELLS NO ABANDONMENT: commands, ends of collections and script collections.
use Rattle.std.proofs.Common.{◌≡◌, ℕ, suc, ◌+◌, List, [], ◌∷◌, ◌++◌, map, length, Option, Some, None, refl, sym, subst, arith, count_by}
use Rattle.cc_lists.specs.Members.{Among}
use Rattle.cc_lists.proofs.Counting.{count_by-append, count_by-some}
use Rattle.cc_names.specs.declared.name.Name.{Name}
use Rattle.cc_names.specs.declared.register.Reg.TheVariants.{N}
use Rattle.cc_names.specs.Names.{native}
use Rattle.cc_model.specs.declared.command.Command.{Command}
use Rattle.cc_model.specs.declared.item.Event.{Event}
use Rattle.cc_model.specs.declared.item.Event.TheVariants.{Unlinked, Freed, Abandoned}
use Rattle.cc_model.specs.Slots.{Slots}
use Rattle.cc_model.specs.Checks.{slot_at}
use Rattle.cc_model.specs.Deeds.{Deed, deed_of}
use Rattle.cc_model.specs.Heap.{Heap, Outcome, silently, after, native_at, register, objects_of, set_register, set_slot}
use Rattle.cc_model.specs.Cascade.{cascade, take_up, let_go}
use Rattle.cc_model.specs.Colours.{marked}
use Rattle.cc_model.specs.Sweep.{unmarked, without_dead_entries, without_script, let_native_go, sweep_one, sweep_each, sweep, collect_scripts}
use Rattle.cc_model.specs.Effects.{effects, hold_native, store_native, move_slot, make_native, with_native, done_in}
use Rattle.cc_model.specs.End.{root_each, empty_slot, empty_each, slots_now, unlink, unlink_each, unroot_each, take_away}
use Rattle.cc_model.specs.Lawful.{is_abandonment}
use Rattle.cc_laws_heap.proofs.Freed.{freed_event}
use Rattle.cc_laws_heap.proofs.CascadeTakesOut.{TakesOut-cascade, TakesOut-let_go}
use Rattle.cc_laws_heap.proofs.RoundsEnd.{rounds-keep}

-- how many abandonments are told
abbrev pub abandonments : List Event → ℕ
abandonments es = count_by is_abandonment es

-- none is told
abbrev pub TellsNone : List Event → Type 0
TellsNone es = abandonments es ≡ 0

-- Where none is counted, none is there.
pub none-abandoned : (es : List Event) → TellsNone es → ¬ (Among Abandoned es)
none-abandoned es none m = omega (arith, none, count_by-some is_abandonment Abandoned es m refl)

-- abandonments of two lists add up
pub abandonments-append : (xs ys : List Event) → abandonments (xs ++ ys) ≡ abandonments xs + abandonments ys
abandonments-append xs ys = count_by-append is_abandonment xs ys

-- where two lists tell none, both together do not
pub none-append : (xs ys : List Event) → TellsNone xs → TellsNone ys → TellsNone (xs ++ ys)
none-append xs ys a b = omega (arith, abandonments-append xs ys, a, b)

-- Cascades

-- free lines are none
freed-none : (ks : List ℕ) → TellsNone (map freed_event ks)
freed-none [] = refl
freed-none (k ∷ ks) = none-append (freed_event k ∷ []) (map freed_event ks) refl (freed-none ks)

-- A cascade tells none.
pub cascade-none : (h : Heap) (k : ℕ) → TellsNone (cascade h k).events
cascade-none h k = let t = TakesOut-cascade h k in subst TellsNone (sym t.1.told) (freed-none t.0)

-- nor does the content of a register or slot given up
let_go-none : (h : Heap) (x : Option Name) → TellsNone (let_go h x).events
let_go-none h x = let t = TakesOut-let_go h x in subst TellsNone (sym t.1.told) (freed-none t.0)

-- Ends of collections

-- slots emptied tell none
empty_each-none : (k i : ℕ) (xs : Slots) (o : Outcome) → TellsNone o.events → TellsNone (empty_each k i xs o).events
empty_each-none k i [] o none = none
empty_each-none k i (x ∷ xs) o none = empty_each-none k (suc i) xs (after o.events (empty_slot o.heap k i x))
    (none-append o.events (empty_slot o.heap k i x).events none (let_go-none (set_slot o.heap (Some (native k)) i None) x))

-- a native unlinked tells none
unlink-none : (h : Heap) (k : ℕ) → TellsNone (unlink h k).events
unfolding unlink
unlink-none h k = none-append (Unlinked (native k) ∷ []) (empty_each k 0 (slots_now (native_at h k)) (silently h)).events refl
    (empty_each-none k 0 (slots_now (native_at h k)) (silently h) refl)

-- nor do several
unlink_each-none : (ks : List ℕ) (o : Outcome) → TellsNone o.events → TellsNone (unlink_each ks o).events
unlink_each-none [] o none = none
unlink_each-none (k ∷ ks) o none = unlink_each-none ks (after o.events (unlink o.heap k))
    (none-append o.events (unlink o.heap k).events none (unlink-none o.heap k))

-- nor do natives unrooted
unroot_each-none : (ks : List ℕ) (o : Outcome) → TellsNone o.events → TellsNone (unroot_each ks o).events
unroot_each-none [] o none = none
unroot_each-none (k ∷ ks) o none = unroot_each-none ks (after o.events (cascade o.heap k))
    (none-append o.events (cascade o.heap k).events none (cascade-none o.heap k))

-- The end of a collection tells none.
pub take_away-none : (ks : List ℕ) (h : Heap) → TellsNone (take_away ks h).events
unfolding take_away
take_away-none ks h = unroot_each-none ks (unlink_each ks (silently (root_each ks h)))
    (unlink_each-none ks (silently (root_each ks h)) refl)

-- Script collections

-- a reflector that goes tells none
let_native_go-none : (h : Heap) (x : Name) → TellsNone (let_native_go h x).events
let_native_go-none h x = grind (arith, cascade-none)

-- nor do objects swept
sweep_each-none : (xs : List Name) (o : Outcome) → TellsNone o.events → TellsNone (sweep_each xs o).events
sweep_each-none [] o none = none
sweep_each-none (x ∷ xs) o none = sweep_each-none xs (after o.events (sweep_one o.heap x))
    (none-append o.events (sweep_one o.heap x).events none
    (none-append (Freed x ∷ []) (let_native_go (without_script o.heap x) x).events refl (let_native_go-none (without_script o.heap x) x)))

-- nor does a sweep
pub sweep-none : (h : Heap) → TellsNone (sweep h).events
unfolding sweep
sweep-none h = sweep_each-none (unmarked h) (silently (without_dead_entries (unmarked h) h)) refl

-- A script collection tells none.
pub collect_scripts-none : (h : Heap) → TellsNone (collect_scripts h).events
unfolding collect_scripts
collect_scripts-none h = rounds-keep (λ o. TellsNone o.events)
    (λ o none. none-append o.events (sweep (marked o.heap)).events none (sweep-none (marked o.heap)))
    (suc (length h.scripts)) (silently h) refl

-- Commands

-- what comes into a native register tells none
pub hold_native-none : (h : Heap) (d : ℕ) (x : Option Name) → TellsNone (hold_native h d x).events
unfolding hold_native
hold_native-none h d x = let_go-none (set_register (take_up h x) (N d) x) (register (take_up h x) (N d))

-- nor what comes into a slot of a native
store_native-none : (h : Heap) (d i : ℕ) (x : Option Name) → TellsNone (store_native h d i x).events
unfolding store_native
store_native-none h d i x = let_go-none (set_slot (take_up h x) (register (take_up h x) (N d)) i x) (slot_at (objects_of (take_up h x)) (N d) i)

-- nor what a slot holds moved into another
move_slot-none : (h : Heap) (d i s j : ℕ) → TellsNone (move_slot h d i s j).events
unfolding move_slot
move_slot-none h d i s j = grind (arith, let_go-none)

-- nor does a native made
make_native-none : (h : Heap) (d n : ℕ) → TellsNone (make_native h d n).events
unfolding make_native
make_native-none h d n = let_go-none (set_register (with_native h n) (N d) (Some (native (h.natives_made + 1)))) (register (with_native h n) (N d))

-- A deed tells none.
done_in-none : (h : Heap) (d : Deed) → TellsNone (done_in h d).events
unfolding done_in
done_in-none h d = grind (arith, make_native-none, hold_native-none, store_native-none, move_slot-none)

-- A command tells none.
pub effects-none : (h : Heap) (c : Command) → TellsNone (effects h c).events
unfolding effects
effects-none h c = done_in-none h (deed_of (objects_of h) c)
