use Rattle.std.proofs.Common.{◌≡◌, ℕ, ◌<◌, List, ◌++◌, length, get_or, Option, Some, None, sym, ◌∙◌, ap, subst}
use Rattle.cc_names.specs.declared.name.Name.{Name}
use Rattle.cc_names.specs.declared.number.NKey.{NKey}
use Rattle.cc_names.specs.Names.{native}
use Rattle.cc_model.specs.Telling.{TellsEvents}
use Rattle.cc_model.specs.Slots.{Slots}
use Rattle.cc_model.specs.Heap.{native_at, set_slot}
use Rattle.cc_model.specs.Cascade.{take_up, let_go}
use Rattle.cc_model.specs.End.{slots_now}
use Rattle.cc_laws_heap.specs.Sound.{numbers_of}
use Rattle.cc_counted.specs.declared.held.Held.{Held}
use Rattle.cc_heaps.specs.Keyed.{Keyed, IsInOrder, the_number, changed_to, left_with}
use Rattle.cc_heaps.specs.Changes.{held_name, stored_in, IsBlackHeld}
use Rattle.cc_heaps.proofs.Leaving.{stored-tells}
use Rattle.cc_heaps.proofs.SlotsHeld.{slots-taken}
use Rattle.cc_heaps.proofs.Content.{held-in}
use Rattle.cc_heaps.proofs.FewCounts.{few-owned}
use Rattle.cc_heaps.proofs.Following.{Follows, held-follows, held-remembers, within-named, held-colours}
use Rattle.cc_heaps.proofs.KeysKept.{KeepsKeys-left}
use Rattle.cc_heaps.proofs.StandingAfter.{native_slot-stands}
use Rattle.cc_heaps.proofs.MarksKept.{marks-left, marks-stay-left}
use Rattle.cc_heaps.proofs.heaps.Heaps.store_native.Given as given
use Rattle.cc_heaps.proofs.heaps.Heaps.store_native.Goals as goal

module _ (v mid last : Keyed) (key : NKey) (i : ℕ) (content held : Option Held) (taken : mid ≡ changed_to v (take_up v.heap (held_name v content))) where
  -- there is room in what was taken up
  within-taken : i < length (slots_now (native_at v.heap (the_number v key.0))) → i < length (slots_now (native_at mid.heap (the_number mid key.0)))
  within-taken within =
      subst (λ (w : Keyed). i < length (slots_now (native_at w.heap (the_number w key.0)))) (sym taken)
      (subst (λ (ss : Slots). i < length ss) (sym (slots-taken v.heap (held_name v content) (the_number v key.0))) within)

  -- the reference that was taken is that of what comes in, by its name then
  taken-owned : (owned : List ℕ) → IsInOrder (numbers_of (held_name v content) ++ owned) mid → IsInOrder (numbers_of (held_name mid content) ++ owned) mid
  taken-owned owned o = subst (λ y. IsInOrder (numbers_of y ++ owned) mid) (sym (ap (λ (w : Keyed). held_name w content) taken)) o

  -- a slot written after the new reference was taken
  abbrev put_in : Keyed → Keyed
  put_in w = changed_to w (set_slot w.heap (Some (native (the_number w key.0))) i (held_name w content))

  abbrev read_in : Keyed → Option Name
  read_in w = get_or (slots_now (native_at w.heap (the_number w key.0))) i None

  module _ (put : last ≡ put_in mid) (read : held_name mid held ≡ read_in mid) where
    stored-is : let_go last.heap (held_name last held) ≡ stored_in v.heap (the_number v key.0) i (held_name v content)
    stored-is =
        ap (λ (w : Keyed). let_go w.heap (held_name w held)) put
        ∙ (ap (let_go (put_in mid).heap) read
        ∙ ap (λ (w : Keyed). let_go (put_in w).heap (read_in w)) taken)

    stored-keyed : left_with last (let_go last.heap (held_name last held)).heap ≡ left_with v (stored_in v.heap (the_number v key.0) i (held_name v content)).heap
    stored-keyed =
        ap (λ o. left_with last o.heap) stored-is
        ∙ (ap (λ (w : Keyed). left_with w (stored_in v.heap (the_number v key.0) i (held_name v content)).heap) put
        ∙ ap (λ (w : Keyed). left_with (put_in w) (stored_in v.heap (the_number v key.0) i (held_name v content)).heap) taken)

pub replace_slot-held-requires-clause-within : goal.replace_slot-held-requires-clause-within
replace_slot-held-requires-clause-within g c =
    let v = c.args.self.now in
    within-taken v c.take_up.new.self v c.args.key c.args.i c.args.content c.args.content c.take_up.ensures.heap (within-named v c.args.key.0 c.args.i c.requires.within)

pub replace_slot-held-requires-clause-order : goal.replace_slot-held-requires-clause-order
replace_slot-held-requires-clause-order g c =
    let v = c.args.self.now in
    let f = c.requires.order in
    (f.0, taken-owned v c.take_up.new.self v c.args.key c.args.i c.args.content c.args.content c.take_up.ensures.heap f.0 (c.take_up.ensures.order f.0 f.1))

pub let_go-requires-clause-order : goal.let_go-requires-clause-order
let_go-requires-clause-order g c =
    let v = c.args.self.now in
    let f = c.requires.order in
    let before = taken-owned v c.take_up.new.self v c.args.key c.args.i c.args.content c.args.content c.take_up.ensures.heap f.0 (c.take_up.ensures.order f.0 f.1) in
    (f.0, c.replace_slot-held.ensures.order f.0 before)

in_order : (g : given.Over) (c : goal.After-let_go g) (owned : List ℕ) → IsInOrder owned c.args.self.now → IsInOrder owned c.let_go.new.self
in_order g c owned o =
    let v = c.args.self.now in
    let before = taken-owned v c.take_up.new.self v c.args.key c.args.i c.args.content c.args.content c.take_up.ensures.heap owned (c.take_up.ensures.order owned o) in
    c.let_go.ensures.order owned (c.replace_slot-held.ensures.order owned before)

pub returns-clause-heap : goal.returns-clause-heap
returns-clause-heap g c =
    c.let_go.ensures.heap
    ∙ stored-keyed c.args.self.now c.take_up.new.self c.replace_slot-held.new.self c.args.key c.args.i c.args.content c.replace_slot-held.result
    c.take_up.ensures.heap c.replace_slot-held.ensures.heap c.replace_slot-held.ensures.held

pub returns-clause-told : goal.returns-clause-told
returns-clause-told g c =
    subst (λ o. TellsEvents (g.N.Notices.telling c.args.out.now) (g.N.Notices.telling c.let_go.new.out) o.events)
    (stored-is c.args.self.now c.take_up.new.self c.replace_slot-held.new.self c.args.key c.args.i c.args.content c.replace_slot-held.result
    c.take_up.ensures.heap c.replace_slot-held.ensures.heap c.replace_slot-held.ensures.held)
    c.let_go.ensures.told

follows : (g : given.Over) (c : goal.After-let_go g) → IsBlackHeld c.args.self.now c.args.content → Follows c.args.self.now.heap c.let_go.new.self.heap
follows g c black =
    let v = c.args.self.now in
    held-follows v c.let_go.new.self c.requires.order.1 (the_number v c.args.key.0) c.args.i c.args.content (within-named v c.args.key.0 c.args.i c.requires.within) black
    (returns-clause-heap g c)

pub returns-clause-kept : goal.returns-clause-kept
returns-clause-kept g c =
    let v = c.args.self.now in
    let f = c.requires.order in
    let within = within-named v c.args.key.0 c.args.i c.requires.within in
    record {
      keys = KeepsKeys-left v c.let_go.new.self _ (returns-clause-heap g c);
      order = in_order g c;
      counts = few-owned _;
      colours = held-colours v c.let_go.new.self f.1 (the_number v c.args.key.0) c.args.i c.args.content within (returns-clause-heap g c);
      fresh = λ black. ((follows g c black).fresh);
      suspected = λ reached. (held-remembers v c.let_go.new.self f.1 (the_number v c.args.key.0) c.args.i c.args.content within reached
          (in_order g c f.0 f.1).sound (returns-clause-heap g c));
      marks = marks-left v c.let_go.new.self _ (returns-clause-heap g c);
    }

pub returns-clause-stands : goal.returns-clause-stands
returns-clause-stands g c =
    let v = c.args.self.now in
    let f = c.requires.order in
    native_slot-stands v c.let_go.new.self f.1 (in_order g c f.0 f.1) (the_number v c.args.key.0) c.args.i c.args.content (returns-clause-heap g c)

pub returns-clause-tells : goal.returns-clause-tells
returns-clause-tells g c =
    let v = c.args.self.now in
    let w = c.let_go.new.self in
    let f = c.requires.order in
    let k = the_number v c.args.key.0 in
    stored-tells f.0 v w k c.args.i (held_name v c.args.content) (within-named v c.args.key.0 c.args.i c.requires.within) (held-in f.0 v c.args.content f.1) f.1
    (returns-clause-heap g c) (g.N.Notices.telling c.args.out.now) (g.N.Notices.telling c.let_go.new.out)
    (in_order g c f.0 f.1) (returns-clause-told g c)

pub returns-clause-marks : goal.returns-clause-marks
returns-clause-marks g c = marks-stay-left c.args.self.now c.let_go.new.self _ (returns-clause-heap g c)
