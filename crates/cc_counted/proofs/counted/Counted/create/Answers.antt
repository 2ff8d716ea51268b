use Rattle.std.proofs.Common.{◌≡◌, ◌<◌, ℕ, false, refl, ap, sym, subst, ◌∙◌}
use Rattle.cc_lists.specs.Members.{Among}
use Rattle.cc_model.specs.Heap.{HeapNative}
use Rattle.cc_purple.specs.Marks.{with_mark}
use Rattle.cc_counted.specs.Counts.{Counts}
use Rattle.cc_counted.specs.Owning.{Makes}
use Rattle.cc_counted.specs.Lists.{Placed, Lists, counts_of, IsPlaced, made as made_of}
use Rattle.cc_counted.specs.Stored.{Stored, Inserts}
use Rattle.cc_counted.proofs.Making.{Makes-made, placed-made}
use Rattle.cc_counted.proofs.Owned.{owned-made}
use Rattle.cc_counted.proofs.Scripts.{fresh-above}
use Rattle.cc_counted.proofs.counted.Counted.create.Goals as goal

pub insert-requires-clause-fresh : goal.insert-requires-clause-fresh
insert-requires-clause-fresh c = fresh-above c.self.inside.natives.lists c.self.invariant.placed c.args.no.0
    (subst (λ (v : Counts). (n : HeapNative) → Among n v.natives → n.number < c.args.no.0) (sym c.self.view_is) c.requires.above)

-- a native that came to stand last in the order, and was touched then, was made
made-touched : (l mid new : Lists) (key : ℕ) (d : Placed) → Inserts l mid key d → new ≡ record mid { marks = with_mark false key mid.marks } → made_of l mid.cells key ≡ new
made-touched l mid new key d i e = sym (e ∙ ap (λ (n : Lists). record n { marks = with_mark false key n.marks }) i.lists)

above : (c : goal.After-touch) → (n : HeapNative) → Among n (counts_of c.self.inside.natives.lists).natives → n.number < c.args.no.0
above c = subst (λ (v : Counts). (n : HeapNative) → Among n v.natives → n.number < c.args.no.0) (sym c.self.view_is) c.requires.above

is-made : (c : goal.After-touch) → made_of c.self.inside.natives.lists c.insert.new.self.lists.cells c.in_ok-key.key.0 ≡ c.touch.new.self.lists
is-made c = made-touched c.self.inside.natives.lists c.insert.new.self.lists c.touch.new.self.lists c.in_ok-key.key.0 _ c.in_ok-key.ensures.inserts (ap (λ (s : Stored). s.lists) c.touch.ensures)

made : (c : goal.After-touch) → Makes (counts_of c.self.inside.natives.lists) (counts_of c.touch.new.self.lists) c.in_ok-key.key.0 c.args.no.0 c.args.slots
made c =
    let l = c.self.inside.natives.lists in
    let i = c.in_ok-key.ensures.inserts in
    subst (λ (n : Lists). Makes (counts_of l) (counts_of n) c.in_ok-key.key.0 c.args.no.0 c.args.slots) (is-made c)
    (Makes-made l c.self.invariant.placed c.in_ok-key.key.0 _ c.insert.new.self.lists.cells i.vacant i.there i.others (above c) c.args.slots refl c.requires.slots refl refl refl refl)

pub returns-clause-natives : goal.returns-clause-natives
returns-clause-natives c = rw (← c.self.view_is) (made c).natives

pub returns-clause-buffer : goal.returns-clause-buffer
returns-clause-buffer c = rw (← c.self.view_is) (made c).buffer

pub returns-clause-key : goal.returns-clause-key
returns-clause-key c = (made c).there

pub returns-clause-others : goal.returns-clause-others
returns-clause-others c = rw (← c.self.view_is) (made c).others

pub returns-clause-vacant : goal.returns-clause-vacant
returns-clause-vacant c = rw (← c.self.view_is) (made c).vacant

pub returns-clause-reflector : goal.returns-clause-reflector
returns-clause-reflector c = (made c).reflector

pub returns-clause-other_reflectors : goal.returns-clause-other_reflectors
returns-clause-other_reflectors c = rw (← c.self.view_is) (made c).other_reflectors

pub returns-clause-as_many : goal.returns-clause-as_many
returns-clause-as_many c = (made c).as_many

pub returns-clause-walks : goal.returns-clause-walks
returns-clause-walks c = rw (← c.self.view_is) (made c).walks

pub returns-clause-keyed : goal.returns-clause-keyed
returns-clause-keyed c was = (made c).keyed

pub returns-clause-owned : goal.returns-clause-owned
returns-clause-owned c = rw (← c.self.view_is) (owned-made (counts_of c.self.inside.natives.lists) _ c.in_ok-key.key.0 c.args.no.0 c.args.slots (above c) (made c))

pub invariant_of-self : goal.invariant_of-self
invariant_of-self c =
    let same = c.in_err-key.ensures.err in
    record { placed = subst IsPlaced (sym same) c.self.invariant.placed; emptied = ap (λ (n : Lists). n.queue) same ∙ c.self.invariant.emptied }

pub invariant_of-self-2 : goal.invariant_of-self-2
invariant_of-self-2 c =
    let i = c.in_ok-key.ensures.inserts in
    record {
      placed = subst IsPlaced (is-made c)
          (placed-made c.self.inside.natives.lists c.self.invariant.placed c.in_ok-key.key.0 _ c.insert.new.self.lists.cells i.vacant i.there i.others (above c) c.args.slots refl c.requires.slots);
      emptied = sym (ap (λ (n : Lists). n.queue) (is-made c)) ∙ c.self.invariant.emptied;
    }
