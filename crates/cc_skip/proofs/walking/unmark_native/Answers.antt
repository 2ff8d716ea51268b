use Rattle.std.proofs.Common.{◌≡◌, true, false, map, refl, sym, ◌∙◌, ap, subst, arith}
use Rattle.cc_model.specs.Skipping.{without_mark}
use Rattle.cc_counted.specs.Counts as counts
use Rattle.cc_counted.specs.Counts.{Counts}
use Rattle.cc_counted.specs.Suspects.{is_purple_in}
use Rattle.cc_heaps.specs.Keyed.{Keyed, changed_to, the_number}
use Rattle.cc_heaps.proofs.Kept.{KeepsAll-same}
use Rattle.cc_skip.proofs.Buffers.{purple-length, purple_in, unmarked-fewer, unmarked-none}
use Rattle.cc_skip.proofs.Marks.{kept-if}
use Rattle.cc_skip.proofs.walking.unmark_native.Goals as goal

-- it has no mark
none : (c : goal.Then-not-purple) → map (without_mark (the_number c.args.heaps.now c.args.key.0)) c.args.heaps.now.heap.buffer ≡ c.args.heaps.now.heap.buffer
none c =
    let v = c.args.heaps.now in
    let f = c.requires.order in
    let purple : is_purple_in v.heap.buffer (the_number v c.args.key.0) ≡ false =
    sym (subst (λ (d : Counts). c.purple.result ≡ is_purple_in d.buffer (counts.the_number d c.args.key.0)) c.counted.ensures c.purple.ensures) ∙ c.if-not-purple.true in
    unmarked-none (the_number v c.args.key.0) v.heap.buffer f.1.sound.well_formed.buffered_once purple

pub returns-then-not-purple-clause-heap : goal.returns-then-not-purple-clause-heap
returns-then-not-purple-clause-heap c =
    let v = c.args.heaps.now in
    ap (λ bs. changed_to v (record v.heap { buffer = bs })) (sym (none c))

pub returns-then-not-purple-clause-kept : goal.returns-then-not-purple-clause-kept
returns-then-not-purple-clause-kept c = kept-if (KeepsAll-same c.args.heaps.now c.args.heaps.now refl)

pub returns-clause-count : goal.returns-clause-count
returns-clause-count c =
    let v = c.args.heaps.now in
    let k = the_number v c.args.key.0 in
    let f = c.requires.order in
    let purple : is_purple_in v.heap.buffer k ≡ true =
    sym (subst (λ (d : Counts). c.purple.result ≡ is_purple_in d.buffer (counts.the_number d c.args.key.0)) c.counted.ensures c.purple.ensures) ∙ c.if-not-purple.false in
    let after : purple_in c.unmark.new.self.heap.buffer ≡ purple_in (map (without_mark k) v.heap.buffer) = ap (λ (u : Keyed). purple_in u.heap.buffer) c.unmark.ensures.heap in
    omega (
      arith,
      after,
      unmarked-fewer k v.heap.buffer f.1.sound.well_formed.buffered_once purple,
      purple-length c.unmark.new.self.heap.buffer,
      purple-length v.heap.buffer,
    )
