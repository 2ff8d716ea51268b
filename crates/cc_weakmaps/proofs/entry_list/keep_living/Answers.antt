use Rattle.std.proofs.Common.{◌+◌, ◌<◌, ◌≤◌, Vec, Global, List, length, take, sym, ap, ◌∙◌, subst, arith}
use Rattle.std.proofs.Math.ListN.{set}
use Rattle.cc_weakmaps.specs.Entries.{KeyedEntry}
use Rattle.cc_weakmaps.specs.Living.{AreLiving, Stays}
use Rattle.cc_weakmaps.proofs.Keeping.{IsKeeping, keeping-start, keeping-among, keeping-stays, keeping-drops, keeping-end, keeping-front}
use Rattle.cc_weakmaps.proofs.entry_list.keep_living.Goals as goal
use Rattle.cc_weakmaps.proofs.entry_list.keep_living.Goals.{then-stays, else-stays}

pub loop-place-init : goal.loop-place-init
loop-place-init g c = record { keeping = keeping-start (goal.F-post g c.args.alive.now) c.args.entries.now.items c.args.start c.requires.stay }

pub stays-requires-clause-the_map : goal.stays-requires-clause-the_map
stays-requires-clause-the_map g c =
    let old = c.args.entries.now in
    let within : c.loop-place.place < length old.items = omega (arith, c.loop-place-test.true, c.len-place-end.ensures, old.ok.0) in
    let there = keeping-among (goal.F-post g c.args.alive.now) old.items c.args.start c.loop-place.entries.items c.loop-place.kept c.loop-place.place c.loop-place.invariant.keeping within c.index.result.now c.index.ensures in
    (c.requires.asked c.index.result.now there).0

pub stays-requires-clause-key : goal.stays-requires-clause-key
stays-requires-clause-key g c =
    let old = c.args.entries.now in
    let within : c.loop-place.place < length old.items = omega (arith, c.loop-place-test.true, c.len-place-end.ensures, old.ok.0) in
    let there = keeping-among (goal.F-post g c.args.alive.now) old.items c.args.start c.loop-place.entries.items c.loop-place.kept c.loop-place.place c.loop-place.invariant.keeping within c.index.result.now c.index.ensures in
    (c.requires.asked c.index.result.now there).1

pub loop-place-preserved : goal.loop-place-preserved
loop-place-preserved g c =
    let old = c.args.entries.now in
    let answers = goal.F-post g c.args.alive.now in
    let x = c.index.result.now in
    let within : c.loop-place.place < length old.items = omega (arith, c.loop-place-test.true, c.len-place-end.ensures, old.ok.0) in
    let so_far = c.loop-place.invariant.keeping in
    let items = c.loop-place.entries.items in
    let kept = c.loop-place.kept in
    let place = c.loop-place.place in
    record {
      keeping = elim c.if-stays.branch [
        | then-stays w ↦
            subst (λ (v : Vec KeyedEntry Global). IsKeeping answers old.items c.args.start v.items c.if-stays.kept (place + 1)) (sym w.entries-is)
            (subst (λ n. IsKeeping answers old.items c.args.start (set items kept x) n (place + 1)) (sym w.kept-is)
            (keeping-stays answers old.items c.args.start items kept place so_far within x c.index.ensures (subst (Stays answers x) w.if-stays.true c.stays.ensures)))
        | else-stays w ↦
            subst (λ (v : Vec KeyedEntry Global). IsKeeping answers old.items c.args.start v.items c.if-stays.kept (place + 1)) (sym w.entries-is)
            (subst (λ n. IsKeeping answers old.items c.args.start items n (place + 1)) (sym w.kept-is)
            (keeping-drops answers old.items c.args.start items kept place so_far within x c.index.ensures (subst (Stays answers x) w.if-stays.false c.stays.ensures)))
      ];
    }

pub returns-clause-living : goal.returns-clause-living
returns-clause-living g c =
    let old = c.args.entries.now in
    let answers = goal.F-post g c.args.alive.now in
    let past : length old.items ≤ c.loop-place.place = omega (arith, c.loop-place-test.false, c.len-place-end.ensures, old.ok.0) in
    subst (AreLiving answers old.items) (sym {A = List KeyedEntry} c.truncate.ensures.items)
    (keeping-end answers old.items c.args.start c.loop-place.entries.items c.loop-place.kept c.loop-place.place c.loop-place.invariant.keeping past)

pub returns-clause-front : goal.returns-clause-front
returns-clause-front g c =
    let old = c.args.entries.now in
    let kept = c.loop-place.invariant.keeping in
    ap (take c.args.start) c.truncate.ensures.items ∙ keeping-front (goal.F-post g c.args.alive.now) old.items c.args.start c.loop-place.entries.items c.loop-place.kept c.loop-place.place kept
