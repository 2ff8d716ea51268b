use Rattle.std.proofs.Common.{Option, ◌<◌, sym, subst}
use Rattle.cc_names.specs.declared.number.SKey.{SKey}
use Rattle.cc_heaps.proofs.WhitesSwept.{Sweeps-start, Sweeps-stands, Stands-there, Stands-owned, Sweeps-next, Sweeps-fewer, objects_left}
use Rattle.cc_heaps.proofs.heaps.sweeping.sweep_whites.Goals as goal

pub loop-at-init : goal.loop-at-init
loop-at-init g c = Sweeps-start c.args.scripts.now c.args.counted.now c.first-at.result (g.N.Notices.telling c.args.out.now) c.requires.owned c.first-at.ensures.key

pub next-at-requires : goal.next-at-requires
next-at-requires g c =
    let stands = Sweeps-stands c.args.scripts.now c.loop-at.scripts c.args.counted.now c.loop-at.counted c.loop-at.at c.in-Some.key c.loop-at.swept
    (g.N.Notices.telling c.args.out.now) (g.N.Notices.telling c.loop-at.out) c.requires.one c.in-Some.is c.loop-at.invariant in
    record {
      live = Stands-there c.args.scripts.now c.loop-at.scripts c.args.counted.now c.loop-at.counted c.in-Some.key.0 c.loop-at.swept
          (g.N.Notices.telling c.args.out.now) (g.N.Notices.telling c.loop-at.out) stands;
    }

pub sweep_one-swept-requires : goal.sweep_one-swept-requires
sweep_one-swept-requires g c =
    let stands = Sweeps-stands c.args.scripts.now c.loop-at.scripts c.args.counted.now c.loop-at.counted c.loop-at.at c.in-Some.key c.loop-at.swept
    (g.N.Notices.telling c.args.out.now) (g.N.Notices.telling c.loop-at.out) c.requires.one c.in-Some.is c.loop-at.invariant in
    record {
      live = Stands-there c.args.scripts.now c.loop-at.scripts c.args.counted.now c.loop-at.counted c.in-Some.key.0 c.loop-at.swept
          (g.N.Notices.telling c.args.out.now) (g.N.Notices.telling c.loop-at.out) stands;
      owned = Stands-owned c.args.scripts.now c.loop-at.scripts c.args.counted.now c.loop-at.counted c.in-Some.key.0 c.loop-at.swept
          (g.N.Notices.telling c.args.out.now) (g.N.Notices.telling c.loop-at.out) stands;
    }

pub loop-at-smaller : goal.loop-at-smaller
loop-at-smaller g c =
    let stands = Sweeps-stands c.args.scripts.now c.loop-at.scripts c.args.counted.now c.loop-at.counted c.loop-at.at c.in-Some.key c.loop-at.swept
    (g.N.Notices.telling c.args.out.now) (g.N.Notices.telling c.loop-at.out) c.requires.one c.in-Some.is c.loop-at.invariant in
    subst (λ (at : Option SKey). objects_left c.sweep_one-swept.new.scripts c.next-at.result < objects_left c.loop-at.scripts at) (sym c.in-Some.is)
    (Sweeps-fewer c.args.scripts.now c.loop-at.scripts c.args.counted.now c.loop-at.counted c.in-Some.key.0 c.loop-at.swept
    (g.N.Notices.telling c.args.out.now) (g.N.Notices.telling c.loop-at.out) stands
    c.sweep_one-swept.result c.sweep_one-swept.ensures.white c.sweep_one-swept.new.scripts c.sweep_one-swept.ensures.left c.sweep_one-swept.new.counted
    c.sweep_one-swept.ensures.natives (g.N.Notices.telling c.sweep_one-swept.new.out) c.sweep_one-swept.ensures.told c.sweep_one-swept.ensures.owned c.next-at.result c.next-at.ensures.key c.requires.one)

pub loop-at-preserved : goal.loop-at-preserved
loop-at-preserved g c =
    let stands = Sweeps-stands c.args.scripts.now c.loop-at.scripts c.args.counted.now c.loop-at.counted c.loop-at.at c.in-Some.key c.loop-at.swept
    (g.N.Notices.telling c.args.out.now) (g.N.Notices.telling c.loop-at.out) c.requires.one c.in-Some.is c.loop-at.invariant in
    Sweeps-next c.args.scripts.now c.loop-at.scripts c.args.counted.now c.loop-at.counted c.in-Some.key.0 c.loop-at.swept
    (g.N.Notices.telling c.args.out.now) (g.N.Notices.telling c.loop-at.out) stands
    c.sweep_one-swept.result c.sweep_one-swept.ensures.white c.sweep_one-swept.new.scripts c.sweep_one-swept.ensures.left c.sweep_one-swept.new.counted
    c.sweep_one-swept.ensures.natives (g.N.Notices.telling c.sweep_one-swept.new.out) c.sweep_one-swept.ensures.told c.sweep_one-swept.ensures.owned c.next-at.result c.next-at.ensures.key
