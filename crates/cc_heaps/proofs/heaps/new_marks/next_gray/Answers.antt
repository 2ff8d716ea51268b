use Rattle.std.proofs.Common.{◌≡◌, arith}
use Rattle.cc_names.specs.declared.kind.Colour.TheVariants.{Black}
use Rattle.cc_heaps.proofs.ScannedOne.{going_on-gray, gray-live, passed-next}
use Rattle.cc_heaps.proofs.heaps.new_marks.next_gray.Goals as goal

pub new_mark-requires : goal.new_mark-requires
new_mark-requires c = record {
  live = gray-live c.args.scripts.now c.loop-key.to_scan c.pop_gray.new.self c.loop-key.invariant.going_on c.in-Some.ensures.room c.in-Some.key.0 c.in-Some.ensures.first;
}

pub returns-then-ne-clause-going_on : goal.returns-then-ne-clause-going_on
returns-then-ne-clause-going_on c =
    going_on-gray c.args.scripts.now c.loop-key.to_scan c.pop_gray.new.self c.loop-key.invariant.going_on c.in-Some.ensures.room c.in-Some.key.0 c.in-Some.ensures.first

pub loop-key-preserved : goal.loop-key-preserved
loop-key-preserved c =
    let black : c.new_mark.result ≡ Black = grind arith in
    passed-next c.args.scripts.now c.args.to_scan.now c.loop-key.to_scan c.pop_gray.new.self c.loop-key.invariant c.in-Some.ensures.room c.in-Some.key.0 c.in-Some.ensures.first
    c.new_mark.result c.new_mark.ensures black
