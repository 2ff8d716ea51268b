use Rattle.std.proofs.Common.{◌≡◌, [], Option, Some, None, option_map}
use Rattle.std.specs.Prelude.{IfSome, MatchOption}
use Rattle.cc_names.specs.declared.number.SKey.{SKey}
use Rattle.cc_heaps.specs.NewMarks.{IsGoingOn}
use Rattle.cc_heaps.specs.ToScan.{ToScan, with_black}
use Rattle.cc_heaps.proofs.ScannedOne.{going_on-black, going_on-same}
use Rattle.cc_heaps.proofs.heaps.new_marks.next_black.Goals as goal

pub returns-clause-going_on : goal.returns-clause-going_on
returns-clause-going_on c = go c.pop_black.result c.pop_black.ensures.first
  where
    go : (o : Option SKey) → MatchOption o ((c.pop_black.new.self.marking ≡ c.args.to_scan.now.marking) × IfSome c.args.to_scan.now.marking (λ (t : ToScan). t.black ≡ []))
        (λ key. c.args.to_scan.now.marking ≡ option_map (with_black key.0) c.pop_black.new.self.marking) → IsGoingOn c.args.scripts.now c.pop_black.new.self
    go None e = going_on-same c.args.scripts.now c.args.to_scan.now c.pop_black.new.self c.requires.going_on c.pop_black.ensures.room e.0
    go (Some key) e = going_on-black c.args.scripts.now c.args.to_scan.now c.pop_black.new.self c.requires.going_on c.pop_black.ensures.room key.0 e
