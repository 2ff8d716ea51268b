use Rattle.std.proofs.Common.{rules}
use Rattle.cc_reader.proofs.Using.{Uses-refilled}
use Rattle.cc_reader.proofs.window.Window.has_byte.Goals as goal

pub returns-clause-uses : goal.returns-clause-uses
returns-clause-uses g c = Uses-refilled (g.S.Source.left c.args.source.now) (g.S.Source.left c.fill.new.source) c.args.self.now c.fill.new.self
    (search rules) (search rules) c.fill.ensures.refilled
