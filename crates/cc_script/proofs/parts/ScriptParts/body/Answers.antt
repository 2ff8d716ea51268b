use Rattle.cc_script.specs.Parts.{lists_of}
use Rattle.cc_script.proofs.Places.{live-some}
use Rattle.cc_script.proofs.Linking.{cell-read, cell-held}
use Rattle.cc_script.proofs.parts.ScriptParts.body.Goals as goal

pub body-requires : goal.body-requires
body-requires c = cell-held c.args.self.now.cells.slots c.args.key.0 (live-some (lists_of c.args.self.now) c.requires.placed c.args.key.0 c.requires.live)

pub returns : goal.returns
returns c = (
  c.body.ensures.0,
  (c.body.ensures.1.0, (c.body.ensures.1.1.0, cell-read c.args.self.now.cells.slots c.args.key.0 _ c.body.ensures.1.1.1)),
)
