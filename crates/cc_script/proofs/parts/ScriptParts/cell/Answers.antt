use Rattle.cc_script.specs.Parts.{lists_of}
use Rattle.cc_script.proofs.Places.{live-some}
use Rattle.cc_script.proofs.Linking.{cell-read, cell-held}
use Rattle.cc_script.proofs.parts.ScriptParts.cell.Goals as goal

pub cell-requires : goal.cell-requires
cell-requires c = cell-held c.args.self.now.cells.slots c.args.key.0 (live-some (lists_of c.args.self.now) c.requires.placed c.args.key.0 c.requires.live)

pub returns : goal.returns
returns c = (
  c.cell.ensures.0,
  (c.cell.ensures.1.0, (c.cell.ensures.1.1.0, cell-read c.args.self.now.cells.slots c.args.key.0 _ c.cell.ensures.1.1.1)),
)
