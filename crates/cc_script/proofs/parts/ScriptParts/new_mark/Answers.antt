use Rattle.std.proofs.Common.{◌≡◌, Option, Some, None, option_map, refl, ap, ◌∙◌}
use Rattle.cc_chain.proofs.Slots.{parts-read}
use Rattle.cc_script.specs.Lists.{Placed}
use Rattle.cc_script.specs.Cells.{Linked}
use Rattle.cc_script.specs.Parts.{lists_of}
use Rattle.cc_script.proofs.Places.{live-some}
use Rattle.cc_script.proofs.Linking.{cell-held}
use Rattle.cc_script.proofs.parts.ScriptParts.new_mark.Goals as goal

pub new_mark-requires : goal.new_mark-requires
new_mark-requires c = cell-held c.args.self.now.cells.slots c.args.key.0 (live-some (lists_of c.args.self.now) c.requires.placed c.args.key.0 c.requires.live)

pub returns : goal.returns
returns c = ap (option_map (λ (p : Placed). p.new_mark)) (parts-read (λ (z : Linked). z.placed) c.args.self.now.cells.slots c.args.key.0) ∙ (twice _ ∙ c.new_mark.ensures)
  where
    twice : (o : Option Linked) → option_map (λ (p : Placed). p.new_mark) (option_map (λ (z : Linked). z.placed) o) ≡ option_map (λ (z : Linked). z.placed.new_mark) o
    twice None = refl
    twice (Some z) = refl
