use Rattle.std.proofs.Common.{Some, option_map, ap, sym, ◌∙◌}
use Rattle.cc_chain.proofs.Slots.{held-live}
use Rattle.cc_walk.specs.Walks.{is_walked}
use Rattle.cc_walk.proofs.Sets.{walked-member}
use Rattle.cc_script.specs.Threads.{of_walk}
use Rattle.cc_script.specs.Cells.{link_of}
use Rattle.cc_script.specs.Parts.{lists_of, walk_in}
use Rattle.cc_script.proofs.Places.{live-cell, live-some, walked_at-cell}
use Rattle.cc_script.proofs.Linking.{cell-held}
use Rattle.cc_script.proofs.parts.ScriptParts.walked.Goals as goal

pub holds-requires : goal.holds-requires
holds-requires c =
    let p = c.args.self.now in
    held-live (link_of of_walk) p.cells.slots c.args.key.0
    (cell-held p.cells.slots c.args.key.0 (live-some (lists_of p) c.requires.at_rest.placed c.args.key.0 c.requires.live))

pub returns : goal.returns
returns c =
    let p = c.args.self.now in
    let l = lists_of p in
    let w = walk_in p in
    let f = live-cell l c.requires.at_rest.placed c.args.key.0 c.requires.live in
    ap (option_map is_walked) (walked_at-cell l c.requires.at_rest.placed c.args.key.0 f.0 f.1)
    ∙ ap Some (walked-member w c.args.key.0 ∙ sym (c.holds.ensures w c.requires.at_rest.chained.walk))
