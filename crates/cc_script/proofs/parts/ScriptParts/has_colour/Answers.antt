use Rattle.cc_script.specs.Parts.{lists_of}
use Rattle.cc_script.proofs.OfColour.{coloured-key, coloured-object}
use Rattle.cc_script.proofs.parts.ScriptParts.has_colour.Goals as goal

pub returns : goal.returns
returns c =
    let l = lists_of c.args.self.now in
    let p = c.requires.at_rest.placed in
    record {
      found = (
        λ t. let f = c.has_colour.ensures.some t in coloured-object l p c.args.colour f.0 f.1,
        λ w. let f = coloured-key l p c.args.colour w.0 w.1.0 w.1.1 in c.has_colour.ensures.none f.0 f.1,
      );
    }
