use Rattle.std.proofs.Common.{◌<◌, rules, sym, ◌∙◌}
use Rattle.cc_holders.proofs.Known.{entry-within}
use Rattle.cc_holders.proofs.holders.Holders.get.Goals as goal

pub returns : goal.returns
returns c =
    let small : c.args.number < 4294967296 = search rules in
    c.entry_of.ensures ∙ sym (entry-within c.args.self.now c.args.number small)
