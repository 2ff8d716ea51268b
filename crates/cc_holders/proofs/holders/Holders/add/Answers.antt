use Rattle.std.proofs.Common.{◌<◌, rules, ◌∙◌}
use Rattle.cc_holders.specs.declared.entry.Entry.TheVariants.{Known}
use Rattle.cc_holders.proofs.Known.{entries-changed, entries-same}
use Rattle.cc_holders.proofs.Places.{err-always}
use Rattle.cc_holders.proofs.holders.Holders.add.Goals as goal

pub returns-in_err-reach-clause-err : goal.returns-in_err-reach-clause-err
returns-in_err-reach-clause-err c = err-always c.from_residual.result
    (λ n. entries-same c.args.self.now (record { groups = c.reach.new.groups }) n (c.reach.ensures.same n))

pub returns-clause-entries : goal.returns-clause-entries
returns-clause-entries c =
    let small : c.args.number < 4294967296 = search rules in
    entries-changed c.args.self.now (record { groups = c.put.new.groups }) c.args.number (Known 0 c.args.key) small c.put.ensures.here
    (λ n other. c.put.ensures.others n other ∙ c.reach.ensures.same n)
