use Rattle.std.proofs.Common.{◌<◌, ◌∙◌, rules, refl, Some}
use Rattle.cc_pages.proofs.Numbers.{value-within, values-changed, values-same}
use Rattle.cc_pages.proofs.Places.{err-then, value-both, value-then}
use Rattle.cc_pages.proofs.pages.Pages.get_or_insert.Goals as goal

pub returns-clause-found : goal.returns-clause-found
returns-clause-found c =
    let small : c.args.number < 4294967296 = search rules in
    value-then c.get_or_put.result c.get_or_put.ensures.found
    (λ v found. found ∙ rw (value-within c.args.self.now c.args.number small) refl)

pub returns-clause-values : goal.returns-clause-values
returns-clause-values c =
    let small : c.args.number < 4294967296 = search rules in
    value-both c.get_or_put.result c.get_or_put.ensures.here c.get_or_put.ensures.others
    (λ v here others. values-changed c.args.self.now (record { groups = c.get_or_put.new.groups }) c.args.number (Some v) small here others)

pub returns-clause-err : goal.returns-clause-err
returns-clause-err c = err-then c.get_or_put.result c.get_or_put.ensures.err (λ same n. values-same c.args.self.now (record { groups = c.get_or_put.new.groups }) n (same n))

pub returns-clause-absent : goal.returns-clause-absent
returns-clause-absent c =
    let small : c.args.number < 4294967296 = search rules in
    err-then c.get_or_put.result c.get_or_put.ensures.absent (λ none. value-within c.args.self.now c.args.number small ∙ none)
