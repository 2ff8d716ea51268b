use Rattle.std.proofs.Common.{◌∙◌, sym}
use Rattle.std.proofs.lemmas.Bool.{true≢false}
use Rattle.cc_check.proofs.Found.{exactly-found, exactly-from, exactly-listed}
use Rattle.cc_check.proofs.known.Known.are_exactly.Goals as goal

pub returns-then-are_found-clause-exactly : goal.returns-then-are_found-clause-exactly
returns-then-are_found-clause-exactly c = λ ended. (
  (λ yes. exactly-from c.args.graph.now c.find.new.self c.requires.well_made c.in_ok-find.ensures c.args.listed.now ended c.args.names.now c.requires.names
      (c.are_found.ensures.0 c.if-are_found.true) (c.are_listed.ensures.0 yes)),
  (λ e. c.are_listed.ensures.1 (exactly-listed c.args.graph.now c.find.new.self c.requires.well_made c.in_ok-find.ensures c.args.listed.now ended c.args.names.now c.requires.names e)),
)

pub returns-else-are_found-clause-exactly : goal.returns-else-are_found-clause-exactly
returns-else-are_found-clause-exactly c = λ ended. (
  (λ yes. absurd (true≢false (sym yes ∙ c.if-are_found.false))),
  (λ e. c.are_found.ensures.1 (exactly-found c.args.graph.now c.find.new.self c.requires.well_made c.in_ok-find.ensures c.args.listed.now ended c.args.names.now c.requires.names e)),
)
