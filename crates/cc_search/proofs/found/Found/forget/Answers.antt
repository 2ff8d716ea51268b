use Rattle.cc_search.proofs.Kept.{kept-popped}
use Rattle.cc_search.proofs.found.Found.forget.Goals as goal

pub steps-preserved : goal.steps-preserved
steps-preserved c =
    let f = c.steps.self-inside in
    record {
      none_walked = c.steps.invariant.none_walked;
      kept = kept-popped f.steps.items c.pop.new.self.items f.places c.remove.new.self (c.in-Some.name, c.in-Some.field-0-1)
          c.in-Some.ensures.items c.steps.invariant.kept c.remove.ensures;
    }
