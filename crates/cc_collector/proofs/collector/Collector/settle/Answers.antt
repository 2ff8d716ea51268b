use Rattle.cc_lists.proofs.KnownBytes.{on_err_of}
use Rattle.cc_gc.proofs.Sparing.{keeps-then}
use Rattle.cc_collector.proofs.Settling.{all_kept-then, tells-then, settled-exact}
use Rattle.cc_collector.proofs.NothingLeft.{unsettled-silent}
use Rattle.cc_collector.proofs.collector.Collector.settle.Goals as goal

-- The collection is refused

pub returns-in_err-whole-clause-tells : goal.returns-in_err-whole-clause-tells
returns-in_err-whole-clause-tells g c = tells-then _ _ _ _ _ _ c.gc.ensures.keeps c.whole.ensures.keeps c.gc.ensures.tells c.whole.ensures.tells

pub returns-in_err-whole-clause-swept : goal.returns-in_err-whole-clause-swept
returns-in_err-whole-clause-swept g c = on_err_of c.from_residual.result
    (unsettled-silent _ _ _ _ _ c.requires.runs (record { first = _; told_first = _; swept = c.gc.ensures.swept; collected = c.in_err-whole.ensures.refused }))

pub returns-in_err-whole-clause-suspected : goal.returns-in_err-whole-clause-suspected
returns-in_err-whole-clause-suspected g c = λ s. c.whole.ensures.suspected (c.gc.ensures.suspected s)

pub returns-in_err-whole-clause-kept : goal.returns-in_err-whole-clause-kept
returns-in_err-whole-clause-kept g c = search (all_kept-then)

-- All is done

pub returns-clause-exact : goal.returns-clause-exact
returns-clause-exact g c = λ s. settled-exact _ _ _ _ _ c.requires.runs s (record {
  second = _;
  told_second = _;
  collected = record { first = _; told_first = _; swept = c.gc.ensures.swept; collected = c.in_ok-whole.ensures.done };
  swept = c.gc-2.ensures.swept;
})

-- what is told until the collection has ended
pub returns-clause-tells : goal.returns-clause-tells
returns-clause-tells g c = search (tells-then, keeps-then)

pub returns-clause-suspected : goal.returns-clause-suspected
returns-clause-suspected g c = λ s. c.gc-2.ensures.suspected (c.whole.ensures.suspected (c.gc.ensures.suspected s))

pub returns-clause-kept : goal.returns-clause-kept
returns-clause-kept g c = search (all_kept-then)
