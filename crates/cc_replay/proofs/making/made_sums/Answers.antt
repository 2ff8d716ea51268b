use Rattle.std.proofs.Common.{◌≡◌, Some, sym, ◌∙◌, ap}
use Rattle.std.proofs.lemmas.Bool.{true≢false}
use Rattle.cc_names.specs.Allowance.{Allowance}
use Rattle.cc_model.specs.Heap.{Heap, empty_heap}
use Rattle.cc_outside.specs.Reading.{SureReading}
use Rattle.cc_replay.specs.Summaries.{widest}
use Rattle.cc_replay.proofs.MadeRuns.{made-done, made-run, widest-is}
use Rattle.cc_replay.proofs.making.made_sums.Goals as goal

-- the limits of empty heaps
wide : (h : Heap) (l : Allowance) → h ≡ empty_heap l → l.natives ≡ 1000000 → l.scripts ≡ 1000000 → l.bytes ≡ 4294967295 → h.limits ≡ widest
wide h l empty natives scripts bytes = ap (λ (k : Heap). k.limits) empty ∙ widest-is l natives scripts bytes

-- it is always done
pub prove-unreachable-requires : goal.prove-unreachable-requires
prove-unreachable-requires c =
    let limits = wide c.in_ok-heaps.heaps.heap c.widest-limits.result c.in_ok-heaps.ensures.empty
    c.widest-limits.ensures.natives c.widest-limits.ensures.scripts c.widest-limits.ensures.bytes in
    let done = made-done c.args.seed c.args.count c.requires c.answer_input-status.result _ c.in_ok-heaps.heaps.heap.limits
    (ap (λ (r : SureReading). Some r.left) (c.new-lines.ensures.now ∙ c.new-source.ensures)) limits c.answer_input-status.ensures.done_always in
    true≢false (sym (rw done at (c.if-prove.ensures)))

pub returns : goal.returns
returns c =
    let limits = wide c.in_ok-heaps.heaps.heap c.widest-limits.result c.in_ok-heaps.ensures.empty
    c.widest-limits.ensures.natives c.widest-limits.ensures.scripts c.widest-limits.ensures.bytes in
    let given = ap (λ (r : SureReading). Some r.left) (c.new-lines.ensures.now ∙ c.new-source.ensures) in
    let done = made-done c.args.seed c.args.count c.requires c.answer_input-status.result _ c.in_ok-heaps.heaps.heap.limits given limits c.answer_input-status.ensures.done_always in
    made-run c.args.seed c.args.count c.requires c.in_ok-heaps.heaps.heap.limits limits c.new-counter.result c.answer_input-status.new.out c.sums.result
    c.new-counter.ensures c.sums.ensures (c.answer_input-status.ensures.counted done _ given)

-- registers that note nothing hold their keys
pub answer_input-status-requires-clause-keys : goal.answer_input-status-requires-clause-keys
answer_input-status-requires-clause-keys c = c.in_ok-weak.ensures.keys c.in_ok-heaps.heaps
