use Rattle.std.proofs.Common.{◌≡◌, [], ◌∙◌, ap}
use Rattle.cc_heaps.specs.Keyed.{Keyed, changed_to}
use Rattle.cc_builder.proofs.build.empty_buffer.Goals as goal

-- another buffer in place of another
again : (v old new : Keyed) → old ≡ changed_to v (record v.heap { buffer = old.heap.buffer }) → new ≡ changed_to old (record old.heap { buffer = new.heap.buffer }) →
    new ≡ changed_to v (record v.heap { buffer = new.heap.buffer })
again v old new e f = f ∙ ap (λ (k : Keyed). changed_to k (record k.heap { buffer = new.heap.buffer })) e

pub buffer-preserved : goal.buffer-preserved
buffer-preserved c = record {
  heap = again c.args.heaps.now c.buffer.heaps c.select_next.new.self c.buffer.invariant.heap c.in-Some.ensures.front.1;
  order = c.select_next.ensures.kept.order [] c.buffer.invariant.order;
}
