use Rattle.std.proofs.Common.{refl}
use Rattle.cc_counted.proofs.Scripts.{known-none}
use Rattle.cc_counted.proofs.Threading.{chained-none}
use Rattle.cc_counted.proofs.natives.Natives.new.Goals as goal

pub invariant_of-result : goal.invariant_of-result
invariant_of-result c = record {
  chained = chained-none _ c.new.ensures.empty
      (c.new-2.ensures _ (λ key. rw (c.new.ensures.empty) refl))
      (c.new-3.ensures _ (λ key. rw (c.new.ensures.empty) refl))
      (c.new-4.ensures _ _ (λ key. rw (c.new.ensures.empty) refl))
      (c.new-5.ensures _ (λ key. rw (c.new.ensures.empty) refl));
  known = rw (c.new.ensures.empty) (known-none c.new-6.result c.new-6.ensures.entries);
}
