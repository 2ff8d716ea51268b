use Rattle.std.proofs.Common.{◌≡◌, ◌+◌, ◌-◌, ◌<◌, ◌++◌, ◌∷◌, [], true, false, List, Bool, length, replicate, sym, ◌∙◌, ap, subst, arith}
use Rattle.std.specs.Prelude.{slice_index_or}
use Rattle.std.proofs.lemmas.Grind.{common_steps}
use Rattle.std.proofs.lemmas.List.{get_or_read}
use Rattle.cc_model.specs.Derivations.{steps_of}
use Rattle.cc_search.specs.Needed.{AreWanted}
use Rattle.cc_search.proofs.Wanted.{IsNeeding, needing-not, needing-one, needing-starts, step-at, wanted-none, written-back}
use Rattle.cc_search.proofs.found.Found.path_to.Goals as goal

pub steps-init : goal.steps-init
steps-init c =
    let ss = steps_of c.args.self.now in
    let x = c.args.name.now in
    let n = c.resize.new.self.len in
    let old = c.resize.new.self.items in
    let new = c.want.new.wanted in
    let lent = c.deref_mut.ensures in
    let none : old ≡ replicate (length ss) false = grind (arith, common_steps) in
    let long : length new ≡ n = c.want.auto.wanted ∙ lent.len in
    let back = written-back n new old long (sym (ap (λ (ms : List Bool). length ms) lent.value) ∙ lent.len) in
    let wanted = c.want.ensures [] (subst (λ ms. AreWanted ss ms []) (sym lent.value) (wanted-none ss (length ss) old none)) in
    record {
      needing = subst (λ ms. IsNeeding ss ms x c.new-path.result.items c.len-i.result) (sym back)
          (needing-starts ss new x c.new-path.result.items c.len-i.result c.new-path.ensures.items c.len-i.ensures wanted);
      long = ap (λ (ms : List Bool). length ms) back ∙ (long ∙ (c.in_ok-resize.ensures.len ∙ c.len.ensures));
      below = omega (arith, c.len-i.ensures);
    }

pub steps-preserved : goal.steps-preserved
steps-preserved c =
    let ss = steps_of c.args.self.now in
    let i = c.steps.i - 1 in
    let held = c.steps.invariant in
    let next : c.steps.i ≡ i + 1 = omega (arith, c.steps-test.true) in
    let within : i < length ss = omega (arith, held.below, c.steps-test.true) in
    let marked : i < length c.steps.wanted.items = omega (arith, held.long, within) in
    let s = step-at ss i within in
    let not : slice_index_or c.steps.wanted.items i false ≡ false = sym (get_or_read c.steps.wanted.items i c.index.result.now marked c.index.ensures false) ∙ c.if-index.false in
    record {
      needing = needing-not ss c.steps.wanted.items c.args.name.now c.steps.path.items c.steps.i i s.0 next s.1 within not held.needing;
      long = held.long;
      below = omega (arith, within);
    }

pub steps-preserved-then-index : goal.steps-preserved-then-index
steps-preserved-then-index c =
    let ss = steps_of c.args.self.now in
    let x = c.args.name.now in
    let i = c.steps.i - 1 in
    let n = c.steps.wanted.len in
    let old = c.steps.wanted.items in
    let new = c.want_grounds.new.wanted in
    let held = c.steps.invariant in
    let lent = c.deref_mut-then-index.ensures in
    let next : c.steps.i ≡ i + 1 = omega (arith, c.steps-test.true) in
    let within : i < length ss = omega (arith, held.below, c.steps-test.true) in
    let marked : i < length old = omega (arith, held.long, within) in
    let is : slice_index_or old i false ≡ true = sym (get_or_read old i c.index.result.now marked c.index.ensures false) ∙ c.if-index.true in
    let pushed : c.push.new.self.items ≡ c.steps.path.items ++ c.step-object.result ∷ [] = grind (arith, common_steps) in
    let same : length new ≡ length old = c.want_grounds.auto.wanted ∙ ap (λ (ms : List Bool). length ms) lent.value in
    let back = written-back n new old (c.want_grounds.auto.wanted ∙ lent.len) (sym (ap (λ (ms : List Bool). length ms) lent.value) ∙ lent.len) in
    record {
      needing = subst (λ ms. IsNeeding ss ms x c.push.new.self.items i) (sym back)
          (needing-one ss old new x c.steps.path.items c.push.new.self.items c.steps.i i c.step-object.result next c.step-object.ensures within is pushed
          (λ names wanted. c.want_grounds.ensures names (subst (λ ms. AreWanted ss ms names) (sym lent.value) wanted)) held.needing);
      long = ap (λ (ms : List Bool). length ms) back ∙ (same ∙ held.long);
      below = omega (arith, within);
    }
