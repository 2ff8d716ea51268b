use Rattle.std.proofs.Common.{◌≡◌, List, Option, None, ◌∙◌, ap, subst, arith, length}
use Rattle.std.specs.Prelude.{sum_by}
use Rattle.std.proofs.lemmas.List.Sums.{sum_by-cons}
use Rattle.cc_names.specs.declared.number.SKey.{SKey}
use Rattle.cc_script.specs.Objects as objects
use Rattle.cc_heaps.specs.Changes.{IsScriptThere}
use Rattle.cc_heaps.proofs.Listing.{none-left}
use Rattle.cc_host.specs.Hosted.{Hosted, IsKept}
use Rattle.cc_host.proofs.WalksBytes.{bytes_of_object, scripts-bounded, scripts-summed}
use Rattle.cc_host.proofs.WalksScripts.{script-there, scripts-at, scripts-left, scripts_from}
use Rattle.cc_host.proofs.runtime.Runtime.bytes_of_scripts.Goals as goal

pub overflow_add-sum-in-Some : goal.overflow_add-sum-in-Some
overflow_add-sum-in-Some c =
    let v = c.args.self.now.heaps in
    let o = (subst IsKept c.self.view_is c.self.invariant).runs.order in
    let is = c.scripts-in-Some.ensures ∙ ap (λ (h : Hosted). h.heaps.scripts) c.self.view_is in
    let p = scripts-at v o c.in-Some.key (subst (IsScriptThere v) c.in-Some.is c.loop-at.invariant.there) in
    omega (
      arith,
      c.loop-at.invariant.counted,
      ap (sum_by bytes_of_object) (ap (scripts_from v) c.in-Some.is ∙ p.3),
      sum_by-cons bytes_of_object p.0 p.1,
      c.slots.ensures ∙ (ap (λ (os : List objects.Object). length (objects.slots_at os c.in-Some.key.0)) is ∙ ap (λ (q : Option objects.Object). length (objects.slots_or_none q)) p.2),
      scripts-summed v o,
      scripts-bounded v o,
    )

pub loop-at-smaller : goal.loop-at-smaller
loop-at-smaller c =
    let v = c.args.self.now.heaps in
    let o = (subst IsKept c.self.view_is c.self.invariant).runs.order in
    let is = c.scripts-in-Some-2.ensures ∙ ap (λ (h : Hosted). h.heaps.scripts) c.self.view_is in
    let p = scripts-left v o c.in-Some.key (subst (IsScriptThere v) c.in-Some.is c.loop-at.invariant.there) c.scripts-in-Some-2.result.now is c.next-at.result c.next-at.ensures.key in
    omega (arith, ap length (ap (scripts_from v) c.in-Some.is ∙ p.2))

pub loop-at-preserved : goal.loop-at-preserved
loop-at-preserved c =
    let v = c.args.self.now.heaps in
    let o = (subst IsKept c.self.view_is c.self.invariant).runs.order in
    let is = c.scripts-in-Some.ensures ∙ ap (λ (h : Hosted). h.heaps.scripts) c.self.view_is in
    let is_later = c.scripts-in-Some-2.ensures ∙ ap (λ (h : Hosted). h.heaps.scripts) c.self.view_is in
    let p = scripts-left v o c.in-Some.key (subst (IsScriptThere v) c.in-Some.is c.loop-at.invariant.there) c.scripts-in-Some-2.result.now is_later c.next-at.result c.next-at.ensures.key in
    record {
      there = script-there v o c.scripts-in-Some-2.result.now is_later c.next-at.result c.next-at.ensures.live;
      counted = omega (
        arith,
        c.loop-at.invariant.counted,
        ap (sum_by bytes_of_object) (ap (scripts_from v) c.in-Some.is ∙ p.2),
        sum_by-cons bytes_of_object p.0 (scripts_from v c.next-at.result),
        c.slots.ensures ∙ (ap (λ (os : List objects.Object). length (objects.slots_at os c.in-Some.key.0)) is ∙ ap (λ (q : Option objects.Object). length (objects.slots_or_none q)) p.1),
      );
    }

pub returns-clause-sum : goal.returns-clause-sum
returns-clause-sum c =
    let v = c.args.self.now.heaps in
    let o = (subst IsKept c.self.view_is c.self.invariant).runs.order in
    let none : c.loop-at.at ≡ None = none-left c.loop-at.at c.in_default.not-Some in
    omega (arith, c.loop-at.invariant.counted, ap (λ (at : Option SKey). sum_by bytes_of_object (scripts_from v at)) none, scripts-summed v o)

pub returns-clause-few : goal.returns-clause-few
returns-clause-few c =
    let v = c.args.self.now.heaps in
    let o = (subst IsKept c.self.view_is c.self.invariant).runs.order in
    omega (arith, c.loop-at.invariant.counted, scripts-summed v o, scripts-bounded v o)
