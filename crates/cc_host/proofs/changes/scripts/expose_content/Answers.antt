use Rattle.cc_host.proofs.Exposed.{Exposes-same}
use Rattle.cc_host.proofs.Marked.{marking-same}
use Rattle.std.proofs.Common.{refl, sym, subst}
use Rattle.cc_heaps.specs.Changes.{script_name}
use Rattle.cc_host.specs.Marked.{IsPastIfAny}
use Rattle.cc_host.proofs.changes.scripts.expose_content.Goals as goal

pub returns-in_default-clause-exposes : goal.returns-in_default-clause-exposes
returns-in_default-clause-exposes c = Exposes-same c.args.heaps.now

pub returns-in_default-clause-marking : goal.returns-in_default-clause-marking
returns-in_default-clause-marking c = marking-same c.args.heaps.now c.args.heaps.now refl

pub returns-in_default-clause-past : goal.returns-in_default-clause-past
returns-in_default-clause-past c =
    let v = c.args.heaps.now in
    λ well. subst (λ x. IsPastIfAny v (script_name v x)) (sym c.in_default.is) (λ y i. absurd i)

pub returns-in-Some-clause-past : goal.returns-in-Some-clause-past
returns-in-Some-clause-past c =
    let v = c.args.heaps.now in
    λ well. subst (λ x. IsPastIfAny c.expose_key.new.heaps (script_name v x)) (sym c.in-Some.is) (c.expose_key.ensures.past well)

pub returns-in_default-clause-spots : goal.returns-in_default-clause-spots
returns-in_default-clause-spots c s = refl

pub returns-in-Some-clause-spots : goal.returns-in-Some-clause-spots
returns-in-Some-clause-spots c = c.expose_key.ensures.spots
