use Rattle.std.proofs.Common.{◌≡◌, Some, ◌∙◌, ap, subst}
use Rattle.std.specs.Prelude.{IsSome, ◌↔◌}
use Rattle.cc_names.specs.declared.kind.Kind.TheVariants.{Proxy}
use Rattle.cc_model.specs.Heap.{delegate_at}
use Rattle.cc_script.specs.Objects as objects
use Rattle.cc_host.specs.Hosted.{Hosted, IsKept}
use Rattle.cc_host.proofs.Reading.{IsReadAs}
use Rattle.cc_host.proofs.ReadBeside.{delegate-read, some-alike}
use Rattle.cc_host.proofs.runtime.Runtime.delegate.Goals as goal
use Rattle.cc_host.proofs.runtime.Runtime.delegate.Goals.{After-delegate}

read : (c : After-delegate) → IsReadAs c.args.self.now.heaps c.delegate.result (delegate_at c.args.self.now.heaps.heap c.args.x.name)
read c =
    let k = c.in_ok-key in
    delegate-read c.args.self.now.heaps (subst IsKept c.self.view_is c.self.invariant).runs.order
    c.scripts.result.now (c.scripts.ensures ∙ ap (λ (h : Hosted). h.heaps.scripts) c.self.view_is)
    k.key c.args.x.name k.ensures.name k.ensures.live c.delegate.result c.delegate.ensures.delegate

pub of_script-requires : goal.of_script-requires
of_script-requires c = (read c).there

pub returns-clause-name : goal.returns-clause-name
returns-clause-name c = c.of_script.ensures.name ∙ (read (goal.at.returns-clause-name c).After-delegate).name

-- it is a proxy by the key that is its own
exactly : (c : After-delegate) → IsSome c.delegate.result ↔ (objects.kind_at c.args.self.now.heaps.scripts c.args.x.key ≡ Some Proxy)
exactly c =
    subst (λ key. IsSome c.delegate.result ↔ (objects.kind_at c.args.self.now.heaps.scripts key ≡ Some Proxy)) c.in_ok-key.ensures.key
    (subst (λ os. IsSome c.delegate.result ↔ (objects.kind_at os c.in_ok-key.key.0 ≡ Some Proxy)) (c.scripts.ensures ∙ ap (λ (h : Hosted). h.heaps.scripts) c.self.view_is)
    c.delegate.ensures.exactly)

pub returns-clause-exactly : goal.returns-clause-exactly
returns-clause-exactly c =
    let d = (goal.at.returns-clause-exactly c).After-delegate in
    let same = some-alike c.args.self.now.heaps (subst IsKept c.self.view_is c.self.invariant).runs.order c.of_script.result c.delegate.result c.of_script.ensures.name (read d).there in
    (λ s. (exactly d).0 (same.0 s), λ p. same.1 ((exactly d).1 p))
