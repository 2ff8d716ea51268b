use Rattle.std.proofs.Common.{◌∙◌, ap, subst}
use Rattle.cc_heaps.specs.Keyed.{counts_of}
use Rattle.cc_host.specs.Hosted.{Hosted, IsKept}
use Rattle.cc_host.specs.Reading.{reflector_in}
use Rattle.cc_host.proofs.Reading.{IsReadAs}
use Rattle.cc_host.proofs.ReadBeside.{reflector-read}
use Rattle.cc_host.proofs.runtime.Runtime.reflector_of.Goals as goal
use Rattle.cc_host.proofs.runtime.Runtime.reflector_of.Goals.{After-reflector}

read : (c : After-reflector) → IsReadAs c.args.self.now.heaps c.reflector.result (reflector_in c.args.self.now.heaps.heap c.args.x.name)
read c =
    let k = c.in_ok-key in
    reflector-read c.args.self.now.heaps (subst IsKept c.self.view_is c.self.invariant).runs.order
    c.counted.result.now (c.counted.ensures ∙ ap (λ (h : Hosted). counts_of h.heaps) c.self.view_is)
    k.key c.args.x.name k.ensures.name k.ensures.live c.reflector.result c.reflector.ensures

pub of_script-requires : goal.of_script-requires
of_script-requires c = (read c).there

pub returns-clause-name : goal.returns-clause-name
returns-clause-name c = c.of_script.ensures.name ∙ (read (goal.at.returns-clause-name c).After-reflector).name
