use Rattle.std.proofs.Common.{◌≡◌, Some, ◌∙◌, ap, subst}
use Rattle.cc_model.specs.Checks.{native_of}
use Rattle.cc_script.specs.Objects.{name_at}
use Rattle.cc_heaps.specs.Keyed.{counts_of}
use Rattle.cc_heaps.specs.Changes.{IsNativeThere, native_name}
use Rattle.cc_host.specs.Hosted.{Hosted, IsKept}
use Rattle.cc_host.proofs.ReadBeside.{preserved-read}
use Rattle.cc_host.proofs.runtime.Runtime.is_preserved.Goals as goal

pub returns-clause-preserved : goal.returns-clause-preserved
returns-clause-preserved c =
    let v = c.args.self.now.heaps in
    let k = c.in_ok-key in
    preserved-read v (subst IsKept c.self.view_is c.self.invariant).runs.order
    c.counted.result.now (c.counted.ensures ∙ ap (λ (h : Hosted). counts_of h.heaps) c.self.view_is)
    (name_at v.scripts k.key.0) c.args.x.name k.ensures.name c.in-Some.native
    (subst (λ (h : Hosted). native_name h.heaps (Some c.in-Some.native) ≡ native_of (name_at h.heaps.scripts k.key.0)) c.self.view_is c.in-Some.ensures.name)
    (subst (λ (h : Hosted). IsNativeThere h.heaps (Some c.in-Some.native)) c.self.view_is c.in-Some.ensures.there)
    c.preserved.result c.preserved.ensures
