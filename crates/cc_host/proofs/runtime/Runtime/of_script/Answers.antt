use Rattle.std.proofs.Common.{List, ◌∙◌, ap, subst, sym}
use Rattle.cc_script.specs.Objects as objects
use Rattle.cc_host.specs.Hosted.{Hosted, IsKept}
use Rattle.cc_host.proofs.Finding.{script-found}
use Rattle.cc_host.proofs.runtime.Runtime.of_script.Goals as goal

pub returns-clause-there : goal.returns-clause-there
returns-clause-there c =
    let key = c.in_ok-key.key.0 in (
      ap (λ (h : Hosted). h.mark) c.self.view_is,
      script-found c.args.self.now (subst IsKept c.self.view_is c.self.invariant) (record { name = c.name.result; key = key; mark = c.self.inside.mark })
          (ap (λ (h : Hosted). objects.name_at h.heaps.scripts key) (sym c.self.view_is)
          ∙ (ap (λ (os : List objects.Object). objects.name_at os key) (sym c.scripts.ensures) ∙ c.name.ensures)),
    )
