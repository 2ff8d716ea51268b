use Rattle.std.proofs.Common.{◌∙◌, length, List, ap, subst}
use Rattle.cc_script.specs.Objects.{Object}
use Rattle.cc_host.specs.Hosted.{Hosted, IsKept}
use Rattle.cc_host.proofs.Counting.{scripts-many}
use Rattle.cc_host.proofs.runtime.Runtime.scripts.Goals as goal

pub returns : goal.returns
returns c =
    c.len.ensures
    ∙ ap (λ (s : List Object). length s) (c.scripts.ensures ∙ ap (λ (h : Hosted). h.heaps.scripts) c.self.view_is)
    ∙ scripts-many c.args.self.now.heaps (subst IsKept c.self.view_is c.self.invariant).runs.order
