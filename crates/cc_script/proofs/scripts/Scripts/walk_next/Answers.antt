use Rattle.std.proofs.Common.{◌≡◌, List, IfNone, subst}
use Rattle.cc_script.specs.Objects.{Object, NoObjectWaits}
use Rattle.cc_script.specs.Parts.{shows}
use Rattle.cc_script.proofs.scripts.Scripts.walk_next.Goals as goal

pub returns-clause-none : goal.returns-clause-none
returns-clause-none c =
    subst (λ (objects : List Object). IfNone c.walk_next.result (NoObjectWaits objects × (shows c.walk_next.new.self ≡ objects))) c.self.view_is c.walk_next.ensures.none
