use Rattle.std.proofs.Common.{◌∙◌, ap, subst}
use Rattle.cc_heaps.specs.Keyed.{counts_of}
use Rattle.cc_host.specs.Hosted.{Hosted, IsKept}
use Rattle.cc_host.proofs.Reading.{native_slots-many, script_slots-many}
use Rattle.cc_host.proofs.runtime.Runtime.count_slots.Goals as goal

pub returns-in-Ok : goal.returns-in-Ok
returns-in-Ok c =
    c.slots.ensures
    ∙ native_slots-many c.args.self.now (subst IsKept c.self.view_is c.self.invariant) c.args.x c.in-Ok.key c.in-Ok.ensures.name
    c.counted.result.now (c.counted.ensures ∙ ap (λ (h : Hosted). counts_of h.heaps) c.self.view_is)

pub returns-in-Ok-script : goal.returns-in-Ok-script
returns-in-Ok-script c =
    c.slots-in-Ok-script.ensures
    ∙ script_slots-many c.args.self.now (subst IsKept c.self.view_is c.self.invariant) c.args.x c.in-Ok-script.key c.in-Ok-script.ensures.name
    c.scripts.result.now (c.scripts.ensures ∙ ap (λ (h : Hosted). h.heaps.scripts) c.self.view_is)
