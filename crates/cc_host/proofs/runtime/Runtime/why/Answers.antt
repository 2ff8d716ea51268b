use Rattle.std.proofs.Common.{◌≡◌, sym, ◌∙◌, subst}
use Rattle.cc_model.specs.Derivations.{is_led_to, leads_in}
use Rattle.cc_model.proofs.Derivations.{not_led-path}
use Rattle.cc_host.specs.Hosted.{Hosted, IsKept}
use Rattle.cc_host.proofs.Ways.{led-way, led-reached, ok-same}
use Rattle.cc_host.proofs.runtime.Runtime.why.Given as given
use Rattle.cc_host.proofs.runtime.Runtime.why.Goals as goal

-- what is answered, of the heaps as they are
led : (g : given.Over) (c : goal.In_ok-why g) → c.in_ok-why.field-0 ≡ is_led_to (leads_in c.args.self.now.heaps.heap) c.args.x.name
led g c = subst (λ (h : Hosted). c.in_ok-why.field-0 ≡ is_led_to (leads_in h.heaps.heap) c.args.x.name) c.self.view_is c.in_ok-why.ensures.found

pub returns-clause-reached : goal.returns-clause-reached
returns-clause-reached g c =
    led-reached c.args.self.now.heaps.heap c.args.x.name (subst IsKept c.self.view_is c.self.invariant).runs.order.sound.well_formed c.in_ok-why.field-0 (led g c)

pub returns-clause-way : goal.returns-clause-way
returns-clause-way g c = λ e. led-way c.args.self.now.heaps.heap c.args.x.name (sym (led g c) ∙ ok-same c.in_ok-why.field-0 _ e)

pub returns-clause-no_steps : goal.returns-clause-no_steps
returns-clause-no_steps g c = λ e. not_led-path (leads_in c.args.self.now.heaps.heap) c.args.x.name (sym (led g c) ∙ ok-same c.in_ok-why.field-0 _ e)
