use Rattle.std.proofs.Common.{◌≡◌, false, map, sym, ◌∙◌, subst}
use Rattle.cc_model.specs.Answers.{item_of_step}
use Rattle.cc_model.specs.Derivations.{is_led_to, leads_in}
use Rattle.cc_model.specs.Telling.{Tells}
use Rattle.cc_model.proofs.Derivations.{not_led-path}
use Rattle.cc_model.proofs.Tellings.{Tells-nil}
use Rattle.cc_paths.proofs.explaining.why.Goals as goal

pub returns-then-not-has-clause-told : goal.returns-then-not-has-clause-told
returns-then-not-has-clause-told g c =
    let l = leads_in c.args.heaps.now.heap in
    let x = c.args.name.now in
    let out = g.N.Notices.telling c.args.out.now in
    let not : is_led_to l x ≡ false = sym c.in_ok-seek.ensures.led ∙ (sym c.has.ensures ∙ c.if-not-has.true) in
    subst (λ ss. Tells out out (map item_of_step ss)) (sym (not_led-path l x not)) (Tells-nil out)
