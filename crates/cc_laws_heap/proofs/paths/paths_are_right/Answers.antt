use Rattle.std.proofs.lemmas.Bool.{cases_Bool}
use Rattle.std.proofs.Common.{⊎_elim}
use Rattle.cc_model.specs.Derivations.{leads_made, is_led_to}
use Rattle.cc_model.proofs.Derivations.{not_led-path}
use Rattle.cc_model.proofs.PathsFollow.{led-reached, path-is_right, path-reached}
use Rattle.cc_laws_heap.proofs.LedReached.{reached-led, led-reached_in, reached_in-led}
use Rattle.cc_laws_heap.proofs.paths.paths_are_right.Goals as goal

pub returns-clause-led : goal.returns-clause-led
returns-clause-led c = λ g x m. (led-reached g x, reached-led g m x)

pub returns-clause-led_in : goal.returns-clause-led_in
returns-clause-led_in c = λ h x w. (led-reached_in h w x, reached_in-led h w x)

pub returns-clause-path : goal.returns-clause-path
returns-clause-path c = λ g x m r. path-is_right g x (reached-led g m x r)

pub returns-clause-no_steps : goal.returns-clause-no_steps
returns-clause-no_steps c = λ g x never. ⊎_elim (λ e. absurd (never (led-reached g x e))) (not_led-path (leads_made g) x) (cases_Bool (is_led_to (leads_made g) x))

pub returns-clause-no_path : goal.returns-clause-no_path
returns-clause-no_path c = λ g x steps p. path-reached g x steps p
