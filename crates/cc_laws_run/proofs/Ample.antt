-- MEMORY THAT NEVER SAYS NO is as good as memory at every place.

use Rattle.std.proofs.Common.{◌≡◌, List, [], ◌∷◌, refl, sym, ◌∙◌, ap}
use Rattle.cc_model.specs.Answers.{Answer}
use Rattle.cc_model.specs.Asks.{Ask}
use Rattle.cc_model.specs.Collecting.{Machine}
use Rattle.cc_model.specs.Run.{Turn, do_ask, turns}
use Rattle.cc_laws_run.specs.Memory.{with_memory, noes}
use Rattle.cc_laws_run.proofs.AsksUse.{ask-use}

-- THE LAW
pub turns-ample : (m : Machine) (asks : List Ask) → noes m.memory ≡ 0 → turns m asks ≡ turns (with_memory m []) asks
turns-ample m [] ample = refl
turns-ample m (ask ∷ asks) ample =
    let a = (ask-use m ask).ample ample in
    let t = do_ask m ask in
    ap (λ (l : List Answer). t.answer ∷ l) (turns-ample t.machine asks a.memory)
    ∙ sym (ap (λ (u : Turn). u.answer ∷ turns u.machine asks) a.same)
