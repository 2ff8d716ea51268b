use Rattle.std.proofs.Common.{◌≡◌, Some, ap, sym, ◌∙◌, arith}
use Rattle.cc_model.specs.declared.item.Refusal.TheVariants.{NoMemory}
use Rattle.cc_model.specs.declared.item.Reply.TheVariants.{Refused}
use Rattle.cc_model.specs.Run.{do_ask, Turn}
use Rattle.cc_laws_run.specs.Memory.{noes_of_reply, noes, with_memory}
use Rattle.cc_laws_run.proofs.Unabandoned.{none-abandoned}
use Rattle.cc_laws_run.proofs.AsksUse.{ask-use}
use Rattle.cc_laws_run.proofs.Ample.{turns-ample}
use Rattle.cc_laws_run.proofs.RefusedUnits.{refused_begin-leaves, refused_node-gives_back, give_back-purple}
use Rattle.cc_laws_run.proofs.memory.memory_decides_nothing_else.Goals as goal

pub returns-clause-replies : goal.returns-clause-replies
returns-clause-replies c = λ m ask e wanted.
    let none : 0 ≡ noes_of_reply (Some (Refused NoMemory)) = sym ((ask-use m ask).ample (ap noes e)).reply ∙ ap noes_of_reply wanted in
    omega (arith, none)

pub returns-clause-none_abandoned : goal.returns-clause-none_abandoned
returns-clause-none_abandoned c = λ m ask e. none-abandoned (do_ask m ask).answer.events ((ask-use m ask).ample (ap noes e)).events

pub returns-clause-memory_stays : goal.returns-clause-memory_stays
returns-clause-memory_stays c = λ m ask e. ap (λ memory. (do_ask (with_memory m memory) ask).machine.memory) e ∙ ap (λ (t : Turn). t.machine.memory) ((ask-use m ask).ample (ap noes e)).same

pub returns-clause-ample : goal.returns-clause-ample
returns-clause-ample c = turns-ample

pub returns-clause-refused_begin : goal.returns-clause-refused_begin
returns-clause-refused_begin c = λ h memory e. refused_begin-leaves h memory e

pub returns-clause-refused_node : goal.returns-clause-refused_node
returns-clause-refused_node c = λ h s memory e. refused_node-gives_back h s memory e

pub returns-clause-given_back : goal.returns-clause-given_back
returns-clause-given_back c = λ h candidates k m there. give_back-purple h candidates k m there
