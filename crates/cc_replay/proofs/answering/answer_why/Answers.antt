use Rattle.std.proofs.Common.{Bool, [], ◌∷◌, sym, ◌∙◌, subst}
use Rattle.cc_model.specs.declared.item.Item.TheVariants.{Reply}
use Rattle.cc_model.specs.declared.item.Refusal.TheVariants.{NoMemory}
use Rattle.cc_model.specs.declared.item.Reply.TheVariants.{Refused}
use Rattle.cc_model.specs.Telling.{Telling, Tells}
use Rattle.cc_model.specs.Derivations.{done_or_nothing}
use Rattle.cc_replay.specs.Beside.{machine_beside}
use Rattle.cc_replay.proofs.Replying.{answered-no_memory, answered-why}
use Rattle.cc_replay.proofs.answering.answer_why.Goals as goal

pub returns-in-Ok-true : goal.returns-in-Ok-true
returns-in-Ok-true g c = λ b weak.
    let telling = g.N.Notices.telling in
    answered-why (machine_beside c.args.heaps.now b weak) c.args.name.now (telling c.args.out.now) (telling c.why.new.out) (telling c.tell.new.self) c.in-Ok-true.ensures.told
    (subst (λ (found : Bool). Tells (telling c.why.new.out) (telling c.tell.new.self) (Reply (done_or_nothing found) ∷ []))
    (sym c.in-Ok-true.field-0-test ∙ c.in-Ok-true.ensures.found) c.tell.ensures)

pub returns-in-Ok-false : goal.returns-in-Ok-false
returns-in-Ok-false g c = λ b weak.
    let telling = g.N.Notices.telling in
    answered-why (machine_beside c.args.heaps.now b weak) c.args.name.now (telling c.args.out.now) (telling c.why.new.out) (telling c.tell-in-Ok-false.new.self) c.in-Ok-false.ensures.told
    (subst (λ (found : Bool). Tells (telling c.why.new.out) (telling c.tell-in-Ok-false.new.self) (Reply (done_or_nothing found) ∷ []))
    (sym c.in-Ok-false.field-0-test ∙ c.in-Ok-false.ensures.found) c.tell-in-Ok-false.ensures)

pub returns-in-Err : goal.returns-in-Err
returns-in-Err g c = λ b weak.
    let telling = g.N.Notices.telling in
    answered-no_memory (machine_beside c.args.heaps.now b weak) c.args.name.now (telling c.args.out.now) (telling c.tell-in-Err.new.self)
    (subst (λ (t : Telling). Tells t (telling c.tell-in-Err.new.self) (Reply (Refused NoMemory) ∷ [])) c.in-Err.ensures.err c.tell-in-Err.ensures)
