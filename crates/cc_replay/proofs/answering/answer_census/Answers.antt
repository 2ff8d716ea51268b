use Rattle.std.proofs.Common.{ℕ, [], ◌∷◌, subst}
use Rattle.cc_model.specs.declared.item.Item.TheVariants.{Reply}
use Rattle.cc_model.specs.declared.item.Reply.TheVariants.{Census}
use Rattle.cc_model.specs.Telling.{Tells}
use Rattle.cc_replay.specs.Beside.{machine_beside}
use Rattle.cc_replay.proofs.Replying.{answered-census}
use Rattle.cc_replay.proofs.answering.answer_census.Goals as goal

pub returns : goal.returns
returns g c = λ b weak.
    let telling = g.N.Notices.telling in
    answered-census (machine_beside c.args.heaps.now b weak) (telling c.args.out.now) (telling c.census-count.new.out) (telling c.tell.new.self) c.census-count.ensures.told
    (subst (λ (n : ℕ). Tells (telling c.census-count.new.out) (telling c.tell.new.self) (Reply (Census n) ∷ [])) c.census-count.ensures.count c.tell.ensures)
