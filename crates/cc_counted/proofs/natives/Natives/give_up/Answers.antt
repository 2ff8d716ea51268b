use Rattle.std.proofs.Common.{◌≡◌, ◌≤◌, ℕ, [], ◌∷◌, ◌++◌, List, true, ap, arith, sym, subst, ◌∙◌}
use Rattle.cc_lists.specs.Members.{Among}
use Rattle.cc_purple.specs.Marks.{with_mark, without_key}
use Rattle.cc_counted.specs.Stored.{Stored, with_queue, with_marks}
use Rattle.cc_counted.proofs.StepsOf.{count-placed, GivesUp-suspected, GivesUp-waiting, counted, idle}
use Rattle.cc_counted.proofs.natives.Natives.give_up.Goals as goal

pub lower-requires : goal.lower-requires
lower-requires c =
    let (owned, placed, at, balance) = c.requires.balanced in
    omega (arith, count-placed c.args.self.now.lists c.requires.placed c.args.key.0 placed at, counted c.args.self.now.lists c.requires.placed c.args.key.0 placed at owned balance)

pub wait-requires-clause-queue : goal.wait-requires-clause-queue
wait-requires-clause-queue c =
    let (owned, placed, at, balance) = c.requires.balanced in
    let same : c.forget.new.self.lists.queue ≡ c.args.self.now.lists.queue = ap (λ (s : Stored). s.lists.queue) c.forget.ensures ∙ ap (λ (s : Stored). s.lists.queue) c.lower.ensures.lists in
    subst (λ (ks : List ℕ). ¬ (Among c.args.key.0 ks)) (sym same) (idle c.args.self.now.lists c.requires.placed c.args.key.0 placed at owned balance)

pub returns-then-lower-gt0 : goal.returns-then-lower-gt0
returns-then-lower-gt0 c =
    let l = c.args.self.now.lists in
    let (owned, placed, at, balance) = c.requires.balanced in
    let more : 2 ≤ placed.count = omega (arith, c.lower.ensures.count, count-placed l c.requires.placed c.args.key.0 placed at, c.if-lower-gt0.true) in
    GivesUp-suspected l c.requires.placed c.args.key.0 placed at more c.suspect.new.self.lists
    (ap (λ (s : Stored). s.lists) (c.suspect.ensures ∙ ap (with_marks (with_mark true c.args.key.0)) c.lower.ensures.lists))

pub returns-else-lower-gt0 : goal.returns-else-lower-gt0
returns-else-lower-gt0 c =
    let l = c.args.self.now.lists in
    let (owned, placed, at, balance) = c.requires.balanced in
    let one : placed.count ≡ 1 = omega (arith, c.lower.ensures.count, count-placed l c.requires.placed c.args.key.0 placed at, c.if-lower-gt0.false) in
    GivesUp-waiting l c.requires.placed c.args.key.0 placed at one c.wait.new.self.lists
    (ap (λ (s : Stored). s.lists) (c.wait.ensures
    ∙ ap (with_queue (λ keys. keys ++ c.args.key.0 ∷ [])) (c.forget.ensures ∙ ap (with_marks (without_key c.args.key.0)) c.lower.ensures.lists)))
