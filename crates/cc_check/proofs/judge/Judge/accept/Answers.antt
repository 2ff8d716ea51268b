use Rattle.std.proofs.Common.{◌≡◌, ℕ, true, false, List, [], ◌∷◌, refl, sym, ap, ◌∙◌, subst}
use Rattle.std.specs.Prelude.{◌↔◌}
use Rattle.cc_model.specs.Asks.{Ask}
use Rattle.cc_verdict.specs.Following.{Follows, Recites, Place}
use Rattle.cc_verdict.specs.GoingOn.{CanAnswer, CanGoOn}
use Rattle.cc_verdict.specs.Positions.{Position, GoesOn, reciting, within}
use Rattle.cc_check.specs.declared.judge.Judge.{Judge}
use Rattle.cc_check.specs.declared.script.Script.{Script}
use Rattle.cc_check.specs.Judging.{GoesAlong, IsJudged, MayAnswer, MayGoOn, from_next}
use Rattle.cc_check.specs.Standing.{ask_meant, asks_left, hearing_in, place_of, position_in, position_of}
use Rattle.cc_check.proofs.Ahead.{can-next}
use Rattle.cc_check.proofs.Judged.{IfOk-at, OnOk-then, between, judged-kept, nothing_left, refused-same}
use Rattle.cc_check.proofs.Unread.{next-unread}
use Rattle.cc_check.proofs.Passing.{Follows-from_next, PassesOver, stands}
use Rattle.cc_check.proofs.judge.Judge.accept.Goals as goal

-- between two answers the lines go on that may follow from the next ask on
next-on : (j : Judge) (asks : List Ask) (lines : List (List ℕ)) → position_of j ≡ reciting [] (place_of j) →
    ((p : Place) (asks : List Ask) (lines : List (List ℕ)) → Recites [] p asks lines ↔ Follows p asks lines) → PassesOver →
    GoesOn (position_of j) asks lines ↔ Follows (place_of j) (from_next asks) lines
next-on j asks lines stands recited passes =
    let b = between (position_of j) (place_of j) stands recited asks lines in
    let n = Follows-from_next passes (place_of j) asks lines in
    ((λ g. n.0 (b.0 g)), (λ f. b.1 (n.1 f)))

-- the script is not read on
along-same : (t : Script) → GoesAlong t t
along-same t = λ asks e. e

pub hear_within-requires-clause-can : goal.hear_within-requires-clause-can
hear_within-requires-clause-can c = λ r.
    let can : CanGoOn (within (hearing_in c.args.self.now c.in-Some.answer)) (asks_left c.args.script.now) =
    subst (λ (p : Position). CanGoOn p (asks_left c.args.script.now)) (ap (position_in c.args.self.now) c.in-Some.is) c.requires.can in
    can r

pub begin-requires-clause-quiet : goal.begin-requires-clause-quiet
begin-requires-clause-quiet c =
    let j = c.args.self.now in
    let here : position_of j ≡ reciting [] (place_of j) = stands j c.in_default.is (nothing_left j.recital (sym c.is_empty.ensures ∙ c.if-not-is_empty.false)) in
    let can : CanAnswer (place_of j) (asks_left c.args.script.now) = subst (λ (p : Position). CanGoOn p (asks_left c.args.script.now)) here c.requires.can in
    can-next (place_of j) (asks_left c.args.script.now) (asks_left c.next_asked.new.script) (ask_meant c.in-Some-next_asked.asked) c.in-Some-next_asked.ensures.some can

pub returns-in-Some-clause-kept : goal.returns-in-Some-clause-kept
returns-in-Some-clause-kept c = judged-kept c.args.heard (MayGoOn (hearing_in c.args.self.now c.in-Some.answer)) c.hear_within.new.self c.hear_within.result c.hear_within.ensures.judged

pub returns-in-Some-clause-stands : goal.returns-in-Some-clause-stands
returns-in-Some-clause-stands c = λ e line lines n.
    let h = hearing_in c.args.self.now c.in-Some.answer in
    let judged = IfOk-at c.hear_within.result (IsJudged c.args.heard (MayGoOn h) c.hear_within.new.self) false c.hear_within.ensures.judged e in
    subst (λ (p : Position). GoesOn p (asks_left c.args.script.now) (line ∷ lines) ↔ GoesOn (position_of c.hear_within.new.self) (asks_left c.args.script.now) (line ∷ lines))
    (sym (ap (position_in c.args.self.now) c.in-Some.is)) (judged.stands refl (asks_left c.args.script.now) line lines n)

pub returns-in-Some-clause-refused : goal.returns-in-Some-clause-refused
returns-in-Some-clause-refused c = λ e line hd.
    let h = hearing_in c.args.self.now c.in-Some.answer in
    let judged = IfOk-at c.hear_within.result (IsJudged c.args.heard (MayGoOn h) c.hear_within.new.self) false c.hear_within.ensures.judged e in
    judged.refused refl (asks_left c.args.script.now) line hd

pub returns-then-not-is_empty-clause-stands : goal.returns-then-not-is_empty-clause-stands
returns-then-not-is_empty-clause-stands c = λ e line lines n.
    let j = c.args.self.now in
    let no : c.recite.result ≡ false = cc in
    subst (λ (p : Position). GoesOn p (asks_left c.args.script.now) (line ∷ lines) ↔ GoesOn (position_of c.recite.new.self) (asks_left c.args.script.now) (line ∷ lines))
    (sym (ap (position_in j) c.in_default.is)) (c.recite.ensures.judged.stands no (asks_left c.args.script.now) line lines n)

pub returns-then-not-is_empty-clause-refused : goal.returns-then-not-is_empty-clause-refused
returns-then-not-is_empty-clause-refused c = λ e line hd.
    let no : c.recite.result ≡ false = cc in
    c.recite.ensures.judged.refused no (asks_left c.args.script.now) line hd

pub returns-in-Some-next_asked-clause-kept : goal.returns-in-Some-next_asked-clause-kept
returns-in-Some-next_asked-clause-kept c =
    judged-kept c.args.heard (MayAnswer (place_of c.args.self.now) (ask_meant c.in-Some-next_asked.asked)) c.begin.new.self c.begin.result c.begin.ensures.judged

pub returns-in-Some-next_asked-clause-stands : goal.returns-in-Some-next_asked-clause-stands
returns-in-Some-next_asked-clause-stands c = λ e line lines n.
    let j = c.args.self.now in
    let asked = ask_meant c.in-Some-next_asked.asked in
    let left = asks_left c.next_asked.new.script in
    let judged : IsJudged c.args.heard (MayAnswer (place_of j) asked) c.begin.new.self false =
    IfOk-at c.begin.result (IsJudged c.args.heard (MayAnswer (place_of j) asked) c.begin.new.self) false c.begin.ensures.judged e in
    let y = judged.stands refl left line lines n in
    let on = subst (λ (asks : List Ask). GoesOn (position_of j) (asks_left c.args.script.now) (line ∷ lines) ↔ Follows (place_of j) asks (line ∷ lines))
    c.in-Some-next_asked.ensures.some
    (next-on j (asks_left c.args.script.now) (line ∷ lines) (stands j c.in_default.is (nothing_left j.recital (sym c.is_empty.ensures ∙ c.if-not-is_empty.false)))
    c.answers_are_recited_line_by_line.ensures.nothing c.lines_that_ask_nothing_have_no_answer.ensures.nothing) in
    ((λ g. y.0 (on.0 g)), (λ g. on.1 (y.1 g)))

pub returns-in-Some-next_asked-clause-refused : goal.returns-in-Some-next_asked-clause-refused
returns-in-Some-next_asked-clause-refused c = λ e line hd.
    let asked = ask_meant c.in-Some-next_asked.asked in
    let judged : IsJudged c.args.heard (MayAnswer (place_of c.args.self.now) asked) c.begin.new.self false =
    IfOk-at c.begin.result (IsJudged c.args.heard (MayAnswer (place_of c.args.self.now) asked) c.begin.new.self) false c.begin.ensures.judged e in
    judged.refused refl (asks_left c.next_asked.new.script) line hd

pub returns-in-None-clause-stands : goal.returns-in-None-clause-stands
returns-in-None-clause-stands c = λ e line lines n.
    subst (λ (t : Script). GoesOn (position_of c.args.self.now) (asks_left c.args.script.now) (line ∷ lines) ↔ GoesOn (position_of c.args.self.now) (asks_left t) (line ∷ lines))
    (sym c.in-None.ensures.stays) ((λ g. g), (λ g. g))

pub returns-in-None-clause-refused : goal.returns-in-None-clause-refused
returns-in-None-clause-refused c = λ e line hd.
    let j = c.args.self.now in
    let here = stands j c.in_default.is (nothing_left j.recital (sym c.is_empty.ensures ∙ c.if-not-is_empty.false)) in
    refused-same (position_of j) (reciting [] (place_of j)) (asks_left c.next_asked.new.script) line here
    (ap (λ (t : Script). from_next (asks_left t)) c.in-None.ensures.stays ∙ c.in-None.ensures.none)

pub returns-in-Some-next_asked-clause-yes : goal.returns-in-Some-next_asked-clause-yes
returns-in-Some-next_asked-clause-yes c = λ e line lines hd.
    let j = c.args.self.now in
    let asked = ask_meant c.in-Some-next_asked.asked in
    let left = asks_left c.next_asked.new.script in
    let judged : IsJudged c.args.heard (MayAnswer (place_of j) asked) c.begin.new.self true =
    IfOk-at c.begin.result (IsJudged c.args.heard (MayAnswer (place_of j) asked) c.begin.new.self) true c.begin.ensures.judged e in
    let y = judged.yes refl left line lines hd in
    let on = subst (λ (asks : List Ask). GoesOn (position_of j) (asks_left c.args.script.now) (line ∷ lines) ↔ Follows (place_of j) asks (line ∷ lines))
    c.in-Some-next_asked.ensures.some
    (next-on j (asks_left c.args.script.now) (line ∷ lines) (stands j c.in_default.is (nothing_left j.recital (sym c.is_empty.ensures ∙ c.if-not-is_empty.false)))
    c.answers_are_recited_line_by_line.ensures.nothing c.lines_that_ask_nothing_have_no_answer.ensures.nothing) in
    ((λ g. y.0 (on.0 g)), (λ g. on.1 (y.1 g)))

pub returns-in-Some-next_asked-clause-no : goal.returns-in-Some-next_asked-clause-no
returns-in-Some-next_asked-clause-no c = λ e line lines hd g.
    let j = c.args.self.now in
    let asked = ask_meant c.in-Some-next_asked.asked in
    let left = asks_left c.next_asked.new.script in
    let judged : IsJudged c.args.heard (MayAnswer (place_of j) asked) c.begin.new.self false =
    IfOk-at c.begin.result (IsJudged c.args.heard (MayAnswer (place_of j) asked) c.begin.new.self) false c.begin.ensures.judged e in
    let on = subst (λ (asks : List Ask). GoesOn (position_of j) (asks_left c.args.script.now) (line ∷ lines) ↔ Follows (place_of j) asks (line ∷ lines))
    c.in-Some-next_asked.ensures.some
    (next-on j (asks_left c.args.script.now) (line ∷ lines) (stands j c.in_default.is (nothing_left j.recital (sym c.is_empty.ensures ∙ c.if-not-is_empty.false)))
    c.answers_are_recited_line_by_line.ensures.nothing c.lines_that_ask_nothing_have_no_answer.ensures.nothing) in
    judged.no refl left line lines hd (on.0 g)

pub returns-in-None-clause-no : goal.returns-in-None-clause-no
returns-in-None-clause-no c = λ e line lines hd g.
    let j = c.args.self.now in
    let on = subst (λ (asks : List Ask). GoesOn (position_of j) (asks_left c.args.script.now) (line ∷ lines) ↔ Follows (place_of j) asks (line ∷ lines))
    c.in-None.ensures.none
    (next-on j (asks_left c.args.script.now) (line ∷ lines) (stands j c.in_default.is (nothing_left j.recital (sym c.is_empty.ensures ∙ c.if-not-is_empty.false)))
    c.answers_are_recited_line_by_line.ensures.nothing c.lines_that_ask_nothing_have_no_answer.ensures.nothing) in
    let over : line ∷ lines ≡ [] = (c.lines_that_ask_nothing_have_no_answer.ensures.over (place_of j) (line ∷ lines)).0 (on.0 g) in
    absurd (cc)

pub returns-in-Some-next_asked-clause-reads : goal.returns-in-Some-next_asked-clause-reads
returns-in-Some-next_asked-clause-reads c = OnOk-then c.begin.result _ _
    (λ reads unread none. reads unread
    (next-unread (asks_left c.args.script.now) (asks_left c.next_asked.new.script) (ask_meant c.in-Some-next_asked.asked) none c.in-Some-next_asked.ensures.some))
    c.begin.ensures.reads
