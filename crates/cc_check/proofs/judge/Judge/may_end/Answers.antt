use Rattle.std.proofs.Common.{◌≡◌, ℕ, Bool, true, false, not, List, [], ◌∷◌, Option, Some, None, is_some, refl, sym, ◌∙◌, ap, subst}
use Rattle.std.specs.Prelude.{◌↔◌, IfNone, IfSome, IsTrue}
use Rattle.std.proofs.lemmas.Bool.{true≢false, false≢true}
use Rattle.cc_model.specs.Asks.{Ask}
use Rattle.cc_verdict.specs.Following.{Follows, Place}
use Rattle.cc_check.specs.declared.asked.Asked.{Asked}
use Rattle.cc_check.specs.Judging.{asks_nothing, from_next}
use Rattle.cc_check.specs.Standing.{ask_meant, asks_left, place_of, position_of}
use Rattle.cc_check.proofs.Judged.{between, nothing_left, something_left}
use Rattle.cc_check.proofs.Over.{LawsOfEnds, asked-end, heard-end, left-end}
use Rattle.cc_check.proofs.Passing.{Follows-from_next, stands}
use Rattle.cc_check.proofs.judge.Judge.may_end.Goals as goal
use Rattle.cc_check.proofs.judge.Judge.may_end.Goals.{then-is_none, else-is_none}

none-is : {X : Type 0} (o : Option X) (b : Bool) → is_some o ≡ not b → b ≡ true → o ≡ None
none-is None b e f = refl
none-is (Some x) b e f = absurd (true≢false (e ∙ ap not f))

some-is : {X : Type 0} (o : Option X) (b : Bool) → is_some o ≡ not b → b ≡ false → (x : X) × (o ≡ Some x)
some-is (Some x) b e f = (x, refl)
some-is None b e f = absurd (false≢true (e ∙ ap not f))

-- between two answers a transcript may end where nothing is asked any more
ends-there : (laws : LawsOfEnds) (p : Place) (asks left : List Ask) (o : Option Asked) (b : Bool) → is_some o ≡ not b →
    IfSome o (λ asked. from_next asks ≡ ask_meant asked ∷ left) → IfSome o (λ asked. asks_nothing (ask_meant asked) ≡ false) →
    IfNone o (from_next asks ≡ []) → (Follows p [] [] ↔ (◌≡◌ {A = List (List ℕ)} [] [])) → IsTrue b ↔ Follows p (from_next asks) []
ends-there laws p asks left None true e some answered none over = ((λ _. subst (λ (those : List Ask). Follows p those []) (sym none) (over.1 refl)), (λ _. refl))
ends-there laws p asks left None false e some answered none over = absurd (false≢true e)
ends-there laws p asks left (Some asked) true e some answered none over = absurd (true≢false e)
ends-there laws p asks left (Some asked) false e some answered none over = (
  (λ no_end. absurd (false≢true no_end)),
  (λ f. absurd (asked-end laws p (ask_meant asked) left answered (subst (λ (those : List Ask). Follows p those []) some f))),
)

pub returns-then-is_empty : goal.returns-then-is_empty
returns-then-is_empty c = elim c.if-is_none.branch [
  | then-is_none w ↦
      let j = c.args.self.now in
      let laws : LawsOfEnds = record {
        recited = c.answers_are_recited_line_by_line.ensures.end;
        heard = c.answers_are_heard_line_by_line.ensures.end;
        long = c.exact_answers_are_recited.ensures.long;
        bad = c.exact_answers_are_recited.ensures.bad;
        census = c.exact_answers_are_recited.ensures.census;
        unquiet = c.exact_answers_are_recited.ensures.unquiet;
        reasons = c.reasons_are_recited.ensures.end;
        others = c.answers_are_heard.ensures.end;
      } in
      let answer = none-is j.answer c.is_none.result c.is_none.ensures w.if-is_none.true in
      let recital = nothing_left j.recital (sym w.is_empty.ensures ∙ (sym w.value-is ∙ c.if-is_empty.true)) in
      let on = between (position_of j) (place_of j) (stands j answer recital) c.answers_are_recited_line_by_line.ensures.nothing (asks_left c.args.script.now) [] in
      let n = Follows-from_next c.lines_that_ask_nothing_have_no_answer.ensures.nothing (place_of j) (asks_left c.args.script.now) [] in
      let t = ends-there laws (place_of j) (asks_left c.args.script.now) (asks_left c.next_asked.new.script) c.next_asked.result c.is_none-then-is_empty.result
      c.is_none-then-is_empty.ensures c.next_asked.ensures.some c.next_asked.ensures.answered c.next_asked.ensures.none
      (c.lines_that_ask_nothing_have_no_answer.ensures.over (place_of j) []) in
      ((λ yes. on.1 (n.1 (t.0 yes))), (λ g. t.1 (n.0 (on.0 g))))
  | else-is_none w ↦ absurd (true≢false (sym c.if-is_empty.true ∙ (w.value-is ∙ w.if-is_none.false)))
]

pub returns-else-is_empty : goal.returns-else-is_empty
returns-else-is_empty c =
    let j = c.args.self.now in
    let laws : LawsOfEnds = record {
      recited = c.answers_are_recited_line_by_line.ensures.end;
      heard = c.answers_are_heard_line_by_line.ensures.end;
      long = c.exact_answers_are_recited.ensures.long;
      bad = c.exact_answers_are_recited.ensures.bad;
      census = c.exact_answers_are_recited.ensures.census;
      unquiet = c.exact_answers_are_recited.ensures.unquiet;
      reasons = c.reasons_are_recited.ensures.end;
      others = c.answers_are_heard.ensures.end;
    } in (
      (λ yes. absurd (true≢false (sym yes ∙ c.if-is_empty.false))),
      (λ g. elim c.if-is_none.branch [
        | then-is_none w ↦ absurd (left-end laws j (asks_left c.args.script.now) (something_left j.recital (sym w.is_empty.ensures ∙ (sym w.value-is ∙ c.if-is_empty.false))) g)
        | else-is_none w ↦ let a = some-is j.answer c.is_none.result c.is_none.ensures w.if-is_none.false in
            absurd (heard-end laws j a.0 (asks_left c.args.script.now) a.1 g)
      ]),
    )
