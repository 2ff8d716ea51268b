use Rattle.std.proofs.Common.{◌≡◌, ◌-◌, List, ◌∷◌, reverse, take, sym, ◌∙◌, ap, subst, arith}
use Rattle.std.proofs.lemmas.Bool.{true≢false, false≢true}
use Rattle.cc_model.specs.declared.item.Item.{Item}
use Rattle.cc_verdict.specs.Following.{Recites}
use Rattle.cc_verdict.specs.Positions.{Position, GoesOn, reciting}
use Rattle.cc_check.specs.Standing.{IsGranted, IsNewIn, ListsAllOf, place_of, position_in, position_of}
use Rattle.cc_check.proofs.Kept.{all-of}
use Rattle.cc_check.proofs.Judged.{last-first, refused-same, stands-same}
use Rattle.cc_check.proofs.judge.Judge.recite.Goals as goal

pub returns-then-not-is-clause-judged : goal.returns-then-not-is-clause-judged
returns-then-not-is-clause-judged c =
    let j = c.args.self.now in
    let i = c.index.result.now in
    let rest = reverse (take (c.len-last.result - 1) j.recital.items) in
    let left : reverse j.recital.items ≡ i ∷ rest = last-first j.recital.items (c.len-last.result - 1) i (omega arith) c.index.ensures in
    let there : position_of j ≡ reciting (reverse j.recital.items) (place_of j) = ap (position_in j) c.requires.answer in
    let here : position_of j ≡ reciting (i ∷ rest) (place_of j) = there ∙ ap (λ (is : List Item). reciting is (place_of j)) left in
    record {
      kept = c.requires.kept;
      yes = λ yes. absurd (false≢true yes);
      no = λ no asks line lines hd r.
          let first = (c.answers_are_recited_line_by_line.ensures.line i rest (place_of j) asks line lines).0 (subst (λ (is : List Item). Recites is (place_of j) asks (line ∷ lines)) left r) in
          true≢false (sym ((c.is.ensures line hd).1 first.0) ∙ c.if-not-is.true);
      stands = λ no. stands-same (position_of j) (reciting (reverse j.recital.items) (place_of j)) there;
      refused = λ no asks line hd. refused-same (position_of j) (reciting (i ∷ rest) (place_of j)) asks line here
          (λ e. true≢false (sym ((c.is.ensures line hd).1 e) ∙ c.if-not-is.true));
    }

pub returns-clause-judged : goal.returns-clause-judged
returns-clause-judged c =
    let j = c.args.self.now in
    let i = c.index.result.now in
    let rest = reverse (take (c.len-last.result - 1) j.recital.items) in
    let left : reverse j.recital.items ≡ i ∷ rest = last-first j.recital.items (c.len-last.result - 1) i (omega arith) c.index.ensures in
    let new = record j { recital = c.truncate.new.self } in
    let there : position_of new ≡ reciting rest (place_of j) =
    ap (position_in new) c.requires.answer ∙ ap (λ (is : List Item). reciting (reverse is) (place_of j)) c.truncate.ensures.items in
    record {
      kept = record {
        well_made = c.requires.kept.well_made;
        limits = c.requires.kept.limits;
        listed = c.requires.kept.listed;
        new = subst (IsNewIn new) (sym c.requires.answer) tt;
        granted = subst IsGranted (sym c.requires.answer) tt;
        all_listed = λ unread. subst (ListsAllOf new) (sym c.requires.answer) (all-of j c.requires.kept unread c.requires.answer);
        known = c.requires.kept.known;
      };
      yes = λ yes asks line lines hd.
          let law = c.answers_are_recited_line_by_line.ensures.line i rest (place_of j) asks line lines in
          let is = (c.is.ensures line hd).0 c.if-not-is.false in (
            (λ r. subst (λ (q : Position). GoesOn q asks lines) (sym there) (law.0 (subst (λ (is : List Item). Recites is (place_of j) asks (line ∷ lines)) left r)).1),
            (λ g. subst (λ (is : List Item). Recites is (place_of j) asks (line ∷ lines)) (sym left) (law.1 (is, subst (λ (q : Position). GoesOn q asks lines) there g))),
          );
      no = λ no. absurd (true≢false no);
      stands = λ no. absurd (true≢false no);
      refused = λ no. absurd (true≢false no);
    }
