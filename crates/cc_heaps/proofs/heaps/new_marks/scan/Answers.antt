use Rattle.std.proofs.Common.{◌≡◌, [], sym, ◌∙◌, subst}
use Rattle.std.specs.Prelude.{IfSome}
use Rattle.cc_model.specs.Marking.{NewMarks}
use Rattle.cc_heaps.specs.NewMarks.{marks_held}
use Rattle.cc_heaps.proofs.Remarked.{remarked-same}
use Rattle.cc_heaps.proofs.ScannedOne.{black-scanned, gray-scanned, nothing-scanned}
use Rattle.cc_heaps.proofs.heaps.new_marks.scan.Goals as goal

pub returns-in-Some-clause-marks : goal.returns-in-Some-clause-marks
returns-in-Some-clause-marks c =
    black-scanned c.args.scripts.now (c.requires.going_on.one_key, c.requires.going_on.one_name) c.in-Some.key.0 c.in-Some.ensures.there
    (marks_held c.args.scripts.now c.args.to_scan.now) (marks_held c.args.scripts.now c.next_black.new.to_scan) (marks_held c.raise_held.new.scripts c.raise_held.new.to_scan)
    c.in-Some.ensures.first c.raise_held.ensures.marks

pub returns-in-Some-next_gray-clause-marks : goal.returns-in-Some-next_gray-clause-marks
returns-in-Some-next_gray-clause-marks c =
    gray-scanned c.args.scripts.now (c.requires.going_on.one_key, c.requires.going_on.one_name) c.in-Some-next_gray.key.0 c.in-Some-next_gray.ensures.there
    (marks_held c.args.scripts.now c.args.to_scan.now) (marks_held c.args.scripts.now c.next_gray.new.to_scan)
    (marks_held c.raise_held-in-Some-next_gray.new.scripts c.raise_held-in-Some-next_gray.new.to_scan)
    (sym c.in_default.ensures.first.0 ∙ c.in-Some-next_gray.ensures.first) c.in_default.ensures.first.1 c.raise_held-in-Some-next_gray.ensures.marks

pub returns-clause-marks : goal.returns-clause-marks
returns-clause-marks c = λ h scripts.
    nothing-scanned h (marks_held c.args.scripts.now c.args.to_scan.now) (marks_held c.args.scripts.now c.next_gray.new.to_scan)
    c.in_default.ensures.first.1
    (subst (λ o. IfSome o (λ (m : NewMarks). m.gray_list ≡ [])) c.in_default.ensures.first.0 c.in_default-next_gray.ensures.first.1)
    (c.in_default-next_gray.ensures.first.0 ∙ c.in_default.ensures.first.0)

pub returns-clause-same : goal.returns-clause-same
returns-clause-same c = remarked-same c.args.scripts.now
