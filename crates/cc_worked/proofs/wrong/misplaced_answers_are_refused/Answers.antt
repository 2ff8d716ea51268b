use Rattle.std.specs.Prelude.{refl}
use Rattle.cc_worked.specs.WrongReplies.{missing_answer, answer_to_nothing_asked, no_reply, names_listed_by_a_drop, long_line_called_bad, bad_line_called_long, event_under_a_long_line, event_under_a_bad_line, blank_line_is_answered, comment_is_answered, event_under_a_blank_line, version_two_is_refused, version_two_is_taken_twice, version_two_is_taken_behind_a_long_line, mark_is_taken_in_version_one, mark_is_refused_in_version_two, mark_of_no_units_is_taken, wide_register_is_taken_in_version_one, wide_register_is_refused_in_version_two}
use Rattle.cc_worked.proofs.Opened.{all_of_a_run}
use Rattle.cc_worked.proofs.Judged.{unlawful-at_its_end}
use Rattle.cc_worked.proofs.wrong.misplaced_answers_are_refused.Goals as goal

pub returns-clause-missing_answer : goal.returns-clause-missing_answer
unfolding all_of_a_run
returns-clause-missing_answer c = unlawful-at_its_end missing_answer refl refl refl

pub returns-clause-answer_to_nothing_asked : goal.returns-clause-answer_to_nothing_asked
unfolding all_of_a_run
returns-clause-answer_to_nothing_asked c = unlawful-at_its_end answer_to_nothing_asked refl refl refl

pub returns-clause-no_reply : goal.returns-clause-no_reply
unfolding all_of_a_run
returns-clause-no_reply c = unlawful-at_its_end no_reply refl refl refl

pub returns-clause-names_listed_by_a_drop : goal.returns-clause-names_listed_by_a_drop
unfolding all_of_a_run
returns-clause-names_listed_by_a_drop c = unlawful-at_its_end names_listed_by_a_drop refl refl refl

pub returns-clause-long_line_called_bad : goal.returns-clause-long_line_called_bad
unfolding all_of_a_run
returns-clause-long_line_called_bad c = unlawful-at_its_end long_line_called_bad refl refl refl

pub returns-clause-bad_line_called_long : goal.returns-clause-bad_line_called_long
unfolding all_of_a_run
returns-clause-bad_line_called_long c = unlawful-at_its_end bad_line_called_long refl refl refl

pub returns-clause-event_under_a_long_line : goal.returns-clause-event_under_a_long_line
unfolding all_of_a_run
returns-clause-event_under_a_long_line c = unlawful-at_its_end event_under_a_long_line refl refl refl

pub returns-clause-event_under_a_bad_line : goal.returns-clause-event_under_a_bad_line
unfolding all_of_a_run
returns-clause-event_under_a_bad_line c = unlawful-at_its_end event_under_a_bad_line refl refl refl

pub returns-clause-blank_line_is_answered : goal.returns-clause-blank_line_is_answered
unfolding all_of_a_run
returns-clause-blank_line_is_answered c = unlawful-at_its_end blank_line_is_answered refl refl refl

pub returns-clause-comment_is_answered : goal.returns-clause-comment_is_answered
unfolding all_of_a_run
returns-clause-comment_is_answered c = unlawful-at_its_end comment_is_answered refl refl refl

pub returns-clause-event_under_a_blank_line : goal.returns-clause-event_under_a_blank_line
unfolding all_of_a_run
returns-clause-event_under_a_blank_line c = unlawful-at_its_end event_under_a_blank_line refl refl refl

pub returns-clause-version_two_is_refused : goal.returns-clause-version_two_is_refused
unfolding all_of_a_run
returns-clause-version_two_is_refused c = unlawful-at_its_end version_two_is_refused refl refl refl

pub returns-clause-version_two_is_taken_twice : goal.returns-clause-version_two_is_taken_twice
unfolding all_of_a_run
returns-clause-version_two_is_taken_twice c = unlawful-at_its_end version_two_is_taken_twice refl refl refl

pub returns-clause-version_two_is_taken_behind_a_long_line : goal.returns-clause-version_two_is_taken_behind_a_long_line
unfolding all_of_a_run
returns-clause-version_two_is_taken_behind_a_long_line c = unlawful-at_its_end version_two_is_taken_behind_a_long_line refl refl refl

pub returns-clause-mark_is_taken_in_version_one : goal.returns-clause-mark_is_taken_in_version_one
unfolding all_of_a_run
returns-clause-mark_is_taken_in_version_one c = unlawful-at_its_end mark_is_taken_in_version_one refl refl refl

pub returns-clause-mark_is_refused_in_version_two : goal.returns-clause-mark_is_refused_in_version_two
unfolding all_of_a_run
returns-clause-mark_is_refused_in_version_two c = unlawful-at_its_end mark_is_refused_in_version_two refl refl refl

pub returns-clause-mark_of_no_units_is_taken : goal.returns-clause-mark_of_no_units_is_taken
unfolding all_of_a_run
returns-clause-mark_of_no_units_is_taken c = unlawful-at_its_end mark_of_no_units_is_taken refl refl refl

pub returns-clause-wide_register_is_taken_in_version_one : goal.returns-clause-wide_register_is_taken_in_version_one
unfolding all_of_a_run
returns-clause-wide_register_is_taken_in_version_one c = unlawful-at_its_end wide_register_is_taken_in_version_one refl refl refl

pub returns-clause-wide_register_is_refused_in_version_two : goal.returns-clause-wide_register_is_refused_in_version_two
unfolding all_of_a_run
returns-clause-wide_register_is_refused_in_version_two c = unlawful-at_its_end wide_register_is_refused_in_version_two refl refl refl
