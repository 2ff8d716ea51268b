use Rattle.cc_replay.proofs.answering.answer_command.Given as goal

abbrev pub ghosts-answer_slice : goal.ghosts-answer_slice
ghosts-answer_slice g a = record { name = a.blank.name; parts = a.blank.parts }

abbrev pub ghosts-answer_mark : goal.ghosts-answer_mark
ghosts-answer_mark g a = record { name = a.blank.name; parts = a.blank.parts }
