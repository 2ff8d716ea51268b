use Rattle.cc_host.proofs.runtime.Runtime.mark.Given as goal

abbrev pub ghosts-mark : goal.ghosts-mark
ghosts-mark g a = record { name = a.blank.name; parts = a.blank.parts }
