use Rattle.cc_host.proofs.runtime.Runtime.slice.Given as goal

abbrev pub ghosts-slice : goal.ghosts-slice
ghosts-slice g a = record { name = a.blank.name; parts = a.blank.parts }
