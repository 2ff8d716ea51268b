use Rattle.cc_collector.proofs.site.blackened.Given as goal

abbrev pub ghosts-scan_uncounted : goal.ghosts-scan_uncounted
ghosts-scan_uncounted a = record { name = a.blank.name; parts = a.blank.parts }
