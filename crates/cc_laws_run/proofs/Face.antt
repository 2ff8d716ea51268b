-- WHAT CRATES WITH CODE CITE of these laws' proofs: they name this module and no other.
pub use Rattle.cc_laws_run.proofs.Ample.{turns-ample}
pub use Rattle.cc_laws_run.proofs.BesideUnits.{StandsBeside, StandsMarking, StandsUnmarked, collect-beside, collect_cycles-beside, finish-beside, gc-beside, mark-beside, one_marked-beside, slice-beside, slice_cycles-beside, units_done-beside, units_marked-beside, units_marked-keep}
pub use Rattle.cc_laws_run.proofs.DoomedBegin.{collected-doomed}
pub use Rattle.cc_laws_run.proofs.Finishing.{EndsSo, IsFinished, LeavesNone, ended_with, finish-by, finish-cases, finish_marking-any, finish_marking-none, finish_marking-some, finishing-leaves, scanned-on, with_marks}
pub use Rattle.cc_laws_run.proofs.FollowedAsks.{IsFollowed, ask-follows, begin-follows}
pub use Rattle.cc_laws_run.proofs.GivingUp.{collect-gives_up, slice-gives_up}
pub use Rattle.cc_laws_run.proofs.HoldingUnits.{run_cycles, run_units-behind, run_units-none, units_done-keep}
pub use Rattle.cc_laws_run.proofs.InARow.{OneList, one_list}
pub use Rattle.cc_laws_run.proofs.Listing.{filter-first, filter-second}
pub use Rattle.cc_laws_run.proofs.MarkLawful.{EndsKeep, HeapManner, MarkedOn, finish_running-none, finished-marking, mark-lawful, mark-on, mark-runs}
pub use Rattle.cc_laws_run.proofs.MissesLost.{lost-doomed, lost-keeps}
pub use Rattle.cc_laws_run.proofs.PlainLawful.{run-lawful}
pub use Rattle.cc_laws_run.proofs.PlainQuiet.{run-quiet}
pub use Rattle.cc_laws_run.proofs.QuietRounds.{collected-reached, round-keeps}
pub use Rattle.cc_laws_run.proofs.QuietTaken.{emptied-none, take_away-keeps}
pub use Rattle.cc_laws_run.proofs.QuietUnits.{collect-none, collect-tidy, collect_cycles-none, gc-collects, gc-none, gc-unmarked, with_empty_buffer-sound}
pub use Rattle.cc_laws_run.proofs.ScriptsLawful.{gc-lawful}
pub use Rattle.cc_laws_run.proofs.Swept.{IsSwept, collect_scripts-swept, ended_marks-swept, finishing-fresh, finishing-swept, outcome_of}
pub use Rattle.cc_laws_run.proofs.SweptLawful.{swept-each, swept-freed, swept-has_none, swept-runs, swept-unlinks_none}
pub use Rattle.cc_laws_run.proofs.TouchedCascade.{leaves-let_go, leaves-take_up}
pub use Rattle.cc_laws_run.proofs.TouchedCommands.{doomed-effects, leaves-exposed, leaves-hold_native, leaves-hold_script, leaves-make_proxy, leaves-preserve, leaves-set_entry, leaves-slot, leaves-touched, leaves-wrapped, next_object-undoomed, one-untouched}
pub use Rattle.cc_laws_run.proofs.TouchedParts.{IsUntouched}
pub use Rattle.cc_laws_run.proofs.TouchedReads.{IsApart, behind-untouched, reached-untouched, slot_of-untouched}
pub use Rattle.cc_laws_run.proofs.TouchedSteps.{Leaves, leaves-refl}
pub use Rattle.cc_laws_run.proofs.TouchedViews.{doomed-spared}
pub use Rattle.cc_laws_run.proofs.UnitLawful.{RunsOn, traversed-none, unit-cases}
pub use Rattle.cc_laws_run.proofs.UnitsLawful.{collect-lawful, collect_cycles-lawful, finished-runs, slice-lawful, slice_cycles-lawful}
pub use Rattle.cc_laws_run.proofs.Unmarked.{collect-unmarked}
