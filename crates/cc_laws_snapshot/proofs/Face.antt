-- WHAT CRATES WITH CODE CITE of these laws' proofs: they name this module and no other.
pub use Rattle.cc_laws_snapshot.proofs.Beginning.{begun-fresh, node-cases}
pub use Rattle.cc_laws_snapshot.proofs.BufferMarks.{marked-buffer, suspect-keeps_purple, suspect-purple}
pub use Rattle.cc_laws_snapshot.proofs.CascadesGentle.{let_go-caught, let_go-gentle}
pub use Rattle.cc_laws_snapshot.proofs.CommandsGentle.{done_in-fresh, done_in-gentle, effects-fresh}
pub use Rattle.cc_laws_snapshot.proofs.CommandsLoyal.{done_in-loyal, stored-loyal}
pub use Rattle.cc_laws_snapshot.proofs.CommandsSuspected.{effects-suspected}
pub use Rattle.cc_laws_snapshot.proofs.EndSuspected.{end-suspected}
pub use Rattle.cc_laws_snapshot.proofs.GentleBut.{AreGentle, AreGentle-then, IsGentleBut-then}
pub use Rattle.cc_laws_snapshot.proofs.GivingBack.{begin-suspected, give_back-buffer, give_back-suspected, given_back, given_back-buffer}
pub use Rattle.cc_laws_snapshot.proofs.Handing.{edge-from_reflector}
pub use Rattle.cc_laws_snapshot.proofs.KindsFresh.{fresh-coloured, fresh-more}
pub use Rattle.cc_laws_snapshot.proofs.KindsHeld.{entry_written-suspected, flag_written-suspected, reflector_made-suspected, script_slot_written-suspected}
pub use Rattle.cc_laws_snapshot.proofs.KindsMade.{reflector_made-fresh}
pub use Rattle.cc_laws_snapshot.proofs.KindsWritten.{flag_written-fresh}
pub use Rattle.cc_laws_snapshot.proofs.Lengthened.{lengthen-fresh, lengthen-gentle, lengthen-loyal, lengthen-suspected}
pub use Rattle.cc_laws_snapshot.proofs.LoyalSuspected.{loyal-suspected}
pub use Rattle.cc_laws_snapshot.proofs.Marked.{with_mark-keeps}
pub use Rattle.cc_laws_snapshot.proofs.MovesGentle.{taken_out-gentle, taken_out-taken}
pub use Rattle.cc_laws_snapshot.proofs.MovesLoyal.{moved-loyal}
pub use Rattle.cc_laws_snapshot.proofs.NamePairs.{native-no_script}
pub use Rattle.cc_laws_snapshot.proofs.NamesAndEdges.{edges-alike}
pub use Rattle.cc_laws_snapshot.proofs.NativeParts.{AreTaken, native_slot-gentle, take_up-gentle, take_up-taken}
pub use Rattle.cc_laws_snapshot.proofs.NodeUnit.{after_node-fresh, gray-tested}
pub use Rattle.cc_laws_snapshot.proofs.ReachedStays.{IsTidy, native-edge, native_edges-alike, reached-kept, reached-there, script-edge}
pub use Rattle.cc_laws_snapshot.proofs.ScriptParts.{not_gray-held, script_slot-gentle, set_entry-gentle}
pub use Rattle.cc_laws_snapshot.proofs.SoundView.{living-native, named-there, native-name_of, script-place}
pub use Rattle.cc_laws_snapshot.proofs.States.{gone-not_traversed}
pub use Rattle.cc_laws_snapshot.proofs.SweepLoses.{collect_scripts-suspected, sweep-suspected}
pub use Rattle.cc_laws_snapshot.proofs.Unmarking.{forgotten-colours, forgotten-exactly, forgotten-fresh, forgotten-names, forgotten-sound, forgotten-stands, forgotten-suspected, forgotten-taken, skippable-decided, skippable-reached, unmarked-colours, unmarked-fresh, unmarked-names, unmarked-sound, unmarked-stands, unmarked-suspected}
pub use Rattle.cc_laws_snapshot.proofs.WhiteNatives.{taking_white-colours, taking_white-sound, white_natives-apart, white_natives-there, white_natives-unreached}
