-- WHAT CRATES WITH CODE CITE of these laws' proofs: they name this module and no other.
pub use Rattle.cc_laws_heap.proofs.Apart.{unlink-stands}
pub use Rattle.cc_laws_heap.proofs.BroughtBack.{IsGivenNative, come_back-given, come_back-there, hold-invariant, hold-sound, hold-stands, hold-unreached, hold-well, usable-given, usable-native}
pub use Rattle.cc_laws_heap.proofs.Buffer.{places-with_mark_other, places-with_mark_same}
pub use Rattle.cc_laws_heap.proofs.BufferStands.{HasColourInvariant-buffer, IsSound-buffer, StandsFor-buffer}
pub use Rattle.cc_laws_heap.proofs.CascadeTakesOut.{TakesOut-cascade, TakesOut-let_go, let_go-gone}
pub use Rattle.cc_laws_heap.proofs.Cascades.{above-one_at_zero, cascade-frees, cascade-sound, one_above_zero-above, one_at_zero-above}
pub use Rattle.cc_laws_heap.proofs.Changing.{Follows-left, Leaves, option_map-found}
pub use Rattle.cc_laws_heap.proofs.CollectedColours.{collect_scripts-colours, collect_scripts-frees, collect_scripts-invariant, collect_scripts-sound, collect_scripts-unmarked, collecting-keeps}
pub use Rattle.cc_laws_heap.proofs.ColourChanges.{AreColoured-push, AreColoured-slot, IsHeldBlack, exposed-black}
pub use Rattle.cc_laws_heap.proofs.Coloured.{AreColoured-from_view, HasColourInvariant-from, IsColoured}
pub use Rattle.cc_laws_heap.proofs.CommandsColours.{done_in-coloured, effects-coloured, taken_out-black, taken_out-coloured}
pub use Rattle.cc_laws_heap.proofs.CommandsSound.{done_in-sound, effects-sound}
pub use Rattle.cc_laws_heap.proofs.CommandsStand.{command-stands, done-stands, empty-stands, proxy-follows}
pub use Rattle.cc_laws_heap.proofs.CountBound.{count-bound, natives-made}
pub use Rattle.cc_laws_heap.proofs.Counted.{IsCounted-owned, IsCounted-referred, count_at-found}
pub use Rattle.cc_laws_heap.proofs.Drain.{drained-balanced, free_front-fewer}
pub use Rattle.cc_laws_heap.proofs.Emptying.{let_go-frees}
pub use Rattle.cc_laws_heap.proofs.EndsStand.{take_away-stands}
pub use Rattle.cc_laws_heap.proofs.EntriesKept.{with_entry-sound, without_entry-sound}
pub use Rattle.cc_laws_heap.proofs.EntryLists.{entries_of-set, is_entry_of-parts, with_entry-cases}
pub use Rattle.cc_laws_heap.proofs.Following.{Follows, given-within, shape_in-reflector, stands-follows}
pub use Rattle.cc_laws_heap.proofs.FreeFront.{IsBalanced-free_front, IsBalanced-removed, without_native-give_up_each}
pub use Rattle.cc_laws_heap.proofs.Freed.{TakesOut}
pub use Rattle.cc_laws_heap.proofs.FreedNames.{FreesNames-left}
pub use Rattle.cc_laws_heap.proofs.Given.{Reached-given, living-given, living-named, named-living}
pub use Rattle.cc_laws_heap.proofs.GiveUp.{IsBalanced-give_up_each, living-one, lower_native}
pub use Rattle.cc_laws_heap.proofs.GraphCommands.{KeepsReflector-slot, proxy-well, step-well, step_with-well}
pub use Rattle.cc_laws_heap.proofs.GraphLeads.{graph-within}
pub use Rattle.cc_laws_heap.proofs.GraphParts.{Grows, IsMadeEntry-grows, IsWellMade-entries, is_some-found, with_natives}
pub use Rattle.cc_laws_heap.proofs.GraphReads.{Made, MadeNative, MadeScript, native_register-made}
pub use Rattle.cc_laws_heap.proofs.GraphWrites.{Grows-change_native, IsWellMade-change_native, IsWellMade-native_register, IsWellMade-script_register, IsWellMade-script_slot, IsWellMade-weak_register, KeepsNative-preserved, KeepsNative-reflector_slot, KeepsNative-slot, KeepsNative-wrapped, set_native-is, set_script-is}
pub use Rattle.cc_laws_heap.proofs.HeapShapes.{shape_at-native, shape_at-script}
pub use Rattle.cc_laws_heap.proofs.Holding.{IsIn-natives, IsIn-no_native, has_reflector-none, has_reflector-there, native_register-there, slot_at-there}
pub use Rattle.cc_laws_heap.proofs.Holds.{OfSome, OfSome-then, contents-get}
pub use Rattle.cc_laws_heap.proofs.HoldsTheSame.{HoldsTheSame-add_ref, HoldsTheSame-take_up, names_there-alike, native_names-alike, raise_native, slots_in-alike}
pub use Rattle.cc_laws_heap.proofs.Kept.{IsBuffer, IsWellFormed-buffer, with_buffer, with_entries}
pub use Rattle.cc_laws_heap.proofs.Leaving.{IsOf, Leave, Leave-add_ref, Leave-before, Leave-frees, Leave-not_freed, done-leaves, is_left, numbers_there, numbers_there-named}
pub use Rattle.cc_laws_heap.proofs.LedReached.{reached-led}
pub use Rattle.cc_laws_heap.proofs.Lengthening.{IsBankLength-lengthened, contents-lengthened, length-lengthened, lengthen-sound, lengthen-stands, lengthen-well, view-lengthen}
pub use Rattle.cc_laws_heap.proofs.MadeAlike.{Follows-made, IsMade}
pub use Rattle.cc_laws_heap.proofs.MadeSound.{with_native-sound, with_script-sound}
pub use Rattle.cc_laws_heap.proofs.Making.{IsRising-push, contents-empty, contents-empty_none, places-with_mark, with_mark-cases}
pub use Rattle.cc_laws_heap.proofs.MarkedKept.{AreMarksClosed-colours, IsBlackClosed-colours}
pub use Rattle.cc_laws_heap.proofs.MarksClosed.{stays-delegate, stays-native_slot, stays-place, stays-value}
pub use Rattle.cc_laws_heap.proofs.MarkedWellFormed.{is_spared, is_spared_entry}
pub use Rattle.cc_laws_heap.proofs.Marking.{HasColours-marked, as_marked, colour_of}
pub use Rattle.cc_laws_heap.proofs.MarkingKeeps.{IsSound-marked, round-frees, round-sound, script_names-marked}
pub use Rattle.cc_laws_heap.proofs.MayBeDone.{MayBeDone, may_be_done}
pub use Rattle.cc_laws_heap.proofs.MayBeDoneTo.{MayBeDoneTo}
pub use Rattle.cc_laws_heap.proofs.Moving.{slot-there, taken_out-length, taken_out-names, taken_out-sound, taken_out-there, touched-natives, touched-registers}
pub use Rattle.cc_laws_heap.proofs.NameLists.{is_not_among-apart, is_not_among-from, natives_in-natives, same_name-sym}
pub use Rattle.cc_laws_heap.proofs.NativeCommands.{IsIn-made, IsIn-take_up, names_there-take_up, room-take_up}
pub use Rattle.cc_laws_heap.proofs.Natives.{HasDistinctNumbers-change, IsRising-distinct, IsWellFormed-distinct, KeepsNumber, changed_at, changed_at-number, named-found, named-member, native_at-change_other, native_at-change_same, native_at-member, native_at-named, native_at-number, native_at-there, native_names-change}
pub use Rattle.cc_laws_heap.proofs.NativesKeepScripts.{SameScripts, SameScripts-coloured, SameScripts-take_up, let_go-scripts}
pub use Rattle.cc_laws_heap.proofs.Numbered.{change_numbered, numbered-change, numbered-change_other, numbered-next, numbered-push, numbered-push_old}
pub use Rattle.cc_laws_heap.proofs.Owning.{IsCounted-add_ref, IsIn, add_ref-sound, let_go-sound, take_up-sound, times-numbers_of}
pub use Rattle.cc_laws_heap.proofs.ReachedAlike.{given-in, given-there, in-given, in-reached, reached-in, reached-there}
pub use Rattle.cc_laws_heap.proofs.ReachedReads.{HasBehind, native_of-reached, script-behind}
pub use Rattle.cc_laws_heap.proofs.References.{native-there, refs_to-removed, refs_to-slot, refs_to-there, times-among, times-append, times-cons, times-cons_other, times-cons_same, times-natives_in, times-some}
pub use Rattle.cc_laws_heap.proofs.RepliesAlike.{delegate-stands, objects-stand, refusal_of-alike, reply_if_taken-alike}
pub use Rattle.cc_laws_heap.proofs.Rising.{IsRising-filter, IsRising-once}
pub use Rattle.cc_laws_heap.proofs.RoundParts.{left-stays, round-entries, round-natives, round-scripts, value_in-filter}
pub use Rattle.cc_laws_heap.proofs.RoundsStand.{collect_scripts-stands, marked-stands, spared-from, sweep-stands}
pub use Rattle.cc_laws_heap.proofs.ScriptCommands.{IsDelegate, IsNewScript-object, make_proxy-sound, no_delegate, with_reflector-sound}
pub use Rattle.cc_laws_heap.proofs.ScriptNames.{delegate_at-found, entry-named, script-named, script_names-named, scripts-once}
pub use Rattle.cc_laws_heap.proofs.ScriptsKept.{exposed-sound, hold_script-sound, is_one_of, native-no_script, script_names-exposed, script_slot-sound}
pub use Rattle.cc_laws_heap.proofs.Shapes.{IsOfNone, delegate_in-shape, further_of, slots_in-graph, slots_in-heap, slots_of_shape}
pub use Rattle.cc_laws_heap.proofs.SlotsWritten.{Follows-preserved, Follows-slot, IsPreserved}
pub use Rattle.cc_laws_heap.proofs.Standing.{follows-stands, stands-blank, stands-reached, stands-values}
pub use Rattle.cc_laws_heap.proofs.StandingOn.{add_ref-stands, cascade-stands, stands-on}
pub use Rattle.cc_laws_heap.proofs.StepsAlike.{Follows-hold, Follows-hold_script, Follows-set_entry}
pub use Rattle.cc_laws_heap.proofs.SweepColours.{sweep-colours, sweep-invariant}
pub use Rattle.cc_laws_heap.proofs.Swept.{scripts-sweep, sweep-sound}
pub use Rattle.cc_laws_heap.proofs.Taken.{IsTaken, IsTaken-from}
pub use Rattle.cc_laws_heap.proofs.TakingAway.{IsSound-permuted, IsTaking, others-kept, take_away-leaves, take_away-sound, take_away-takes, taken-emptied, unroot_each-taking}
pub use Rattle.cc_laws_heap.proofs.Unlinking.{Unlinks, unlink-keeps}
pub use Rattle.cc_laws_heap.proofs.UnlinkedKept.{KeepUnlinked, KeepUnlinked-refl, KeepUnlinked-then, WasThere, WasThereOrMade, collect_scripts-unlinked, done_in-unlinked, empty_buffer-unlinked, give_back-unlinked, hold-unlinked, sweep-unlinked, take_away-unlinked, unlinked-kept, usable-kept}
pub use Rattle.cc_laws_heap.proofs.Unseen.{Leaves-exposed, Leaves-let_go, Leaves-take_up, Leaves-touched}
pub use Rattle.cc_laws_heap.proofs.WeakRegisters.{Follows-weak_register, reached-weak, weak-stands}
pub use Rattle.cc_laws_heap.proofs.Wrapping.{Follows-wrapped}
pub use Rattle.cc_laws_heap.proofs.Writes.{contents-at as contents-at-of_writes, native_register-sound, native_slot-sound, script_register-sound, set_preserved-sound}
