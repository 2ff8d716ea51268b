-- WHAT CRATES WITH CODE CITE of these laws' proofs: they name this module and no other.
pub use Rattle.cc_laws_marking.proofs.Beside.{forgotten-keeps, hold_native-keeps}
pub use Rattle.cc_laws_marking.proofs.CommandsOrder.{HasListsInOrder-begun, HasListsInOrder-command}
pub use Rattle.cc_laws_marking.proofs.CommandsUnmarkable.{effects-there, effects-unmarkable, effects-unmarkable_left, unmarkable-alike}
pub use Rattle.cc_laws_marking.proofs.EndSuspected.{edges-coloured, ended-suspected}
pub use Rattle.cc_laws_marking.proofs.Few.{few-black, few-gray, few-scans}
pub use Rattle.cc_laws_marking.proofs.GoingOn.{IsOn, IsOn-command, goes-on, reached-spared, white-freed}
pub use Rattle.cc_laws_marking.proofs.Unmarkable.{IsUnmarkable-begun, IsUnmarkable-scanned, not_marked-cases, unmarkable-freed}
pub use Rattle.cc_laws_marking.proofs.Waiting.{HasListsInOrder-scanned}
pub use Rattle.cc_laws_marking.proofs.Wrapped.{wrapped-nowhere}
