-- WHAT CRATES WITH CODE CITE of these laws' proofs: they name this module and no other.
pub use Rattle.cc_laws_told.proofs.CollectionsTell.{collect-tells, collect_alone-tells, collect-drops, collect-unmarks, gc-tells, gc_alone-tells, gc-drops, mark-tells, mark_alone-tells, mark-drops, slice-tells, slice-unmarks}
pub use Rattle.cc_laws_told.proofs.Leaving.{natives-left, objects-left}
pub use Rattle.cc_laws_told.proofs.Lasting.{Stays, Stays-add_ref, Stays-exposed, Stays-hold, Stays-lengthen, Stays-let_go, Stays-natives, Stays-preserve, Stays-refl, Stays-register, Stays-slot, Stays-take_up, Stays-then, Stays-touched, ended-as, ended-make, ended-same, ended-stays, ended-then}
pub use Rattle.cc_laws_told.proofs.LastingUnits.{IsLasting, LastsSince, collect-lasts, gc-lasts, lasting-then, mark-lasts, slice-lasts}
