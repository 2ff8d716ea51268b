-- Lists of rising numbers.
pub use Rattle.cc_lists.proofs.Rising.{IsRising-tail, IsRising-first, IsRising-cons, IsRising-filter, IsRising-once}
