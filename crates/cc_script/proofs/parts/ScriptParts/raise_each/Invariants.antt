use Rattle.std.proofs.Common.{◌≡◌, ℕ, drop}
use Rattle.cc_script.specs.Objects.{is_there, slots_at}
use Rattle.cc_script.specs.Marking.{raise_each}
use Rattle.cc_script.specs.Parts.{shows, marking_of, IsUnderWay}
use Rattle.cc_script.proofs.parts.ScriptParts.raise_each.Given as goal

abbrev pub invariant-loop-i : goal.invariant-loop-i
invariant-loop-i l = record {
  left : raise_each l.to (drop l.i (slots_at (shows l.fn.self) l.key.0)) (marking_of l.self) ≡ raise_each l.to (slots_at (shows l.fn.self) l.key.0) (marking_of l.fn.self);
  same_slots : slots_at (shows l.self) l.key.0 ≡ slots_at (shows l.fn.self) l.key.0;
  there : (q : ℕ) → is_there (shows l.self) q ≡ is_there (shows l.fn.self) q;
  under_way : IsUnderWay l.to l.self;
}
