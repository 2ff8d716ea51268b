use Rattle.cc_names.specs.declared.kind.Colour.TheVariants.{Black}
use Rattle.cc_script.specs.Objects.{AreWhole}
use Rattle.cc_script.specs.Marking.{to_do}
use Rattle.cc_script.specs.Parts.{shows, marking_of, IsUnderWay}
use Rattle.cc_script.proofs.Walks.{IsWalk}
use Rattle.cc_script.proofs.Blackening.{Blackens}
use Rattle.cc_script.proofs.parts.ScriptParts.blacken_from.Given as goal

abbrev pub invariant-loop : goal.invariant-loop
invariant-loop l = record {
  walk : IsWalk (shows l.fn.self) Black (Blackens (shows l.fn.self) l.fn.key.0) l.fn.key.0 (marking_of l.self);
  under_way : IsUnderWay Black l.self;
  whole : AreWhole (shows l.self);
}

abbrev pub decreases-loop : goal.decreases-loop
decreases-loop l = to_do Black (marking_of l.self)
