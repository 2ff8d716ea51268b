-- AN OBJECT LEAVES: it was there, and is there no more.
use Rattle.cc_lists.specs.Members.{Among}
use Rattle.cc_names.specs.declared.name.Name.{Name}
use Rattle.cc_model.specs.WellFormed.{names_there}
use Rattle.cc_host.specs.Hosted.{Hosted}

pub record Leaves (x : Name) (old new : Hosted) : Type 0 where
  pub before : Among x (names_there old.heaps.heap)
  pub gone : ¬ (Among x (names_there new.heaps.heap))
