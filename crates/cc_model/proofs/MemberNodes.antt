-- A MEMBER OF A MAPPING IS A NODE where what stands in the list of it is one.
use Rattle.std.proofs.Common.{Option, Some, None, refl, inl}
use Rattle.std.specs.Option.{option_to_list}
use Rattle.cc_lists.specs.Members.{Among}
use Rattle.cc_names.specs.declared.name.Name.{Name}
use Rattle.cc_model.specs.Snapshot.{Snapshot}
use Rattle.cc_model.specs.Fresh.{IsNode, MemberIsNode}

pub member-node : (s : Snapshot) (member : Option Name) → ((x : Name) → Among x (option_to_list member) → IsNode s x) → MemberIsNode s member
member-node s None f = tt
member-node s (Some x) f = f x (inl refl)
