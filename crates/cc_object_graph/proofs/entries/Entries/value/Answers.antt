use Rattle.std.proofs.Common.{◌∙◌, inl, inr}
use Rattle.cc_object_graph.proofs.KeyedEntries.{no_value_by_names, value_by_names}
use Rattle.cc_object_graph.proofs.entries.Entries.value.Goals as goal

pub returns-in_default : goal.returns-in_default
returns-in_default c = no_value_by_names _ _ _ _ c.self.view_is c.self.invariant (inl c.in_default.ensures.none)

pub returns-in_default-key_of : goal.returns-in_default-key_of
returns-in_default-key_of c = no_value_by_names _ _ _ _ c.self.view_is c.self.invariant (inr c.in_default-key_of.ensures.none)

pub returns : goal.returns
returns c = c.name_of_it.ensures ∙ value_by_names _ _ _ _ _ _ c.get.result c.self.view_is c.in-Some.ensures.key c.in-Some-key_of.ensures.key c.get.ensures
