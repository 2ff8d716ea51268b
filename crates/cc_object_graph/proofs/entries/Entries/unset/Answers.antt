use Rattle.cc_object_graph.proofs.KeyedEntries.{AreKeyed-same, AreKeyed-unset, unset_by_names}
use Rattle.cc_object_graph.proofs.entries.Entries.unset.Goals as goal

pub invariant_of-self : goal.invariant_of-self
invariant_of-self c = AreKeyed-same _ _ c.unset.ensures.entries (AreKeyed-unset _ _ _ c.self.invariant)

pub returns : goal.returns
returns c = unset_by_names _ _ _ _ _ _ _ c.self.view_is c.the_key_of.ensures.key c.the_key_of-2.ensures.key c.unset.ensures.entries
