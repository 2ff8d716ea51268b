use Rattle.std.proofs.Common.{◌∙◌}
use Rattle.cc_object_graph.proofs.KeyedEntries.{AreKeyed-after, AreKeyed-set, keys_fit, named_keys, set_by_names-after}
use Rattle.cc_object_graph.proofs.entries.Entries.set.Goals as goal

pub invariant_of-self : goal.invariant_of-self
invariant_of-self c = AreKeyed-after _ _ _ _ c.set.ensures.entries c.set.ensures.err c.self.invariant
    (AreKeyed-set _ _ _ _ _ c.the_key_of.ensures.fits c.the_key_of-2.ensures.fits (keys_fit _ c.key_of_it.ensures.fits) c.self.invariant)

pub returns : goal.returns
returns c = set_by_names-after c.set.result _ _ _ _ _ _ _ _ _ _ _ c.self.view_is c.the_key_of.ensures.key c.the_key_of-2.ensures.key (named_keys c.key_of_it.result ∙ c.key_of_it.ensures.key) c.the_key_of-3.ensures.key c.set.ensures.entries
