use Rattle.std.proofs.Common.{sym, subst}
use Rattle.std.specs.Prelude.{IfSome}
use Rattle.cc_object_graph.specs.Keyed.{HasKey}
use Rattle.cc_object_graph.proofs.HaveKeys.{delegates-have_keys, register-has_key, source-has_key}
use Rattle.cc_object_graph.proofs.object_graph.ObjectGraph.change.Goals as goal

pub set_entry-requires-clause-the_map : goal.set_entry-requires-clause-the_map
set_entry-requires-clause-the_map c = subst (λ o. IfSome o HasKey) (sym c.register-the_map.ensures) (register-has_key _ c.requires.ready _)

pub set_entry-requires-clause-key : goal.set_entry-requires-clause-key
set_entry-requires-clause-key c = subst (λ o. IfSome o HasKey) (sym c.register-key.ensures) (register-has_key _ c.requires.ready _)

pub set_entry-requires-clause-value : goal.set_entry-requires-clause-value
set_entry-requires-clause-value c = subst (λ o. IfSome o HasKey) (sym c.script_source-value.ensures) (source-has_key _ c.requires.ready _)

pub set_entry-requires-clause-delegate : goal.set_entry-requires-clause-delegate
set_entry-requires-clause-delegate c = delegates-have_keys _ c.requires.ready _
