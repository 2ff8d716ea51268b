use Rattle.std.proofs.Common.{◌≡◌, ℕ, List, IfSome, IsTrue, Option, Some, None, option_map, refl}
use Rattle.cc_names.specs.declared.number.SKey.{SKey}
use Rattle.cc_weakmaps.specs.Entries.{entry}
use Rattle.cc_script.specs.Objects.{Object, is_there}
use Rattle.cc_builder.proofs.EntryMappings.{entry-there}
use Rattle.cc_builder.proofs.build.Build.add_mapping.Goals as goal

pub add_key-requires-clause-the_map : goal.add_key-requires-clause-the_map
add_key-requires-clause-the_map c =
    (entry-there c.args.heaps.now c.weak.result.now c.args.i (entry c.entry-delegate.result.0.0 c.entry-delegate.result.1.0 (option_map (λ (k : SKey). k.0) c.entry-delegate.result.2) c.entry-delegate.result.3.0)
    c.weak.ensures c.entry-delegate.ensures c.requires.order).the_map

pub add_key-requires-clause-key : goal.add_key-requires-clause-key
add_key-requires-clause-key c =
    (entry-there c.args.heaps.now c.weak.result.now c.args.i (entry c.entry-delegate.result.0.0 c.entry-delegate.result.1.0 (option_map (λ (k : SKey). k.0) c.entry-delegate.result.2) c.entry-delegate.result.3.0)
    c.weak.ensures c.entry-delegate.ensures c.requires.order).key

-- the delegate's key is there
some-there : (objects : List Object) (d : Option SKey) → ((q : ℕ) → option_map (λ (k : SKey). k.0) d ≡ Some q → IsTrue (is_there objects q)) → IfSome d (λ k. IsTrue (is_there objects k.0))
some-there objects None there = tt
some-there objects (Some k) there = there k.0 refl

pub add_key-requires-clause-delegate : goal.add_key-requires-clause-delegate
add_key-requires-clause-delegate c =
    some-there c.args.heaps.now.scripts c.entry-delegate.result.2
    (entry-there c.args.heaps.now c.weak.result.now c.args.i (entry c.entry-delegate.result.0.0 c.entry-delegate.result.1.0 (option_map (λ (k : SKey). k.0) c.entry-delegate.result.2) c.entry-delegate.result.3.0)
    c.weak.ensures c.entry-delegate.ensures c.requires.order).delegate

pub add_joint-requires-clause-the_map : goal.add_joint-requires-clause-the_map
add_joint-requires-clause-the_map c =
    (entry-there c.args.heaps.now c.weak.result.now c.args.i (entry c.entry-delegate.result.0.0 c.entry-delegate.result.1.0 (option_map (λ (k : SKey). k.0) c.entry-delegate.result.2) c.entry-delegate.result.3.0)
    c.weak.ensures c.entry-delegate.ensures c.requires.order).the_map

pub add_joint-requires-clause-key : goal.add_joint-requires-clause-key
add_joint-requires-clause-key c =
    (entry-there c.args.heaps.now c.weak.result.now c.args.i (entry c.entry-delegate.result.0.0 c.entry-delegate.result.1.0 (option_map (λ (k : SKey). k.0) c.entry-delegate.result.2) c.entry-delegate.result.3.0)
    c.weak.ensures c.entry-delegate.ensures c.requires.order).key

pub add_joint-requires-clause-value : goal.add_joint-requires-clause-value
add_joint-requires-clause-value c =
    (entry-there c.args.heaps.now c.weak.result.now c.args.i (entry c.entry-delegate.result.0.0 c.entry-delegate.result.1.0 (option_map (λ (k : SKey). k.0) c.entry-delegate.result.2) c.entry-delegate.result.3.0)
    c.weak.ensures c.entry-delegate.ensures c.requires.order).value
