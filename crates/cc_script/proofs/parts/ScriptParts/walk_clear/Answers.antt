use Rattle.std.proofs.Common.{refl, ap, sym, subst, ◌∙◌}
use Rattle.cc_names.specs.declared.kind.Walked.TheVariants.{Out}
use Rattle.cc_walk.specs.Walks.{no_walk, nowhere}
use Rattle.cc_script.specs.Objects.{with_walked}
use Rattle.cc_script.specs.ColourOrder.{HasColourOrder}
use Rattle.cc_script.specs.Lists.{objects_of, IsPlaced}
use Rattle.cc_script.specs.Parts.{lists_of, shows, walk_in}
use Rattle.cc_script.proofs.Chained.{lists-walked}
use Rattle.cc_script.proofs.Walked.{HasColourOrder-mapped, IsPlaced-walked, objects-unwalked}
use Rattle.cc_script.proofs.parts.ScriptParts.walk_clear.Goals as goal

pub clear-requires : goal.clear-requires
clear-requires c = (walk_in c.args.self.now, c.requires.at_rest.chained.walk)

pub returns-clause-shows : goal.returns-clause-shows
returns-clause-shows c =
    let p = c.args.self.now in
    let a = lists-walked p c.requires.at_rest.chained c.clear.new.store c.clear.new.self no_walk c.clear.ensures.walk c.clear.ensures.rest in
    ap objects_of a.lists ∙ objects-unwalked (lists_of p)

pub returns-clause-at_rest : goal.returns-clause-at_rest
returns-clause-at_rest c =
    let p = c.args.self.now in
    let a = lists-walked p c.requires.at_rest.chained c.clear.new.store c.clear.new.self no_walk c.clear.ensures.walk c.clear.ensures.rest in
    record {
      placed = subst IsPlaced (sym a.lists) (IsPlaced-walked (lists_of p) nowhere c.requires.at_rest.placed);
      chained = a.chained;
      coloured = subst HasColourOrder (sym (returns-clause-shows c))
          (HasColourOrder-mapped (with_walked Out) (λ o. refl) (λ o. refl) (λ o. refl) (shows p) c.requires.at_rest.coloured);
      emptied = a.waits ∙ c.requires.at_rest.emptied;
    }
