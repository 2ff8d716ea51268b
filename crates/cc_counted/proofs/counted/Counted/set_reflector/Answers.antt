use Rattle.std.proofs.Common.{◌≡◌, Some, option_map, refl, sym, subst, ap, ◌∙◌}
use Rattle.cc_names.specs.declared.number.SKey.{SKey}
use Rattle.cc_counted.specs.Counts.{Counts, with_reflector}
use Rattle.cc_counted.specs.Lists.{Placed, cell_at, counts_of}
use Rattle.cc_counted.specs.Stored.{Stored}
use Rattle.cc_counted.specs.Resting.{IsAtRest}
use Rattle.cc_counted.proofs.Reading.{live-found}
use Rattle.cc_counted.proofs.Reflecting.{counts-reflected, placed-reflected}
use Rattle.cc_counted.proofs.Owned.{owned-reflected}
use Rattle.cc_counted.proofs.counted.Counted.set_reflector.Goals as goal

found : (c : goal.After-reflect) → (p : Placed) × (cell_at c.self.inside.natives.lists.cells c.args.key.0 ≡ Some p)
found c = live-found c.self.inside.natives.lists c.args.key.0 (rw (← c.self.view_is) at c.requires.live)

pub returns-clause-reflectors : goal.returns-clause-reflectors
returns-clause-reflectors c =
    subst (λ (v : Counts). counts_of c.reflect.new.self.lists ≡ with_reflector v c.args.key.0 (option_map (λ (k : SKey). k.0) c.args.to)) c.self.view_is
    (ap (λ (s : Stored). counts_of s.lists) c.reflect.ensures
    ∙ counts-reflected c.self.inside.natives.lists c.self.invariant.placed c.args.key.0 (found c).0 (found c).1 (option_map (λ (k : SKey). k.0) c.args.to) _ refl)

pub returns-clause-owned : goal.returns-clause-owned
returns-clause-owned c = search (returns-clause-reflectors, owned-reflected)

pub invariant_of-self : goal.invariant_of-self
invariant_of-self c = subst IsAtRest (sym c.reflect.ensures)
    (record {
      placed = placed-reflected c.self.inside.natives.lists c.self.invariant.placed c.args.key.0 (found c).0 (found c).1 (option_map (λ (k : SKey). k.0) c.args.to) _ refl;
      emptied = c.self.invariant.emptied;
    })
