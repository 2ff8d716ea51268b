use Rattle.std.proofs.Common.{rules, ◌≡◌, ⊎_elim, arith, sym, subst, ◌∙◌}
use Rattle.std.proofs.lemmas.Bool.{false≢true}
use Rattle.std.proofs.lemmas.Bool.Decides.{eqb_tells}
use denote.Enum.Bare.{same_true}
use Rattle.cc_names.specs.contracts.kind.Colour.{the_type}
use Rattle.cc_names.specs.declared.kind.Colour.TheVariants.{Gray}
use Rattle.cc_script.specs.Cells.{HasColourAt, bare_slab}
use Rattle.cc_script.proofs.Coloured.{gray-nowhere, held-coloured, reaches-bare}
use Rattle.cc_script.proofs.cells.Cells.has_colour.Goals as goal

pub returns-then-not-self-clause-none : goal.returns-then-not-self-clause-none
returns-then-not-self-clause-none c key is =
    absurd (gray-nowhere (bare_slab c.self.inside.slab c.self.inside.bodies.items c.self.inside.new_marks.items) c.self.inside.colours.items c.args.self.now c.self.view_is c.args.colour
    (same_true the_type (search rules) c.args.colour Gray (sym c.if-eq.ensures)) c.if-not-self.true c.self.invariant.gray key is)

pub returns-then-has_colour_at-clause-some : goal.returns-then-has_colour_at-clause-some
returns-then-has_colour_at-clause-some c t = (c.loop-key.key, c.has_colour_at.ensures.0 c.if-has_colour_at.true)

pub loop-key-preserved : goal.loop-key-preserved
loop-key-preserved c = record {
  passed = λ k l is. ⊎_elim
      (λ t. false≢true (sym c.if-has_colour_at.false ∙ c.has_colour_at.ensures.1 (subst (HasColourAt c.args.self.now c.args.colour) t.1 is)))
      (λ t. let other : ¬ (k ≡ c.loop-key.key) = t.1 in c.loop-key.invariant.passed k (omega (arith, l, other)) is)
      (eqb_tells k c.loop-key.key);
}

pub returns-clause-none : goal.returns-clause-none
returns-clause-none c key is =
    let held = held-coloured (bare_slab c.self.inside.slab c.self.inside.bodies.items c.self.inside.new_marks.items) c.self.inside.colours.items c.args.self.now c.self.view_is key is in
    absurd (c.loop-key.invariant.passed key (omega (arith, reaches-bare c.self.inside.slab c.self.inside.bodies.items c.self.inside.new_marks.items c.self.inside.colours.items c.self.invariant.coloured key held, c.loop-key-test.false, c.len-key-end.ensures, c.self.inside.colours.ok.0)) is)
