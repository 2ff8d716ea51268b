use Rattle.std.proofs.Common.{refl, sym, ◌∙◌}
use Rattle.cc_lists.proofs.Members.{has-among}
use Rattle.cc_names.specs.Names.{same_name}
use Rattle.cc_names.proofs.NameTests.{same_name-exact}
use Rattle.cc_check.specs.Standing.{hearing_in}
use Rattle.cc_check.proofs.Causing.{not-among, reached-then, steps-are}
use Rattle.cc_check.proofs.judge.Judge.cause_of_name.Goals as goal

pub returns-then-not-has : goal.returns-then-not-has
returns-then-not-has c = λ asks line is. (
  hearing_in c.args.self.now c.args.answer,
  refl,
  record {
    line_is = is;
    may = c.requires.may;
    name = c.args.name;
    of = c.requires.of;
    unlisted = not-among c.args.self.now.listed c.args.name (sym c.has.ensures ∙ c.if-not-has.true);
  },
)

pub returns : goal.returns
returns c = λ asks line is.
    let j = c.args.self.now in
    let h = hearing_in j c.args.answer in
    let listed = has-among same_name same_name-exact j.listed c.args.name (sym c.has.ensures ∙ c.if-not-has.false) in (
      h,
      refl,
      record {
        line_is = is;
        may = c.requires.may;
        name = c.args.name;
        of = c.requires.of;
        listed = listed;
        reached = reached-then h c.find.new.self c.args.event c.args.name c.requires.kept.well_made c.in_ok-find.ensures c.requires.may c.requires.of listed c.requires.refused;
        steps_are = steps-are j.graph c.find.new.self c.args.name c.in_ok-steps.steps.items c.in_ok-find.ensures c.in_ok-steps.ensures;
      },
    )
