use Rattle.std.proofs.Common.{◌≡◌, reverse, sym, ap, ◌∙◌, subst}
use Rattle.cc_lists.specs.Members.{Among}
use Rattle.cc_lists.proofs.Members.{has-among, has-there}
use Rattle.cc_names.specs.Names.{same_name}
use Rattle.cc_names.proofs.NameTests.{same_name-exact}
use Rattle.cc_model.specs.Derivations.{named}
use Rattle.cc_model.specs.Lawful.{state_of}
use Rattle.cc_model.specs.Quiet.{ListsReached}
use Rattle.cc_verdict.specs.GoingOn.{CanGoOn}
use Rattle.cc_verdict.specs.Positions.{Position, reciting}
use Rattle.cc_check.specs.Standing.{asks_left, place_of, position_in, position_of, row_meant}
use Rattle.cc_check.proofs.Ahead.{IsStuck, stuck}
use Rattle.cc_check.proofs.Found.{census-listed, exactly-from, found-reached, reached-found}
use Rattle.cc_check.proofs.judge.Judge.dead_end.Goals as goal

pub returns-in-Some-first_unfound : goal.returns-in-Some-first_unfound
returns-in-Some-first_unfound c =
    let j = c.args.self.now in
    let x = c.in-Some-first_unfound.name in
    let here : position_of j ≡ reciting (reverse j.recital.items) (place_of j) = ap (position_in j) c.in_default.is in
    let st : IsStuck j.graph j.listed j.ended j.row (asks_left c.args.script) =
    stuck j.graph j.listed j.ended j.row (asks_left c.args.script) (subst (λ (p : Position). ¬ (CanGoOn p (asks_left c.args.script))) here c.requires.dead) in
    let names_are = c.as_slice.ensures.value ∙ c.in_ok-names.ensures.names in
    record {
      items = reverse j.recital.items;
      place = place_of j;
      stands = here;
      row = ap row_meant st.over;
      census = st.census;
      listed = census-listed j.listed x (subst (Among x) names_are c.in-Some-first_unfound.ensures.some.0);
      unreached = λ r. c.in-Some-first_unfound.ensures.some.1 (has-among same_name same_name-exact (named c.find.new.self.reach) x
          (reached-found j.graph c.find.new.self x c.requires.kept.well_made c.in_ok-find.ensures r));
    }

pub first_unlisted-requires : goal.first_unlisted-requires
first_unlisted-requires c =
    let j = c.args.self.now in
    let here : position_of j ≡ reciting (reverse j.recital.items) (place_of j) = ap (position_in j) c.in_default.is in
    let st : IsStuck j.graph j.listed j.ended j.row (asks_left c.args.script) =
    stuck j.graph j.listed j.ended j.row (asks_left c.args.script) (subst (λ (p : Position). ¬ (CanGoOn p (asks_left c.args.script))) here c.requires.dead) in
    let names_are = c.as_slice.ensures.value ∙ c.in_ok-names.ensures.names in
    record {
      some = λ all.
          let quiet : ListsReached (state_of j.graph j.listed j.ended) =
          exactly-from j.graph c.find.new.self c.requires.kept.well_made c.in_ok-find.ensures j.listed j.ended _ names_are c.in-None.ensures.none
          (λ x m. subst (Among x) c.in_ok-names.ensures.same (all x m)) in
          st.unquiet quiet;
    }

pub returns : goal.returns
returns c =
    let j = c.args.self.now in
    let x = c.first_unlisted.result in
    let here : position_of j ≡ reciting (reverse j.recital.items) (place_of j) = ap (position_in j) c.in_default.is in
    let st : IsStuck j.graph j.listed j.ended j.row (asks_left c.args.script) =
    stuck j.graph j.listed j.ended j.row (asks_left c.args.script) (subst (λ (p : Position). ¬ (CanGoOn p (asks_left c.args.script))) here c.requires.dead) in
    record {
      items = reverse j.recital.items;
      place = place_of j;
      stands = here;
      row = ap row_meant st.over;
      census = st.census;
      unlisted = λ m. c.first_unlisted.ensures.unlisted (subst (Among x) (sym c.in_ok-names.ensures.same) m);
      reached = found-reached j.graph c.find.new.self x c.requires.kept.well_made c.in_ok-find.ensures
          (has-there same_name same_name-exact (named c.find.new.self.reach) x c.first_unlisted.ensures.found);
    }
