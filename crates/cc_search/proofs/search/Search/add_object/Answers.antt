use Rattle.std.proofs.Common.{◌≡◌, Some}
use Rattle.std.proofs.lemmas.Result.{on_ok_weaker}
use Rattle.cc_names.specs.declared.name.Name.{Name}
use Rattle.cc_model.specs.Derivations.{with_entries}
use Rattle.cc_search.proofs.Given.{object-given}
use Rattle.cc_search.proofs.search.Search.add_object.Goals as goal

pub returns : goal.returns
returns g c =
    let l = g.L.Leads in
    let t = c.add_places.new.self in
    let u = c.add_entries.new.self in
    on_ok_weaker {P = (y : Name) → l.name_of t.0 c.args.object ≡ Some y → u ≡ (t.0, with_entries y (l.leads t.0).entries t.1)}
    c.add_entries.result
    (λ given. object-given l.leads l.name_of c.args.self.now t u c.args.name c.args.object c.requires c.in_ok-add_places.ensures given)
    c.add_entries.ensures
