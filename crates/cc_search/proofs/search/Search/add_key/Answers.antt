use Rattle.std.proofs.Common.{◌≡◌, Some}
use Rattle.std.proofs.lemmas.Result.{on_ok_weaker}
use Rattle.cc_names.specs.declared.name.Name.{Name}
use Rattle.cc_model.specs.Entries.{joint}
use Rattle.cc_model.specs.Derivations.{with_joint}
use Rattle.cc_search.proofs.Given.{key-given}
use Rattle.cc_search.proofs.search.Search.add_key.Goals as goal

pub returns-in-Some : goal.returns-in-Some
returns-in-Some g c =
    let old = c.args.self.now in
    let new = c.add_joint.new.self in
    let name_of = g.L.Leads.name_of old.0 in
    let delegate = c.in-Some.delegate in
    on_ok_weaker {P = (m k v : Name) → name_of c.args.the_map ≡ Some m → name_of delegate ≡ Some k → name_of c.args.key ≡ Some v → new ≡ (old.0, with_joint old.1 (joint m k v))}
    c.add_joint.result
    (λ given. λ m k d is_map is_key held. key-given name_of old new c.args.delegate delegate m k c.in-Some.is (λ x is. given m x k is_map is is_key) d held)
    c.add_joint.ensures
