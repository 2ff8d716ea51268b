use Rattle.std.proofs.Common.{◌≡◌, Some, is_some, ap}
use Rattle.std.proofs.lemmas.Result.{on_ok_weaker}
use Rattle.cc_names.specs.declared.name.Name.{Name}
use Rattle.cc_model.specs.Entries.{joint, key_joint}
use Rattle.cc_model.specs.Derivations.{with_joint, with_joints}
use Rattle.cc_search.proofs.Given.{entry-given, entry-members, there-still}
use Rattle.cc_search.proofs.Turned.{held-there}
use Rattle.cc_search.proofs.search.Search.add_entry.Goals as goal

pub add_key-requires-clause-the_map : goal.add_key-requires-clause-the_map
add_key-requires-clause-the_map g c =
    let l = g.L.Leads in
    let m = entry-members l.leads l.name_of c.leads-leads.result.now c.args.self.now.0 c.args.i c.entry-the_map.result c.leads-leads.ensures.leads c.requires c.entry-the_map.ensures in
    ap is_some m.2.the_map

pub add_key-requires-clause-delegate : goal.add_key-requires-clause-delegate
add_key-requires-clause-delegate g c =
    let l = g.L.Leads in
    let m = entry-members l.leads l.name_of c.leads-leads.result.now c.args.self.now.0 c.args.i c.entry-the_map.result c.leads-leads.ensures.leads c.requires c.entry-the_map.ensures in
    held-there (l.name_of c.args.self.now.0) m.0.delegate c.entry-the_map.result.2 m.2.delegate

pub add_key-requires-clause-key : goal.add_key-requires-clause-key
add_key-requires-clause-key g c =
    let l = g.L.Leads in
    let m = entry-members l.leads l.name_of c.leads-leads.result.now c.args.self.now.0 c.args.i c.entry-the_map.result c.leads-leads.ensures.leads c.requires c.entry-the_map.ensures in
    ap is_some m.2.key

pub add_joint-requires-clause-the_map : goal.add_joint-requires-clause-the_map
add_joint-requires-clause-the_map g c =
    let l = g.L.Leads in
    let s = c.args.self.now in
    let m = entry-members l.leads l.name_of c.leads-leads.result.now s.0 c.args.i c.entry-the_map.result c.leads-leads.ensures.leads c.requires c.entry-the_map.ensures in
    let e = m.0 in
    let one = c.in_ok-add_key.ensures e.the_map e.key e.delegate m.2.the_map m.2.key m.2.delegate in
    there-still l.name_of s c.add_key.new.self (with_joints (key_joint e.the_map e.delegate e.key) s.1) c.entry-the_map.result.0 e.the_map one m.2.the_map

pub add_joint-requires-clause-key : goal.add_joint-requires-clause-key
add_joint-requires-clause-key g c =
    let l = g.L.Leads in
    let s = c.args.self.now in
    let m = entry-members l.leads l.name_of c.leads-leads.result.now s.0 c.args.i c.entry-the_map.result c.leads-leads.ensures.leads c.requires c.entry-the_map.ensures in
    let e = m.0 in
    let one = c.in_ok-add_key.ensures e.the_map e.key e.delegate m.2.the_map m.2.key m.2.delegate in
    there-still l.name_of s c.add_key.new.self (with_joints (key_joint e.the_map e.delegate e.key) s.1) c.entry-the_map.result.1 e.key one m.2.key

pub add_joint-requires-clause-value : goal.add_joint-requires-clause-value
add_joint-requires-clause-value g c =
    let l = g.L.Leads in
    let s = c.args.self.now in
    let m = entry-members l.leads l.name_of c.leads-leads.result.now s.0 c.args.i c.entry-the_map.result c.leads-leads.ensures.leads c.requires c.entry-the_map.ensures in
    let e = m.0 in
    let one = c.in_ok-add_key.ensures e.the_map e.key e.delegate m.2.the_map m.2.key m.2.delegate in
    there-still l.name_of s c.add_key.new.self (with_joints (key_joint e.the_map e.delegate e.key) s.1) c.entry-the_map.result.3 e.value one m.2.value

pub returns : goal.returns
returns g c =
    let l = g.L.Leads in
    let r = c.entry-the_map.result in
    let s = c.args.self.now in
    let t = c.add_key.new.self in
    let u = c.add_joint.new.self in
    let m = entry-members l.leads l.name_of c.leads-leads.result.now s.0 c.args.i r c.leads-leads.ensures.leads c.requires c.entry-the_map.ensures in
    let e = m.0 in
    let one = c.in_ok-add_key.ensures e.the_map e.key e.delegate m.2.the_map m.2.key m.2.delegate in
    on_ok_weaker {P = (m k v : Name) → l.name_of t.0 r.0 ≡ Some m → l.name_of t.0 r.1 ≡ Some k → l.name_of t.0 r.3 ≡ Some v → u ≡ (t.0, with_joint t.1 (joint m k v))}
    c.add_joint.result (λ given. entry-given l.name_of (l.leads s.0).entries c.args.i e s t u r m.1 m.2 one given) c.add_joint.ensures
