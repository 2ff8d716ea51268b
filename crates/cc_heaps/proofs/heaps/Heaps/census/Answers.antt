use Rattle.cc_model.specs.WellFormed.{native_names, script_names}
use Rattle.cc_heaps.proofs.Listing.{told-both}
use Rattle.cc_heaps.proofs.heaps.Heaps.census.Goals as goal

pub returns-clause-told : goal.returns-clause-told
returns-clause-told g c =
    let telling = g.N.Notices.telling in
    let h = c.args.self.now.heap in
    told-both (telling c.args.out.now) (telling c.list_natives-natives.new.out) (telling c.list_scripts-scripts.new.out) (native_names h) (script_names h)
    c.list_natives-natives.ensures.told c.list_scripts-scripts.ensures.told
