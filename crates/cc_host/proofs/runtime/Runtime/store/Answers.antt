use Rattle.cc_heaps.proofs.Leaving.{nothing-told}
use Rattle.cc_host.proofs.runtime.Runtime.store.Goals as goal

pub returns-in-Script-clause-tells : goal.returns-in-Script-clause-tells
returns-in-Script-clause-tells g c =
    nothing-told c.args.self.now.heaps.heap c.store_in_script.new.self.heaps.heap (g.N.Notices.telling c.args.out.now) c.store_in_script.ensures.none_left
