use Rattle.std.proofs.Common.{Some, sym, ◌∙◌, ap, subst}
use Rattle.std.specs.Prelude.{slice_get}
use Rattle.cc_counted.specs.declared.held.Held.TheVariants as held
use Rattle.cc_heaps.specs.Changes.{held_name}
use Rattle.cc_search.specs.Named.{AreMembers}
use Rattle.cc_paths.proofs.Named.{entry-members}
use Rattle.cc_paths.proofs.heap_leads.HeapLeadsLeads.entry.Goals as goal

pub returns : goal.returns
returns c = λ e here.
    let v = c.args.self.now.heaps.now in
    let r = c.entry-delegate.result in
    let at = ap (λ es. slice_get es c.args.i) (sym c.weak.ensures) ∙ c.entry-delegate.ensures in
    subst (λ d. AreMembers (λ o. held_name v (Some o)) e (held.Script r.0, held.Script r.1, d, held.Script r.3)) (sym c.held_script.ensures)
    (entry-members v c.requires.ready.0 c.requires.ready.1 c.args.i r.0 r.1 r.3 r.2 at e here)
