use Rattle.std.proofs.Common.{Some, sym, subst, [], ◌∷◌}
use Rattle.cc_heaps.proofs.FewCounts.{none-owned}
use Rattle.cc_heaps.specs.Keyed.{Keyed}
use Rattle.cc_heaps.specs.Changes.{script_name}
use Rattle.cc_heaps.specs.Leaving.{NoneCame}
use Rattle.cc_host.proofs.Marked.{marking-same}
use Rattle.cc_host.proofs.Placed.{WritesScript-same, placed_script-change, placed_script-holds, placed_script-marking, placed_script-none_came, placed_script-writes}
use Rattle.cc_host.proofs.ScriptSteps.{either-way, ok-both}
use Rattle.cc_host.proofs.LastingSteps.{root_script-stays, same-stays, stays-as, stays-ended}
use Rattle.cc_host.proofs.Usable.{stays-usable}
use Rattle.cc_host.proofs.changes.placing.place_script.Goals as goal
use Rattle.cc_names.specs.declared.register.Reg.TheVariants.{S}
use Rattle.cc_host.specs.Spots.{Spot}
use Rattle.cc_host.proofs.SpotsKeyed.{placed_script-only, unwritten-same}

pub root_at-requires-clause-order : goal.root_at-requires-clause-order
root_at-requires-clause-order g c = none-owned c.args.heaps.now c.requires.ready.order

pub returns-clause-change : goal.returns-clause-change
returns-clause-change g c =
    let v = c.args.heaps.now in
    let w = c.root_at.new.self in
    let e = c.root_at.ensures in
    ok-both c.root_at.result e.heap e.stands
    (λ h stands. placed_script-change v w c.args.r (script_name v (Some c.args.key)) c.requires.within c.requires.ready h e.kept stands)

pub returns-clause-marking : goal.returns-clause-marking
returns-clause-marking g c =
    let v = c.args.heaps.now in
    let w = c.root_at.new.self in
    let e = c.root_at.ensures in
    either-way c.root_at.result
    (ok-both c.root_at.result e.heap e.marking
    (λ h marks. placed_script-marking v w c.args.r (script_name v (Some c.args.key)) c.requires.within c.requires.ready h e.kept marks))
    e.same (λ k. k) (λ same. marking-same v w same)

pub returns-clause-held : goal.returns-clause-held
returns-clause-held g c =
    let v = c.args.heaps.now in
    let e = c.root_at.ensures in
    ok-both c.root_at.result e.heap e.heap
    (λ h again. placed_script-holds v c.root_at.new.self c.args.r (script_name v (Some c.args.key)) c.requires.within c.requires.ready h)

pub returns-clause-writes : goal.returns-clause-writes
returns-clause-writes g c =
    let v = c.args.heaps.now in
    let w = c.root_at.new.self in
    let e = c.root_at.ensures in
    either-way c.root_at.result e.heap e.same
    (λ h. placed_script-writes v w c.args.r (script_name v (Some c.args.key)) c.requires.within c.requires.ready h)
    (λ same. WritesScript-same c.args.r v w same)

pub returns-clause-none_came : goal.returns-clause-none_came
returns-clause-none_came g c =
    let v = c.args.heaps.now in
    let w = c.root_at.new.self in
    let e = c.root_at.ensures in
    either-way c.root_at.result e.heap e.same
    (λ h. placed_script-none_came v w c.args.r (script_name v (Some c.args.key)) c.requires.within c.requires.ready h)
    (λ same. subst (λ (u : Keyed). NoneCame v.heap u.heap) (sym same) (λ x m. m))

pub returns-clause-only : goal.returns-clause-only
returns-clause-only g c =
    let v = c.args.heaps.now in
    let w = c.root_at.new.self in
    let e = c.root_at.ensures in
    either-way c.root_at.result e.heap e.same
    (λ h. placed_script-only v.heap w.heap c.args.r (script_name v (Some c.args.key)) h (e.kept.order [] c.requires.ready.order).sound.well_formed)
    (λ same. unwritten-same (Spot.register (S c.args.r) ∷ []) v w same)

pub returns-clause-ended : goal.returns-clause-ended
returns-clause-ended g c =
    let v = c.args.heaps.now in
    let w = c.root_at.new.self in
    let e = c.root_at.ensures in
    stays-ended v w c.requires.ready.order (either-way c.root_at.result e.heap e.same
    (λ heap. stays-as v.heap _ w.heap heap (root_script-stays v.heap c.args.r (script_name v (Some c.args.key))))
    (λ same. same-stays v w same))

pub returns-clause-usable : goal.returns-clause-usable
returns-clause-usable g c =
    let v = c.args.heaps.now in
    let w = c.root_at.new.self in
    let e = c.root_at.ensures in
    stays-usable v w c.requires.ready.order (either-way c.root_at.result e.heap e.same
    (λ heap. stays-as v.heap _ w.heap heap (root_script-stays v.heap c.args.r (script_name v (Some c.args.key))))
    (λ same. same-stays v w same))
