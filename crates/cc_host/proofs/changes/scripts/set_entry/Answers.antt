use Rattle.std.proofs.Common.{◌≡◌, [], Option, Some, None, OnErr, sym, ◌∙◌, ap, subst, ◌∷◌}
use Rattle.std.proofs.lemmas.Result.{on_err_weaker}
use Rattle.cc_names.specs.declared.name.Name.{Name}
use Rattle.cc_model.specs.Checks.{value_at}
use Rattle.cc_model.specs.Effects as effects
use Rattle.cc_model.specs.Graph as graph
use Rattle.cc_model.specs.Heap.{Heap, objects_of}
use Rattle.cc_script.specs.Objects.{name_at}
use Rattle.cc_heaps.specs.Keyed.{Keyed}
use Rattle.cc_heaps.specs.Changes.{script_name}
use Rattle.cc_heaps.specs.Leaving.{NoneCame, NothingLeft}
use Rattle.cc_heaps.specs.Standing.{IsReached, IsReachedOrReflects, StandsAfter}
use Rattle.cc_heaps.proofs.Kept.{KeepsAll-black}
use Rattle.cc_heaps.proofs.EntriesSet.{map-there}
use Rattle.cc_host.specs.Exposing.{Exposes}
use Rattle.cc_host.specs.Missing.{KeepsDoomed}
use Rattle.cc_host.specs.Changes.{IsTried}
use Rattle.cc_host.proofs.KeptDoomed.{doomed-then, set_entry-doomed}
use Rattle.cc_host.proofs.Exposed.{AreSame-then, Exposes-then, KeepsAll-after, StandsAfter-still, exposed-none_came, exposed-none_left, exposed-change}
use Rattle.cc_host.proofs.ScriptSteps.{StaysBeside, beside-none_came, beside-none_left, beside-spared, either-way, entry-beside, ok-both}
use Rattle.cc_lists.specs.Members.{Among}
use Rattle.cc_model.specs.WellFormed.{names_there, IsWellFormed}
use Rattle.cc_host.proofs.MarkedCalls.{entry-marking}
use Rattle.cc_host.proofs.Marked.{marking-after, marking-same}
use Rattle.cc_host.specs.Marked.{IsPastIfAny}
use Rattle.cc_host.proofs.Reflects.{reflects-kept}
use Rattle.cc_host.proofs.ReflectsEntries.{entry_at-reflects}
use Rattle.cc_host.proofs.Stopping.{refused-none}
use Rattle.cc_laws_told.proofs.Face.{Stays-then}
use Rattle.cc_host.proofs.LastingSteps.{entry-stays, exposes-stays, same-stays, stays-as, stays-ended}
use Rattle.cc_host.proofs.Usable.{stays-usable}
use Rattle.cc_host.proofs.changes.scripts.set_entry.Goals as goal
use Rattle.cc_heaps.proofs.ObjectsKept.{there-named}
use Rattle.cc_host.specs.Spots.{IsWritten, Spot, reads}
use Rattle.cc_host.proofs.SpotsKeyed.{entry-only, entry-preserved, entry-written, unwritten-same}
use Rattle.cc_host.proofs.SpotsThen.{writes-after}

pub expose_key-requires-2-clause-ready : goal.expose_key-requires-2-clause-ready
expose_key-requires-2-clause-ready c = c.expose_key.ensures.ready

pub expose_key-requires-2-clause-live : goal.expose_key-requires-2-clause-live
expose_key-requires-2-clause-live c = (c.expose_key.ensures.exposes.same c.args.value.0 c.requires.value).there

pub set_entry-requires-clause-order : goal.set_entry-requires-clause-order
set_entry-requires-clause-order c = ([], c.expose_key-2.ensures.ready.order)

pub set_entry-requires-clause-the_map : goal.set_entry-requires-clause-the_map
set_entry-requires-clause-the_map c = (AreSame-then _ _ _ c.expose_key.ensures.exposes.same c.expose_key-2.ensures.exposes.same c.args.the_map.0 (map-there c.args.heaps.now.scripts c.args.the_map.0 c.requires.the_map)).kind ∙ c.requires.the_map

pub set_entry-requires-clause-key : goal.set_entry-requires-clause-key
set_entry-requires-clause-key c = (AreSame-then _ _ _ c.expose_key.ensures.exposes.same c.expose_key-2.ensures.exposes.same c.args.key.0 c.requires.key).there

pub set_entry-requires-clause-value : goal.set_entry-requires-clause-value
set_entry-requires-clause-value c = (AreSame-then _ _ _ c.expose_key.ensures.exposes.same c.expose_key-2.ensures.exposes.same c.args.value.0 c.requires.value).there

-- key and value exposed
both : (c : goal.After-set_entry) →
    Exposes (IsReachedOrReflects c.args.heaps.now.heap (script_name c.args.heaps.now (Some c.args.key))
    × IsReachedOrReflects c.args.heaps.now.heap (script_name c.args.heaps.now (Some c.args.value)))
    c.args.heaps.now c.expose_key-2.new.heaps
both c =
    let e = c.expose_key.ensures.exposes in
    Exposes-then c.args.heaps.now c.expose_key.new.heaps c.expose_key-2.new.heaps e c.expose_key-2.ensures.exposes (λ r. r.0)
    (λ r. subst (IsReachedOrReflects c.expose_key.new.heaps.heap) (sym (e.same c.args.value.0 c.requires.value).name)
    (reflects-kept c.args.heaps.now.heap c.expose_key.new.heaps.heap e.reached _ r.1))

-- natives and registers stay
beside : (c : goal.After-set_entry) →
    c.set_entry.new.self.heap ≡ effects.set_entry c.expose_key-2.new.heaps.heap (name_at c.expose_key-2.new.heaps.scripts c.args.the_map.0)
    (name_at c.expose_key-2.new.heaps.scripts c.args.key.0) (name_at c.expose_key-2.new.heaps.scripts c.args.value.0) →
    StaysBeside c.expose_key-2.new.heaps.heap c.set_entry.new.self.heap
beside c heap =
    let v = c.expose_key-2.new.heaps in
    subst (StaysBeside v.heap) (sym heap) (entry-beside v.heap (name_at v.scripts c.args.the_map.0) (name_at v.scripts c.args.key.0) (name_at v.scripts c.args.value.0))

pub returns-clause-tried : goal.returns-clause-tried
returns-clause-tried c =
    let u = c.args.heaps.now in
    on_err_weaker c.set_entry.result
    (λ same. subst (IsTried (IsReachedOrReflects u.heap (script_name u (Some c.args.key)) × IsReachedOrReflects u.heap (script_name u (Some c.args.value))) u) (sym same)
    (exposed-change u c.expose_key-2.new.heaps (both c) c.requires.ready)) c.set_entry.ensures.same

pub returns-clause-none_left : goal.returns-clause-none_left
returns-clause-none_left c x i =
    let u = c.args.heaps.now in
    let v = c.expose_key-2.new.heaps in
    let w = c.set_entry.new.self in
    let left : NothingLeft u.heap v.heap = exposed-none_left u v (both c) in
    either-way c.set_entry.result c.set_entry.ensures.heap c.set_entry.ensures.same
    (λ heap. beside-none_left v w (beside c heap) x (left x i))
    (λ same. subst (λ (k : Keyed). NothingLeft u.heap k.heap) (sym same) left x i)

pub returns-clause-none_came : goal.returns-clause-none_came
returns-clause-none_came c x i =
    let u = c.args.heaps.now in
    let v = c.expose_key-2.new.heaps in
    let w = c.set_entry.new.self in
    let came : NoneCame u.heap v.heap = exposed-none_came u v (both c) in
    either-way c.set_entry.result c.set_entry.ensures.heap c.set_entry.ensures.same
    (λ heap. came x (beside-none_came v w (beside c heap) x i))
    (λ same. came x (subst (λ (k : Keyed). Among x (names_there k.heap)) same i))

-- each is handed in under its name
stood : (c : goal.After-set_entry) (p q r x y z : Option Name) → p ≡ x → q ≡ y → r ≡ z →
    (IsReached c.expose_key-2.new.heaps.heap p → IsReachedOrReflects c.expose_key-2.new.heaps.heap q → IsReachedOrReflects c.expose_key-2.new.heaps.heap r →
    StandsAfter c.expose_key-2.new.heaps.heap c.set_entry.new.self.heap (λ g. graph.set_entry g p q r)) →
    IsReached c.args.heaps.now.heap x × IsReachedOrReflects c.args.heaps.now.heap y × IsReachedOrReflects c.args.heaps.now.heap z →
    StandsAfter c.args.heaps.now.heap c.set_entry.new.self.heap (λ g. graph.set_entry g x y z)
stood c p q r x y z e f g stands d =
    let u = c.args.heaps.now.heap in
    let v = c.expose_key-2.new.heaps.heap in
    let w = c.set_entry.new.self.heap in
    let b = both c in
    let now : IsReached v x → IsReachedOrReflects v y → IsReachedOrReflects v z → StandsAfter v w (λ g. graph.set_entry g x y z) = rw (← e, ← f, ← g) stands in
    StandsAfter-still u v w b.stands (now (b.reached x d.0) (reflects-kept u v b.reached y d.1) (reflects-kept u v b.reached z d.2))

pub returns-clause-change : goal.returns-clause-change
returns-clause-change c =
    let u = c.args.heaps.now in
    let v = c.expose_key-2.new.heaps in
    let w = c.set_entry.new.self in
    let b = both c in
    let key = (both c).same c.args.key.0 c.requires.key in
    let black = c.expose_key-2.ensures.exposes.same c.args.key.0 (c.expose_key.ensures.exposes.same c.args.key.0 c.requires.key).there in
    let last = KeepsAll-black c.set_entry.ensures.kept (black.black c.expose_key.ensures.black, c.expose_key-2.ensures.black) in
    ok-both c.set_entry.result c.set_entry.ensures.heap c.set_entry.ensures.heap (λ heap again. record {
      kept = KeepsAll-after u v w b.keys b.same b.kept last;
      spared = beside-spared v w (beside c heap) c.expose_key-2.ensures.ready.spared;
      stands = stood c _ _ _ (script_name u (Some c.args.the_map)) (script_name u (Some c.args.key)) (script_name u (Some c.args.value))
          (b.same c.args.the_map.0 (map-there u.scripts c.args.the_map.0 c.requires.the_map)).name key.name (b.same c.args.value.0 c.requires.value).name
          (entry_at-reflects v w c.expose_key-2.ensures.ready.order (last.order [] c.expose_key-2.ensures.ready.order) c.args.the_map.0 c.args.key.0 c.args.value.0
          ((b.same c.args.the_map.0 (map-there u.scripts c.args.the_map.0 c.requires.the_map)).kind ∙ c.requires.the_map) key.there (b.same c.args.value.0 c.requires.value).there heap);
      doomed = λ d. doomed-then u.heap v.heap w.heap (b.doomed (d.1, d.2))
          (subst (KeepsDoomed v.heap) (sym heap)
          (set_entry-doomed v.heap c.expose_key-2.ensures.ready.order.sound.well_formed (name_at v.scripts c.args.the_map.0) (name_at v.scripts c.args.key.0) (name_at v.scripts c.args.value.0)
          (subst (IsReached v.heap) (sym (b.same c.args.the_map.0 (map-there u.scripts c.args.the_map.0 c.requires.the_map)).name) (b.reached _ d.0))
          (subst (IsReachedOrReflects v.heap) (sym key.name) (reflects-kept u.heap v.heap b.reached _ d.1))
          (subst (IsReachedOrReflects v.heap) (sym (b.same c.args.value.0 c.requires.value).name) (reflects-kept u.heap v.heap b.reached _ d.2))));
    })

pub returns-clause-marking : goal.returns-clause-marking
returns-clause-marking c =
    let t = c.args.heaps.now in
    let u = c.expose_key.new.heaps in
    let v = c.expose_key-2.new.heaps in
    let w = c.set_entry.new.self in
    let e = c.expose_key.ensures in
    let p = c.expose_key-2.ensures in
    let s = c.set_entry.ensures in
    marking-after t u w e.marking (λ k. marking-after u v w p.marking (λ l.
    either-way c.set_entry.result s.heap s.same
    (λ heap. entry-marking v w (name_at v.scripts c.args.the_map.0) (name_at v.scripts c.args.key.0) (name_at v.scripts c.args.value.0) heap s.marks
    (λ its. subst (IsPastIfAny v) (sym ((both c).same c.args.key.0 c.requires.key).name) (λ y i. p.marking.past l y (e.past k y i))))
    (λ same. marking-same v w same)))

pub returns-clause-wanted : goal.returns-clause-wanted
returns-clause-wanted c =
    let u = c.args.heaps.now in
    let v = c.expose_key-2.new.heaps in
    let b = both c in
    let m = name_at v.scripts c.args.the_map.0 in
    let k = name_at v.scripts c.args.key.0 in
    let at : value_at (objects_of v.heap) m k ≡ value_at (objects_of u.heap) (script_name u (Some c.args.the_map)) (script_name u (Some c.args.key)) =
    ap (λ (h : Heap). value_at (objects_of h) m k) b.rest
    ∙ (ap (λ x. value_at (objects_of u.heap) x k) (b.same c.args.the_map.0 (map-there u.scripts c.args.the_map.0 c.requires.the_map)).name
    ∙ ap (λ x. value_at (objects_of u.heap) (script_name u (Some c.args.the_map)) x) (b.same c.args.key.0 c.requires.key).name) in
    subst (λ o. OnErr c.set_entry.result (o ≡ None)) at (refused-none c.set_entry.result (value_at (objects_of v.heap) m k) c.set_entry.ensures.in_place)

-- each spot reads as before once both are exposed
spots : (c : goal.After-set_entry) (s : Spot) → reads c.expose_key-2.new.heaps.heap s ≡ reads c.args.heaps.now.heap s
spots c s = c.expose_key-2.ensures.spots s ∙ c.expose_key.ensures.spots s

well : (c : goal.After-set_entry) → IsWellFormed c.set_entry.new.self.heap
well c =
    let black = c.expose_key-2.ensures.exposes.same c.args.key.0 (c.expose_key.ensures.exposes.same c.args.key.0 c.requires.key).there in
    ((KeepsAll-black c.set_entry.ensures.kept (black.black c.expose_key.ensures.black, c.expose_key-2.ensures.black)).order [] c.expose_key-2.ensures.ready.order).sound.well_formed

pub returns-clause-writes : goal.returns-clause-writes
returns-clause-writes c =
    let u = c.args.heaps.now in
    let v = c.expose_key-2.new.heaps in
    let w = c.set_entry.new.self in
    let b = both c in
    let value = there-named v.scripts c.args.value.0 (b.same c.args.value.0 c.requires.value).there in
    ok-both c.set_entry.result c.set_entry.ensures.heap c.set_entry.ensures.heap (λ heap again m k em ek.
    writes-after (Spot.entry m k ∷ Spot.preserved k ∷ []) u.heap v.heap w.heap (spots c)
    (entry-only v.heap w.heap (name_at v.scripts c.args.the_map.0) (name_at v.scripts c.args.key.0) (name_at v.scripts c.args.value.0) m k value.0
    ((b.same c.args.the_map.0 (map-there u.scripts c.args.the_map.0 c.requires.the_map)).name ∙ em) ((b.same c.args.key.0 c.requires.key).name ∙ ek) value.1 heap (well c)))

pub returns-clause-written : goal.returns-clause-written
returns-clause-written c =
    let u = c.args.heaps.now in
    let v = c.expose_key-2.new.heaps in
    let w = c.set_entry.new.self in
    let b = both c in
    let value = there-named v.scripts c.args.value.0 (b.same c.args.value.0 c.requires.value).there in
    ok-both c.set_entry.result c.set_entry.ensures.heap c.set_entry.ensures.heap (λ heap again m k em ek.
    subst (λ y. IsWritten (Spot.entry m k) y w.heap) (sym value.1 ∙ (b.same c.args.value.0 c.requires.value).name)
    (entry-written v.heap w.heap (name_at v.scripts c.args.the_map.0) (name_at v.scripts c.args.key.0) (name_at v.scripts c.args.value.0) m k value.0
    ((b.same c.args.the_map.0 (map-there u.scripts c.args.the_map.0 c.requires.the_map)).name ∙ em) ((b.same c.args.key.0 c.requires.key).name ∙ ek) value.1 heap (well c)))

pub returns-clause-preserves : goal.returns-clause-preserves
returns-clause-preserves c =
    let u = c.args.heaps.now in
    let v = c.expose_key-2.new.heaps in
    let w = c.set_entry.new.self in
    let b = both c in
    let the_map = there-named v.scripts c.args.the_map.0 (b.same c.args.the_map.0 (map-there u.scripts c.args.the_map.0 c.requires.the_map)).there in
    let value = there-named v.scripts c.args.value.0 (b.same c.args.value.0 c.requires.value).there in
    ok-both c.set_entry.result c.set_entry.ensures.heap c.set_entry.ensures.heap (λ heap again k ek.
    entry-preserved v.heap w.heap (name_at v.scripts c.args.the_map.0) (name_at v.scripts c.args.key.0) (name_at v.scripts c.args.value.0) the_map.0 k value.0
    the_map.1 ((b.same c.args.key.0 c.requires.key).name ∙ ek) value.1 heap (well c))

pub returns-clause-unwritten : goal.returns-clause-unwritten
returns-clause-unwritten c =
    let v = c.expose_key-2.new.heaps in
    let w = c.set_entry.new.self in
    on_err_weaker c.set_entry.result (λ same. writes-after [] c.args.heaps.now.heap v.heap w.heap (spots c) (unwritten-same [] v w same)) c.set_entry.ensures.same

pub returns-clause-ended : goal.returns-clause-ended
returns-clause-ended c =
    let u = c.args.heaps.now in
    let v = c.expose_key-2.new.heaps in
    let w = c.set_entry.new.self in
    stays-ended u w c.requires.ready.order (Stays-then u.heap v.heap w.heap (exposes-stays u v (both c))
    (either-way c.set_entry.result c.set_entry.ensures.heap c.set_entry.ensures.same
    (λ heap. stays-as v.heap _ w.heap heap (entry-stays v.heap _ _ _))
    (λ same. same-stays v w same)))

pub returns-clause-usable : goal.returns-clause-usable
returns-clause-usable c =
    let u = c.args.heaps.now in
    let v = c.expose_key-2.new.heaps in
    let w = c.set_entry.new.self in
    stays-usable u w c.requires.ready.order (Stays-then u.heap v.heap w.heap (exposes-stays u v (both c))
    (either-way c.set_entry.result c.set_entry.ensures.heap c.set_entry.ensures.same
    (λ heap. stays-as v.heap _ w.heap heap (entry-stays v.heap _ _ _))
    (λ same. same-stays v w same)))
