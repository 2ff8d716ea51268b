-- A RUNNING COLLECTION GOES ON over changed heaps.
use Rattle.std.proofs.Common.{◌≡◌, ℕ, ◌≤◌, Bool, true, false, [], Option, Some, None, IfSome, refl, sym, ◌∙◌, subst, ⊎_elim, arith}
use Rattle.cc_lists.specs.Members.{Among}
use Rattle.cc_lists.proofs.Members.{Among-map}
use Rattle.cc_names.specs.declared.name.Name.{Name}
use Rattle.cc_names.specs.declared.name.Name.TheVariants as name
use Rattle.cc_names.specs.Names.{native}
use Rattle.cc_model.specs.WellFormed.{native_names}
use Rattle.cc_model.specs.View.{view}
use Rattle.cc_model.specs.Colours.{HasColourInvariant}
use Rattle.cc_model.specs.Fresh.{IsNode}
use Rattle.cc_laws_snapshot.specs.Kinds.{IsFreshIn}
use Rattle.cc_laws_snapshot.proofs.Face.{named-there}
use Rattle.cc_counted.specs.declared.held.Held.{Held}
use Rattle.cc_counted.specs.declared.held.Held.TheVariants as held
use Rattle.cc_graph.specs.Shown.{Vertex}
use Rattle.cc_graph.specs.Held.{AreHeld}
use Rattle.cc_heaps.specs.Keyed.{Keyed, IsInOrder, number_at}
use Rattle.cc_heaps.specs.HasKey.{HasKey}
use Rattle.cc_heaps.specs.Keeping.{KeepsAll, KeepsAllIf}
use Rattle.cc_builder.specs.Building.{Built, IsBuilt, WasMade, snapshot_of}
use Rattle.cc_builder.proofs.BuildStates.{names-nodes_of}
use Rattle.cc_builder.proofs.FewObjects.{made-few}
use Rattle.cc_collector.proofs.NoneBack.{none-back}
use Rattle.cc_collector.specs.Kept.{Kept, GoesOn, MarksIn, RunsIn, MayComeBetween}
use Rattle.cc_markslice.specs.Going.{IsMarkingWell}

module _ (old new : Keyed) (b : Built) (order : IsInOrder [] old) (colours : HasColourInvariant (view old.heap)) (g : GoesOn old b) (m : MayComeBetween old new) where
  fresh : IsFreshIn new.heap (snapshot_of b)
  fresh = m.fresh (snapshot_of b) g.fresh

  is-node : (n : Vertex) → Among n b.graph.nodes → IsNode (snapshot_of b) n.name
  is-node n i = subst (Among n.name) (sym (names-nodes_of b.next b.graph.nodes)) (Among-map (λ (v : Vertex). v.name) n b.graph.nodes i)

  -- its object was made, and is there where it is a script object
  was-made : (x : Name) → IsNode (snapshot_of b) x → WasMade new.heap x
  was-made (name.Native k) i = fresh.native_nodes k.0 i
  was-made (name.Script k) i = named-there new.heap (name.Script k) (fresh.script_nodes (name.Script k) i refl)
  was-made (name.Reflector k) i = named-there new.heap (name.Reflector k) (fresh.script_nodes (name.Reflector k) i refl)

  made : (n : Vertex) → Among n b.graph.nodes → WasMade new.heap n.name
  made n i = was-made n.name (is-node n i)

  built : IsBuilt b new
  built = search (made, made-few)

  -- it has the key that it had
  has-key : (x : Name) (key : Held) → WasMade old.heap x → WasMade new.heap x → HasKey old x key → HasKey new x key
  has-key x (held.Native key) was is has = (has.0, number)
    where
      number : (k : ℕ) → x ≡ native k → Among (native k) (native_names new.heap) → number_at new key.0 ≡ Some k
      number k e i =
          let earlier : (1 ≤ k) × (k ≤ old.heap.natives_made) = subst (WasMade old.heap) e was in
          ⊎_elim
          (λ there. m.keys.natives key.0 k (has.1 k e there) i)
          (λ later. absurd (omega (arith, later, earlier.1)))
          (none-back old.heap new.heap order.sound colours m.order.sound m.fresh k i)
  has-key x (held.Script key) was is has = grind (arith, m.keys.scripts)

  are-held : AreHeld b.graph (HasKey new)
  are-held n i = has-key n.name n.held (g.built.made n i) (made n i) (g.held n i)

  goes-on : GoesOn new b
  goes-on = record { built = built; held = are-held; fresh = fresh }

-- a running collection goes on, where one runs
goes-on-if : (old new : Keyed) (c : Option Built) → IsInOrder [] old → HasColourInvariant (view old.heap) → IfSome c (GoesOn old) → MayComeBetween old new → IfSome c (GoesOn new)
goes-on-if old new None order colours g m = tt
goes-on-if old new (Some b) order colours g m = goes-on old new b order colours g m

-- and so does a marking, where one goes on
marks-if : (old new : Keyed) (c : Option Built) (marking : Bool) → MarksIn old c marking → MayComeBetween old new → MarksIn new c marking
marks-if old new c true t m = (m.marks t.0, t.1)
marks-if old new c false t m = m.unmarked t

-- THE LAW
pub RunsIn-between : (old new : Keyed) (k : Kept) → RunsIn old k → MayComeBetween old new → RunsIn new k
RunsIn-between old new k r m = record {
  order = m.order;
  colours = m.colours;
  goes_on = goes-on-if old new k.running r.order r.colours r.goes_on m;
  marks = marks-if old new k.running k.marking r.marks m;
}

-- what keeps all may come between where a marking that goes on does so as it should,
pub MayComeBetween-kept : (old new : Keyed) (k : Kept) → RunsIn old k → KeepsAll old new → (IsMarkingWell old → IsMarkingWell new) → MayComeBetween old new
MayComeBetween-kept old new k r kept marks = record {
  order = kept.order [] r.order;
  colours = kept.colours r.colours;
  fresh = kept.fresh;
  keys = kept.keys;
  marks = marks;
  unmarked = λ e. kept.marks.lists ∙ e;
}

-- and so it goes on over heaps that kept all,
pub RunsIn-kept : (old new : Keyed) (k : Kept) → RunsIn old k → KeepsAll old new → (IsMarkingWell old → IsMarkingWell new) → RunsIn new k
RunsIn-kept old new k r kept marks = RunsIn-between old new k r (MayComeBetween-kept old new k r kept marks)

-- and, where what comes in has to be black, if it is.
pub RunsIn-kept_black : {black reached : Type 0} (old new : Keyed) (k : Kept) → RunsIn old k → KeepsAllIf black reached old new → black →
    (IsMarkingWell old → IsMarkingWell new) → RunsIn new k
RunsIn-kept_black old new k r kept b marks = RunsIn-between old new k r (record {
  order = kept.order [] r.order;
  colours = kept.colours r.colours;
  fresh = kept.fresh b;
  keys = kept.keys;
  marks = marks;
  unmarked = λ e. kept.marks.lists ∙ e;
})
