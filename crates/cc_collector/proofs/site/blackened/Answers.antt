use Rattle.std.proofs.Common.{◌≡◌, ℕ, ◌↔◌, ◌⊎◌, IsTrue, sym, subst}
use Rattle.cc_lists.specs.Members.{Among}
use Rattle.cc_graph.specs.Shown.{Shown, is_black}
use Rattle.cc_graph.specs.Held.{AreHeld}
use Rattle.cc_heaps.specs.HasKey.{HasKey}
use Rattle.cc_heaps.specs.Keyed.{Keyed}
use Rattle.cc_repair.specs.Touched.{touched}
use Rattle.cc_collector.proofs.Whiteness.{whites-found}
use Rattle.cc_collector.proofs.site.blackened.Goals as goal

pub mark_touched-requires-clause-held : goal.mark_touched-requires-clause-held
mark_touched-requires-clause-held c = subst (λ (g : Shown). AreHeld g (HasKey c.args.heaps.now)) (sym c.finish-graph.ensures) c.requires.held

pub returns-clause-whites : goal.returns-clause-whites
returns-clause-whites c =
    let v = c.args.heaps.now in
    let m = c.mark_touched.new.graph in
    whites-found c.args.build v m c.scan_uncounted.new.graph c.requires.built c.requires.behind
    (subst (λ (g : Shown). (i : ℕ) → IsTrue (is_black m i) ↔ (IsTrue (is_black g i) ⊎ Among i (touched g v.heap))) c.finish-graph.ensures c.mark_touched.ensures.marked)
    (subst (λ (g : Shown). m ≡ record g { blacks = m.blacks }) c.finish-graph.ensures c.mark_touched.ensures.rest)
    c.scan_uncounted.ensures.least c.scan_uncounted.ensures.rest

-- which nodes are black makes no difference to their keys
held-rest : (v : Keyed) (g h : Shown) → g ≡ record h { blacks = g.blacks } → AreHeld h (HasKey v) → AreHeld g (HasKey v)
held-rest v g h same are = subst (λ (z : Shown). AreHeld z (HasKey v)) (sym same) are

pub returns-clause-held : goal.returns-clause-held
returns-clause-held c =
    let v = c.args.heaps.now in
    held-rest v c.scan_uncounted.new.graph c.mark_touched.new.graph c.scan_uncounted.ensures.rest
    (held-rest v c.mark_touched.new.graph c.finish-graph.result c.mark_touched.ensures.rest
    (subst (λ (g : Shown). AreHeld g (HasKey v)) (sym c.finish-graph.ensures) c.requires.held))
