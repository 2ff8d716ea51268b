use Rattle.std.proofs.Common.{◌≡◌, ◌<◌, ◌==◌, ℕ, subst, arith, length, false}
use Rattle.std.specs.Prelude.{IsTrue, ◌↔◌, nat_lt}
use Rattle.std.proofs.lemmas.Bool.{ltb-true, lt-ltb}
use Rattle.cc_lists.specs.Members.{has}
use Rattle.cc_graph.specs.Kept.{Numbered}
use Rattle.cc_graph.proofs.Numbering.{numbered-white, white-numbered}
use Rattle.cc_graph.proofs.nodes.Nodes.has_white.Goals as goal

pub returns : goal.returns
returns c =
    subst (λ (v : Numbered). IsTrue (nat_lt c.len.result c.len-2.result) ↔ ((i : ℕ) × (i < length v.nodes) × (has ◌==◌ v.blacks i ≡ false))) c.self.view_is (
      λ t. let less : c.len.result < c.len-2.result = ltb-true _ _ t in numbered-white _ _ _ _ c.self.invariant (omega (arith, less, c.len.ensures.count, c.len-2.ensures.count)),
      λ w. let fewer = white-numbered _ _ _ _ w.0 c.self.invariant w.1 w.2 in lt-ltb c.len.result c.len-2.result (omega (arith, fewer, c.len.ensures.count, c.len-2.ensures.count)),
    )
