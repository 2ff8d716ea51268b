use Rattle.std.proofs.Common.{◌≡◌, ◌<◌, ◌⊎◌, sym, ◌∙◌, subst, arith}
use Rattle.cc_object_graph.specs.Made.{script_made}
use Rattle.cc_object_graph.proofs.NumberedLists.{numbered-map_read, numbered-map_none}
use Rattle.cc_object_graph.proofs.scripts.Scripts.get.Goals as goal

pub returns-in-Some : goal.returns-in-Some
returns-in-Some c = rw (← c.self.view_is) (sym (numbered-map_read script_made _ _ _ _ c.in-Some.ensures.place.0 (omega (arith, c.in-Some.ensures.place.1, c.self.inside.items.ok.0)) c.index.ensures))

pub returns-in-None : goal.returns-in-None
returns-in-None c = rw (← c.self.view_is) (sym (numbered-map_none script_made _ _ (subst (λ n. (c.args.number.0 ≡ 0) ⊎ (n < c.args.number.0)) (c.len.ensures ∙ c.self.inside.items.ok.0) c.in-None.ensures.none)))
