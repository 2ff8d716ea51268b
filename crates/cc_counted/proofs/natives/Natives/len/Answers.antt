use Rattle.std.proofs.Common.{is_some, sym, ◌∙◌, ap, count_by}
use Rattle.cc_chain.proofs.Occupied.{parts-counted}
use Rattle.cc_counted.specs.declared.node.Node.{Node}
use Rattle.cc_counted.specs.Natives.{slots_in}
use Rattle.cc_counted.specs.Stored.{Stored}
use Rattle.cc_counted.proofs.natives.Natives.len.Goals as goal

pub returns : goal.returns
returns c = c.len.ensures ∙ (sym (parts-counted (λ (n : Node). n.cell) (slots_in c.self.inside)) ∙ ap (λ (s : Stored). count_by is_some s.lists.cells) c.self.view_is)
