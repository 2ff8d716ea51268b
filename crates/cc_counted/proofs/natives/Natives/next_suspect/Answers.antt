use Rattle.std.proofs.Common.{◌≡◌, ◌∙◌, sym, subst, true}
use Rattle.cc_chain.proofs.Chains.{chain-holds}
use Rattle.cc_purple.specs.Marks.{holds_key, keys_of}
use Rattle.cc_purple.proofs.Marks.{holds-has}
use Rattle.cc_counted.specs.Stored.{Stored}
use Rattle.cc_counted.specs.Nodes.{suspect_links}
use Rattle.cc_counted.specs.Natives.{slots_in, lists_of}
use Rattle.cc_counted.proofs.natives.Natives.next_suspect.Goals as goal

pub next-requires : goal.next-requires
next-requires c =
    chain-holds (suspect_links (slots_in c.self.inside)) c.self.inside.buffer.keys (keys_of (lists_of c.self.inside).marks) c.self.invariant.chained.buffer.keys c.args.key.0
    ∙ (sym (holds-has (lists_of c.self.inside).marks c.args.key.0)
    ∙ subst (λ (s : Stored). holds_key s.lists.marks c.args.key.0 ≡ true) (sym c.self.view_is) c.requires)
