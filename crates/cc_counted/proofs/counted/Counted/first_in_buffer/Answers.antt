use Rattle.std.proofs.Common.{◌≡◌, option_and_then, is_some, IfSome, true, subst, ◌∙◌}
use Rattle.cc_names.specs.declared.number.NKey.{NKey}
use Rattle.cc_purple.specs.Marks.{first_key}
use Rattle.cc_counted.specs.Counts.{Counts, number_at}
use Rattle.cc_counted.specs.Suspects.{front_number}
use Rattle.cc_counted.specs.Lists.{counts_of}
use Rattle.cc_counted.proofs.Ordering.{and_then-key}
use Rattle.cc_counted.proofs.Buffering.{front-number, live-front}
use Rattle.cc_counted.proofs.counted.Counted.first_in_buffer.Goals as goal

pub returns-clause-number : goal.returns-clause-number
returns-clause-number c =
    let l = c.self.inside.natives.lists in
    subst (λ (v : Counts). option_and_then (λ (k : NKey). number_at v k.0) c.first_suspect.result ≡ front_number v.buffer) c.self.view_is
    (and_then-key (number_at (counts_of l)) c.first_suspect.result (first_key l.marks) c.first_suspect.ensures ∙ front-number l c.self.invariant.placed l.marks c.self.invariant.placed.marked)

pub returns-clause-live : goal.returns-clause-live
returns-clause-live c =
    subst (λ (v : Counts). IfSome c.first_suspect.result (λ (k : NKey). is_some (number_at v k.0) ≡ true)) c.self.view_is
    (live-front c.self.inside.natives.lists c.self.invariant.placed c.first_suspect.result c.first_suspect.ensures)
