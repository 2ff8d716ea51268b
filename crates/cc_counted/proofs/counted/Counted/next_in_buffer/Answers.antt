use Rattle.std.proofs.Common.{◌≡◌, option_and_then, is_some, IfSome, true, ap, sym, subst, ◌∙◌}
use Rattle.cc_names.specs.declared.number.NKey.{NKey}
use Rattle.cc_purple.specs.Marks.{key_after}
use Rattle.cc_counted.specs.Counts.{Counts, number_at, the_number}
use Rattle.cc_counted.specs.Suspects.{is_in_buffer, number_behind}
use Rattle.cc_counted.specs.Lists.{counts_of}
use Rattle.cc_counted.proofs.Places.{the_number-cell}
use Rattle.cc_counted.proofs.Reading.{live-found}
use Rattle.cc_counted.proofs.Ordering.{and_then-key}
use Rattle.cc_counted.proofs.Buffering.{in_buffer-number, behind-number, live-behind}
use Rattle.cc_counted.proofs.counted.Counted.next_in_buffer.Goals as goal

pub next_suspect-requires : goal.next_suspect-requires
next_suspect-requires c =
    let l = c.self.inside.natives.lists in
    let f = live-found l c.args.key.0 (subst (λ (v : Counts). is_some (number_at v c.args.key.0) ≡ true) (sym c.self.view_is) c.requires.live) in
    let there = subst (λ (v : Counts). is_in_buffer v.buffer (the_number v c.args.key.0) ≡ true) (sym c.self.view_is) c.requires.buffered in
    in_buffer-number l c.self.invariant.placed c.args.key.0 f.0 f.1 l.marks c.self.invariant.placed.marked
    ∙ (ap (is_in_buffer (counts_of l).buffer) (sym (the_number-cell l.cells c.args.key.0 f.0 f.1)) ∙ there)

pub returns-clause-number : goal.returns-clause-number
returns-clause-number c =
    let l = c.self.inside.natives.lists in
    let f = live-found l c.args.key.0 (subst (λ (v : Counts). is_some (number_at v c.args.key.0) ≡ true) (sym c.self.view_is) c.requires.live) in
    subst (λ (v : Counts). option_and_then (λ (k : NKey). number_at v k.0) c.next_suspect.result ≡ number_behind v.buffer (the_number v c.args.key.0)) c.self.view_is
    (and_then-key (number_at (counts_of l)) c.next_suspect.result (key_after l.marks c.args.key.0) c.next_suspect.ensures
    ∙ (behind-number l c.self.invariant.placed c.args.key.0 f.0 f.1 l.marks c.self.invariant.placed.marked
    ∙ ap (number_behind (counts_of l).buffer) (sym (the_number-cell l.cells c.args.key.0 f.0 f.1))))

pub returns-clause-live : goal.returns-clause-live
returns-clause-live c =
    subst (λ (v : Counts). IfSome c.next_suspect.result (λ (k : NKey). is_some (number_at v k.0) ≡ true)) c.self.view_is
    (live-behind c.self.inside.natives.lists c.self.invariant.placed c.args.key.0 c.next_suspect.result c.next_suspect.ensures)
