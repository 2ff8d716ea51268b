use Rattle.std.proofs.Common.{◌≡◌, ap, sym, subst, ◌∙◌, is_some, true}
use Rattle.cc_counted.specs.Counts.{Counts, number_at, the_number}
use Rattle.cc_counted.specs.Suspects.{is_purple_in}
use Rattle.cc_counted.specs.Lists.{counts_of}
use Rattle.cc_counted.proofs.Places.{the_number-cell}
use Rattle.cc_counted.proofs.Reading.{live-found}
use Rattle.cc_counted.proofs.Buffering.{purple-number}
use Rattle.cc_counted.proofs.counted.Counted.purple.Goals as goal

pub returns : goal.returns
returns c =
    let l = c.self.inside.natives.lists in
    let f = live-found l c.args.key.0 (subst (λ (v : Counts). is_some (number_at v c.args.key.0) ≡ true) (sym c.self.view_is) c.requires.live) in
    subst (λ (v : Counts). c.purple.result ≡ is_purple_in v.buffer (the_number v c.args.key.0)) c.self.view_is
    (c.purple.ensures ∙ (purple-number l c.self.invariant.placed c.args.key.0 f.0 f.1 l.marks c.self.invariant.placed.marked
    ∙ ap (is_purple_in (counts_of l).buffer) (sym (the_number-cell l.cells c.args.key.0 f.0 f.1))))
