use Rattle.std.proofs.Common.{◌≡◌, ◌∙◌, ap, arith, length}
use Rattle.cc_weakmaps.specs.Kept.{Kept}
use Rattle.cc_weakmaps.specs.Index.{place_below}
use Rattle.cc_weakmaps.proofs.Below.{below-there, below-below}
use Rattle.cc_weakmaps.proofs.entry_list.EntryList.first_with.Goals as goal

pub returns-clause-there : goal.returns-clause-there
returns-clause-there c =
    below-there c.args.self.now.entries c.args.object.0 (length c.args.self.now.entries) c.widen.result
    (c.widen.ensures ∙ (c.last.ensures ∙ ((c.self.invariant.index c.if-not-self.false).indexed.last c.args.object.0 ∙ ap (λ (z : Kept). place_below z.entries c.args.object.0 (length z.entries)) c.self.view_is)))

pub returns-clause-within : goal.returns-clause-within
returns-clause-within c =
    below-below c.args.self.now.entries c.args.object.0 (length c.args.self.now.entries) c.widen.result
    (c.widen.ensures ∙ (c.last.ensures ∙ ((c.self.invariant.index c.if-not-self.false).indexed.last c.args.object.0 ∙ ap (λ (z : Kept). place_below z.entries c.args.object.0 (length z.entries)) c.self.view_is)))

looked : (c : goal.After-last_below) → c.last_below.result ≡ place_below c.args.self.now.entries c.args.object.0 (length c.args.self.now.entries)
looked c =
    let es = c.self.inside.entries.items in
    let len : c.len.result ≡ length es = omega (arith, c.len.ensures, c.self.inside.entries.ok.0) in
    c.last_below.ensures
    ∙ (ap (λ xs. place_below xs c.args.object.0 c.len.result) c.as_slice.ensures.value
    ∙ (ap (λ n. place_below es c.args.object.0 n) len
    ∙ ap (λ (z : Kept). place_below z.entries c.args.object.0 (length z.entries)) c.self.view_is))

pub returns-then-not-self-clause-there : goal.returns-then-not-self-clause-there
returns-then-not-self-clause-there c = below-there c.args.self.now.entries c.args.object.0 (length c.args.self.now.entries) c.last_below.result (looked c)

pub returns-then-not-self-clause-within : goal.returns-then-not-self-clause-within
returns-then-not-self-clause-within c = below-below c.args.self.now.entries c.args.object.0 (length c.args.self.now.entries) c.last_below.result (looked c)
