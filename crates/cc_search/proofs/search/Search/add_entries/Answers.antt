use Rattle.std.proofs.Common.{◌≡◌, ◌<◌, Some, length, refl, sym, ◌∙◌, ap, subst}
use Rattle.cc_names.specs.declared.name.Name.{Name}
use Rattle.cc_model.specs.Derivations.{with_entries}
use Rattle.cc_search.specs.Search.{falling, with_entry_at}
use Rattle.cc_search.proofs.EntryPlaces.{giving-place, giving-starts, giving-turn}
use Rattle.cc_search.proofs.Given.{some-of}
use Rattle.cc_search.proofs.search.Search.add_entries.Goals as goal

pub entries-init : goal.entries-init
entries-init g c =
    let l = g.L.Leads in
    let s = c.args.self.now in
    let places = c.places_with.new.entries.items in
    let given = subst (λ a. (x : Name) → l.name_of a c.args.object ≡ Some x → places ≡ falling (l.leads a).entries x (length (l.leads a).entries)) c.leads.ensures.leads c.in_ok-places_with.ensures in
    record { same = refl; giving = λ x named. giving-starts (l.leads s.0).entries x places s.1 (given x named) }

pub add_entry-requires : goal.add_entry-requires
add_entry-requires g c =
    let l = g.L.Leads in
    let s = c.args.self.now in
    let es = (l.leads s.0).entries in
    let x = some-of (l.name_of s.0 c.args.object) c.requires in
    let held = c.entries.invariant in
    subst (λ a. c.in-Some.i < length (l.leads a).entries) (sym held.same)
    (giving-place es c.entries.entries.items c.pop.new.self.items c.entries.self.1 (with_entries x.0 es s.1) c.in-Some.i c.in-Some.ensures.items (held.giving x.0 x.1))

pub entries-preserved : goal.entries-preserved
entries-preserved g c =
    let l = g.L.Leads in
    let s = c.args.self.now in
    let es = (l.leads s.0).entries in
    let now = c.entries.self in
    let next = c.add_entry.new.self in
    let held = c.entries.invariant in
    let given : next.1 ≡ with_entry_at es c.in-Some.i now.1 = ap (λ p. p.1) c.in_ok-add_entry.ensures ∙ ap (λ a. with_entry_at (l.leads a).entries c.in-Some.i now.1) held.same in
    record {
      same = ap (λ p. p.0) c.in_ok-add_entry.ensures ∙ held.same;
      giving = λ x named. giving-turn es c.entries.entries.items c.pop.new.self.items now.1 next.1 (with_entries x es s.1) c.in-Some.i c.in-Some.ensures.items given (held.giving x named);
    }
