use Rattle.std.proofs.Common.{◌≡◌, List, Some, option_map, sym, ◌∙◌, ap, subst, rules}
use Rattle.std.specs.Prelude.{IfSome, slice_get}
use Rattle.cc_lists.specs.Members.{Among}
use Rattle.cc_lists.proofs.Places.{place-among}
use Rattle.cc_lists.specs.Walks.{first_of}
use Rattle.cc_weakmaps.specs.Entries.{KeyedEntry, entry}
use Rattle.cc_weakmaps.specs.Index.{IsPlaceOf, place_below}
use Rattle.cc_host.specs.Hosted.{Hosted, IsKept}
use Rattle.cc_host.specs.Walks.{entries_from}
use Rattle.cc_host.proofs.WalksEntries.{below-last_place, from-other}
use Rattle.cc_host.proofs.runtime.Runtime.entry_from.Goals as goal
use Rattle.cc_host.proofs.runtime.Runtime.entry_from.Goals.{After-entry}

-- the entry at the place where the walk stands
abbrev read : After-entry → KeyedEntry
read c = entry c.entry.result.0.0 c.entry.result.1.0 (option_map (λ k. k.0) c.entry.result.2) c.entry.result.3.0

stands : (c : After-entry) → slice_get c.args.self.now.heaps.entries c.in-Some.place ≡ Some (read c)
stands c =
    subst (λ (fs : List KeyedEntry). slice_get fs c.in-Some.place ≡ Some (read c)) (c.weak.ensures ∙ ap (λ (h : Hosted). h.heaps.entries) c.self.view_is) c.entry.ensures

within : (c : After-entry) → Among (read c) c.args.self.now.heaps.entries
within c = place-among (read c) c.args.self.now.heaps.entries c.in-Some.place (stands c)

pub pair-requires-clause-key : goal.pair-requires-clause-key
pair-requires-clause-key c =
    let e = (goal.at.pair-requires-clause-key c).After-entry in
    ((subst IsKept c.self.view_is c.self.invariant).runs.order.entries_there (read e) (within e)).key

pub pair-requires-clause-value : goal.pair-requires-clause-value
pair-requires-clause-value c =
    let e = (goal.at.pair-requires-clause-value c).After-entry in
    ((subst IsKept c.self.view_is c.self.invariant).runs.order.entries_there (read e) (within e)).value

pub loop-at-preserved : goal.loop-at-preserved
loop-at-preserved c =
    let es = c.args.self.now.heaps.entries in
    let m = c.args.the_map.0 in
    let i = c.in-Some.place in
    let is = c.weak-in-Some.ensures ∙ ap (λ (h : Hosted). h.heaps.entries) c.self.view_is in
    let e = (goal.at.loop-at-preserved c).After-entry in
    record {
      there = subst (λ fs. IfSome c.next_with-at.result (IsPlaceOf fs m)) is c.next_with-at.ensures.there;
      first = ap (λ p. first_of (entries_from es m p)) (subst (λ (fs : List KeyedEntry). c.next_with-at.result ≡ place_below fs m i) is c.next_with-at.ensures.place)
          ∙ (ap first_of (sym (from-other es m i (read e) (stands e) (search rules) ∙ below-last_place es m i))
          ∙ (ap (λ p. first_of (entries_from es m p)) (sym c.in-Some.is) ∙ c.loop-at.invariant.first));
    }
