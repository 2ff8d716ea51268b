use Rattle.std.proofs.Common.{◌≡◌, List, length, sym, ◌∙◌, ap, subst}
use Rattle.std.specs.Prelude.{IfSome}
use Rattle.cc_weakmaps.specs.Entries.{KeyedEntry}
use Rattle.cc_weakmaps.specs.Index.{IsPlaceOf, place_below}
use Rattle.cc_weakmaps.proofs.Below.{place-within}
use Rattle.cc_host.specs.Hosted.{Hosted}
use Rattle.cc_host.specs.Walks.{behind_entry, entries_from, entry_behind}
use Rattle.cc_host.proofs.WalksEntries.{other-place, passed-key, passed-map}
use Rattle.cc_host.proofs.runtime.Runtime.place_of.Goals as goal

pub loop-of_map-init : goal.loop-of_map-init
loop-of_map-init c =
    let es = c.args.self.now.heaps.entries in
    let m = c.args.the_map.0 in
    let k = c.args.key.0 in
    let is = c.weak.ensures ∙ ap (λ (h : Hosted). h.heaps.entries) c.self.view_is in
    let is_too = c.weak-2.ensures ∙ ap (λ (h : Hosted). h.heaps.entries) c.self.view_is in
    record {
      map_place = subst (λ fs. IfSome c.first_with-of_map.result (IsPlaceOf fs m)) is c.first_with-of_map.ensures.there;
      key_place = subst (λ fs. IfSome c.first_with-of_key.result (IsPlaceOf fs k)) is_too c.first_with-of_key.ensures.there;
      by_map = passed-map es m k (length es)
          ∙ ap (λ p. entry_behind k (entries_from es m p))
          (sym (subst (λ (fs : List KeyedEntry). c.first_with-of_map.result ≡ place_below fs m (length fs)) is c.first_with-of_map.ensures.place));
      by_key = passed-key es m k (length es)
          ∙ ap (λ p. entry_behind k (entries_from es m p))
          (sym (subst (λ (fs : List KeyedEntry). c.first_with-of_key.result ≡ place_below fs k (length fs)) is_too c.first_with-of_key.ensures.place));
    }

pub is_entry_at-requires : goal.is_entry_at-requires
is_entry_at-requires c =
    let es = c.args.self.now.heaps.entries in
    let m = c.args.the_map.0 in
    place-within es m c.in-Some.place (subst (λ at. IfSome at (IsPlaceOf es m)) c.in-Some.is c.loop-of_map.invariant.map_place)

pub is_entry_at-requires-in-Some : goal.is_entry_at-requires-in-Some
is_entry_at-requires-in-Some c =
    let es = c.args.self.now.heaps.entries in
    let k = c.args.key.0 in
    place-within es k c.in_ok-other.other (subst (λ at. IfSome at (IsPlaceOf es k)) c.in_ok-other.was c.loop-of_map.invariant.key_place)

pub loop-of_map-preserved : goal.loop-of_map-preserved
loop-of_map-preserved c =
    let es = c.args.self.now.heaps.entries in
    let m = c.args.the_map.0 in
    let k = c.args.key.0 in
    let i = c.in-Some.place in
    let j = c.in_ok-other.other in
    let is = c.weak-in-Some.ensures ∙ ap (λ (h : Hosted). h.heaps.entries) c.self.view_is in
    let is_too = c.weak-in-Some-2.ensures ∙ ap (λ (h : Hosted). h.heaps.entries) c.self.view_is in
    record {
      map_place = subst (λ fs. IfSome c.next_with-of_map.result (IsPlaceOf fs m)) is c.next_with-of_map.ensures.there;
      key_place = subst (λ fs. IfSome c.next_with-of_key.result (IsPlaceOf fs k)) is_too c.next_with-of_key.ensures.there;
      by_map = subst (λ at. behind_entry es m k ≡ entry_behind k (entries_from es m at)) c.in-Some.is c.loop-of_map.invariant.by_map
          ∙ (other-place es m k i m (subst (λ at. IfSome at (IsPlaceOf es m)) c.in-Some.is c.loop-of_map.invariant.map_place) (sym c.is_entry_at.ensures ∙ c.if-is_entry_at.false)
          ∙ (passed-map es m k i
          ∙ ap (λ p. entry_behind k (entries_from es m p))
          (sym (subst (λ (fs : List KeyedEntry). c.next_with-of_map.result ≡ place_below fs m i) is c.next_with-of_map.ensures.place))));
      by_key = subst (λ at. behind_entry es m k ≡ entry_behind k (entries_from es m at)) c.in_ok-other.was c.loop-of_map.invariant.by_key
          ∙ (other-place es m k j k (subst (λ at. IfSome at (IsPlaceOf es k)) c.in_ok-other.was c.loop-of_map.invariant.key_place) (sym c.is_entry_at-in-Some.ensures ∙ c.if-is_entry_at-2.false)
          ∙ (passed-key es m k j
          ∙ ap (λ p. entry_behind k (entries_from es m p))
          (sym (subst (λ (fs : List KeyedEntry). c.next_with-of_key.result ≡ place_below fs k j) is_too c.next_with-of_key.ensures.place))));
    }
