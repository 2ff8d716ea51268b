use Rattle.std.proofs.Common.{◌≡◌, ◌<◌, ◌∙◌, ◌+◌, ap, subst, sym, arith, length, take, List}
use Rattle.std.proofs.lemmas.Bool.{false≢true}
use Rattle.std.specs.Prelude.{remove}
use Rattle.std.proofs.lemmas.List.Edits.{length-remove}
use Rattle.cc_weakmaps.specs.Entries.{KeyedEntry}
use Rattle.cc_weakmaps.specs.Kept.{Kept}
use Rattle.cc_weakmaps.specs.Index.{AreKnown, HasIndex, IsIndexed, IsKept}
use Rattle.cc_weakmaps.specs.declared.links.Links.{Links}
use Rattle.cc_weakmaps.proofs.Changes.{fewer-known, fewer-indexed, fewer-index, remove-part, remove-front}
use Rattle.cc_weakmaps.proofs.OneEach.{HasOneEach-remove}
use Rattle.cc_weakmaps.proofs.entry_list.EntryList.remove.Goals as goal

pub put_in_from-requires-clause-known : goal.put_in_from-requires-clause-known
put_in_from-requires-clause-known c =
    let es = c.self.inside.entries.items in
    let left = c.take_out_from.new.lasts.places.items in
    subst (λ (xs : List KeyedEntry). AreKnown xs left) (sym (c.as_slice-3.ensures.value ∙ c.remove-2.ensures.items))
    (fewer-known es (remove es c.args.place) c.self.inside.links.items left (remove-part es c.args.place)
    (subst (λ (xs : List KeyedEntry). AreKnown xs left) c.as_slice-2.ensures.value c.take_out_from.ensures.known))

pub put_in_from-requires-clause-indexed : goal.put_in_from-requires-clause-indexed
put_in_from-requires-clause-indexed c =
    let es = c.self.inside.entries.items in
    let links = c.self.inside.links.items in
    let left = c.take_out_from.new.lasts.places.items in
    let within : c.args.place < length es = omega (arith, ap (λ (z : Kept). length z.entries) c.self.view_is, c.requires) in
    subst (λ (xs : List KeyedEntry). IsIndexed xs links left c.args.place) (sym (c.as_slice-3.ensures.value ∙ c.remove-2.ensures.items))
    (fewer-indexed es (remove es c.args.place) links left c.args.place (omega (arith, within)) (omega (arith, within, length-remove es c.args.place within)) (remove-front es c.args.place)
    (subst (λ (xs : List KeyedEntry). IsIndexed xs links left c.args.place) c.as_slice-2.ensures.value
    (subst (λ (ls : List Links). IsIndexed c.as_slice-2.result.now ls left c.args.place) c.as_slice.ensures.value c.take_out_from.ensures.indexed)))

pub invariant_of-self-2 : goal.invariant_of-self-2
invariant_of-self-2 c =
    let es = c.self.inside.entries.items in
    let fs = remove es c.args.place in
    let put = c.put_in_from.new in
    let within : c.args.place < length es = omega (arith, ap (λ (z : Kept). length z.entries) c.self.view_is, c.requires) in
    let fewer : length fs + 1 ≡ length es = length-remove es c.args.place within in
    let len : c.len.result ≡ length fs = omega (arith, c.len.ensures, c.remove-2.new.self.ok.0, ap length c.remove-2.ensures.items) in
    let indexed : IsIndexed fs put.links.items put.lasts.places.items (length fs) =
    subst (λ (xs : List KeyedEntry). IsIndexed xs put.links.items put.lasts.places.items (length xs)) (c.as_slice-3.ensures.value ∙ c.remove-2.ensures.items) c.put_in_from.ensures.indexed in
    let cut : ◌≡◌ {A = List Links} c.truncate.new.self.items (take (length fs) put.links.items) = subst (λ n. ◌≡◌ {A = List Links} c.truncate.new.self.items (take n put.links.items)) len c.truncate.ensures.items in
    subst (λ (xs : List KeyedEntry). IsKept xs c.truncate.new.self.items put.lasts.places.items c.self.inside.has_index) (sym c.remove-2.ensures.items)
    (record {
      at_most_one = HasOneEach-remove es c.args.place c.self.invariant.at_most_one;
      few = omega (arith, fewer, c.self.invariant.few);
      index = λ is. subst (λ (ls : List Links). HasIndex fs ls put.lasts.places.items) (sym cut)
          (fewer-index fs put.links.items put.lasts.places.items (omega (arith, fewer, c.put_in_from.ensures.count, (c.self.invariant.index is).as_many)) indexed);
    })

pub returns-clause-at_most_one : goal.returns-clause-at_most_one
returns-clause-at_most_one c = (invariant_of-self-2 c).at_most_one

-- without an index

pub invariant_of-self : goal.invariant_of-self
invariant_of-self c =
    let es = c.self.inside.entries.items in
    let within : c.args.place < length es = omega (arith, ap (λ (z : Kept). length z.entries) c.self.view_is, c.requires) in
    let fewer : length (remove es c.args.place) + 1 ≡ length es = length-remove es c.args.place within in
    subst (λ (xs : List KeyedEntry). IsKept xs c.self.inside.links.items c.self.inside.lasts.places.items c.self.inside.has_index) (sym c.remove.ensures.items)
    (record {
      at_most_one = HasOneEach-remove es c.args.place c.self.invariant.at_most_one;
      few = omega (arith, fewer, c.self.invariant.few);
      index = λ is. absurd (false≢true (sym c.if-not-self.true ∙ is));
    })

pub returns-then-not-self-clause-at_most_one : goal.returns-then-not-self-clause-at_most_one
returns-then-not-self-clause-at_most_one c = (invariant_of-self c).at_most_one
