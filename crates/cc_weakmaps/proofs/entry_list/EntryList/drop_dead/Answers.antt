use Rattle.std.proofs.Common.{◌≡◌, ◌≤◌, ◌∙◌, ap, subst, sym, arith, length, take, List}
use Rattle.std.proofs.lemmas.Bool.{false≢true}
use Rattle.cc_weakmaps.specs.Entries.{KeyedEntry}
use Rattle.cc_weakmaps.specs.Index.{AreKnown, HasIndex, IsIndexed}
use Rattle.cc_weakmaps.specs.Living.{StayBefore}
use Rattle.cc_weakmaps.specs.declared.links.Links.{Links}
use Rattle.cc_weakmaps.proofs.Changes.{fewer-known, fewer-indexed, fewer-index, front-same, front-within, living-part, living-fewer}
use Rattle.cc_weakmaps.proofs.Staying.{HasOneEach-living}
use Rattle.cc_weakmaps.proofs.entry_list.EntryList.drop_dead.Goals as goal

pub put_in_from-requires-clause-room : goal.put_in_from-requires-clause-room
put_in_from-requires-clause-room g c =
    omega (arith, ap length c.as_slice-4.ensures.value, living-fewer (goal.F-post g c.args.alive) c.self.inside.entries.items c.keep_living-2.new.entries.items c.keep_living-2.ensures.living, (c.self.invariant.index c.if-not-self.false).as_many)

pub put_in_from-requires-clause-few : goal.put_in_from-requires-clause-few
put_in_from-requires-clause-few g c =
    omega (arith, ap length c.as_slice-4.ensures.value, living-fewer (goal.F-post g c.args.alive) c.self.inside.entries.items c.keep_living-2.new.entries.items c.keep_living-2.ensures.living, c.self.invariant.few)

pub keep_living-requires-2-clause-stay : goal.keep_living-requires-2-clause-stay
keep_living-requires-2-clause-stay g c =
    subst (λ (xs : List KeyedEntry). StayBefore (goal.F-post g c.args.alive) xs c.first_dead-start.result) c.as_slice.ensures.value c.first_dead-start.ensures.stay

pub put_in_from-requires-clause-known : goal.put_in_from-requires-clause-known
put_in_from-requires-clause-known g c =
    let es = c.self.inside.entries.items in
    let fs = c.keep_living-2.new.entries.items in
    let left = c.take_out_from.new.lasts.places.items in
    subst (λ (xs : List KeyedEntry). AreKnown xs left) (sym c.as_slice-4.ensures.value)
    (fewer-known es fs c.self.inside.links.items left (living-part (goal.F-post g c.args.alive) es fs c.keep_living-2.ensures.living)
    (subst (λ (xs : List KeyedEntry). AreKnown xs left) c.as_slice-3.ensures.value c.take_out_from.ensures.known))

pub put_in_from-requires-clause-indexed : goal.put_in_from-requires-clause-indexed
put_in_from-requires-clause-indexed g c =
    let es = c.self.inside.entries.items in
    let fs = c.keep_living-2.new.entries.items in
    let left = c.take_out_from.new.lasts.places.items in
    let start = c.first_dead-start.result in
    let within : start ≤ length es = omega (arith, c.first_dead-start.ensures.within, ap length c.as_slice.ensures.value) in
    let front = c.keep_living-2.ensures.front in
    subst (λ (xs : List KeyedEntry). IsIndexed xs c.self.inside.links.items left start) (sym c.as_slice-4.ensures.value)
    (fewer-indexed es fs c.self.inside.links.items left start within (front-within start es fs within front) (front-same start es fs front)
    (subst (λ (xs : List KeyedEntry). IsIndexed xs c.self.inside.links.items left start) c.as_slice-3.ensures.value
    (subst (λ (ls : List Links). IsIndexed c.as_slice-3.result.now ls left start) c.as_slice-2.ensures.value c.take_out_from.ensures.indexed)))

pub invariant_of-self-2 : goal.invariant_of-self-2
invariant_of-self-2 g c =
    let es = c.self.inside.entries.items in
    let fs = c.keep_living-2.new.entries.items in
    let put = c.put_in_from.new in
    let left = put.lasts.places.items in
    let fewer : length fs ≤ length es = living-fewer (goal.F-post g c.args.alive) es fs c.keep_living-2.ensures.living in
    let len : c.len.result ≡ length fs = omega (arith, c.len.ensures, c.keep_living-2.new.entries.ok.0) in
    let indexed : IsIndexed fs put.links.items put.lasts.places.items (length fs) =
    subst (λ (xs : List KeyedEntry). IsIndexed xs put.links.items put.lasts.places.items (length xs)) c.as_slice-4.ensures.value c.put_in_from.ensures.indexed in
    let cut : ◌≡◌ {A = List Links} c.truncate.new.self.items (take (length fs) put.links.items) = subst (λ n. ◌≡◌ {A = List Links} c.truncate.new.self.items (take n put.links.items)) len c.truncate.ensures.items in
    record {
      at_most_one = HasOneEach-living (goal.F-post g c.args.alive) es fs c.keep_living-2.ensures.living c.self.invariant.at_most_one;
      few = omega (arith, fewer, c.self.invariant.few);
      index = λ is. subst (λ (ls : List Links). HasIndex fs ls left) (sym cut)
          (fewer-index fs put.links.items left (omega (arith, fewer, c.put_in_from.ensures.count, (c.self.invariant.index is).as_many)) indexed);
    }

pub returns-clause-at_most_one : goal.returns-clause-at_most_one
returns-clause-at_most_one g c = (invariant_of-self-2 g c).at_most_one

-- without an index

pub keep_living-requires-clause-stay : goal.keep_living-requires-clause-stay
keep_living-requires-clause-stay g c rest h = h

pub invariant_of-self : goal.invariant_of-self
invariant_of-self g c =
    let es = c.self.inside.entries.items in
    let fs = c.keep_living.new.entries.items in
    let fewer : length fs ≤ length es = living-fewer (goal.F-post g c.args.alive) es fs c.keep_living.ensures.living in
    record {
      at_most_one = HasOneEach-living (goal.F-post g c.args.alive) es fs c.keep_living.ensures.living c.self.invariant.at_most_one;
      few = omega (arith, fewer, c.self.invariant.few);
      index = λ is. absurd {A = HasIndex fs c.self.inside.links.items c.self.inside.lasts.places.items} (false≢true (sym c.if-not-self.true ∙ is));
    }

pub returns-then-not-self-clause-at_most_one : goal.returns-then-not-self-clause-at_most_one
returns-then-not-self-clause-at_most_one g c = (invariant_of-self g c).at_most_one
