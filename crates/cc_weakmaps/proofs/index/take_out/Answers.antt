use Rattle.std.proofs.Common.{◌∙◌, arith, None}
use Rattle.cc_weakmaps.proofs.Indexed.{below-same, known-at, known-kept, take-out}
use Rattle.cc_weakmaps.proofs.index.take_out.Goals as goal

pub keep-requires : goal.keep-requires
keep-requires c =
    let known = known-at c.args.entries.now c.args.lasts.now.places.items c.args.place _ c.index-entries-place.result c.requires.known c.requires.within (c.entry.view_is ∙ c.index-entries-place.is) in
    record { known = known.the_map }

pub keep-requires-2 : goal.keep-requires-2
keep-requires-2 c =
    let known = known-at c.args.entries.now c.args.lasts.now.places.items c.args.place _ c.index-entries-place.result c.requires.known c.requires.within (c.entry.view_is ∙ c.index-entries-place.is) in
    record { known = omega (arith, c.keep.ensures.memory.known, known.key) }

pub keep_of-requires : goal.keep_of-requires
keep_of-requires c =
    let known = known-at c.args.entries.now c.args.lasts.now.places.items c.args.place _ c.index-entries-place.result c.requires.known c.requires.within (c.entry.view_is ∙ c.index-entries-place.is) in
    record { known = below-same _ _ _ (c.keep-2.ensures.memory.known ∙ c.keep.ensures.memory.known) known.delegate }

pub returns-clause-indexed : goal.returns-clause-indexed
returns-clause-indexed c =
    take-out c.args.entries.now c.args.links.now c.args.lasts.now.places.items c.keep.new.self.places.items c.keep-2.new.self.places.items c.keep_of.new.self.places.items c.args.place _
    c.index-entries-place.result c.requires.within (c.entry.view_is ∙ c.index-entries-place.is) (record { by_map = None; by_key = None; by_delegate = None })
    c.keep.ensures.places c.keep-2.ensures.places c.keep_of.ensures.places c.requires.indexed

pub returns-clause-known : goal.returns-clause-known
returns-clause-known c =
    known-kept c.args.entries.now c.args.lasts.now.places.items c.keep_of.new.self.places.items (c.keep_of.ensures.memory.known ∙ (c.keep-2.ensures.memory.known ∙ c.keep.ensures.memory.known)) c.requires.known
