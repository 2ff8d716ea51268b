use Rattle.std.proofs.Common.{◌≡◌, ◌<◌, ℕ, List, Option, None, length, get_or, true, ap, sym, subst, ◌∙◌, arith}
use Rattle.std.proofs.lemmas.List.{get_or_default}
use Rattle.cc_counted.specs.declared.held.Held.{Held}
use Rattle.cc_counted.specs.Counts.{Counts, slots_of, name_of, is_live}
use Rattle.cc_counted.specs.Lists.{Placed, counts_of}
use Rattle.cc_counted.proofs.Reading.{length-slots_of, slot-name}
use Rattle.cc_counted.proofs.Writing.{slot-live}
use Rattle.cc_counted.proofs.counted.Counted.slot.Goals as goal

pub index-requires : goal.index-requires
index-requires c =
    let within : c.args.i < length c.at.result.now.slots =
    omega (
      arith,
      subst (λ (v : Counts). c.args.i < length (slots_of v c.args.key.0)) (sym c.self.view_is) c.requires.within,
      length-slots_of c.self.inside.natives.lists c.self.invariant.placed c.args.key.0 c.at.result.now c.at.ensures,
    ) in
    omega (arith, ap (λ (p : Placed). length p.slots) c.behind-self.view_is)

-- the slot that was read
read : (xs ys : List (Option Held)) (i : ℕ) (x : Option Held) → xs ≡ ys → i < length ys → x ≡ get_or xs i x → x ≡ get_or ys i None
read xs ys i x e within r = r ∙ (ap (λ zs. get_or zs i x) e ∙ get_or_default ys i x None within)

pub returns-clause-name : goal.returns-clause-name
returns-clause-name c =
    let l = c.self.inside.natives.lists in
    let within : c.args.i < length c.at.result.now.slots =
    omega (
      arith,
      subst (λ (v : Counts). c.args.i < length (slots_of v c.args.key.0)) (sym c.self.view_is) c.requires.within,
      length-slots_of l c.self.invariant.placed c.args.key.0 c.at.result.now c.at.ensures,
    ) in
    let found = read c.behind-self.inside.slots.items c.at.result.now.slots c.args.i c.index.result.now (ap (λ (p : Placed). p.slots) c.behind-self.view_is) within c.index.ensures in
    subst (λ (v : Counts). name_of v c.held.result ≡ get_or (slots_of v c.args.key.0) c.args.i None) c.self.view_is
    (ap (name_of (counts_of l)) (c.held.ensures ∙ found) ∙ slot-name l c.self.invariant.placed c.args.key.0 c.at.result.now c.at.ensures c.args.i)

pub returns-clause-live : goal.returns-clause-live
returns-clause-live c =
    let l = c.self.inside.natives.lists in
    let within : c.args.i < length c.at.result.now.slots =
    omega (
      arith,
      subst (λ (v : Counts). c.args.i < length (slots_of v c.args.key.0)) (sym c.self.view_is) c.requires.within,
      length-slots_of l c.self.invariant.placed c.args.key.0 c.at.result.now c.at.ensures,
    ) in
    let found = read c.behind-self.inside.slots.items c.at.result.now.slots c.args.i c.index.result.now (ap (λ (p : Placed). p.slots) c.behind-self.view_is) within c.index.ensures in
    subst (λ (v : Counts). is_live v c.held.result ≡ true) c.self.view_is
    (ap (is_live (counts_of l)) (c.held.ensures ∙ found) ∙ slot-live l c.self.invariant.placed c.args.key.0 c.at.result.now c.at.ensures c.args.i within)
