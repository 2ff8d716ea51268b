use Rattle.std.proofs.Common.{rules, ◌≡◌, set, Some, None, ap, sym, subst, ◌∙◌, arith}
use Rattle.slab.specs.Slab.{Slab, Updates, get}
use Rattle.cc_names.specs.declared.kind.Colour.TheVariants.{White, Black}
use Rattle.cc_script.specs.Cells.{Label, bare_slab, filled, filled_slab, in_new_mark, nothing}
use Rattle.cc_script.proofs.Paired.{updates-made}
use Rattle.cc_script.proofs.Coloured.{black-not_gray, inserted, noted-written, reaches-bare, reaches-filled, slots-reached, vacant-bare, vacant-coloured, written-here, written-others}
use Rattle.cc_script.proofs.cells.Cells.insert.Goals as goal

pub returns-in_err-reach-clause-err : goal.returns-in_err-reach-clause-err
returns-in_err-reach-clause-err c = grind (arith, slots-reached)

pub returns-in_err-reach_white-clause-err : goal.returns-in_err-reach_white-clause-err
returns-in_err-reach_white-clause-err c = grind (arith, slots-reached)

pub returns-in_err-reach_white-2-clause-err : goal.returns-in_err-reach_white-2-clause-err
returns-in_err-reach_white-2-clause-err c = grind (arith, slots-reached)

pub returns-clause-was_vacant : goal.returns-clause-was_vacant
returns-clause-was_vacant c =
    let s = c.self.inside.slab in
    let contents = c.self.inside.bodies.items in
    let marks = c.self.inside.new_marks.items in
    let key = c.in_ok-key.key in
    let same : c.insert_reserved.result ≡ key = c.insert_reserved.ensures.key ∙ (sym c.vacant_key-place.ensures.value ∙ sym c.in_ok-key.ensures.key) in
    let was_vacant = subst (λ k. get c.reserve.new.self k ≡ None) same c.insert_reserved.ensures.was_vacant in
    vacant-coloured (bare_slab s contents marks) c.self.inside.colours.items c.args.self.now c.self.view_is key
    (vacant-bare s contents marks key (sym (ap (λ (z : Slab Label). get z key) c.reserve.ensures.rest_kept) ∙ was_vacant))

pub returns-clause-updates : goal.returns-clause-updates
returns-clause-updates c =
    let s = c.self.inside.slab in
    let contents = c.self.inside.bodies.items in
    let marks = c.self.inside.new_marks.items in
    let colours = c.self.inside.colours.items in
    let key = c.in_ok-key.key in
    let free = c.vacant_key-place.result in
    let is_key : free ≡ key = sym c.in_ok-key.ensures.key in
    let same : c.insert_reserved.result ≡ key = c.insert_reserved.ensures.key ∙ (sym c.vacant_key-place.ensures.value ∙ is_key) in
    let mid = c.insert_reserved.new.self in
    let u = subst (λ k. Updates c.reserve.new.self mid k (Some c.args.cell)) same c.insert_reserved.ensures.updates in
    let updates : Updates s mid key (Some c.args.cell) = record { changed = u.changed; others = λ k other. u.others k other ∙ ap (λ (z : Slab Label). get z k) c.reserve.ensures.rest_kept } in
    let more = c.reach.new.bodies.items in
    let more_marks = c.reach_white-2.new.colours.items in
    let more_colours = c.reach_white.new.colours.items in
    let new_contents = set more free c.args.body in
    let new_marks = set more_marks free Black in
    let new_colours = set more_colours free c.args.colour in
    let z = filled c.args.body c.args.cell in
    inserted (bare_slab s contents marks) colours c.args.self.now c.self.view_is key (bare_slab mid new_contents new_marks) new_colours (in_new_mark Black z) c.args.colour
    (reaches-bare s contents marks colours c.self.invariant.coloured)
    (updates-made in_new_mark White (filled_slab s contents) marks key (filled_slab mid new_contents) new_marks z Black
    (reaches-filled s contents marks c.self.invariant.marked)
    (updates-made filled nothing s contents key mid new_contents c.args.cell c.args.body c.self.invariant.filled updates
    (written-here nothing c.args.body more free key is_key c.in_ok-reach.ensures.reaches)
    (λ k other within. written-others nothing c.args.body contents more free key is_key c.reach.ensures.same k other))
    (written-here White Black more_marks free key is_key c.in_ok-reach_white-2.ensures.reaches)
    (λ k other within. written-others White Black marks more_marks free key is_key c.reach_white-2.ensures.same k other))
    (written-here White c.args.colour more_colours free key is_key c.in_ok-reach_white.ensures.reaches)
    (λ k other within. written-others White c.args.colour colours more_colours free key is_key c.reach_white.ensures.same k other)

pub invariant_of-self-2 : goal.invariant_of-self-2
invariant_of-self-2 c =
    let free = c.vacant_key-place.result in
    record {
      filled = search rules;
      marked = search rules;
      coloured = search rules;
      emptied = search rules;
      marked_gray = noted-written c.self.inside.new_marks.items c.reach_white-2.new.colours.items free Black (omega (arith, c.in_ok-reach_white-2.ensures.reaches)) c.reach_white-2.ensures.same
          (λ none. (none, black-not_gray)) c.self.invariant.marked_gray;
      gray = noted-written c.self.inside.colours.items c.reach_white.new.colours.items free c.args.colour (omega (arith, c.in_ok-reach_white.ensures.reaches)) c.reach_white.ensures.same
          (λ none. c.may_be_gray_with-self-inside.ensures none) c.self.invariant.gray;
    }
