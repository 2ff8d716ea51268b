use Rattle.std.proofs.Common.{◌++◌, sym, ◌∙◌, ap, subst}
use Rattle.cc_laws_heap.specs.Sound.{numbers_of}
use Rattle.cc_heaps.specs.Keyed.{IsInOrder}
use Rattle.cc_heaps.specs.Changes.{held_name}
use Rattle.cc_heaps.proofs.Content.{held_of_native-name}
use Rattle.cc_heaps.proofs.heaps.Heaps.put_in_register.Goals as goal

pub let_go-requires-clause-order : goal.let_go-requires-clause-order
let_go-requires-clause-order g c =
    let w = c.replace_register-held.new.self in
    let f = c.requires.order in
    let same = sym (ap (held_name w) c.of_native.ensures ∙ held_of_native-name w c.replace_register-held.result) in
    (f.0, subst (λ y. IsInOrder (numbers_of y ++ f.0) w) same (c.replace_register-held.ensures.order f.0 f.1))

pub returns-clause-order : goal.returns-clause-order
returns-clause-order g c owned o =
    let w = c.replace_register-held.new.self in
    let same = sym (ap (held_name w) c.of_native.ensures ∙ held_of_native-name w c.replace_register-held.result) in
    c.let_go.ensures.order owned (subst (λ y. IsInOrder (numbers_of y ++ owned) w) same (c.replace_register-held.ensures.order owned o))
