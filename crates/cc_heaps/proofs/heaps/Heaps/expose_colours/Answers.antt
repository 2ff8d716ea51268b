use Rattle.std.proofs.Common.{List, ℕ, [], ◌∷◌, refl, ◌∙◌, ap}
use Rattle.cc_script.specs.Objects.{name_at}
use Rattle.cc_script.specs.Walking.{keys_reached}
use Rattle.cc_model.specs.Exposure.{exposed}
use Rattle.cc_heaps.specs.Fields.{heap_of, keyed_of}
use Rattle.cc_heaps.specs.Keyed.{IsInOrder}
use Rattle.cc_heaps.proofs.ExposedMarks.{marking-raised}
use Rattle.cc_heaps.proofs.ScriptsChanged.{with_objects}
use Rattle.cc_heaps.proofs.ScriptCalls.{Becomes, becomes-exposed}
use Rattle.cc_heaps.proofs.ScriptWrites.{KeepsObjects-raised, marks-written, name_at-written, new_mark-raised, raise_among}
use Rattle.cc_heaps.proofs.heaps.Heaps.expose_colours.Goals as goal

becomes_owned : (c : goal.After-expose) (owned : List ℕ) → IsInOrder owned (keyed_of c.self.inside) →
    Becomes owned c.self.inside (with_objects c.self.inside c.expose.new.self c.self.inside.scripts_made) (exposed (heap_of c.self.inside) (name_at c.self.inside.scripts c.args.key.0))
becomes_owned c owned o = becomes-exposed c.self.inside c.self.invariant o c.args.key.0 (rw (← c.self.view_is) at c.requires.live) c.expose.new.self c.expose.ensures

pub invariant_of-self : goal.invariant_of-self
invariant_of-self c = let f = rw (← c.self.view_is) at c.requires.order in (becomes_owned c f.0 f.1).linked

pub returns-clause-heap : goal.returns-clause-heap
returns-clause-heap c = let f = rw (← c.self.view_is) at c.requires.order in rw (← c.self.view_is) (becomes_owned c f.0 f.1).heap

pub returns-clause-order : goal.returns-clause-order
returns-clause-order c owned = rw (← c.self.view_is) (λ o. (becomes_owned c owned o).order)

abbrev keys : goal.After-expose → List ℕ
keys c = keys_reached c.self.inside.scripts (c.args.key.0 ∷ [])

pub returns-clause-names : goal.returns-clause-names
returns-clause-names c =
    let p = c.self.inside in
    rw (← c.self.view_is)
    (λ k. ap (λ os. name_at os k) c.expose.ensures ∙ name_at-written (raise_among (keys c)) (KeepsObjects-raised (keys c)) p.scripts k)

pub returns-clause-marks : goal.returns-clause-marks
returns-clause-marks c =
    let p = c.self.inside in
    rw (← c.self.view_is)
    (marks-written (keyed_of p) (keyed_of (with_objects p c.expose.new.self p.scripts_made)) (raise_among (keys c)) (KeepsObjects-raised (keys c)) (new_mark-raised (keys c)) refl c.expose.ensures)

pub returns-clause-marking : goal.returns-clause-marking
returns-clause-marking c =
    let p = c.self.inside in
    rw (← c.self.view_is)
    (marking-raised (keyed_of p) (keyed_of (with_objects p c.expose.new.self p.scripts_made)) (keys c) refl c.expose.ensures)
