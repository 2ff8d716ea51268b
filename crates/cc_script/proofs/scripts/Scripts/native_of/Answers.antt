use Rattle.std.proofs.Common.{◌≡◌, ◌↔◌, ℕ, List, Option, Some, option_map, option_and_then, is_some, IsSome, ap, sym, subst, ◌∙◌, arith}
use Rattle.cc_names.specs.declared.kind.Kind.{Kind}
use Rattle.cc_names.specs.declared.kind.Kind.TheVariants.{Reflector}
use Rattle.cc_names.specs.declared.number.NKey.{NKey}
use Rattle.cc_script.specs.Objects.{Object, FitsKind, kind_at, native_at}
use Rattle.cc_script.specs.Cells.{Label, filled, in_colour, in_new_mark}
use Rattle.cc_script.specs.Parts.{lists_of}
use Rattle.cc_script.proofs.Places.{object_at-placed}
use Rattle.cc_script.proofs.scripts.Scripts.native_of.Goals as goal

-- the key of a native, by its number
abbrev native_key : Option NKey → Option ℕ
native_key native = option_map (λ (k : NKey). k.0) native

as-many : (native : Option NKey) → is_some (native_key native) ≡ is_some native
as-many native = grind arith

exactly : (native : Option NKey) (kind : Kind) (found : Option Kind) → FitsKind kind (native_key native) → found ≡ Some kind → IsSome native ↔ (found ≡ Some Reflector)
exactly native kind found fits e = grind (arith, as-many, fits.0, fits.1)

pub returns-clause-native : goal.returns-clause-native
returns-clause-native c =
    subst (λ (v : List Object). native_key c.native.result ≡ native_at v c.args.key.0) c.self.view_is
    (ap native_key c.native.ensures ∙ ap (λ (p : Label). p.native) c.behind-self.view_is
    ∙ sym (ap (option_and_then (λ (o : Object). o.native)) (object_at-placed (lists_of c.self.inside.parts) c.self.invariant.placed c.args.key.0 (in_colour c.cell.ensures.0 (in_new_mark c.cell.ensures.1.0 (filled c.cell.ensures.1.1.0 c.cell.result.now))).placed c.cell.ensures.1.1.1)))

pub returns-clause-exactly : goal.returns-clause-exactly
returns-clause-exactly c =
    let p = (in_colour c.cell.ensures.0 (in_new_mark c.cell.ensures.1.0 (filled c.cell.ensures.1.1.0 c.cell.result.now))).placed in
    let fits : FitsKind p.kind p.native = c.self.invariant.placed.reflected c.args.key.0 p c.cell.ensures.1.1.1 in
    exactly c.native.result p.kind (kind_at c.args.self.now c.args.key.0)
    (subst (λ (n : Option ℕ). FitsKind p.kind n) (sym (ap native_key c.native.ensures ∙ ap (λ (q : Label). q.native) c.behind-self.view_is)) fits)
    (subst (λ (v : List Object). kind_at v c.args.key.0 ≡ Some p.kind) c.self.view_is
    (ap (option_map (λ (o : Object). o.kind)) (object_at-placed (lists_of c.self.inside.parts) c.self.invariant.placed c.args.key.0 p c.cell.ensures.1.1.1)))
