use Rattle.std.proofs.Common.{◌≡◌, List, Some, sym, ◌∙◌, ap, arith}
use denote.Enum.Bare.{sameb}
use Rattle.cc_names.specs.contracts.kind.Kind.{the_type}
use Rattle.cc_names.specs.declared.kind.Kind.{Kind}
use Rattle.cc_names.specs.declared.kind.Kind.TheVariants.{Map}
use Rattle.cc_script.specs.Objects.{Object, kind_at}
use Rattle.cc_mutator.proofs.ScriptsRead.{is_map_kind, map-told}
use Rattle.cc_mutator.proofs.checks.holds_map.Goals as goal

map-same : (kind : Kind) → sameb the_type kind Map ≡ is_map_kind kind
map-same kind = grind arith

pub returns-in-Some : goal.returns-in-Some
returns-in-Some c =
    let is : kind_at c.args.heaps.now.scripts c.in-Some.key.0 ≡ Some c.kind.result = sym (ap (λ (os : List Object). kind_at os c.in-Some.key.0) c.scripts.ensures) ∙ c.kind.ensures in
    c.eq.ensures ∙ (map-same c.kind.result ∙ map-told c.requires.0 c.args.heaps.now c.requires.1 c.args.r c.in-Some.key c.in-Some.ensures.name c.in-Some.ensures.there c.kind.result is)
