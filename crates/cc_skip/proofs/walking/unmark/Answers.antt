use Rattle.std.proofs.Common.{Some, refl, sym, ◌∙◌, ap, subst}
use Rattle.std.specs.Prelude.{IsSome}
use Rattle.cc_counted.specs.declared.held.Held.{Held}
use Rattle.cc_heaps.specs.Keyed.{number_at}
use Rattle.cc_heaps.specs.Changes.{IsThere, held_name}
use Rattle.cc_heaps.specs.Keeping.{KeepsAllIfReached}
use Rattle.cc_heaps.specs.Standing.{IsReached}
use Rattle.cc_heaps.proofs.Kept.{KeepsAll-same}
use Rattle.cc_skip.proofs.Marks.{kept-if, native-named}
use Rattle.cc_skip.proofs.walking.unmark.Goals as goal

pub returns-in-Native-clause-kept : goal.returns-in-Native-clause-kept
returns-in-Native-clause-kept c =
    let v = c.args.heaps.now in
    let name = ap (λ (x : Held). held_name v (Some x)) c.in-Native.is in
    let live : IsSome (number_at v c.in-Native.key.0) = subst (λ (x : Held). IsThere v (Some x)) c.in-Native.is c.requires.there in
    subst (λ x. KeepsAllIfReached (IsReached v.heap x) v c.unmark_native.new.heaps) (sym (name ∙ native-named v c.in-Native.key live)) c.unmark_native.ensures.kept

pub returns-in-Script-clause-kept : goal.returns-in-Script-clause-kept
returns-in-Script-clause-kept c = kept-if (KeepsAll-same c.args.heaps.now c.args.heaps.now refl)
