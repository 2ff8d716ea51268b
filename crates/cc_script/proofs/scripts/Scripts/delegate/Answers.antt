use Rattle.std.proofs.Common.{◌≡◌, ◌↔◌, ℕ, true, List, Option, Some, None, option_map, is_some, IsSome, refl, ap, sym, subst, ◌∙◌}
use Rattle.cc_names.specs.declared.kind.Kind.{Kind}
use Rattle.cc_names.specs.declared.kind.Kind.TheVariants.{Proxy}
use Rattle.cc_names.specs.declared.number.SKey.{SKey}
use Rattle.cc_script.specs.Lists.{Placed}
use Rattle.cc_script.specs.Objects.{Object, FitsDelegate, is_there, kind_at, delegate_at}
use Rattle.cc_script.specs.Parts.{lists_of}
use Rattle.cc_script.proofs.Places.{delegate_at-cell, live-cell, object_at-placed}
use Rattle.cc_script.proofs.Reading.{held_key}
use Rattle.cc_script.proofs.scripts.Scripts.delegate.Goals as goal

as-many : (delegate : Option SKey) → is_some (held_key delegate) ≡ is_some delegate
as-many None = refl
as-many (Some k) = refl

exactly : (delegate : Option SKey) (kind : Kind) (found : Option Kind) → FitsDelegate kind (held_key delegate) → found ≡ Some kind → IsSome delegate ↔ (found ≡ Some Proxy)
exactly delegate kind found fits e = (
  λ there. e ∙ ap Some (fits.0 (as-many delegate ∙ there)),
  λ is. let both : Some kind ≡ Some Proxy = sym e ∙ is in sym (as-many delegate) ∙ fits.1 (cc),
)

pub returns-clause-delegate : goal.returns-clause-delegate
returns-clause-delegate c =
    subst (λ (v : List Object). held_key c.delegate.result ≡ delegate_at v c.args.key.0) c.self.view_is
    (sym (delegate_at-cell (lists_of c.self.inside.parts) c.self.invariant.placed c.args.key.0 _ c.delegate.ensures))

pub returns-clause-exactly : goal.returns-clause-exactly
returns-clause-exactly c =
    let l = lists_of c.self.inside.parts in
    let placed = c.self.invariant.placed in
    let f = live-cell l placed c.args.key.0 (subst (λ (v : List Object). is_there v c.args.key.0 ≡ true) (sym c.self.view_is) c.requires.live) in
    let same : Some f.0.delegate ≡ Some (held_key c.delegate.result) = sym (ap (option_map (λ (p : Placed). p.delegate)) f.1) ∙ c.delegate.ensures in
    let read : f.0.delegate ≡ held_key c.delegate.result = cc in
    exactly c.delegate.result f.0.kind (kind_at c.args.self.now c.args.key.0)
    (subst (λ (d : Option ℕ). FitsDelegate f.0.kind d) read (placed.delegated c.args.key.0 f.0 f.1))
    (subst (λ (v : List Object). kind_at v c.args.key.0 ≡ Some f.0.kind) c.self.view_is
    (ap (option_map (λ (o : Object). o.kind)) (object_at-placed l placed c.args.key.0 f.0 f.1)))
