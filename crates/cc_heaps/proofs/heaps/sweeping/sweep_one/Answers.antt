use Rattle.std.proofs.Common.{◌≡◌, [], ◌∷◌, Some, option_map, sym, ◌∙◌, ap, subst}
use Rattle.std.specs.Option.{option_and_then}
use Rattle.cc_model.specs.declared.item.Event.TheVariants.{Freed}
use Rattle.cc_model.specs.Telling.{TellsEvents}
use Rattle.cc_model.proofs.Tellings.{TellsEvents-trans}
use Rattle.cc_script.specs.Objects.{Object}
use Rattle.cc_heaps.specs.Sweeping.{let_native_go, sweep_one}
use Rattle.cc_heaps.proofs.heaps.sweeping.sweep_one.Goals as goal

pub returns-in-White-clause-told : goal.returns-in-White-clause-told
returns-in-White-clause-told g c o e =
    let before = g.N.Notices.telling c.args.out.now in
    let after = g.N.Notices.telling c.let_native_go.new.out in
    let counted = c.args.counted.now in
    let named : c.name.result ≡ o.name = let both : Some c.name.result ≡ Some o.name = sym c.name.ensures ∙ ap (option_map (λ (p : Object). p.name)) e in cc in
    let native = c.native_of-native.ensures.native ∙ ap (option_and_then (λ (p : Object). p.native)) e in
    subst (λ (q : Object). TellsEvents before after (sweep_one counted counted q).events) (λ i. record o { name = named i; native = native i })
    (TellsEvents-trans before (g.N.Notices.telling c.tell.new.self) after (Freed c.name.result ∷ [])
    (let_native_go counted counted (option_map (λ k. k.0) c.native_of-native.result)).events c.tell.ensures c.let_native_go.ensures.told)
