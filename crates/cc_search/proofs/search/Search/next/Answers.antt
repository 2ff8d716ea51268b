use Rattle.std.proofs.Common.{◌≡◌, ◌<◌, Some, length, sym, ◌∙◌, ap, subst, arith}
use Rattle.std.specs.Prelude.{slice_get}
use Rattle.std.proofs.lemmas.Option.{slice_get_read}
use Rattle.cc_model.specs.Derivations.{steps_of}
use Rattle.cc_search.specs.Found.{IsFirstWalked}
use Rattle.cc_search.proofs.Given.{object-named, object-within}
use Rattle.cc_search.proofs.search.Search.next.Goals as goal

pub returns-clause-next : goal.returns-clause-next
returns-clause-next g c =
    let f = c.self.inside in
    let i = c.in_ok-i.i in
    let x = c.in_ok-i.name in
    let o = c.index.result.now in
    let name_of = g.L.Leads.name_of in
    let first = c.in_ok-i.ensures.first in
    let within : i < length f.objects.items = object-within (name_of f.leads.now) (steps_of f.found) f.objects.items i first.step c.self.invariant.named first.at in
    let there : slice_get f.objects.items i ≡ Some o = slice_get_read f.objects.items (length f.objects.items) i o (omega arith) within c.index.ensures in
    let named = object-named (name_of f.leads.now) (steps_of f.found) f.objects.items i first.step o c.self.invariant.named first.at there in
    record {
      place = i;
      same = ap (λ p. p.0) c.self.view_is;
      first = subst (λ w. IsFirstWalked w c.walk_first.new.self i x) (ap (λ p. p.1) c.self.view_is) first;
      named = ap (λ a. name_of a o) (sym (ap (λ p. p.0) c.self.view_is)) ∙ (named ∙ ap Some (sym first.name));
    }
