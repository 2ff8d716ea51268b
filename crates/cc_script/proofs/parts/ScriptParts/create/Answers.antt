use Rattle.std.proofs.Common.{◌≡◌, ◌≤◌, ℕ, zero, suc, Bool, false, List, [], ◌∷◌, ◌++◌, map, length, replicate, Option, Some, None, is_some, option_map, refl, ap, sym, subst, ◌∙◌, arith}
use Rattle.std.proofs.lemmas.List.{length-replicate}
use Rattle.cc_names.specs.declared.name.Name.{Name}
use Rattle.cc_names.specs.declared.kind.Kind.{Kind}
use Rattle.cc_names.specs.declared.kind.Colour.TheVariants.{Black}
use Rattle.cc_names.specs.Places.{where_set}
use Rattle.cc_names.specs.Sizes.{most_slots}
use Rattle.cc_script.specs.declared.being.Being.{Being}
use Rattle.cc_script.specs.declared.being.Being.TheVariants as being
use Rattle.cc_script.specs.Beings.{delegate_of, delegate_key_of, kind_of, name_of, native_key_of}
use Rattle.cc_script.specs.Objects.{FitsKind, FitsDelegate, Object, new_object, object_at, colour_at, is_below}
use Rattle.cc_script.specs.ColourOrder.{HasColourOrder}
use Rattle.cc_script.specs.Lists.{Placed, with_key, objects_of, IsPlaced}
use Rattle.cc_script.specs.Parts.{lists_of, shows}
use Rattle.cc_script.proofs.Places.{is_there-none}
use Rattle.cc_script.proofs.Making.{IsPlaced-made, objects-made}
use Rattle.cc_script.proofs.InOrder.{HasColourOrder-made}
use Rattle.cc_script.proofs.Reading.{held_key}
use Rattle.cc_script.proofs.Linking.{threaded-none}
use Rattle.cc_script.proofs.Joining.{joined, order-joined, vacant-joined, at-joined, others-joined, out-joined, lists-joined}
use Rattle.cc_script.proofs.parts.ScriptParts.create.Goals as goal

-- an empty slot, and some
abbrev nothing : Option ℕ
nothing = None

empty-slots : (n : ℕ) → map held_key (replicate n None) ≡ replicate n None
empty-slots zero = refl
empty-slots (suc n) = ap (λ ys. None ∷ ys) (empty-slots n)

-- exactly a reflector has a native
fits-kind : (b : Being) → FitsKind (kind_of b) (native_key_of b)
fits-kind b = grind arith

-- exactly a proxy has a delegate
fits-delegate : (b : Being) → FitsDelegate (kind_of b) (delegate_key_of b)
fits-delegate (being.Plain number) = (λ is. cc, λ is. cc)
fits-delegate (being.Map number) = (λ is. cc, λ is. cc)
fits-delegate (being.Proxy number delegate) = (λ is. refl, λ is. refl)
fits-delegate (being.Reflector number native) = (λ is. cc, λ is. cc)

-- where it has one, the content says so
told : (b : Being) (is_proxy : Bool) → is_proxy ≡ is_some (delegate_of b) → where_set is_proxy (delegate_key_of b) ≡ delegate_key_of b
told (being.Plain number) is_proxy e = ap (λ t. where_set t nothing) e
told (being.Map number) is_proxy e = ap (λ t. where_set t nothing) e
told (being.Proxy number delegate) is_proxy e = ap (λ t. where_set t (Some delegate.0)) e
told (being.Reflector number native) is_proxy e = ap (λ t. where_set t nothing) e

-- what is black is below no colour
is-black : (objects : List Object) (q : ℕ) → colour_at objects q ≡ Some Black → (d : Object) × (object_at objects q ≡ Some d) × (is_below d.colour Black ≡ false)
is-black objects q black = go (object_at objects q) refl black
  where
    go : (o : Option Object) → object_at objects q ≡ o → option_map (λ (z : Object). z.colour) o ≡ Some Black → (d : Object) × (object_at objects q ≡ Some d) × (is_below d.colour Black ≡ false)
    go None at e = absurd (cc)
    go (Some d) at e = let colour : d.colour ≡ Black = cc in (d, at, ap (λ c. is_below c Black) colour)

-- the object as it stands there
abbrev new_placed : Name → Kind → Option ℕ → Option ℕ → List (Option ℕ) → Placed
new_placed name kind native delegate slots = record { name = name; kind = kind; native = native; delegate = delegate; slots = slots; colour = Black; new_mark = Black }

pub push_back-requires-clause-chain : goal.push_back-requires-clause-chain
push_back-requires-clause-chain c =
    let p = c.args.self.now in
    let j = joined p _ _ _ c.in_ok-key.ensures.was_vacant c.in_ok-key.ensures.updates (threaded-none _ _ _ c.of.ensures c.of-3.ensures c.of-2.ensures) in
    ((lists_of p).order, order-joined p c.requires.at_rest.chained _ _ _ j)

pub returns-clause-made : goal.returns-clause-made
returns-clause-made c =
    let p = c.args.self.now in
    let l = lists_of p in
    let h = c.requires.at_rest.chained in
    let j = joined p _ _ _ c.in_ok-key.ensures.was_vacant c.in_ok-key.ensures.updates (threaded-none _ _ _ c.of.ensures c.of-3.ensures c.of-2.ensures) in
    let pushed = c.push_back.ensures.keys l.order (order-joined p h _ _ _ j) in
    let being = c.args.being in
    let empty = ap (map held_key) c.in_ok-empty.ensures.items ∙ empty-slots c.args.slots in
    let stands = told being _ (c.is_some-is_proxy.ensures ∙ ap is_some c.delegate.ensures) in
    let out = out-joined p h _ _ _ j in
    ap objects_of (lists-joined p h _ _ _ j c.push_back.new.store c.push_back.new.self pushed c.push_back.ensures.rest).lists
    ∙ (objects-made l c.requires.at_rest.placed _ _ _ (vacant-joined p h _ _ _ j) (at-joined p h _ _ _ j) (others-joined p h _ _ _ j)
    ∙ (λ i. shows p ++ with_key c.in_ok-key.key (out i) (new_placed (name_of being) (kind_of being) (native_key_of being) (stands i) (empty i)) ∷ []))

pub returns-clause-vacant : goal.returns-clause-vacant
returns-clause-vacant c =
    let p = c.args.self.now in
    let j = joined p _ _ _ c.in_ok-key.ensures.was_vacant c.in_ok-key.ensures.updates (threaded-none _ _ _ c.of.ensures c.of-3.ensures c.of-2.ensures) in
    is_there-none (lists_of p) c.requires.at_rest.placed c.in_ok-key.key (vacant-joined p c.requires.at_rest.chained _ _ _ j)

pub returns-clause-at_rest : goal.returns-clause-at_rest
returns-clause-at_rest c =
    let p = c.args.self.now in
    let l = lists_of p in
    let h = c.requires.at_rest.chained in
    let j = joined p _ _ _ c.in_ok-key.ensures.was_vacant c.in_ok-key.ensures.updates (threaded-none _ _ _ c.of.ensures c.of-3.ensures c.of-2.ensures) in
    let pushed = c.push_back.ensures.keys l.order (order-joined p h _ _ _ j) in
    let being = c.args.being in
    let empty : map held_key c.in_ok-empty.empty.items ≡ replicate c.args.slots None = ap (map held_key) c.in_ok-empty.ensures.items ∙ empty-slots c.args.slots in
    let few : length (map held_key c.in_ok-empty.empty.items) ≤ most_slots = omega (arith, ap length empty, length-replicate c.args.slots nothing, c.requires.slots) in
    let a = lists-joined p h _ _ _ j c.push_back.new.store c.push_back.new.self pushed c.push_back.ensures.rest in
    record {
      placed = subst IsPlaced (sym a.lists)
          (IsPlaced-made l c.requires.at_rest.placed _ _ _ (vacant-joined p h _ _ _ j) (at-joined p h _ _ _ j) (others-joined p h _ _ _ j) few (fits-kind c.args.being) (subst (FitsDelegate (kind_of being)) (sym (told being _ (c.is_some-is_proxy.ensures ∙ ap is_some c.delegate.ensures))) (fits-delegate being)));
      chained = a.chained;
      coloured = subst HasColourOrder (sym (returns-clause-made c))
          (HasColourOrder-made (shows p) (new_object c.in_ok-key.key (name_of being) (kind_of being) (native_key_of being) (delegate_key_of being) c.args.slots) c.args.slots refl (λ q e. is-black (shows p) q (c.requires.delegate q e)) c.requires.at_rest.coloured);
      emptied = a.waits ∙ c.requires.at_rest.emptied;
    }
