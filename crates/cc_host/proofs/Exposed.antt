-- WHAT AN EXPOSURE LEAVES: all but colours, and what was black is black.
use Rattle.std.proofs.Common.{◌≡◌, ℕ, List, [], ◌++◌, map, length, get_or, Option, Some, None, is_some, option_map, refl, sym, ◌∙◌, ap, subst}
use Rattle.std.specs.Prelude.{IsTrue}
use Rattle.std.proofs.lemmas.List.{length-map}
use Rattle.cc_lists.specs.Members.{Among}
use Rattle.cc_lists.proofs.Members.{Among-map_cases}
use Rattle.cc_lists.proofs.ListWrites.{changed_where, changed_where-either, only-member}
use Rattle.cc_names.specs.declared.name.Name.{Name}
use Rattle.cc_names.specs.declared.kind.Colour.TheVariants.{Black}
use Rattle.cc_names.specs.declared.register.Reg.TheVariants.{N}
use Rattle.cc_names.specs.Names.{same_name}
use Rattle.cc_names.proofs.NameTests.{same_name-refl}
use Rattle.cc_model.specs.Graph.{Graph}
use Rattle.cc_model.specs.Heap.{Heap, HeapScript, register}
use Rattle.cc_model.specs.View.{view, ReachedIn}
use Rattle.cc_model.specs.Exposure.{as_black, exposed, exposed_names}
use Rattle.cc_model.specs.WellFormed.{native_names, names_there, script_names}
use Rattle.cc_laws_heap.proofs.Face.{IsHeldBlack, exposed-black, is_one_of, script_names-exposed, scripts-once}
use Rattle.cc_script.specs.Objects.{Object, colour_at, is_there, name_at, object_at, slots_at, slots_or_none}
use Rattle.cc_heaps.specs.Keyed.{Keyed, IsInOrder, name_held, named_object}
use Rattle.cc_heaps.specs.Keeping.{KeepsAll}
use Rattle.cc_heaps.specs.Leaving.{NoneCame, NothingLeft}
use Rattle.cc_heaps.specs.Standing.{IsReached, IsReachedOrReflects, StandsAfter, StillStands}
use Rattle.cc_heaps.proofs.ContentNames.{object-there}
use Rattle.cc_heaps.proofs.Kept.{KeepsAll-same}
use Rattle.cc_heaps.proofs.ObjectsKept.{named-there, there-named}
use Rattle.cc_heaps.proofs.ReflectingMade.{exposed-reached}
use Rattle.cc_wrappers.proofs.ReflectorKeys.{black-at, name-held, object-at, object-named}
use Rattle.cc_host.specs.Missing.{KeepsDoomed}
use Rattle.cc_host.proofs.KeptDoomed.{doomed-then, exposed-doomed, still_doomed}
use Rattle.cc_host.specs.Exposing.{AreSame, Exposes, IsSameAt}
use Rattle.cc_host.specs.Hosted.{spare}
use Rattle.cc_host.specs.Changes.{IsReady, IsTried}
use Rattle.cc_host.proofs.Composing.{KeepsAll-with}

-- a script object before and after: as it was, or blacker
record IsBlacker (o p : HeapScript) : Type 0 where
  name : p.name ≡ o.name
  kind : p.kind ≡ o.kind
  slots : p.slots ≡ o.slots
  black : o.colour ≡ Black → p.colour ≡ Black

module _ (h : Heap) where
  -- what is there after an exposure was there, and is as it was
  exposed-from : (x : Option Name) (p : HeapScript) → Among p (exposed h x).scripts → (o : HeapScript) × Among o h.scripts × IsBlacker o p
  unfolding exposed
  exposed-from None p m = (p, m, record { name = refl; kind = refl; slots = refl; black = λ e. e })
  exposed-from (Some x) p m =
      let f = Among-map_cases (changed_where (is_one_of (exposed_names h x)) as_black) h.scripts p m in (
        f.0,
        f.1,
        subst (IsBlacker f.0) f.2 (changed_where-either (IsBlacker f.0) (is_one_of (exposed_names h x)) as_black f.0
            (λ e. record { name = refl; kind = refl; slots = refl; black = λ b. refl })
            (record { name = refl; kind = refl; slots = refl; black = λ b. b })),
      )

  -- nothing changes but script objects
  pub exposed-rest : (x : Option Name) → exposed h x ≡ record h { scripts = (exposed h x).scripts }
  unfolding exposed
  exposed-rest None = refl
  exposed-rest (Some x) = refl

-- an object at a key, by what it is by names
at-key : (os ps : List Object) (key : ℕ) (o p : Object) → object_at os key ≡ Some o → object_at ps key ≡ Some p → IsBlacker (named_object os o) (named_object ps p) → IsSameAt os ps key
at-key os ps key o p was is b = record {
  there = ap is_some is;
  name = ap (option_map (λ (q : Object). q.name)) is ∙ (ap (λ x. Some x) b.name ∙ sym (ap (option_map (λ (q : Object). q.name)) was));
  kind = ap (option_map (λ (q : Object). q.kind)) is ∙ (ap (λ k. Some k) b.kind ∙ sym (ap (option_map (λ (q : Object). q.kind)) was));
  slots = many ps p is ∙ (ap length b.slots ∙ sym (many os o was));
  black = λ e.
      let at : Some o.colour ≡ Some Black = sym (ap (option_map (λ (q : Object). q.colour)) was) ∙ e in
      let colour : o.colour ≡ Black = cc in
      ap (option_map (λ (q : Object). q.colour)) is ∙ ap (λ c. Some c) (b.black colour);
}
  where
    many : (rs : List Object) (q : Object) → object_at rs key ≡ Some q → length (slots_at rs key) ≡ length (map (name_held rs) q.slots)
    many rs q at = ap (λ f. length (slots_or_none f)) at ∙ sym (length-map q.slots (name_held rs))

-- AN EXPOSURE
module _ (v w : Keyed) (order : IsInOrder [] v) (x : Option Name) (heap : w.heap ≡ exposed v.heap x) (keys : w.keys ≡ v.keys) (kept : KeepsAll v w) (still : StillStands v.heap w.heap) where
  names : script_names w.heap ≡ script_names v.heap
  names = ap script_names heap ∙ script_names-exposed v.heap x order.sound.well_formed

  -- what is there under a name after the exposure is what was there under it
  same-at : (key : ℕ) (o p : Object) → object_at v.scripts key ≡ Some o → object_at w.scripts key ≡ Some p → p.name ≡ o.name → IsSameAt v.scripts w.scripts key
  same-at key o p was is named =
      let now = object-there [] w (kept.order [] order) key p is in
      let f = exposed-from v.heap x (named_object w.scripts p) (subst (λ (h : Heap). Among (named_object w.scripts p) h.scripts) heap now) in
      let one : f.0 ≡ named_object v.scripts o =
      only-member (λ (q : HeapScript). same_name q.name o.name) v.heap.scripts f.0 (named_object v.scripts o) (scripts-once v.heap order.sound.well_formed o.name) f.1
      (ap (λ y. same_name y o.name) (sym f.2.name ∙ named) ∙ same_name-refl o.name) (object-there [] v order key o was) (same_name-refl o.name) in
      at-key v.scripts w.scripts key o p was is (subst (λ q. IsBlacker q (named_object w.scripts p)) one f.2)

  -- and each is there
  still-at : (key : ℕ) (o : Object) → object_at v.scripts key ≡ Some o → IsSameAt v.scripts w.scripts key
  still-at key o was =
      let named : name_at v.scripts key ≡ Some o.name = ap (option_map (λ (q : Object). q.name)) was in
      let p = object-named w.scripts key o.name (kept.keys.scripts key o.name named (subst (Among o.name) (sym names) (name-held [] v order key o.name named))) in
      same-at key o p.0 was p.1 p.2

  same : AreSame v.scripts w.scripts
  same key t = let o = object-at v.scripts key t in still-at key o.0 o.1

  reached : (y : Option Name) → IsReached v.heap y → IsReached w.heap y
  reached None d = tt
  reached (Some y) d = subst (λ h. ReachedIn (view h) y) (sym heap) (exposed-reached v.heap x order.sound y d)

  pub exposes : Exposes (IsReachedOrReflects v.heap x) v w
  exposes = record {
    kept = kept;
    stands = still;
    doomed = λ p. subst (KeepsDoomed v.heap) (sym heap) (exposed-doomed v.heap x p);
    keys = keys;
    same = same;
    rest = heap ∙ (exposed-rest v.heap x ∙ ap (λ (h : Heap). record v.heap { scripts = h.scripts }) (sym heap));
    names = names;
    reached = reached;
  }

-- what was exposed is black
pub exposed-colour : {p : Type 0} (v w : Keyed) → IsInOrder [] w → Exposes p v w → (key : ℕ) → IsTrue (is_there v.scripts key) → w.heap ≡ exposed v.heap (name_at v.scripts key) →
    colour_at w.scripts key ≡ Some Black
exposed-colour v w now e key t heap =
    let n = there-named v.scripts key t in
    black-at [] w now key n.0 ((e.same key t).name ∙ n.1) (subst (λ (h : Heap). IsHeldBlack h.scripts (Some n.0)) (sym (heap ∙ ap (exposed v.heap) n.1)) (exposed-black v.heap (Some n.0)))

-- nothing was exposed
pub Exposes-same : {p : Type 0} (v : Keyed) → Exposes p v v
Exposes-same v = record {
  kept = KeepsAll-same v v refl;
  stands = λ g m t. t;
  doomed = λ p. still_doomed v.heap;
  keys = refl;
  same = λ key t. record { there = t; name = refl; kind = refl; slots = refl; black = λ e. e };
  rest = refl;
  names = refl;
  reached = λ x d. d;
}

module _ {p : Type 0} (v w : Keyed) (e : Exposes p v w) where
  -- Registers stay,
  pub exposed-register : (r : ℕ) → register w.heap (N r) ≡ register v.heap (N r)
  exposed-register r = ap (λ (h : Heap). register h (N r)) e.rest

  pub exposed-ready : IsReady v → IsReady w
  exposed-ready r = record { order = e.kept.order [] r.order; spared = exposed-register spare ∙ r.spared }

  -- and so does what is there.
  pub exposed-names : names_there w.heap ≡ names_there v.heap
  exposed-names = ap (λ (h : Heap). native_names h ++ script_names w.heap) e.rest ∙ ap (λ xs. native_names v.heap ++ xs) e.names

  pub exposed-none_left : NothingLeft v.heap w.heap
  exposed-none_left x i = subst (Among x) (sym exposed-names) i

  pub exposed-none_came : NoneCame v.heap w.heap
  exposed-none_came x i = subst (Among x) exposed-names i

  -- It is a change that leaves the graph.
  pub exposed-change : IsReady v → IsTried p v w
  exposed-change r = record { kept = e.kept; spared = (exposed-ready r).spared; stands = e.stands; doomed = e.doomed }

-- ALL IS KEPT by a change after one that left what is there at its keys.
pub KeepsAll-after : (u v w : Keyed) → v.keys ≡ u.keys → AreSame u.scripts v.scripts → KeepsAll u v → KeepsAll v w → KeepsAll u w
KeepsAll-after u v w keys same p q = KeepsAll-with u v w (record {
  natives = λ key k at there. q.keys.natives key k (ap (λ ks. get_or ks key None) keys ∙ at) there;
  scripts = λ key x at there. q.keys.scripts key x ((same key (named-there u.scripts key x at)).name ∙ at) there;
}) p q

-- The graph changes by that change alone.
pub StandsAfter-still : {g : Graph → Graph} (h i k : Heap) → StillStands h i → StandsAfter i k g → StandsAfter h k g
StandsAfter-still h i k a b x m t = b x m (a x m t)

-- ONE AND ANOTHER
pub AreSame-then : (os ps qs : List Object) → AreSame os ps → AreSame ps qs → AreSame os qs
AreSame-then os ps qs p q key t =
    let a = p key t in
    let b = q key a.there in
    record { there = b.there; name = b.name ∙ a.name; kind = b.kind ∙ a.kind; slots = b.slots ∙ a.slots; black = λ e. b.black (a.black e) }

pub Exposes-then : {a b c : Type 0} (u v w : Keyed) → Exposes a u v → Exposes b v w → (c → a) → (c → b) → Exposes c u w
Exposes-then u v w p q f k = record {
  kept = KeepsAll-after u v w p.keys p.same p.kept q.kept;
  stands = λ g m t. q.stands g m (p.stands g m t);
  doomed = λ d. doomed-then u.heap v.heap w.heap (p.doomed (f d)) (q.doomed (k d));
  keys = q.keys ∙ p.keys;
  same = AreSame-then u.scripts v.scripts w.scripts p.same q.same;
  rest = q.rest ∙ ap (λ (h : Heap). record h { scripts = w.heap.scripts }) p.rest;
  names = q.names ∙ p.names;
  reached = λ x d. q.reached x (p.reached x d);
}
