-- OBJECTS RAISED TO A COLOUR are painted, and raised twice to one colour where they are raised at either time.
use Rattle.std.specs.Option.{option_to_list}
use Rattle.std.specs.List.{flat_map}
use Rattle.std.proofs.Common.{◌≡◌, ℕ, ◌==◌, Bool, true, false, cond, ◌||◌, List, refl, sym, ◌∙◌, ap, arith, Option, map}
use Rattle.cc_lists.specs.Members.{has}
use Rattle.cc_lists.proofs.ListWrites.{flat_map-kept, map-agree}
use Rattle.cc_names.specs.declared.kind.Colour.{Colour}
use Rattle.cc_script.specs.Objects.{Object, with_colour, is_below, raised, raised_among, places_of}
use Rattle.cc_script.specs.Walking.{edges, slot_edges}
use Rattle.cc_script.proofs.Walks.{risen, risen-key, risen-places}
use Rattle.cc_marking.proofs.Painting.{painted, painted-alike, painted-twice}

-- at least this colour
abbrev pub at_least : Colour → Colour → Colour
at_least to colour = elim (is_below colour to) [ true ↦ to | false ↦ colour ]

-- the colour of an object once those at these keys are raised
abbrev pub raised_to : List ℕ → Colour → Object → Colour
raised_to keys to o = cond (has ◌==◌ keys o.key) (at_least to o.colour) o.colour

raised-painted : (to : Colour) (o : Object) → raised to o ≡ with_colour (at_least to o.colour) o
raised-painted to o = grind arith

pub risen-painted : (keys : List ℕ) (to : Colour) (o : Object) → risen keys to o ≡ with_colour (raised_to keys to o) o
risen-painted keys to o = grind (arith, raised-painted)

pub raised_among-painted : (keys : List ℕ) (to : Colour) (objects : List Object) → raised_among keys to objects ≡ painted (raised_to keys to) objects
raised_among-painted keys to objects = map-agree _ _ objects (λ o m. risen-painted keys to o)

at_least-twice : (to colour : Colour) → at_least to (at_least to colour) ≡ at_least to colour
at_least-twice to colour = grind arith

-- raised at one time and at another
pub raised-twice : (firsts seconds all : List ℕ) (to : Colour) (objects : List Object) →
    ((key : ℕ) → has ◌==◌ all key ≡ (has ◌==◌ firsts key || has ◌==◌ seconds key)) →
    raised_among seconds to (raised_among firsts to objects) ≡ raised_among all to objects
raised-twice firsts seconds all to objects either =
    ap (raised_among seconds to) (raised_among-painted firsts to objects)
    ∙ (raised_among-painted seconds to (painted (raised_to firsts to) objects)
    ∙ (painted-twice (raised_to firsts to) (raised_to seconds to) objects
    ∙ (painted-alike _ _ objects each ∙ sym (raised_among-painted all to objects))))
  where
    each : (o : Object) → raised_to seconds to (with_colour (raised_to firsts to o) o) ≡ raised_to all to o
    each o = rw (either o.key) (go (has ◌==◌ firsts o.key) (has ◌==◌ seconds o.key))
      where
        go : (a b : Bool) →
            cond b (at_least to (cond a (at_least to o.colour) o.colour)) (cond a (at_least to o.colour) o.colour) ≡ cond (a || b) (at_least to o.colour) o.colour
        go true true = at_least-twice to o.colour
        go true false = refl
        go false true = refl
        go false false = refl

-- Raised objects hold what they held.
pub edges-raised : (keys : List ℕ) (to : Colour) (objects : List Object) → edges (raised_among keys to objects) ≡ edges objects
edges-raised keys to objects = flat_map-kept slot_edges (risen keys to) objects each
  where
    each : (o : Object) → slot_edges (risen keys to o) ≡ slot_edges o
    each o =
        ap (λ (k : ℕ). map (λ (q : ℕ). (k, q)) (flat_map option_to_list (places_of (risen keys to o)))) (risen-key keys to o)
        ∙ ap (λ (places : List (Option ℕ)). map (λ (q : ℕ). (o.key, q)) (flat_map option_to_list places)) (risen-places keys to o)
