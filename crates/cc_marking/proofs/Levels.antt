-- WHAT HAS AT LEAST A COLOUR where objects are white, and where some of them were raised.
use Rattle.std.specs.Prelude.{is_some, IsTrue}
use Rattle.std.proofs.Common.{◌≡◌, ℕ, ◌==◌, true, false, ◌||◌, ◌&&◌, List, [], map, Some, refl, ◌∙◌, ap, subst, ◌⊎◌, arith}
use Rattle.std.proofs.lemmas.Bool.{or_cases, or_left, or_right, and_parts, and_from, eq-eqb, false≢true}
use Rattle.cc_lists.specs.Members.{Among, has}
use Rattle.cc_lists.proofs.Filtering.{filter-nothing}
use Rattle.cc_lists.proofs.Searching.{find-some}
use Rattle.cc_lists.proofs.Members.{Among-map, Among-map_cases, Among-filter, Among-passes}
use Rattle.cc_names.specs.declared.kind.Colour.{Colour}
use Rattle.cc_names.specs.declared.kind.Colour.TheVariants.{White}
use Rattle.cc_script.specs.Objects.{Object, AreWhole, is_there, colour_at, is_below, raised_among, whitened}
use Rattle.cc_script.specs.Walking.{edges}
use Rattle.cc_script.proofs.Colours.{not_below-trans, raised-enough}
use Rattle.cc_script.proofs.Keys.{object_at-among, object_at-key, object_at-map}
use Rattle.cc_script.proofs.Reaching.{edge-slot}
use Rattle.cc_script.proofs.Whites.{white-whitened, white-there}
use Rattle.cc_script.proofs.Walks.{risen, risen-key}
use Rattle.cc_script.proofs.Wholeness.{there-object, whole-raised, whole-whitened}
use Rattle.cc_marking.specs.Levels.{AreOrdered, has_at_least, keys_at_least}
use Rattle.cc_marking.proofs.Raising.{at_least, edges-raised, risen-painted}

-- a member is there
pub member-there : (objects : List Object) (o : Object) → Among o objects → IsTrue (is_there objects o.key)
member-there objects o m = ap is_some (find-some (λ (z : Object). z.key == o.key) objects o m (eq-eqb o.key o.key refl)).1

module _ (to : Colour) (objects : List Object) (key : ℕ) where
  -- what has a colour is there,
  pub at_least-there : IsTrue (has_at_least to objects key) → IsTrue (is_there objects key)
  at_least-there = grind (arith, false≢true)

  -- and stands among their keys
  pub at_least-listed : IsTrue (has_at_least to objects key) → Among key (keys_at_least to objects)
  at_least-listed h =
      let f = there-object objects key (at_least-there h) in
      let all : List ℕ = map (λ (o : Object). o.key) objects in
      let here : Among f.0.key all = Among-map (λ (o : Object). o.key) f.0 objects (object_at-among objects key f.0 f.1) in
      Among-filter (has_at_least to objects) key all (subst (λ k. Among k all) (object_at-key objects key f.0 f.1) here) h

  pub listed-at_least : Among key (keys_at_least to objects) → IsTrue (has_at_least to objects key)
  listed-at_least m = Among-passes (has_at_least to objects) key (map (λ (o : Object). o.key) objects) m

-- White objects

-- they have at least no colour that is above white
module _ (to : Colour) (above : is_below White to ≡ true) (objects : List Object) where
  pub white-not_at_least : (key : ℕ) → has_at_least to (whitened objects) key ≡ false
  white-not_at_least key = grind (arith, object_at-map)

  pub white-none_listed : keys_at_least to (whitened objects) ≡ []
  white-none_listed = filter-nothing (has_at_least to (whitened objects)) (map (λ (o : Object). o.key) (whitened objects)) (λ key m. white-not_at_least key)

  pub AreOrdered-whitened : AreWhole objects → AreOrdered to (whitened objects)
  AreOrdered-whitened whole = grind (arith, whole-whitened, false≢true, white-not_at_least, white-there, white-whitened, member-there)

-- Raised objects

-- objects of one key and one colour have one colour then
risen-colour : (keys : List ℕ) (to : Colour) (o p : Object) → o.key ≡ p.key → o.colour ≡ p.colour → (risen keys to o).colour ≡ (risen keys to p).colour
risen-colour keys to o p key colour = grind (arith, risen-painted, at_least)

-- raised to a colour that isn't lower
module _ (keys : List ℕ) (to level : Colour) (enough : is_below to level ≡ false) (objects : List Object) where
  at_least-raised : (key : ℕ) → has_at_least level (raised_among keys to objects) key ≡ (has_at_least level objects key || (is_there objects key && has ◌==◌ keys key))
  at_least-raised key = grind (arith, object_at-map, risen, risen-key, not_below-trans, raised-enough, or_right, object_at-key)

  -- what had it has it,
  pub at_least-kept : (key : ℕ) → IsTrue (has_at_least level objects key) → IsTrue (has_at_least level (raised_among keys to objects) key)
  at_least-kept key h = at_least-raised key ∙ or_left (has_at_least level objects key) (is_there objects key && has ◌==◌ keys key) h

  -- what was raised has it,
  pub at_least-risen : (key : ℕ) → IsTrue (is_there objects key) → IsTrue (has ◌==◌ keys key) → IsTrue (has_at_least level (raised_among keys to objects) key)
  at_least-risen key there h = search (at_least-raised, or_right, and_from)

  -- and nothing else
  pub at_least-cases : (key : ℕ) → IsTrue (has_at_least level (raised_among keys to objects) key) → IsTrue (has_at_least level objects key) ⊎ IsTrue (has ◌==◌ keys key)
  at_least-cases key h = grind (arith, and_parts, or_cases, at_least-raised)

  -- what had one colour has one colour
  abbrev IsAlike : Object → Type 0
  IsAlike o = colour_at (raised_among keys to objects) o.key ≡ Some o.colour

  risen-alike : AreOrdered level objects → (o : Object) → Among o objects → IsAlike (risen keys to o)
  risen-alike ordered o m = grind (arith, there-object, member-there, risen-key, object_at-map, risen, risen-colour, object_at-key, ordered.alike)

  -- where the keys lead to such keys alone
  pub AreOrdered-raised : ((x y : ℕ) → Among (x, y) (edges objects) → IsTrue (has ◌==◌ keys x) → IsTrue (has ◌==◌ keys y)) →
      AreOrdered level objects → AreOrdered level (raised_among keys to objects)
  AreOrdered-raised leads ordered =
      grind (arith, whole-raised, edges-raised, edge-slot, at_least-kept, at_least-risen, at_least-cases, Among-map_cases, risen, risen-alike, ordered.closed, ordered.whole)
