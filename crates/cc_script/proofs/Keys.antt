-- KEYS AND OBJECTS IN LISTS: what is found at a key, and what a change of the objects leaves where it was.
use Rattle.cc_lists.proofs.Held.{is_some-map}
use Rattle.std.proofs.Math.Path.{fun_ext}
use Rattle.cc_lists.proofs.ListWrites.{changed_where-either}
use Rattle.std.proofs.Common.{◌≡◌, ℕ, true, List, map, Some, None, option_map, is_some, refl, ◌∙◌, ap, ◌==◌, if◌then◌else◌, sym, arith}
use Rattle.std.specs.List.{find}
use Rattle.std.proofs.lemmas.Bool.{eqb-true, eq-eqb}
use Rattle.cc_lists.specs.Members.{Among}
use Rattle.cc_lists.proofs.Searching.{find-some, find-map}
use Rattle.cc_lists.proofs.Filtering.{find-among, find-passes}
use Rattle.cc_names.specs.declared.kind.Colour.{Colour}
use Rattle.cc_script.specs.Objects.{Object, object_at, is_there, colour_at}

-- a key that stands among keys is found there, and no other
pub find-key : (keys : List ℕ) (key : ℕ) → Among key keys → find (λ k. k == key) keys ≡ Some key
find-key keys key m =
    let f = find-some (λ k. k == key) keys key m (eq-eqb key key refl) in
    f.1 ∙ ap Some (eqb-true f.0 key (find-passes (λ k. k == key) keys f.0 f.1))

pub find-no_key : (keys : List ℕ) (key : ℕ) → ¬ (Among key keys) → find (λ k. k == key) keys ≡ None
find-no_key keys key none = grind (arith, eqb-true, find-passes, find-among)

-- what is found at a key stands in the list, and has the key
pub object_at-among : (objects : List Object) (key : ℕ) (o : Object) → object_at objects key ≡ Some o → Among o objects
object_at-among objects key o e = find-among (λ z. z.key == key) objects o e

pub object_at-key : (objects : List Object) (key : ℕ) (o : Object) → object_at objects key ≡ Some o → o.key ≡ key
object_at-key objects key o e = eqb-true o.key key (find-passes (λ z. z.key == key) objects o e)

-- a change that keeps the keys changes what is found
pub object_at-map : (g : Object → Object) → ((o : Object) → (g o).key ≡ o.key) → (objects : List Object) (key : ℕ) → object_at (map g objects) key ≡ option_map g (object_at objects key)
object_at-map g keeps objects key = grind (arith, find-map, fun_ext)

-- of the object at a key alone
abbrev pub changed_at : ℕ → (Object → Object) → Object → Object
changed_at key f o = if o.key == key then f o else o

pub changed_at-key : (key : ℕ) (f : Object → Object) → ((o : Object) → (f o).key ≡ o.key) → (o : Object) → (changed_at key f o).key ≡ o.key
changed_at-key key f keeps o = changed_where-either (λ z. z.key ≡ o.key) (λ z. z.key == key) f o (λ e. keeps o) refl

pub changed_at-same : (key : ℕ) (f : Object → Object) (o : Object) → o.key ≡ key → changed_at key f o ≡ f o
changed_at-same key f o e = let it : (o.key == key) ≡ true = eq-eqb o.key key e in rw it refl

-- what has a colour is there
pub coloured-there : (objects : List Object) (key : ℕ) (colour : Colour) → colour_at objects key ≡ Some colour → is_there objects key ≡ true
coloured-there objects key colour e = sym (is_some-map (λ (z : Object). z.colour) (object_at objects key)) ∙ ap is_some e
