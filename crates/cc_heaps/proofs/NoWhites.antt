-- NO OBJECT IS WHITE: none is swept then, all stay, and nothing is told.
use Rattle.cc_laws_heap.proofs.Face.{is_some-found}
use Rattle.std.proofs.Common.{arith, ◌≡◌, ℕ, Bool, true, false, not, List, [], map, ◌↔◌, IsTrue, sym, ap, subst}
use Rattle.cc_lists.specs.Members.{Among}
use Rattle.cc_lists.proofs.Filtering.{filter-each, filter-nothing}
use Rattle.cc_names.specs.declared.kind.Colour.{Colour}
use Rattle.cc_names.specs.declared.kind.Colour.TheVariants.{White}
use Rattle.cc_model.specs.Heap.{is_white_colour}
use Rattle.cc_model.specs.Telling.{Telling, TellsEvents}
use Rattle.cc_model.proofs.Tellings.{Tells-nil}
use Rattle.cc_counted.specs.Counts.{Counts}
use Rattle.cc_script.specs.Objects.{Object, is_there, object_at}
use Rattle.cc_script.proofs.Keys.{object_at-among}
use Rattle.cc_weakmaps.specs.Entries.{KeyedEntry}
use Rattle.cc_weakmaps.specs.Living.{living}
use Rattle.cc_marking.specs.Marking.{AreEntriesThere}
use Rattle.cc_heaps.specs.Sweeping.{Left, are_some, is_marked, is_white, not_white, sweep_each, swept_counts, untold, white_names, whites}

-- a colour that passes for white is white
white-exact : (c : Colour) → is_white_colour c ≡ true → c ≡ White
white-exact c e = grind arith

module _ (objects : List Object) (found : Bool) (white : IsTrue found ↔ ((o : Object) × (Among o objects × (o.colour ≡ White)))) (none : found ≡ false) where
  -- each object is gray or black
  other-each : (o : Object) → Among o objects → is_white o ≡ false
  other-each o m = grind (arith, white-exact)

  -- no object goes
  whites-none : whites objects ≡ []
  whites-none = filter-nothing is_white objects other-each

  -- there are no names of such
  pub swept-none : false ≡ are_some (white_names objects)
  swept-none = sym (ap (λ os. are_some (map (λ (o : Object). o.name) os)) whites-none)

  -- all objects stay
  pub left-all : objects ≡ not_white objects
  left-all = sym (filter-each (λ o. not (is_white o)) objects (λ o m. ap not (other-each o m)))

  -- what stands at a key is not white
  marked-each : (key : ℕ) → is_there objects key ≡ true → is_marked objects key ≡ true
  marked-each key there = let f = is_some-found (object_at objects key) there in rw (f.1, is_marked) (ap not (other-each f.0 (object_at-among objects key f.0 f.1)))

  -- and all entries stay
  pub living-all : (es : List KeyedEntry) → AreEntriesThere objects es → es ≡ living (is_marked objects) es
  living-all es there = grind (arith, filter-each, marked-each)

  -- the sweep does nothing
  untold-counts : (c : Counts) → swept_counts c objects ≡ untold c
  untold-counts c = ap (λ os. sweep_each c os (untold c)) whites-none

  -- so the counted heap is the same
  pub counts-same : (c : Counts) → c ≡ (swept_counts c objects).counts
  counts-same c = sym (ap (λ (l : Left). l.counts) (untold-counts c))

  -- and nothing is told
  pub tells-nothing : (c : Counts) (a : Telling) → TellsEvents a a (swept_counts c objects).events
  tells-nothing c a = subst (λ (l : Left). TellsEvents a a l.events) (sym (untold-counts c)) (Tells-nil a)
