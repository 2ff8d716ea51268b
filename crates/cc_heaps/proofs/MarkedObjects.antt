-- A MARKING BY KEYS is the marking of the definitions: it gives each object the same colour, and changes nothing else.
use Rattle.std.proofs.Common.{arith, ◌≡◌, ℕ, List, refl}
use Rattle.cc_lists.specs.Members.{Among}
use Rattle.cc_model.specs.Colours as names
use Rattle.cc_model.specs.Colours.{black_names, marked_names, marked}
use Rattle.cc_laws_heap.proofs.Face.{IsSound-marked, colour_of}
use Rattle.cc_script.specs.Objects.{Object, colour_by, with_colour}
use Rattle.cc_marking.specs.Marking.{black_keys, marked_keys, marked_from}
use Rattle.cc_heaps.specs.Keyed.{IsInOrder}
use Rattle.cc_heaps.specs.Changes.{KeepsKeys}
use Rattle.cc_heaps.specs.Fields.{heap_of, keyed_of, IsLinked}
use Rattle.cc_heaps.specs.Marks.{KeepsMarks}
use Rattle.cc_heaps.specs.declared.heaps.Heaps.TheInside.{Inside}
use Rattle.cc_heaps.proofs.MarksKept.{marks-mapped}
use Rattle.cc_heaps.proofs.RootNames.{black_roots, gray_roots, black-alike, marked-alike}
use Rattle.cc_heaps.proofs.ScriptWrites.{named-written, whole-written}
use Rattle.cc_heaps.proofs.ScriptsChanged.{with_objects, with_named}
use Rattle.cc_heaps.proofs.ScriptCalls.{Becomes, becomes-written}

-- the keys that are black, and those that are marked
abbrev blacks : Inside → List ℕ
blacks p = black_keys p.scripts p.weak (black_roots p)

abbrev marks : Inside → List ℕ
marks p = marked_keys p.scripts p.weak (black_roots p) (gray_roots p)

-- the objects after marking
abbrev pub marked_objects : Inside → List Object
marked_objects p = marked_from (black_roots p) (gray_roots p) p.weak p.scripts

module _ {owned : List ℕ} (p : Inside) (l : IsLinked p) (o : IsInOrder owned (keyed_of p)) where
  same-colour : (q : Object) → Among q p.scripts → colour_by (blacks p) (marks p) q.key ≡ names.colour_by (black_names (heap_of p)) (marked_names (heap_of p)) q.name
  same-colour q m = λ i. colour_of (black-alike p l o q m i) (marked-alike p l o q m i)

  -- an object marked by its key is marked by its name
  marked-named : with_named (heap_of p) (marked_objects p) p.scripts_made ≡ marked (heap_of p)
  unfolding marked
  marked-named = grind (arith, named-written, same-colour)

  -- THE MARKING IS THAT OF THE DEFINITIONS
  becomes-marked : Becomes owned p (with_objects p (marked_objects p) p.scripts_made) (marked (heap_of p))
  becomes-marked = search (becomes-written, marked-named, IsSound-marked, whole-written)

  pub heap-marked : heap_of (record p { scripts = marked_objects p }) ≡ marked (heap_of p)
  heap-marked = becomes-marked.heap

  pub keys-marked : KeepsKeys (keyed_of p) (keyed_of (record p { scripts = marked_objects p }))
  keys-marked = becomes-marked.keys

  -- new marks stay
  pub marks-marked : KeepsMarks (keyed_of p) (keyed_of (record p { scripts = marked_objects p }))
  marks-marked = marks-mapped (keyed_of p) (keyed_of (record p { scripts = marked_objects p })) (λ q. with_colour (colour_by (blacks p) (marks p) q.key) q) refl refl
      (λ q. refl) (λ q. refl) (λ q. refl)

  pub linked-marked : IsLinked (record p { scripts = marked_objects p })
  linked-marked = becomes-marked.linked

  pub order-marked : IsInOrder owned (keyed_of (record p { scripts = marked_objects p }))
  order-marked = becomes-marked.order
