-- THE COLOURS AT THE END OF A MARKING IN SLICES: the new marks, carried on over entries by keys, are what the definitions give by names.
use Rattle.std.proofs.Common.{◌≡◌, ℕ, ◌==◌, List, ◌++◌, map, Some, refl, sym, ◌∙◌, ap, subst}
use Rattle.std.proofs.lemmas.Simd.{map-map}
use Rattle.cc_lists.specs.Members.{Among, has}
use Rattle.cc_names.specs.declared.name.Name.{Name}
use Rattle.cc_names.specs.declared.kind.Colour.TheVariants.{Gray, Black}
use Rattle.cc_names.specs.Names.{same_name}
use Rattle.cc_model.specs.Colours as names
use Rattle.cc_model.specs.Marking.{NewMarks, blacks_by_mark, marks_by_mark, without_all}
use Rattle.cc_model.specs.WellFormed.{script_names}
use Rattle.cc_laws_heap.proofs.Face.{colour_of, option_map-found}
use Rattle.cc_laws_heap.proofs.MarkingKeeps.{IsSound-coloured}
use Rattle.cc_laws_heap.proofs.Raising.{without_all-cases}
use Rattle.cc_script.specs.ColourOrder.{HasColourOrder}
use Rattle.cc_script.specs.NewMarks.{exchanged}
use Rattle.cc_script.specs.Objects.{Object, AreWhole, colour_by, name_at, with_colour}
use Rattle.cc_marking.specs.Levels.{keys_at_least}
use Rattle.cc_marking.specs.Marking.{AreEntriesThere, black_keys, keys_marked, marked_from, marked_keys}
use Rattle.cc_heaps.specs.Keyed.{IsInOrder, named_object, named_objects}
use Rattle.cc_heaps.specs.Ending.{IsToEnd, coloured_by_marks}
use Rattle.cc_heaps.specs.NewMarks.{marks_of, names_below, new_marks_in}
use Rattle.cc_heaps.specs.ToScan.{ToScan}
use Rattle.cc_heaps.specs.Fields.{heap_of, keyed_of, IsLinked}
use Rattle.cc_heaps.specs.declared.heaps.Heaps.TheInside.{Inside}
use Rattle.cc_heaps.proofs.EndedMarks.{KeepsObjects-exchanged, keys_marked-exchanged, names-at_least, order-exchanged}
use Rattle.cc_heaps.proofs.Reaching.{AreNamesOf}
use Rattle.cc_heaps.proofs.RootNames.{AreNamesOf-append, led-alike, led-names}
use Rattle.cc_heaps.proofs.ScriptWrites.{KeepsObjects, KeepsNames-written, name_at-written, named-written, whole-written}
use Rattle.cc_heaps.proofs.ScriptsChanged.{entries_there-kept, with_objects}
use Rattle.cc_heaps.proofs.ScriptCalls.{Becomes, becomes-written}

-- the objects with their new marks for colours
abbrev pub by_marks : Inside → List Object
by_marks p = map exchanged p.scripts

-- the keys from which marks are carried on
abbrev pub blacks_at : Inside → List ℕ
blacks_at p = keys_at_least Black (by_marks p)

abbrev pub grays_at : Inside → List ℕ
grays_at p = keys_at_least Gray (by_marks p)

-- the objects after the marks were carried on
abbrev pub ended_objects : Inside → List Object
ended_objects p = marked_from (blacks_at p) (grays_at p) p.weak (by_marks p)

module _ (p : Inside) where
  -- black and marked keys then
  abbrev black_then : List ℕ
  black_then = black_keys (by_marks p) p.weak (blacks_at p)

  abbrev marked_then : List ℕ
  marked_then = marked_keys (by_marks p) p.weak (blacks_at p) (grays_at p)

  -- an object with its colour then
  abbrev ended : Object → Object
  ended q = with_colour (colour_by black_then marked_then q.key) (exchanged q)

  KeepsObjects-ended : KeepsObjects ended
  KeepsObjects-ended = record { key = λ q. refl; name = λ q. refl; kind = λ q. refl; native = λ q. refl; delegate = λ q. refl }

  -- the objects at the end, each from the one that it was
  ended-are : ended_objects p ≡ map ended p.scripts
  ended-are = map-map (λ q. with_colour (colour_by black_then marked_then q.key) q) exchanged p.scripts

  -- keys have the names that they had
  pub name_at-ended : (key : ℕ) → name_at (ended_objects p) key ≡ name_at p.scripts key
  name_at-ended key = ap (λ os. name_at os key) ended-are ∙ name_at-written ended KeepsObjects-ended p.scripts key

module _ {owned : List ℕ} (p : Inside) (l : IsLinked p) (o : IsInOrder owned (keyed_of p)) where
  -- after the exchange places hold what is there, as before,
  pub whole-exchanged : AreWhole (by_marks p)
  whole-exchanged = whole-written exchanged KeepsObjects-exchanged p.scripts (λ q k m. o.whole q k m)

  -- and entries name what is there
  pub entries-exchanged : AreEntriesThere (by_marks p) p.weak
  entries-exchanged = entries_there-kept p.scripts (by_marks p) (KeepsNames-written exchanged KeepsObjects-exchanged p.scripts) p.weak o.entries_there

  module _ (m : NewMarks) (is : marks_of (keyed_of p) ≡ Some m) where
    lists : (t : ToScan) × (p.to_scan.marking ≡ Some t) × (new_marks_in p.scripts t ≡ m)
    lists = option_map-found (new_marks_in p.scripts) p.to_scan.marking m is

    -- what has no new mark, and what is not black by it, are those of the objects
    unmarked-is : m.unmarked ≡ names_below Gray p.scripts
    unmarked-is = ap (λ (n : NewMarks). n.unmarked) (sym lists.2)

    unblack-is : m.unblack ≡ names_below Black p.scripts
    unblack-is = ap (λ (n : NewMarks). n.unblack) (sym lists.2)

    -- the colour order holds after the exchange
    pub colours-ordered : IsToEnd (heap_of p) m → HasColourOrder (by_marks p)
    colours-ordered e = order-exchanged p.scripts l.one_key l.one_name (heap_of p) refl m unmarked-is unblack-is e.so_far e.scanned o.whole

    -- The names of what has at least a mark

    abbrev blacks : List Name
    blacks = without_all m.unblack (script_names (heap_of p))

    abbrev marks : List Name
    marks = without_all m.unmarked (script_names (heap_of p))

    black-names : AreNamesOf p.scripts (blacks_at p) blacks
    black-names = subst (λ ns. AreNamesOf p.scripts (blacks_at p) (without_all ns (script_names (heap_of p)))) (sym unblack-is)
        (names-at_least p.scripts l.one_key l.one_name (heap_of p) refl Black)

    gray-names : AreNamesOf p.scripts (grays_at p) marks
    gray-names = subst (λ ns. AreNamesOf p.scripts (grays_at p) (without_all ns (script_names (heap_of p)))) (sym unmarked-is)
        (names-at_least p.scripts l.one_key l.one_name (heap_of p) refl Gray)

    -- What these lead to is the same before the exchange and after it.

    black_keys-are : black_then p ≡ keys_marked p.scripts p.weak (blacks_at p)
    black_keys-are = keys_marked-exchanged p.scripts l.one_key l.one_name p.weak (blacks_at p)

    marked_keys-are : marked_then p ≡ keys_marked p.scripts p.weak (keys_marked p.scripts p.weak (blacks_at p) ++ grays_at p)
    marked_keys-are = keys_marked-exchanged p.scripts l.one_key l.one_name p.weak (black_then p ++ grays_at p)
        ∙ ap (λ ks. keys_marked p.scripts p.weak (ks ++ grays_at p)) black_keys-are

    -- an object is black by its key where it is black by its name
    black-alike : (q : Object) → Among q p.scripts → has ◌==◌ (black_then p) q.key ≡ has same_name (blacks_by_mark (heap_of p) m) q.name
    black-alike q i = ap (λ ks. has ◌==◌ ks q.key) black_keys-are ∙ led-alike p l o (blacks_at p) blacks black-names q i

    -- an object is marked by its key where it is marked by its name
    marked-alike : (q : Object) → Among q p.scripts →
        has ◌==◌ (marked_then p) q.key ≡ has same_name (marks_by_mark (heap_of p) m) q.name
    marked-alike q i = ap (λ ks. has ◌==◌ ks q.key) marked_keys-are
        ∙ led-alike p l o (keys_marked p.scripts p.weak (blacks_at p) ++ grays_at p) (blacks_by_mark (heap_of p) m ++ marks)
        (AreNamesOf-append p.scripts (keys_marked p.scripts p.weak (blacks_at p)) (grays_at p) (blacks_by_mark (heap_of p) m) marks
        (led-names p l o (blacks_at p) blacks black-names (λ x j. (without_all-cases m.unblack (script_names (heap_of p)) x j).0)) gray-names) q i

    -- an object gets the same colour by its key and by its name
    same-colour : (q : Object) → Among q p.scripts →
        colour_by (black_then p) (marked_then p) q.key ≡
        names.colour_by (blacks_by_mark (heap_of p) m) (marks_by_mark (heap_of p) m) q.name
    same-colour q i = λ j. colour_of (black-alike q i j) (marked-alike q i j)

    -- the objects by names have the colours of the definitions
    named-ended : named_objects (map (ended p) p.scripts) ≡ (coloured_by_marks (heap_of p) m).scripts
    named-ended = named-written (ended p) (KeepsObjects-ended p) p.scripts
        (λ q. names.with_colour (names.colour_by (blacks_by_mark (heap_of p) m) (marks_by_mark (heap_of p) m) q.name) q)
        (λ q i. ap (λ c. names.with_colour c (named_object p.scripts q)) (same-colour q i))

    -- THE HEAPS HAVE THE COLOURS OF THE DEFINITIONS
    pub becomes-ended : Becomes owned p (with_objects p (ended_objects p) p.scripts_made) (coloured_by_marks (heap_of p) m)
    becomes-ended = subst (λ os. Becomes owned p (with_objects p os p.scripts_made) (coloured_by_marks (heap_of p) m)) (sym (ended-are p))
        (becomes-written p l o (ended p) (KeepsObjects-ended p) (coloured_by_marks (heap_of p) m)
        (ap (λ scripts. record (heap_of p) { scripts = scripts }) named-ended)
        (IsSound-coloured (blacks_by_mark (heap_of p) m) (marks_by_mark (heap_of p) m) (heap_of p) o.sound)
        (whole-written (ended p) (KeepsObjects-ended p) p.scripts (λ q k i. o.whole q k i)))
