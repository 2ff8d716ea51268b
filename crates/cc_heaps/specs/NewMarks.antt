-- THE NEW MARKS OF THE HEAPS, where a marking goes on in slices: those of the script objects, and the lists of those to scan.
use Rattle.std.specs.Prelude.{◌≡◌, ◌≢◌, ℕ, ◌≤◌, ◌==◌, List, ◌∷◌, map, filter, Option, Some, IfSome, option_map, count_by, length}
use Rattle.cc_lists.specs.Members.{Among}
use Rattle.cc_names.specs.declared.name.Name.{Name}
use Rattle.cc_names.specs.declared.kind.Colour.{Colour}
use Rattle.cc_names.specs.declared.kind.Colour.TheVariants.{White, Gray, Black}
use Rattle.cc_names.specs.Names.{same_name}
use Rattle.cc_model.specs.Slots.{contents}
use Rattle.cc_model.specs.Marking.{NewMarks, raised_black, raised_gray}
use Rattle.cc_script.specs.Objects.{Object, is_below, new_mark_at, places_at, with_new_mark}
use Rattle.cc_script.specs.NewMarks.{is_unblack}
use Rattle.cc_heaps.specs.ToScan.{ToScan, Lists, HasRoom}
use Rattle.cc_heaps.specs.Keyed.{Keyed, name_held, the_name_at}

-- the names of the objects whose new mark is lower than this one, in order of making
abbrev pub names_below : Colour → List Object → List Name
names_below to objects = map (λ o. o.name) (filter (λ o. is_below o.new_mark to) objects)

-- THE NEW MARKS by names, where these are to be scanned: what got black since it came onto the gray list is passed when it is its turn,
-- so it counts as gone from there
abbrev pub new_marks_in : List Object → ToScan → NewMarks
new_marks_in objects t = record {
  unmarked = names_below Gray objects;
  unblack = names_below Black objects;
  black_list = map (the_name_at objects) t.black;
  gray_list = map (the_name_at objects) (filter (is_unblack objects) t.gray);
}

abbrev pub new_marks_with : Keyed → ToScan → NewMarks
new_marks_with v t = new_marks_in v.scripts t

-- none where no marking goes on
abbrev pub marks_of : Keyed → Option NewMarks
marks_of v = option_map (new_marks_with v) v.marking

-- what is on a list is there and has its mark by now, and stands there once; so there is room for it
pub record AreListedIn (objects : List Object) (t : ToScan) : Type 0 where
  pub black : (key : ℕ) → Among key t.black → new_mark_at objects key ≡ Some Black
  pub gray : (key : ℕ) → Among key t.gray → (mark : Colour) × (new_mark_at objects key ≡ Some mark) × (mark ≢ White)
  pub black_once : (key : ℕ) → count_by (λ k. k == key) t.black ≤ 1
  pub gray_once : (key : ℕ) → count_by (λ k. k == key) t.gray ≤ 1

-- WHAT IS TO BE SCANNED IS WELL LISTED, where a marking goes on
abbrev pub AreListed : Keyed → Type 0
AreListed v = IfSome v.marking (AreListedIn v.scripts)

-- THE SCRIPT OBJECTS ARE THE SAME but for their new marks
abbrev pub IsRemarked : List Object → List Object → Type 0
IsRemarked old new = (marks : Object → Colour) × (new ≡ map (λ o. with_new_mark (marks o) o) old)

-- The parts of the heaps that a marking in slices changes

-- the new marks by names, where a marking goes on
abbrev pub marks_held : List Object → Lists → Option NewMarks
marks_held objects lists = option_map (new_marks_in objects) lists.marking

-- raised to this mark, where its own is lower
abbrev pub raised_to : Colour → NewMarks → Name → NewMarks
raised_to White m y = m
raised_to Gray m y = raised_gray m y
raised_to Black m y = raised_black m y

-- the names of what an object's slots and its delegate hold
abbrev pub names_held_at : List Object → ℕ → List Name
names_held_at objects key = contents (map (name_held objects) (places_at objects key))

-- a marking goes on, in which no two script objects have one key or one name, and there is room for all of them
pub record IsGoingOn (objects : List Object) (lists : Lists) : Type 0 where
  pub one_key : (key : ℕ) → count_by (λ o. o.key == key) objects ≤ 1
  pub one_name : (x : Name) → count_by (λ o. same_name o.name x) objects ≤ 1
  pub room : HasRoom lists (length objects)
  pub listed : (t : ToScan) × (lists.marking ≡ Some t) × AreListedIn objects t

-- one that is the first of a list, before it was taken
abbrev pub black_before : Name → NewMarks → NewMarks
black_before x m = record m { black_list = x ∷ m.black_list }

abbrev pub gray_before : Name → NewMarks → NewMarks
gray_before x m = record m { gray_list = x ∷ m.gray_list }
