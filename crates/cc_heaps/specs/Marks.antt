-- WHAT CALLS LEAVE OF A MARKING IN SLICES, where one goes on between them: those that expose nothing leave it as it is, and those
-- that expose make script objects black by the new mark.
use Rattle.std.specs.Prelude.{◌≡◌, ◌⊎◌, ℕ, false, Some}
use Rattle.cc_names.specs.declared.kind.Colour.{Colour}
use Rattle.cc_names.specs.declared.kind.Colour.TheVariants.{Black}
use Rattle.cc_script.specs.Objects.{is_there, new_mark_at}
use Rattle.cc_heaps.specs.Keyed.{Keyed}
use Rattle.cc_heaps.specs.NewMarks.{AreListed, marks_of}

-- IT STAYS AS IT IS: its lists do, and the new mark of each script object that is there
pub record KeepsMarks (old new : Keyed) : Type 0 where
  -- what is to be scanned stays, in its order
  pub lists : new.marking ≡ old.marking
  -- what is there stays, with its new mark
  pub there : (key : ℕ) (mark : Colour) → new_mark_at old.scripts key ≡ Some mark → new_mark_at new.scripts key ≡ Some mark
  -- what is made is black by it
  pub made : (key : ℕ) (mark : Colour) → is_there old.scripts key ≡ false → new_mark_at new.scripts key ≡ Some mark → mark ≡ Black
  -- so the new marks by names stay, where what is to be scanned is well listed
  pub by_names : AreListed old → marks_of new ≡ marks_of old

-- IT GOES ON: its lists stay, and what is there becomes black by the new mark at most
pub record MarksGoOn (old new : Keyed) : Type 0 where
  -- what is to be scanned stays, in its order; what is black by now and was to get gray neighbours is passed there
  pub lists : new.marking ≡ old.marking
  -- what is there stays, with its new mark, or is black by it
  pub there : (key : ℕ) (mark : Colour) → new_mark_at old.scripts key ≡ Some mark → (new_mark_at new.scripts key ≡ Some mark) ⊎ (new_mark_at new.scripts key ≡ Some Black)
  -- what is made is black by it
  pub made : (key : ℕ) (mark : Colour) → is_there old.scripts key ≡ false → new_mark_at new.scripts key ≡ Some mark → mark ≡ Black
