-- WHAT ROOTS AND ENTRIES NAME IS THERE STILL where objects were made white or raised.
use Rattle.std.specs.Prelude.{IsTrue}
use Rattle.std.proofs.Common.{◌≡◌, ℕ, List, ◌∙◌, ap, arith}
use Rattle.cc_lists.specs.Members.{Among}
use Rattle.cc_names.specs.declared.kind.Colour.{Colour}
use Rattle.cc_script.specs.Objects.{Object, is_there, whitened, raised_among}
use Rattle.cc_script.specs.Staying.{StayThere}
use Rattle.cc_script.proofs.Wholeness.{there-raised, there-whitened}
use Rattle.cc_weakmaps.specs.Entries.{KeyedEntry}
use Rattle.cc_marking.specs.Marking.{AreEntriesThere}

-- these keys are those of objects
abbrev pub AreThere : List ℕ → List Object → Type 0
AreThere keys objects = (key : ℕ) → Among key keys → IsTrue (is_there objects key)

-- What was there is there
pub StayThere-whitened : (objects white : List Object) → white ≡ whitened objects → StayThere objects white
StayThere-whitened objects white cleared key there = ap (λ os. is_there os key) cleared ∙ (there-whitened objects key ∙ there)

pub StayThere-raised : (keys : List ℕ) (to : Colour) (objects now : List Object) → now ≡ raised_among keys to objects → StayThere objects now
StayThere-raised keys to objects now risen key there = ap (λ os. is_there os key) risen ∙ (there-raised keys to objects key ∙ there)

module _ (old new : List Object) (stay : StayThere old new) where
  pub AreThere-stay : (keys : List ℕ) → AreThere keys old → AreThere keys new
  AreThere-stay keys there key m = stay key (there key m)

  pub AreEntriesThere-stay : (entries : List KeyedEntry) → AreEntriesThere old entries → AreEntriesThere new entries
  AreEntriesThere-stay entries there e m = grind arith
