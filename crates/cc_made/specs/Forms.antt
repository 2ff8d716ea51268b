-- The forms of a made line.
use Rattle.std.specs.Prelude.{ℕ, List, [], ◌∷◌, codes, slice_index_or}
use Rattle.cc_made.specs.declared.operand.Operand.{Operand}
use Rattle.cc_made.specs.declared.operand.Operand.TheVariants.{Index, Native, Script, Slots, Units}

-- a word, and what stands behind it, from left to right
pub record Form : Type 0 where
  pub word : List ℕ
  pub operands : List Operand

abbrev pub form : List ℕ → List Operand → Form
form word operands = record { word = word; operands = operands }

-- THE FORMS: a word that is drawn picks one by its remainder, from zero. Natives are made twice as often as anything else
abbrev pub forms : List Form
forms =
    form (codes "native") (Native ∷ Slots ∷ [])
    ∷ form (codes "native") (Native ∷ Slots ∷ [])
    ∷ form (codes "script") (Script ∷ Slots ∷ [])
    ∷ form (codes "weakmap") (Script ∷ [])
    ∷ form (codes "copy") (Native ∷ Native ∷ [])
    ∷ form (codes "drop") (Native ∷ [])
    ∷ form (codes "drop") (Script ∷ [])
    ∷ form (codes "set") (Native ∷ Index ∷ Native ∷ [])
    ∷ form (codes "set") (Native ∷ Index ∷ Script ∷ [])
    ∷ form (codes "get") (Native ∷ Native ∷ Index ∷ [])
    ∷ form (codes "get") (Script ∷ Native ∷ Index ∷ [])
    ∷ form (codes "put") (Script ∷ Index ∷ Script ∷ [])
    ∷ form (codes "wrap") (Script ∷ Native ∷ [])
    ∷ form (codes "wset") (Script ∷ Script ∷ Script ∷ [])
    ∷ form (codes "wget") (Script ∷ Script ∷ Script ∷ [])
    ∷ form (codes "slice") (Units ∷ [])
    ∷ form (codes "take") (Script ∷ Script ∷ Index ∷ [])
    ∷ form (codes "unwrap") (Native ∷ Script ∷ [])
    ∷ form (codes "preserve") (Script ∷ [])
    ∷ form (codes "gc") []
    ∷ []

-- the form of a word that is drawn
abbrev pub form_at : ℕ → Form
form_at pick = slice_index_or forms pick (form [] [])
