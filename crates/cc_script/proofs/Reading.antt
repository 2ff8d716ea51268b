-- A SLOT THAT IS READ, by the key that it holds.
use Rattle.std.proofs.Common.{◌≡◌, ℕ, ◌<◌, List, map, length, get_or, Option, None, option_map, sym, ◌∙◌, ap, subst}
use Rattle.std.proofs.Math.ListN.{get_or-map}
use Rattle.std.proofs.lemmas.List.{get_or_default, length-map}
use Rattle.std.proofs.lemmas.List.Elements.{Contains-get_or}
use Rattle.cc_lists.specs.Members.{Among}
use Rattle.cc_lists.proofs.Members.{Among-contains}
use Rattle.cc_names.specs.declared.number.SKey.{SKey}

-- what a slot holds, by its number
abbrev pub held_key : Option SKey → Option ℕ
held_key x = option_map (λ (k : SKey). k.0) x

pub slot-read : (items : List (Option SKey)) (slots : List (Option ℕ)) (i : ℕ) (x : Option SKey) → map held_key items ≡ slots → i < length slots → x ≡ get_or items i x →
    held_key x ≡ get_or slots i None
slot-read items slots i x same within read =
    let inside : i < length items = subst (λ n. i < n) (ap length (sym same) ∙ length-map items held_key) within in
    ap held_key (read ∙ get_or_default items i x None inside) ∙ (sym (get_or-map held_key items i None) ∙ ap (λ ys. get_or ys i None) same)

-- it stands among the slots
pub slot-among : (slots : List (Option ℕ)) (i : ℕ) (x : Option ℕ) → i < length slots → get_or slots i None ≡ x → Among x slots
slot-among slots i x within e = subst (λ y. Among y slots) e (Among-contains (get_or slots i None) slots (Contains-get_or slots i None within))
