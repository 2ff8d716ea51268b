-- THE TEXTS OF ITEMS are short, and their numbers are read back.
use Rattle.std.proofs.Common.{◌≡◌, ℕ, ◌-◌, ◌^◌, ◌<◌, ◌≤◌, List, [], ◌∷◌, ◌++◌, length, take, decimal, ap, ◌∙◌, arith, lit≤, lit<, length-append}
use Rattle.std.proofs.Math.Seq.{take-append_seam}
use Rattle.std.proofs.lemmas.Fmt.{length-decimal-le}
use Rattle.cc_names.specs.declared.name.Name.{Name}
use Rattle.cc_names.specs.declared.name.Name.TheVariants.{Native, Script, Reflector}
use Rattle.cc_names.specs.Names.{number_of, text_of_name}
use Rattle.cc_model.specs.declared.item.Event.{Event}
use Rattle.cc_model.specs.declared.item.Event.TheVariants.{Unlinked, Freed, Abandoned}
use Rattle.cc_model.specs.Texts.{text_of_event}
use Rattle.cc_check.specs.Standing.{IsNumberedIn}

-- a number of 32 bits has at most ten digits
pub short-decimal : (n : ℕ) → n ≤ 4294967295 → length (decimal n) ≤ 10
short-decimal n small =
    let few : n < 10 ^ 10 = omega arith in
    let wide : n < 2 ^ 64 = omega arith in
    length-decimal-le 10 n (lit< tt) few wide

pub short-name : (x : Name) → number_of x ≤ 4294967295 → length (text_of_name x) ≤ 11
short-name (Native k) small = omega (arith, short-decimal k.0 small)
short-name (Script k) small = omega (arith, short-decimal k.0 small)
short-name (Reflector k) small = omega (arith, short-decimal k.0 small)

-- an event of such a number has at most 20 bytes
pub short-event : (e : Event) → IsNumberedIn e → length (text_of_event e) ≤ 20
short-event (Freed x) small = omega (arith, short-name x small)
short-event (Unlinked x) small = omega (arith, short-name x small)
short-event Abandoned small = lit≤ tt

-- a line without its line feed
pub take-fed : (out words : List ℕ) → out ≡ [] ++ (words ++ 10 ∷ []) → take (length out - 1) out ≡ words
take-fed out words is =
    let count : length out - 1 ≡ length words = omega (arith, ap (λ (bs : List ℕ). length bs) is, length-append words (10 ∷ [])) in
    ap (λ n. take n out) count ∙ ap (take (length words)) is ∙ take-append_seam words (10 ∷ [])
