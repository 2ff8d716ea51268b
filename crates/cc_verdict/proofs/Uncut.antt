-- THE LINE OF AN ITEM HAS NO LINE FEED, so the text of items is cut into their lines.
use Rattle.std.proofs.Common.{◌≡◌, ℕ, zero, suc, ◌+◌, ◌/◌, ◌%◌, Bool, true, false, not, ◌==◌, List, [], ◌∷◌, ◌++◌, length, decimal, codes, nat_lt, if◌then◌else◌, refl, sym, ap, ◌∙◌, arith, ne_eqb, append_assoc, append-nil, length-append}
use Rattle.std.specs.Fmt.{digit_glyph, digits_onto, digits}
use Rattle.std.specs.List.{list_all}
use Rattle.std.proofs.lemmas.Bool.{and_parts, and_from, false≢true}
use Rattle.std.proofs.lemmas.List.Folds.{list_all-append}
use Rattle.std.proofs.lemmas.List.Sums.{sum_by-cons}
use Rattle.cc_names.specs.declared.name.Name.{Name}
use Rattle.cc_names.specs.declared.name.Name.TheVariants.{Native, Script, Reflector}
use Rattle.cc_names.specs.declared.register.Reg.{Reg}
use Rattle.cc_names.specs.declared.register.Reg.TheVariants.{N, S, W}
use Rattle.cc_names.specs.Names.{text_of_name, text_of_register}
use Rattle.cc_model.specs.declared.item.Refusal.{Refusal}
use Rattle.cc_model.specs.declared.item.Refusal.TheVariants.{Long, Line, Empty, Kind, Slot, Full, NoMemory}
use Rattle.cc_model.specs.declared.item.Reply.{Reply}
use Rattle.cc_model.specs.declared.item.Reply.TheVariants.{Named, Nothing, Done, Census, Refused}
use Rattle.cc_model.specs.declared.item.Event.{Event}
use Rattle.cc_model.specs.declared.item.Event.TheVariants.{Unlinked, Freed, Abandoned}
use Rattle.cc_model.specs.declared.item.Reason.{Reason}
use Rattle.cc_model.specs.declared.item.Reason.TheVariants.{Root, Edge, Pair}
use Rattle.cc_model.specs.declared.item.Item.{Item}
use Rattle.cc_model.specs.declared.item.Item.TheVariants.{Event as of_event, Listed, Step, Reply as of_reply}
use Rattle.cc_model.specs.Lines.{lines_from, lines_of}
use Rattle.cc_model.specs.Texts.{text_of_event, text_of_reason, text_of_refusal, text_of_reply, texts_of, words_of}
use Rattle.cc_verdict.specs.Following.{lines_of_items}
use Rattle.cc_verdict.specs.Verdicts.{length_of_lines}

-- a byte that ends no line
abbrev pub is_inside : ℕ → Bool
is_inside b = not (b == 10)

-- bytes that no line feed cuts
abbrev pub is_uncut : List ℕ → Bool
is_uncut bytes = list_all is_inside bytes

uncut-append : (xs ys : List ℕ) → is_uncut xs ≡ true → is_uncut ys ≡ true → is_uncut (xs ++ ys) ≡ true
uncut-append xs ys a b = list_all-append is_inside xs ys ∙ and_from (is_uncut xs) (is_uncut ys) a b

-- Digits

glyph-inside : (d : ℕ) → is_inside (digit_glyph false d) ≡ true
glyph-inside d = go (nat_lt d 10)
  where
    go : (small : Bool) → is_inside (if small then 48 + d else 87 + d) ≡ true
    go true = ap not (ne_eqb (48 + d) 10 (λ e. omega arith))
    go false = ap not (ne_eqb (87 + d) 10 (λ e. omega arith))

onto-uncut : (k n : ℕ) (acc : List ℕ) → is_uncut acc ≡ true → is_uncut (digits_onto k 10 false n acc) ≡ true
onto-uncut zero n acc h = h
onto-uncut (suc k) n acc h = go (n / 10 == 0) (onto-uncut k (n / 10) (digit_glyph false (n % 10) ∷ acc))
  where
    more : is_uncut (digit_glyph false (n % 10) ∷ acc) ≡ true
    more = and_from (is_inside (digit_glyph false (n % 10))) (is_uncut acc) (glyph-inside (n % 10)) h

    go : (last : Bool) → (is_uncut (digit_glyph false (n % 10) ∷ acc) ≡ true → is_uncut (digits_onto k 10 false (n / 10) (digit_glyph false (n % 10) ∷ acc)) ≡ true) →
        is_uncut (if last then digit_glyph false (n % 10) ∷ acc else digits_onto k 10 false (n / 10) (digit_glyph false (n % 10) ∷ acc)) ≡ true
    go true rest = more
    go false rest = rest more

pub decimal-uncut : (n : ℕ) → is_uncut (decimal n) ≡ true
unfolding digits
decimal-uncut n = onto-uncut 64 n [] refl

-- Items

name-uncut : (x : Name) → is_uncut (text_of_name x) ≡ true
name-uncut (Native k) = decimal-uncut k.0
name-uncut (Script k) = decimal-uncut k.0
name-uncut (Reflector k) = decimal-uncut k.0

register-uncut : (r : Reg) → is_uncut (text_of_register r) ≡ true
register-uncut (N k) = decimal-uncut k
register-uncut (S k) = decimal-uncut k
register-uncut (W k) = decimal-uncut k

refusal-uncut : (r : Refusal) → is_uncut (text_of_refusal r) ≡ true
refusal-uncut Long = refl
refusal-uncut Line = refl
refusal-uncut Empty = refl
refusal-uncut Kind = refl
refusal-uncut Slot = refl
refusal-uncut Full = refl
refusal-uncut NoMemory = refl

reply-uncut : (r : Reply) → is_uncut (text_of_reply r) ≡ true
reply-uncut (Named x) = name-uncut x
reply-uncut Nothing = refl
reply-uncut Done = refl
reply-uncut (Census n) = decimal-uncut n
reply-uncut (Refused r) = refusal-uncut r

event-uncut : (e : Event) → is_uncut (text_of_event e) ≡ true
event-uncut (Unlinked x) = name-uncut x
event-uncut (Freed x) = name-uncut x
event-uncut Abandoned = refl

-- a name and a space have no line feed
spaced-uncut : (x : Name) → is_uncut (text_of_name x ++ codes " ") ≡ true
spaced-uncut x = uncut-append (text_of_name x) (codes " ") (name-uncut x) refl

reason-uncut : (r : Reason) → is_uncut (text_of_reason r) ≡ true
reason-uncut (Root r) = register-uncut r
reason-uncut (Edge x) = name-uncut x
reason-uncut (Pair m x) = uncut-append (text_of_name m ++ codes " ") (text_of_name x) (spaced-uncut m) (name-uncut x)

words-uncut : (i : Item) → is_uncut (words_of i) ≡ true
words-uncut (of_event e) = event-uncut e
words-uncut (Listed x) = name-uncut x
words-uncut (Step x r) = uncut-append (text_of_name x ++ codes " ") (text_of_reason r) (spaced-uncut x) (reason-uncut r)
words-uncut (of_reply r) = reply-uncut r

-- Lines

cut-inside : (so_far : List ℕ) (b : ℕ) (after : List ℕ) → is_inside b ≡ true → lines_from so_far (b ∷ after) ≡ lines_from (so_far ++ b ∷ []) after
cut-inside so_far b after h = go (b == 10) h
  where
    go : (ends : Bool) → not ends ≡ true →
        (if ends then so_far ∷ [] else []) ++ lines_from (if ends then [] else so_far ++ b ∷ []) after ≡ lines_from (so_far ++ b ∷ []) after
    go true h = absurd (false≢true h)
    go false h = refl

-- a line that a line feed ends is the first, behind what stands before it
cut-ended : (so_far line after : List ℕ) → is_uncut line ≡ true → lines_from so_far (line ++ 10 ∷ after) ≡ (so_far ++ line) ∷ lines_from [] after
cut-ended so_far [] after h = ap (λ l. l ∷ lines_from [] after) (sym (append-nil so_far))
cut-ended so_far (b ∷ line) after h =
    cut-inside so_far b (line ++ 10 ∷ after) (and_parts _ _ h).0
    ∙ cut-ended (so_far ++ b ∷ []) line after (and_parts _ _ h).1
    ∙ ap (λ l. l ∷ lines_from [] after) (append_assoc so_far (b ∷ []) line)

-- THE TEXT OF ITEMS IS CUT INTO THEIR LINES.
pub lines-of_items : (items : List Item) → lines_of (texts_of items) ≡ lines_of_items items
lines-of_items [] = refl
lines-of_items (i ∷ items) =
    ap lines_of (append_assoc (words_of i) (10 ∷ []) (texts_of items))
    ∙ cut-ended [] (words_of i) (texts_of items) (words-uncut i)
    ∙ ap (λ l. words_of i ∷ l) (lines-of_items items)

-- the text of items has a byte more for each of their lines
pub length-of_items : (items : List Item) → length (texts_of items) ≡ length_of_lines (lines_of_items items)
length-of_items [] = refl
length-of_items (i ∷ items) = omega (
  arith,
  length-of_items items,
  length-append (words_of i ++ 10 ∷ []) (texts_of items),
  length-append (words_of i) (10 ∷ []),
  sum_by-cons (λ line. length line + 1) (words_of i) (lines_of_items items),
)
