-- THE LINE OF AN EVENT OR A REPLY TELLS IT FROM OTHERS.
use Rattle.std.proofs.Common.{◌≡◌, ◌≢◌, ℕ, ◌^◌, ◌<◌, false, ◌==◌, List, ◌∷◌, ◌++◌, get_or, drop, codes, if◌then◌else◌, refl, sym, ap, ◌∙◌, eq-eqb}
use Rattle.std.proofs.lemmas.Bool.{false≢true}
use Rattle.std.proofs.lemmas.List.{append_cancel_left}
use Rattle.cc_names.specs.declared.name.Name.{Name}
use Rattle.cc_names.specs.declared.name.Name.TheVariants.{Native, Script, Reflector}
use Rattle.cc_names.specs.Names.{native, number_of, object, reflector, text_of_name}
use Rattle.cc_model.specs.declared.item.Refusal.{Refusal}
use Rattle.cc_model.specs.declared.item.Refusal.TheVariants.{Long, Line, Empty, Kind, Slot, Full, NoMemory}
use Rattle.cc_model.specs.declared.item.Reply.{Reply}
use Rattle.cc_model.specs.declared.item.Reply.TheVariants.{Named, Nothing, Done, Census, Refused}
use Rattle.cc_model.specs.declared.item.Event.{Event}
use Rattle.cc_model.specs.declared.item.Event.TheVariants.{Unlinked, Freed, Abandoned}
use Rattle.cc_model.specs.Texts.{text_of_event, text_of_refusal, text_of_reply}
use Rattle.cc_verdict.specs.Numbers.{number_in_event, number_in_reply}
use Rattle.cc_verdict.proofs.Decimals.{decimal-told}

-- lines that differ at a byte differ
differ : (i : ℕ) (xs ys : List ℕ) → (get_or xs i 0 == get_or ys i 0) ≡ false → xs ≢ ys
differ i xs ys unlike e = false≢true (sym unlike ∙ eq-eqb (get_or xs i 0) (get_or ys i 0) (ap (λ zs. get_or zs i 0) e))

pub name-told : (x y : Name) → number_of x < 2 ^ 32 → text_of_name x ≡ text_of_name y → x ≡ y
name-told (Native i) (Native j) small e = ap native (decimal-told i.0 j.0 small (ap (drop 1) e))
name-told (Script i) (Script j) small e = ap object (decimal-told i.0 j.0 small (ap (drop 1) e))
name-told (Reflector i) (Reflector j) small e = ap reflector (decimal-told i.0 j.0 small (ap (drop 1) e))
name-told (Native i) (Script j) small e = absurd (differ 0 _ _ refl e)
name-told (Native i) (Reflector j) small e = absurd (differ 0 _ _ refl e)
name-told (Script i) (Native j) small e = absurd (differ 0 _ _ refl e)
name-told (Script i) (Reflector j) small e = absurd (differ 0 _ _ refl e)
name-told (Reflector i) (Native j) small e = absurd (differ 0 _ _ refl e)
name-told (Reflector i) (Script j) small e = absurd (differ 0 _ _ refl e)

pub event-told_apart : (e f : Event) → number_in_event e < 2 ^ 32 → text_of_event e ≡ text_of_event f → e ≡ f
event-told_apart (Unlinked x) (Unlinked y) small e = ap Unlinked (name-told x y small (append_cancel_left (codes "- unlink ") (text_of_name x) (text_of_name y) e))
event-told_apart (Freed x) (Freed y) small e = ap Freed (name-told x y small (append_cancel_left (codes "- free ") (text_of_name x) (text_of_name y) e))
event-told_apart Abandoned Abandoned small e = refl
event-told_apart (Unlinked x) (Freed y) small e = absurd (differ 2 _ _ refl e)
event-told_apart (Unlinked x) Abandoned small e = absurd (differ 2 _ _ refl e)
event-told_apart (Freed x) (Unlinked y) small e = absurd (differ 2 _ _ refl e)
event-told_apart (Freed x) Abandoned small e = absurd (differ 2 _ _ refl e)
event-told_apart Abandoned (Unlinked y) small e = absurd (differ 2 _ _ refl e)
event-told_apart Abandoned (Freed y) small e = absurd (differ 2 _ _ refl e)

-- Refusals by their third and fourth byte
refusal_of_bytes : ℕ → ℕ → Refusal
refusal_of_bytes b c =
    if b == 108 then (if c == 111 then Long else Line)
    else (if b == 101 then Empty
    else (if b == 107 then Kind
    else (if b == 115 then Slot
    else (if b == 102 then Full else NoMemory))))

refusal_in : List ℕ → Refusal
refusal_in line = refusal_of_bytes (get_or line 2 0) (get_or line 3 0)

refusal_in-text : (r : Refusal) → refusal_in (text_of_refusal r) ≡ r
unfolding refusal_in refusal_of_bytes
refusal_in-text Long = refl
refusal_in-text Line = refl
refusal_in-text Empty = refl
refusal_in-text Kind = refl
refusal_in-text Slot = refl
refusal_in-text Full = refl
refusal_in-text NoMemory = refl

refusal-told : (r q : Refusal) → text_of_refusal r ≡ text_of_refusal q → r ≡ q
refusal-told r q e = sym (refusal_in-text r) ∙ (ap refusal_in e ∙ refusal_in-text q)

-- a reply with a name is not one with a word
named-no_word : (x : Name) (rest : List ℕ) (word : ℕ) → (35 == word) ≡ false → (64 == word) ≡ false → (126 == word) ≡ false →
    codes "= " ++ text_of_name x ≢ 61 ∷ 32 ∷ word ∷ rest
named-no_word (Native k) rest word n s r e = differ 2 _ _ n e
named-no_word (Script k) rest word n s r e = differ 2 _ _ s e
named-no_word (Reflector k) rest word n s r e = differ 2 _ _ r e

refused-no_reply : (r : Refusal) (rest : List ℕ) → text_of_refusal r ≢ 61 ∷ rest
refused-no_reply Long rest e = differ 0 _ _ refl e
refused-no_reply Line rest e = differ 0 _ _ refl e
refused-no_reply Empty rest e = differ 0 _ _ refl e
refused-no_reply Kind rest e = differ 0 _ _ refl e
refused-no_reply Slot rest e = differ 0 _ _ refl e
refused-no_reply Full rest e = differ 0 _ _ refl e
refused-no_reply NoMemory rest e = differ 0 _ _ refl e

pub reply-told_apart : (r q : Reply) → number_in_reply r < 2 ^ 32 → text_of_reply r ≡ text_of_reply q → r ≡ q
reply-told_apart (Named x) (Named y) small e = ap Named (name-told x y small (append_cancel_left (codes "= ") (text_of_name x) (text_of_name y) e))
reply-told_apart Nothing Nothing small e = refl
reply-told_apart Done Done small e = refl
reply-told_apart (Census m) (Census n) small e = ap Census (decimal-told m n small (append_cancel_left (codes "= census ") _ _ e))
reply-told_apart (Refused r) (Refused q) small e = ap Refused (refusal-told r q e)
reply-told_apart (Named x) Nothing small e = absurd (named-no_word x _ _ refl refl refl e)
reply-told_apart (Named x) Done small e = absurd (named-no_word x _ _ refl refl refl e)
reply-told_apart (Named x) (Census n) small e = absurd (named-no_word x _ _ refl refl refl e)
reply-told_apart Nothing (Named y) small e = absurd (named-no_word y _ _ refl refl refl (sym e))
reply-told_apart Done (Named y) small e = absurd (named-no_word y _ _ refl refl refl (sym e))
reply-told_apart (Census m) (Named y) small e = absurd (named-no_word y _ _ refl refl refl (sym e))
reply-told_apart Nothing Done small e = absurd (differ 2 _ _ refl e)
reply-told_apart Nothing (Census n) small e = absurd (differ 2 _ _ refl e)
reply-told_apart Done Nothing small e = absurd (differ 2 _ _ refl e)
reply-told_apart Done (Census n) small e = absurd (differ 2 _ _ refl e)
reply-told_apart (Census m) Nothing small e = absurd (differ 2 _ _ refl e)
reply-told_apart (Census m) Done small e = absurd (differ 2 _ _ refl e)
reply-told_apart (Refused r) (Named y) small e = absurd (refused-no_reply r _ e)
reply-told_apart (Refused r) Nothing small e = absurd (refused-no_reply r _ e)
reply-told_apart (Refused r) Done small e = absurd (refused-no_reply r _ e)
reply-told_apart (Refused r) (Census n) small e = absurd (refused-no_reply r _ e)
reply-told_apart (Named x) (Refused q) small e = absurd (refused-no_reply q _ (sym e))
reply-told_apart Nothing (Refused q) small e = absurd (refused-no_reply q _ (sym e))
reply-told_apart Done (Refused q) small e = absurd (refused-no_reply q _ (sym e))
reply-told_apart (Census m) (Refused q) small e = absurd (refused-no_reply q _ (sym e))

-- Events are no replies

no-dash : (r : Reply) → (get_or (text_of_reply r) 0 0 == 45) ≡ false
no-dash (Named x) = refl
no-dash Nothing = refl
no-dash Done = refl
no-dash (Census n) = refl
no-dash (Refused Long) = refl
no-dash (Refused Line) = refl
no-dash (Refused Empty) = refl
no-dash (Refused Kind) = refl
no-dash (Refused Slot) = refl
no-dash (Refused Full) = refl
no-dash (Refused NoMemory) = refl

pub reply-no_event : (e : Event) (r : Reply) → text_of_reply r ≢ text_of_event e
reply-no_event (Unlinked x) r e = differ 0 _ _ (no-dash r) e
reply-no_event (Freed x) r e = differ 0 _ _ (no-dash r) e
reply-no_event Abandoned r e = differ 0 _ _ (no-dash r) e
