-- THE LINES OF ITEMS are short, and begin with a mark; what is no such line.
use Rattle.std.proofs.Common.{◌≡◌, ◌≢◌, ◌⊎◌, inl, inr, ⊎_elim, ℕ, ◌<◌, ◌≤◌, List, [], ◌∷◌, length, get_or, ap, ◌∙◌, arith, lit≤, length-append}
use Rattle.cc_names.specs.declared.register.Reg.{Reg}
use Rattle.cc_names.specs.declared.register.Reg.TheVariants.{N, S, W}
use Rattle.cc_names.specs.Names.{text_of_register}
use Rattle.cc_model.specs.declared.item.Event.{Event}
use Rattle.cc_model.specs.declared.item.Event.TheVariants.{Unlinked, Freed, Abandoned}
use Rattle.cc_model.specs.declared.item.Item.{Item}
use Rattle.cc_model.specs.declared.item.Item.TheVariants.{Event as of_event, Listed, Step as of_step, Reply as of_reply}
use Rattle.cc_model.specs.declared.item.Reason.{Reason}
use Rattle.cc_model.specs.declared.item.Reason.TheVariants.{Root, Edge, Pair}
use Rattle.cc_model.specs.declared.item.Refusal.TheVariants.{Long, Line, Empty, Kind, Slot, Full, NoMemory}
use Rattle.cc_model.specs.declared.item.Reply.{Reply}
use Rattle.cc_model.specs.declared.item.Reply.TheVariants.{Named, Nothing, Done, Census, Refused}
use Rattle.cc_model.specs.Texts.{text_of_event, text_of_reason, text_of_reply, words_of}
use Rattle.cc_verdict.specs.Numbers.{number_in_reply}
use Rattle.cc_check.specs.Items.{IsNoItem, IsNumberedItem, IsNumberedReason}
use Rattle.cc_check.specs.Standing.{IsNumberedIn}
use Rattle.cc_check.proofs.Texts.{short-decimal, short-event, short-name}

short-register : (r : Reg) → IsNumberedReason (Root r) → length (text_of_register r) ≤ 11
short-register (N r) small = omega (arith, short-decimal r small)
short-register (S r) small = omega (arith, short-decimal r small)
short-register (W r) small = omega (arith, short-decimal r small)

short-reason : (r : Reason) → IsNumberedReason r → length (text_of_reason r) ≤ 23
short-reason (Root r) small = omega (arith, short-register r small)
short-reason (Edge x) small = omega (arith, short-name x small)
short-reason (Pair m x) small = simp length-append (omega (arith, short-name m small.0, short-name x small.1))

short-reply : (r : Reply) → number_in_reply r ≤ 4294967295 → length (text_of_reply r) ≤ 37
short-reply (Named x) small = omega (arith, short-name x small)
short-reply (Census n) small = omega (arith, short-decimal n small)
short-reply Nothing small = lit≤ tt
short-reply Done small = lit≤ tt
short-reply (Refused Long) small = lit≤ tt
short-reply (Refused Line) small = lit≤ tt
short-reply (Refused Empty) small = lit≤ tt
short-reply (Refused Kind) small = lit≤ tt
short-reply (Refused Slot) small = lit≤ tt
short-reply (Refused Full) small = lit≤ tt
short-reply (Refused NoMemory) small = lit≤ tt

-- an item whose numbers have 32 bits has at most 37 bytes
short-item : (i : Item) → IsNumberedItem i → length (words_of i) ≤ 37
short-item (of_event e) small = omega (arith, short-event e small)
short-item (Listed x) small = omega (arith, short-name x small)
short-item (of_step x r) small = simp length-append (omega (arith, short-name x small.0, short-reason r small.1))
short-item (of_reply r) small = short-reply r small

-- A LONG LINE is no item's
pub long-no_item : (line : List ℕ) → 120 < length line → IsNoItem line
long-no_item line long i small e = omega (arith, short-item i small, ap (λ (bs : List ℕ). length bs) e)

-- How lines begin

reply-begins : (r : Reply) (b : ℕ) (bytes : List ℕ) → b ∷ bytes ≡ text_of_reply r → (b ≡ 61) ⊎ (b ≡ 33)
reply-begins (Named x) b bytes e = inl (cc)
reply-begins (Census n) b bytes e = inl (cc)
reply-begins Nothing b bytes e = inl (cc)
reply-begins Done b bytes e = inl (cc)
reply-begins (Refused Long) b bytes e = inr (cc)
reply-begins (Refused Line) b bytes e = inr (cc)
reply-begins (Refused Empty) b bytes e = inr (cc)
reply-begins (Refused Kind) b bytes e = inr (cc)
reply-begins (Refused Slot) b bytes e = inr (cc)
reply-begins (Refused Full) b bytes e = inr (cc)
reply-begins (Refused NoMemory) b bytes e = inr (cc)

event-begins : (f : Event) (b : ℕ) (bytes : List ℕ) → b ∷ bytes ≡ text_of_event f → b ≡ 45
event-begins (Freed x) b bytes e = cc
event-begins (Unlinked x) b bytes e = cc
event-begins Abandoned b bytes e = cc

reply-some : (r : Reply) → [] ≢ text_of_reply r
reply-some (Named x) e = cc
reply-some (Census n) e = cc
reply-some Nothing e = cc
reply-some Done e = cc
reply-some (Refused Long) e = cc
reply-some (Refused Line) e = cc
reply-some (Refused Empty) e = cc
reply-some (Refused Kind) e = cc
reply-some (Refused Slot) e = cc
reply-some (Refused Full) e = cc
reply-some (Refused NoMemory) e = cc

event-some : (f : Event) → [] ≢ text_of_event f
event-some (Freed x) e = cc
event-some (Unlinked x) e = cc
event-some Abandoned e = cc

-- AN EMPTY LINE is no item's
pub empty-no_item : IsNoItem []
empty-no_item (of_event f) small e = event-some f e
empty-no_item (Listed x) small e = cc
empty-no_item (of_step x r) small e = cc
empty-no_item (of_reply r) small e = reply-some r e

marked-no_item : (b : ℕ) (bytes : List ℕ) → b ≢ 61 → b ≢ 33 → b ≢ 43 → b ≢ 58 → ((f : Event) → IsNumberedIn f → b ∷ bytes ≢ text_of_event f) → IsNoItem (b ∷ bytes)
marked-no_item b bytes n61 n33 n43 n58 none (of_event f) small e = none f small e
marked-no_item b bytes n61 n33 n43 n58 none (Listed x) small e = n43 (cc)
marked-no_item b bytes n61 n33 n43 n58 none (of_step x r) small e = n58 (cc)
marked-no_item b bytes n61 n33 n43 n58 none (of_reply r) small e = ⊎_elim n61 n33 (reply-begins r b bytes e)

-- A LINE IS NO ITEM'S that begins as none does, or as an event and tells none
pub other-no_item : (line : List ℕ) (mark : ℕ) → 0 < length line → mark ≡ get_or line 0 0 → mark ≢ 61 → mark ≢ 33 → mark ≢ 43 → mark ≢ 58 →
    ((f : Event) → IsNumberedIn f → line ≢ text_of_event f) → IsNoItem line
other-no_item [] mark some is n61 n33 n43 n58 none = absurd (omega arith)
other-no_item (b ∷ bytes) mark some is n61 n33 n43 n58 none =
    marked-no_item b bytes (λ e. n61 (is ∙ e)) (λ e. n33 (is ∙ e)) (λ e. n43 (is ∙ e)) (λ e. n58 (is ∙ e)) none

-- an event begins with its mark
pub no_mark-no_event : (line : List ℕ) (mark : ℕ) → mark ≡ get_or line 0 0 → mark ≢ 45 → (f : Event) → IsNumberedIn f → line ≢ text_of_event f
no_mark-no_event [] mark is n f small e = event-some f e
no_mark-no_event (b ∷ bytes) mark is n f small e = n (is ∙ event-begins f b bytes e)
