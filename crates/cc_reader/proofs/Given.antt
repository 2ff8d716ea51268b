-- Lines that were given, and the line that is being read.
use Rattle.std.proofs.Common.{◌≡◌, ◌≢◌, ℕ, ◌≤◌, ◌<◌, true, false, cond, List, [], ◌∷◌, ◌++◌, length, ◌==◌, Option, refl, sym, ap, ◌∙◌, subst, append-nil, inl, inr, ⊎_elim, arith}
use Rattle.std.proofs.Math.Seq.{take-nil}
use Rattle.std.proofs.lemmas.Bool.Decides.{nat_tests}
use Rattle.std.specs.Io.KnownBytes.{IsAtEnd}
use Rattle.cc_lists.proofs.KnownBytes.{Consumes-nil}
use Rattle.cc_outside.specs.Reads.{Reads}
use Rattle.cc_model.specs.Lines.{ended_by, line_after, last_line, lines_of, ended_from, ended_lines_of, rest_from}
use Rattle.cc_reader.specs.Pending.{Pending, nothing_read}
use Rattle.cc_reader.specs.HasRead.{HasRead}
use Rattle.cc_reader.specs.Given.{AreEnded, LastUnended, AreLinesOf, HasGiven, AreAllGiven, IsBroken, IsOver, AreFirst}
use Rattle.cc_reader.specs.Used.{HasUsed, Uses, IsUsedUp, Begins}
use Rattle.cc_reader.proofs.Cutting.{ended_from-append, lines_of-ended, ended_from-byte, rest_from-append, lines_from-ended}
use Rattle.cc_reader.proofs.Using.{used-all}

-- A READER THAT BEGINS has given no line
pub HasGiven-none : (start : Option (List ℕ)) (limit : ℕ) → HasGiven start start (nothing_read limit) []
HasGiven-none start limit = record {
  given = [];
  consumed = Consumes-nil start;
  counted = refl;
  most = omega arith;
  used = [];
  parted = sym (take-nil limit);
  cut = inl (record { going = refl; lines_are = refl; no_rest = refl });
  at_end = λ e. absurd (cc);
}

-- and has not read
pub HasRead-none : (start : Reads) (limit : ℕ) → HasRead start start (nothing_read limit)
HasRead-none start limit = grind arith

-- where the source is at its end no more was taken than the limit
first_end : (start now : Option (List ℕ)) (p : Pending) (lines : List (List ℕ)) (h : HasGiven start now p lines) → p.ended ≡ true → IsAtEnd now × (length h.given ≤ p.limit)
first_end start now p lines h e = let end = h.at_end e in (end.0, omega (arith, h.counted, end.1))

-- the same bytes used
abbrev used_of : (start now : Option (List ℕ)) (p : Pending) (lines : List (List ℕ)) (h : HasGiven start now p lines) → HasUsed start now p h.used
used_of start now p lines h = record {
  given = h.given;
  consumed = h.consumed;
  counted = h.counted;
  most = h.most;
  parted = h.parted;
  at_end = h.at_end;
}

-- lines given, where these bytes were used
given_of : (start now : Option (List ℕ)) (p : Pending) (lines : List (List ℕ)) (used : List ℕ) → HasUsed start now p used → AreLinesOf p lines used → HasGiven start now p lines
given_of start now p lines used h cut = search

-- where no more was taken than the limit and nothing is pending, all that was taken was used
used_of-all : (start now : Option (List ℕ)) (p : Pending) (lines : List (List ℕ)) (h : HasGiven start now p lines) → p.bytes ≡ [] → p.taken ≤ p.limit → h.used ≡ h.given
used_of-all start now p lines h none within = used-all start now p h.used (used_of start now p lines h) none within

-- THE LINES GIVEN are the first ones
pub HasGiven-first : (start now : Option (List ℕ)) (p : Pending) (lines : List (List ℕ)) → HasGiven start now p lines → AreFirst start now p lines
HasGiven-first start now p lines h = record {
  given = h.given;
  consumed = h.consumed;
  counted = h.counted;
  most = omega (arith, h.counted, h.most);
  at_end = first_end start now p lines h;
  first = ⊎_elim
      (λ (w : AreEnded p lines h.used). inl (record {
        going = w.going;
        more = ended_lines_of p.bytes;
        lines_are = ap (λ ls. ls ++ ended_lines_of p.bytes) w.lines_are ∙ ap (λ r. ended_lines_of h.used ++ ended_from r p.bytes) (sym w.no_rest)
            ∙ sym (ended_from-append [] h.used p.bytes) ∙ ap ended_lines_of h.parted;
      }))
      (λ (w : LastUnended p lines h.used). inr (subst (LastUnended p lines) (used_of-all start now p lines h w.nothing_left (h.at_end w.ended).1) w))
      h.cut;
}

is_feed-not : (b : ℕ) → b ≢ 10 → (b == 10) ≡ false
is_feed-not b n = grind (arith, nat_tests)

ended_by-other : (line : List ℕ) (b : ℕ) → b ≢ 10 → ended_by line b ≡ []
ended_by-other line b n = ap (λ t. cond t (line ∷ []) []) (is_feed-not b n)

ended_by-feed : (line : List ℕ) (b : ℕ) → b ≡ 10 → ended_by line b ≡ line ∷ []
ended_by-feed line b e = ap (ended_by line) e

line_after-other : (line : List ℕ) (b : ℕ) → b ≢ 10 → line_after line b ≡ line ++ b ∷ []
line_after-other line b n = ap (λ t. cond t [] (line ++ b ∷ [])) (is_feed-not b n)

line_after-feed : (line : List ℕ) (b : ℕ) → b ≡ 10 → line_after line b ≡ []
line_after-feed line b e = ap (line_after line) e

last_line-some : (line : List ℕ) → line ≢ [] → last_line line ≡ line ∷ []
last_line-some line n = grind arith

-- a line begins
pub Begins-line : (now : Option (List ℕ)) (p : Pending) → (IsUsedUp p → ⊥) → Begins now now p p []
Begins-line now p n = grind arith

-- a byte that is no line feed goes on with the line
pub Begins-byte : (before mid now : Option (List ℕ)) (p q r : Pending) (line : List ℕ) (b : ℕ) → Begins before mid p q line → Uses mid now q r (b ∷ []) → b ≢ 10 →
    Begins before now p r (line ++ b ∷ [])
Begins-byte before mid now p q r line b begun uses e = λ start lines h.
    let k = begun start lines h in
    record {
      used = k.used ++ b ∷ [];
      has_used = uses start k.used k.has_used;
      ended = k.ended ∙ sym (ended_from-byte [] k.used b ∙ ap (λ ls. ended_lines_of k.used ++ ls) (ended_by-other (rest_from [] k.used) b e) ∙ append-nil (ended_lines_of k.used));
      rest = rest_from-append [] k.used (b ∷ []) ∙ ap (λ r. line_after r b) k.rest ∙ line_after-other line b e;
    }

-- a line feed ends the line
pub Begins-ended : (before mid now : Option (List ℕ)) (p q r : Pending) (line : List ℕ) (b : ℕ) → Begins before mid p q line → Uses mid now q r (b ∷ []) → b ≡ 10 → r.ended ≡ false →
    (start : Option (List ℕ)) (lines : List (List ℕ)) → HasGiven start before p lines → HasGiven start now r (lines ++ line ∷ [])
Begins-ended before mid now p q r line b begun uses e going = λ start lines h.
    let k = begun start lines h in
    given_of start now r (lines ++ line ∷ []) (k.used ++ b ∷ []) (uses start k.used k.has_used)
    (inl (record {
      going = going;
      lines_are = ap (λ ls. ls ++ line ∷ []) k.ended ∙ ap (λ ls. ended_lines_of k.used ++ ls) (sym (ap (λ r. ended_by r b) k.rest ∙ ended_by-feed line b e)) ∙ sym (ended_from-byte [] k.used b);
      no_rest = rest_from-append [] k.used (b ∷ []) ∙ line_after-feed (rest_from [] k.used) b e;
    }))

-- the end ends a line that has a byte
pub Begins-last : (before mid now : Option (List ℕ)) (p q r : Pending) (line : List ℕ) → Begins before mid p q line → Uses mid now q r [] → IsUsedUp r → line ≢ [] →
    (start : Option (List ℕ)) (lines : List (List ℕ)) → HasGiven start before p lines → HasGiven start now r (lines ++ line ∷ [])
Begins-last before mid now p q r line begun uses s n = λ start lines h.
    let k = begun start lines h in
    given_of start now r (lines ++ line ∷ []) (k.used ++ []) (uses start k.used k.has_used)
    (inr (record {
      ended = s.1;
      nothing_left = s.0;
      lines_are = ap (λ ls. ls ++ line ∷ []) k.ended ∙ ap (λ ls. ended_lines_of k.used ++ ls) (sym (ap last_line k.rest ∙ last_line-some line n)) ∙ sym (lines_from-ended [] k.used)
          ∙ ap lines_of (sym (append-nil k.used));
      rest = λ none. n (sym k.rest ∙ (ap (rest_from []) (sym (append-nil k.used)) ∙ none));
    }))

-- where all is used and the source at its end, these lines of the bytes used are all
whole_of : (start now : Option (List ℕ)) (p : Pending) (lines : List (List ℕ)) (used : List ℕ) → IsUsedUp p → HasUsed start now p used → lines ≡ lines_of used → AreAllGiven start now p lines
whole_of start now p lines used s h is =
    let e = h.at_end s.1 in
    record {
      given = h.given;
      consumed = h.consumed;
      counted = h.counted;
      ended = s.1;
      at_end = e.0;
      within = omega (arith, h.counted, e.1);
      lines_are = is ∙ ap lines_of (used-all start now p used h s.0 e.1);
    }

-- where all is used and the source at its end, all lines were given
pub whole-spent : (start now : Option (List ℕ)) (p : Pending) (lines : List (List ℕ)) → IsUsedUp p → HasGiven start now p lines → AreAllGiven start now p lines
whole-spent start now p lines s h = whole_of start now p lines h.used s (used_of start now p lines h)
    (⊎_elim (λ (w : AreEnded p lines h.used). w.lines_are ∙ sym (lines_of-ended h.used w.no_rest)) (λ (w : LastUnended p lines h.used). w.lines_are) h.cut)

-- where a line is not begun, and all is used and the source at its end, all lines were given
pub Begins-whole : (before mid now : Option (List ℕ)) (p q r : Pending) → Begins before mid p q [] → Uses mid now q r [] → IsUsedUp r →
    (start : Option (List ℕ)) (lines : List (List ℕ)) → HasGiven start before p lines → AreAllGiven start now r lines
Begins-whole before mid now p q r begun uses s = λ start lines h.
    let k = begun start lines h in
    whole_of start now r lines (k.used ++ []) s (uses start k.used k.has_used)
    (k.ended ∙ (sym (lines_of-ended k.used k.rest) ∙ ap lines_of (sym (append-nil k.used))))

-- at a read that failed
pub Begins-broken : (before mid now : Option (List ℕ)) (p q r : Pending) (line : List ℕ) → Begins before mid p q line → Uses mid now q r [] → r.bytes ≡ [] → r.ended ≡ false → r.taken ≤ r.limit →
    (start : Option (List ℕ)) (lines : List (List ℕ)) → HasGiven start before p lines → IsBroken start now r lines
Begins-broken before mid now p q r line begun uses e f m = λ start lines h.
    let k = begun start lines h in
    let u = uses start k.used k.has_used in
    let all : k.used ++ [] ≡ u.given = used-all start now r (k.used ++ []) u e m in
    record {
      given = u.given;
      consumed = u.consumed;
      counted = u.counted;
      going = f;
      within = omega (arith, u.counted, m);
      lines_are = k.ended ∙ ap ended_lines_of (sym (append-nil k.used) ∙ all);
    }

-- above the limit
pub Begins-over : (before mid now : Option (List ℕ)) (p q r : Pending) (line : List ℕ) → Begins before mid p q line → Uses mid now q r [] → r.bytes ≡ [] → r.ended ≡ false → r.limit < r.taken →
    (start : Option (List ℕ)) (lines : List (List ℕ)) → HasGiven start before p lines → IsOver start now r lines
Begins-over before mid now p q r line begun uses e f m = λ start lines h.
    let k = begun start lines h in
    let u = uses start k.used k.has_used in
    record {
      given = u.given;
      consumed = u.consumed;
      counted = u.counted;
      going = f;
      above = omega (arith, u.counted, u.most, m);
      lines_are = k.ended ∙ ap ended_lines_of (sym (append-nil k.used) ∙ sym (append-nil (k.used ++ [])) ∙ ap (λ bs. (k.used ++ []) ++ bs) (sym e) ∙ u.parted);
    }
