-- TRIALS, line by line and at the end.
use Rattle.std.proofs.Common.{◌≡◌, ◌≢◌, ◌↔◌, ℕ, ◌+◌, ◌-◌, ◌<◌, true, false, List, [], ◌∷◌, ◌++◌, length, take, drop, Option, Some, None, is_none, slice_get, zero, suc, refl, sym, ap, ◌∙◌, subst, append_assoc, length-append, arith}
use Rattle.std.proofs.lemmas.Bool.{false≢true, true≢false}
use Rattle.std.proofs.lemmas.List.{take-append-le, take_all}
use Rattle.std.proofs.lemmas.List.Sums.{sum_by-append}
use Rattle.cc_names.specs.Allowance.{Allowance}
use Rattle.cc_model.specs.declared.item.Item.{Item}
use Rattle.cc_model.specs.declared.item.Item.TheVariants.{Event as of_event, Reply as of_reply}
use Rattle.cc_model.specs.Answers.{all_items_of}
use Rattle.cc_model.specs.Asks.{Ask, asks_of}
use Rattle.cc_model.specs.Graph.{empty_graph}
use Rattle.cc_model.specs.Lines.{lines_of}
use Rattle.cc_model.specs.Texts.{words_of}
use Rattle.cc_verdict.specs.Following.{Follows, Place, first_place, lines_of_items}
use Rattle.cc_verdict.specs.GoingOn.{AreInRange, CanGoOn, ListsAll, ListsAllAt, ReadNone}
use Rattle.cc_verdict.specs.Hearing.{Hearing, Hears, ends, comes}
use Rattle.cc_verdict.specs.Parting.{HasParted, IsLawfulSoFar}
use Rattle.cc_verdict.specs.Positions.{Position, GoesOn, reciting, within}
use Rattle.cc_verdict.specs.Verdicts.{IsLawfulTranscript, length_of_lines}
use Rattle.cc_check.specs.declared.cause.Cause.{Cause}
use Rattle.cc_check.specs.declared.parting.Blame.{Blame}
use Rattle.cc_check.specs.declared.heard.Heard.{Heard}
use Rattle.cc_check.specs.declared.heard.Heard.TheVariants.{Text, Long}
use Rattle.cc_check.specs.declared.trial.Trial.{Trial}
use Rattle.cc_check.specs.Standing.{IsHeard, asks_left, position_of}
use Rattle.cc_check.specs.declared.row.Row.TheVariants.{NothingYet}
use Rattle.cc_check.specs.Causes.{IsBlamed, IsCause, IsDeadEnd, IsPart, at_line, behind_line, part_behind, part_here}
use Rattle.cc_check.specs.declared.script.Script.{Script}
use Rattle.cc_check.specs.Judging.{GoesAlong, HasAnswer, IsReadOf}
use Rattle.cc_check.specs.Parted.{IsEarly, PartsFor}
use Rattle.cc_check.specs.Tried.{AnswersScript, IsBlamedIn, IsTried, Tries, bytes_of}
use Rattle.cc_check.proofs.Ahead.{row-can}
use Rattle.cc_check.proofs.Ranges.{left-in_range}
use Rattle.cc_check.proofs.Unread.{ReadNone-left}

-- A LINE THAT GOES ON IS AN ITEM'S
first-item : (items : List Item) (line : List ℕ) (lines : List (List ℕ)) → line ∷ lines ≡ lines_of_items items → (i : Item) × (line ≡ words_of i)
first-item [] line lines e = absurd (cc)
first-item (i ∷ items) line lines e = (i, cc)

follows-item : (p : Place) (asks : List Ask) (line : List ℕ) (lines : List (List ℕ)) → Follows p asks (line ∷ lines) → (i : Item) × (line ≡ words_of i)
follows-item p asks line lines f = first-item (all_items_of f.answers) line lines f.lines_are

recites-item : (items : List Item) (p : Place) (asks : List Ask) (line : List ℕ) (lines rest : List (List ℕ)) → line ∷ lines ≡ lines_of_items items ++ rest → Follows p asks rest →
    (i : Item) × (line ≡ words_of i)
recites-item [] p asks line lines rest e f = follows-item p asks line lines (subst (Follows p asks) (sym e) f)
recites-item (i ∷ items) p asks line lines rest e f = (i, cc)

hears-item : (asks : List Ask) (h : Hearing) (all : List (List ℕ)) (line : List ℕ) (lines : List (List ℕ)) → Hears asks h all → all ≡ line ∷ lines → (i : Item) × (line ≡ words_of i)
hears-item asks h all line lines (ends _ reply first rest is may follows) e = (of_reply reply, (let same : line ≡ first = cc in same ∙ is))
hears-item asks h all line lines (comes _ event first rest is may others) e = (of_event event, (let same : line ≡ first = cc in same ∙ is))

goes_on-item : (p : Position) (asks : List Ask) (line : List ℕ) (lines : List (List ℕ)) → GoesOn p asks (line ∷ lines) → (i : Item) × (line ≡ words_of i)
goes_on-item (reciting items p) asks line lines r = recites-item items p asks line lines r.rest r.lines_are r.follows
goes_on-item (within h) asks line lines r = hears-item asks h (line ∷ lines) line lines r refl

-- no item's line begins with a zero
words-begin : (i : Item) (bytes : List ℕ) → words_of i ≢ 0 ∷ bytes
words-begin i bytes e = grind arith

-- so where all long lines go on alike, none does
long-ends : (p : Position) (asks : List Ask) (line : List ℕ) (lines : List (List ℕ)) → 120 < length line →
    ((other : List ℕ) → 120 < length other → GoesOn p asks (other ∷ lines)) → ⊥
long-ends p asks line lines long all =
    let item = goes_on-item p asks (0 ∷ line) lines (all (0 ∷ line) (omega arith)) in
    words-begin item.0 line (sym item.1)

-- ONE LINE MORE
module _ (limits : Allowance) (script : List ℕ) (lines : List (List ℕ)) (line : List ℕ) (rest : List (List ℕ)) where
  joined : AnswersScript limits script ((lines ++ line ∷ []) ++ rest) → AnswersScript limits script (lines ++ (line ∷ rest))
  joined a = subst (AnswersScript limits script) (append_assoc lines (line ∷ []) rest) a

  parted : AnswersScript limits script (lines ++ (line ∷ rest)) → AnswersScript limits script ((lines ++ line ∷ []) ++ rest)
  parted a = subst (AnswersScript limits script) (sym (append_assoc lines (line ∷ []) rest)) a

-- the bytes of one line more
more-bytes : (lines : List (List ℕ)) (line : List ℕ) → length_of_lines (lines ++ line ∷ []) ≡ length_of_lines lines + (length line + 1)
more-bytes lines line = omega (arith, sum_by-append (λ (l : List ℕ). length l + 1) lines (line ∷ []))

-- they are counted where the transcript can go on behind it
counted-more : (p q : Position) (a b : List Ask) (heard : Heard) (before bytes : ℕ) (lines : List (List ℕ)) (line : List ℕ) (rest : List (List ℕ)) →
    ((l : List ℕ) → IsHeard heard l → GoesOn p a (l ∷ rest) ↔ GoesOn q b rest) → IsHeard heard line → bytes ≡ before + bytes_of heard →
    before ≡ length_of_lines lines → GoesOn p a (line ∷ rest) → bytes ≡ length_of_lines (lines ++ line ∷ [])
counted-more p q a b (Text text) before bytes lines line rest goes is sum was here =
    omega (arith, sum, was, more-bytes lines line, ap (λ (bs : List ℕ). length bs) is)
counted-more p q a b Long before bytes lines line rest goes is sum was here =
    absurd (long-ends p a line rest is (λ other long. (goes other long).1 ((goes line is).0 here)))

-- What a lawful transcript begins with

-- the laws of partings
abbrev pub IsSoFarLaw : Type 0
IsSoFarLaw = (limits : Allowance) (script : List ℕ) (lines rest : List (List ℕ)) → Follows (first_place limits) (asks_of script) (lines ++ rest) → IsLawfulSoFar limits script lines

abbrev pub HasPartedLaw : Type 0
HasPartedLaw = (limits : Allowance) (script : List ℕ) (lines : List (List ℕ)) → ((rest : List (List ℕ)) → ¬ (Follows (first_place limits) (asks_of script) (lines ++ rest))) →
    HasParted limits script lines

-- lines that answer a script follow from its start
answers-follow : (limits : Allowance) (script : List ℕ) (lines : List (List ℕ)) → AnswersScript limits script lines → Follows (first_place limits) (asks_of script) lines
answers-follow limits script lines r = subst (Follows (first_place limits) (asks_of script)) (sym r.lines_are) r.follows

follow-answers : (limits : Allowance) (script : List ℕ) (lines : List (List ℕ)) → Follows (first_place limits) (asks_of script) lines → AnswersScript limits script lines
follow-answers limits script lines f = record { rest = lines; lines_are = refl; follows = f }

more-length : (lines : List (List ℕ)) (line : List ℕ) → length (lines ++ line ∷ []) ≡ length lines + 1
more-length lines line = length-append lines (line ∷ [])

-- Causes

-- what stands before the last line, and the last line
get-front : {X : Type 0} (xs : List X) (y : X) (n : ℕ) → n < length xs → slice_get (xs ++ y ∷ []) n ≡ slice_get xs n
get-front [] y n l = absurd (omega arith)
get-front (x ∷ xs) y zero l = refl
get-front (x ∷ xs) y (suc n) l = get-front xs y n (omega arith)

get-last : {X : Type 0} (xs : List X) (y : X) → slice_get (xs ++ y ∷ []) (length xs) ≡ Some y
get-last [] y = refl
get-last (x ∷ xs) y = get-last xs y

-- where there is no cause, none is told
none-blamed : (limits : Allowance) (script : List ℕ) (lines : List (List ℕ)) (n asked : ℕ) (o : Option Cause) → is_none o ≡ true → IsBlamedIn limits script lines n asked o
none-blamed limits script lines n asked None e = tt
none-blamed limits script lines n asked (Some c) e = absurd (false≢true e)

-- a line more leaves the cause
blamed-more : (limits : Allowance) (script : List ℕ) (lines : List (List ℕ)) (line : List ℕ) (n asked : ℕ) (o : Option Cause) → n < length lines →
    IsBlamedIn limits script lines n asked o → IsBlamedIn limits script (lines ++ line ∷ []) n asked o
blamed-more limits script lines line n asked None l b = tt
blamed-more limits script lines line n asked (Some c) l b = λ other at.
    subst (λ ls. IsBlamed limits script ls other asked c) (sym (take-append-le n lines (line ∷ []) (omega arith)))
    (b other (sym (get-front lines line n l) ∙ at))

-- a cause that is told where the check stands is one of the whole transcript
blamed-there : (limits : Allowance) (script : List ℕ) (lines : List (List ℕ)) (line : List ℕ) (p : Position) (asks left : List Ask) (heard : Heard) (asked : ℕ) (c : Cause) →
    ((rest : List (List ℕ)) → AnswersScript limits script (lines ++ rest) ↔ GoesOn p asks rest) → IsHeard heard line → left ≡ drop asked (asks_of script) → HasAnswer (asks_of script) asked →
    IsPart p asks heard left c → IsBlamed limits script lines line asked c
blamed-there limits script lines line p asks left heard asked c lawful hd is last (part_here q stands cause) = at_line q last
    (λ l rest other. subst (λ left_asks. AnswersScript limits script (lines ++ (l ∷ rest)) ↔ GoesOn q left_asks (l ∷ rest)) is
    ((λ a. (stands l rest other).0 ((lawful (l ∷ rest)).0 a)), (λ g. (lawful (l ∷ rest)).1 ((stands l rest other).1 g))))
    (subst (λ left_asks. IsCause c q left_asks line) is (cause line hd))
blamed-there limits script lines line p asks left heard asked c lawful hd is last (part_behind q goes dead) = behind_line q last
    (λ rest. subst (λ left_asks. AnswersScript limits script ((lines ++ line ∷ []) ++ rest) ↔ GoesOn q left_asks rest) is (
      (λ a. (goes line rest hd).0 ((lawful (line ∷ rest)).0 (joined limits script lines line rest a))),
      (λ g. parted limits script lines line rest ((lawful (line ∷ rest)).1 ((goes line rest hd).1 g))),
    ))
    (subst (λ left_asks. IsDeadEnd c q left_asks) is dead)

-- NOTHING WAS TRIED YET
pub tried-new : (limits : Allowance) (script : List ℕ) (t : Trial) → t.is_lawful ≡ true → t.cause ≡ None → t.lines ≡ 0 → t.bytes ≡ 0 →
    position_of t.judge ≡ reciting [] (first_place limits) → asks_left t.script ≡ asks_of script → t.script.asked ≡ 0 → t.judge.has_read ≡ false → ListsAll (empty_graph limits) [] →
    ((p : Position) (asks : List Ask) → AreInRange asks → ReadNone asks → ListsAllAt p → CanGoOn p asks → (lines : List (List ℕ)) × GoesOn p asks lines) → IsSoFarLaw → IsTried limits script t []
tried-new limits script t is uncaused none bytes stands asks unasked unread all goes law = record {
  lawful = λ e rest. subst (λ (p : Position). AnswersScript limits script rest ↔ GoesOn p (asks_left t.script) rest) (sym stands)
      (subst (λ (a : List Ask). AnswersScript limits script rest ↔ GoesOn (reciting [] (first_place limits)) a rest) (sym asks) ((λ a. a), (λ a. a)));
  counted = λ e rest a. bytes;
  unlawful = λ e rest a. true≢false (sym is ∙ e);
  unread = λ e plain. unread;
  so_far = λ plain. subst (λ n. IsLawfulSoFar limits script (take n [])) (sym none) (law limits script [] (first plain).0 (answers-follow limits script (first plain).0 (first plain).1));
  all = λ e. none;
  parted = λ e. absurd (true≢false (sym is ∙ e));
  asked = λ e. record { left = asks ∙ ap (λ n. drop n (asks_of script)) (sym unasked); last = subst (HasAnswer (asks_of script)) (sym unasked) tt };
  caused = is ∙ sym (ap is_none uncaused);
  blamed = subst (IsBlamedIn limits script [] t.lines t.script.asked) (sym uncaused) tt;
}
  where
    first : ReadNone (asks_of script) → (lines : List (List ℕ)) × GoesOn (reciting [] (first_place limits)) (asks_of script) lines
    first plain = goes (reciting [] (first_place limits)) (asks_of script) (subst AreInRange asks (left-in_range t.script)) plain all
        (row-can (empty_graph limits) [] [] NothingYet (asks_of script) (λ e. cc))

-- A LINE THAT WAS JUDGED, and may come
pub tries-lawful : (t u : Trial) (heard : Heard) → t.is_lawful ≡ true → u.is_lawful ≡ true → u.bytes ≡ t.bytes + bytes_of heard → u.lines ≡ t.lines + 1 →
    u.cause ≡ t.cause → GoesAlong t.script u.script → ((line : List ℕ) (rest : List (List ℕ)) → IsHeard heard line →
    GoesOn (position_of t.judge) (asks_left t.script) (line ∷ rest) ↔ GoesOn (position_of u.judge) (asks_left u.script) rest) →
    (t.judge.has_read ≡ false → ReadNone (asks_left t.script) → u.judge.has_read ≡ false) →
    (u.judge.has_read ≡ false → ReadNone (asks_left u.script) → (lines : List (List ℕ)) × GoesOn (position_of u.judge) (asks_left u.script) lines) → IsSoFarLaw → Tries t u heard
tries-lawful t u heard was now bytes count same along goes reads on law = λ limits script lines line is tried.
    let plain-left = λ (s : Script) (read : IsReadOf s (asks_of script)) (plain : ReadNone (asks_of script)). ReadNone-left s.asked (asks_of script) (asks_left s) read.left plain in
    let unread = λ (plain : ReadNone (asks_of script)). reads (tried.unread was plain) (plain-left t.script (tried.asked was) plain) in
    let after = λ (plain : ReadNone (asks_of script)). on (unread plain) (plain-left u.script (along (asks_of script) (tried.asked was)) plain) in
    let back = λ (rest : List (List ℕ)) (g : GoesOn (position_of u.judge) (asks_left u.script) rest). parted limits script lines line rest ((tried.lawful was (line ∷ rest)).1 ((goes line rest is).1 g)) in
    let whole : take u.lines (lines ++ line ∷ []) ≡ lines ++ line ∷ [] = take_all u.lines (lines ++ line ∷ []) (omega (arith, count, tried.all was, more-length lines line)) in
    record {
      lawful = λ e rest. ((λ a. (goes line rest is).0 ((tried.lawful was (line ∷ rest)).0 (joined limits script lines line rest a))), back rest);
      counted = λ e rest a.
          let b = joined limits script lines line rest a in
          counted-more (position_of t.judge) (position_of u.judge) (asks_left t.script) (asks_left u.script) heard t.bytes u.bytes lines line rest
          (λ l. goes l rest) is bytes (tried.counted was (line ∷ rest) b) ((tried.lawful was (line ∷ rest)).0 b);
      unlawful = λ e. absurd (true≢false (sym now ∙ e));
      unread = λ e plain. unread plain;
      so_far = λ plain. let rest = after plain in
          subst (IsLawfulSoFar limits script) (sym whole) (law limits script (lines ++ line ∷ []) rest.0 (answers-follow limits script ((lines ++ line ∷ []) ++ rest.0) (back rest.0 rest.1)));
      all = λ e. omega (arith, count, tried.all was, more-length lines line);
      parted = λ e. absurd (true≢false (sym now ∙ e));
      asked = λ e. along (asks_of script) (tried.asked was);
      caused = now ∙ (sym was ∙ (tried.caused ∙ ap is_none (sym same)));
      blamed = none-blamed limits script (lines ++ line ∷ []) u.lines u.script.asked u.cause (ap is_none same ∙ (sym tried.caused ∙ was));
    }

-- one that may not
pub tries-parted : (t u : Trial) (heard : Heard) (c : Cause) → t.is_lawful ≡ true → u.is_lawful ≡ false → u.lines ≡ t.lines → u.cause ≡ Some c →
    GoesAlong t.script u.script → IsPart (position_of t.judge) (asks_left t.script) heard (asks_left u.script) c →
    ((line : List ℕ) (rest : List (List ℕ)) → IsHeard heard line → ¬ (GoesOn (position_of t.judge) (asks_left t.script) (line ∷ rest))) → HasPartedLaw → Tries t u heard
tries-parted t u heard c was now count cause along part stops law = λ limits script lines line is tried.
    let front : take u.lines (lines ++ line ∷ []) ≡ take t.lines lines = ap (λ n. take n (lines ++ line ∷ [])) count ∙ take-append-le t.lines lines (line ∷ []) (omega (arith, tried.all was)) in
    let whole : take (u.lines + 1) (lines ++ line ∷ []) ≡ lines ++ line ∷ [] = take_all (u.lines + 1) (lines ++ line ∷ []) (omega (arith, count, tried.all was, more-length lines line)) in
    let none = λ (rest : List (List ℕ)) (a : AnswersScript limits script ((lines ++ line ∷ []) ++ rest)). stops line rest is ((tried.lawful was (line ∷ rest)).0 (joined limits script lines line rest a)) in
    record {
      lawful = λ e. absurd (false≢true (sym now ∙ e));
      counted = λ e. absurd (false≢true (sym now ∙ e));
      unlawful = λ e rest a. none rest a;
      unread = λ e. absurd (false≢true (sym now ∙ e));
      so_far = λ plain. subst (IsLawfulSoFar limits script) (sym front) (tried.so_far plain);
      all = λ e. absurd (false≢true (sym now ∙ e));
      parted = λ e. (
        omega (arith, count, tried.all was, more-length lines line),
        subst (HasParted limits script) (sym whole) (law limits script (lines ++ line ∷ []) (λ rest f. none rest (follow-answers limits script ((lines ++ line ∷ []) ++ rest) f))),
      );
      asked = λ e. absurd (false≢true (sym now ∙ e));
      caused = now ∙ sym (ap is_none cause);
      blamed = subst (IsBlamedIn limits script (lines ++ line ∷ []) u.lines u.script.asked) (sym cause) (λ l at.
          let same : line ≡ l = let read : slice_get (lines ++ line ∷ []) (length lines) ≡ Some line = get-last lines line in
          let here : slice_get (lines ++ line ∷ []) (length lines) ≡ Some l = subst (λ n. slice_get (lines ++ line ∷ []) n ≡ Some l) (count ∙ tried.all was) at in
          let both : Some line ≡ Some l = sym read ∙ here in cc in
          let before : take u.lines (lines ++ line ∷ []) ≡ lines = front ∙ take_all t.lines lines (omega (arith, tried.all was)) in
          subst (λ k. IsBlamed limits script (take u.lines (lines ++ line ∷ [])) k u.script.asked c) same
          (subst (λ ls. IsBlamed limits script ls line u.script.asked c) (sym before)
          (blamed-there limits script lines line (position_of t.judge) (asks_left t.script) (asks_left u.script) heard u.script.asked c
          (tried.lawful was) is (along (asks_of script) (tried.asked was)).left (along (asks_of script) (tried.asked was)).last part)));
    }

-- and one behind that
pub tries-after : (t : Trial) (heard : Heard) → t.is_lawful ≡ false → Tries t t heard
tries-after t heard was = λ limits script lines line is tried.
    let place = tried.parted was in
    record {
      lawful = λ e. absurd (false≢true (sym was ∙ e));
      counted = λ e. absurd (false≢true (sym was ∙ e));
      unlawful = λ e rest a. tried.unlawful was (line ∷ rest) (joined limits script lines line rest a);
      unread = λ e. absurd (false≢true (sym was ∙ e));
      so_far = λ plain. subst (IsLawfulSoFar limits script) (sym (take-append-le t.lines lines (line ∷ []) (omega (arith, place.0)))) (tried.so_far plain);
      all = λ e. absurd (false≢true (sym was ∙ e));
      parted = λ e. (
        omega (arith, place.0, more-length lines line),
        subst (HasParted limits script) (sym (take-append-le (t.lines + 1) lines (line ∷ []) (omega (arith, place.0)))) place.1,
      );
      asked = λ e. absurd (false≢true (sym was ∙ e));
      caused = tried.caused;
      blamed = blamed-more limits script lines line t.lines t.script.asked t.cause place.0 tried.blamed;
    }

-- Where the transcript parts

-- a cause says that the transcript has parted
caused-parted : (limits : Allowance) (script : List ℕ) (t : Trial) (lines : List (List ℕ)) (c : Cause) → t.cause ≡ Some c → IsTried limits script t lines → t.is_lawful ≡ false
caused-parted limits script t lines c e tried = tried.caused ∙ ap is_none e

uncaused-lawful : (limits : Allowance) (script : List ℕ) (t : Trial) (lines : List (List ℕ)) → t.cause ≡ None → IsTried limits script t lines → t.is_lawful ≡ true
uncaused-lawful limits script t lines e tried = tried.caused ∙ ap is_none e

-- the line that is blamed
abbrev pub blame_of : Trial → Cause → Blame
blame_of t c = record { line = t.lines + 1; asked = t.script.asked; cause = c }

pub parts-there : (limits : Allowance) (script : List ℕ) (t : Trial) (lines : List (List ℕ)) (b : Blame) (c : Cause) → t.cause ≡ Some c → blame_of t c ≡ b →
    IsTried limits script t lines → PartsFor limits script lines b
parts-there limits script t lines b c e is tried = subst (PartsFor limits script lines) is (record {
  parts = record {
    first = omega arith;
    within = omega (arith, (tried.parted was).0);
    parts_here = (tried.parted was).1;
    lawful_until = λ plain. subst (λ n. IsLawfulSoFar limits script (take n lines)) before (tried.so_far plain);
  };
  blamed = subst (λ n. (line : List ℕ) → slice_get lines n ≡ Some line → IsBlamed limits script (take n lines) line t.script.asked c) before
      (subst (IsBlamedIn limits script lines t.lines t.script.asked) e tried.blamed);
})
  where
    was : t.is_lawful ≡ false
    was = caused-parted limits script t lines c e tried

    before : t.lines ≡ (t.lines + 1) - 1
    before = omega arith

-- a trial without a cause is as it was after its cause is taken
pub taken-same : (limits : Allowance) (script : List ℕ) (t : Trial) (o : Option Cause) (lines : List (List ℕ)) → t.cause ≡ None → o ≡ None → IsTried limits script t lines →
    IsTried limits script (record t { cause = o }) lines
taken-same limits script t o lines e f tried = subst (λ (k : Option Cause). IsTried limits script (record t { cause = k }) lines) (e ∙ sym f) tried

pub early-there : (limits : Allowance) (script : List ℕ) (t : Trial) (text : List ℕ) → t.cause ≡ None → ¬ (IsLawfulTranscript limits script text) → IsTried limits script t (lines_of text) →
    IsEarly limits script text
early-there limits script t text e none tried = record {
  so_far = λ plain. subst (IsLawfulSoFar limits script) (take_all t.lines (lines_of text) (omega (arith, tried.all (uncaused-lawful limits script t (lines_of text) e tried)))) (tried.so_far plain);
  unlawful = none;
}
