-- What a level whose arguments all want one value has for one of them: a text that its parser takes.
use Rattle.std.proofs.Common.{◌≡◌, ◌&&◌, ◌||◌, ◌++◌, ◌≤◌, ℕ, Bool, cond, true, false, not, zero, suc, refl, sym, ap, subst, arith, List, [], ◌∷◌, length, Option, Some, None, nat_le}
use Rattle.std.specs.Prelude.{⊤, slice_get, find, fold}
use Rattle.std.specs.Option.{option_map_or}
use Rattle.std.specs.List.{list_all, list_any}
use Rattle.std.specs.Str.{bytes_eq}
use Rattle.std.proofs.lemmas.Bool.{leb-true, ne_eqb, or_right}
use Rattle.std.proofs.lemmas.Slice.Eq.{bytes_eq-Decides}
use Rattle.clap.specs.Facts.{parser_of_value, unwrap_or_range}
use Rattle.clap.specs.Values.{is_request, read_as, reading_of}
use Rattle.clap.specs.ValueTests.{accepts}
use Rattle.clap.specs.Walk
use Rattle.clap.specs.Walk.{Held, Names, Outcome, Row, Rule, Step, Text, Waiting, Walk, action_of, arg_by_id, arg_by_index, arg_by_long, arg_by_short, at_row, attached_value, default_rows, done, has_row, idle, is_empty, is_pending, more_values, most_values, next, nothing_held, one_of, option, plain, positional, reacted, reading_by, refused, rows_after, settled, subcommand, subcommand_met, takes_several, takes_values, to_positional, trailing, used, value, values_or_missing, waits, walk_from, walked, with_default, with_values, without, word_met}
use Rattle.clap.specs.Simple.{Shape}
use Rattle.clap.specs.Takes
use Rattle.clap.specs.Takes.{default_passes, is_given, level_passes, use_passes, values_pass}
use Rattle.clap.specs.declared.builder.action.ArgAction.TheVariants.{Set}
use Rattle.clap.specs.declared.builder.value_parser.ValueParser.{ValueParser}
use Rattle.clap.specs.declared.builder.value_parser.Reading.{Reading}
use Rattle.clap.specs.declared.parser.matches.ValueSource.{ValueSource}
use Rattle.clap.specs.declared.parser.matches.ValueSource.TheVariants.{CommandLine, DefaultValue}
use Rattle.clap.proofs.WalkLemmas.{both}
use Rattle.cc_lists.proofs.Booleans.{second-passes}

or_later : (t x y : Bool) → (x ≡ true → y ≡ true) → (t || x) ≡ true → (t || y) ≡ true
or_later true x y later e = refl
or_later false x y later e = later e

-- no subcommand lifts what is required
not_lifted : (negates all : Bool) → ((negates && false) || all) ≡ true → all ≡ true
not_lifted false all e = e
not_lifted true all e = e

not_empty : {X : Type 0} (x : X) (xs : List X) → is_empty (x ∷ xs) ≡ false
not_empty x xs = ne_eqb _ _ (λ e. omega arith)

module _ (id : Text) (q : ValueParser) where
  -- an option or an argument that wants a value, and that q reads if it has the id
  pub record IsOption (a : Rule) : Type 0 where
    pub set : action_of a ≡ Set
    pub missing : a.missing ≡ []
    pub least : (unwrap_or_range a.range).start_inclusive ≡ 1
    pub parser : bytes_eq a.id id ≡ true → (a.parser ≡ Some q) × (a.ignore_case ≡ false)

  abbrev pub AreOptions : List Rule → Type 0
  AreOptions [] = ⊤
  AreOptions (a ∷ rest) = IsOption a × AreOptions rest

  abbrev MayBeOption : Option Rule → Type 0
  MayBeOption None = ⊤
  MayBeOption (Some a) = IsOption a

  find_option : (p : Rule → Bool) (c : List Rule) → AreOptions c → MayBeOption (find p c)
  find_option p [] h = tt
  find_option p (a ∷ rest) h = grind (arith, h.0, find_option p rest h.1)

  -- the first value is one that q takes
  abbrev StartsWell : List Text → Type 0
  StartsWell [] = ⊥
  StartsWell (v ∷ vs) = accepts false q v ≡ true

  -- a row of the id starts so, and is read as q says
  abbrev Fits : Row → Type 0
  Fits r = bytes_eq r.id id ≡ true → StartsWell r.values × (r.reading ≡ reading_of q)

  abbrev AllFit : List Row → Type 0
  AllFit [] = ⊤
  AllFit (r ∷ rs) = Fits r × AllFit rs

  append_fit : (xs ys : List Row) → AllFit xs → AllFit ys → AllFit (xs ++ ys)
  append_fit [] ys a b = b
  append_fit (x ∷ xs) ys a b = (a.0, append_fit xs ys a.1 b)

  at_row_fits : (k : Text) (change : Row → List Row) (missing : List Row) → ((r : Row) → Fits r → AllFit (change r)) → AllFit missing
      → (rows : List Row) → AllFit rows → AllFit (at_row k change missing rows)
  at_row_fits k change missing changed new [] all = new
  at_row_fits k change missing changed new (r ∷ rs) all = grind (arith, append_fit, at_row_fits k change missing changed new rs all.1)

  append_starts : (vs more : List Text) → StartsWell vs → StartsWell (vs ++ more)
  append_starts vs more h = grind arith

  with_values_fits : (k : Text) (how : Reading) (s : ValueSource) (vs : List Text) (rows : List Row)
      → (bytes_eq k id ≡ true → StartsWell vs × (how ≡ reading_of q)) → AllFit rows → AllFit (with_values k how s vs rows)
  with_values_fits k how s vs rows new all = grind (arith, at_row_fits, append_starts)

  without_fits : (k : Text) (rows : List Row) → AllFit rows → AllFit (without k rows)
  without_fits k rows all = at_row_fits k (λ _. []) [] (λ r fit. tt) tt rows all

  -- values that pass the option start well
  values_start : (a : Rule) (vs : List Text) → a.parser ≡ Some q → a.ignore_case ≡ false → 1 ≤ length vs → values_pass a vs ≡ true → StartsWell vs
  values_start a vs parser as_written some e = grind (arith, both)

  or_missing : (a : Rule) (vs : List Text) → 1 ≤ length vs → values_or_missing a vs ≡ vs
  or_missing a vs some = grind arith

  used_fits : (again : Bool) (a : Rule) (vs : List Text) (rows : List Row) → IsOption a → use_passes again a vs rows ≡ true → AllFit rows → AllFit (used a vs rows)
  used_fits again a vs rows is e all =
      let range = (unwrap_or_range a.range).start_inclusive in
      let p = both (nat_le range (length vs)) _ e in
      let r = both (nat_le (length vs) (most_values a)) _ p.1 in
      let least : range ≤ length vs = leb-true _ _ p.0 in
      let some : 1 ≤ length vs = subst (λ n. n ≤ length vs) is.least least in
      let set : Takes.action_passes Set again a (values_or_missing a vs) rows ≡ true =
      subst (λ x. Takes.action_passes x again a (values_or_missing a vs) rows ≡ true) is.set r.1 in
      let passes : values_pass a vs ≡ true =
      subst (λ ws. values_pass a ws ≡ true) (or_missing a vs some) (both (not (has_row a.id rows) || again) _ set).1 in
      let new : bytes_eq a.id id ≡ true → StartsWell (values_or_missing a vs) × (reading_by a ≡ reading_of q) =
      λ same. (
        subst StartsWell (sym (or_missing a vs some)) (values_start a vs (is.parser same).0 (is.parser same).1 some passes),
        ap (λ o. reading_of (parser_of_value o)) (is.parser same).0,
      ) in
      subst (λ x. AllFit (Walk.used_as x a.id (reading_by a) (values_or_missing a vs) rows)) (sym is.set)
      (with_values_fits a.id (reading_by a) CommandLine (values_or_missing a vs) (without a.id rows) new (without_fits a.id rows all))

  -- ---- the walk over the words

  settled_fits : (c : List Rule) (again : Bool) (h : Held) → AreOptions c → Takes.settle_passes c again h ≡ true → AllFit h.rows → AllFit (settled c h).rows
  settled_fits c again h are e all = grind (arith, used_fits, find_option)

  reacted_fits : (c : List Rule) (again : Bool) (a : Rule) (vs : List Text) (h : Held) → AreOptions c → IsOption a
      → Takes.react_passes c again a vs h ≡ true → AllFit h.rows → AllFit (reacted c a vs h).rows
  reacted_fits c again a vs h are is e all = grind (arith, both, used_fits, settled_fits)

  option_fits : (c : List Rule) (again : Bool) (a : Rule) (v : Option Text) (h : Held) → AreOptions c → IsOption a
      → Takes.option_passes c again a v h ≡ true → AllFit h.rows → AllFit (Walk.option_met c a v h).0.rows
  option_fits c again a None h are is e all = settled_fits c again h are e all
  option_fits c again a (Some v) h are is e all = reacted_fits c again a (v ∷ []) h are is e all

  long_fits : (c : List Rule) (again : Bool) (o : Option Rule) (v : Option Text) (h : Held) → AreOptions c → MayBeOption o
      → Takes.long_passes c again o v h ≡ true → AllFit h.rows → AllFit (Walk.long_met c o v h).0.rows
  long_fits c again o v h are is e all = grind (arith, option_fits, reacted_fits)

  short_fits : (c : List Rule) (again : Bool) (o : Option Rule) (rest : Text) (h : Held) (met : Held → Held × Outcome) (passes : Held → Bool)
      → AreOptions c → MayBeOption o → ((k : Held) → passes k ≡ true → AllFit k.rows → AllFit (met k).0.rows)
      → Takes.short_passes c again o rest h passes ≡ true → AllFit h.rows → AllFit (Walk.short_met c o rest h met).0.rows
  short_fits c again o rest h met passes are is fits e all = grind (arith, option_fits, both, reacted_fits)

  bundle_step_fits : (c : List Rule) (again : Bool) (o : Option ℕ) (flags : Text) (skip : ℕ) (so_far : Outcome) (h : Held)
      (met : Text → ℕ → Outcome → Held → Held × Outcome) (passes : Text → ℕ → Held → Bool)
      → AreOptions c → ((t : Text) (n : ℕ) (x : Outcome) (k : Held) → passes t n k ≡ true → AllFit k.rows → AllFit (met t n x k).0.rows)
      → Takes.bundle_step_passes c again o flags skip h passes ≡ true → AllFit h.rows → AllFit (Walk.bundle_step c o flags skip so_far h met).0.rows
  bundle_step_fits c again o flags skip so_far h met passes are fits e all = grind (arith, short_fits, find_option)

  bundle_fits : (c : List Rule) (again : Bool) → AreOptions c → (k : ℕ) (flags : Text) (skip : ℕ) (so_far : Outcome) (h : Held)
      → Takes.flags_pass c again k flags skip h ≡ true → AllFit h.rows → AllFit (Walk.bundle_met c k flags skip so_far h).0.rows
  unfolding Walk.bundle_met Takes.flags_pass
  bundle_fits c again are zero flags skip so_far h e all = all
  bundle_fits c again are (suc k) flags skip so_far h e all = grind (arith, bundle_step_fits, bundle_fits c again are k)

  -- a word that is no flag changes no row
  option_word_rows : (o : Option Rule) (name word : Text) (h : Held) → (Walk.option_word o name word h).0.rows ≡ h.rows
  option_word_rows o name word h = grind arith

  plain_word_rows : (c : List Rule) (waiting : Waiting) (word : Text) (h : Held) → (Walk.plain_word c waiting word h).0.rows ≡ h.rows
  plain_word_rows c idle word h = refl
  plain_word_rows c positional word h = refl
  plain_word_rows c (option name) word h = option_word_rows (arg_by_id c name) name word h

  after_flag_rows : (c : List Rule) (waiting : Waiting) (word : Text) (h : Held) (x : Outcome) → (Walk.after_flag c waiting word h x).0.rows ≡ h.rows
  after_flag_rows c waiting word h done = refl
  after_flag_rows c waiting word h (waits name) = refl
  after_flag_rows c waiting word h plain = plain_word_rows c waiting word h
  after_flag_rows c waiting word h refused = plain_word_rows c waiting word h

  flag_word_fits : (c : List Rule) (again : Bool) (waiting : Waiting) (o : Option (Text × Option Text)) (word : Text) (h : Held) → AreOptions c
      → Takes.flag_word_passes c again o word h ≡ true → AllFit h.rows → AllFit (Walk.long_or_other c waiting word o h).0.rows
  flag_word_fits c again waiting o word h are e all = grind (arith, after_flag_rows, long_fits, find_option, plain_word_rows, bundle_fits)

  other_fits : (s : Shape) (o : Option Text) (waiting : Waiting) (position : ℕ) (word : Text) (h : Held) → AreOptions s.rules
      → Takes.other_passes s o word h ≡ true → AllFit h.rows → AllFit (Walk.subcommand_or_other s.rules o waiting position word h).0.rows
  other_fits s o waiting position word h are e all = grind (arith, flag_word_fits)

  word_fits : (s : Shape) (names : Names) (is_trailing : Bool) (waiting : Waiting) (position : ℕ) (word : Text) (h : Held) → AreOptions s.rules
      → Takes.word_passes s names is_trailing waiting word h ≡ true → AllFit h.rows → AllFit (word_met s.rules names is_trailing waiting position word h).0.rows
  word_fits s names true waiting position word h are e all = all
  word_fits s names false waiting position word h are e all = other_fits s (subcommand_met names waiting word) waiting position word h are e all

  positional_fits : (c : List Rule) (again : Bool) (a : Rule) (word : Text) (h : Held) → AreOptions c
      → Takes.positional_passes c again a h ≡ true → AllFit h.rows → AllFit (Walk.positional_held c a word h).rows
  positional_fits c again a word h are e all = grind (arith, settled_fits)

  step_fits : (s : Shape) (w : Walk) (word : Text) (h : Held) (step : Step) → AreOptions s.rules
      → Takes.step_passes s w.position h step ≡ true → AllFit h.rows → AllFit (Walk.after_step s.rules word w h step).held.rows
  step_fits s w word h (next waiting) are e all = all
  step_fits s w word h (trailing position) are e all = all
  step_fits s w word h (subcommand name) are e all = all
  step_fits s w word h value are e all = go (arg_by_index s.rules w.position) e
    where
      go : (o : Option Rule) → option_map_or (λ a. Takes.positional_passes s.rules s.args_override_self a h) o false ≡ true
          → AllFit (to_positional s.rules o word w h).held.rows
      go None e = all
      go (Some a) e = positional_fits s.rules s.args_override_self a word h are e all

  turn_fits : (s : Shape) (names : Names) (w : Walk) (word : Text) → AreOptions s.rules → Takes.turn_passes s names w word ≡ true → AllFit w.held.rows
      → AllFit (walked s.rules names w word).held.rows
  unfolding walked
  turn_fits s names w word are e all = grind (arith, both, step_fits, word_fits)

  walk_fits : (s : Shape) (names : Names) (w : Walk) (words : List Text) → AreOptions s.rules → Takes.walk_passes s names w words ≡ true → AllFit w.held.rows
      → AllFit (fold (walked s.rules names) w words).held.rows
  unfolding Takes.walk_passes
  walk_fits s names w [] are e all = all
  walk_fits s names w (word ∷ rest) are e all =
      let p = both (Takes.turn_passes s names w word) _ e in
      walk_fits s names (walked s.rules names w word) rest are p.1 (turn_fits s names w word are p.0 all)

  -- ---- defaults

  default_fits : (a : Rule) (rows : List Row) → IsOption a → default_passes a ≡ true → AllFit rows → AllFit (with_default rows a)
  default_fits a rows is e all = go (has_row a.id rows)
    where
      given : (vs : List Text) → (is_empty vs || (not (is_request (action_of a)) && values_pass a vs)) ≡ true → AllFit (default_rows a.id (reading_by a) vs rows)
      given [] e = all
      given (v ∷ vs) e =
          with_values_fits a.id (reading_by a) DefaultValue (v ∷ vs) rows
          (λ same. (
            values_start a (v ∷ vs) (is.parser same).0 (is.parser same).1 (omega arith) (both (not (is_request (action_of a))) _ (second-passes _ _ e (not_empty v vs))).1,
            ap (λ o. reading_of (parser_of_value o)) (is.parser same).0,
          )) all

      go : (b : Bool) → AllFit (cond b rows (default_rows a.id (reading_by a) a.defaults rows))
      go true = all
      go false = given a.defaults e

  defaults_fit : (c : List Rule) (rows : List Row) → AreOptions c → list_all default_passes c ≡ true → AllFit rows → AllFit (fold with_default rows c)
  defaults_fit [] rows are e all = all
  defaults_fit (a ∷ rest) rows are e all =
      let p = both (default_passes a) _ e in
      defaults_fit rest (with_default rows a) are.1 p.1 (default_fits a rows are.0 p.0 all)

  -- a row of the id stays
  with_values_keeps : (k : Text) (how : Reading) (s : ValueSource) (vs : List Text) (rows : List Row) → has_row id rows ≡ true
      → has_row id (with_values k how s vs rows) ≡ true
  with_values_keeps k how s vs [] e = cc
  with_values_keeps k how s vs (r ∷ rs) e = grind (arith, or_later, with_values_keeps k how s vs rs)

  default_keeps : (a : Rule) (rows : List Row) → has_row id rows ≡ true → has_row id (with_default rows a) ≡ true
  default_keeps a rows e = grind (arith, with_values_keeps)

  defaults_keep : (c : List Rule) (rows : List Row) → has_row id rows ≡ true → has_row id (fold with_default rows c) ≡ true
  defaults_keep [] rows e = e
  defaults_keep (a ∷ rest) rows e = defaults_keep rest (with_default rows a) (default_keeps a rows e)

  -- an option with a default has a row
  with_values_gives : (k : Text) (how : Reading) (s : ValueSource) (vs : List Text) (rows : List Row) → bytes_eq k id ≡ true → has_row k rows ≡ false
      → has_row id (with_values k how s vs rows) ≡ true
  with_values_gives k how s vs [] same none = rw same refl
  with_values_gives k how s vs (r ∷ rs) same none = grind (arith, or_right, with_values_gives k how s vs rs same)

  default_gives : (a : Rule) (rows : List Row) → bytes_eq a.id id ≡ true → is_empty a.defaults ≡ false → has_row id (with_default rows a) ≡ true
  default_gives a rows same some = grind (arith, bytes_eq-Decides, with_values_gives)

  -- one of the arguments has the id and a default
  abbrev pub has_default : List Rule → Bool
  has_default c = list_any (λ a. bytes_eq a.id id && not (is_empty a.defaults)) c

  defaults_give : (c : List Rule) (rows : List Row) → has_default c ≡ true → has_row id (fold with_default rows c) ≡ true
  defaults_give [] rows e = cc
  defaults_give (a ∷ rest) rows e = go (bytes_eq a.id id) (is_empty a.defaults) refl refl (defaults_give rest (with_default rows a)) e
    where
      go : (same none : Bool) → bytes_eq a.id id ≡ same → is_empty a.defaults ≡ none
          → (has_default rest ≡ true → has_row id (fold with_default (with_default rows a) rest) ≡ true)
          → ((same && not none) || has_default rest) ≡ true → has_row id (fold with_default (with_default rows a) rest) ≡ true
      go false none s n later e = later e
      go true true s n later e = later e
      go true false s n later e = defaults_keep rest (with_default rows a) (default_gives a rows s n)

  -- one of the arguments has the id and must be given
  abbrev pub has_required : List Rule → Bool
  has_required c = list_any (λ a. bytes_eq a.id id && a.required) c

  -- what is given has a row
  given_has : (k : Text) (rows : List Row) → is_given k rows ≡ true → has_row k rows ≡ true
  given_has k [] e = cc
  given_has k (r ∷ rs) e = grind (arith, given_has k rs)

  required_give : (rows : List Row) (c : List Rule) → has_required c ≡ true → list_all (λ a. not a.required || is_given a.id rows) c ≡ true → has_row id rows ≡ true
  required_give rows [] e given = cc
  required_give rows (a ∷ rest) e given =
      let p = both (not a.required || is_given a.id rows) _ given in
      go (bytes_eq a.id id) a.required refl (λ later. required_give rows rest later p.1) p.0 e
    where
      go : (same wanted : Bool) → bytes_eq a.id id ≡ same → (has_required rest ≡ true → has_row id rows ≡ true) → (not wanted || is_given a.id rows) ≡ true
          → ((same && wanted) || has_required rest) ≡ true → has_row id rows ≡ true
      go false wanted s later first e = later e
      go true false s later first e = later e
      go true true s later first e = subst (λ k. has_row k rows ≡ true) ((bytes_eq-Decides a.id id).0 s) (given_has a.id rows first)

  -- ---- what the level has for the id

  -- a text that q takes is what a getter reads of the rows
  pub record HasText (rows : List Row) : Type 0 where
    pub text : Text
    pub read : one_of id rows ≡ Some (read_as (reading_of q) text)
    pub accepted : accepts false q text ≡ true

  text_in : (rows : List Row) → has_row id rows ≡ true → AllFit rows → HasText rows
  text_in [] e all = cc
  text_in (r ∷ rs) e all = go (bytes_eq r.id id) refl (λ later. text_in rs later all.1) e
    where
      first : (vs : List Text) → StartsWell vs → (v : Text) × (slice_get vs 0 ≡ Some v) × (accepts false q v ≡ true)
      first [] h = absurd h
      first (v ∷ vs) h = (v, refl, h)

      go : (b : Bool) → bytes_eq r.id id ≡ b → (has_row id rs ≡ true → HasText rs) → (b || has_row id rs) ≡ true → HasText (r ∷ rs)
      go true same later e =
          let fit = all.0 same in
          let v = first r.values fit.0 in
          record {
            text = v.0;
            read = rw (same, v.1, fit.1) refl;
            accepted = v.2;
          }
      go false same later e =
          let t = later e in
          record {
            text = t.text;
            read = rw same t.read;
            accepted = t.accepted;
          }

  -- the rows of a level that takes the words
  level_fits : (s : Shape) (words : List Text) → AreOptions s.rules → level_passes s [] nothing_held words false ≡ true → AllFit (rows_after s.rules [] words)
  level_fits s words are e = grind (arith, both, walk_fits, defaults_fit, settled_fits)

  -- it has a text for an option with a default
  pub level_default : (s : Shape) (words : List Text) → AreOptions s.rules → has_default s.rules ≡ true → level_passes s [] nothing_held words false ≡ true
      → HasText (rows_after s.rules [] words)
  level_default s words are default e = search (text_in, defaults_give, level_fits)

  -- and for one that must be given
  pub level_required : (s : Shape) (words : List Text) → AreOptions s.rules → has_required s.rules ≡ true → level_passes s [] nothing_held words false ≡ true
      → HasText (rows_after s.rules [] words)
  level_required s words are required e = grind (arith, both, text_in, required_give, not_lifted, level_fits)
