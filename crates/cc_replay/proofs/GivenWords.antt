-- What words that are taken give.
use Rattle.std.proofs.Common.{◌≡◌, ◌∙◌, ◌||◌, ◌≤◌, inl, inr, ℕ, Bool, cond, codes, true, false, not, refl, sym, ap, ap₂, subst, arith, List, [], ◌∷◌, drop, Option, Some, is_some, pos}
use Rattle.std.specs.Prelude.{find, option_and_then, option_map}
use Rattle.std.specs.Option.{IfSome, IsSome, option_map_or}
use Rattle.std.specs.Borrow.{Bor}
use Rattle.std.specs.Box.{box_value}
use Rattle.std.specs.Prelude.{Box, ◌⊎◌, ◌↔◌}
use Rattle.std.proofs.lemmas.Slice.Eq.{bytes_eq-Decides}
use Rattle.std.specs.List.{list_all, list_any}
use Rattle.std.specs.Str.{bytes_eq}
use Rattle.std.specs.Str.Parse.{IsNumeral, digits_value, starts_with_minus, without_leading_plus}
use Rattle.std.proofs.lemmas.Bool.{ne_eqb}
use Rattle.std.proofs.lemmas.Str.Parse.{digit_from_value}
use Rattle.std.proofs.lemmas.Int.{ints}
use Rattle.clap.specs.Facts.{explicit_source}
use Rattle.clap.specs.Lexer.{without_minus}
use Rattle.clap.specs.Words.{found_of, one_text, rows_of, subcommand_name_of, subcommand_rows, subcommand_rows_of}
use Rattle.clap.specs.declared.parser.matches.ArgMatches.TheViews.{out-SubCommand}
use Rattle.clap.specs.declared.parser.matches.SubCommand.{SubCommand}
use Rattle.clap.specs.declared.parser.matches.ArgMatches.{ArgMatches}
use Rattle.clap.specs.Values.{Accepts, IsSignedIn, read_as, reading_of}
use Rattle.clap.specs.Walk.{Row, Rule, Text, answers_to, nothing_held, one_of, rows_after}
use Rattle.clap.specs.Walk
use Rattle.clap.specs.Simple.{App, Shape, argument_words, built, entered, is_simple, label_of, names_of, new_shape, rows_at, subcommand_of}
use Rattle.clap.specs.Faults.{fault_of, is_simple_and_free}
use Rattle.clap.specs.Takes
use Rattle.clap.specs.Takes.{level_passes}
use Rattle.clap.specs.declared.builder.value_parser.ValueParser.{ValueParser}
use Rattle.clap.specs.declared.builder.value_parser.ValueParser.TheVariants as parser
use Rattle.clap.proofs.OnLiterals.{clap_on_literals}
use Rattle.clap.proofs.ValueTestLemmas.{accepts-Accepts}
use Rattle.clap.proofs.WalkLemmas.{both, one_text-rows}
use Rattle.cc_names.specs.Allowance.{Allowance}
use Rattle.cc_replay.specs.declared.words.Request.{Request}
use Rattle.cc_replay.specs.declared.words.Request.TheVariants.{Replay, Make, Check}
use Rattle.cc_replay.specs.Words.{GivesRequest, IsFor, IsNumber, IsTaken, app, bytes_option, count_argument, natives_option, number_argument, number_option, script_argument, scripts_option, seed_argument, text_for}
use Rattle.cc_replay.proofs.FaultFree.{is_sound_level, takes-no_fault}
use Rattle.cc_replay.proofs.OptionRows.{AreOptions, HasText, IsOption, has_default, has_required, level_default, level_required}
use Rattle.cc_lists.proofs.Booleans.{premise-holds}

app_is_simple : is_simple app ≡ true
unfolding clap_on_literals
app_is_simple = refl

pub app_is_free : is_simple_and_free app ≡ true
unfolding clap_on_literals
app_is_free = refl

-- an option as it is built
abbrev built_option : Rule → Rule
built_option a = record a { range = Some (record { start_inclusive = 1; end_inclusive = 1 }) }

-- and an argument at its place
abbrev built_argument : ℕ → Rule → Rule
built_argument place a = record (built_option a) { index = Some place }

-- a subcommand as it is built
abbrev built_command : Text → List Rule → Shape
built_command name rules = record (new_shape name) {
  rules = rules;
  disable_help_flag = true;
  disable_help_subcommand = true;
  is_built = true;
}

abbrev built_replay : Shape
built_replay = built_command (codes "replay") (built_option natives_option ∷ built_option scripts_option ∷ built_option bytes_option ∷ [])

abbrev built_make : Shape
built_make = built_command (codes "make") (built_argument 1 seed_argument ∷ built_argument 2 count_argument ∷ [])

abbrev built_check : Shape
built_check = built_command (codes "check") (built_argument 1 script_argument ∷ built_option natives_option ∷ built_option scripts_option ∷ built_option bytes_option ∷ [])

-- the three subcommands
abbrev built_subcommands : List Shape
built_subcommands = built_replay ∷ built_make ∷ built_check ∷ []

subcommands_are : (built app).subs ≡ built_subcommands
unfolding clap_on_literals
subcommands_are = refl

top_is_sound : is_sound_level (built app).top ≡ true
unfolding clap_on_literals
top_is_sound = refl

each_is_sound : list_all is_sound_level built_subcommands ≡ true
unfolding clap_on_literals
each_is_sound = refl

subs_are_sound : list_all is_sound_level (built app).subs ≡ true
subs_are_sound = ap (list_all is_sound_level) subcommands_are ∙ each_is_sound

pub taken : (words : List Text) → fault_of app words ≡ [] → IsTaken words
taken words e = takes-no_fault app words app_is_simple top_is_sound subs_are_sound e

-- words with which the subcommand s is entered, and which it takes
abbrev Enters : Shape → Option (Text × List Row) → Type 0
Enters s o = (words : List Text) × (o ≡ Some (rows_at s words)) × (level_passes s [] nothing_held words false ≡ true)

-- one of these subcommands is entered, by such words
abbrev EntersOneOf : List Shape → Option (Text × List Row) → Type 0
EntersOneOf [] o = ⊥
EntersOneOf (s ∷ rest) o = Enters s o ⊎ EntersOneOf rest o

-- what a stop at a name and its words enters, and whether it takes them
abbrev at_stop : List Shape → Text × List Text → Option (Text × List Row)
at_stop subs p = option_map (λ x. rows_at x p.1) (find (λ x. answers_to p.0 (label_of x)) subs)

abbrev passes_at_stop : List Shape → Text × List Text → Bool
passes_at_stop subs p = option_map_or (λ x. level_passes x [] nothing_held p.1 false) (find (λ x. answers_to p.0 (label_of x)) subs) true

stopped_in : (subs : List Shape) (p : Text × List Text) → is_some (at_stop subs p) ≡ true → passes_at_stop subs p ≡ true → EntersOneOf subs (at_stop subs p)
stopped_in [] p some e = cc
stopped_in (s ∷ rest) p some e = go (answers_to p.0 (label_of s)) (stopped_in rest p) some e
  where
    found : Bool → Option Shape
    found b = cond b (Some s) (find (λ x. answers_to p.0 (label_of x)) rest)

    go : (b : Bool) → (is_some (at_stop rest p) ≡ true → passes_at_stop rest p ≡ true → EntersOneOf rest (at_stop rest p))
        → is_some (option_map (λ x. rows_at x p.1) (found b)) ≡ true → option_map_or (λ x. level_passes x [] nothing_held p.1 false) (found b) true ≡ true
        → EntersOneOf (s ∷ rest) (option_map (λ x. rows_at x p.1) (found b))
    go true later some e = inl (p.1, refl, e)
    go false later some e = inr (later some e)

entered_is : (a : App) (stop : Option (Text × List Text)) → is_some (entered a stop) ≡ true → Takes.entered_passes a stop ≡ true
    → EntersOneOf a.subs (entered a stop)
entered_is a stop some e = grind (arith, stopped_in)

wants_subcommand : (built app).top.subcommand_required ≡ true
unfolding clap_on_literals
wants_subcommand = refl

-- words that are taken enter one of the subcommands
one_entered : (words : List Text) → IsTaken words → EntersOneOf built_subcommands (subcommand_of app words)
one_entered words e =
    let top = (built app).top in
    let names = names_of (built app) in
    let given = argument_words app words in
    let stop = (Walk.walk top.rules names nothing_held given).stopped in
    let has = is_some (entered (built app) stop) in
    let end = (Walk.walk top.rules names nothing_held given).held in
    let rows = Walk.finished top.rules end in
    let p = both (is_simple app) _ e in
    let l = both (Takes.entered_passes (built app) stop) _ p.1 in
    let a = both (Takes.walk_passes top names (Walk.walk_from nothing_held) given) _ l.1 in
    let b = both (Takes.settle_passes top.rules top.args_override_self end) _ a.1 in
    let c = both (list_all Takes.default_passes top.rules) _ b.1 in
    let d = both (not top.arg_required_else_help || (has || list_any (λ r. explicit_source r.source) rows)) _ c.1 in
    let f = both (not top.subcommand_required || has) _ d.1 in
    subst (λ subs. EntersOneOf subs (subcommand_of app words)) subcommands_are
    (entered_is (built app) stop (premise-holds top.subcommand_required has f.0 wants_subcommand) l.0)

-- the words enter the subcommand that they name
names_one : (name : Text) (s : Shape) (o : Option (Text × List Row)) → Enters s o → option_map (λ p. p.0) o ≡ Some name → s.name ≡ name
names_one name s o enters is = grind arith

other_name : (name other : Text) → bytes_eq name other ≡ false → ¬ (name ≡ other)
other_name name other differ same = let bad : bytes_eq name other ≡ true = (bytes_eq-Decides name other).1 same in cc

-- words that name a subcommand enter no other
not_entered : (name : Text) (s : Shape) (words : List Text) → bytes_eq s.name name ≡ false → Enters s (subcommand_of app words) → ¬ (IsFor name words)
not_entered name s words differ enters is = other_name s.name name differ (names_one name s (subcommand_of app words) enters is)

-- all words for this subcommand that are taken enter this one
abbrev pub EntersFor : Text → Shape → Type 0
EntersFor subcommand s = (words : List Text) → IsTaken words → IsFor subcommand words → Enters s (subcommand_of app words)

replay_entered : EntersFor (codes "replay") built_replay
replay_entered words e is = go (one_entered words e)
  where
    go : EntersOneOf built_subcommands (subcommand_of app words) → Enters built_replay (subcommand_of app words)
    go (inl here) = here
    go (inr (inl make)) = absurd (not_entered (codes "replay") built_make words refl make is)
    go (inr (inr (inl check))) = absurd (not_entered (codes "replay") built_check words refl check is)
    go (inr (inr (inr none))) = absurd none

make_entered : EntersFor (codes "make") built_make
make_entered words e is = go (one_entered words e)
  where
    go : EntersOneOf built_subcommands (subcommand_of app words) → Enters built_make (subcommand_of app words)
    go (inl replay) = absurd (not_entered (codes "make") built_replay words refl replay is)
    go (inr (inl here)) = here
    go (inr (inr (inl check))) = absurd (not_entered (codes "make") built_check words refl check is)
    go (inr (inr (inr none))) = absurd none

check_entered : EntersFor (codes "check") built_check
check_entered words e is = go (one_entered words e)
  where
    go : EntersOneOf built_subcommands (subcommand_of app words) → Enters built_check (subcommand_of app words)
    go (inl replay) = absurd (not_entered (codes "check") built_replay words refl replay is)
    go (inr (inl make)) = absurd (not_entered (codes "check") built_make words refl make is)
    go (inr (inr (inl here))) = here
    go (inr (inr (inr none))) = absurd none

-- ---- the options and the arguments

abbrev reader : ℕ → ValueParser
reader most = parser.Signed (pos 0) (pos most)

abbrev wide_reader : ℕ → ValueParser
wide_reader most = parser.Unsigned 0 most

option_is : (id name default : Text) (q : ValueParser) (most : ℕ) → (bytes_eq name id ≡ true → reader most ≡ q) → IsOption id q (built_option (number_option name most default))
option_is id name default q most same = search

argument_is : (place : ℕ) (id name : Text) (q r : ValueParser) → (bytes_eq name id ≡ true → r ≡ q) → IsOption id q (built_argument place (number_argument name r))
argument_is place id name q r same = search

-- no other option has the name, or else its reader is the same
options_are : (id : Text) (q : ValueParser) → (bytes_eq (codes "natives") id ≡ true → reader 1000000 ≡ q)
    → (bytes_eq (codes "scripts") id ≡ true → reader 1000000 ≡ q) → (bytes_eq (codes "bytes") id ≡ true → reader 4294967295 ≡ q)
    → AreOptions id q built_replay.rules
options_are id q natives scripts bytes = search (option_is)

arguments_are : (id : Text) (q : ValueParser) → (bytes_eq (codes "seed") id ≡ true → wide_reader 18446744073709551615 ≡ q)
    → (bytes_eq (codes "count") id ≡ true → reader 1000000 ≡ q) → AreOptions id q built_make.rules
arguments_are id q seed count = search (argument_is)

check_rules_are : (id : Text) (q : ValueParser) → (bytes_eq (codes "script") id ≡ true → reader 4294967295 ≡ q)
    → (bytes_eq (codes "natives") id ≡ true → reader 1000000 ≡ q) → (bytes_eq (codes "scripts") id ≡ true → reader 1000000 ≡ q)
    → (bytes_eq (codes "bytes") id ≡ true → reader 4294967295 ≡ q) → AreOptions id q built_check.rules
check_rules_are id q script natives scripts bytes = search (argument_is, option_is)

-- ---- a number in a range, by its text

minus_off : (t : Text) → without_minus t ≡ cond (starts_with_minus t) (drop 1 t) t
minus_off t = grind arith

no_plus : (ds : Text) → IsNumeral 10 ds → without_leading_plus ds ≡ ds
no_plus ds h = grind (arith, ne_eqb, digit_from_value)

-- what a getter reads of a text that the reader takes is a number up to `most`
abbrev IsUpTo : ℕ → Text → Type 0
IsUpTo most t = IsNumeral 10 (without_leading_plus t) × (digits_value 10 (without_leading_plus t) ≤ most)

up_to : (most : ℕ) (t : Text) → IsSignedIn (pos 0) (pos most) t → IsUpTo most (without_minus t)
up_to most t h = grind (arith, minus_off, ints, no_plus)

-- what a getter reads of a text that q takes is a number up to `most`
abbrev ReadsUpTo : ℕ → ValueParser → Type 0
ReadsUpTo most q = (t : Text) → Accepts false q t → IsUpTo most (read_as (reading_of q) t)

wide_up_to : (most : ℕ) → ReadsUpTo most (wide_reader most)
wide_up_to most t h = (h.0, h.3)

-- the words give the option or the argument a number up to `most`
abbrev pub HasNumber : Text → ℕ → List Text → Type 0
HasNumber name most words = (n : ℕ) × IsNumber (text_for name words) n × (n ≤ most)

-- all words for this subcommand that are taken give it one
abbrev pub GivesNumber : Text → Text → ℕ → Type 0
GivesNumber subcommand name most = (words : List Text) → IsTaken words → IsFor subcommand words → HasNumber name most words

number_in : (id : Text) (q : ValueParser) (most : ℕ) (s : Shape) (words rest : List Text) → ReadsUpTo most q → subcommand_of app words ≡ Some (rows_at s rest)
    → HasText id q (rows_after s.rules [] rest) → HasNumber id most words
number_in id q most s words rest reads is t =
    let range = reads t.text (accepts-Accepts false q t.text t.accepted) in (
      digits_value 10 (without_leading_plus (read_as (reading_of q) t.text)),
      record {
        text = read_as (reading_of q) t.text;
        is = ap (option_and_then (λ named. one_of id named.1)) is ∙ t.read;
        numeral = range.0;
        value = refl;
      },
      range.1,
    )

-- an option with a default
option_number : (subcommand : Text) (s : Shape) (id : Text) (most : ℕ) → EntersFor subcommand s → AreOptions id (reader most) s.rules
    → has_default id (reader most) s.rules ≡ true → GivesNumber subcommand id most
option_number subcommand s id most entered are default words taken is =
    let enters = entered words taken is in
    number_in id (reader most) most s words enters.0 (up_to most) enters.1 (level_default id (reader most) s enters.0 are default enters.2)

-- an argument that must be given
argument_number : (subcommand : Text) (s : Shape) (id : Text) (q : ValueParser) (most : ℕ) → EntersFor subcommand s → ReadsUpTo most q → AreOptions id q s.rules
    → has_required id q s.rules ≡ true → GivesNumber subcommand id most
argument_number subcommand s id q most entered reads are required words taken is =
    let enters = entered words taken is in
    number_in id q most s words enters.0 reads enters.1 (level_required id q s enters.0 are required enters.2)

pub natives_number : GivesNumber (codes "replay") (codes "natives") 1000000
natives_number = option_number (codes "replay") built_replay (codes "natives") 1000000 replay_entered (options_are _ _ (λ e. refl) (λ e. refl) (λ e. cc)) refl

pub scripts_number : GivesNumber (codes "replay") (codes "scripts") 1000000
scripts_number = option_number (codes "replay") built_replay (codes "scripts") 1000000 replay_entered (options_are _ _ (λ e. refl) (λ e. refl) (λ e. cc)) refl

pub bytes_number : GivesNumber (codes "replay") (codes "bytes") 4294967295
bytes_number = option_number (codes "replay") built_replay (codes "bytes") 4294967295 replay_entered (options_are _ _ (λ e. cc) (λ e. cc) (λ e. refl)) refl

pub seed_number : GivesNumber (codes "make") (codes "seed") 18446744073709551615
seed_number = argument_number (codes "make") built_make (codes "seed") (wide_reader 18446744073709551615) _ make_entered (wide_up_to _) (arguments_are _ _ (λ e. refl) (λ e. cc)) refl

pub count_number : GivesNumber (codes "make") (codes "count") 1000000
count_number = argument_number (codes "make") built_make (codes "count") (reader 1000000) _ make_entered (up_to _) (arguments_are _ _ (λ e. cc) (λ e. refl)) refl

pub check_script_number : GivesNumber (codes "check") (codes "script") 4294967295
check_script_number = argument_number (codes "check") built_check (codes "script") (reader 4294967295) _ check_entered (up_to _)
    (check_rules_are _ _ (λ e. refl) (λ e. cc) (λ e. cc) (λ e. refl)) refl

pub check_natives_number : GivesNumber (codes "check") (codes "natives") 1000000
check_natives_number = option_number (codes "check") built_check (codes "natives") 1000000 check_entered
    (check_rules_are _ _ (λ e. cc) (λ e. refl) (λ e. refl) (λ e. cc)) refl

pub check_scripts_number : GivesNumber (codes "check") (codes "scripts") 1000000
check_scripts_number = option_number (codes "check") built_check (codes "scripts") 1000000 check_entered
    (check_rules_are _ _ (λ e. cc) (λ e. refl) (λ e. refl) (λ e. cc)) refl

pub check_bytes_number : GivesNumber (codes "check") (codes "bytes") 4294967295
check_bytes_number = option_number (codes "check") built_check (codes "bytes") 4294967295 check_entered
    (check_rules_are _ _ (λ e. refl) (λ e. cc) (λ e. cc) (λ e. refl)) refl

-- ---- what the getters read of the matches

-- the rows of the subcommand give the same texts as the words
text_of_rows : (option : Text) (entered : Option (Text × List Row)) (rows : List Row) → option_map (λ p. p.1) entered ≡ Some rows
    → option_and_then (λ named. one_of option named.1) entered ≡ one_of option rows
text_of_rows option entered rows e = grind arith

-- one text is one number
same_number : (given : Option Text) (n m : ℕ) → IsNumber given n → IsNumber given m → n ≡ m
same_number given n m a b = search

-- words are not for two subcommands
not_both : (one other : Text) (words : List Text) → bytes_eq one other ≡ false → IsFor one words → ¬ (IsFor other words)
not_both one other words differ is also = let same : one ≡ other = cc in other_name one other differ same

same_limits : (l m : Allowance) → l.natives ≡ m.natives → l.scripts ≡ m.scripts → l.bytes ≡ m.bytes → l ≡ m
same_limits l m natives scripts bytes = grind arith

-- what the words ask for is one thing alone
pub one_request : (words : List Text) (a b : Request) → GivesRequest words a → GivesRequest words b → a ≡ b
one_request words (Replay l) (Replay m) g h =
    ap Replay (same_limits l m (same_number _ _ _ g.natives h.natives) (same_number _ _ _ g.scripts h.scripts) (same_number _ _ _ g.bytes h.bytes))
one_request words (Make s n) (Make t m) g h = ap₂ Make (same_number _ _ _ g.seed_is h.seed_is) (same_number _ _ _ g.count_is h.count_is)
one_request words (Check s l) (Check t m) g h =
    ap₂ Check (same_number _ _ _ g.script_is h.script_is)
    (same_limits l m (same_number _ _ _ g.natives h.natives) (same_number _ _ _ g.scripts h.scripts) (same_number _ _ _ g.bytes h.bytes))
one_request words (Replay l) (Make t m) g h = absurd (not_both (codes "replay") (codes "make") words refl g.subcommand h.subcommand)
one_request words (Replay l) (Check t m) g h = absurd (not_both (codes "replay") (codes "check") words refl g.subcommand h.subcommand)
one_request words (Make s n) (Replay m) g h = absurd (not_both (codes "make") (codes "replay") words refl g.subcommand h.subcommand)
one_request words (Make s n) (Check t m) g h = absurd (not_both (codes "make") (codes "check") words refl g.subcommand h.subcommand)
one_request words (Check s l) (Replay m) g h = absurd (not_both (codes "check") (codes "replay") words refl g.subcommand h.subcommand)
one_request words (Check s l) (Make t m) g h = absurd (not_both (codes "check") (codes "make") words refl g.subcommand h.subcommand)

-- the name of the subcommand stands beside its rows
name_of_rows : {Z : Type 0} (o : Option (Box SubCommand Z)) → option_map (λ b. (out-SubCommand (box_value b)).name.now) o ≡ option_map (λ p. p.0) (subcommand_rows o)
name_of_rows o = grind arith

module _ (words : List Text) (m : ArgMatches) {subcommand : Text} {sub : Option (Bor ArgMatches)} {named : Bor ArgMatches}
    (rows : subcommand_rows_of m ≡ subcommand_of app words) (met : IsSome sub ↔ (subcommand_name_of m ≡ Some subcommand))
    (found : IfSome sub (λ r. option_map (λ p. p.1) (subcommand_rows_of m) ≡ Some (rows_of (found_of r.now)))) (is : sub ≡ Some named) where
  -- the words are for the subcommand whose matches were found
  pub is_for : IsFor subcommand words
  is_for = ap (option_map (λ p. p.0)) (sym rows) ∙ (sym (name_of_rows _) ∙ met.0 (rw is refl))

  -- what a getter reads for the name is the text for it
  text_read : (name : Text) → text_for name words ≡ one_text (found_of named.now) name
  text_read name = grind (arith, text_of_rows, one_text-rows)

  -- there is a number for it, and room for the number
  pub number_there : (name : Text) (most room : ℕ) → most ≤ room → GivesNumber subcommand name most → IsTaken words
      → (n : ℕ) × IsNumber (one_text (found_of named.now) name) n × (n ≤ room)
  number_there name most room within gives taken = grind (arith, is_for, text_read)

  -- the number that was read is the one that the words give
  pub number_given : (name : Text) {n limit : ℕ} → limit ≡ n → IsNumber (one_text (found_of named.now) name) n → IsNumber (text_for name words) limit
  number_given name {n} same read = rw same (subst (λ given. IsNumber given n) (sym (text_read name)) read)

  -- and is in its range
  pub number_within : (name : Text) (most : ℕ) {n : ℕ} → GivesNumber subcommand name most → IsTaken words → IsNumber (one_text (found_of named.now) name) n → n ≤ most
  number_within name most {n} gives taken read =
      let h = gives words taken is_for in
      let same : n ≡ h.0 = same_number (text_for name words) n h.0 (number_given name refl read) h.1 in
      rw same h.2
