-- The test of a quiet transcript says yes exactly where a transcript is quiet, and the verdict where it is lawful too.
use Rattle.std.proofs.Common.{◌≡◌, ◌↔◌, ℕ, Bool, true, List, [], ◌∷◌, refl}
use Rattle.std.specs.Prelude.{IsTrue}
use Rattle.std.specs.List.{list_all}
use Rattle.cc_lists.specs.Members.{Among, has}
use Rattle.cc_names.specs.Allowance.{Allowance}
use Rattle.cc_names.specs.declared.name.Name.{Name}
use Rattle.cc_names.specs.Names.{same_name}
use Rattle.cc_model.specs.declared.command.Command.TheVariants as command
use Rattle.cc_model.specs.Answers.{Answer}
use Rattle.cc_model.specs.Asks.{Ask, taken, asks_of}
use Rattle.cc_model.specs.Reached.{Reached, reached_names}
use Rattle.cc_model.specs.Lawful.{State, start, next, IsLawful}
use Rattle.cc_model.specs.Quiet.{Row, nothing_yet, after_all, row_after, ListsReached, CensusIsQuiet, IsQuietFrom, IsQuiet}
use Rattle.cc_model.proofs.Reaching.{reached-decided}
use Rattle.cc_worked.specs.Examples.{answers_to, IsQuietRun}
use Rattle.cc_worked.specs.Verdict.{have_same, lists_reached, census_is_quiet, is_lawful, is_quiet_from, is_quiet, verdict, passes_verdict}
use Rattle.cc_worked.proofs.Deciding.{both-decided, has-decided, all-decided}
use Rattle.cc_worked.proofs.LawfulTest.{is_lawful-decided}

-- Whether two lists have the same names is decided.
have_same-decided : (xs ys : List Name) → IsTrue (have_same xs ys) ↔
    (((x : Name) → Among x xs → Among x ys) × ((x : Name) → Among x ys → Among x xs))
have_same-decided xs ys = both-decided (list_all (has same_name ys) xs) (list_all (has same_name xs) ys)
    (all-decided {P = λ x. Among x ys} (has same_name ys) xs (has-decided ys))
    (all-decided {P = λ x. Among x xs} (has same_name xs) ys (has-decided xs))

-- What stands in the list of reached names is reached, and the other way round.
names-reached : (s : State) (x : Name) → Among x (reached_names s.graph) ↔ Reached s.graph x
names-reached s x = (
  (λ m. (reached-decided s.graph x).0 ((has-decided (reached_names s.graph) x).1 m)),
  (λ d. (has-decided (reached_names s.graph) x).0 ((reached-decided s.graph x).1 d)),
)

-- Whether exactly the reached names are listed is decided.
lists_reached-decided : (s : State) → IsTrue (lists_reached s) ↔ ListsReached s
lists_reached-decided s =
    let k = have_same-decided s.listed (reached_names s.graph) in (
      (λ h x. let p = k.0 h in ((λ m. (names-reached s x).0 (p.0 x m)), (λ d. p.1 x ((names-reached s x).1 d)))),
      (λ f. k.1 ((λ x m. (names-reached s x).1 ((f x).0 m)), (λ x m. (f x).1 ((names-reached s x).0 m)))),
    )

-- Whether a census lists them where it must is decided.
census_is_quiet-decided : (row : Row) (s : State) (ask : Ask) → IsTrue (census_is_quiet row s ask) ↔ CensusIsQuiet row s ask
census_is_quiet-decided after_all s (taken command.Census) = lists_reached-decided s
census_is_quiet-decided _ s _ = ((λ h. tt), (λ u. refl))

-- So it is of all censuses from some state on.
is_quiet_from-decided : (row : Row) (s : State) (asks : List Ask) (answers : List Answer) → IsTrue (is_quiet_from row s asks answers) ↔ IsQuietFrom row s asks answers
is_quiet_from-decided row s [] answers = ((λ h. tt), (λ u. refl))
is_quiet_from-decided row s (ask ∷ asks) [] = ((λ h. tt), (λ u. refl))
is_quiet_from-decided row s (ask ∷ asks) (a ∷ answers) =
    both-decided (census_is_quiet row s ask) (is_quiet_from (row_after row ask a) (next s ask a) asks answers)
    (census_is_quiet-decided row s ask) (is_quiet_from-decided (row_after row ask a) (next s ask a) asks answers)

-- WHETHER A TRANSCRIPT IS QUIET IS DECIDED.
pub is_quiet-decided : (limits : Allowance) (asks : List Ask) (answers : List Answer) → IsTrue (is_quiet limits asks answers) ↔ IsQuiet limits asks answers
is_quiet-decided limits asks answers = is_quiet_from-decided nothing_yet (start limits) asks answers

-- THE VERDICT DECIDES both.
pub verdict-decided : (limits : Allowance) (asks : List Ask) (answers : List Answer) →
    IsTrue (verdict limits asks answers) ↔ (IsLawful limits asks answers × IsQuiet limits asks answers)
verdict-decided limits asks answers = both-decided (is_lawful limits asks answers) (is_quiet limits asks answers)
    (is_lawful-decided limits asks answers) (is_quiet-decided limits asks answers)

-- A plain run that passes the verdict is quiet.
pub run-quiet : (allowance : Allowance) (memory : List Bool) (input : List ℕ) → passes_verdict allowance memory input ≡ true → IsQuietRun allowance memory input
run-quiet allowance memory input h = ((verdict-decided allowance (asks_of input) (answers_to allowance memory input)).0 h).1
