-- WHETHER THE NEXT ANSWER CAN BE GIVEN, told by what is asked next and by the row.
use Rattle.std.proofs.Common.{◌≡◌, Bool, true, false, List, [], ◌∷◌, refl, subst}
use Rattle.std.specs.Prelude.{◌↔◌}
use Rattle.std.proofs.lemmas.Bool.{false≢true, true≢false}
use Rattle.cc_names.specs.declared.name.Name.{Name}
use Rattle.cc_model.specs.declared.command.Command.TheVariants.{Nothing, Why, Census}
use Rattle.cc_model.specs.Asks.{Ask, long, bad, taken}
use Rattle.cc_model.specs.Graph.{Graph}
use Rattle.cc_model.specs.Lawful.{state_of}
use Rattle.cc_model.specs.Quiet.{CensusIsQuiet}
use Rattle.cc_verdict.specs.Following.{Place, place}
use Rattle.cc_verdict.specs.GoingOn.{CanAnswer}
use Rattle.cc_verdict.proofs.Turns.{bad-quiet, heard-quiet, long-quiet, why-quiet}
use Rattle.cc_check.specs.declared.row.Row.{Row}
use Rattle.cc_check.specs.declared.row.Row.TheVariants.{NothingYet, AfterGc, AfterCollect, AfterAll}
use Rattle.cc_check.specs.Judging.{begins_with_census, from_next}
use Rattle.cc_check.specs.Standing.{row_meant}

-- what is no census can be answered
pub no_census-can : (p : Place) (asks : List Ask) → begins_with_census (from_next asks) ≡ false → CanAnswer p asks
no_census-can p [] e = tt
no_census-can p (long ∷ asks) e = long-quiet p.row p.state
no_census-can p (bad ∷ asks) e = bad-quiet p.row p.state
no_census-can p (taken Nothing ∷ asks) e = no_census-can p asks e
no_census-can p (taken Census ∷ asks) e = absurd (true≢false e)
no_census-can p (taken (Why x) ∷ asks) e = why-quiet p.row p.state x
no_census-can p (taken c ∷ asks) e = heard-quiet p.row p.state c refl

-- a census can be where it is quiet
pub census-can : (p : Place) (asks : List Ask) → begins_with_census (from_next asks) ≡ true → CanAnswer p asks ↔ CensusIsQuiet p.row p.state (taken Census)
census-can p [] e = absurd (false≢true e)
census-can p (long ∷ asks) e = absurd (false≢true e)
census-can p (bad ∷ asks) e = absurd (false≢true e)
census-can p (taken Nothing ∷ asks) e = census-can p asks e
census-can p (taken Census ∷ asks) e = ((λ q. q), (λ q. q))
census-can p (taken c ∷ asks) e = absurd (false≢true e)

every-can : (p : Place) (asks : List Ask) → ((ask : Ask) → CensusIsQuiet p.row p.state ask) → CanAnswer p asks
every-can p [] quiet = tt
every-can p (taken Nothing ∷ asks) quiet = every-can p asks quiet
every-can p (ask ∷ asks) quiet = quiet ask

-- where the row is not over, all can be answered
pub row-can : (g : Graph) (names ended : List Name) (row : Row) (asks : List Ask) → ¬ (row ≡ AfterAll) → CanAnswer (place g names ended (row_meant row)) asks
row-can g names ended NothingYet asks n = every-can (place g names ended (row_meant NothingYet)) asks (λ ask. tt)
row-can g names ended AfterGc asks n = every-can (place g names ended (row_meant AfterGc)) asks (λ ask. tt)
row-can g names ended AfterCollect asks n = every-can (place g names ended (row_meant AfterCollect)) asks (λ ask. tt)
row-can g names ended AfterAll asks n = absurd (n refl)

-- what is asked next is quiet where it can be answered
pub can-next : (p : Place) (asks left : List Ask) (ask : Ask) → from_next asks ≡ ask ∷ left → CanAnswer p asks → CensusIsQuiet p.row p.state ask
can-next p [] left ask e can = absurd (cc)
can-next p (taken Nothing ∷ asks) left ask e can = can-next p asks left ask e can
can-next p (a ∷ asks) left ask e can = subst (CensusIsQuiet p.row p.state) (let same : a ≡ ask = cc in same) can

-- where nothing can be answered, all of the row was asked last, and a census is asked next that is not quiet
pub record IsStuck (g : Graph) (names ended : List Name) (row : Row) (asks : List Ask) : Type 0 where
  pub over : row ≡ AfterAll
  pub census : begins_with_census (from_next asks) ≡ true
  pub unquiet : ¬ (CensusIsQuiet (row_meant AfterAll) (state_of g names ended) (taken Census))

pub stuck : (g : Graph) (names ended : List Name) (row : Row) (asks : List Ask) → ¬ (CanAnswer (place g names ended (row_meant row)) asks) → IsStuck g names ended row asks
stuck g names ended NothingYet asks n = absurd (n (row-can g names ended NothingYet asks (λ e. cc)))
stuck g names ended AfterGc asks n = absurd (n (row-can g names ended AfterGc asks (λ e. cc)))
stuck g names ended AfterCollect asks n = absurd (n (row-can g names ended AfterCollect asks (λ e. cc)))
stuck g names ended AfterAll asks n = go (begins_with_census (from_next asks)) refl
  where
    go : (b : Bool) → begins_with_census (from_next asks) ≡ b → IsStuck g names ended AfterAll asks
    go false e = absurd (n (no_census-can (place g names ended (row_meant AfterAll)) asks e))
    go true e = record { over = refl; census = e; unquiet = λ q. n ((census-can (place g names ended (row_meant AfterAll)) asks e).1 q) }
