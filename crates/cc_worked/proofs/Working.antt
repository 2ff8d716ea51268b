-- WHAT WORKS IS LAWFUL AND QUIET.
use Rattle.std.proofs.Common.{ℕ, Bool, List}
use Rattle.cc_names.specs.Allowance.{Allowance}
use Rattle.cc_worked.specs.Examples.{IsLawfulRun, IsQuietRun}
use Rattle.cc_worked.specs.Works.{Works}
use Rattle.cc_worked.proofs.LawfulTest.{run-lawful}
use Rattle.cc_worked.proofs.QuietTest.{run-quiet}

pub works-lawful : {allowance : Allowance} {memory : List Bool} {input output : List ℕ} → Works allowance memory input output →
    IsLawfulRun allowance memory input
works-lawful {allowance} {memory} {input} w = run-lawful allowance memory input w.passes

pub works-quiet : {allowance : Allowance} {memory : List Bool} {input output : List ℕ} → Works allowance memory input output →
    IsQuietRun allowance memory input
works-quiet {allowance} {memory} {input} w = run-quiet allowance memory input w.passes
