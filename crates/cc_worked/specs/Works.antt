-- WHAT A WORKED EXAMPLE SHOWS, all of it by computation.
use Rattle.std.specs.Prelude.{◌≡◌, ℕ, Bool, true, List}
use Rattle.cc_names.specs.Allowance.{Allowance}
use Rattle.cc_model.specs.Run.{plain_text}
use Rattle.cc_worked.specs.Verdict.{passes_verdict}
use Rattle.cc_worked.specs.Audit.{passes_audit}

-- The plain run of the input writes the output, is lawful and quiet by the tests that decide both, and passes the audit
-- after each ask.
pub record Works (allowance : Allowance) (memory : List Bool) (input output : List ℕ) : Type 0 where
  pub writes : plain_text allowance memory input ≡ output
  pub passes : passes_verdict allowance memory input ≡ true
  pub audited : passes_audit allowance memory input ≡ true
