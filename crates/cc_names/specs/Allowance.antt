-- What limits allow.
use Rattle.std.specs.Prelude.{ℕ}

-- how many natives, and how many plain objects, weak maps and proxies, may ever be made; how many bytes may be read
pub record Allowance : Type 0 where
  pub natives : ℕ
  pub scripts : ℕ
  pub bytes : ℕ
