-- WHAT TWO TESTS SAY TOGETHER.
use Rattle.std.proofs.Common.{◌≡◌, Bool, true, false, not, ◌||◌}
use Rattle.std.proofs.lemmas.Bool.{false≢true, true≢false}

-- where one of two tests passes and the first does not, the second does
pub second-passes : (a b : Bool) → (a || b) ≡ true → a ≡ false → b ≡ true
second-passes true b h e = absurd (true≢false e)
second-passes false b h e = h

-- where a test passes only under a premise that holds, it passes
pub premise-holds : (a b : Bool) → (not a || b) ≡ true → a ≡ true → b ≡ true
premise-holds true b h e = h
premise-holds false b h e = absurd (false≢true e)
