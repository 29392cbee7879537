-- A row changed as a hint says makes the way right that was refused. Assumes nothing.
use Rattle.std.proofs.Common.{◌≡◌, ℕ, true, false, ◌==◌, nat_lt, arith}
use Rattle.std.proofs.lemmas.Bool.Decides.{nat_tests}
use Rattle.verdicts.specs.Verdict.{fine}
use Rattle.secrecy.specs.Rows.{Rows}
use Rattle.secrecy.specs.Rules.{outside, time_rule}
use Rattle.explanations.specs.Hints.{hint_of, ends_at, goes_on, comes_before, changed}

module _ (R : Rows) (a b c : ℕ) (apart : (a == b) ≡ false) where
  ends : outside R b ≡ true → time_rule (changed R (ends_at a b c)) a b c ≡ fine
  ends h = grind (arith, nat_tests)

  on : nat_lt c (R.remaining a) ≡ true → time_rule (changed R (goes_on R a b c)) a b c ≡ fine
  on h = grind (arith, nat_tests)

  before : outside R b ≡ false → time_rule (changed R (comes_before R a b c)) a b c ≡ fine
  before h = grind (arith, nat_tests)

  pub hint_right : time_rule (changed R (hint_of R a b c)) a b c ≡ fine
  hint_right = grind (arith, nat_tests, ends, on, before)
