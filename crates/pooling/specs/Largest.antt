-- The largest remaining number. Assumes nothing.
use Rattle.std.specs.Prelude.{◌≡◌, ℕ, ◌≤◌, List, length}
use Rattle.verdicts.specs.Verdict.{Verdict, and_then}
use Rattle.words.specs.Legal.{legal_of}
use Rattle.secrecy.specs.Rows.{Rows}
use Rattle.secrecy.specs.Rules.{length_rule}

-- a number remains in some row of n words or in their finish row, and no more than it remains in any
pub record LargestRemaining (n : ℕ) (R : Rows) (most : ℕ) : Type 0 where
  pub reached : (row : ℕ) × (row ≤ n) × (R.remaining row ≡ most)
  pub bound : (row : ℕ) → row ≤ n → R.remaining row ≤ most

-- what is refused: the words, and rows of another length
abbrev pub count_verdict : List ℕ → List ℕ → Verdict
count_verdict ws rows = and_then (legal_of ws) (length_rule (length ws) rows)
