-- The judgement of words and rows under an order, and what acceptance means. Assumes nothing.
use Rattle.std.specs.Prelude.{◌≡◌, ℕ, List, length, Ok, Result}
use Rattle.verdicts.specs.Verdict.{Verdict, fine, and_then}
use Rattle.words.specs.Legal.{legal_of}
use Rattle.levels.specs.Order.{Meaning}
use Rattle.avr.specs.Chip.{avr}
use Rattle.secrecy.specs.Rules.{length_rule, row_rules, rules_of}
use Rattle.secrecy.specs.Accepted.{Accepts}
use Rattle.judge.specs.declared.faults.JudgeFault.{JudgeFault}

-- first the words, then all rules of rows: nothing, or the first that is broken
abbrev pub judgement_of : Meaning → List ℕ → List ℕ → Verdict
judgement_of m ws rows = and_then (legal_of ws) (rules_of m (avr ws) rows)

-- first the words, then the rows on their own: their length, and row by row their codes and their shape
abbrev pub alone_of : Meaning → List ℕ → List ℕ → Verdict
alone_of m ws rows = and_then (legal_of ws) (and_then (length_rule (length ws) rows) (row_rules m (length ws) rows))

-- words that make a listing, and rows that are accepted for them
abbrev pub Passes : Meaning → List ℕ → List ℕ → Type 0
Passes m ws rows = (legal_of ws ≡ fine) × Accepts m (avr ws) rows

-- the answer is acceptance if words and rows pass, and only then
pub record Exactly (m : Meaning) (ws rows : List ℕ) (answer : Result (Unit {0}) JudgeFault) : Type 0 where
  pub if : Passes m ws rows → answer ≡ Ok tt
  pub only_if : answer ≡ Ok tt → Passes m ws rows
