-- What is wrong with a line: what is expected there, and what is found. Assumes nothing.
use Rattle.std.specs.Prelude.{ℕ, List, Result}
use Rattle.std.specs.Result.{result_map_both}
use Rattle.routine.specs.declared.faults.Expected.{Expected}
use Rattle.routine.specs.declared.faults.Found.TheVariants as found
use Rattle.routine.specs.declared.faults.Malformed.{Malformed}
use Rattle.routine.specs.declared.keywords.Keyword.{Keyword}
use Rattle.routine.specs.Quotes.{quote_of}

-- the line ends where something is expected
abbrev pub missing : Expected → Malformed
missing expected = record { expected = expected; found = found.EndOfLine }

-- a token stands where something else is expected: it is quoted
abbrev pub wrong : Expected → List ℕ → Malformed
wrong expected token = record { expected = expected; found = found.Token (quote_of token) }

-- a statement stands where something else is expected: its keyword is told
abbrev pub misplaced : Expected → Keyword → Malformed
misplaced expected keyword = record { expected = expected; found = found.Statement keyword }

-- what a token says; where it does not say what is expected, it is quoted
abbrev pub quoting : {X : Type 0} → (List ℕ → Result X Expected) → List ℕ → Result X Malformed
quoting says token = result_map_both (λ x. x) (λ expected. wrong expected token) (says token)
