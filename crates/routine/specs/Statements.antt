-- The statements of a routine file. Assumes nothing.
use Rattle.std.specs.Prelude.{ℕ, List, [], ◌∷◌, Some, None, Ok, Err, vec_items, Option, Result}
use Rattle.std.specs.Result.{result_map_both}
use Rattle.machine.specs.declared.call.Call.TheVariants.{Clear}
use Rattle.orders.specs.Written.{Written, written_of}
use Rattle.routine.specs.declared.faults.Expected.TheVariants as expected
use Rattle.routine.specs.declared.faults.Malformed.{Malformed}
use Rattle.routine.specs.declared.keywords.Keyword.{Keyword}
use Rattle.routine.specs.declared.keywords.Keyword.TheVariants as keyword
use Rattle.routine.specs.declared.rows.Entry.{Entry}
use Rattle.routine.specs.declared.rows.RowName.{RowName}
use Rattle.routine.specs.declared.statements.Statement.{Statement}
use Rattle.routine.specs.declared.statements.Statement.TheVariants as statement
use Rattle.routine.specs.declared.steps.Step.{Step}
use Rattle.routine.specs.declared.steps.Step.TheVariants as steps
use Rattle.routine.specs.Faults.{wrong}
use Rattle.routine.specs.Keywords.{keyword_of}
use Rattle.routine.specs.Operands.{Tokens, Read, no_more, whole, alone, words_of}
use Rattle.routine.specs.Orders.{order_of}
use Rattle.routine.specs.Rows.{row_of}
use Rattle.routine.specs.Steps.{join_in, call_by, put_in, run_in, read_in}

-- what a statement says
pub data Stated : Type 0 where
  words : List ℕ → Stated
  order : Written → Stated
  rows : List ℕ → Stated
  row : RowName → List Entry → Stated
  second : Stated
  step : Step → Stated

-- what the code holds of it
abbrev pub stated_of : Statement → Stated
stated_of (statement.Words numbers) = words (vec_items numbers)
stated_of (statement.Order text) = order (written_of text)
stated_of (statement.Rows numbers) = rows (vec_items numbers)
stated_of (statement.Row name entries) = row name (vec_items entries)
stated_of statement.Second = second
stated_of (statement.Step s) = step s

-- a statement that is a step and nothing more
abbrev pub step_of : Read Step → Result Stated Malformed
step_of reading = result_map_both step (λ m. m) (whole reading)

-- what is said by a keyword and its operands
abbrev pub statement_of : Keyword → Tokens → Result Stated Malformed
statement_of keyword.Words operands = result_map_both words (λ m. m) (words_of operands)
statement_of keyword.Order operands = result_map_both order (λ m. m) (order_of operands)
statement_of keyword.Rows operands = result_map_both rows (λ m. m) (words_of operands)
statement_of keyword.Row operands = result_map_both (λ p. row p.0 p.1) (λ m. m) (row_of operands)
statement_of keyword.Second operands = no_more second operands
statement_of keyword.Judge operands = step_of (alone steps.Judge operands)
statement_of keyword.Fill operands = step_of (alone steps.Fill operands)
statement_of keyword.Pool operands = step_of (alone steps.Pool operands)
statement_of keyword.Remaining operands = step_of (alone steps.Remaining operands)
statement_of keyword.Join operands = step_of (join_in operands)
statement_of keyword.Clear operands = step_of (call_by (alone Clear operands))
statement_of keyword.Put operands = step_of (call_by (put_in operands))
statement_of keyword.Run operands = step_of (call_by (run_in operands))
statement_of keyword.Read operands = step_of (call_by (read_in operands))

-- what is said by a token and its operands, if the token is a keyword
abbrev pub statement_by : Option Keyword → List ℕ → Tokens → Result Stated Malformed
statement_by None token operands = Err (wrong expected.Keyword token)
statement_by (Some name) token operands = statement_of name operands

-- a line has one statement or none
abbrev pub line_of : Tokens → Result (Option Stated) Malformed
line_of [] = Ok None
line_of (token ∷ tokens) = result_map_both (λ s. Some s) (λ m. m) (statement_by (keyword_of token) token tokens)
