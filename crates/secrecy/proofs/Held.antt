-- Where the rows are right, every level is held.
use Rattle.std.proofs.Common.{◌≡◌, ℕ, ◌+◌, ◌≤◌, true, List, arith}
use Rattle.std.proofs.lemmas.Bool.Decides.{nat_tests}
use Rattle.verdicts.specs.Verdict.{fine, first_of}
use Rattle.verdicts.proofs.Firsts.{and_fine, first_each}
use Rattle.levels.specs.Order.{Meaning, Laws}
use Rattle.secrecy.specs.Rows.{rows_of, cell, IsPlace, level_columns}
use Rattle.secrecy.specs.Rules.{held_rule, shape_rule, row_rule, row_rules}
use Rattle.secrecy.proofs.Columns.{first_of_each, level_column}

pub held_rule_met : (m : Meaning) (n : ℕ) (rows : List ℕ) (row column : ℕ) → held_rule m n rows row column ≡ fine → m.held (cell n rows row column) ≡ true
held_rule_met m n rows row column e = grind arith

module _ (m : Meaning) (n : ℕ) (rows : List ℕ) (right : row_rules m n rows ≡ fine) where
  held_below : (row p : ℕ) → row ≤ n → IsPlace p → m.held (cell n rows row p) ≡ true
  held_below row p l place =
      let codes = (and_fine (first_of (held_rule m n rows row) level_columns) (shape_rule n (rows_of n rows) row) (first_each (row_rule m n rows) (n + 1) right row (omega arith))).0 in
      held_rule_met m n rows row p (first_of_each (held_rule m n rows row) level_columns codes p (grind (arith, nat_tests, level_column p)))

  pub levels_held : Laws m → (row p : ℕ) → m.held ((rows_of n rows).level row p) ≡ true
  levels_held laws row p = grind (arith, nat_tests, held_below row p, laws.zero_held)
