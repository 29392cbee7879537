use Rattle.std.proofs.Common.{◌≡◌, ◌*◌, vec_len}
use Rattle.secrecy.specs.Rows.{columns}
use Rattle.shapes.proofs.Shape.rows.Given as goal

abbrev pub invariant-loop-row : goal.invariant-loop-row
invariant-loop-row l = vec_len l.rows ≡ l.row * columns
