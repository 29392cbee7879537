use Rattle.std.proofs.Common.{◌≡◌, ℕ, ◌*◌, ◌<◌, ◌&&◌, cond, nat_lt, length, get_or}
use Rattle.secrecy.specs.Rows.{columns}
use Rattle.filling.specs.Seeds.{is_read}
use Rattle.filling.proofs.filling.seed.Given as goal

-- the rows so far are read
abbrev pub invariant-loop-row : goal.invariant-loop-row
invariant-loop-row l = (k : ℕ) → k < length l.given → get_or l.receiving k 0 ≡ cond (nat_lt k (l.row * columns) && is_read k) (get_or l.given k 0) 0
