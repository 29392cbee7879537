-- What is hidden at the end. Assumes nothing.
use Rattle.std.specs.Prelude.{ℕ, Bool, not}
use Rattle.levels.specs.Order.{Meaning}
use Rattle.secrecy.specs.Rows.{Rows}

-- a place of the finish row, row n, is hidden from an observer of level 0: its level does not flow there
abbrev pub is_hidden : Meaning → Rows → ℕ → ℕ → Bool
is_hidden m R n p = not (m.flows (R.level n p) 0)
