-- What two codes join to. Assumes nothing.
use Rattle.std.specs.Prelude.{ℕ, cond, Ok, Err, Result}
use Rattle.levels.specs.Order.{Meaning}

-- the join of two codes that are held, or the first of them that is not
abbrev pub join_of : Meaning → ℕ → ℕ → Result ℕ ℕ
join_of M a b = cond (M.held a) (cond (M.held b) (Ok (M.join a b)) (Err b)) (Err a)
