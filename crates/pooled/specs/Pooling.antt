-- What holds of pooling, for any order that keeps the laws and any machine. Assumes nothing.
use Rattle.std.specs.Prelude.{◌≡◌, ℕ, List}
use Rattle.verdicts.specs.Verdict.{fine}
use Rattle.levels.specs.Order.{Meaning, Laws}
use Rattle.machine.specs.Machine.{Machine}
use Rattle.secrecy.specs.Accepted.{Accepts}
use Rattle.pooled.specs.Pools.{pool_of, given_rules, Fit, CellsPooled, LeastOfBoth}
use Rattle.pooled.specs.Sequences.{AnySequence}

-- The pool of two accepted sets with the same given columns is accepted; the pool of two sets is pooled cell by cell, and the least one
-- that lies at or above both; and neither the sequence nor the bracketing of several poolings matters.
pub record PoolingFor (B V W : Type 0) : Type 0 where
  pub accepted : (m : Meaning) → Laws m → (M : Machine B V W) (xs ys : List ℕ) → Accepts m M xs → Accepts m M ys → given_rules M.size xs ys ≡ fine → Accepts m M (pool_of m xs ys)
  pub cells : (m : Meaning) → Laws m → (n : ℕ) (xs ys : List ℕ) → Fit m n xs ys → CellsPooled m n xs ys (pool_of m xs ys)
  pub least : (m : Meaning) → Laws m → (n : ℕ) (xs ys : List ℕ) → Fit m n xs ys → LeastOfBoth m n xs ys (pool_of m xs ys)
  pub sequences : (m : Meaning) → Laws m → (n : ℕ) → AnySequence m n

-- the laws at some fixed types
abbrev pub PoolingStands : Type 0
PoolingStands = PoolingFor (ℕ → ℕ) ℕ ℕ
