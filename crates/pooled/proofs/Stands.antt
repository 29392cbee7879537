-- The theorems on pooling.
use Rattle.std.proofs.Common.{◌≡◌, ℕ, List, ◌∙◌}
use Rattle.verdicts.specs.Verdict.{fine}
use Rattle.levels.specs.Order.{Meaning, Laws}
use Rattle.machine.specs.Machine.{Machine}
use Rattle.secrecy.specs.Rows.{rows_of}
use Rattle.secrecy.specs.Accepted.{Accepts}
use Rattle.pooled.specs.Pools.{pool_of, given_rules}
use Rattle.pooled.specs.Pooling.{PoolingFor}
use Rattle.pooled.proofs.Joined.{joined_accepted}
use Rattle.pooled.proofs.Sets.{same_from, accepted_right, all_held}
use Rattle.pooled.proofs.Cells.{pool_length, pool_joined}
use Rattle.pooled.proofs.Least.{pool_cells, pool_least_of_both}
use Rattle.pooled.proofs.Trees.{any_sequence}

module _ {B V W : Type 0} (m : Meaning) (laws : Laws m) (M : Machine B V W) (xs ys : List ℕ) (x : Accepts m M xs) (y : Accepts m M ys) (given : given_rules M.size xs ys ≡ fine) where
  pub pool_accepted : Accepts m M (pool_of m xs ys)
  pool_accepted = (
    pool_length m xs ys ∙ x.0,
    joined_accepted m laws M (rows_of M.size xs) (rows_of M.size ys) (rows_of M.size (pool_of m xs ys)) (all_held m laws M xs (accepted_right m laws M xs x)) (all_held m laws M ys (accepted_right m laws M ys y))
        (pool_joined m xs ys laws M.size x.0 (same_from M.size xs ys given)) x.1 y.1,
  )

pub pooling : {B V W : Type 0} → PoolingFor B V W
pooling = record { accepted = λ m laws M xs ys x y given. pool_accepted m laws M xs ys x y given; cells = λ m laws n xs ys fit. pool_cells m laws n xs ys fit; least = λ m laws n xs ys fit. pool_least_of_both m laws n xs ys fit; sequences = any_sequence }
