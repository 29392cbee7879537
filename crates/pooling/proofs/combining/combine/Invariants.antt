use Rattle.std.proofs.Common.{◌≡◌, ℕ, ◌<◌, get_or}
use Rattle.pooled.specs.Pools.{pooled_at}
use Rattle.pooling.proofs.combining.combine.Given as goal

-- the numbers before the index are pooled
abbrev pub invariant-loop-index : goal.invariant-loop-index
invariant-loop-index g l = (k : ℕ) → k < l.index → get_or l.receiving k 0 ≡ pooled_at (g.O.Order.meaning l.order) l.first l.second k
