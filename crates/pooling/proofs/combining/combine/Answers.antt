use Rattle.std.proofs.Common.{length, arith}
use Rattle.std.proofs.lemmas.List.FromFn.{fill_by_all}
use Rattle.pooled.specs.Pools.{pooled_at, pool_of}
use Rattle.pooling.proofs.combining.combine.Goals as goal

pub returns : goal.returns
unfolding pool_of
returns g c =
    fill_by_all (pooled_at (g.O.Order.meaning c.args.order.now) c.args.first.now c.args.second.now) c.loop-index.receiving (length c.args.first.now) 0 (omega arith)
    (λ k l. c.loop-index.invariant k (omega arith))
