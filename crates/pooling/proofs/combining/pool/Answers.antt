use Rattle.std.proofs.Common.{sym}
use Rattle.pooled.proofs.Trees.{any_sequence}
use Rattle.pooling.proofs.Pools.{first_held, second_held, pooled}
use Rattle.pooling.proofs.combining.pool.Goals as goal

pub returns-in_err-check-clause-sequences : goal.returns-in_err-check-clause-sequences
returns-in_err-check-clause-sequences g c = any_sequence (g.O.Order.meaning c.args.order.now) (g.met.O.Order.lawful c.args.order.now) _

pub combine-requires-clause-first : goal.combine-requires-clause-first
combine-requires-clause-first g c =
    let a = c.args in
    first_held (g.O.Order.meaning a.order.now) (g.met.O.Order.lawful a.order.now) a.words.now a.first.now a.second.now a.receiving.now (sym c.in_ok-check.ensures)

pub combine-requires-clause-second : goal.combine-requires-clause-second
combine-requires-clause-second g c =
    let a = c.args in
    second_held (g.O.Order.meaning a.order.now) (g.met.O.Order.lawful a.order.now) a.words.now a.first.now a.second.now a.receiving.now (sym c.in_ok-check.ensures)

pub returns-clause-pooled : goal.returns-clause-pooled
returns-clause-pooled g c = λ e.
    let a = c.args in
    pooled (g.O.Order.meaning a.order.now) (g.met.O.Order.lawful a.order.now) a.words.now a.first.now a.second.now a.receiving.now (sym c.in_ok-check.ensures) _ c.combine.ensures

pub returns-clause-sequences : goal.returns-clause-sequences
returns-clause-sequences g c = any_sequence (g.O.Order.meaning c.args.order.now) (g.met.O.Order.lawful c.args.order.now) _
