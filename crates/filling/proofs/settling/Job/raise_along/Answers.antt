use Rattle.filling.proofs.Steps.{lists_raised}
use Rattle.filling.proofs.settling.Job.raise_along.Goals as goal

pub returns-then-changed-clause-raises : goal.returns-then-changed-clause-raises
returns-then-changed-clause-raises g c =
    lists_raised (g.O.Order.meaning c.args.self.now.order.now) (g.met.O.Order.lawful c.args.self.now.order.now) _ _ _ _ _ _ _ _ c.if-changed.true c.raise_row-changed.ensures.raises c.add.ensures
