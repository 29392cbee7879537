use Rattle.std.proofs.Common.{arith}
use Rattle.filling.proofs.Stays.{clean_after, clean_past}
use Rattle.filling.proofs.settling.Job.take.Goals as goal

pub returns-then-row-len-clause-clean : goal.returns-then-row-len-clause-clean
returns-then-row-len-clause-clean g c =
    clean_after (g.O.Order.meaning c.args.self.now.order.now) (g.met.O.Order.lawful c.args.self.now.order.now) c.args.self.now.words.now c.args.self.now.given.now _ _ c.requires.between c.raise_from.ensures.between _ _ _ _ c.args.row _
    c.remove.ensures c.requires.clean c.raise_from.ensures.raises c.raise_from.ensures.settled

pub returns-else-row-len-clause-clean : goal.returns-else-row-len-clause-clean
returns-else-row-len-clause-clean g c =
    clean_past (g.O.Order.meaning c.args.self.now.order.now) (g.met.O.Order.lawful c.args.self.now.order.now) c.args.self.now.words.now c.args.self.now.given.now c.args.rows.now _ _ c.args.row (let l = c.len.ensures in omega arith) c.remove.ensures c.requires.clean
