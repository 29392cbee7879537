use Rattle.filling.proofs.Raises.{in_rows, between_raise, raises_row, settled}
use Rattle.filling.proofs.settling.Job.raise_cell.Goals as goal

pub raise-requires : goal.raise-requires
raise-requires g c =
    let m = g.O.Order.meaning c.args.self.now.order.now in
    rw c.index_of.ensures (in_rows m (g.met.O.Order.lawful c.args.self.now.order.now) _ _ _ c.requires.between c.args.row c.args.column c.args.level c.requires.row c.requires.column c.requires.due)

pub returns-clause-between : goal.returns-clause-between
returns-clause-between g c =
    let m = g.O.Order.meaning c.args.self.now.order.now in
    rw (c.raise.ensures.set, c.index_of.ensures)
    (between_raise m (g.met.O.Order.lawful c.args.self.now.order.now) _ _ _ c.requires.between c.args.row c.args.column c.args.level c.requires.row c.requires.column c.requires.due)

pub returns-clause-raises : goal.returns-clause-raises
returns-clause-raises g c =
    let m = g.O.Order.meaning c.args.self.now.order.now in
    rw (c.raise.ensures.set, c.raise.ensures.changed, c.index_of.ensures)
    (raises_row m (g.met.O.Order.lawful c.args.self.now.order.now) _ _ _ c.requires.between c.args.row c.args.column c.args.level c.requires.row c.requires.column c.requires.due _ (g.met.O.Ranked.ranked c.args.self.now.order.now))

pub returns-clause-settled : goal.returns-clause-settled
returns-clause-settled g c =
    let m = g.O.Order.meaning c.args.self.now.order.now in
    rw (c.raise.ensures.set, c.index_of.ensures)
    (settled m (g.met.O.Order.lawful c.args.self.now.order.now) _ _ _ c.requires.between c.args.row c.args.column c.args.level c.requires.row c.requires.column c.requires.due)
