use Rattle.row_layout.specs.Views.{rows_in}
use Rattle.flow.proofs.Joins.{from_last}
use Rattle.flow.proofs.leveling.Leveling.joined_all.Goals as goal

pub returns-in-Some : goal.returns-in-Some
returns-in-Some g c =
    let level = (rows_in c.args.self.now.routine.rows).level c.args.row in
    let known = c.level.ensures in
    let all = c.in-Some.ensures.cases in
    let e = from_last (g.O.Order.meaning c.args.self.now.order.now) level c.in-Some.others.now c.in-Some.last.now in
    cc
