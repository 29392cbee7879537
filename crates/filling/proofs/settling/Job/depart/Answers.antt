use Rattle.std.proofs.Common.{rules}
use Rattle.filling.specs.Between.{Departs}
use Rattle.filling.proofs.Ways.{due_along}
use Rattle.filling.proofs.settling.Job.depart.Goals as goal

pub returns-clause-departs : goal.returns-clause-departs
returns-clause-departs g c = record {
  each = c.levels_after.ensures;
  pc_level = search rules;
}

pub returns-clause-due : goal.returns-clause-due
returns-clause-due g c =
    let m = g.O.Order.meaning c.args.self.now.order.now in
    let ws = c.args.self.now.words.now in
    let d : Departs m ws c.args.self.now.given.now c.args.rows.now c.args.at c.levels_after.result c.join.result = record {
      each = c.levels_after.ensures;
      pc_level = search rules;
    } in
    due_along m (g.met.O.Order.lawful c.args.self.now.order.now) ws c.args.self.now.given.now c.args.rows.now c.requires.between c.args.at c.join.result c.levels_after.result _ c.requires.at d (search rules)
