use Rattle.std.proofs.Common.{◌≡◌, reverse, rules, ◌∙◌}
use Rattle.std.specs.List.{fold}
use Rattle.row_layout.specs.Views.{rows_in}
use Rattle.flow.proofs.Joins.{folded}
use Rattle.flow.proofs.leveling.Leveling.joined.Goals as goal

pub returns : goal.returns
returns g c =
    let m = g.O.Order.meaning c.args.self.now.order.now in
    let level = (rows_in c.args.self.now.routine.rows).level c.args.row in
    let e : c.fold.result ≡ fold (λ a q. m.join (level q) a) c.args.base (reverse c.args.sources.now) = search rules in
    e ∙ folded m level c.args.base c.args.sources.now
