use Rattle.std.proofs.Common.{Err, ap, ◌∙◌}
use Rattle.pooling.proofs.Alone.{no_fault, no_flow_fault}
use Rattle.pooling.proofs.checking.check_set.Goals as goal

pub returns-in-Err-Words : goal.returns-in-Err-Words
returns-in-Err-Words g c =
    no_fault (g.O.Order.meaning c.args.order.now) c.args.words.now c.args.rows.now c.requires c.check_rows.result c.in-Err-Words.field-0-0 c.check_rows.ensures (c.in-Err-Words.is ∙ ap Err c.in-Err-Words.field-0-is)

pub returns-in-Err-Flow : goal.returns-in-Err-Flow
returns-in-Err-Flow g c =
    no_flow_fault (g.O.Order.meaning c.args.order.now) c.args.words.now c.args.rows.now c.requires c.check_rows.result c.in-Err-Flow.field-0-0 c.check_rows.ensures (c.in-Err-Flow.is ∙ ap Err c.in-Err-Flow.field-0-is)
