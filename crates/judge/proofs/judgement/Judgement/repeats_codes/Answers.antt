use Rattle.std.proofs.Common.{ℕ, ◌-◌, subst}
use Rattle.judge.proofs.Kept.{SameCodes, codes_again}
use Rattle.judge.proofs.judgement.Judgement.repeats_codes.Goals as goal

pub returns-then-row-gt0 : goal.returns-then-row-gt0
returns-then-row-gt0 g c h =
    let routine = c.args.self.now.routine in
    let same = subst (λ (b : ℕ). SameCodes routine (c.from.result - 1) b) c.from-then-row-gt0.ensures (c.same_codes.ensures h) in
    codes_again (g.O.Order.meaning c.args.self.now.order.now) routine.rows.words routine.rows.rows.now (c.args.row - 1) c.args.row (c.requires c.if-row-gt0.true)
    (subst (λ (a : ℕ). SameCodes routine (a - 1) c.args.row) c.from.ensures same)
