use Rattle.std.proofs.Common.{ℕ, subst, ◌∙◌, arith}
use Rattle.filling.specs.Between.{SettledTo}
use Rattle.filling.proofs.Steps.{lists_none}
use Rattle.filling.proofs.settling.Job.raise_finish.Goals as goal

pub returns-then-function-eq0-clause-settled : goal.returns-then-function-eq0-clause-settled
returns-then-function-eq0-clause-settled g c = λ z.
    let P : ℕ → Type 0 = λ x. SettledTo (g.O.Order.meaning c.args.self.now.order.now) c.args.self.now.words.now c.args.self.now.given.now c.raise_along.new.rows c.args.departure.now.levels c.args.departure.now.inside c.args.departure.now.pc_level x in
    subst P (c.from.ensures ∙ c.len.ensures) (c.raise_along.ensures.settled (let e = c.from.ensures in let l = c.len.ensures in omega arith))

pub returns-else-function-eq0-clause-raises : goal.returns-else-function-eq0-clause-raises
returns-else-function-eq0-clause-raises g c =
    lists_none (g.O.Order.meaning c.args.self.now.order.now) (g.met.O.Order.lawful c.args.self.now.order.now) _ c.args.self.now.words.now c.args.rows.now c.requires.between.held _ c.args.worklist.now.blocks
