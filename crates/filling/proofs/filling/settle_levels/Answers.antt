use Rattle.std.proofs.Common.{length, sym, ap, ◌∙◌}
use Rattle.verdicts.specs.Verdict.{says}
use Rattle.filling.specs.Answers.{filling_refusal}
use Rattle.filling.proofs.Seeding.{seed_between, seed_level}
use Rattle.filling.proofs.Least.{least_settled_is_one}
use Rattle.filling.proofs.filling.settle_levels.Goals as goal

pub settle-requires-clause-between : goal.settle-requires-clause-between
settle-requires-clause-between g c =
    let m = g.O.Order.meaning c.args.order.now in
    let read = sym c.check.ensures.answer ∙ ap (says filling_refusal) c.in_default.is in
    rw c.seed.ensures (seed_between m (g.met.O.Order.lawful c.args.order.now) c.args.words.now c.args.given.now c.args.receiving.now read)

pub returns-in-Err-clause-one : goal.returns-in-Err-clause-one
returns-in-Err-clause-one g c = least_settled_is_one (g.O.Order.meaning c.args.order.now) (g.met.O.Order.lawful c.args.order.now) c.args.words.now c.args.given.now

pub returns-clause-one : goal.returns-clause-one
returns-clause-one g c = least_settled_is_one (g.O.Order.meaning c.args.order.now) (g.met.O.Order.lawful c.args.order.now) c.args.words.now c.args.given.now

pub settle-requires-clause-first : goal.settle-requires-clause-first
settle-requires-clause-first g c = record { others = λ row column l h. rw c.seed.ensures (seed_level (length c.args.words.now) c.args.given.now row column h l) }
