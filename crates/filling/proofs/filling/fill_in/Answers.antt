use Rattle.std.proofs.Common.{◌≡◌, Ok, rules, replicate, ap, ◌∙◌}
use Rattle.filling.specs.Answers.{SettledRows}
use Rattle.filling.proofs.Least.{least_is_one, filled, none_fill}
use Rattle.filling.proofs.Seeding.{legal_read}
use Rattle.filling.proofs.filling.fill_in.Goals as goal

pub returns-in_err-settle_levels-clause-answer : goal.returns-in_err-settle_levels-clause-answer
returns-in_err-settle_levels-clause-answer g c = search rules

pub returns-in_err-settle_levels-clause-one : goal.returns-in_err-settle_levels-clause-one
returns-in_err-settle_levels-clause-one g c = least_is_one (g.O.Order.meaning c.args.order.now) (g.met.O.Order.lawful c.args.order.now) c.args.words.now c.args.given.now

pub returns-then-is_err-clause-answer : goal.returns-then-is_err-clause-answer
returns-then-is_err-clause-answer g c =
    let m = g.O.Order.meaning c.args.order.now in
    let settled : SettledRows m c.args.words.now c.args.given.now c.args.receiving.now c.settle_levels.new.receiving = rw c.in_ok-settle_levels.was at c.settle_levels.ensures.answer in
    none_fill m c.args.words.now c.args.given.now c.args.receiving.now (g.met.O.Order.lawful c.args.order.now) c.settle_levels.new.receiving settled c.zero_out.new.rows
    (c.zero_out.ensures ∙ ap (λ k. replicate k 0) c.settle_levels.auto.receiving)
    (λ accepts.
    let ok = c.judge.ensures.accepts.if (legal_read m (g.met.O.Order.lawful c.args.order.now) c.args.words.now c.args.given.now c.args.receiving.now settled.read, accepts) in
    let v = rw ok at c.is_err.ensures.value in
    absurd (cc))

pub returns-then-is_err-clause-one : goal.returns-then-is_err-clause-one
returns-then-is_err-clause-one g c = least_is_one (g.O.Order.meaning c.args.order.now) (g.met.O.Order.lawful c.args.order.now) c.args.words.now c.args.given.now

pub returns-clause-answer : goal.returns-clause-answer
returns-clause-answer g c =
    let m = g.O.Order.meaning c.args.order.now in
    let settled : SettledRows m c.args.words.now c.args.given.now c.args.receiving.now c.settle_levels.new.receiving = rw c.in_ok-settle_levels.was at c.settle_levels.ensures.answer in
    let ok : c.judge.result ≡ Ok tt = search rules in
    filled m c.args.words.now c.args.given.now c.args.receiving.now (g.met.O.Order.lawful c.args.order.now) c.settle_levels.new.receiving settled (c.judge.ensures.accepts.only_if ok).1

pub returns-clause-one : goal.returns-clause-one
returns-clause-one g c = least_is_one (g.O.Order.meaning c.args.order.now) (g.met.O.Order.lawful c.args.order.now) c.args.words.now c.args.given.now
