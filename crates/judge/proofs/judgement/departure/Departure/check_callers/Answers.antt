use Rattle.std.proofs.Common.{◌≡◌, ◌+◌, ◌<◌, length, drop, suc, None, sym, arith, drop-cons}
use Rattle.verdicts.specs.Verdict.{fine}
use Rattle.verdicts.proofs.Firsts.{first_more}
use Rattle.secrecy.specs.Rules.{return_rule}
use Rattle.row_layout.specs.Views.{rows_in, chip}
use Rattle.judge.specs.Faults.{flow_refusal}
use Rattle.judge.proofs.Checks.{stopped}
use Rattle.judge.proofs.judgement.departure.Departure.check_callers.Goals as goal

pub loop-caller-preserved : goal.loop-caller-preserved
loop-caller-preserved g c =
    let departure = c.args.self.now in
    let judgement = departure.judgement.now in
    let start = c.loop-caller.caller-iterator.a.start in
    let steps = c.in-Some.ensures.steps in
    let long : start < length judgement.callees = omega (arith, judgement.calls.long, judgement.few) in
    let next = drop-cons judgement.callees start None long in
    let same : c.in-Some.caller ≡ start = omega arith in
    let further : c.next.new.self.a.start ≡ suc start = omega arith in
    let next_start : c.next.new.self.a.start ≡ start + 1 = omega arith in
    let rest : c.next.new.self.b.rest.now ≡ drop (suc start) judgement.callees = cc in
    let met : return_rule (g.O.Order.meaning judgement.order.now) (chip judgement.routine) (rows_in judgement.routine.rows) departure.at c.args.cycles start ≡ fine = rw (sym same) (sym c.in_ok-check_caller.ensures) in
    let on = first_more (return_rule (g.O.Order.meaning judgement.order.now) (chip judgement.routine) (rows_in judgement.routine.rows) departure.at c.args.cycles) start c.loop-caller.invariant.5 met in
    ((tt, tt), tt, (cc), (omega arith), rw further rest, rw next_start on)

pub returns-in_err-check_caller : goal.returns-in_err-check_caller
returns-in_err-check_caller g c =
    let steps = c.in-Some.ensures.steps in
    let same : c.in-Some.caller ≡ c.loop-caller.caller-iterator.a.start = omega arith in
    stopped flow_refusal _ _ _ c.in-Some.caller _ c.from_residual.ensures.1 (rw same c.loop-caller.invariant.5) c.in_err-check_caller.ensures (omega arith)
