use Rattle.std.proofs.Common.{◌≡◌, ◌≤◌, drop, length}
use Rattle.verdicts.specs.Verdict.{first, fine}
use Rattle.secrecy.specs.Rules.{return_rule}
use Rattle.row_layout.specs.Views.{rows_in, chip}
use Rattle.judge.proofs.judgement.departure.Departure.check_callers.Given as goal

-- the addresses that are left, whom they call, and nothing wrong with the others
abbrev pub invariant-loop-caller : goal.invariant-loop-caller
invariant-loop-caller g l =
    (goal.iterator-loop-caller g).can_next l.caller-iterator
    × (goal.iterator-loop-caller g).is_finite l.caller-iterator
    × (l.caller-iterator.a.end ≡ length l.self.judgement.now.routine.words.now)
    × (l.caller-iterator.a.start ≤ length l.self.judgement.now.routine.words.now)
    × (l.caller-iterator.b.rest.now ≡ drop l.caller-iterator.a.start l.self.judgement.now.callees)
    × (first (return_rule (g.O.Order.meaning l.self.judgement.now.order.now) (chip l.self.judgement.now.routine) (rows_in l.self.judgement.now.routine.rows) l.self.at l.cycles) l.caller-iterator.a.start ≡ fine)
