use Rattle.std.proofs.Common.{◌≡◌}
use Rattle.secrecy.specs.Rules.{flow_rule}
use Rattle.verdicts.specs.Verdict.{first, fine}
use Rattle.row_layout.specs.Views.{rows_in, chip}
use Rattle.judge.proofs.judgement.departure.Departure.check_unwritten.Given as goal

-- nothing is wrong with the places so far
abbrev pub invariant-loop-place : goal.invariant-loop-place
invariant-loop-place g l = first (flow_rule (g.O.Order.meaning l.self.judgement.now.order.now) (chip l.self.judgement.now.routine) (rows_in l.self.judgement.now.routine.rows) l.self.at l.next) l.place ≡ fine
