use Rattle.std.proofs.Common.{◌≡◌}
use Rattle.secrecy.specs.Rules.{address_rule}
use Rattle.verdicts.specs.Verdict.{first, fine}
use Rattle.row_layout.specs.Views.{rows_in, chip}
use Rattle.judge.proofs.judgement.Judgement.check_addresses.Given as goal

abbrev pub invariant-loop-at : goal.invariant-loop-at
invariant-loop-at g l = first (address_rule (g.O.Order.meaning l.self.order.now) (chip l.self.routine) (rows_in l.self.routine.rows)) l.at ≡ fine
