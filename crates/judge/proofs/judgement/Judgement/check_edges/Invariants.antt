use Rattle.std.proofs.Common.{◌≡◌}
use Rattle.secrecy.specs.Rules.{edges_from}
use Rattle.verdicts.specs.Verdict.{first, fine}
use Rattle.row_layout.specs.Views.{rows_in, chip}
use Rattle.judge.proofs.judgement.Judgement.check_edges.Given as goal

abbrev pub invariant-loop-at : goal.invariant-loop-at
invariant-loop-at g l = first (λ a. edges_from (g.O.Order.meaning l.self.order.now) (chip l.self.routine) (rows_in l.self.routine.rows) a ((chip l.self.routine).kind a)) l.at ≡ fine
