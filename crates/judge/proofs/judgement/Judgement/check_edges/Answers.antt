use Rattle.std.proofs.Common.{arith}
use Rattle.judge.specs.Faults.{flow_refusal}
use Rattle.judge.proofs.Checks.{stopped}
use Rattle.judge.proofs.judgement.Judgement.check_edges.Goals as goal

pub returns-in_err-check_edges_from : goal.returns-in_err-check_edges_from
returns-in_err-check_edges_from g c =
    stopped flow_refusal _ _ _ c.loop-at.at _ c.from_residual.ensures.1 c.loop-at.invariant c.in_err-check_edges_from.ensures (omega arith)
