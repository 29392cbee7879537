use Rattle.std.proofs.Common.{arith}
use Rattle.judge.specs.Faults.{flow_refusal}
use Rattle.judge.proofs.Checks.{stopped}
use Rattle.judge.proofs.judgement.departure.Departure.check_unwritten.Goals as goal

pub returns-in_err-check_place : goal.returns-in_err-check_place
returns-in_err-check_place g c =
    stopped flow_refusal _ _ _ c.loop-place.place _ c.from_residual.ensures.1 c.loop-place.invariant c.in_err-check_place.ensures (omega arith)
