use Rattle.std.proofs.Common.{arith}
use Rattle.judge.specs.Faults.{flow_refusal}
use Rattle.judge.proofs.Checks.{stopped}
use Rattle.judge.proofs.judgement.Judgement.check_addresses.Goals as goal

pub returns-in_err-check_address : goal.returns-in_err-check_address
returns-in_err-check_address g c =
    stopped flow_refusal _ _ _ c.loop-at.at _ c.from_residual.ensures.1 c.loop-at.invariant c.in_err-check_address.ensures (omega arith)
