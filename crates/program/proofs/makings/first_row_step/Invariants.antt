use Rattle.std.proofs.Common.{◌≡◌, drop}
use Rattle.program.specs.Makings.{first_row_step}
use Rattle.program.proofs.makings.first_row_step.Given as goal

-- no step before this one makes rows
abbrev pub invariant-loop-step : goal.invariant-loop-step
invariant-loop-step l = first_row_step l.steps ≡ first_row_step (drop l.step-index l.steps)
