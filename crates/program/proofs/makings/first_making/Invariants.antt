use Rattle.std.proofs.Common.{◌≡◌, ◌+◌, drop}
use Rattle.program.specs.Makings.{first_making}
use Rattle.program.proofs.makings.first_making.Given as goal

-- no step before this one makes rows
abbrev pub invariant-loop-at : goal.invariant-loop-at
invariant-loop-at l = first_making l.steps ≡ l.at + first_making (drop l.at l.steps)
