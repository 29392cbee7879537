use Rattle.std.proofs.Common.{◌≡◌, drop}
use Rattle.routine.specs.Stretches.{line_from, line_of}
use Rattle.routine.proofs.stretches.line_of.Given as goal

abbrev pub invariant-loop-stretch : goal.invariant-loop-stretch
invariant-loop-stretch l = line_from l.found (drop l.stretch-index l.stretches) l.index ≡ line_of l.stretches l.index
