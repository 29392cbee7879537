use Rattle.std.proofs.Common.{drop}
use Rattle.program.specs.Standings.{TasksStand, worse}
use Rattle.program.specs.declared.standing.Standing.{Standing}
use Rattle.program.proofs.tasks.carry_out_all.Given as goal

abbrev pub invariant-loop-task : goal.invariant-loop-task
invariant-loop-task l = (s : Standing) → TasksStand (drop l.task-index l.tasks) s → TasksStand l.tasks (worse l.worst s)
