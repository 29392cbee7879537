use Rattle.std.proofs.Common.{◌+◌, drop, arith, rules}
use Rattle.std.proofs.lemmas.Grind.{common_steps}
use Rattle.program.specs.declared.standing.Standing.TheVariants.{Accepted}
use Rattle.program.proofs.Worst.{turn, worse_last}
use Rattle.program.proofs.tasks.carry_out_all.Goals as goal

pub loop-task-preserved : goal.loop-task-preserved
loop-task-preserved c =
    let all = c.args.tasks.now in
    let i = c.loop-task.task-index in
    turn all (drop i all) (drop (i + 1) all) c.loop-task.worst c.in_ok-carry_out.field-0 c.or_worse-worst.result c.task-item.result (grind (arith, common_steps)) c.or_worse-worst.ensures (search rules) c.loop-task.invariant

pub returns : goal.returns
returns c =
    let known = c.loop-task.invariant Accepted (grind (arith, common_steps)) in
    rw (worse_last c.loop-task.worst) at known
