use Rattle.std.proofs.Common.{rules}
use Rattle.program.proofs.Worst.{accepted, carried}
use Rattle.program.proofs.tasks.finish.Goals as goal

pub returns-in-Ok-clause-carried : goal.returns-in-Ok-clause-carried
returns-in-Ok-clause-carried c = λ zero. carried c.args.check c.in-Ok.worst c.args.tasks.now (search rules) (search rules)

pub returns-in-Ok-clause-accepted : goal.returns-in-Ok-clause-accepted
returns-in-Ok-clause-accepted c = λ check zero. accepted c.args.check c.in-Ok.worst c.args.tasks.now (search rules) check (search rules)
