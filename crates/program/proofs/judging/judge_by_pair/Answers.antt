use Rattle.program.proofs.judging.judge_by_pair.Goals as goal

pub returns-in-Table : goal.returns-in-Table
returns-in-Table c = rw c.in-Table.is c.judge_by_first-in-Table.ensures
