use Rattle.program.proofs.judging.judge_by_first.Goals as goal

pub returns-in-Table : goal.returns-in-Table
returns-in-Table g c = rw c.in-Table.is c.judge-in-Table.ensures.answer
