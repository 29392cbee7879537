use Rattle.std.proofs.Common.{arith}
use Rattle.std.proofs.lemmas.Bool.Decides.{nat_tests}
use Rattle.filling.proofs.Worklists.{none_listed}
use Rattle.filling.proofs.worklist.Worklist.of_first.Goals as goal

pub returns : goal.returns
returns c = λ row. let n = none_listed 17 row in let a = c.add.ensures row in grind (arith, nat_tests)
