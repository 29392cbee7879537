use Rattle.std.proofs.Common.{arith}
use Rattle.filling.proofs.Worklists.{listed_add}
use Rattle.filling.proofs.worklist.Worklist.add.Goals as goal

pub returns : goal.returns
returns c = rw c.from.ensures (listed_add c.args.self.now.blocks c.args.row (omega arith))
