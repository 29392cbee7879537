use Rattle.std.proofs.Common.{arith}
use Rattle.filling.proofs.Worklists.{listed_remove}
use Rattle.filling.proofs.worklist.Worklist.remove.Goals as goal

pub returns : goal.returns
returns c = rw c.from.ensures (listed_remove c.args.self.now.blocks c.args.row (omega arith))
