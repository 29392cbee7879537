use Rattle.std.proofs.Common.{arith}
use Rattle.filling.proofs.Worklists.{cleared}
use Rattle.filling.proofs.worklist.Worklist.bits_from.Goals as goal

pub returns-then-block-from : goal.returns-then-block-from
returns-then-block-from c = cleared c.args.self.now.blocks c.args.block c.args.from (omega arith)
