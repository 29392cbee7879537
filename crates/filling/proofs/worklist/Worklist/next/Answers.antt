use Rattle.std.proofs.Common.{arith}
use Rattle.filling.proofs.Worklists.{none_in, found}
use Rattle.filling.proofs.worklist.Worklist.next.Goals as goal

pub returns-then-bits-gt0 : goal.returns-then-bits-gt0
returns-then-bits-gt0 c = found c.args.self.now.blocks c.args.from c.loop-block.block c.bits_from-bits.result c.bits_from-bits.ensures c.loop-block.invariant (omega arith) (omega arith) (omega arith)

pub loop-block-preserved : goal.loop-block-preserved
loop-block-preserved c = none_in c.args.self.now.blocks c.args.from c.loop-block.block c.bits_from-bits.result c.bits_from-bits.ensures c.loop-block.invariant (omega arith)
