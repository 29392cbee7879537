use Rattle.std.proofs.Common.{◌*◌}
use Rattle.filling.specs.Worklists.{NoneFrom}
use Rattle.filling.proofs.worklist.Worklist.next.Given as goal

-- the blocks so far have no listed row from there on
abbrev pub invariant-loop-block : goal.invariant-loop-block
invariant-loop-block l = NoneFrom l.self.blocks l.from (l.block * 64)
