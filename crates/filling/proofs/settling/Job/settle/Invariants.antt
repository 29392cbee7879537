use Rattle.std.proofs.Common.{◌*◌, ◌-◌, length}
use Rattle.filling.specs.Between.{weight, Between, Clean}
use Rattle.filling.proofs.settling.Job.settle.Given as goal

abbrev pub invariant-loop-worklist : goal.invariant-loop-worklist
invariant-loop-worklist g l =
    let m = g.O.Order.meaning l.self.order.now in
    record {
      between : Between m l.self.words.now l.self.given.now l.rows;
      clean : Clean m l.self.words.now l.self.given.now l.rows l.worklist.blocks;
    }

abbrev pub decreases-loop-worklist : goal.decreases-loop-worklist
decreases-loop-worklist g l = 65536 * length l.rows - weight (g.O.Ranked.rank_of l.self.order.now) l.rows
