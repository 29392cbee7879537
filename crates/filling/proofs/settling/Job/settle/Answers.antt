use Rattle.std.proofs.Common.{arith}
use Rattle.filling.proofs.Sets.{weight_bound}
use Rattle.filling.proofs.Stays.{clean_first}
use Rattle.filling.proofs.settling.Job.settle.Goals as goal

pub loop-worklist-init : goal.loop-worklist-init
loop-worklist-init g c = record {
  between = c.requires.between;
  clean = clean_first (g.O.Order.meaning c.args.self.now.order.now) (g.met.O.Order.lawful c.args.self.now.order.now) c.args.self.now.words.now c.args.self.now.given.now c.args.rows.now _ c.requires.between c.requires.first c.of_first-worklist.ensures;
}

pub loop-worklist-smaller : goal.loop-worklist-smaller
loop-worklist-smaller g c =
    let up = c.sweep.ensures.raised.more c.loop-worklist-test.true in
    let rank = g.O.Ranked.rank_of c.args.self.now.order.now in
    let small = (g.met.O.Ranked.ranked c.args.self.now.order.now).word_rank in
    let b = weight_bound rank c.sweep.new.rows small in
    let w = c.sweep.ensures.between.whole in
    let v = c.loop-worklist.invariant.between.whole in
    omega arith
