-- The law on bytes says that the parts' joins make a 16-bit code.
use Rattle.std.proofs.Common.{arith}
use Rattle.levels.specs.Parts.{top_byte, low_byte}
use Rattle.levels.proofs.pair.PairOrder.join.Goals as goal

pub overflow_add-result : goal.overflow_add-result
overflow_add-result g c =
    let p = g.met.A.Order.lawful c.args.self.now.first in
    let q = g.met.B.Order.lawful c.args.self.now.second in
    omega (arith, c.join.ensures, c.join-then-holds-2.ensures, top_byte _ _ p q c.args.a c.args.b c.ranges.a.fits c.ranges.b.fits, low_byte _ _ p q c.args.a c.args.b)
