use Rattle.std.proofs.Common.{sym}
use Rattle.levels.proofs.ranked.join_raises.Goals as goal

pub returns : goal.returns
returns g c o a b h k other =
    (g.met.O.Ranked.ranked o).rises a _ ((g.met.O.Order.lawful o).join_left a b h k) (λ e. other (sym e))
