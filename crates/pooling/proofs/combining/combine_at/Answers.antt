use Rattle.std.proofs.Common.{◌≡◌, true, ◌∙◌, sym}
use Rattle.joins.specs.Ends.{levels_laws}
use Rattle.pooled.specs.Pools.{is_level}
use Rattle.pooling.proofs.combining.combine_at.Goals as goal

pub returns-then-is_level : goal.returns-then-is_level
returns-then-is_level g c =
    let m = g.O.Order.meaning c.args.order.now in
    let level : is_level c.args.index ≡ true = sym c.is_level.ensures ∙ c.if-is_level.true in
    let neutral : m.join 0 c.args.first ≡ c.args.first = (levels_laws m (g.met.O.Order.lawful c.args.order.now)).neutral c.args.first (c.requires.first level) in
    let joined : c.fold.result ≡ m.join (m.join 0 c.args.first) c.args.second = c.fold.ensures.answer in
    rw level (rw neutral at joined)
