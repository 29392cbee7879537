use Rattle.filling.proofs.Steps.{raises_then, places_kept}
use Rattle.filling.proofs.settling.Job.raise_row.Goals as goal

pub returns-clause-raises : goal.returns-clause-raises
returns-clause-raises g c = raises_then (g.O.Order.meaning c.args.self.now.order.now) (g.met.O.Order.lawful c.args.self.now.order.now) _ _ _ _ _ _ _ c.args.row c.raise_places-places.ensures.raises c.raise_region-region.ensures.raises

pub returns-clause-settled : goal.returns-clause-settled
returns-clause-settled g c = (
  places_kept (g.O.Order.meaning c.args.self.now.order.now) (g.met.O.Order.lawful c.args.self.now.order.now) c.args.self.now.words.now c.args.self.now.given.now _ _ c.raise_region-region.ensures.raises.rises c.args.row _ c.raise_places-places.ensures.settled,
  c.raise_region-region.ensures.settled,
)
