use Rattle.std.proofs.Common.{ℕ, ◌≡◌, true, rules, slice_index, length, below_more, arith}
use Rattle.secrecy.specs.Rows.{cell}
use Rattle.filling.proofs.Steps.{raises_none, raises_then, flow_kept}
use Rattle.filling.proofs.settling.Job.raise_places.Goals as goal

pub loop-place-init : goal.loop-place-init
loop-place-init g c = record {
  between = c.requires.between;
  raises = raises_none (g.O.Order.meaning c.args.self.now.order.now) (g.met.O.Order.lawful c.args.self.now.order.now) _ c.args.self.now.words.now c.args.rows.now c.requires.between.held _ c.args.row;
  settled = λ p l. absurd (omega arith);
}

pub loop-place-preserved : goal.loop-place-preserved
loop-place-preserved g c =
    let m = g.O.Order.meaning c.args.self.now.order.now in
    let laws = g.met.O.Order.lawful c.args.self.now.order.now in
    let ws = c.args.self.now.words.now in
    let new = c.raise_cell-changed.new.rows in
    record {
      between = c.raise_cell-changed.ensures.between;
      raises = raises_then m laws _ _ _ _ _ _ _ c.args.row c.loop-place.invariant.raises c.raise_cell-changed.ensures.raises;
      settled = below_more (λ (p : ℕ). m.flows (slice_index c.args.levels.now p) (cell (length ws) new c.args.row p) ≡ true) c.loop-place.place
          (λ p l. flow_kept m laws ws c.args.self.now.given.now _ new c.raise_cell-changed.ensures.raises.rises c.args.row (slice_index c.args.levels.now p) p (omega arith) (c.loop-place.invariant.settled p l))
          (search rules);
    }

pub returns-clause-settled : goal.returns-clause-settled
returns-clause-settled g c = λ p l. c.loop-place.invariant.settled p (omega arith)
