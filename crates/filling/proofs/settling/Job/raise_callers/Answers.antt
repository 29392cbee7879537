use Rattle.std.proofs.Common.{◌≡◌, ℕ, ◌+◌, below_more, arith}
use Rattle.machine.specs.Machine.{calls}
use Rattle.avr.specs.Chip.{avr}
use Rattle.filling.specs.Between.{SettledTo}
use Rattle.filling.proofs.Steps.{lists_none, lists_then, settled_kept}
use Rattle.filling.proofs.settling.Job.raise_callers.Goals as goal

pub loop-caller-init : goal.loop-caller-init
loop-caller-init g c = record {
  between = c.requires.between;
  raises = lists_none (g.O.Order.meaning c.args.self.now.order.now) (g.met.O.Order.lawful c.args.self.now.order.now) _ c.args.self.now.words.now c.args.rows.now c.requires.between.held _ c.args.worklist.now.blocks;
  settled = λ k l. absurd (omega arith);
}

pub raise_caller-changed-requires-clause-leads : goal.raise_caller-changed-requires-clause-leads
raise_caller-changed-requires-clause-leads g c = c.requires.leads c.loop-caller.caller (omega arith)

pub loop-caller-preserved : goal.loop-caller-preserved
loop-caller-preserved g c =
    let m = g.O.Order.meaning c.args.self.now.order.now in
    let laws = g.met.O.Order.lawful c.args.self.now.order.now in
    let ws = c.args.self.now.words.now in
    let d = c.args.departure.now in
    let new = c.raise_caller-changed.new.rows in
    let s = c.raise_caller-changed.ensures in
    record {
      between = s.between;
      raises = lists_then m laws _ _ _ _ _ _ _ _ _ _ c.loop-caller.invariant.raises s.raises;
      settled = below_more (λ (k : ℕ). (n : ℕ) → (avr ws).kind k ≡ calls c.args.function n → SettledTo m ws c.args.self.now.given.now new d.levels d.inside d.pc_level (k + 1)) c.loop-caller.caller
          (λ k l n e. settled_kept m laws ws c.args.self.now.given.now _ new s.raises.rises (k + 1) d.levels d.inside d.pc_level (c.loop-caller.invariant.settled k l n e))
          s.settled;
    }

pub returns-clause-settled : goal.returns-clause-settled
returns-clause-settled g c = λ k l. c.loop-caller.invariant.settled k (omega arith)
