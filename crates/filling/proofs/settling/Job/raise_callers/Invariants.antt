use Rattle.std.proofs.Common.{◌≡◌, ℕ, ◌+◌, ◌<◌, length}
use Rattle.machine.specs.Machine.{calls}
use Rattle.avr.specs.Chip.{avr}
use Rattle.filling.specs.Between.{Between, SettledTo, RaisesListed}
use Rattle.filling.proofs.settling.Job.raise_callers.Given as goal

abbrev pub invariant-loop-caller : goal.invariant-loop-caller
invariant-loop-caller g l =
    let m = g.O.Order.meaning l.self.order.now in
    let ws = l.self.words.now in
    record {
      between : Between m ws l.self.given.now l.rows;
      raises : RaisesListed m (g.O.Ranked.rank_of l.self.order.now) (length ws) l.initial.rows l.rows l.initial.worklist.blocks l.worklist.blocks l.changed;
      settled : (k : ℕ) → k < l.caller → (d : ℕ) → (avr ws).kind k ≡ calls l.function d → SettledTo m ws l.self.given.now l.rows l.departure.levels l.departure.inside l.departure.pc_level (k + 1);
    }
