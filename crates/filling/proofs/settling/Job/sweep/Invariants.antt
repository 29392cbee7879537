use Rattle.std.proofs.Common.{◌≡◌, ℕ, ◌-◌, ◌<◌, false}
use Rattle.filling.specs.Worklists.{lists}
use Rattle.filling.specs.Between.{Between, Clean, Raised}
use Rattle.filling.proofs.settling.Job.sweep.Given as goal

abbrev pub invariant-loop-row : goal.invariant-loop-row
invariant-loop-row g l =
    let m = g.O.Order.meaning l.self.order.now in
    record {
      between : Between m l.self.words.now l.self.given.now l.rows;
      raised : Raised (g.O.Ranked.rank_of l.self.order.now) l.initial.rows l.rows l.changed;
      clean : Clean m l.self.words.now l.self.given.now l.rows l.worklist.blocks;
      -- if nothing is raised, no row that had its turn is listed
      none : l.changed ≡ false → (row : ℕ) → row < l.from → lists l.worklist.blocks row ≡ false;
    }

abbrev pub decreases-loop-row : goal.decreases-loop-row
decreases-loop-row g l = 1088 - l.from
