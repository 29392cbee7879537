use Rattle.std.proofs.Common.{◌≡◌, ℕ, ◌<◌, true, slice_index, length}
use Rattle.secrecy.specs.Rows.{cell}
use Rattle.filling.specs.Between.{Between, RaisesRow}
use Rattle.filling.proofs.settling.Job.raise_places.Given as goal

abbrev pub invariant-loop-place : goal.invariant-loop-place
invariant-loop-place g l =
    let m = g.O.Order.meaning l.self.order.now in
    record {
      between : Between m l.self.words.now l.self.given.now l.rows;
      raises : RaisesRow m (g.O.Ranked.rank_of l.self.order.now) (length l.self.words.now) l.initial.rows l.rows l.row l.changed;
      settled : (p : ℕ) → p < l.place → m.flows (slice_index l.levels p) (cell (length l.self.words.now) l.rows l.row p) ≡ true;
    }
