use Rattle.std.proofs.Common.{◌≡◌, length}
use Rattle.secrecy.specs.Rows.{rows_of}
use Rattle.avr.specs.Table.{written_of}
use Rattle.avr.specs.Chip.{instruction_of}
use Rattle.filling.proofs.Written.{SetUpTo}
use Rattle.filling.proofs.settling.Job.levels_after.Given as goal

abbrev pub invariant-loop-place : goal.invariant-loop-place
invariant-loop-place g l =
    record {
      items : l.place-items ≡ written_of (instruction_of l.self.words.now l.at);
      long : length l.levels ≡ 35;
      set : SetUpTo (g.O.Order.meaning l.self.order.now) l.self.words.now (rows_of (length l.self.words.now) l.fn.rows) l.at l.levels l.place-index;
    }
