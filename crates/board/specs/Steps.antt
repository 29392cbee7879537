-- The cells of a listing, and one step by a cell. Assumes nothing.
use Rattle.std.specs.Prelude.{◌≡◌, ℕ, ◌+◌, ◌<◌, Bool, true, false, cond, List, length, nat_lt, slice_index_or}
use Rattle.std.specs.declared.ops.ControlFlow.{ControlFlow}
use Rattle.std.specs.declared.ops.ControlFlow.TheVariants.{Continue, Break}
use Rattle.machine.specs.declared.phase.Stop.TheVariants.{Deep}
use Rattle.machine.specs.declared.phase.Ending.{Ending}
use Rattle.machine.specs.declared.phase.Ending.TheVariants as ending
use Rattle.machine.specs.Machine.{Kind}
use Rattle.machine.specs.Run as run
use Rattle.machine.specs.Run.{State, Step, stops, paid, overfull, arrived, next_of, returns_of}
use Rattle.avr.specs.Core.{Core}
use Rattle.avr.specs.Chip.{instruction_of}
use Rattle.cells.specs.declared.work.Operand.TheVariants.{Register}
use Rattle.cells.specs.declared.work.Binary.TheVariants as two
use Rattle.cells.specs.declared.cell.Way.{Way}
use Rattle.cells.specs.declared.cell.Way.TheVariants as way
use Rattle.cells.specs.declared.cell.Cell.{Cell}
use Rattle.cells.specs.Works.{two_operands}
use Rattle.cells.specs.Cells.{cell_of, kind_in, effect_in, diverts_in}

-- what reads past the end of the cells; nothing depends on it
abbrev pub blank_cell : Cell
blank_cell = record { way = way.On (two_operands 0 (two.Sum false) (Register 0)); on = 0; aside = 0 }

-- the cells are those of the words
abbrev pub Fetched : List ℕ → List Cell → Type 0
Fetched ws cells = (k : ℕ) → k < length ws → slice_index_or cells k blank_cell ≡ cell_of k (instruction_of ws k)

-- one step by a word of this kind, which goes aside or not and leaves y of what the words work on
abbrev pub step_by : ℕ → ℕ → Kind → Bool → Core → State Core → Step Core
step_by size limit k aside y s =
    paid limit (run.cycles_of k aside) s.at s.returns s.count s.body
    (cond (overfull k s.returns) (stops s (ending.Stopped Deep s.count))
    (arrived size s.at (next_of k aside s.returns) (returns_of k s.at s.returns) (s.count + run.cycles_of k aside) y))

-- one step by a cell's way
abbrev pub step_in : ℕ → ℕ → Way → ℕ → ℕ → State Core → Step Core
step_in size limit w on aside s = step_by size limit (kind_in s.at w on aside) (diverts_in w s.body) (effect_in w s.body) s

-- cycles are paid if the count with them does not pass the limit, and else the run is spent
abbrev pub Paid : ℕ → ℕ → ControlFlow Ending ℕ → Type 0
Paid limit total (Continue count) = (nat_lt limit total ≡ false) × (count ≡ total)
Paid limit total (Break e) = (nat_lt limit total ≡ true) × (e ≡ ending.Spent limit)
