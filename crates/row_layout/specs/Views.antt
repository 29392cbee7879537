-- What lent rows and words show. Assumes nothing.
use Rattle.std.specs.Prelude.{ℕ, List}
use Rattle.machine.specs.Machine.{Machine}
use Rattle.avr.specs.declared.location.Location.{Location}
use Rattle.avr.specs.Core.{Core}
use Rattle.avr.specs.Chip.{avr}
use Rattle.secrecy.specs.Rows.{Rows, rows_of}
use Rattle.row_layout.specs.declared.reading.RowsView.{RowsView}
use Rattle.row_layout.specs.declared.routine.RoutineView.{RoutineView}

-- what lent rows say
abbrev pub rows_in : RowsView → Rows
rows_in view = rows_of view.words view.rows.now

-- the chip with the words of a routine
abbrev pub chip : RoutineView → Machine Core (List ℕ) Location
chip routine = avr routine.words.now
