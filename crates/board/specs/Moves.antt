-- What a step makes of a board. Assumes nothing.
use Rattle.std.specs.Prelude.{ℕ, length}
use Rattle.machine.specs.Run.{Step, landed}
use Rattle.avr.specs.Core.{Core}
use Rattle.cells.specs.declared.cell.Way.{Way}
use Rattle.board.specs.declared.simulation.Board.{Board}
use Rattle.board.specs.Cores.{core_of}
use Rattle.board.specs.Steps.{step_in}
use Rattle.board.specs.States.{state_of, held_of, words_of}

-- what a board's step by a way of so many cycles makes of it
abbrev pub step_by_way : Board → ℕ → Way → ℕ → Step Core
step_by_way b limit w cycles = step_in (length (words_of b)) limit w cycles cycles (state_of b)

-- what going to an address makes of a board
abbrev pub landing_of : Board → ℕ → Step Core
landing_of b to = landed (length (words_of b)) b.at to (held_of b) b.count (core_of b.chip)
