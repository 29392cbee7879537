use Rattle.std.proofs.Common.{◌-◌}
use Rattle.machine.specs.declared.phase.Ending.{Ending}
use Rattle.machine.specs.Run.{State, Runs}
use Rattle.avr.specs.Core.{Core}
use Rattle.avr.specs.Chip.{avr}
use Rattle.board.specs.States.{state_of, words_of, Lent}
use Rattle.board.proofs.simulation.Board.advance.Given as goal

-- a run from here to its end makes one from the start
abbrev pub invariant-loop-ending : goal.invariant-loop-ending
invariant-loop-ending l =
    ((t : State Core) (e : Ending) → Runs (avr (words_of l.initial.self)) l.limit (state_of l.self) t e → Runs (avr (words_of l.initial.self)) l.limit (state_of l.initial.self) t e)
    × Lent l.initial.self l.self

abbrev pub decreases-loop-ending : goal.decreases-loop-ending
decreases-loop-ending l = l.limit - l.self.count
