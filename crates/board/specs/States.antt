-- What a board stands for. Assumes nothing.
use Rattle.std.specs.Prelude.{◌≡◌, ℕ, List, reverse}
use Rattle.std.specs.declared.ops.ControlFlow.{ControlFlow}
use Rattle.std.specs.declared.ops.ControlFlow.TheVariants.{Continue, Break}
use Rattle.machine.specs.declared.phase.Ending.{Ending}
use Rattle.machine.specs.Run.{State, state, Step, moves, stops}
use Rattle.machine.specs.Calls as calls
use Rattle.avr.specs.declared.location.Location.{Location}
use Rattle.avr.specs.Core.{Core}
use Rattle.avr.specs.Chip.{avr}
use Rattle.board.specs.declared.simulation.Board.{Board}
use Rattle.board.specs.Cores.{core_of}

-- the returns that a board holds, newest first
abbrev pub held_of : Board → List ℕ
held_of b = reverse b.returns.items

-- where a board stands
abbrev pub state_of : Board → State Core
state_of b = state b.at (held_of b) b.count (core_of b.chip)

-- what a board stands for: where it stands, and its phase
abbrev pub board_of : Board → calls.Board Core
board_of b = calls.board (state_of b) b.phase

-- the words of a board's listing
abbrev pub words_of : Board → List ℕ
words_of b = b.listing.words.now

-- two states of one board: it stands on the same words and has the same lent bytes
pub record Lent (b b' : Board) : Type 0 where
  pub words : words_of b' ≡ words_of b
  pub bytes : b'.chip.memory.ghost_name ≡ b.chip.memory.ghost_name

-- what a step's answer and the state after it stand for
abbrev pub stepped : ControlFlow Ending (Unit {0}) → State Core → Step Core
stepped (Continue x) s = moves s
stepped (Break e) s = stops s e

-- a board after a call, with the call's answer
abbrev pub after : Board → calls.Answer → calls.Done Core
after b a = record { board = board_of b; answer = a }

-- a board goes from b to b' and answers as the call makes it
abbrev pub Works : calls.Call Location → Board → Board → calls.Answer → Type 0
Works call b b' answer = after b' answer ≡ calls.does (avr (words_of b)) call (board_of b)
