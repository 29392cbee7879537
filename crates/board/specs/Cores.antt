-- What a chip stands for. Assumes nothing.
use Rattle.std.specs.Prelude.{List, [], ℕ}
use Rattle.avr.specs.Core.{Core, core}
use Rattle.board.specs.declared.chip.registers.Registers.{Registers}
use Rattle.board.specs.declared.chip.Chip.{Chip}

-- registers and flags, with a memory
abbrev pub core_with : Registers → List ℕ → Core
core_with r memory = core r.bytes r.carry r.zero memory

-- registers and flags alone: a core without memory
abbrev pub bare : Registers → Core
bare r = core_with r []

-- registers and flags are the chip's own, the memory is what it was lent
abbrev pub core_of : Chip → Core
core_of b = core_with b.registers b.memory.now
