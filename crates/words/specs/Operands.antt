-- The ranges of the operands of an instruction that a word encodes. Assumes nothing.
use Rattle.std.specs.Prelude.{◌≡◌, ◌+◌, ◌<◌, ◌≤◌, false}
use Rattle.words.specs.declared.instruction.Instruction.{Instruction}
use Rattle.words.specs.declared.instruction.Instruction.TheVariants.{Binary, Immediate, Wide, Movw, Unary, Load, Store, LoadDisplaced, StoreDisplaced, Rjmp, Rcall, Branch, Ret, Clc, Nop}
use Rattle.words.specs.Decode.{in_pair, pair_written_back}

-- registers are registers, pairs are pairs of them, and no load writes back the pair that holds its own register
abbrev pub Operands : Instruction → Type 0
Operands (Binary op d r) = (d < 32) × (r < 32)
Operands (Immediate op d k) = (16 ≤ d) × (d < 32) × (k < 256)
Operands (Wide op d k) = (24 ≤ d) × (d + 1 < 32) × (k < 64)
Operands (Movw d r) = (d + 1 < 32) × (r + 1 < 32)
Operands (Unary op d) = d < 32
Operands (Load m d) = (d < 32) × (in_pair (pair_written_back m) d ≡ false)
Operands (Store m r) = (r < 32) × (in_pair (pair_written_back m) r ≡ false)
Operands (LoadDisplaced b q d) = (q < 64) × (d < 32)
Operands (StoreDisplaced b q r) = (q < 64) × (r < 32)
Operands (Rjmp k) = Unit {0}
Operands (Rcall k) = Unit {0}
Operands (Branch f set k) = Unit {0}
Operands Ret = Unit {0}
Operands Clc = Unit {0}
Operands Nop = Unit {0}
