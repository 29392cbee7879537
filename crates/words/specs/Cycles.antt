-- What each instruction costs in clock cycles. Assumes nothing.
use Rattle.std.specs.Prelude.{ℕ, Bool, cond, ◌==◌}
use Rattle.words.specs.declared.instruction.BinaryOp.{BinaryOp}
use Rattle.words.specs.declared.instruction.BinaryOp.TheVariants as binary
use Rattle.words.specs.declared.instruction.Mode.{Mode}
use Rattle.words.specs.declared.instruction.Mode.TheVariants as mode
use Rattle.words.specs.declared.instruction.Instruction.{Instruction}
use Rattle.words.specs.declared.instruction.Instruction.TheVariants.{Binary, Immediate, Wide, Movw, Unary, Load, Store, LoadDisplaced, StoreDisplaced, Rjmp, Rcall, Branch, Ret, Clc, Nop}

-- of a load by a pointer: 1 for the plain pointer, 2 where it is increased after, 3 where it is decreased before
abbrev pub load_cycles : Mode → ℕ
load_cycles mode.X = 1
load_cycles mode.XInc = 2
load_cycles mode.XDec = 3
load_cycles mode.YInc = 2
load_cycles mode.YDec = 3
load_cycles mode.ZInc = 2
load_cycles mode.ZDec = 3

-- of a word on two registers: mul takes 2, and cpse where it skips
abbrev pub binary_cycles : BinaryOp → Bool → ℕ
binary_cycles binary.Cpse diverts = cond diverts 2 1
binary_cycles binary.Mul diverts = 2
binary_cycles _ diverts = 1

-- The cycles of an instruction, by whether it diverts: a branch diverts where it is taken, cpse where it skips. Of those that
-- never do, and of those that always do, both numbers are the same.
abbrev pub cycles_of : Instruction → Bool → ℕ
cycles_of (Binary op d r) diverts = binary_cycles op diverts
cycles_of (Immediate op d k) diverts = 1
cycles_of (Wide op d k) diverts = 2
cycles_of (Movw d r) diverts = 1
cycles_of (Unary op d) diverts = 1
cycles_of (Load m d) diverts = load_cycles m
cycles_of (Store m r) diverts = 2
cycles_of (LoadDisplaced b q d) diverts = cond (q == 0) 1 2
cycles_of (StoreDisplaced b q r) diverts = 2
cycles_of (Rjmp k) diverts = 2
cycles_of (Rcall k) diverts = 3
cycles_of (Branch f set k) diverts = cond diverts 2 1
cycles_of Ret diverts = 4
cycles_of Clc diverts = 1
cycles_of Nop diverts = 1
