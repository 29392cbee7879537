-- A cell shows its instruction.
use Rattle.std.proofs.Common.{rules}
use Prim.Native.Nat.{ℕ}
use Rattle.words.specs.declared.instruction.Instruction.{Instruction}
use Rattle.words.specs.Operands.{Operands}
use Rattle.cells.specs.Cells.{cell_of, Shows}

pub shows : (a : ℕ) (i : Instruction) → Operands i → Shows a i (cell_of a i)
shows a i h = record { kind = search rules; effect = λ x. search rules; diverts = λ x. search rules; fits = search rules; lasts = search rules }
