-- What a word decodes to has operands in range.
use Rattle.std.proofs.Common.{◌≡◌, ℕ, List, [], ◌∷◌, IfSome, Some, Option, arith}
use Rattle.words.specs.declared.instruction.Instruction.{Instruction}
use Rattle.words.specs.Decode.{first_of, readings, decode_of}
use Rattle.words.specs.Operands.{Operands}

-- each of some readings, if it is there, has operands in range
abbrev AllRanged : List (Option Instruction) → Type 0
AllRanged [] = Unit {0}
AllRanged (o ∷ os) = IfSome o Operands × AllRanged os

all_ranged : (w : ℕ) → AllRanged (readings w)
all_ranged w =
    (grind arith, (grind arith, (grind arith, (grind arith, (grind arith, (grind arith, (grind arith, (grind arith, (grind arith, (grind arith, tt))))))))))

first_ranged : (os : List (Option Instruction)) (i : Instruction) → AllRanged os → first_of os ≡ Some i → Operands i
first_ranged [] i h e = grind arith
first_ranged (o ∷ os) i h e = grind (arith, first_ranged os i h.1)

pub operands : (w : ℕ) (i : Instruction) → decode_of w ≡ Some i → Operands i
unfolding decode_of
operands w i e = first_ranged (readings w) i (all_ranged w) e
