-- What each instruction writes comes from its sources alone, row by row of the table.
use Rattle.std.proofs.Common.{◌≡◌, ℕ, ◌<◌, true, false, List, Some, refl, arith, length-set, get_or-set_other}
use Rattle.std.specs.Int.Bits.{xor_self}
use Rattle.std.proofs.lemmas.Bool.Decides.{nat_tests}
use Rattle.std.proofs.lemmas.Grind.{get_or-set_at}
use Rattle.words.specs.declared.instruction.BinaryOp.{BinaryOp}
use Rattle.words.specs.declared.instruction.BinaryOp.TheVariants as binary
use Rattle.words.specs.declared.instruction.Instruction.{Instruction}
use Rattle.words.specs.declared.instruction.Instruction.TheVariants.{Binary, Immediate}
use Rattle.words.specs.Operands.{Operands}
use Rattle.alu.specs.Arithmetic.{output, difference_of, counterpart}
use Rattle.avr.specs.Core.{Core, reg}
use Rattle.avr.specs.Effects.{binary_effect, effect_of}
use Rattle.avr.specs.Table.{holds_of, is_itself, binary_rows, rows_of, origins_of}
use Rattle.avr.specs.Chip.{well_formed_core}
use Rattle.avr.specs.Exact.{Same}
use Rattle.avr.proofs.Rows.{EachRow, found}

-- what is taken from itself leaves 0, and no borrow
cleared_by_sub : (a : ℕ) → difference_of a a false true ≡ output 0 false true
cleared_by_sub a = grind (arith, nat_tests)

module _ (x y : Core) (fx : well_formed_core x ≡ true) (fy : well_formed_core y ≡ true) where
  -- after two states have become x' and y', a row is local
  abbrev Local : Core → Core → ℕ → List ℕ → Type 0
  Local x' y' p qs = Same x y qs → holds_of x' p ≡ holds_of y' p

  -- a second byte that is the register's own in both states
  abbrev Itself : ℕ → ℕ → ℕ → Type 0
  Itself d b b' = (b ≡ reg x.registers d) × (b' ≡ reg y.registers d)

  -- an operation on a register and a byte that is the same where the places bs hold the same; the last clause is checked at each
  -- of the other operations
  binary_local : (op : BinaryOp) (d b b' : ℕ) (bs : List ℕ) → d < 32 → (Same x y bs → b ≡ b') → (is_itself d bs ≡ true → Itself d b b') →
      EachRow (Local (binary_effect op d b x) (binary_effect op d b' y)) (binary_rows op d bs)
  binary_local binary.Cpse d b b' bs l same self = tt
  binary_local binary.Sub d b b' bs l same self = grind (arith, nat_tests, length-set, get_or-set_at, get_or-set_other, cleared_by_sub)
  binary_local binary.Eor d b b' bs l same self = grind (arith, nat_tests, length-set, get_or-set_at, get_or-set_other, xor_self)
  binary_local _ d b b' bs l same self = grind (arith, nat_tests, length-set, get_or-set_at, get_or-set_other)

  rows_local : (i : Instruction) → Operands i → EachRow (Local (effect_of i x) (effect_of i y)) (rows_of i)
  rows_local (Binary op d r) n = binary_local op d _ _ _ n.0 (grind (arith, nat_tests)) (grind (arith, nat_tests))
  rows_local (Immediate op d k) n = binary_local (counterpart op) d k k _ n.1 (λ h. refl) (λ h. absurd (cc))
  rows_local _ n = grind (arith, nat_tests, length-set, get_or-set_at, get_or-set_other)

  pub local : (i : Instruction) → Operands i → (p : ℕ) (qs : List ℕ) → origins_of i p ≡ Some qs → Same x y qs → holds_of (effect_of i x) p ≡ holds_of (effect_of i y) p
  local i n p qs e = found (Local (effect_of i x) (effect_of i y)) (rows_of i) p qs (rows_local i n) e
