-- Values and flags of the arithmetic and logic instructions, as the manual has them. A byte is a number below 256; the carry
-- is the carry of a sum or the borrow of a difference, and zero says that the result is 0. Assumes nothing.
use Rattle.std.specs.Prelude.{Bool, true, false, ◌&&◌, ℕ, ◌+◌, ◌-◌, ◌*◌, ◌/◌, ◌%◌, eqb, ltb, leb}
use Rattle.std.specs.Int.Bits.{bit_and, bit_or, bit_xor}
use Rattle.words.specs.declared.instruction.BinaryOp.{BinaryOp}
use Rattle.words.specs.declared.instruction.BinaryOp.TheVariants as binary
use Rattle.words.specs.declared.instruction.ImmediateOp.{ImmediateOp}
use Rattle.words.specs.declared.instruction.ImmediateOp.TheVariants as immediate
use Rattle.words.specs.declared.instruction.WideOp.{WideOp}
use Rattle.words.specs.declared.instruction.WideOp.TheVariants as wide
use Rattle.words.specs.declared.instruction.UnaryOp.{UnaryOp}
use Rattle.words.specs.declared.instruction.UnaryOp.TheVariants as unary
use Rattle.alu.specs.declared.output.Output.{Output}

-- a byte and the flags
abbrev pub ByteOutput : Type 0
ByteOutput = Output ℕ

-- a 16-bit number and the flags
abbrev pub WordOutput : Type 0
WordOutput = Output ℕ

-- a flag as a number
abbrev pub bit : Bool → ℕ
bit true = 1
bit false = 0

-- a value with the flags C and Z
abbrev pub output : {V : Type 0} → V → Bool → Bool → Output V
output v c z = record { value = v; carry = c; zero = z }

-- a number with the carry; zero says that it is 0
abbrev pub result_of : ℕ → Bool → Output ℕ
result_of v c = output v c (eqb v 0)

-- a + b + c
abbrev pub sum_of : ℕ → ℕ → Bool → ByteOutput
sum_of a b c = result_of ((a + b + bit c) % 256) (ltb 255 (a + b + bit c))

-- a - b - c, where zero is set only if `before` was
abbrev pub difference_of : ℕ → ℕ → Bool → Bool → ByteOutput
difference_of a b c before = output ((256 + a - b - bit c) % 256) (ltb a (b + bit c)) (eqb ((256 + a - b - bit c) % 256) 0 && before)

-- a result that keeps the carry
abbrev pub logic_of : ℕ → Bool → ByteOutput
logic_of v c = result_of v c

-- what an operation on two bytes gives; cpse and mul give no byte of their own, and leave the first byte and the flags
abbrev pub binary_output : BinaryOp → ℕ → ℕ → Bool → Bool → ByteOutput
binary_output binary.Cpc a b c z = difference_of a b c z
binary_output binary.Sbc a b c z = difference_of a b c z
binary_output binary.Add a b c z = sum_of a b false
binary_output binary.Cpse a b c z = output a c z
binary_output binary.Cp a b c z = difference_of a b false true
binary_output binary.Sub a b c z = difference_of a b false true
binary_output binary.Adc a b c z = sum_of a b c
binary_output binary.And a b c z = logic_of (bit_and a b) c
binary_output binary.Eor a b c z = logic_of (bit_xor a b) c
binary_output binary.Or a b c z = logic_of (bit_or a b) c
binary_output binary.Mov a b c z = output b c z
binary_output binary.Mul a b c z = output a c z

-- an operation on a register and a constant does what this one does on two registers
abbrev pub counterpart : ImmediateOp → BinaryOp
counterpart immediate.Cpi = binary.Cp
counterpart immediate.Sbci = binary.Sbc
counterpart immediate.Subi = binary.Sub
counterpart immediate.Andi = binary.And
counterpart immediate.Ldi = binary.Mov

-- neg subtracts from 0; inc and dec keep the carry; lsr and ror shift down by one, and the bit that leaves is the carry
abbrev pub unary_output : UnaryOp → ℕ → Bool → ByteOutput
unary_output unary.Neg a c = difference_of 0 a false true
unary_output unary.Inc a c = logic_of ((a + 1) % 256) c
unary_output unary.Lsr a c = result_of (a / 2) (eqb (a % 2) 1)
unary_output unary.Ror a c = result_of (128 * bit c + a / 2) (eqb (a % 2) 1)
unary_output unary.Dec a c = logic_of ((a + 255) % 256) c

-- on 16 bits
abbrev pub wide_output : WideOp → ℕ → ℕ → WordOutput
wide_output wide.Adiw x k = result_of ((x + k) % 65536) (ltb 65535 (x + k))
wide_output wide.Sbiw x k = result_of ((65536 + x - k) % 65536) (ltb x k)

-- the unsigned product, whose bit 15 is the carry
abbrev pub product_of : ℕ → ℕ → WordOutput
product_of a b = result_of (a * b) (leb 32768 (a * b))
