-- Works: what a word does, sorted by how it is done. Assumes nothing.
use Rattle.std.specs.Prelude.{List, Bool, true, false, not, ◌&&◌, ◌||◌, ℕ, ◌+◌, ◌*◌, ◌/◌, ◌%◌, ◌<◌, get_or, set, eqb}
use Rattle.std.specs.Int.Bits.{bit_and, bit_or, bit_xor}
use Rattle.words.specs.declared.instruction.BinaryOp.{BinaryOp}
use Rattle.words.specs.declared.instruction.BinaryOp.TheVariants as binary
use Rattle.words.specs.declared.instruction.UnaryOp.{UnaryOp}
use Rattle.words.specs.declared.instruction.UnaryOp.TheVariants as unary
use Rattle.words.specs.declared.instruction.Mode.{Mode}
use Rattle.words.specs.declared.instruction.Mode.TheVariants as mode
use Rattle.words.specs.declared.instruction.Instruction.{Instruction}
use Rattle.words.specs.declared.instruction.Instruction.TheVariants as instruction
use Rattle.alu.specs.Arithmetic.{bit, output, sum_of, difference_of, logic_of, counterpart}
use Rattle.avr.specs.Core.{Core, core, reg, pair_of, with_pair}
use Rattle.avr.specs.Effects.{stored, compared, pointer_pair, base_pair, one_up, one_down, effect_of}
use Rattle.cells.specs.declared.work.Operand.{Operand}
use Rattle.cells.specs.declared.work.Operand.TheVariants.{Register, Constant}
use Rattle.cells.specs.declared.work.Logic.{Logic}
use Rattle.cells.specs.declared.work.Logic.TheVariants as logic
use Rattle.cells.specs.declared.work.Binary.{Binary}
use Rattle.cells.specs.declared.work.Binary.TheVariants as two
use Rattle.cells.specs.declared.work.Unary.{Unary}
use Rattle.cells.specs.declared.work.Unary.TheVariants as one
use Rattle.cells.specs.declared.work.ByteWork.{ByteWork}
use Rattle.cells.specs.declared.work.ByteWork.TheVariants as byte
use Rattle.cells.specs.declared.work.Step.TheVariants.{Up, Down}
use Rattle.cells.specs.declared.work.Reach.{Reach}
use Rattle.cells.specs.declared.work.Reach.TheVariants.{Plain, Displaced, Stepped}
use Rattle.cells.specs.declared.work.Nullary.{Nullary}
use Rattle.cells.specs.declared.work.Nullary.TheVariants as nullary
use Rattle.cells.specs.declared.work.PairWork.{PairWork}
use Rattle.cells.specs.declared.work.PairWork.TheVariants as pair
use Rattle.cells.specs.declared.work.Work.{Work}
use Rattle.cells.specs.declared.work.Work.TheVariants as work

-- an operation on the register d and a second byte
abbrev pub two_operands : ℕ → Binary → Operand → Work
two_operands d j o = work.Byte d (byte.Binary j o)

-- what touches the carry at most
abbrev pub nullary_work : Nullary → Work
nullary_work q = work.Pair (pair.Nullary q)

-- mul takes two registers only
abbrev pub product_work : ℕ → Operand → Work
product_work d (Register r) = work.Pair (pair.Mul d r)
product_work d (Constant k) = nullary_work nullary.Nop

-- which work an operation on two bytes is
abbrev pub binary_work : BinaryOp → ℕ → Operand → Work
binary_work binary.Cpc d o = two_operands d (two.Difference true false) o
binary_work binary.Sbc d o = two_operands d (two.Difference true true) o
binary_work binary.Add d o = two_operands d (two.Sum false) o
binary_work binary.Cpse d o = nullary_work nullary.Nop
binary_work binary.Cp d o = two_operands d (two.Difference false false) o
binary_work binary.Sub d o = two_operands d (two.Difference false true) o
binary_work binary.Adc d o = two_operands d (two.Sum true) o
binary_work binary.And d o = two_operands d (two.Logic logic.And) o
binary_work binary.Eor d o = two_operands d (two.Logic logic.Eor) o
binary_work binary.Or d o = two_operands d (two.Logic logic.Or) o
binary_work binary.Mov d o = work.Byte d (byte.Copied o)
binary_work binary.Mul d o = product_work d o

-- which work an operation on one byte is; to take 1 away is to add 255
abbrev pub unary_work : UnaryOp → Unary
unary_work unary.Neg = one.Negate
unary_work unary.Inc = one.Count 1
unary_work unary.Lsr = one.Shift false
unary_work unary.Ror = one.Shift true
unary_work unary.Dec = one.Count 255

-- how a mode finds its address
abbrev pub reach_of : Mode → Reach
reach_of mode.X = Plain
reach_of mode.XInc = Stepped Up
reach_of mode.XDec = Stepped Down
reach_of mode.YInc = Stepped Up
reach_of mode.YDec = Stepped Down
reach_of mode.ZInc = Stepped Up
reach_of mode.ZDec = Stepped Down

-- a load or a store of the register d by the pointer at p
abbrev pub access : Bool → ℕ → ℕ → Reach → Work
access s d p r = work.Access (record { store = s; register = d; pointer = p; reach = r })

-- which work an instruction is
abbrev pub work_of : Instruction → Work
work_of (instruction.Binary op d r) = binary_work op d (Register r)
work_of (instruction.Immediate op d k) = binary_work (counterpart op) d (Constant k)
work_of (instruction.Wide op d k) = work.Pair (pair.Wide op d k)
work_of (instruction.Movw d r) = nullary_work (nullary.Movw d r)
work_of (instruction.Unary op d) = work.Byte d (byte.Unary (unary_work op))
work_of (instruction.Load m d) = access false d (pointer_pair m) (reach_of m)
work_of (instruction.Store m r) = access true r (pointer_pair m) (reach_of m)
work_of (instruction.LoadDisplaced b q d) = access false d (base_pair b) (Displaced q)
work_of (instruction.StoreDisplaced b q r) = access true r (base_pair b) (Displaced q)
work_of (instruction.Rjmp k) = nullary_work nullary.Nop
work_of (instruction.Rcall k) = nullary_work nullary.Nop
work_of (instruction.Branch f set k) = nullary_work nullary.Nop
work_of instruction.Ret = nullary_work nullary.Nop
work_of instruction.Clc = nullary_work nullary.Clc
work_of instruction.Nop = nullary_work nullary.Nop

-- the byte that an operand names
abbrev pub operand_of : Operand → List ℕ → ℕ
operand_of (Register r) rs = reg rs r
operand_of (Constant k) rs = k

-- the byte that a logic operation gives
abbrev pub logic_bits : Logic → ℕ → ℕ → ℕ
logic_bits logic.And a b = bit_and a b
logic_bits logic.Eor a b = bit_xor a b
logic_bits logic.Or a b = bit_or a b

-- a difference that is kept in the register d, or of which only the flags are
abbrev pub kept : Bool → Core → ℕ → ℕ → Bool → Core
kept true x d b with-carry = stored x d (difference_of (reg x.registers d) b (with-carry && x.carry) (not with-carry || x.zero))
kept false x d b with-carry = compared x (difference_of (reg x.registers d) b (with-carry && x.carry) (not with-carry || x.zero))

-- an operation on the register d and the byte b
abbrev pub binary_effect : Binary → ℕ → ℕ → Core → Core
binary_effect (two.Sum with-carry) d b x = stored x d (sum_of (reg x.registers d) b (with-carry && x.carry))
binary_effect (two.Difference with-carry keep) d b x = kept keep x d b with-carry
binary_effect (two.Logic op) d b x = stored x d (logic_of (logic_bits op (reg x.registers d) b) x.carry)

-- the register d shifted to v: the bit that left is the carry
abbrev pub shifted : ℕ → ℕ → Core → Core
shifted d v x = stored x d (output v (eqb (reg x.registers d % 2) 1) (eqb v 0))

-- an operation on the register d alone
abbrev pub unary_effect : Unary → ℕ → Core → Core
unary_effect (one.Count n) d x = stored x d (logic_of ((reg x.registers d + n) % 256) x.carry)
unary_effect (one.Shift through) d x = shifted d (128 * bit (through && x.carry) + reg x.registers d / 2) x
unary_effect one.Negate d x = stored x d (difference_of 0 (reg x.registers d) false true)

-- what is done to the register d
abbrev pub byte_effect : ByteWork → ℕ → Core → Core
byte_effect (byte.Binary j o) d x = binary_effect j d (operand_of o x.registers) x
byte_effect (byte.Unary l) d x = unary_effect l d x
byte_effect (byte.Copied o) d x = core (set x.registers d (operand_of o x.registers)) x.carry x.zero x.memory

-- the register stored at an address, or loaded from it
abbrev pub transferred : Bool → ℕ → ℕ → Core → Core
transferred true r a x = core x.registers x.carry x.zero (set x.memory a (reg x.registers r))
transferred false d a x = core (set x.registers d (get_or x.memory a 0)) x.carry x.zero x.memory

-- the pair at d, written back
abbrev pub back : ℕ → ℕ → Core → Core
back d v x = core (with_pair x.registers d v) x.carry x.zero x.memory

-- a load or a store of a register by the pointer at d, which holds p
abbrev pub access_effect : Bool → ℕ → Reach → ℕ → ℕ → Core → Core
access_effect s r Plain d p x = transferred s r p x
access_effect s r (Displaced q) d p x = transferred s r ((p + q) % 65536) x
access_effect s r (Stepped Up) d p x = back d (one_up p) (transferred s r p x)
access_effect s r (Stepped Down) d p x = back d (one_down p) (transferred s r (one_down p) x)

-- what touches the carry at most
abbrev pub nullary_effect : Nullary → Core → Core
nullary_effect (nullary.Movw d r) x = effect_of (instruction.Movw d r) x
nullary_effect nullary.Clc x = effect_of instruction.Clc x
nullary_effect nullary.Nop x = x

-- what works on pairs, and the few words that are left
abbrev pub pair_effect : PairWork → Core → Core
pair_effect (pair.Wide op d k) x = effect_of (instruction.Wide op d k) x
pair_effect (pair.Mul d r) x = effect_of (instruction.Binary binary.Mul d r) x
pair_effect (pair.Nullary q) x = nullary_effect q x

-- what a work makes of registers, flags and memory
abbrev pub work_effect : Work → Core → Core
work_effect (work.Byte d b) x = byte_effect b d x
work_effect (work.Access a) x = access_effect a.store a.register a.reach a.pointer (pair_of x.registers a.pointer) x
work_effect (work.Pair p) x = pair_effect p x

-- the register that an operand names is one
abbrev pub OperandFits : Operand → Type 0
OperandFits (Register r) = r < 32
OperandFits (Constant k) = Unit {0}

-- the second byte's register is one
abbrev pub ByteFits : ByteWork → Type 0
ByteFits (byte.Binary j o) = OperandFits o
ByteFits (byte.Unary l) = Unit {0}
ByteFits (byte.Copied o) = OperandFits o

-- both pairs are pairs
abbrev pub NullaryFits : Nullary → Type 0
NullaryFits (nullary.Movw d r) = (d + 1 < 32) × (r + 1 < 32)
NullaryFits nullary.Clc = Unit {0}
NullaryFits nullary.Nop = Unit {0}

-- the registers and pairs that are named are such
abbrev pub PairFits : PairWork → Type 0
PairFits (pair.Wide op d k) = d + 1 < 32
PairFits (pair.Mul d r) = (d < 32) × (r < 32)
PairFits (pair.Nullary q) = NullaryFits q

-- every register that a work names is one
abbrev pub Fits : Work → Type 0
Fits (work.Byte d b) = (d < 32) × ByteFits b
Fits (work.Access a) = (a.register < 32) × (a.pointer + 1 < 32)
Fits (work.Pair p) = PairFits p
