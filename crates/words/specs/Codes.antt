-- The numbers by which a word names one operation, mode, pointer or flag, as the manual's encodings have them. Each table is
-- written once: decoding looks a number up in it. Assumes nothing.
use Rattle.std.specs.Prelude.{ℕ, cond, List, [], ◌∷◌, Some, None, Option, ◌==◌}
use Rattle.words.specs.declared.instruction.BinaryOp.{BinaryOp}
use Rattle.words.specs.declared.instruction.BinaryOp.TheVariants as binary
use Rattle.words.specs.declared.instruction.ImmediateOp.{ImmediateOp}
use Rattle.words.specs.declared.instruction.ImmediateOp.TheVariants as immediate
use Rattle.words.specs.declared.instruction.WideOp.{WideOp}
use Rattle.words.specs.declared.instruction.WideOp.TheVariants as wide
use Rattle.words.specs.declared.instruction.UnaryOp.{UnaryOp}
use Rattle.words.specs.declared.instruction.UnaryOp.TheVariants as unary
use Rattle.words.specs.declared.instruction.Mode.{Mode}
use Rattle.words.specs.declared.instruction.Mode.TheVariants as mode
use Rattle.words.specs.declared.instruction.Base.{Base}
use Rattle.words.specs.declared.instruction.Base.TheVariants as base
use Rattle.words.specs.declared.instruction.Flag.{Flag}
use Rattle.words.specs.declared.instruction.Flag.TheVariants as flag

-- the one of some things that has a given code, if any has
abbrev pub named : {A : Type 0} → (A → ℕ) → List A → ℕ → Option A
named code [] n = None
named code (x ∷ xs) n = cond (n == code x) (Some x) (named code xs n)

-- bits 15 to 10 of a word on two registers
abbrev pub binary_code : BinaryOp → ℕ
binary_code binary.Cpc = 0b000001
binary_code binary.Sbc = 0b000010
binary_code binary.Add = 0b000011
binary_code binary.Cpse = 0b000100
binary_code binary.Cp = 0b000101
binary_code binary.Sub = 0b000110
binary_code binary.Adc = 0b000111
binary_code binary.And = 0b001000
binary_code binary.Eor = 0b001001
binary_code binary.Or = 0b001010
binary_code binary.Mov = 0b001011
binary_code binary.Mul = 0b100111

-- the operation of such bits
abbrev pub binary_named : ℕ → Option BinaryOp
binary_named = named binary_code (binary.Cpc ∷ (binary.Sbc ∷ (binary.Add ∷ (binary.Cpse ∷ (binary.Cp ∷ (binary.Sub ∷ (binary.Adc ∷ (binary.And ∷ (binary.Eor ∷ (binary.Or ∷ (binary.Mov ∷ (binary.Mul ∷ []))))))))))))

-- bits 15 to 12 of a word on a register and a byte
abbrev pub immediate_code : ImmediateOp → ℕ
immediate_code immediate.Cpi = 0b0011
immediate_code immediate.Sbci = 0b0100
immediate_code immediate.Subi = 0b0101
immediate_code immediate.Andi = 0b0111
immediate_code immediate.Ldi = 0b1110

-- the operation of such bits
abbrev pub immediate_named : ℕ → Option ImmediateOp
immediate_named = named immediate_code (immediate.Cpi ∷ (immediate.Sbci ∷ (immediate.Subi ∷ (immediate.Andi ∷ (immediate.Ldi ∷ [])))))

-- bit 8 of a word on a pair and a constant
abbrev pub wide_code : WideOp → ℕ
wide_code wide.Adiw = 0
wide_code wide.Sbiw = 1

-- the operation of such a bit
abbrev pub wide_named : ℕ → Option WideOp
wide_named = named wide_code (wide.Adiw ∷ (wide.Sbiw ∷ []))

-- bits 3 to 0 of a word on one register
abbrev pub unary_code : UnaryOp → ℕ
unary_code unary.Neg = 0b0001
unary_code unary.Inc = 0b0011
unary_code unary.Lsr = 0b0110
unary_code unary.Ror = 0b0111
unary_code unary.Dec = 0b1010

-- the operation of such bits
abbrev pub unary_named : ℕ → Option UnaryOp
unary_named = named unary_code (unary.Neg ∷ (unary.Inc ∷ (unary.Lsr ∷ (unary.Ror ∷ (unary.Dec ∷ [])))))

-- bits 3 to 0 of a load or a store by a pointer
abbrev pub mode_code : Mode → ℕ
mode_code mode.X = 0b1100
mode_code mode.XInc = 0b1101
mode_code mode.XDec = 0b1110
mode_code mode.YInc = 0b1001
mode_code mode.YDec = 0b1010
mode_code mode.ZInc = 0b0001
mode_code mode.ZDec = 0b0010

-- the mode of such bits
abbrev pub mode_named : ℕ → Option Mode
mode_named = named mode_code (mode.X ∷ (mode.XInc ∷ (mode.XDec ∷ (mode.YInc ∷ (mode.YDec ∷ (mode.ZInc ∷ (mode.ZDec ∷ [])))))))

-- bit 3 of a displaced load or store
abbrev pub base_code : Base → ℕ
base_code base.Z = 0
base_code base.Y = 1

-- the pointer of such a bit
abbrev pub base_named : ℕ → Option Base
base_named = named base_code (base.Z ∷ (base.Y ∷ []))

-- bits 2 to 0 of a branch
abbrev pub flag_code : Flag → ℕ
flag_code flag.Carry = 0b000
flag_code flag.Zero = 0b001

-- the flag of such bits
abbrev pub flag_named : ℕ → Option Flag
flag_named = named flag_code (flag.Carry ∷ (flag.Zero ∷ []))
