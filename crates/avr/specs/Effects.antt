-- What each instruction makes of registers, flags and memory, and which way it goes. Assumes nothing.
use Rattle.std.specs.Prelude.{ℕ, ◌+◌, ◌%◌, Bool, true, false, List, set, ◌==◌, slice_index, slice_set}
use Rattle.words.specs.declared.instruction.BinaryOp.{BinaryOp}
use Rattle.words.specs.declared.instruction.BinaryOp.TheVariants as binary
use Rattle.words.specs.declared.instruction.Mode.{Mode}
use Rattle.words.specs.declared.instruction.Mode.TheVariants as mode
use Rattle.words.specs.declared.instruction.Base.{Base}
use Rattle.words.specs.declared.instruction.Base.TheVariants as base
use Rattle.words.specs.declared.instruction.Flag.{Flag}
use Rattle.words.specs.declared.instruction.Flag.TheVariants as flag
use Rattle.words.specs.declared.instruction.Instruction.{Instruction}
use Rattle.words.specs.declared.instruction.Instruction.TheVariants.{Binary, Immediate, Wide, Movw, Unary, Load, Store, LoadDisplaced, StoreDisplaced, Rjmp, Rcall, Branch, Ret, Clc, Nop}
use Rattle.alu.specs.Arithmetic.{ByteOutput, WordOutput, binary_output, counterpart, unary_output, wide_output, product_of}
use Rattle.avr.specs.Core.{Core, core, reg, pair_of, with_pair}

-- a result kept in a register, with its flags
abbrev pub stored : Core → ℕ → ByteOutput → Core
stored x d o = core (slice_set x.registers d o.value) o.carry o.zero x.memory

-- the flags of a result alone
abbrev pub compared : Core → ByteOutput → Core
compared x o = core x.registers o.carry o.zero x.memory

-- a result kept in a pair, with its flags
abbrev pub stored_pair : Core → ℕ → WordOutput → Core
stored_pair x d o = core (with_pair x.registers d o.value) o.carry o.zero x.memory

-- the value and flags of an operation on the register d and the byte b
abbrev pub binary_result : BinaryOp → ℕ → ℕ → Core → ByteOutput
binary_result op d b x = binary_output op (reg x.registers d) b x.carry x.zero

-- an operation on the register d and the byte b: cp and cpc store nothing, cpse changes nothing, and mul fills pair 0
abbrev pub binary_effect : BinaryOp → ℕ → ℕ → Core → Core
binary_effect binary.Cpc d b x = compared x (binary_result binary.Cpc d b x)
binary_effect binary.Sbc d b x = stored x d (binary_result binary.Sbc d b x)
binary_effect binary.Add d b x = stored x d (binary_result binary.Add d b x)
binary_effect binary.Cpse d b x = x
binary_effect binary.Cp d b x = compared x (binary_result binary.Cp d b x)
binary_effect binary.Sub d b x = stored x d (binary_result binary.Sub d b x)
binary_effect binary.Adc d b x = stored x d (binary_result binary.Adc d b x)
binary_effect binary.And d b x = stored x d (binary_result binary.And d b x)
binary_effect binary.Eor d b x = stored x d (binary_result binary.Eor d b x)
binary_effect binary.Or d b x = stored x d (binary_result binary.Or d b x)
binary_effect binary.Mov d b x = stored x d (binary_result binary.Mov d b x)
binary_effect binary.Mul d b x = stored_pair x 0 (product_of (reg x.registers d) b)

-- movw copies byte by byte
abbrev pub movw_effect : ℕ → ℕ → Core → Core
movw_effect d r x = core (slice_set (slice_set x.registers d (reg x.registers r)) (d + 1) (reg x.registers (r + 1))) x.carry x.zero x.memory

-- the pointer that a mode goes by: X is pair 26, Y pair 28, Z pair 30
abbrev pub pointer_pair : Mode → ℕ
pointer_pair mode.X = 26
pointer_pair mode.XInc = 26
pointer_pair mode.XDec = 26
pointer_pair mode.YInc = 28
pointer_pair mode.YDec = 28
pointer_pair mode.ZInc = 30
pointer_pair mode.ZDec = 30

-- the pointer that a displaced access starts from
abbrev pub base_pair : Base → ℕ
base_pair base.Y = 28
base_pair base.Z = 30

-- a pointer, increased by 1 on 16 bits
abbrev pub one_up : ℕ → ℕ
one_up p = (p + 1) % 65536

-- a pointer, decreased by 1 on 16 bits
abbrev pub one_down : ℕ → ℕ
one_down p = (p + 65535) % 65536

-- the address that a mode uses, where its pointer holds p
abbrev pub used_at : Mode → ℕ → ℕ
used_at mode.X p = p
used_at mode.XInc p = p
used_at mode.XDec p = one_down p
used_at mode.YInc p = p
used_at mode.YDec p = one_down p
used_at mode.ZInc p = p
used_at mode.ZDec p = one_down p

-- the registers once a mode has written its pointer back
abbrev pub write_back : Mode → ℕ → List ℕ → List ℕ
write_back mode.X p rs = rs
write_back mode.XInc p rs = with_pair rs 26 (one_up p)
write_back mode.XDec p rs = with_pair rs 26 (one_down p)
write_back mode.YInc p rs = with_pair rs 28 (one_up p)
write_back mode.YDec p rs = with_pair rs 28 (one_down p)
write_back mode.ZInc p rs = with_pair rs 30 (one_up p)
write_back mode.ZDec p rs = with_pair rs 30 (one_down p)

-- a load by a pointer that holds p: first the register is written, then the pointer is written back
abbrev pub load_effect : Mode → ℕ → ℕ → Core → Core
load_effect m d p x = core (write_back m p (slice_set x.registers d (slice_index x.memory (used_at m p)))) x.carry x.zero x.memory

-- a store by a pointer that holds p; the byte stored is the register's old one
abbrev pub store_effect : Mode → ℕ → ℕ → Core → Core
store_effect m r p x = core (write_back m p x.registers) x.carry x.zero (slice_set x.memory (used_at m p) (reg x.registers r))

-- the address of a displaced access
abbrev pub displaced_at : Base → ℕ → Core → ℕ
displaced_at b q x = (pair_of x.registers (base_pair b) + q) % 65536

-- what an instruction makes of registers, flags and memory
abbrev pub effect_of : Instruction → Core → Core
effect_of (Binary op d r) x = binary_effect op d (reg x.registers r) x
effect_of (Immediate op d k) x = binary_effect (counterpart op) d k x
effect_of (Wide op d k) x = stored_pair x d (wide_output op (pair_of x.registers d) k)
effect_of (Movw d r) x = movw_effect d r x
effect_of (Unary op d) x = stored x d (unary_output op (reg x.registers d) x.carry)
effect_of (Load m d) x = load_effect m d (pair_of x.registers (pointer_pair m)) x
effect_of (Store m r) x = store_effect m r (pair_of x.registers (pointer_pair m)) x
effect_of (LoadDisplaced b q d) x = core (slice_set x.registers d (slice_index x.memory (displaced_at b q x))) x.carry x.zero x.memory
effect_of (StoreDisplaced b q r) x = core x.registers x.carry x.zero (slice_set x.memory (displaced_at b q x) (reg x.registers r))
effect_of (Rjmp k) x = x
effect_of (Rcall k) x = x
effect_of (Branch f set k) x = x
effect_of Ret x = x
effect_of Clc x = core x.registers false x.zero x.memory
effect_of Nop x = x

-- what a flag holds
abbrev pub flag_of : Flag → Core → Bool
flag_of flag.Carry x = x.carry
flag_of flag.Zero x = x.zero

-- whether two flags are the same
abbrev pub agrees : Bool → Bool → Bool
agrees true b = b
agrees false true = false
agrees false false = true

-- of the operations on two registers only cpse may go aside
abbrev pub binary_diverts : BinaryOp → ℕ → ℕ → Core → Bool
binary_diverts binary.Cpse d r x = reg x.registers d == reg x.registers r
binary_diverts _ d r x = false

-- whether a fork goes aside: cpse skips where its registers are equal, and a branch is taken where its flag is as it asks
abbrev pub diverts_of : Instruction → Core → Bool
diverts_of (Binary op d r) x = binary_diverts op d r x
diverts_of (Branch f wanted k) x = agrees wanted (flag_of f x)
diverts_of _ x = false
