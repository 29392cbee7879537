-- What a 16-bit word decodes to, kind by kind, from the manual's encodings. Assumes nothing.
use Rattle.std.specs.Prelude.{ℕ, ◌+◌, ◌*◌, Bool, true, false, cond, not, ◌&&◌, ◌||◌, List, [], ◌∷◌, Some, None, Option, ◌==◌}
use Rattle.std.specs.Option.{option_map, option_or}
use Rattle.words.specs.declared.instruction.Mode.{Mode}
use Rattle.words.specs.declared.instruction.Mode.TheVariants as mode
use Rattle.words.specs.declared.instruction.Instruction.{Instruction}
use Rattle.words.specs.declared.instruction.Instruction.TheVariants.{Binary, Immediate, Wide, Movw, Unary, Load, Store, LoadDisplaced, StoreDisplaced, Rjmp, Rcall, Branch, Ret, Clc, Nop}
use Rattle.words.specs.Fields.{bits, signed}
use Rattle.words.specs.Codes.{binary_named, immediate_named, wide_named, unary_named, mode_named, base_named, flag_named}

-- a reading that counts only where a test of the word passes
abbrev pub only : Bool → Option Instruction → Option Instruction
only true o = o
only false o = None

-- the register in bits 8 to 4
abbrev pub d_of : ℕ → ℕ
d_of w = bits w 4 5

-- pppppp r ddddd rrrr
abbrev pub binary_of : ℕ → Option Instruction
binary_of w = option_map (λ op. Binary op (d_of w) (16 * bits w 9 1 + bits w 0 4)) (binary_named (bits w 10 6))

-- pppp KKKK dddd KKKK, on the registers 16 to 31
abbrev pub immediate_of : ℕ → Option Instruction
immediate_of w = option_map (λ op. Immediate op (16 + bits w 4 4) (16 * bits w 8 4 + bits w 0 4)) (immediate_named (bits w 12 4))

-- 1001011 s KK dd KKKK, on the pairs 24, 26, 28 and 30
abbrev pub wide_of : ℕ → Option Instruction
wide_of w = only (bits w 9 7 == 0b1001011) (option_map (λ op. Wide op (24 + 2 * bits w 4 2) (16 * bits w 6 2 + bits w 0 4)) (wide_named (bits w 8 1)))

-- 00000001 dddd rrrr, on even registers
abbrev pub movw_of : ℕ → Option Instruction
movw_of w = only (bits w 8 8 == 0b00000001) (Some (Movw (2 * bits w 4 4) (2 * bits w 0 4)))

-- 1001010 ddddd pppp
abbrev pub unary_of : ℕ → Option Instruction
unary_of w = only (bits w 9 7 == 0b1001010) (option_map (λ op. Unary op (d_of w)) (unary_named (bits w 0 4)))

-- the low register of the pair that a mode writes back, if it writes one back
abbrev pub pair_written_back : Mode → Option ℕ
pair_written_back mode.X = None
pair_written_back mode.XInc = Some 26
pair_written_back mode.XDec = Some 26
pair_written_back mode.YInc = Some 28
pair_written_back mode.YDec = Some 28
pair_written_back mode.ZInc = Some 30
pair_written_back mode.ZDec = Some 30

-- whether a register is one of the pair that a mode writes back
abbrev pub in_pair : Option ℕ → ℕ → Bool
in_pair None d = false
in_pair (Some low) d = d == low || d == low + 1

-- 100100 s ddddd mmmm, s being 0 for a load; none where the pair written back holds the register itself
abbrev pub pointer_of : ℕ → Mode → Option Instruction
pointer_of w m = only (not (in_pair (pair_written_back m) (d_of w))) (Some (cond (bits w 9 1 == 0) (Load m (d_of w)) (Store m (d_of w))))

-- a load or a store by a pointer, in one of seven modes
abbrev pub pointers_of : ℕ → Option Instruction
pointers_of w = only (bits w 10 6 == 0b100100) (elim (mode_named (bits w 0 4)) [ Some m ↦ pointer_of w m | None ↦ None ])

-- 10 q 0 qq s ddddd y qqq, s being 0 for a load
abbrev pub displacement : ℕ → ℕ
displacement w = 32 * bits w 13 1 + 8 * bits w 10 2 + bits w 0 3

-- a load or a store at a distance from Y or Z
abbrev pub displaced_of : ℕ → Option Instruction
displaced_of w =
    only (bits w 14 2 == 0b10 && bits w 12 1 == 0)
    (option_map (λ b. cond (bits w 9 1 == 0) (LoadDisplaced b (displacement w) (d_of w)) (StoreDisplaced b (displacement w) (d_of w))) (base_named (bits w 3 1)))

-- 1100 k..k and 1101 k..k, of 12 bits
abbrev pub jump_of : ℕ → Option Instruction
jump_of w = option_or (only (bits w 12 4 == 0b1100) (Some (Rjmp (signed 2048 (bits w 0 12))))) (only (bits w 12 4 == 0b1101) (Some (Rcall (signed 2048 (bits w 0 12)))))

-- 11110 n kkkkkkk fff: taken if the flag is set, where n is 0, or if it is clear
abbrev pub branch_of : ℕ → Option Instruction
branch_of w = only (bits w 11 5 == 0b11110) (option_map (λ f. Branch f (bits w 10 1 == 0) (signed 64 (bits w 3 7))) (flag_named (bits w 0 3)))

-- the three words without operands
abbrev pub fixed_of : ℕ → Option Instruction
fixed_of w = cond (w == 0x9508) (Some Ret) (cond (w == 0x9488) (Some Clc) (cond (w == 0x0000) (Some Nop) None))

-- the first reading that there is
abbrev pub first_of : List (Option Instruction) → Option Instruction
first_of [] = None
first_of (None ∷ os) = first_of os
first_of (Some i ∷ os) = Some i

-- The readings of a word, kind by kind. At most one of them is there, so their order does not matter.
abbrev pub readings : ℕ → List (Option Instruction)
readings w =
    binary_of w ∷ (immediate_of w ∷ (wide_of w ∷ (movw_of w ∷ (unary_of w ∷
    (pointers_of w ∷ (displaced_of w ∷ (jump_of w ∷ (branch_of w ∷ (fixed_of w ∷ [])))))))))

-- The instruction of a word, if it has one.
unfoldable pub decode_of : ℕ → Option Instruction
decode_of w = first_of (readings w)
