-- The word of an instruction, and which instructions have one. Assumes nothing.
use Rattle.std.specs.Prelude.{ℕ, ◌+◌, ◌-◌, ◌*◌, ◌/◌, ◌%◌, Bool, true, cond, not, ◌&&◌, Some, None, Option, ◌==◌, nat_le, nat_lt}
use Rattle.words.specs.declared.instruction.Instruction.{Instruction}
use Rattle.words.specs.declared.instruction.Instruction.TheVariants.{Binary, Immediate, Wide, Movw, Unary, Load, Store, LoadDisplaced, StoreDisplaced, Rjmp, Rcall, Branch, Ret, Clc, Nop}
use Rattle.words.specs.Fields.{unsigned, fits_field}
use Rattle.words.specs.Codes.{binary_code, immediate_code, wide_code, unary_code, mode_code, base_code, flag_code}
use Rattle.words.specs.Decode.{pair_written_back, in_pair}

-- whether the operands are such as a word has room for
abbrev pub encodable : Instruction → Bool
encodable (Binary op d r) = nat_lt d 32 && nat_lt r 32
encodable (Immediate op d k) = (nat_le 16 d && nat_lt d 32) && nat_lt k 256
encodable (Wide op d k) = (nat_le 24 d && nat_lt d 32) && (d % 2 == 0 && nat_lt k 64)
encodable (Movw d r) = (nat_lt d 32 && d % 2 == 0) && (nat_lt r 32 && r % 2 == 0)
encodable (Unary op d) = nat_lt d 32
encodable (Load m d) = nat_lt d 32 && not (in_pair (pair_written_back m) d)
encodable (Store m r) = nat_lt r 32 && not (in_pair (pair_written_back m) r)
encodable (LoadDisplaced b q d) = nat_lt q 64 && nat_lt d 32
encodable (StoreDisplaced b q r) = nat_lt q 64 && nat_lt r 32
encodable (Rjmp k) = fits_field 2048 k
encodable (Rcall k) = fits_field 2048 k
encodable (Branch f set k) = fits_field 64 k
encodable Ret = true
encodable Clc = true
encodable Nop = true

-- where a displacement's six bits lie in a word
abbrev pub spread : ℕ → ℕ
spread q = 8192 * (q / 32) + 1024 * (q / 8 % 4) + q % 8

-- the word of an instruction whose operands fit
abbrev pub word_of : Instruction → ℕ
word_of (Binary op d r) = 1024 * binary_code op + 512 * (r / 16) + 16 * d + r % 16
word_of (Immediate op d k) = 4096 * immediate_code op + 256 * (k / 16) + 16 * (d - 16) + k % 16
word_of (Wide op d k) = 0x9600 + 256 * wide_code op + 64 * (k / 16) + 16 * ((d - 24) / 2) + k % 16
word_of (Movw d r) = 0x0100 + 16 * (d / 2) + r / 2
word_of (Unary op d) = 0x9400 + 16 * d + unary_code op
word_of (Load m d) = 0x9000 + 16 * d + mode_code m
word_of (Store m r) = 0x9200 + 16 * r + mode_code m
word_of (LoadDisplaced b q d) = 0x8000 + spread q + 16 * d + 8 * base_code b
word_of (StoreDisplaced b q r) = 0x8200 + spread q + 16 * r + 8 * base_code b
word_of (Rjmp k) = 0xC000 + unsigned 2048 k
word_of (Rcall k) = 0xD000 + unsigned 2048 k
word_of (Branch f set k) = 0xF000 + cond set 0 1024 + 8 * unsigned 64 k + flag_code f
word_of Ret = 0x9508
word_of Clc = 0x9488
word_of Nop = 0x0000

-- the word of an instruction, if it has one
abbrev pub encode_of : Instruction → Option ℕ
encode_of i = cond (encodable i) (Some (word_of i)) None
