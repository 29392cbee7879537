-- Registers, flags and memory. Assumes nothing.
use Rattle.std.specs.Prelude.{ℕ, ◌+◌, ◌*◌, ◌/◌, ◌%◌, Bool, List, slice_index, slice_set}

-- what the words work on: 32 registers, the flags C (carry) and Z (zero), and 65,536 bytes of memory; no address of memory
-- names a register
pub record Core : Type 0 where
  pub registers : List ℕ
  pub carry : Bool
  pub zero : Bool
  pub memory : List ℕ

-- a core of its four parts
abbrev pub core : List ℕ → Bool → Bool → List ℕ → Core
core rs c z bytes = record { registers = rs; carry = c; zero = z; memory = bytes }

-- what a register holds
abbrev pub reg : List ℕ → ℕ → ℕ
reg rs d = slice_index rs d

-- what a pair of registers holds as one number: the lower register is its low byte
abbrev pub pair_of : List ℕ → ℕ → ℕ
pair_of rs d = reg rs d + 256 * reg rs (d + 1)

-- the registers, with a 16-bit number written to the pair at d
abbrev pub with_pair : List ℕ → ℕ → ℕ → List ℕ
with_pair rs d v = slice_set (slice_set rs d (v % 256)) (d + 1) (v / 256)
