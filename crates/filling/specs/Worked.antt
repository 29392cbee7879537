-- What is worked out of the words once. Assumes nothing.
use Rattle.std.specs.Prelude.{◌≡◌, ℕ, ◌<◌, List, None, Option, length, slice_index_or}
use Rattle.words.specs.declared.instruction.Instruction.{Instruction}
use Rattle.words.specs.declared.instruction.Instruction.TheVariants.{Nop}
use Rattle.avr.specs.Chip.{instruction_of, kind_of}
use Rattle.judge.specs.Worked.{callee_of}

-- a list has the instruction at every address: as long as the longest routine, with nops past the last word
pub record Decoded (ws : List ℕ) (instructions : List Instruction) : Type 0 where
  pub long : length instructions ≡ 1024
  pub each : (b : ℕ) → b < 1024 → slice_index_or instructions b Nop ≡ instruction_of ws b

-- and another the function that each of them calls
pub record Callees (instructions : List Instruction) (callees : List (Option ℕ)) : Type 0 where
  pub long : length callees ≡ 1024
  pub each : (b : ℕ) → b < 1024 → slice_index_or callees b None ≡ callee_of (kind_of b (slice_index_or instructions b Nop))
