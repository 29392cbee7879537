-- What is worked out of a routine once, before its edges are looked at. Assumes nothing.
use Rattle.std.specs.Prelude.{◌≡◌, ℕ, ◌<◌, List, length, Some, None, Option, slice_index_or}
use Rattle.words.specs.declared.instruction.Instruction.{Instruction}
use Rattle.words.specs.declared.instruction.Instruction.TheVariants.{Nop}
use Rattle.levels.specs.Order.{Meaning}
use Rattle.avr.specs.Chip.{instruction_of}
use Rattle.machine.specs.Machine.{Kind, plain, forks, calls, rets}
use Rattle.secrecy.specs.Flow as flow
use Rattle.row_layout.specs.declared.routine.RoutineView.{RoutineView}
use Rattle.row_layout.specs.Views.{rows_in, chip}

-- a list has the instruction at every address: as long as the longest routine, with nops past the last word
pub record Decoded (routine : RoutineView) (instructions : List Instruction) : Type 0 where
  pub long : length instructions ≡ 1024
  pub each : (b : ℕ) → b < 1024 → slice_index_or instructions b Nop ≡ instruction_of routine.words.now b

-- the function that a word calls, if it calls one
abbrev pub callee_of : Kind → Option ℕ
callee_of (plain b c) = None
callee_of (forks qs b c b' c') = None
callee_of (calls t c) = Some t
callee_of (rets c) = None

-- a list has the callee of every word: as long as the longest routine, and nobody is called past the last word
pub record Callees (routine : RoutineView) (callees : List (Option ℕ)) : Type 0 where
  pub long : length callees ≡ 1024
  pub each : (b : ℕ) → b < 1024 → slice_index_or callees b None ≡ callee_of ((chip routine).kind b)

-- the instruction at an address, and what the word there leaves behind: its pc_level
pub record Departs (m : Meaning) (routine : RoutineView) (at : ℕ) (instruction : Instruction) (known : ℕ) : Type 0 where
  pub is : instruction ≡ instruction_of routine.words.now at
  pub pc_level : known ≡ flow.pc_level m (chip routine) (rows_in routine.rows) at
