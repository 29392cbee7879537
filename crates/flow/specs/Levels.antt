-- What an instruction does to levels. Assumes nothing.
use Rattle.std.specs.Prelude.{ℕ, cond, [], is_some}
use Rattle.std.specs.Option.{unwrap_or}
use Rattle.words.specs.declared.instruction.Instruction.{Instruction}
use Rattle.levels.specs.Order.{Meaning}
use Rattle.avr.specs.Table.{origins_of}
use Rattle.secrecy.specs.Rows.{Rows}
use Rattle.secrecy.specs.Flow.{joined}

-- The level of a place after an instruction that stands at an address, by the table of sources. With the instruction of the words it
-- is the level after the word there.
abbrev pub level_by : Meaning → Rows → ℕ → Instruction → ℕ → ℕ
level_by m R a i p = cond (is_some (origins_of i p)) (joined m (R.region a) (R.level a) (unwrap_or (origins_of i p) [])) (R.level a p)
