-- The level that a next row would need. Assumes nothing.
use Rattle.std.specs.Prelude.{ℕ, cond, Some, None, Option, ◌==◌}
use Rattle.levels.specs.Order.{Meaning}
use Rattle.avr.specs.Chip.{instruction_of}
use Rattle.secrecy.specs.Rows.{cell, region_column}
use Rattle.secrecy.specs.Flow.{pc_level}
use Rattle.flow.specs.Levels.{level_by}
use Rattle.judge.specs.declared.faults.FlowFault.{FlowFault}
use Rattle.judge.specs.declared.faults.FlowFault.TheVariants.{Inside, Bounds, Deciding, Time, Level}
use Rattle.judge.specs.declared.faults.JudgeFault.{JudgeFault}
use Rattle.judge.specs.declared.faults.JudgeFault.TheVariants.{Words, Rows as OfRows, Flow}
use Rattle.row_layout.specs.declared.routine.RoutineView.{RoutineView}
use Rattle.row_layout.specs.Views.{rows_in, chip}
use Rattle.explanations.specs.declared.needs.Need.{Need}

-- the level that the word at an address leaves behind in a column of the next row: in that of the region the level of knowing which way
-- is taken from there, and else the level of the place after the word
abbrev pub left_behind : Meaning → RoutineView → ℕ → ℕ → ℕ
left_behind m r at p = cond (p == region_column) (pc_level m (chip r) (rows_in r.rows) at) (level_by m (rows_in r.rows) at (instruction_of r.words.now at) p)

-- the least level at or above both what the word leaves behind and what the next row says
abbrev pub need_at : Meaning → RoutineView → ℕ → ℕ → ℕ → Need
need_at m r at next p = record { row = next; column = p; level = m.join (left_behind m r at p) (cell r.rows.words r.rows.rows.now next p) }

-- of a fault of the flow
abbrev pub need_in : Meaning → RoutineView → FlowFault → Option Need
need_in m r (Level at next p) = Some (need_at m r at next p)
need_in m r (Inside at) = None
need_in m r (Bounds at) = None
need_in m r (Deciding at) = None
need_in m r (Time at next) = None

-- only refusals of a level have one
abbrev pub need_for : Meaning → RoutineView → JudgeFault → Option Need
need_for m r (Words f) = None
need_for m r (OfRows f) = None
need_for m r (Flow f) = need_in m r f
