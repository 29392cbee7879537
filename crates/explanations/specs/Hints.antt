-- What a row should say so that a way from inside a region is in time. Assumes nothing.
use Rattle.std.specs.Prelude.{◌≡◌, ℕ, ◌+◌, ◌-◌, cond, ◌&&◌, Some, None, Option, ◌==◌, nat_lt}
use Rattle.verdicts.specs.Verdict.{fine}
use Rattle.avr.specs.Chip.{instruction_of}
use Rattle.secrecy.specs.Rows.{Rows}
use Rattle.secrecy.specs.Rules.{outside, time_rule}
use Rattle.judge.specs.declared.faults.FlowFault.TheVariants.{Inside, Bounds, Deciding, Time, Level}
use Rattle.judge.specs.declared.faults.FlowFault.{FlowFault}
use Rattle.judge.specs.declared.faults.JudgeFault.{JudgeFault}
use Rattle.judge.specs.declared.faults.JudgeFault.TheVariants.{Words, Rows as OfRows, Flow}
use Rattle.row_layout.specs.declared.routine.RoutineView.{RoutineView}
use Rattle.row_layout.specs.Views.{rows_in}
use Rattle.explanations.specs.declared.hints.Hint.{Hint}
use Rattle.explanations.specs.Views.{cycles_to}

-- row a ends the region at b
abbrev pub ends_at : ℕ → ℕ → ℕ → Hint
ends_at a b c = record { row = a; join = b; remaining = c }

-- row b goes on in the region of row a
abbrev pub goes_on : Rows → ℕ → ℕ → ℕ → Hint
goes_on R a b c = record { row = b; join = R.join_address a; remaining = R.remaining a - c }

-- row a goes on into the region of row b
abbrev pub comes_before : Rows → ℕ → ℕ → ℕ → Hint
comes_before R a b c = record { row = a; join = R.join_address b; remaining = c + R.remaining b }

-- row a has as little left as the way takes: either it ends the region, or it is row a that says too little
abbrev pub hint_short : Rows → ℕ → ℕ → ℕ → Hint
hint_short R a b c = cond (outside R b) (ends_at a b c) (comes_before R a b c)

-- What one row should say, so that a way of c cycles from a to another word b is in time. Where b is outside and is the join address,
-- row a says how long the way is. Else row b goes on with what row a leaves it, as long as something is left.
abbrev pub hint_of : Rows → ℕ → ℕ → ℕ → Hint
hint_of R a b c = cond (b == R.join_address a && outside R b) (ends_at a b c) (cond (nat_lt c (R.remaining a)) (goes_on R a b c) (hint_short R a b c))

-- rows of which one says what it should
abbrev pub changed : Rows → Hint → Rows
changed R h =
    record R {
      join_address = λ row. cond (row == h.row) h.join (R.join_address row);
      remaining = λ row. cond (row == h.row) h.remaining (R.remaining row);
    }

-- the cycles of the way that a refusal of its time means
abbrev pub way : RoutineView → ℕ → ℕ → ℕ
way r at next = cycles_to (rows_in r.rows) at next (instruction_of r.words.now at)

-- no row helps a word that leads to itself
abbrev pub hint_between : RoutineView → ℕ → ℕ → Option Hint
hint_between r at next = cond (at == next) None (Some (hint_of (rows_in r.rows) at next (way r at next)))

-- the hint of a fault of the flow
abbrev pub hint_in : RoutineView → FlowFault → Option Hint
hint_in r (Time at next) = hint_between r at next
hint_in r (Inside at) = None
hint_in r (Bounds at) = None
hint_in r (Deciding at) = None
hint_in r (Level at next place) = None

-- only refusals of a time have a hint
abbrev pub hint_for : RoutineView → JudgeFault → Option Hint
hint_for r (Words f) = None
hint_for r (OfRows f) = None
hint_for r (Flow f) = hint_in r f

-- with the row changed, the way that was refused is in time
abbrev pub mended : RoutineView → ℕ → ℕ → Hint → Type 0
mended r at next h = time_rule (changed (rows_in r.rows) h) at next (way r at next) ≡ fine

-- a hint for a way mends it
abbrev pub MendsWay : RoutineView → ℕ → ℕ → Option Hint → Type 0
MendsWay r at next None = Unit {0}
MendsWay r at next (Some h) = mended r at next h

-- of a fault of the flow
abbrev pub MendsFlow : RoutineView → FlowFault → Option Hint → Type 0
MendsFlow r (Time at next) hint = MendsWay r at next hint
MendsFlow r (Inside at) hint = Unit {0}
MendsFlow r (Bounds at) hint = Unit {0}
MendsFlow r (Deciding at) hint = Unit {0}
MendsFlow r (Level at next place) hint = Unit {0}

-- of any fault
abbrev pub Mends : RoutineView → JudgeFault → Option Hint → Type 0
Mends r (Words f) hint = Unit {0}
Mends r (OfRows f) hint = Unit {0}
Mends r (Flow f) hint = MendsFlow r f hint
