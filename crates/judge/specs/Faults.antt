-- The refusal that each fault stands for: its number, and what it carries. Assumes nothing.
use Rattle.std.specs.Prelude.{[], ◌∷◌}
use Rattle.verdicts.specs.Verdict.{Refusal, refusal}
use Rattle.words.specs.Legal.{word_refusal}
use Rattle.judge.specs.declared.faults.RowFault.{RowFault}
use Rattle.judge.specs.declared.faults.RowFault.TheVariants.{Count, NotHeld, Shape}
use Rattle.judge.specs.declared.faults.FlowFault.{FlowFault}
use Rattle.judge.specs.declared.faults.FlowFault.TheVariants.{Inside, Bounds, Deciding, Time, Level}
use Rattle.judge.specs.declared.faults.JudgeFault.{JudgeFault}
use Rattle.judge.specs.declared.faults.JudgeFault.TheVariants.{Words, Rows, Flow}

-- of rows: how many numbers there are, a code that is not held, the shape of a row
abbrev pub row_refusal : RowFault → Refusal
row_refusal Count = refusal 3 []
row_refusal (NotHeld row column) = refusal 4 (row ∷ (column ∷ []))
row_refusal (Shape row) = refusal 5 (row ∷ [])

-- of addresses (6 to 8), and of edges (9 and 10)
abbrev pub flow_refusal : FlowFault → Refusal
flow_refusal (Inside at) = refusal 7 (at ∷ [])
flow_refusal (Bounds at) = refusal 6 (at ∷ [])
flow_refusal (Deciding at) = refusal 8 (at ∷ [])
flow_refusal (Time at next) = refusal 9 (at ∷ (next ∷ []))
flow_refusal (Level at next place) = refusal 10 (at ∷ (next ∷ (place ∷ [])))

-- the judge's faults hold those of each layer whole
abbrev pub judge_refusal : JudgeFault → Refusal
judge_refusal (Words f) = word_refusal f
judge_refusal (Rows f) = row_refusal f
judge_refusal (Flow f) = flow_refusal f
