-- What comes of steps that make rows: that fill levels in, or pool two sets. Assumes nothing.
use Rattle.std.specs.Prelude.{◌≡◌, ℕ, zero, suc, ◌+◌, ◌*◌, Bool, true, false, cond, List, [], ◌∷◌, take, drop, length, replicate, vec_items, is_some, None, Some, Option, Ok, Err}
use Rattle.verdicts.specs.Verdict.{fine, refused}
use Rattle.levels.specs.Order.{Meaning}
use Rattle.avr.specs.Chip.{avr}
use Rattle.secrecy.specs.Rows.{columns}
use Rattle.secrecy.specs.Filling.{FillsIn, LeastIn}
use Rattle.filling.specs.Answers.{zeros_of, Answered}
use Rattle.filling.specs.Seeds.{given_verdict}
use Rattle.judge.specs.Faults.{judge_refusal}
use Rattle.judge.specs.Judgement.{judgement_of}
use Rattle.pooled.specs.Pools.{pool_of}
use Rattle.pooling.specs.Faults.{pool_refusal}
use Rattle.pooling.specs.Pooled.{pool_verdict}
use Rattle.routine.specs.declared.steps.Step.{Step}
use Rattle.routine.specs.declared.steps.Step.TheVariants as step
use Rattle.routine.specs.Routines.{Draft}
use Rattle.routine.specs.Sets.{SetDraft}
use Rattle.program.specs.declared.makings.RowStep.{RowStep}
use Rattle.program.specs.declared.makings.RowStep.TheVariants.{Fill, Pool}
use Rattle.program.specs.declared.makings.Making.{Making}
use Rattle.program.specs.declared.makings.Making.TheVariants.{Unasked, Orderless, Unfilled, Unpooled, Rows}

-- how a step makes rows, if it does
abbrev pub row_step_of : Step → Option RowStep
row_step_of step.Judge = None
row_step_of step.Fill = Some Fill
row_step_of step.Pool = Some Pool
row_step_of step.Remaining = None
row_step_of (step.Join first second) = None
row_step_of (step.Call call) = None

-- how many steps come before the first that makes rows
abbrev pub first_making : List Step → ℕ
first_making [] = zero
first_making (s ∷ steps) = cond (is_some (row_step_of s)) zero (suc (first_making steps))

-- those steps
abbrev pub before_making : List Step → List Step
before_making steps = take (first_making steps) steps

-- and those from the first that makes rows on
abbrev pub from_making : List Step → List Step
from_making steps = drop (first_making steps) steps

-- how the first step of some makes rows that makes any
abbrev pub first_row_step : List Step → Option RowStep
first_row_step [] = None
first_row_step (s ∷ steps) = cond (is_some (row_step_of s)) (row_step_of s) (first_row_step steps)

-- the numbers of the second set of rows; where there is none, there are none
abbrev pub numbers_of : Option SetDraft → List ℕ
numbers_of None = []
numbers_of (Some s) = s.numbers

-- zeros for all rows of some words
abbrev pub room_for : List ℕ → List ℕ
room_for ws = replicate ((length ws + 1) * columns) 0

-- what is given is right, and there are accepted rows that fill it in
abbrev pub Fillable : Meaning → List ℕ → List ℕ → Type 0
Fillable m ws given = (given_verdict m ws given (zeros_of given) ≡ fine) × ((rows : List ℕ) × FillsIn m (avr ws) given rows)

-- two sets of rows can be pooled, and their pool is accepted
abbrev pub Poolable : Meaning → List ℕ → List ℕ → List ℕ → Type 0
Poolable m ws xs ys = (pool_verdict m ws xs ys (room_for ws) ≡ fine) × (judgement_of m ws (pool_of m xs ys) ≡ fine)

-- there are rows to be made of what a routine gives, and they are accepted
abbrev pub MadeBy : Meaning → Draft → Option RowStep → Type 0
MadeBy m d None = ⊥
MadeBy m d (Some Fill) = Fillable m d.words d.rows.numbers
MadeBy m d (Some Pool) = Poolable m d.words d.rows.numbers (numbers_of d.second)

-- and so under an order, if there is one, by the first of its steps that makes rows
abbrev pub MadeUnder : Option Meaning → Draft → Type 0
MadeUnder None d = ⊥
MadeUnder (Some m) d = MadeBy m d (first_row_step d.steps)

-- what filling in comes to
abbrev pub FillsTo : Meaning → List ℕ → List ℕ → Making → Type 0
FillsTo m ws given Unasked = ⊥
FillsTo m ws given Orderless = ⊥
FillsTo m ws given (Unfilled f) = (new : List ℕ) × Answered m ws given (zeros_of given) new (Err f)
FillsTo m ws given (Unpooled f) = ⊥
FillsTo m ws given (Rows rows (Ok done)) = (given_verdict m ws given (zeros_of given) ≡ fine) × LeastIn m (avr ws) given (vec_items rows)
FillsTo m ws given (Rows rows (Err f)) = ⊥

-- what pooling comes to
abbrev pub PoolsTo : Meaning → List ℕ → List ℕ → List ℕ → Making → Type 0
PoolsTo m ws xs ys Unasked = ⊥
PoolsTo m ws xs ys Orderless = ⊥
PoolsTo m ws xs ys (Unfilled f) = ⊥
PoolsTo m ws xs ys (Unpooled f) = pool_verdict m ws xs ys (room_for ws) ≡ refused (pool_refusal f)
PoolsTo m ws xs ys (Rows rows (Ok done)) = Poolable m ws xs ys × (vec_items rows ≡ pool_of m xs ys)
PoolsTo m ws xs ys (Rows rows (Err f)) = (judgement_of m ws (pool_of m xs ys) ≡ refused (judge_refusal f)) × (vec_items rows ≡ pool_of m xs ys)

-- there are rows that were made, and they are accepted
abbrev pub is_made : Making → Bool
is_made Unasked = false
is_made Orderless = false
is_made (Unfilled f) = false
is_made (Unpooled f) = false
is_made (Rows rows (Ok done)) = true
is_made (Rows rows (Err f)) = false

-- the rows that are current behind a step that makes rows: those that it made, and else those that were current before
abbrev pub current : Making → List ℕ → List ℕ
current Unasked rows = rows
current Orderless rows = rows
current (Unfilled f) rows = rows
current (Unpooled f) rows = rows
current (Rows made verdict) rows = vec_items made

-- what came of it goes with the routine: by its first step that makes rows
abbrev pub ComesTo : Meaning → Draft → Option RowStep → Making → Type 0
ComesTo m d None making = making ≡ Unasked
ComesTo m d (Some Fill) making = FillsTo m d.words d.rows.numbers making
ComesTo m d (Some Pool) making = PoolsTo m d.words d.rows.numbers (numbers_of d.second) making

-- and so under an order; where there is none, nothing is made
abbrev pub MakingOf : Option Meaning → Draft → Making → Type 0
MakingOf None d making = cond (is_some (first_row_step d.steps)) Orderless Unasked ≡ making
MakingOf (Some m) d making = ComesTo m d (first_row_step d.steps) making
