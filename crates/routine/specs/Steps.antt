-- What is to be done with a routine. Assumes nothing.
use Rattle.std.specs.Prelude.{ℕ, Bool, true, false, [], ◌∷◌, Some, None, Ok, Option}
use Rattle.routine.specs.declared.keywords.Keyword.{Keyword}
use Rattle.routine.specs.declared.keywords.Keyword.TheVariants as keyword
use Rattle.routine.specs.declared.steps.Step.{Step}
use Rattle.routine.specs.declared.steps.Step.TheVariants as step
use Rattle.machine.specs.declared.call.Call.{Call}
use Rattle.machine.specs.declared.call.Call.TheVariants.{Put, Run, Read}
use Rattle.avr.specs.declared.location.Location.{Location}
use Rattle.routine.specs.Operands as operands
use Rattle.routine.specs.Operands.{Tokens, and_next, number_in, place_in}

-- the keyword of a step that needs an order: to judge, to fill in, to pool and to join do, and to tell the largest remaining number and a
-- call on the boards do not
abbrev pub keyword_needing_order : Step → Option Keyword
keyword_needing_order step.Judge = Some keyword.Judge
keyword_needing_order step.Fill = Some keyword.Fill
keyword_needing_order step.Pool = Some keyword.Pool
keyword_needing_order step.Remaining = None
keyword_needing_order (step.Join first second) = Some keyword.Join
keyword_needing_order (step.Call call) = None

-- to pool needs a second set of rows
abbrev pub needs_second : Step → Bool
needs_second step.Pool = true
needs_second other = false

-- a file fills in or pools, and not both
abbrev pub excludes : Step → Step → Bool
excludes step.Fill step.Pool = true
excludes step.Pool step.Fill = true
excludes one other = false

-- a second byte, if one is written, and else the first one again
abbrev pub second_byte : ℕ → Tokens → operands.Read ℕ
second_byte first [] = Ok (first, [])
second_byte first (token ∷ tokens) = number_in 0xFF (token ∷ tokens)

-- two codes of levels, of 16 bits each
abbrev pub join_in : Tokens → operands.Read Step
join_in tokens = and_next (number_in 0xFFFF tokens) (λ first rest. and_next (number_in 0xFFFF rest) (λ second last. Ok (step.Join first second, last)))

-- a call on the boards
abbrev pub call_by : operands.Read (Call Location) → operands.Read Step
call_by reading = and_next reading (λ call rest. Ok (step.Call call, rest))

-- a place, and a byte for both boards or one for each
abbrev pub put_in : Tokens → operands.Read (Call Location)
put_in tokens =
    and_next (place_in tokens) (λ place rest.
    and_next (number_in 0xFF rest) (λ left more. and_next (second_byte left more) (λ right last. Ok (Put place left right, last))))

-- a limit has 32 bits
abbrev pub run_in : Tokens → operands.Read (Call Location)
run_in tokens = and_next (number_in 0xFFFFFFFF tokens) (λ limit rest. Ok (Run limit, rest))

-- a place to be read
abbrev pub read_in : Tokens → operands.Read (Call Location)
read_in tokens = and_next (place_in tokens) (λ place rest. Ok (Read place, rest))
