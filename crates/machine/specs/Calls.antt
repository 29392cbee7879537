-- The calls on a board, and what each does in each phase. Assumes nothing.
use Rattle.std.specs.Prelude.{ℕ, cond, List, [], ◌∷◌}
use Rattle.verdicts.specs.Verdict.{Refusal, refusal}
use Rattle.machine.specs.declared.phase.Phase.{Phase}
use Rattle.machine.specs.declared.phase.Phase.TheVariants as phase
use Rattle.machine.specs.declared.phase.Ending.{Ending}
use Rattle.machine.specs.declared.phase.Ending.TheVariants as ending
use Rattle.machine.specs.Machine.{Machine}
use Rattle.machine.specs.Run.{State, state, Finish, run_of}

-- a board: where it stands, and its phase
pub record Board (B : Type 0) : Type 0 where
  pub state : State B
  pub phase : Phase

-- the board of a state and a phase
abbrev pub board : {B : Type 0} → State B → Phase → Board B
board s p = record { state = s; phase = p }

-- a call: clear, run up to a limit, read a place, or put a byte at one
pub data Call (W : Type 0) : Type 0 where
  clear : Call W
  run : ℕ → Call W
  read : W → Call W
  put : W → ℕ → Call W

-- what a call answers: that it was done, a refusal, how a run ended, or a byte
pub data Answer : Type 0 where
  done : Answer
  refused : Refusal → Answer
  ends : Ending → Answer
  byte : ℕ → Answer

-- refusal 12: a put unless loading, a read unless ended
abbrev pub wrong_phase : Refusal
wrong_phase = refusal 12 []

-- refusal 13: there is no such register
abbrev pub no_place : Refusal
no_place = refusal 13 []

-- a board after a call, and the call's answer
pub record Done (B : Type 0) : Type 0 where
  pub board : Board B
  pub answer : Answer

-- what a call left, and what it answered
abbrev pub did : {B : Type 0} → State B → Phase → Answer → Done B
did s p r = record { board = board s p; answer = r }

-- the phase that an ending leaves a board in
abbrev pub phase_of : Ending → Phase
phase_of (ending.Spent n) = phase.Running
phase_of (ending.Ended n) = phase.Ended
phase_of (ending.Stopped w n) = phase.Stopped w

-- a run that is over, as a call
abbrev pub finished : {B : Type 0} → Finish B → Done B
finished f = did f.state (phase_of f.ending) (ends f.ending)

module _ {B V W : Type 0} (M : Machine B V W) where
  -- everything 0, no returns, loading
  abbrev pub fresh_state : State B
  fresh_state = state 0 [] 0 M.blank

  abbrev pub fresh : Board B
  fresh = board fresh_state phase.Loading

  abbrev pub put_in : W → ℕ → State B → State B
  put_in w n s = state s.at s.returns s.count (M.put w n s.body)

  -- what a call does, by the call and the phase together
  abbrev pub does_at : Call W → Phase → State B → Done B
  does_at clear p s = did fresh_state phase.Loading done
  does_at (run limit) phase.Loading s = finished (run_of M limit s)
  does_at (run limit) phase.Running s = finished (run_of M limit s)
  does_at (run limit) phase.Ended s = did s phase.Ended (ends (ending.Ended s.count))
  does_at (run limit) (phase.Stopped w) s = did s (phase.Stopped w) (ends (ending.Stopped w s.count))
  does_at (read w) phase.Loading s = did s phase.Loading (refused wrong_phase)
  does_at (read w) phase.Running s = did s phase.Running (refused wrong_phase)
  does_at (read w) phase.Ended s = did s phase.Ended (cond (M.valid w) (byte (M.get w s.body)) (refused no_place))
  does_at (read w) (phase.Stopped v) s = did s (phase.Stopped v) (refused wrong_phase)
  does_at (put w n) phase.Loading s = cond (M.valid w) (did (put_in w n s) phase.Loading done) (did s phase.Loading (refused no_place))
  does_at (put w n) phase.Running s = did s phase.Running (refused wrong_phase)
  does_at (put w n) phase.Ended s = did s phase.Ended (refused wrong_phase)
  does_at (put w n) (phase.Stopped v) s = did s (phase.Stopped v) (refused wrong_phase)

  abbrev pub does : Call W → Board B → Done B
  does c b = does_at c b.phase b.state

-- Calls on a board, one after another.
module _ {B V W : Type 0} (M : Machine B V W) where
  -- where they leave it
  abbrev pub board_after : List (Call W) → Board B → Board B
  board_after [] b = b
  board_after (k ∷ ks) b = board_after ks (does M k b).board

  -- what it answers to each of them
  abbrev pub answers_to : List (Call W) → Board B → List Answer
  answers_to [] b = []
  answers_to (k ∷ ks) b = (does M k b).answer ∷ answers_to ks (does M k b).board
