-- What a call on both boards does. Assumes nothing.
use Rattle.machine.specs.Calls as calls
use Rattle.avr.specs.declared.location.Location.{Location}
use Rattle.avr.specs.Core.{Core}
use Rattle.secrecy.specs.Couples.{Both, clears, runs, reads, puts, left, right}
use Rattle.verdicts.specs.Verdict.{Refusal}
use Rattle.board.specs.declared.simulation.Board.{Board}
use Rattle.board.specs.Faults.{making_refusal}
use Rattle.board.specs.States.{board_of, Works}
use Rattle.couples.specs.declared.answers.Answers.{Answers}
use Rattle.machine.specs.declared.call.Call.{Call}
use Rattle.machine.specs.declared.call.Call.TheVariants.{Clear, Put, Run, Read}
use Rattle.couples.specs.declared.fault.Unmade.{Unmade}
use Rattle.couples.specs.declared.working.Couple.{Couple}
use Rattle.couples.specs.Answers.{answer_of}

-- the call on both boards of which the secrecy theorem speaks
abbrev pub both_of : Call Location → Both Location
both_of Clear = clears
both_of (Put w x y) = puts w x y
both_of (Run limit) = runs limit
both_of (Read w) = reads w

-- each of two boards does its side of a call and answers by it
pub record Answered (call : Call Location) (b c b' c' : Board) (answers : Answers) : Type 0 where
  pub left_side : Works (left (both_of call)) b b' (answer_of answers.left)
  pub right_side : Works (right (both_of call)) c c' (answer_of answers.right)

-- what the two boards of a couple stand for, the left one first
abbrev pub sides : Couple → calls.Board Core × calls.Board Core
sides c = (board_of c.left, board_of c.right)

-- the refusal that a making that hands its bytes back stands for
abbrev pub unmade_refusal : Unmade → Refusal
unmade_refusal u = making_refusal u.fault
