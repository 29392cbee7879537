-- The refusals of a board. Assumes nothing.
use Rattle.std.specs.Prelude.{ℕ, List, [], length, Ok, Err, Result, ◌==◌}
use Rattle.verdicts.specs.Verdict.{Verdict, Refusal, refusal, rule, and_then}
use Rattle.words.specs.Legal.{legal_of, word_refusal}
use Rattle.machine.specs.Calls.{Answer, done, refused, byte, wrong_phase, no_place}
use Rattle.avr.specs.Chip.{memory_size}
use Rattle.board.specs.declared.fault.MakingFault.{MakingFault}
use Rattle.board.specs.declared.fault.MakingFault.TheVariants.{Words, Memory}
use Rattle.board.specs.declared.fault.Unmade.{Unmade}
use Rattle.board.specs.declared.fault.CallFault.{CallFault}
use Rattle.board.specs.declared.fault.CallFault.TheVariants as call

-- refusal 11: a memory that has not 65,536 bytes
abbrev pub memory_of : List ℕ → Verdict
memory_of bytes = rule (length bytes == memory_size) 11 []

-- making: refusals 1 and 2 of the words, then refusal 11
abbrev pub making_of : List ℕ → List ℕ → Verdict
making_of ws bytes = and_then (legal_of ws) (memory_of bytes)

-- the refusal that a fault of making stands for; a fault of the words is theirs
abbrev pub making_refusal : MakingFault → Refusal
making_refusal (Words f) = word_refusal f
making_refusal Memory = refusal 11 []

-- the refusal that a making that hands its bytes back stands for
abbrev pub unmade_refusal : Unmade → Refusal
unmade_refusal u = making_refusal u.fault

-- the refusal that a fault of a call stands for
abbrev pub call_refusal : CallFault → Refusal
call_refusal call.Phase = wrong_phase
call_refusal call.Register = no_place

-- what a put answers: that it is done, or a refusal
abbrev pub put_answer : Result (Unit {0}) CallFault → Answer
put_answer (Ok x) = done
put_answer (Err f) = refused (call_refusal f)

-- what a read answers: the byte, or a refusal
abbrev pub read_answer : Result ℕ CallFault → Answer
read_answer (Ok n) = byte n
read_answer (Err f) = refused (call_refusal f)
