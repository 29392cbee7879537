-- What the code's answers stand for. Assumes nothing.
use Rattle.machine.specs.Calls as calls
use Rattle.board.specs.Faults.{call_refusal}
use Rattle.couples.specs.declared.answers.Answer.{Answer}
use Rattle.couples.specs.declared.answers.Answer.TheVariants.{Done, Byte, Ends, Refuses}

-- the answer of a call on a machine
abbrev pub answer_of : Answer → calls.Answer
answer_of Done = calls.done
answer_of (Byte n) = calls.byte n
answer_of (Ends e) = calls.ends e
answer_of (Refuses f) = calls.refused (call_refusal f)
