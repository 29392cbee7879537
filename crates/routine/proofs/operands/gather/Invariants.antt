use Rattle.std.proofs.Common.{◌≡◌, vec_items}
use Rattle.std.specs.Fn.{FnReturnsAt}
use Rattle.text.specs.Tokens.{tokens_left}
use Rattle.routine.specs.Faults.{quoting}
use Rattle.routine.specs.Gathered.{gathered}
use Rattle.routine.specs.Answers.{Says}
use Rattle.routine.proofs.Gathering.{appended}
use Rattle.routine.proofs.operands.gather.Given as goal

abbrev pub invariant-loop-token : goal.invariant-loop-token
invariant-loop-token g l =
    (goal.iterator-loop-token g).can_next l.token-iterator
    × (goal.iterator-loop-token g).is_finite l.token-iterator
    × ((says : _) → Says (FnReturnsAt g.F.Fn l.read) says → appended (vec_items l.values) (gathered (quoting says) (tokens_left l.token-iterator)) ≡ gathered (quoting says) (tokens_left l.fn.line))
