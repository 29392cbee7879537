use Rattle.std.proofs.Common.{◌≡◌, vec_items}
use Rattle.text.specs.Tokens.{tokens_left}
use Rattle.routine.specs.Orders.{bytes_in}
use Rattle.routine.proofs.Bytes.{read_on}
use Rattle.routine.proofs.forms.read_bytes.Given as goal

abbrev pub invariant-loop-token : goal.invariant-loop-token
invariant-loop-token l =
    (goal.iterator-loop-token).can_next l.ahead
    × (goal.iterator-loop-token).is_finite l.ahead
    × (read_on (vec_items l.bytes) (tokens_left l.ahead) ≡ bytes_in (tokens_left l.initial.line))
    × (tokens_left l.line ≡ tokens_left l.ahead)
