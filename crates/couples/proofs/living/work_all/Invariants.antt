use Rattle.std.proofs.Common.{◌≡◌, take, drop, length, map}
use Rattle.secrecy.specs.Couples.{left, right}
use Rattle.board.specs.States.{board_of, words_of, Lent}
use Rattle.couples.specs.Lives.{both_calls, left_answers, right_answers}
use Rattle.couples.proofs.Lives.{Side}
use Rattle.couples.proofs.living.work_all.Given as goal

abbrev pub invariant-loop-at : goal.invariant-loop-at
invariant-loop-at l = record {
  left_side : Side (words_of l.initial.couple.left) (map left (both_calls l.calls)) (map left (both_calls (drop l.at l.calls))) (board_of l.initial.couple.left) (board_of l.couple.left) (left_answers (take l.at l.answers));
  right_side : Side (words_of l.initial.couple.right) (map right (both_calls l.calls)) (map right (both_calls (drop l.at l.calls))) (board_of l.initial.couple.right) (board_of l.couple.right) (right_answers (take l.at l.answers));
  lent : Lent l.initial.couple.left l.couple.left × Lent l.initial.couple.right l.couple.right;
  beyond : drop (length l.calls) l.answers ≡ drop (length l.calls) l.initial.answers;
}
